-- No fault of format exactly when the program is whole blocks and every block and every record is as document 01 says.
-- Assumes nothing.
use mathlib.Core.Path.{◌≡◌, refl, sym, ap, ap₂, ◌∙◌}
use mathlib.Core.List.{[], ◌∷◌}
use mathlib.Core.Logic.{◌⊎◌, inl, inr}
use mathlib.Core.Bool.{Bool, true, false, not}
use Prim.Native.Nat.{ℕ, zero, suc, ◌+◌, ◌*◌, ◌/◌, ◌%◌}
use native.Mathlib.Omega.{arith}
use lib.Dec.{eqb, leb}
use lib.ListN.{length, get_or, take, drop}
use lib.Seq.{get_or-drop}
use borrow.Author.Tests.{leb-true, le-leb, ltb-false, le-ltb, eqb-true, eqb-false, eq-eqb, ne_eqb}
use Rattle.rules.specs.Bytes.{Bytes, byte_at, first, ◌and◌, ◌or◌}
use Rattle.rules.specs.Values.{unit_t, bool_t, maybe_of, is_plain, is_maybe, is_type, value_fits}
use Rattle.rules.specs.Layout.{blocks, block_at}
use Rattle.rules.specs.Format.{weighed, check_of, length_wrong, sum_wrong, number_wrong, field_wrong, type_field_wrong, node_wrong}
use Rattle.rules.specs.Kinds.{is_signal, is_expression, is_branch, is_case, is_kind}
use Rattle.rules.specs.declared.Field.{Field}
use Rattle.rules.specs.declared.Field.TheVariants.{Unused, Channel, PresentByte, Signal, Expression, FirstBranch, NextBranch, FirstCase, NextCase, Binder, Target}
use Rattle.rules.specs.declared.TypeField.{TypeField}
use Rattle.rules.specs.declared.TypeField.TheVariants.{NoType, AnyType, PlainType, ValueType}
use Rattle.rules.proofs.Static.{and_both, not_both, or_left, or_right}
use Rattle.rules.proofs.Kids.{or_none, not_not}
use Rattle.rules.proofs.ByKind.{choose}
use Rattle.declarative.specs.Formats.{sum_from, WholeBlocks, SumRight, NumberRight, IsMaybe, IsType, ValueRight, TypeRight, FieldRight, IsKind, NodeRight}
use Rattle.declarative.proofs.Free.{Finds, finds_first}
use Rattle.declarative.proofs.Joining.{by_either, and_true, or_false}
use Rattle.declarative.proofs.EachShape.{deny, between, is_between}

-- Code 1.
pub whole_blocks : (p : Bytes) → length_wrong p ≡ false → WholeBlocks p
unfolding length_wrong
whole_blocks p e =
    let o = or_none _ _ e in
    let o' = or_none _ _ o.0 in
    let some = eqb-false (length p) 0 o'.0 in
    let most = ltb-false 12288 (length p) o'.1 in
    let whole = eqb-true (length p % 512) 0 (not_not _ o.1) in
    record { count = length p / 512; least = omega (arith, some); most = omega arith; long = omega arith }

-- And the other way.
pub blocks_whole : (p : Bytes) → WholeBlocks p → length_wrong p ≡ false
unfolding length_wrong
blocks_whole p w =
    let l = w.least in let u = w.most in let e = w.long in
    or_false (or_false (ne_eqb (length p) 0 (λ z. omega arith)) (le-ltb 12288 (length p) (omega arith)))
    (deny (eq-eqb _ _ (let z : length p % 512 ≡ 0 = omega arith in z)))

-- The check's sum, as the definition adds it up along the bytes.
zero_sum : (f : ℕ → ℕ) (n i : ℕ) → ((k : ℕ) → f (i + k) ≡ 0) → sum_from f i n ≡ 0
unfolding sum_from
zero_sum f zero i h = refl
zero_sum f (suc n) i h =
    let here : f i ≡ 0 = ap f (let z : i ≡ i + 0 = omega arith in z) ∙ h 0 in
    let rest = zero_sum f n (suc i) (λ k. ap f (let z : suc i + k ≡ i + suc k = omega arith in z) ∙ h (suc k)) in
    omega arith

-- The definition's sum, term by term: past the end of the bytes each term is 0.
weighed_sum : (f : ℕ → ℕ) (n i : ℕ) (xs : Bytes) → ((k : ℕ) → f (i + k) ≡ suc (i + k) * get_or xs k 0) → weighed i (take n xs) ≡ sum_from f i n
unfolding weighed sum_from
weighed_sum f zero i xs h = refl
weighed_sum f (suc n) i [] h = sym (zero_sum f (suc n) i (λ k. h k ∙ (let z : suc (i + k) * 0 ≡ 0 = omega arith in z)))
weighed_sum f (suc n) i (x ∷ xs) h =
    let e : i ≡ i + 0 = omega arith in
    let here : f i ≡ suc i * x = ap f e ∙ h 0 ∙ ap (λ (m : ℕ). suc m * x) (sym e) in
    ap₂ ◌+◌ (sym here)
    (weighed_sum f n (suc i) xs λ k.
    let z : suc i + k ≡ i + suc k = omega arith in
    ap f z ∙ h (suc k) ∙ ap (λ (m : ℕ). suc m * get_or xs k 0) (sym z))

-- So the check of a block is the sum over its bytes 0-507.
check_sum : (p : Bytes) (j : ℕ) → check_of (take 508 (drop (block_at j) p)) ≡ sum_from (λ i. (i + 1) * byte_at p (block_at j + i)) 0 508
unfolding check_of byte_at
check_sum p j = weighed_sum _ 508 0 (drop (block_at j) p) (λ k. term (0 + k) k (omega arith))
  where
    term : (m k : ℕ) → m ≡ k → (m + 1) * get_or p (block_at j + m) 0 ≡ suc m * get_or (drop (block_at j) p) k 0
    term m k e =
        ap (λ (u : ℕ). u * get_or p (block_at j + m) 0) (let z : m + 1 ≡ suc m = omega arith in z)
        ∙ ap (λ (v : ℕ). suc m * v) (ap (λ (i : ℕ). get_or p (block_at j + i) 0) e ∙ sym (get_or-drop (block_at j) p k 0))

-- Code 2, at a block.
sum_right : (p : Bytes) (j : ℕ) → sum_wrong p j ≡ false → SumRight p j
unfolding sum_wrong
sum_right p j e = record { check = eqb-true _ _ (not_not _ e) ∙ check_sum p j }

-- And the other way.
right_sum : (p : Bytes) (j : ℕ) → SumRight p j → sum_wrong p j ≡ false
unfolding sum_wrong
right_sum p j b = deny (eq-eqb _ _ (b.check ∙ sym (check_sum p j)))

-- Code 3.
number_right : (p : Bytes) (j : ℕ) → number_wrong p j ≡ false → NumberRight p j
unfolding number_wrong
number_right p j f =
    let h = and_both _ _ (not_not _ f) in
    let h₁ = and_both _ _ h.0 in
    let h₂ = and_both _ _ h₁.0 in
    record {
      number = eqb-true _ _ h₂.0;
      count = eqb-true _ _ h₂.1;
      one_edition = eqb-true _ _ h₁.1;
      known_edition = leb-true _ _ h.1;
    }

-- And the other way.
right_number : (p : Bytes) (j : ℕ) → NumberRight p j → number_wrong p j ≡ false
unfolding number_wrong
right_number p j b =
    deny (and_true (and_true (and_true (eq-eqb _ _ b.number) (eq-eqb _ _ b.count)) (eq-eqb _ _ b.one_edition)) (le-leb _ _ b.known_edition))

-- Below a bound no fault is found exactly when every block there keeps its own rule.
pub finds_sum : (p : Bytes) → Finds (first (sum_wrong p) (blocks p)) (SumRight p) (blocks p)
finds_sum p = finds_first (sum_wrong p) (blocks p) (SumRight p) (λ b h m i l. sum_right p m (h m i l)) (λ b h m i l. right_sum p m (h m i l))

pub finds_number : (p : Bytes) → Finds (first (number_wrong p) (blocks p)) (NumberRight p) (blocks p)
finds_number p =
    finds_first (number_wrong p) (blocks p) (NumberRight p) (λ b h m i l. number_right p m (h m i l)) (λ b h m i l. right_number p m (h m i l))

-- Types.
type_right : (t : ℕ) → is_type t ≡ true → IsType t
unfolding is_type is_plain is_maybe
type_right t e = by_either _ _ e (λ h. inl (between 1 t 3 h)) (λ h. inr (between 5 t 7 h))

-- And the other way.
right_type : (t : ℕ) → IsType t → is_type t ≡ true
unfolding is_type is_plain is_maybe
right_type t (inl h) = or_left _ _ (is_between 1 t 3 h)
right_type t (inr h) = or_right (leb 1 t and leb t 3) _ (is_between 5 t 7 h)

-- Values.
denied : (b : Bool) → not b ≡ true → b ≡ true → ⊥
denied true e f = not_both e
denied false e f = not_both f

-- A value that fits is one by the sentences.
value_right : (t b w : ℕ) → value_fits t b w ≡ true → ValueRight t b w
unfolding value_fits is_maybe maybe_of
value_right t b w e =
    let h = and_both _ _ e in
    let i = and_both _ _ h.0 in
    let j = and_both _ _ i.0 in
    record {
      present = by_either _ _ j.0 (λ q. inl (eqb-true b 1 q)) (λ q. let r = and_both _ _ q in inr (eqb-true b 0 r.0, between 5 t 7 r.1));
      absent = λ z. by_either _ _ j.1 (λ q. eqb-true w 0 q) (λ q. let o = eqb-true b 1 q in absurd (omega arith));
      unit = λ u. by_either _ _ i.1 (λ q. eqb-true w 0 q) (λ q. absurd (denied _ q (either t 1 5 u)));
      bool = λ u. by_either _ _ h.1 (λ q. leb-true w 1 q) (λ q. absurd (denied _ q (either t 2 6 u)));
    }
  where
    either : (t m n : ℕ) → (t ≡ m) ⊎ (t ≡ n) → (eqb t m or eqb t n) ≡ true
    either t m n (inl q) = or_left _ _ (eq-eqb t m q)
    either t m n (inr q) = or_right (eqb t m) _ (eq-eqb t n q)

-- And the other way.
right_value : (t b w : ℕ) → ValueRight t b w → value_fits t b w ≡ true
unfolding value_fits is_maybe maybe_of
right_value t b w v =
    and_true (and_true (and_true (first_part v.present) (second_part v.present))
    (part (eqb w 0) (eqb t unit_t or eqb t 5) λ q. eq-eqb w 0 (v.unit (one_of t 1 5 q))))
    (part (leb w 1) (eqb t bool_t or eqb t 6) λ q. le-leb w 1 (v.bool (one_of t 2 6 q)))
  where
    first_part : (b ≡ 1) ⊎ ((b ≡ 0) × IsMaybe t) → (eqb b 1 or (eqb b 0 and (leb 5 t and leb t 7))) ≡ true
    first_part (inl q) = or_left _ _ (eq-eqb b 1 q)
    first_part (inr q) = or_right (eqb b 1) _ (and_true (eq-eqb b 0 q.0) (is_between 5 t 7 q.1))

    second_part : (b ≡ 1) ⊎ ((b ≡ 0) × IsMaybe t) → (eqb w 0 or eqb b 1) ≡ true
    second_part (inl q) = or_right (eqb w 0) _ (eq-eqb b 1 q)
    second_part (inr q) = or_left _ _ (eq-eqb w 0 (v.absent q.0))

    one_of : (t m n : ℕ) → (eqb t m or eqb t n) ≡ true → (t ≡ m) ⊎ (t ≡ n)
    one_of t m n e = by_either _ _ e (λ q. inl (eqb-true t m q)) (λ q. inr (eqb-true t n q))

    part : (a c : Bool) → (c ≡ true → a ≡ true) → (a or not c) ≡ true
    part a true f = or_left _ _ (f refl)
    part a false f = or_right a _ refl

-- The type's field, and the others.
type_field_right : (f : TypeField) (t b w : ℕ) → type_field_wrong f t b w ≡ false → TypeRight f t b w
unfolding type_field_wrong is_plain
type_field_right NoType t b w e = let h = and_both _ _ (not_not _ e) in (eqb-true _ _ h.0, eqb-true _ _ h.1)
type_field_right AnyType t b w e = let h = and_both _ _ (not_not _ e) in (type_right t h.0, eqb-true _ _ h.1)
type_field_right PlainType t b w e = let h = and_both _ _ (not_not _ e) in (between 1 t 3 h.0, eqb-true _ _ h.1)
type_field_right ValueType t b w e = let h = and_both _ _ (not_not _ e) in (type_right t h.0, value_right t b w h.1)

-- And the other way.
right_type_field : (f : TypeField) (t b w : ℕ) → TypeRight f t b w → type_field_wrong f t b w ≡ false
unfolding type_field_wrong is_plain
right_type_field NoType t b w h = deny (and_true (eq-eqb _ _ h.0) (eq-eqb _ _ h.1))
right_type_field AnyType t b w h = deny (and_true (right_type t h.0) (eq-eqb _ _ h.1))
right_type_field PlainType t b w h = deny (and_true (is_between 1 t 3 h.0) (eq-eqb _ _ h.1))
right_type_field ValueType t b w h = deny (and_true (right_type t h.0) (right_value t b w h.1))

-- The fields a, b and c.
field_right : (f : Field) (x : ℕ) → field_wrong f x ≡ false → FieldRight f x
unfolding field_wrong
field_right Unused x e = eqb-true x 0 (not_not _ e)
field_right Channel x e = ltb-false 7 x e
field_right PresentByte x e = tt
field_right Signal x e = tt
field_right Expression x e = tt
field_right FirstBranch x e = tt
field_right NextBranch x e = tt
field_right FirstCase x e = tt
field_right NextCase x e = tt
field_right Binder x e = tt
field_right Target x e = tt

-- And the other way.
right_field : (f : Field) (x : ℕ) → FieldRight f x → field_wrong f x ≡ false
unfolding field_wrong
right_field Unused x h = deny (eq-eqb x 0 h)
right_field Channel x h = le-ltb 7 x h
right_field PresentByte x h = refl
right_field Signal x h = refl
right_field Expression x h = refl
right_field FirstBranch x h = refl
right_field NextBranch x h = refl
right_field FirstCase x h = refl
right_field NextCase x h = refl
right_field Binder x h = refl
right_field Target x h = refl

-- The kinds.
kind_right : (k : ℕ) → is_kind k ≡ true → IsKind k
unfolding is_kind is_signal is_branch is_case is_expression
kind_right k e =
    by_either _ _ e
    (λ h. by_either _ _ h
    (λ i. by_either _ _ i (λ j. let z = between 1 k 8 j in inl (z.0, omega (arith, z.1))) (λ j. let z = eqb-true k 9 j in inl (omega arith, omega arith)))
    (λ i. let z = eqb-true k 10 i in inl (omega arith, omega arith)))
    (λ h. inr (between 16 k 29 h))

-- And the other way.
right_kind : (k : ℕ) → IsKind k → is_kind k ≡ true
unfolding is_kind is_signal is_branch is_case is_expression
right_kind k (inl h) =
    choose k 10 (λ q. or_left _ _ (or_right (leb 1 k and leb k 8 or eqb k 9) _ (eq-eqb k 10 q))) λ d.
    choose k 9 (λ q. or_left _ _ (or_left _ _ (or_right (leb 1 k and leb k 8) _ (eq-eqb k 9 q)))) λ d'.
    or_left _ _ (or_left _ _ (or_left _ _ (is_between 1 k 8 (h.0, omega (arith, h.1, d, d')))))
right_kind k (inr h) = or_right (leb 1 k and leb k 8 or eqb k 9 or eqb k 10) _ (is_between 16 k 29 h)

-- A node's record.
pub node_right : (p : Bytes) (r : ℕ) → node_wrong p r ≡ false → NodeRight p r
unfolding node_wrong
node_right p r e =
    let oc = or_none _ _ e in
    let ob = or_none _ _ oc.0 in
    let oa = or_none _ _ ob.0 in
    let ot = or_none _ _ oa.0 in
    record {
      kind = kind_right _ (not_not _ ot.0);
      type = type_field_right _ _ _ _ ot.1;
      a = field_right _ _ oa.1;
      b = field_right _ _ ob.1;
      c = field_right _ _ oc.1;
    }

-- And the other way.
pub right_node : (p : Bytes) (r : ℕ) → NodeRight p r → node_wrong p r ≡ false
unfolding node_wrong
right_node p r n =
    or_false (or_false (or_false (or_false (deny (right_kind _ n.kind)) (right_type_field _ _ _ _ n.type)) (right_field _ _ n.a))
    (right_field _ _ n.b)) (right_field _ _ n.c)
