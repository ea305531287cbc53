-- What the walk does at a node, by the fields of its record; and what is stored before what stands already.
-- Assumes nothing.
use Rattle.std.specs.Prelude.{if◌then◌else◌}
use mathlib.Core.Path.{◌≡◌, refl, sym, ap, ◌∙◌}
use mathlib.Core.List.{List, [], ◌∷◌, ◌++◌}
use mathlib.Core.Logic.{◌≢◌}
use mathlib.Core.Bool.{Bool, true, false}
use Prim.Native.Nat.{ℕ, zero, suc, ◌+◌, ◌-◌, ◌≤◌, ◌<◌}
use native.Mathlib.Omega.{arith}
use lib.Dec.{eqb, ltb}
use lib.ListN.{length, get_or, set, length-set}
use lib.Seq.{set_comm}
use borrow.Author.Tests.{ltb-true, ltb-false, ne_eqb}
use Rattle.rules.specs.Bytes.{Bytes, write_at, ◌and◌}
use Rattle.rules.specs.Layout.{kind_at, a_at, b_at, c_at}
use Rattle.rules.specs.Kinds.{row, fields_of}
use Rattle.rules.specs.Scope.{Marks, mark, is_marked}
use Rattle.rules.specs.Shape.{is_child}
use Rattle.rules.specs.Tree.{below}
use Rattle.rules.specs.declared.Field.{Field}
use Rattle.rules.specs.declared.Fields.{Fields}
use Rattle.rules.specs.declared.Node.{Node}
use Rattle.rules.specs.Node.{IsNode}
use Rattle.rules.proofs.Nodes.{below_lt, below_ge}
use Rattle.written.proofs.ListLaws.{app_length}
use Rattle.tidy.specs.Twig.{Twig, twig, Limb, holds, child, held_in, plain_in, limb_of, twig_as, twig_at}
use Rattle.tidy.specs.Sweep.{Roomy, Stored, Swept, nothing, unmark, gone_let, swept_variable, swept_let, swept_node, swept_as, sweep_t, sweep_l, sweep, sweep_by}
use Rattle.tidy.proofs.TwigLaws.{twig_law}

-- A field, by its number.
by_limb : (p : Bytes) (n : ℕ) (f : Field) (x : ℕ) (v : Marks) → sweep_l (limb_of n f x (twig_at p)) v ≡ sweep_by p n (is_child f) x v
unfolding limb_of sweep_t sweep sweep_by below ◌and◌
by_limb p n f x v = go (is_child f) (ltb x n)
  where
    go : (y b : Bool) → sweep_l (if y and b then child x (twig_at p x) else holds (plain_in f x)) v
        ≡ (if y then (if b then sweep_t (twig_at p x) v else nothing v) else nothing v)
    go true true = refl
    go true false = refl
    go false b = refl

module _ (p : Bytes) (i : ℕ) where
  abbrev F : Fields
  F = fields_of (kind_at p i)

  law : (u : Marks) → sweep p i u
      ≡ swept_as i (kind_at p i) (held_in (limb_of i F.a (a_at p i) (twig_at p))) (λ v. sweep_by p i (is_child F.a) (a_at p i) v)
      (λ v. sweep_by p i (is_child F.b) (b_at p i) v) (λ v. sweep_by p i (is_child F.c) (c_at p i) v) u
  unfolding sweep sweep_t twig_as
  law u =
      ap (λ (t : Twig). sweep_t t u) (twig_law p i)
      ∙ (λ j. swept_as i (kind_at p i) (held_in (limb_of i F.a (a_at p i) (twig_at p))) (λ v. by_limb p i F.a (a_at p i) v j)
      (λ v. by_limb p i F.b (b_at p i) v j) (λ v. by_limb p i F.c (c_at p i) v j) u)

  pub sweep_variable : (u : Marks) → kind_at p i ≡ 16 → sweep p i u ≡ swept_variable i (a_at p i) u
  unfolding swept_as fields_of row limb_of is_child ◌and◌ plain_in held_in
  sweep_variable u e = law u ∙ rw e refl

  pub sweep_let : (u : Marks) → kind_at p i ≡ 5 → sweep p i u ≡ swept_let i (sweep_by p i true (b_at p i) (unmark u i)) (λ v. sweep_by p i true (a_at p i) v)
  unfolding swept_as fields_of row is_child
  sweep_let u e = law u ∙ rw e refl

  pub sweep_node : (u : Marks) → kind_at p i ≢ 16 → kind_at p i ≢ 5
      → sweep p i u
      ≡ swept_node i (λ v. sweep_by p i (is_child F.a) (a_at p i) v) (λ v. sweep_by p i (is_child F.b) (b_at p i) v)
      (λ v. sweep_by p i (is_child F.c) (c_at p i) v) u
  unfolding swept_as
  sweep_node u d e = law u ∙ simp (ne_eqb (kind_at p i) 16 d, ne_eqb (kind_at p i) 5 e)

-- A number in front is stored after the others; and a list in front of another.
front : (c room : List ℕ) (at i n : ℕ) → i < at → set (write_at room at c) i n ≡ write_at (set room i n) at c
unfolding write_at
front [] room at i n h = refl
front (m ∷ ms) room at i n h =
    front ms (set room at m) (suc at) i n (omega arith)
    ∙ ap (λ (r : List ℕ). write_at r (suc at) ms) (set_comm room at i m n (λ e. omega arith))

pub stacked : (xs ys r : List ℕ) (k j : ℕ) → j ≡ k + length xs → write_at (write_at r j ys) k xs ≡ write_at r k (xs ++ ys)
unfolding write_at
stacked [] ys r k j e = ap (λ (m : ℕ). write_at r m ys) (let z : j ≡ k = omega arith in z)
stacked (x ∷ xs) ys r k j e =
    ap (λ (l : List ℕ). write_at l (suc k) xs) (front ys r j k x (omega arith))
    ∙ stacked xs ys (set r k x) (suc k) j (omega arith)

pub end_set : (xs r : List ℕ) (k j x : ℕ) → j ≡ k + length xs → set (write_at r k xs) j x ≡ write_at r k (xs ++ x ∷ [])
unfolding write_at
end_set [] r k j x e = ap (λ (m : ℕ). set r m x) (let z : j ≡ k = omega arith in z)
end_set (y ∷ xs) r k j x e = end_set xs (set r k y) (suc k) j x (omega arith)

-- A field that is not walked; and one that is.
pub not_walked : (p : Bytes) (i m at : ℕ) (b : Bool) (u names : List ℕ) → b ≡ false → Stored (sweep_by p i b m u) at at u names names
unfolding sweep_by nothing write_at
not_walked p i m at b u names e = rw e (record { from = omega arith; marked = refl; listed = refl })

pub none_walked : (p : Bytes) (i m at : ℕ) (b : Bool) (u names : List ℕ) → b ≡ true → i ≤ m → Stored (sweep_by p i b m u) at at u names names
unfolding sweep_by nothing write_at
none_walked p i m at b u names e h = rw (e, below_ge i (nothing u) (λ j. sweep p j u) m h) (record { from = omega arith; marked = refl; listed = refl })

pub walked : (p : Bytes) (i m : ℕ) (b : Bool) (u : List ℕ) → b ≡ true → m < i → sweep_by p i b m u ≡ sweep p m u
unfolding sweep_by
walked p i m b u e h = rw e (below_lt i (nothing u) (λ j. sweep p j u) m h)

pub through : (p : Bytes) (i m : ℕ) (b : Bool) (u : List ℕ) → b ≡ true → m < i → (at : ℕ) (names : List ℕ) → Roomy (sweep_by p i b m u) at u names
    → Roomy (sweep p m u) at u names
through p i m b u e h at names r = rw (sym (walked p i m b u e h)) r

-- A variable.
pub variable_stored : (p : Bytes) (i at : ℕ) (n : Node) (u names : List ℕ) → IsNode p i n → n.kind ≡ 16 → 1 ≤ at
    → Stored (sweep p i u) at (at - 1) (mark u n.a) names (set names (at - 1) i)
unfolding swept_variable write_at
variable_stored p i at n u names w e h =
    rw (sweep_variable p i u (sym w.kind_is ∙ e), ← w.a_is) (record { from = omega arith; marked = refl; listed = refl })

-- A walk's list has at least one entry.
end_some : (xs : List ℕ) (n : ℕ) → 1 ≤ length (xs ++ n ∷ [])
end_some xs n = omega (arith, app_length xs (n ∷ []))

behind_some : (xs ys : List ℕ) → 1 ≤ length ys → 1 ≤ length (xs ++ ys)
behind_some xs ys h = omega (arith, app_length xs ys)

as_some : (n k binder : ℕ) (a b c : Marks → Swept) (u : Marks) → 1 ≤ length (swept_as n k binder a b c u).names
unfolding swept_as swept_variable swept_let swept_node
as_some n k binder a b c u = go (eqb k 16) (eqb k 5) (is_marked (b (unmark u n)).marks n)
  where
    go : (x y z : Bool)
        → 1
        ≤ length
        (if x then swept_variable n binder u
        else if y then (if z then record { marks = (a (b (unmark u n)).marks).marks; names = (a (b (unmark u n)).marks).names ++ ((b (unmark u n)).names ++ n ∷ []) }
        else record { marks = (b (unmark u n)).marks; names = (b (unmark u n)).names ++ gone_let n ∷ [] })
        else swept_node n a b c u).names
    go true y z = omega arith
    go false true true = behind_some (a (b (unmark u n)).marks).names ((b (unmark u n)).names ++ n ∷ []) (end_some (b (unmark u n)).names n)
    go false true false = end_some (b (unmark u n)).names (gone_let n)
    go false false z =
        let third = c u in
        let second = b third.marks in
        behind_some (a second.marks).names (second.names ++ (third.names ++ n ∷ []))
        (behind_some second.names (third.names ++ n ∷ []) (end_some third.names n))

twig_some : (t : Twig) (u : Marks) → 1 ≤ length (sweep_t t u).names
unfolding sweep_t
twig_some (twig n k t w a b c) u = as_some n k (held_in a) (λ v. sweep_l a v) (λ v. sweep_l b v) (λ v. sweep_l c v) u

pub roomy_some : (p : Bytes) (i at : ℕ) (u names : List ℕ) → Roomy (sweep p i u) at u names → 1 ≤ at
unfolding sweep
roomy_some p i at u names r = omega (arith, r.fits, twig_some (twig_at p i) u)

-- Any node but a variable and a let: its three fields, last to first.
module _ (p : Bytes) (i : ℕ) (n : Node) (w : IsNode p i n) (ya yb yc : Bool) (ea : ya ≡ is_child (fields_of n.kind).a)
    (eb : yb ≡ is_child (fields_of n.kind).b) (ec : yc ≡ is_child (fields_of n.kind).c) (d16 : n.kind ≢ 16) (d5 : n.kind ≢ 5) (at : ℕ)
    (u names : List ℕ) (roomy : Roomy (sweep p i u) at u names) where
  abbrev C : Swept
  C = sweep_by p i yc n.c u

  abbrev B : Swept
  B = sweep_by p i yb n.b C.marks

  abbrev A : Swept
  A = sweep_by p i ya n.a B.marks

  node_is : sweep p i u ≡ record { marks = A.marks; names = A.names ++ (B.names ++ (C.names ++ i ∷ [])) }
  unfolding swept_node
  node_is = rw (ea, eb, ec, w.kind_is, w.a_is, w.b_is, w.c_is) (sweep_node p i u (λ z. d16 (w.kind_is ∙ z)) (λ z. d5 (w.kind_is ∙ z)))

  total : length A.names + (length B.names + (length C.names + 1)) ≤ at
  total =
      let e = ap (λ (s : Swept). length s.names) node_is in
      omega (arith, roomy.fits, e, app_length A.names (B.names ++ (C.names ++ i ∷ [])), app_length B.names (C.names ++ i ∷ []), app_length C.names (i ∷ []))

  abbrev names₀ : List ℕ
  names₀ = set names (at - 1) i

  pub third_fits : Roomy C (at - 1) u names₀
  third_fits = record { fits = omega (arith, total); most = omega (arith, roomy.most); used_long = roomy.used_long; names_long = length-set names (at - 1) i ∙ roomy.names_long }

  module _ (r₃ : ℕ) (u₃ n₃ : List ℕ) (s₃ : Stored C (at - 1) r₃ u₃ names₀ n₃) (lu₃ : length u₃ ≡ length u) (ln₃ : length n₃ ≡ length names₀) where
    b_is_lem : sweep_by p i yb n.b u₃ ≡ B
    b_is_lem = ap (λ (v : List ℕ). sweep_by p i yb n.b v) s₃.marked

    pub second_fits : Roomy (sweep_by p i yb n.b u₃) r₃ u₃ n₃
    second_fits = record {
      fits = omega (arith, total, s₃.from, ap (λ (s : Swept). length s.names) b_is_lem);
      most = omega (arith, roomy.most, s₃.from);
      used_long = lu₃ ∙ roomy.used_long;
      names_long = ln₃ ∙ length-set names (at - 1) i ∙ roomy.names_long;
    }

    module _ (r₂ : ℕ) (u₂ n₂ : List ℕ) (s₂ : Stored (sweep_by p i yb n.b u₃) r₃ r₂ u₂ n₃ n₂) (lu₂ : length u₂ ≡ length u₃) (ln₂ : length n₂ ≡ length n₃) where
      a_is_lem : sweep_by p i ya n.a u₂ ≡ A
      a_is_lem = ap (λ (v : List ℕ). sweep_by p i ya n.a v) (s₂.marked ∙ ap (λ (s : Swept). s.marks) b_is_lem)

      before_b : r₂ + length B.names ≡ r₃
      before_b = omega (arith, s₂.from, ap (λ (s : Swept). length s.names) b_is_lem)

      pub first_fits : Roomy (sweep_by p i ya n.a u₂) r₂ u₂ n₂
      first_fits = record {
        fits = omega (arith, total, s₃.from, before_b, ap (λ (s : Swept). length s.names) a_is_lem);
        most = omega (arith, roomy.most, s₃.from, before_b);
        used_long = lu₂ ∙ lu₃ ∙ roomy.used_long;
        names_long = ln₂ ∙ ln₃ ∙ length-set names (at - 1) i ∙ roomy.names_long;
      }

      pub node_stored : (r : ℕ) (u₁ n₁ : List ℕ) → Stored (sweep_by p i ya n.a u₂) r₂ r u₁ n₂ n₁ → Stored (sweep p i u) at r u₁ names n₁
      unfolding write_at
      node_stored r u₁ n₁ s₁ =
          let la = ap (λ (s : Swept). length s.names) a_is_lem in
          let e = ap (λ (s : Swept). length s.names) node_is in
          let f : r + length A.names ≡ r₂ = omega (arith, s₁.from, la) in
          record {
            from = omega (arith, total, s₃.from, before_b, f, e, app_length A.names (B.names ++ (C.names ++ i ∷ [])), app_length B.names (C.names ++ i ∷ []), app_length C.names (i ∷ []));
            marked = s₁.marked ∙ ap (λ (s : Swept). s.marks) a_is_lem ∙ sym (ap (λ (s : Swept). s.marks) node_is);
            listed =
                s₁.listed ∙ ap (λ (s : Swept). write_at n₂ r s.names) a_is_lem
                ∙ ap (λ (l : List ℕ). write_at l r A.names)
                (s₂.listed ∙ ap (λ (s : Swept). write_at n₃ r₂ s.names) b_is_lem
                ∙ ap (λ (l : List ℕ). write_at l r₂ B.names) (s₃.listed ∙ stacked C.names (i ∷ []) names r₃ (at - 1) (sym s₃.from))
                ∙ stacked B.names (C.names ++ i ∷ []) names r₂ r₃ (sym before_b))
                ∙ stacked A.names (B.names ++ (C.names ++ i ∷ [])) names r r₂ (sym f)
                ∙ ap (λ (s : Swept). write_at names r s.names) (sym node_is);
          }

-- A let: its body, in marks where it has none; and its definition, where the body marks it.
module _ (p : Bytes) (i : ℕ) (n : Node) (w : IsNode p i n) (e₅ : n.kind ≡ 5) (at : ℕ) (u names : List ℕ) (roomy : Roomy (sweep p i u) at u names) where
  abbrev u₀ : List ℕ
  u₀ = set u i 0

  abbrev Body : Swept
  Body = sweep_by p i true n.b u₀

  abbrev Definition : Swept
  Definition = sweep_by p i true n.a Body.marks

  let_is : sweep p i u ≡ swept_let i Body (λ v. sweep_by p i true n.a v)
  unfolding unmark
  let_is = rw (w.a_is, w.b_is) (sweep_let p i u (sym w.kind_is ∙ e₅))

  kept_is : is_marked Body.marks i ≡ true → sweep p i u ≡ record { marks = Definition.marks; names = Definition.names ++ (Body.names ++ i ∷ []) }
  unfolding swept_let
  kept_is e = let_is ∙ simp e

  gone_is : is_marked Body.marks i ≡ false → sweep p i u ≡ record { marks = Body.marks; names = Body.names ++ (1024 + i) ∷ [] }
  unfolding swept_let gone_let
  gone_is e = let_is ∙ simp e

  pub body_fits : Roomy Body (at - 1) u₀ names
  body_fits = record { fits = go (is_marked Body.marks i) refl; most = omega (arith, roomy.most); used_long = length-set u i 0 ∙ roomy.used_long; names_long = roomy.names_long }
    where
      go : (b : Bool) → is_marked Body.marks i ≡ b → length Body.names ≤ at - 1
      go true e =
          let z = ap (λ (s : Swept). length s.names) (kept_is e) in
          omega (arith, roomy.fits, z, app_length Definition.names (Body.names ++ i ∷ []), app_length Body.names (i ∷ []))
      go false e =
          let z = ap (λ (s : Swept). length s.names) (gone_is e) in
          omega (arith, roomy.fits, z, app_length Body.names ((1024 + i) ∷ []))

  module _ (r₂ : ℕ) (u₂ n₂ : List ℕ) (s₂ : Stored Body (at - 1) r₂ u₂ names n₂) (lu : length u₂ ≡ length u₀) (ln : length n₂ ≡ length names) where
    marked_is : (v : ℕ) → get_or u₂ i 0 ≡ v → is_marked Body.marks i ≡ eqb v 1
    unfolding is_marked
    marked_is v e = ap (λ (l : List ℕ). eqb (get_or l i 0) 1) (sym s₂.marked) ∙ ap (λ (x : ℕ). eqb x 1) e

    d_is : sweep_by p i true n.a u₂ ≡ Definition
    d_is = ap (λ (v : List ℕ). sweep_by p i true n.a v) s₂.marked

    pub definition_fits : get_or u₂ i 0 ≡ 1 → Roomy (sweep_by p i true n.a u₂) r₂ u₂ (set n₂ (at - 1) i)
    definition_fits m =
        let z = ap (λ (s : Swept). length s.names) (kept_is (marked_is 1 m)) in record {
          fits = omega (arith, roomy.fits, z, s₂.from, app_length Definition.names (Body.names ++ i ∷ []), app_length Body.names (i ∷ []), ap (λ (s : Swept). length s.names) d_is);
          most = omega (arith, roomy.most, s₂.from);
          used_long = lu ∙ length-set u i 0 ∙ roomy.used_long;
          names_long = length-set n₂ (at - 1) i ∙ ln ∙ roomy.names_long;
        }

    -- A number behind what was stored.
    behind : (x : ℕ) → set n₂ (at - 1) x ≡ write_at names r₂ (Body.names ++ x ∷ [])
    behind x = ap (λ (l : List ℕ). set l (at - 1) x) s₂.listed ∙ end_set Body.names names r₂ (at - 1) x (sym s₂.from)

    pub kept_stored : get_or u₂ i 0 ≡ 1 → (r : ℕ) (u₁ n₁ : List ℕ) → Stored (sweep_by p i true n.a u₂) r₂ r u₁ (set n₂ (at - 1) i) n₁
        → Stored (sweep p i u) at r u₁ names n₁
    kept_stored m r u₁ n₁ s₁ =
        let k = kept_is (marked_is 1 m) in
        let z = ap (λ (s : Swept). length s.names) k in
        let f : r + length Definition.names ≡ r₂ = omega (arith, s₁.from, ap (λ (s : Swept). length s.names) d_is) in
        record {
          from = omega (arith, roomy_some p i at u names roomy, z, f, s₂.from, app_length Definition.names (Body.names ++ i ∷ []), app_length Body.names (i ∷ []));
          marked = s₁.marked ∙ ap (λ (s : Swept). s.marks) d_is ∙ sym (ap (λ (s : Swept). s.marks) k);
          listed =
              s₁.listed ∙ ap (λ (s : Swept). write_at (set n₂ (at - 1) i) r s.names) d_is
              ∙ ap (λ (l : List ℕ). write_at l r Definition.names) (behind i)
              ∙ stacked Definition.names (Body.names ++ i ∷ []) names r r₂ (sym f)
              ∙ ap (λ (s : Swept). write_at names r s.names) (sym k);
        }

    pub gone_stored : (get_or u₂ i 0 ≡ 1 → ⊥) → Stored (sweep p i u) at r₂ u₂ names (set n₂ (at - 1) (1024 + i))
    gone_stored d =
        let k = gone_is (marked_is (get_or u₂ i 0) refl ∙ ne_eqb (get_or u₂ i 0) 1 d) in
        let z = ap (λ (s : Swept). length s.names) k in
        record {
          from = omega (arith, roomy_some p i at u names roomy, z, s₂.from, app_length Body.names ((1024 + i) ∷ []));
          marked = s₂.marked ∙ sym (ap (λ (s : Swept). s.marks) k);
          listed = behind (1024 + i) ∙ ap (λ (s : Swept). write_at names r₂ s.names) (sym k);
        }

-- Nothing is stored past the end.
pub set_beyond : (l : List ℕ) (i x : ℕ) → length l ≤ i → set l i x ≡ l
set_beyond [] i x h = refl
set_beyond (a ∷ l) zero x h = absurd (omega arith)
set_beyond (a ∷ l) (suc i) x h = ap (λ (m : List ℕ). a ∷ m) (set_beyond l i x (omega arith))
