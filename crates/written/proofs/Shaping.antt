-- Codes 4 and 5 at the nodes of a part: each record is right, its children are smaller and of the right sort, and each but the last is named once.
-- Assumes nothing.
use Rattle.std.specs.Prelude.{if◌then◌else◌}
use mathlib.Core.Path.{◌≡◌, refl, sym, ap, ◌∙◌}
use mathlib.Core.Bool.{Bool, true, false, not}
use Prim.Native.Nat.{ℕ, zero, suc, ◌+◌, ◌-◌, ◌*◌, ◌<◌, ◌≤◌}
use native.Mathlib.Decide.{dec_lt}
use native.Mathlib.Omega.{arith}
use lib.Dec.{eqb, ltb, leb}
use borrow.Author.Tests.{lt-ltb, le-ltb, le-leb, lt-leb, eq-eqb, ne_eqb, eqb-true, leb-true, leb-false, ltb-true, ltb-false}
use Rattle.rules.specs.Bytes.{Bytes, ◌and◌, ◌or◌}
use Rattle.rules.specs.Layout.{kind_at, type_at, a_at, b_at, c_at, word_at, no_next}
use Rattle.rules.specs.Node.{IsNode}
use Rattle.rules.specs.Kinds.{is_kind, fields_of}
use Rattle.rules.specs.Format.{field_wrong, type_field_wrong, node_wrong}
use Rattle.rules.specs.Shape.{is_child, may_be, may_stop, child_wrong, children_wrong, names, names_in, named_below}
use Rattle.rules.specs.declared.Field.{Field}
use Rattle.rules.specs.declared.Field.TheVariants.{Unused, Channel, PresentByte, Signal, Expression, FirstBranch, NextBranch, FirstCase, NextCase, Binder, Target}
use Rattle.rules.proofs.Static.{not_both}
use Rattle.written.specs.Parts.{Part, part, Slot, holds, child, size_p, size_k, last_p, field_k, row_p}
use Rattle.written.specs.Right.{kind_p, Fits, plain, stops, HeadRight, RightP, RightK, HoldsP, HoldsK}
use Rattle.written.proofs.Rows.{last_size}

-- A child field is no other.
child_right : (f : Field) (x : ℕ) → is_child f ≡ true → field_wrong f x ≡ false
unfolding is_child field_wrong
child_right Unused x e = absurd (not_both e)
child_right Channel x e = absurd (not_both e)
child_right PresentByte x e = refl
child_right Signal x e = refl
child_right Expression x e = refl
child_right FirstBranch x e = refl
child_right NextBranch x e = refl
child_right FirstCase x e = refl
child_right NextCase x e = refl
child_right Binder x e = refl
child_right Target x e = refl

field_right : (s : Slot) (f : Field) (lo : ℕ) → RightK s f → field_wrong f (field_k lo s) ≡ false
unfolding field_k
field_right (holds x) f lo (plain e g h) = g
field_right (holds x) f lo (stops e g h) = child_right f x e
field_right (child p) f lo r = child_right f (last_p lo p) r.0

-- The kind of a part's own record.
pub kind_of : (p : Part) (q : Bytes) (lo : ℕ) → HoldsP p q lo → kind_at q (last_p lo p) ≡ kind_p p
unfolding last_p kind_p row_p
kind_of (part k t w a b c) q lo h = sym h.3.kind_is

-- A field of node n.
plain_child : (q : Bytes) (n : ℕ) (f : Field) (x : ℕ) → is_child f ≡ false → child_wrong q n f x ≡ false
unfolding child_wrong ◌and◌
plain_child q n f x e = simp e

stop_child : (q : Bytes) (n : ℕ) (f : Field) (x : ℕ) → is_child f ≡ true → may_stop f ≡ true → x ≡ no_next → child_wrong q n f x ≡ false
unfolding child_wrong ◌and◌
stop_child q n f x e g h = simp (e, g, eq-eqb x no_next h)

and_false : (a : Bool) → (a and false) ≡ false
unfolding ◌and◌
and_false true = refl
and_false false = refl

true_child : (q : Bytes) (n : ℕ) (f : Field) (x : ℕ) → x < n → may_be f (kind_at q x) ≡ true → child_wrong q n f x ≡ false
unfolding child_wrong ◌and◌
true_child q n f x l m = simp (lt-ltb x n l, m) (and_false (is_child f and not (may_stop f and eqb x no_next)))

slot_child : (s : Slot) (f : Field) (q : Bytes) (lo n : ℕ) → RightK s f → HoldsK s q lo → lo + size_k s ≤ n → child_wrong q n f (field_k lo s) ≡ false
unfolding field_k size_p
slot_child (holds x) f q lo n (plain e g i) h l = plain_child q n f x e
slot_child (holds x) f q lo n (stops e g i) h l = stop_child q n f x e g i
slot_child (child p) f q lo n r h l =
    true_child q n f (last_p lo p) (omega (arith, last_size lo p)) (ap (may_be f) (kind_of p q lo h) ∙ r.1)

-- What codes 4 and 5 say of a node by itself.
pub record Fine (q : Bytes) (r : ℕ) : Type 0 where
  pub is_kind_lem : is_kind (kind_at q r) ≡ true
  pub record_right : node_wrong q r ≡ false
  pub children_right : children_wrong q r ≡ false

wrong_as : (k t a b c w : ℕ) → Bool
wrong_as k t a b c w =
    not (is_kind k)
    or type_field_wrong (fields_of k).ty t b w
    or field_wrong (fields_of k).a a
    or field_wrong (fields_of k).b b
    or field_wrong (fields_of k).c c

wrong_as_lem : (q : Bytes) (r : ℕ) → node_wrong q r ≡ wrong_as (kind_at q r) (type_at q r) (a_at q r) (b_at q r) (c_at q r) (word_at q r)
unfolding node_wrong wrong_as
wrong_as_lem q r = refl

none_wrong : (k t a b c w : ℕ) → is_kind k ≡ true → type_field_wrong (fields_of k).ty t b w ≡ false → field_wrong (fields_of k).a a ≡ false
    → field_wrong (fields_of k).b b ≡ false → field_wrong (fields_of k).c c ≡ false → wrong_as k t a b c w ≡ false
unfolding wrong_as ◌or◌
none_wrong k t a b c w e f g h i = simp (e, f, g, h, i)

kids_as : Bytes → ℕ → (k a b c : ℕ) → Bool
kids_as q n k a b c = child_wrong q n (fields_of k).a a or child_wrong q n (fields_of k).b b or child_wrong q n (fields_of k).c c

kids_as_lem : (q : Bytes) (n : ℕ) → children_wrong q n ≡ kids_as q n (kind_at q n) (a_at q n) (b_at q n) (c_at q n)
unfolding children_wrong kids_as
kids_as_lem q n = refl

no_kid_wrong : (q : Bytes) (n k a b c : ℕ) → child_wrong q n (fields_of k).a a ≡ false → child_wrong q n (fields_of k).b b ≡ false
    → child_wrong q n (fields_of k).c c ≡ false → kids_as q n k a b c ≡ false
unfolding kids_as ◌or◌
no_kid_wrong q n k a b c e f g = simp (e, f, g)

own_fine : (q : Bytes) (lo k t w : ℕ) (a b c : Slot) → HoldsP (part k t w a b c) q lo → RightP (part k t w a b c) → Fine q (lo + (size_k a + size_k b + size_k c))
unfolding row_p
own_fine q lo k t w a b c h r =
    let n = lo + (size_k a + size_k b + size_k c) in
    let i = h.3 in
    record {
      is_kind_lem = ap is_kind (sym i.kind_is) ∙ r.0.kind_right;
      record_right =
          wrong_as_lem q n ∙ sym (λ j. wrong_as (i.kind_is j) (i.type_is j) (i.a_is j) (i.b_is j) (i.c_is j) (i.word_is j))
          ∙ none_wrong k t (field_k lo a) (field_k (lo + size_k a) b) (field_k (lo + size_k a + size_k b) c) w r.0.kind_right (r.0.type_right (lo + size_k a))
          (field_right a (fields_of k).a lo r.1) (field_right b (fields_of k).b (lo + size_k a) r.2) (field_right c (fields_of k).c (lo + size_k a + size_k b) r.3);
      children_right =
          kids_as_lem q n ∙ sym (λ j. kids_as q n (i.kind_is j) (i.a_is j) (i.b_is j) (i.c_is j))
          ∙ no_kid_wrong q n k (field_k lo a) (field_k (lo + size_k a) b) (field_k (lo + size_k a + size_k b) c)
          (slot_child a (fields_of k).a q lo n r.1 h.0 (omega arith))
          (slot_child b (fields_of k).b q (lo + size_k a) n r.2 h.1 (omega arith))
          (slot_child c (fields_of k).c q (lo + size_k a + size_k b) n r.3 h.2 (omega arith));
    }

-- One of four: before lo + a, before lo + a + b, before lo + a + b + c, or the last.
pub by_part {ℓ} : (P : ℕ → Type ℓ) (lo a b c r : ℕ) → lo ≤ r → r < lo + suc (a + b + c)
    → (r < lo + a → P r) → (lo + a ≤ r → r < lo + a + b → P r) → (lo + a + b ≤ r → r < lo + a + b + c → P r) → P (lo + (a + b + c)) → P r
by_part P lo a b c r h g x y z w = go (dec_lt r (lo + a)) (dec_lt r (lo + a + b)) (dec_lt r (lo + a + b + c))
  where
    go : Dec (r < lo + a) → Dec (r < lo + a + b) → Dec (r < lo + a + b + c) → P r
    go (yes i) j k = x i
    go (no i) (yes j) k = y (omega arith) j
    go (no i) (no j) (yes k) = z (omega arith) k
    go (no i) (no j) (no k) = let e : r ≡ lo + (a + b + c) = omega arith in rw e w

mutual
  unfolding size_p

  pub part_fine : (p : Part) (q : Bytes) (lo : ℕ) → HoldsP p q lo → RightP p → (r : ℕ) → lo ≤ r → r < lo + size_p p → Fine q r
  part_fine (part k t w a b c) q lo h x r l g =
      by_part (Fine q) lo (size_k a) (size_k b) (size_k c) r l g
      (λ u. slot_fine a q lo (fields_of k).a h.0 x.1 r l u)
      (λ u v. slot_fine b q (lo + size_k a) (fields_of k).b h.1 x.2 r u v)
      (λ u v. slot_fine c q (lo + size_k a + size_k b) (fields_of k).c h.2 x.3 r u v)
      (own_fine q lo k t w a b c h x)

  pub slot_fine : (s : Slot) (q : Bytes) (lo : ℕ) (f : Field) → HoldsK s q lo → RightK s f → (r : ℕ) → lo ≤ r → r < lo + size_k s → Fine q r
  slot_fine (holds y) q lo f h x r l g = absurd (omega arith)
  slot_fine (child p) q lo f h x r l g = part_fine p q lo h x.2 r l g

-- 1 if x is from lo on and below hi.
pub among : ℕ → ℕ → ℕ → ℕ
among lo hi x = if leb lo x and ltb x hi then 1 else 0

pub among_in : (lo hi x : ℕ) → lo ≤ x → x < hi → among lo hi x ≡ 1
unfolding among ◌and◌
among_in lo hi x l h = simp (le-leb lo x l, lt-ltb x hi h)

pub among_below : (lo hi x : ℕ) → x < lo → among lo hi x ≡ 0
unfolding among ◌and◌
among_below lo hi x l = simp (lt-leb lo x l)

pub among_above : (lo hi x : ℕ) → hi ≤ x → among lo hi x ≡ 0
unfolding among
among_above lo hi x l = simp (le-ltb x hi l, and_false (leb lo x))

pub among_cut : (lo mid hi x : ℕ) → lo ≤ mid → mid ≤ hi → among lo mid x + among mid hi x ≡ among lo hi x
among_cut lo mid hi x h g = go (dec_lt x lo) (dec_lt x mid) (dec_lt x hi)
  where
    go : Dec (x < lo) → Dec (x < mid) → Dec (x < hi) → among lo mid x + among mid hi x ≡ among lo hi x
    go (yes i) j k = omega (arith, among_below lo mid x i, among_below mid hi x (omega arith), among_below lo hi x i)
    go (no i) (yes j) k = omega (arith, among_in lo mid x (omega arith) j, among_below mid hi x j, among_in lo hi x (omega arith) (omega arith))
    go (no i) (no j) (yes k) = omega (arith, among_above lo mid x (omega arith), among_in mid hi x (omega arith) k, among_in lo hi x (omega arith) k)
    go (no i) (no j) (no k) = omega (arith, among_above lo mid x (omega arith), among_above mid hi x (omega arith), among_above lo hi x (omega arith))

-- How often a field names x.
names_plain : (f : Field) (y x : ℕ) → is_child f ≡ false → names f y x ≡ 0
unfolding names ◌and◌
names_plain f y x e = simp e

names_child : (f : Field) (y x : ℕ) → is_child f ≡ true → names f y x ≡ among y (suc y) x
unfolding names ◌and◌
names_child f y x e = go (dec_lt x y) (dec_lt y x)
  where
    away : (y ≡ x → ⊥) → among y (suc y) x ≡ 0 → names f y x ≡ among y (suc y) x
    away d z = simp (e, ne_eqb y x d) (sym z)

    go : Dec (x < y) → Dec (y < x) → names f y x ≡ among y (suc y) x
    go (yes i) j = away (λ d. omega arith) (among_below y (suc y) x i)
    go (no i) (yes j) = away (λ d. omega arith) (among_above y (suc y) x (omega arith))
    go (no i) (no j) = let d : y ≡ x = omega arith in simp (e, eq-eqb y x d) (sym (among_in y (suc y) x (omega arith) (omega arith)))

names_as : (k a b c x : ℕ) → ℕ
names_as k a b c x = names (fields_of k).a a x + names (fields_of k).b b x + names (fields_of k).c c x

names_as_lem : (q : Bytes) (x m : ℕ) → names_in q x m ≡ names_as (kind_at q m) (a_at q m) (b_at q m) (c_at q m) x
unfolding names_in names_as
names_as_lem q x m = refl

own_names : (q : Bytes) (lo k t w : ℕ) (a b c : Slot) (x : ℕ) → IsNode q (lo + (size_k a + size_k b + size_k c)) (row_p lo (part k t w a b c))
    → names_in q x (lo + (size_k a + size_k b + size_k c))
    ≡ names (fields_of k).a (field_k lo a) x + names (fields_of k).b (field_k (lo + size_k a) b) x + names (fields_of k).c (field_k (lo + size_k a + size_k b) c) x
unfolding row_p names_as
own_names q lo k t w a b c x i =
    names_as_lem q x (lo + (size_k a + size_k b + size_k c)) ∙ sym (λ j. names_as (i.kind_is j) (i.a_is j) (i.b_is j) (i.c_is j) x)

sum : (q : Bytes) (lo k t w : ℕ) (a b c : Slot) (x : ℕ) → IsNode q (lo + (size_k a + size_k b + size_k c)) (row_p lo (part k t w a b c))
    → named_below q x (lo + size_k a) + names (fields_of k).a (field_k lo a) x ≡ named_below q x lo + among lo (lo + size_k a) x
    → named_below q x (lo + size_k a + size_k b) + names (fields_of k).b (field_k (lo + size_k a) b) x
    ≡ named_below q x (lo + size_k a) + among (lo + size_k a) (lo + size_k a + size_k b) x
    → named_below q x (lo + size_k a + size_k b + size_k c) + names (fields_of k).c (field_k (lo + size_k a + size_k b) c) x
    ≡ named_below q x (lo + size_k a + size_k b) + among (lo + size_k a + size_k b) (lo + size_k a + size_k b + size_k c) x
    → named_below q x (lo + suc (size_k a + size_k b + size_k c)) ≡ named_below q x lo + among lo (lo + (size_k a + size_k b + size_k c)) x
unfolding named_below
sum q lo k t w a b c x i u v z =
    let n : lo + size_k a + size_k b + size_k c ≡ lo + (size_k a + size_k b + size_k c) = omega arith in
    let c1 = among_cut lo (lo + size_k a) (lo + size_k a + size_k b) x (omega arith) (omega arith) in
    let c2 = among_cut lo (lo + size_k a + size_k b) (lo + size_k a + size_k b + size_k c) x (omega arith) (omega arith) in
    let c3 = ap (λ (m : ℕ). among lo m x) n in
    let c4 = ap (named_below q x) n in
    let s : named_below q x (lo + suc (size_k a + size_k b + size_k c)) ≡ named_below q x (suc (lo + (size_k a + size_k b + size_k c)))
    = ap (named_below q x) (let m : lo + suc (size_k a + size_k b + size_k c) ≡ suc (lo + (size_k a + size_k b + size_k c)) = omega arith in m) in
    omega (arith, own_names q lo k t w a b c x i, s)

held : (q : Bytes) (lo x : ℕ) (f : Field) (y : ℕ) → Fits f y → x < 65535
    → named_below q x (lo + 0) + names f y x ≡ named_below q x lo + among lo (lo + 0) x
held q lo x f y r g =
    let e : named_below q x (lo + 0) ≡ named_below q x lo = ap (named_below q x) (let m : lo + 0 ≡ lo = omega arith in m) in
    let n : among lo (lo + 0) x ≡ 0 = nothing (dec_lt x lo) in
    omega (arith, not_named r)
  where
    nothing : Dec (x < lo) → among lo (lo + 0) x ≡ 0
    nothing (yes i) = among_below lo (lo + 0) x i
    nothing (no i) = among_above lo (lo + 0) x (omega arith)

    not_named : Fits f y → names f y x ≡ 0
    not_named (plain d u v) = names_plain f y x d
    not_named (stops d u v) = names_child f y x d ∙ among_below y (suc y) x (omega arith)

pub least : (p : Part) (lo : ℕ) → lo ≤ last_p lo p
unfolding last_p
least (part k t w a b c) lo = omega arith

kept : (p : Part) (q : Bytes) (lo x : ℕ) (f : Field) → is_child f ≡ true
    → named_below q x (lo + size_p p) ≡ named_below q x lo + among lo (last_p lo p) x
    → named_below q x (lo + size_p p) + names f (last_p lo p) x ≡ named_below q x lo + among lo (lo + size_p p) x
kept p q lo x f d e =
    let l = last_size lo p in
    let m = least p lo in
    let c = among_cut lo (last_p lo p) (suc (last_p lo p)) x m (omega arith) in
    let z : among lo (lo + size_p p) x ≡ among lo (suc (last_p lo p)) x = ap (λ (y : ℕ). among lo y x) l in
    omega (arith, names_child f (last_p lo p) x d)

-- The nodes of a part name each of its places but the last once, and nothing else.
mutual
  unfolding size_p last_p field_k

  pub part_named : (p : Part) (q : Bytes) (lo x : ℕ) → HoldsP p q lo → RightP p → x < 65535
      → named_below q x (lo + size_p p) ≡ named_below q x lo + among lo (last_p lo p) x
  part_named (part k t w a b c) q lo x h r g =
      let u = slot_named a q lo x (fields_of k).a h.0 r.1 g in
      let v = slot_named b q (lo + size_k a) x (fields_of k).b h.1 r.2 g in
      let z = slot_named c q (lo + size_k a + size_k b) x (fields_of k).c h.2 r.3 g in
      sum q lo k t w a b c x h.3 u v z

  pub slot_named : (s : Slot) (q : Bytes) (lo x : ℕ) (f : Field) → HoldsK s q lo → RightK s f → x < 65535
      → named_below q x (lo + size_k s) + names f (field_k lo s) x ≡ named_below q x lo + among lo (lo + size_k s) x
  slot_named (holds y) q lo x f h r g = held q lo x f y r g
  slot_named (child p) q lo x f h r g = kept p q lo x f r.0 (part_named p q lo x h r.2 g)
