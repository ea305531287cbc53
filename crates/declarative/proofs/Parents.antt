-- The node above a node: there is one, and but one, and it names the node by one field.
-- Assumes nothing.
use mathlib.Core.Path.{◌≡◌, refl, sym, ap, subst, ◌∙◌}
use mathlib.Core.Bool.{Bool, true, false}
use Prim.Native.Nat.{ℕ, zero, suc, ◌+◌, ◌-◌, ◌≤◌, ◌<◌}
use native.Mathlib.Nat.{not-suc-le-zero}
use native.Mathlib.Omega.{arith}
use lib.Dec.{eqb}
use borrow.Author.Tests.{eq-eqb, eqb-true}
use Rattle.rules.specs.Bytes.{Bytes, ◌and◌}
use Rattle.rules.specs.Layout.{nodes, kind_at, a_at, b_at, c_at}
use Rattle.rules.specs.Kinds.{row, fields_of}
use Rattle.rules.specs.Shape.{is_child, names, names_in, named_below, named}
use Rattle.rules.specs.Shaped.{Shaped}
use Rattle.rules.specs.declared.Field.{Field}
use Rattle.rules.specs.declared.Field.TheVariants.{Unused, Channel, PresentByte, Signal, Expression, FirstBranch, NextBranch, FirstCase, NextCase, Binder, Target}
use Rattle.rules.proofs.Static.{and_both, not_both}
use Rattle.rules.proofs.Kids.{Kid, kids}
use Rattle.rules.proofs.ByKind.{choose}
use Rattle.declarative.specs.WayUp.{Above, by_a, by_b, by_c, Binds, let_definition, let_body, switch_second, branch_body, take_present, Passes, by_let_body, by_branch_body, by_branch_list, Arrives, by_group_body, by_group_branches}
use Rattle.declarative.proofs.Free.{side}
use Rattle.declarative.proofs.Joining.{and_true}

-- A field that names n counts 1.
names_one : (f : Field) (x n : ℕ) → is_child f ≡ true → x ≡ n → names f x n ≡ 1
unfolding names
names_one f x n c e = simp (and_true c (eq-eqb x n e))

-- A field names n or counts 0.
one_names : {A : Type 0} (f : Field) (x n : ℕ) → (is_child f ≡ true → x ≡ n → A) → (names f x n ≡ 0 → A) → A
unfolding names
one_names {A} f x n yes₀ no₀ = go (is_child f and eqb x n) refl
  where
    go : (b : Bool) → (is_child f and eqb x n) ≡ b → A
    go true e = let h = and_both _ _ e in yes₀ h.0 (eqb-true x n h.1)
    go false e = no₀ (simp e)

module _ (p : Bytes) where
  -- A node that is above counts, and one that counts is above.
  above_counts : (m n : ℕ) → Above p m n → 1 ≤ names_in p n m
  unfolding names_in
  above_counts m n (by_a c e) = omega (arith, names_one _ _ n c e)
  above_counts m n (by_b c e) = omega (arith, names_one _ _ n c e)
  above_counts m n (by_c c e) = omega (arith, names_one _ _ n c e)

  -- A node that counts is above.
  counts_above : (m n : ℕ) → 1 ≤ names_in p n m → Above p m n
  unfolding names_in
  counts_above m n h =
      one_names (fields_of (kind_at p m)).a (a_at p m) n by_a λ za.
      one_names (fields_of (kind_at p m)).b (b_at p m) n by_b λ zb.
      one_names (fields_of (kind_at p m)).c (c_at p m) n by_c λ zc. absurd (omega (arith, za, zb, zc))

  -- What one node, and what two nodes count, is at most what all do.
  one_below : (n m k : ℕ) → m < k → names_in p n m ≤ named_below p n k
  unfolding named_below
  one_below n m zero l = absurd (not-suc-le-zero l)
  one_below n m (suc k) l =
      choose m k (λ e. subst (λ (j : ℕ). names_in p n j ≤ named_below p n k + names_in p n k) (sym e) (omega arith))
      (λ d. omega (arith, one_below n m k (omega (arith, d))))

  -- What two nodes count together.
  two_below : (n m j k : ℕ) → m < j → j < k → names_in p n m + names_in p n j ≤ named_below p n k
  unfolding named_below
  two_below n m j zero l u = absurd (not-suc-le-zero u)
  two_below n m j (suc k) l u =
      choose j k
      (λ e. subst (λ (i : ℕ). names_in p n m + names_in p n i ≤ named_below p n k + names_in p n k) (sym e) (omega (arith, one_below n m k (omega arith))))
      (λ d. omega (arith, two_below n m j k l (omega (arith, d))))

  -- The node above is found by counting.
  pub record Parent (n k : ℕ) : Type 0 where
    pub parent : ℕ
    pub inside : parent < k
    pub above : Above p parent n

  -- By going through the nodes.
  pub find : (n k : ℕ) → 1 ≤ named_below p n k → Parent n k
  unfolding named_below
  find n zero h = absurd (omega arith)
  find n (suc k) h =
      side (names_in p n k) 1
      (λ z. let r = find n k (omega arith) in record { parent = r.parent; inside = omega (arith, r.inside); above = r.above })
      (λ z. record { parent = k; inside = omega arith; above = counts_above k n z })

  module _ (n : ℕ) (once : named p n ≡ 1) where
    -- But one node is above n.
    pub one_above : (m j : ℕ) → m < nodes p → j < nodes p → Above p m n → Above p j n → m ≡ j
    unfolding named
    one_above m j lm lj am aj =
        choose m j (λ e. e) λ d.
        side m j
        (λ l. absurd (omega (arith, two_below n m j (nodes p) l lj, above_counts m n am, above_counts j n aj, once)))
        (λ l. absurd (omega (arith, two_below n j m (nodes p) (omega (arith, d)) lm, above_counts m n am, above_counts j n aj, once)))

    -- By but one field.
    twice : (m : ℕ) → m < nodes p → 2 ≤ names_in p n m → ⊥
    unfolding named
    twice m l h = omega (arith, one_below n m (nodes p) l, once)

    -- Not by a and b,
    pub not_a_b : (m : ℕ) → m < nodes p → is_child (fields_of (kind_at p m)).a ≡ true → is_child (fields_of (kind_at p m)).b ≡ true
        → a_at p m ≡ n → b_at p m ≡ n → ⊥
    unfolding names_in
    not_a_b m l c d e f = twice m l (omega (arith, names_one _ _ n c e, names_one _ _ n d f))

    -- nor by a and c,
    pub not_a_c : (m : ℕ) → m < nodes p → is_child (fields_of (kind_at p m)).a ≡ true → is_child (fields_of (kind_at p m)).c ≡ true
        → a_at p m ≡ n → c_at p m ≡ n → ⊥
    unfolding names_in
    not_a_c m l c d e f = twice m l (omega (arith, names_one _ _ n c e, names_one _ _ n d f))

    -- nor by b and c.
    pub not_b_c : (m : ℕ) → m < nodes p → is_child (fields_of (kind_at p m)).b ≡ true → is_child (fields_of (kind_at p m)).c ≡ true
        → b_at p m ≡ n → c_at p m ≡ n → ⊥
    unfolding names_in
    not_b_c m l c d e f = twice m l (omega (arith, names_one _ _ n c e, names_one _ _ n d f))

  -- The fields of a kind that name children.
  pub child_a : (n k : ℕ) → kind_at p n ≡ k → is_child (fields_of k).a ≡ true → is_child (fields_of (kind_at p n)).a ≡ true
  child_a n k e h = ap (λ (j : ℕ). is_child (fields_of j).a) e ∙ h

  -- The field b.
  pub child_b : (n k : ℕ) → kind_at p n ≡ k → is_child (fields_of k).b ≡ true → is_child (fields_of (kind_at p n)).b ≡ true
  child_b n k e h = ap (λ (j : ℕ). is_child (fields_of j).b) e ∙ h

  -- The field c.
  pub child_c : (n k : ℕ) → kind_at p n ≡ k → is_child (fields_of k).c ≡ true → is_child (fields_of (kind_at p n)).c ≡ true
  child_c n k e h = ap (λ (j : ℕ). is_child (fields_of j).c) e ∙ h

  -- What the way up enters, passes or arrives at is above.
  pub binds_above : (m n : ℕ) → Binds p m n → Above p m n
  unfolding fields_of row is_child ◌and◌
  binds_above m n (let_definition k e) = by_a (child_a m 5 k refl) e
  binds_above m n (let_body k e) = by_b (child_b m 5 k refl) e
  binds_above m n (switch_second k e) = by_c (child_c m 6 k refl) e
  binds_above m n (branch_body k e) = by_a (child_a m 9 k refl) e
  binds_above m n (take_present k e) = by_c (child_c m 29 k refl) e

  -- What it passes.
  pub passes_above : (m n : ℕ) → Passes p m n → Above p m n
  unfolding fields_of row is_child
  passes_above m n (by_let_body k e) = by_b (child_b m 5 k refl) e
  passes_above m n (by_branch_body k e) = by_a (child_a m 9 k refl) e
  passes_above m n (by_branch_list k e) = by_b (child_b m 9 k refl) e

  -- The group that it arrives at.
  pub arrives_above : (m n : ℕ) → Arrives p m n → Above p m n
  unfolding fields_of row is_child
  arrives_above m n (by_group_body k e) = by_a (child_a m 7 k refl) e
  arrives_above m n (by_group_branches k e) = by_b (child_b m 7 k refl) e

  -- The until of a first case.
  pub until_above : (m n : ℕ) → kind_at p m ≡ 8 → b_at p m ≡ n → Above p m n
  unfolding fields_of row is_child
  until_above m n k e = by_b (child_b m 8 k refl) e

  -- The case before.
  pub case_above : (m n : ℕ) → kind_at p m ≡ 10 → b_at p m ≡ n → Above p m n
  unfolding fields_of row is_child
  case_above m n k e = by_b (child_b m 10 k refl) e

  -- A child is smaller.
  kid_less : (f : Field) (m x : ℕ) → is_child f ≡ true → (x ≡ 65535 → ⊥) → Kid f p m x → x < m
  unfolding is_child
  kid_less Unused m x c d k = absurd (not_both c)
  kid_less Channel m x c d k = absurd (not_both c)
  kid_less PresentByte m x c d k = absurd (not_both c)
  kid_less Signal m x c d k = k.less
  kid_less Expression m x c d k = k.less
  kid_less FirstBranch m x c d k = k.less
  kid_less NextBranch m x c d k = (k d).less
  kid_less FirstCase m x c d k = k.less
  kid_less NextCase m x c d k = (k d).less
  kid_less Binder m x c d k = absurd (not_both c)
  kid_less Target m x c d k = absurd (not_both c)

  -- So the node above has the larger number.
  pub above_more : (m n : ℕ) → Shaped p → m < nodes p → n < nodes p → Above p m n → n < m
  above_more m n s l h (by_a c e) =
      subst (λ (x : ℕ). x < m) e (kid_less _ m _ c (λ z. omega (arith, s.small)) (kids p m s l (kind_at p m) refl).0)
  above_more m n s l h (by_b c e) =
      subst (λ (x : ℕ). x < m) e (kid_less _ m _ c (λ z. omega (arith, s.small)) (kids p m s l (kind_at p m) refl).1)
  above_more m n s l h (by_c c e) =
      subst (λ (x : ℕ). x < m) e (kid_less _ m _ c (λ z. omega (arith, s.small)) (kids p m s l (kind_at p m) refl).2)

-- A table whose shape is right.
pub record Table (p : Bytes) : Type 0 where
  pub shaped : Shaped p
  pub once : (n : ℕ) → suc n < nodes p → named p n ≡ 1

-- What holds of each child of a node of kind k holds of each node that it is above.
module _ (p : Bytes) (m : ℕ) where
  pub from_above : (A : ℕ → Type 0) (k n : ℕ) → kind_at p m ≡ k → (is_child (fields_of k).a ≡ true → A (a_at p m))
      → (is_child (fields_of k).b ≡ true → A (b_at p m)) → (is_child (fields_of k).c ≡ true → A (c_at p m)) → Above p m n → A n
  from_above A k n e fa fb fc (by_a c q) = subst A q (fa (ap (λ (j : ℕ). is_child (fields_of j).a) (sym e) ∙ c))
  from_above A k n e fa fb fc (by_b c q) = subst A q (fb (ap (λ (j : ℕ). is_child (fields_of j).b) (sym e) ∙ c))
  from_above A k n e fa fb fc (by_c c q) = subst A q (fc (ap (λ (j : ℕ). is_child (fields_of j).c) (sym e) ∙ c))

-- What holds of the root, and of each node where it holds of the one above, holds of every node.
module _ (p : Bytes) (t : Table p) (A : ℕ → Type 0) (root₀ : A (nodes p - 1))
    (step : (m n : ℕ) → m < nodes p → n < nodes p → Above p m n → A m → A n) where
  reach : (f n : ℕ) → nodes p ≤ n + f → n < nodes p → A n
  unfolding named
  reach zero n h l = absurd (omega arith)
  reach (suc f) n h l =
      choose (suc n) (nodes p) (λ q. subst A (let z : nodes p - 1 ≡ n = omega arith in z) root₀) λ d.
      let r = find p n (nodes p) (omega (arith, t.once n (omega (arith, d)))) in
      let m = r.parent in
      let i : n < m = above_more p m n t.shaped r.inside l r.above in
      step m n r.inside l r.above (reach f m (omega arith) r.inside)

  -- With as many steps as there are nodes.
  pub each_node : (n : ℕ) → n < nodes p → A n
  each_node n l = reach (nodes p) n (omega arith) l
