-- Who names a branch: the group whose first it is, or the branch whose next it is, and no other node.
-- Assumes nothing.
use Rattle.std.specs.Prelude.{if◌then◌else◌, None}
use mathlib.Core.Path.{◌≡◌, refl, sym, ap, subst, ◌∙◌}
use mathlib.Core.Bool.{Bool, true, false}
use Prim.Native.Nat.{ℕ, zero, suc, ◌+◌, ◌-◌, ◌≤◌, ◌<◌}
use native.Mathlib.Nat.{not-suc-le-zero}
use native.Mathlib.Omega.{arith}
use lib.Dec.{eqb, leb}
use borrow.Author.Tests.{eq-eqb, ne_eqb, eqb-true}
use Rattle.rules.specs.Bytes.{Bytes, ◌and◌, first}
use Rattle.rules.specs.Layout.{nodes, kind_at, a_at, b_at, c_at}
use Rattle.rules.specs.Kinds.{row, fields_of, is_signal, is_expression, is_branch, is_case}
use Rattle.rules.specs.Shape.{is_child, names, names_in, named_below, named, shape_wrong}
use Rattle.rules.specs.Shaped.{NodeOf}
use Rattle.rules.specs.declared.Field.{Field}
use Rattle.rules.specs.declared.Field.TheVariants.{Unused, Channel, PresentByte, Signal, Expression, FirstBranch, NextBranch, FirstCase, NextCase, Binder, Target}
use Rattle.rules.specs.declared.TypeField.{TypeField}
use Rattle.rules.specs.declared.Fields.{Fields}
use Rattle.rules.proofs.Static.{and_both, not_both}
use Rattle.rules.proofs.Kids.{Kid, kids, or_none, not_not}
use Rattle.rules.proofs.Established.{nowhere_from}
use Rattle.rules.proofs.ByKind.{choose}
use Rattle.cells.specs.Indexed.{ListedOnce}

-- The fields that name a branch.
unfoldable lists : Field → Bool
lists Unused = false
lists Channel = false
lists PresentByte = false
lists Signal = false
lists Expression = false
lists FirstBranch = true
lists NextBranch = true
lists FirstCase = false
lists NextCase = false
lists Binder = false
lists Target = false

-- Of a node of kind k only b may, and then k is 7 or 9.
record ListsIn (k : ℕ) (r : Fields) : Type 0 where
  not_a : lists r.a ≡ false
  only_b : lists r.b ≡ true → (k ≡ 7 → ⊥) → k ≡ 9
  not_c : lists r.c ≡ false

by_test : {k : ℕ} (b : Bool) (x y : Fields) → (b ≡ true → ListsIn k x) → ListsIn k y → ListsIn k (if b then x else y)
by_test true x y f g = f refl
by_test false x y f g = g

no_list : {k : ℕ} (t : TypeField) (x y z : Field) → lists x ≡ false → lists y ≡ false → lists z ≡ false → ListsIn k (row t x y z)
unfolding row
no_list t x y z a b c = record { not_a = a; only_b = λ e. absurd (not_both (sym b ∙ e)); not_c = c }

lists_in : (k : ℕ) → ListsIn k (fields_of k)
unfolding fields_of lists row
lists_in k =
    by_test (eqb k 1) _ _ (λ _. no_list _ _ _ _ refl refl refl)
    (by_test (eqb k 3) _ _ (λ _. no_list _ _ _ _ refl refl refl)
    (by_test (eqb k 4) _ _ (λ _. no_list _ _ _ _ refl refl refl)
    (by_test (eqb k 5) _ _ (λ _. no_list _ _ _ _ refl refl refl)
    (by_test (eqb k 6) _ _ (λ _. no_list _ _ _ _ refl refl refl)
    (by_test (eqb k 7) _ _ (λ e. record { not_a = refl; only_b = λ _ d. absurd (d (eqb-true k 7 e)); not_c = refl })
    (by_test (eqb k 8) _ _ (λ _. no_list _ _ _ _ refl refl refl)
    (by_test (eqb k 9) _ _ (λ e. record { not_a = refl; only_b = λ _ d. eqb-true k 9 e; not_c = refl })
    (by_test (eqb k 10) _ _ (λ _. no_list _ _ _ _ refl refl refl)
    (by_test (eqb k 16) _ _ (λ _. no_list _ _ _ _ refl refl refl)
    (by_test (eqb k 17) _ _ (λ _. no_list _ _ _ _ refl refl refl)
    (by_test (leb 18 k and leb k 23) _ _ (λ _. no_list _ _ _ _ refl refl refl)
    (by_test (eqb k 24) _ _ (λ _. no_list _ _ _ _ refl refl refl)
    (by_test (leb 25 k and leb k 26) _ _ (λ _. no_list _ _ _ _ refl refl refl)
    (by_test (eqb k 27) _ _ (λ _. no_list _ _ _ _ refl refl refl)
    (by_test (eqb k 28) _ _ (λ _. no_list _ _ _ _ refl refl refl)
    (by_test (eqb k 29) _ _ (λ _. no_list _ _ _ _ refl refl refl)
    (no_list _ _ _ _ refl refl refl)))))))))))))))))

-- A branch is of no other sort.
pub not_signal : (k : ℕ) → is_branch k ≡ true → is_signal k ≡ true → ⊥
unfolding is_branch is_signal ◌and◌
not_signal k b s = not_both (ap is_signal (sym (eqb-true k 9 b)) ∙ s)

not_expression : (k : ℕ) → is_branch k ≡ true → is_expression k ≡ true → ⊥
unfolding is_branch is_expression ◌and◌
not_expression k b s = not_both (ap is_expression (sym (eqb-true k 9 b)) ∙ s)

not_case : (k : ℕ) → is_branch k ≡ true → is_case k ≡ true → ⊥
unfolding is_branch is_case
not_case k b s = not_both (ap is_case (sym (eqb-true k 9 b)) ∙ s)

-- A field that names a branch is one of a list.
field_lists : (p : Bytes) (f : Field) (m x : ℕ) → is_child f ≡ true → Kid f p m x → is_branch (kind_at p x) ≡ true → (x ≡ 65535 → ⊥) → lists f ≡ true
unfolding is_child lists
field_lists p Unused m x c k b d = absurd (not_both c)
field_lists p Channel m x c k b d = absurd (not_both c)
field_lists p PresentByte m x c k b d = absurd (not_both c)
field_lists p Signal m x c k b d = absurd (not_signal _ b k.node.sorted)
field_lists p Expression m x c k b d = absurd (not_expression _ b k.node.sorted)
field_lists p FirstBranch m x c k b d = refl
field_lists p NextBranch m x c k b d = refl
field_lists p FirstCase m x c k b d = absurd (not_case _ b k.node.sorted)
field_lists p NextCase m x c k b d = absurd (not_case _ b (k d).node.sorted)
field_lists p Binder m x c k b d = absurd (not_both c)
field_lists p Target m x c k b d = absurd (not_both c)

-- Node m has branch c in its field b: a group, or a branch.
pub data Links (p : Bytes) (m c : ℕ) : Type 0 where
  by_group : kind_at p m ≡ 7 → b_at p m ≡ c → Links p m c
  by_branch : kind_at p m ≡ 9 → b_at p m ≡ c → Links p m c

-- A field that names n counts 1.
names_one : (f : Field) (x n : ℕ) → is_child f ≡ true → x ≡ n → names f x n ≡ 1
unfolding names ◌and◌
names_one f x n c e = simp (c, eq-eqb x n e)

-- A field names n or counts 0.
one_names : {A : Type 0} (f : Field) (x n : ℕ) → (is_child f ≡ true → x ≡ n → A) → (names f x n ≡ 0 → A) → A
unfolding names
one_names {A} f x n yes₀ no₀ = go (is_child f and eqb x n) refl
  where
    go : (b : Bool) → (is_child f and eqb x n) ≡ b → A
    go true e = let h = and_both _ _ e in yes₀ h.0 (eqb-true x n h.1)
    go false e = no₀ (simp e)

module _ (p : Bytes) where
  -- A node with the branch in its field b counts,
  counts_b : (m c : ℕ) → is_child (fields_of (kind_at p m)).b ≡ true → b_at p m ≡ c → 1 ≤ names_in p c m
  unfolding names_in
  counts_b m c h e = omega (arith, names_one _ _ c h e)

  links_count : (m c : ℕ) → Links p m c → 1 ≤ names_in p c m
  unfolding fields_of row is_child
  links_count m c (by_group k e) = counts_b m c (ap (λ (j : ℕ). is_child (fields_of j).b) k) e
  links_count m c (by_branch k e) = counts_b m c (ap (λ (j : ℕ). is_child (fields_of j).b) k) e

  -- and one that counts has it there.
  count_links : (m c : ℕ) → m < nodes p → NodeOf is_branch p c → 1 ≤ names_in p c m → Links p m c
  unfolding names_in
  count_links m c l w h =
      let far : c ≡ 65535 → ⊥ = λ z. omega (arith, w.inside, w.shaped.small) in
      let k = kids p m w.shaped l (kind_at p m) refl in
      let q = lists_in (kind_at p m) in
      let is : (f : Field) (x : ℕ) → Kid f p m x → is_child f ≡ true → x ≡ c → lists f ≡ true = λ f x kid g e.
      field_lists p f m x g kid (ap (λ (j : ℕ). is_branch (kind_at p j)) e ∙ w.sorted) (λ z. far (sym e ∙ z)) in
      one_names (fields_of (kind_at p m)).a (a_at p m) c (λ g e. absurd (not_both (sym q.not_a ∙ is _ _ k.0 g e))) λ za.
      one_names (fields_of (kind_at p m)).b (b_at p m) c
      (λ g e. choose (kind_at p m) 7 (λ y. by_group y e) λ d. by_branch (q.only_b (is _ _ k.1 g e) d) e) λ zb.
      one_names (fields_of (kind_at p m)).c (c_at p m) c (λ g e. absurd (not_both (sym q.not_c ∙ is _ _ k.2 g e))) λ zc.
      absurd (omega (arith, za, zb, zc))

  -- What one node, and what two nodes count, is at most what all do.
  one_below : (n m k : ℕ) → m < k → names_in p n m ≤ named_below p n k
  unfolding named_below
  one_below n m zero l = absurd (not-suc-le-zero l)
  one_below n m (suc k) l =
      choose m k (λ e. subst (λ (j : ℕ). names_in p n j ≤ named_below p n k + names_in p n k) (sym e) (omega arith))
      (λ d. omega (arith, one_below n m k (omega (arith, d))))

  two_below : (n m j k : ℕ) → m < j → j < k → names_in p n m + names_in p n j ≤ named_below p n k
  unfolding named_below
  two_below n m j zero l u = absurd (not-suc-le-zero u)
  two_below n m j (suc k) l u =
      choose j k
      (λ e. subst (λ (i : ℕ). names_in p n m + names_in p n i ≤ named_below p n k + names_in p n k) (sym e) (omega (arith, one_below n m k (omega arith))))
      (λ d. omega (arith, two_below n m j k l (omega (arith, d))))

  -- Of two nodes that have it there the one is not below the other.
  pub not_two : (c m j : ℕ) → named p c ≡ 1 → m < j → j < nodes p → Links p m c → Links p j c → ⊥
  unfolding named
  not_two c m j o l u x y = omega (arith, two_below c m j (nodes p) l u, links_count m c x, links_count j c y, o)

  -- The node that has it there.
  pub record Holder (c k : ℕ) : Type 0 where
    pub holder : ℕ
    pub inside : holder < k
    pub links : Links p holder c

  find : (c k : ℕ) → k ≤ nodes p → NodeOf is_branch p c → 1 ≤ named_below p c k → Holder c k
  unfolding named_below
  find c zero u w h = absurd (omega arith)
  find c (suc k) u w h =
      choose (names_in p c k) 0
      (λ z. let r = find c k (omega arith) w (omega arith) in record { holder = r.holder; inside = omega (arith, r.inside); links = r.links })
      (λ d. record { holder = k; inside = omega arith; links = count_links k c (omega arith) w (omega (arith, d)) })

  pub holder_of : (c : ℕ) → NodeOf is_branch p c → named p c ≡ 1 → Holder c (nodes p)
  unfolding named
  holder_of c w o = find c (nodes p) (omega arith) w (omega (arith, o))

  -- A branch is not the last node, where that is a signal,
  branch_not_last : (n : ℕ) → NodeOf is_signal p (nodes p - 1) → NodeOf is_branch p n → suc n < nodes p
  branch_not_last n r w =
      choose (suc n) (nodes p)
      (λ e.
      let q : n ≡ nodes p - 1 = omega arith in
      absurd (not_signal (kind_at p n) w.sorted (ap (λ (k : ℕ). is_signal (kind_at p k)) q ∙ r.sorted)))
      (λ d. omega (arith, d, w.inside))

  -- and where the shape is right each node but the last is named once.
  pub listed_once : first (shape_wrong p) (nodes p) ≡ None → NodeOf is_signal p (nodes p - 1) → ListedOnce p
  unfolding first shape_wrong
  listed_once e r n w =
      let h = branch_not_last n r w in
      let f = (or_none _ _ (nowhere_from (shape_wrong p) (nodes p) 0 n e (omega arith) (omega arith))).1 in
      eqb-true _ _ (not_not _ (simp (ne_eqb (suc n) (nodes p) (λ z. omega arith)) at f))
