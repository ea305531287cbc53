-- The way up from a part of a node: it goes by that node, and no other.
-- Assumes nothing.
use mathlib.Core.Path.{◌≡◌, refl, sym, ap, subst, ◌∙◌}
use mathlib.Core.Bool.{Bool, true, false}
use Prim.Native.Nat.{ℕ, zero, suc, ◌<◌}
use native.Mathlib.Nat.{not-suc-le-zero}
use native.Mathlib.Omega.{arith}
use lib.Dec.{eqb}
use lib.ListN.{length}
use Rattle.rules.specs.Bytes.{Bytes, ◌or◌, ◌and◌}
use Rattle.rules.specs.Layout.{edition, most_nodes, nodes, kind_at, a_at, b_at}
use Rattle.rules.specs.Kinds.{row, is_branch, fields_of}
use Rattle.rules.specs.Shape.{is_child, named}
use Rattle.rules.specs.Shaped.{NodeOf}
use Rattle.rules.specs.Tree.{branches_at}
use Rattle.rules.specs.Scope.{Marks, mark, is_marked, Offers, is_offered, has_branch}
use Rattle.rules.proofs.Static.{not_both, or_right}
use Rattle.rules.proofs.Signals.{branch_on, branch_next}
use Rattle.rules.proofs.Branches.{number_here, number_last, number_next}
use Rattle.rules.proofs.ByKind.{choose}
use Rattle.declarative.specs.WayUp.{Above, Binds, let_definition, let_body, switch_second, branch_body, take_present, Sees, enters, goes_up, UntilOf, first_case, later_case, Passes, by_let_body, by_branch_body, by_branch_list, Arrives, by_group_body, by_group_branches, GroupOf, arrives, passes, passes_on, BranchOf, this, later}
use Rattle.declarative.proofs.Agreeing.{marked_own, marked_kept, mark_long}
use Rattle.declarative.proofs.Parents.{one_above, not_a_b, not_a_c, not_b_c, child_a, child_b, child_c, binds_above, passes_above, arrives_above, until_above, case_above, Table}

-- A branch is of the list exactly when the definition finds its number.
pub listed : (p : Bytes) (k n : ℕ) → NodeOf is_branch p n → BranchOf p k n → has_branch k (branches_at p n) ≡ true
unfolding has_branch
listed p k n w this = number_here p n w n refl
listed p k n w (later d h) =
    ap (has_branch k) (branch_on p n w d) ∙ or_right (eqb n k) _ (listed p k (b_at p n) (branch_next p n w d).node h)

-- The other way, along the list, whose numbers fall.
list_has : (p : Bytes) (k f n : ℕ) → n < f → NodeOf is_branch p n → has_branch k (branches_at p n) ≡ true → BranchOf p k n
list_has p k zero n l w e = absurd (not-suc-le-zero l)
list_has p k (suc f) n l w e =
    choose n k (λ (q : n ≡ k). subst (λ (j : ℕ). BranchOf p j n) q this) λ d.
    choose (b_at p n) 65535
    (λ q. absurd (not_both (sym (number_last p n w k d q) ∙ e)))
    (λ r. let c = branch_next p n w r in
    later r (list_has p k f (b_at p n) (omega (arith, c.less)) c.node (sym (number_next p n w k d r) ∙ e)))

-- With steps enough.
pub has_listed : (p : Bytes) (k n : ℕ) → NodeOf is_branch p n → has_branch k (branches_at p n) ≡ true → BranchOf p k n
has_listed p k n w e = list_has p k (suc n) n (omega arith) w e

-- What is seen from node n is marked; what the way up from it comes to is offered.
pub record Seen (p : Bytes) (M : Marks) (n : ℕ) : Type 0 where
  pub long : length M ≡ most_nodes
  pub all : (x : ℕ) → Sees p x n → is_marked M x ≡ true

pub record Reached (p : Bytes) (O : Offers) (n : ℕ) : Type 0 where
  pub all : (g k : ℕ) → GroupOf p g n → BranchOf p k (b_at p g) → is_offered k O ≡ true

pub record ReachedC (p : Bytes) (O : Offers) (n : ℕ) : Type 0 where
  pub all : (u g k : ℕ) → UntilOf p u n → GroupOf p g u → BranchOf p k (b_at p g) → is_offered k O ≡ true

-- The kinds that bind, and those that are passed.
abbrev pub binding : ℕ → Bool
binding k = eqb k 5 or eqb k 6 or eqb k 9 or eqb k 29

abbrev pub passing : ℕ → Bool
passing k = eqb k 5 or eqb k 9

module _ (p : Bytes) (n c : ℕ) where
  binds_kind : Binds p n c → binding (kind_at p n) ≡ true
  unfolding ◌or◌
  binds_kind (let_definition k e) = ap (λ (j : ℕ). binding j) k
  binds_kind (let_body k e) = ap (λ (j : ℕ). binding j) k
  binds_kind (switch_second k e) = ap (λ (j : ℕ). binding j) k
  binds_kind (branch_body k e) = ap (λ (j : ℕ). binding j) k
  binds_kind (take_present k e) = ap (λ (j : ℕ). binding j) k

  -- The kinds that are passed.
  passes_kind : Passes p n c → passing (kind_at p n) ≡ true
  unfolding ◌or◌
  passes_kind (by_let_body k e) = ap (λ (j : ℕ). passing j) k
  passes_kind (by_branch_body k e) = ap (λ (j : ℕ). passing j) k
  passes_kind (by_branch_list k e) = ap (λ (j : ℕ). passing j) k

  -- A group is of kind 7.
  arrives_kind : Arrives p n c → kind_at p n ≡ 7
  arrives_kind (by_group_body k e) = k
  arrives_kind (by_group_branches k e) = k

  -- Other kinds do not.
  pub no_binds : (k : ℕ) → kind_at p n ≡ k → binding k ≡ false → Binds p n c → ⊥
  no_binds k e f b = not_both (sym f ∙ ap (λ (j : ℕ). binding j) (sym e) ∙ binds_kind b)

  -- Nor are they passed,
  pub no_passes : (k : ℕ) → kind_at p n ≡ k → passing k ≡ false → Passes p n c → ⊥
  no_passes k e f b = not_both (sym f ∙ ap (λ (j : ℕ). passing j) (sym e) ∙ passes_kind b)

  -- nor are they groups.
  pub no_arrives : (k : ℕ) → kind_at p n ≡ k → (k ≡ 7 → ⊥) → Arrives p n c → ⊥
  no_arrives k e d a = d (sym e ∙ arrives_kind a)

-- Node c is a part of node n.
module _ (p : Bytes) (t : Table p) (n c : ℕ) (l : n < nodes p) (less : c < n) where
  once_c : named p c ≡ 1
  once_c = t.once c (omega arith)

  -- Parts of a binder that do not see its variable, and a let's definition, which is not passed.
  pub switch_a : kind_at p n ≡ 6 → a_at p n ≡ c → Binds p n c → ⊥
  unfolding fields_of row is_child
  switch_a q e (let_definition k f) = omega arith
  switch_a q e (let_body k f) = omega arith
  switch_a q e (switch_second k f) = not_a_c p c once_c n l (child_a p n 6 q refl) (child_c p n 6 q refl) e f
  switch_a q e (branch_body k f) = omega arith
  switch_a q e (take_present k f) = omega arith

  -- A switch's event.
  pub switch_b : kind_at p n ≡ 6 → b_at p n ≡ c → Binds p n c → ⊥
  unfolding fields_of row is_child
  switch_b q e (let_definition k f) = omega arith
  switch_b q e (let_body k f) = omega arith
  switch_b q e (switch_second k f) = not_b_c p c once_c n l (child_b p n 6 q refl) (child_c p n 6 q refl) e f
  switch_b q e (branch_body k f) = omega arith
  switch_b q e (take_present k f) = omega arith

  -- A branch's next.
  pub branch_b : kind_at p n ≡ 9 → b_at p n ≡ c → Binds p n c → ⊥
  unfolding fields_of row is_child
  branch_b q e (let_definition k f) = omega arith
  branch_b q e (let_body k f) = omega arith
  branch_b q e (switch_second k f) = omega arith
  branch_b q e (branch_body k f) = not_a_b p c once_c n l (child_a p n 9 q refl) (child_b p n 9 q refl) f e
  branch_b q e (take_present k f) = omega arith

  -- A take's maybe.
  pub take_a : kind_at p n ≡ 29 → a_at p n ≡ c → Binds p n c → ⊥
  unfolding fields_of row is_child ◌and◌
  take_a q e (let_definition k f) = omega arith
  take_a q e (let_body k f) = omega arith
  take_a q e (switch_second k f) = omega arith
  take_a q e (branch_body k f) = omega arith
  take_a q e (take_present k f) = not_a_c p c once_c n l (child_a p n 29 q refl) (child_c p n 29 q refl) e f

  -- A take's arm for absent.
  pub take_b : kind_at p n ≡ 29 → b_at p n ≡ c → Binds p n c → ⊥
  unfolding fields_of row is_child ◌and◌
  take_b q e (let_definition k f) = omega arith
  take_b q e (let_body k f) = omega arith
  take_b q e (switch_second k f) = omega arith
  take_b q e (branch_body k f) = omega arith
  take_b q e (take_present k f) = not_b_c p c once_c n l (child_b p n 29 q refl) (child_c p n 29 q refl) e f

  -- A let's definition.
  pub let_a : kind_at p n ≡ 5 → a_at p n ≡ c → Passes p n c → ⊥
  unfolding fields_of row is_child
  let_a q e (by_let_body k f) = not_a_b p c once_c n l (child_a p n 5 q refl) (child_b p n 5 q refl) e f
  let_a q e (by_branch_body k f) = omega arith
  let_a q e (by_branch_list k f) = omega arith

  module _ (up : Above p n c) where
    only : (m : ℕ) → m < nodes p → Above p m c → m ≡ n
    only m h a = one_above p c once_c m n h l a up

    -- The way up from the part to a binder: it is the node, or seen from there.
    sees_part : {A : Type 0} (x : ℕ) → Sees p x c → (x ≡ n → Binds p n c → A) → (Sees p x n → A) → A
    sees_part x (enters h b) f g = let e = only x h (binds_above p x c b) in f e (subst (λ (m : ℕ). Binds p m c) e b)
    sees_part x (goes_up m h a s) f g = g (subst (λ (j : ℕ). Sees p x j) (only m h a) s)

    -- The part sees what the node sees.
    pub keep : (M : Marks) → (Binds p n c → ⊥) → Seen p M n → Seen p M c
    keep M d s = record { long = s.long; all = λ x h. sees_part x h (λ e b. absurd (d b)) (λ g. s.all x g) }

    -- Or the node's own variable too.
    pub more : (M : Marks) → Seen p M n → Seen p (mark M n) c
    more M s =
        let i : n < length M = omega (arith, s.long, t.shaped.small) in
        record {
          long = mark_long M n ∙ s.long;
          all = λ x h. sees_part x h
              (λ e b. subst (λ (y : ℕ). is_marked (mark M n) y ≡ true) (sym e) (marked_own M n i)) (λ g. marked_kept M n x i (s.all x g));
        }

    -- The way up from the part to a group: it is the node, or passes by it.
    group_part : {A : Type 0} (g : ℕ) → GroupOf p g c → (g ≡ n → Arrives p n c → A) → (Passes p n c → GroupOf p g n → A)
        → (0 < edition p → Arrives p n c → GroupOf p g n → A) → A
    group_part g (arrives h a) f k w = let e = only g h (arrives_above p g c a) in f e (subst (λ (m : ℕ). Arrives p m c) e a)
    group_part g (passes_on m h two a r) f k w =
        let e = only m h (arrives_above p m c a) in w two (subst (λ (j : ℕ). Arrives p j c) e a) (subst (λ (j : ℕ). GroupOf p g j) e r)
    group_part g (passes m h a r) f k w =
        let e = only m h (passes_above p m c a) in k (subst (λ (j : ℕ). Passes p j c) e a) (subst (λ (j : ℕ). GroupOf p g j) e r)

    -- No group is reached from the part; those that are from the node; the node itself is the group.
    pub stop : (O : Offers) → (Arrives p n c → ⊥) → (Passes p n c → ⊥) → Reached p O c
    stop O d e = record { all = λ g k h b. group_part g h (λ q a. absurd (d a)) (λ a r. absurd (e a)) (λ t a r. absurd (d a)) }

    -- The groups that are reached from the node.
    pub pass : (O : Offers) → (Arrives p n c → ⊥) → Reached p O n → Reached p O c
    pass O d s = record { all = λ g k h b. group_part g h (λ q a. absurd (d a)) (λ a r. s.all g k r b) (λ t a r. absurd (d a)) }

    -- The node itself is the group, or in edition two one that is reached from it.
    pub arrive : (O : Offers) → (Passes p n c → ⊥) → ((k : ℕ) → BranchOf p k (b_at p n) → is_offered k O ≡ true)
        → (0 < edition p → (g k : ℕ) → GroupOf p g n → BranchOf p k (b_at p g) → is_offered k O ≡ true) → Reached p O c
    arrive O d s far = record {
      all = λ g k h b.
          group_part g h (λ q a. s k (subst (λ (j : ℕ). BranchOf p k (b_at p j)) q b)) (λ a r. absurd (d a)) (λ t a r. far t g k r b);
    }

    -- The way up from a case to its until: it is the node, or the node is the case before.
    until_part : {A : Type 0} (u : ℕ) → UntilOf p u c → (u ≡ n → kind_at p n ≡ 8 → A) → (kind_at p n ≡ 10 → UntilOf p u n → A) → A
    until_part u (first_case h k e) f g = let q = only u h (until_above p u c k e) in f q (subst (λ (j : ℕ). kind_at p j ≡ 8) q k)
    until_part u (later_case m h k e r) f g =
        let q = only m h (case_above p m c k e) in g (subst (λ (j : ℕ). kind_at p j ≡ 10) q k) (subst (λ (j : ℕ). UntilOf p u j) q r)

    -- The cases of an until, and the next of a case.
    pub its_cases : (O : Offers) → kind_at p n ≡ 8 → Reached p O n → ReachedC p O c
    its_cases O q s = record {
      all = λ u g k h r b. until_part u h (λ e z. s.all g k (subst (λ (j : ℕ). GroupOf p g j) e r) b) (λ z w. absurd (omega arith));
    }

    -- The next of a case.
    pub next_case : (O : Offers) → kind_at p n ≡ 10 → ReachedC p O n → ReachedC p O c
    next_case O q s = record {
      all = λ u g k h r b. until_part u h (λ e z. absurd (omega arith)) (λ z w. s.all u g k w r b);
    }
