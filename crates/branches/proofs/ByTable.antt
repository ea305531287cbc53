-- A branch is in a list exactly if the table gives it the list's first branch.
-- Assumes nothing.
use mathlib.Core.Path.{◌≡◌, refl, sym, ap, subst, ◌∙◌}
use mathlib.Core.Bool.{Bool, true, false}
use mathlib.Core.List.{List}
use Prim.Native.Nat.{ℕ, zero, suc, ◌+◌, ◌≤◌, ◌<◌}
use native.Mathlib.Nat.{not-suc-le-zero}
use native.Mathlib.Omega.{arith}
use lib.Dec.{eqb}
use lib.ListN.{get_or}
use borrow.Author.Tests.{eq-eqb, ne_eqb}
use Rattle.rules.specs.Bytes.{Bytes}
use Rattle.rules.specs.Layout.{nodes, kind_at, b_at}
use Rattle.rules.specs.Kinds.{is_signal, is_branch}
use Rattle.rules.specs.Scope.{has_branch}
use Rattle.rules.specs.Shaped.{NodeOf}
use Rattle.rules.specs.Tree.{branches_at}
use Rattle.rules.proofs.Static.{not_both}
use Rattle.rules.proofs.Signals.{group_kids, branch_next}
use Rattle.rules.proofs.Branches.{number_here, number_last, number_next, found}
use Rattle.rules.proofs.ByKind.{choose}
use Rattle.cells.specs.Indexed.{Listed, Indexed}
use Rattle.cells.proofs.Listed.{Links, by_group, by_branch, holder_of}
use Rattle.cells.proofs.Passed.{kind_9, branch_of, group_of}

-- A number that is too large, or not a branch's, is in no list.
module _ (p : Bytes) (j k : ℕ) (w : NodeOf is_branch p j) where
  unless_found : (has_branch k (branches_at p j) ≡ true → ⊥) → false ≡ has_branch k (branches_at p j)
  unless_found d = go (has_branch k (branches_at p j)) refl
    where
      go : (b : Bool) → has_branch k (branches_at p j) ≡ b → false ≡ b
      go true e = absurd (d e)
      go false e = refl

  pub too_large : j < k → false ≡ has_branch k (branches_at p j)
  too_large l = unless_found (λ e. omega (arith, (found p j k w e).most))

  pub no_branch_lem : (kind_at p k ≡ 9 → ⊥) → false ≡ has_branch k (branches_at p j)
  no_branch_lem d = unless_found (λ e. d (kind_9 p k (found p j k w e).node))

-- The branch after one that is in a list is in it.
next_in : (f : ℕ) (p : Bytes) (j m : ℕ) → j < f → NodeOf is_branch p j → NodeOf is_branch p m → (b_at p m ≡ 65535 → ⊥)
    → has_branch m (branches_at p j) ≡ true → has_branch (b_at p m) (branches_at p j) ≡ true
next_in zero p j m l w v d h = absurd (not-suc-le-zero l)
next_in (suc f) p j m l w v d h =
    choose j (b_at p m) (λ e. number_here p j w (b_at p m) e) λ far.
    choose j m
    (λ e.
    let n : b_at p j ≡ b_at p m = ap (b_at p) e in
    let dj : b_at p j ≡ 65535 → ⊥ = λ z. d (sym n ∙ z) in
    number_next p j w (b_at p m) far dj ∙ number_here p (b_at p j) (branch_next p j w dj).node (b_at p m) n)
    λ not_here.
    choose (b_at p j) 65535 (λ e. absurd (not_both (sym (number_last p j w m not_here e) ∙ h))) λ dj.
    let k = branch_next p j w dj in
    number_next p j w (b_at p m) far dj
    ∙ next_in f p (b_at p j) m (omega (arith, k.less)) k.node v d (sym (number_next p j w m not_here dj) ∙ h)

module _ (p : Bytes) (index : List ℕ) (x : Listed p index) where
  -- What is in a list has what its first branch has.
  same_in_lem : (f j k : ℕ) → j < f → NodeOf is_branch p j → has_branch k (branches_at p j) ≡ true → get_or index k 0 ≡ get_or index j 0
  same_in_lem zero j k l w h = absurd (not-suc-le-zero l)
  same_in_lem (suc f) j k l w h =
      choose j k (λ e. ap (λ (n : ℕ). get_or index n 0) (sym e)) λ d.
      choose (b_at p j) 65535 (λ e. absurd (not_both (sym (number_last p j w k d e) ∙ h))) λ s.
      let q = branch_next p j w s in
      same_in_lem f (b_at p j) k (omega (arith, q.less)) q.node (sym (number_next p j w k d s) ∙ h) ∙ x.follows j w s

  -- A branch that has j is in the list at j: by the node that names it, from the last node down.
  module _ (j : ℕ) (w : NodeOf is_branch p j) where
    by_holder : (k m : ℕ) → NodeOf is_branch p k → m < nodes p → Links p m k → get_or index k 0 ≡ j
        → (k < m → NodeOf is_branch p m → get_or index m 0 ≡ j → has_branch m (branches_at p j) ≡ true) → has_branch k (branches_at p j) ≡ true
    by_holder k m v l (by_group kind e) h more =
        let own = x.firsts m (group_of p m w.shaped l kind) kind in
        number_here p j w k (sym h ∙ ap (λ (n : ℕ). get_or index n 0) (sym e) ∙ own ∙ e)
    by_holder k m v l (by_branch kind e) h more =
        let b = branch_of p m w.shaped l kind in
        let d : b_at p m ≡ 65535 → ⊥ = λ z. omega (arith, e, v.inside, v.shaped.small) in
        let less : k < m = subst (λ (n : ℕ). n < m) e (branch_next p m b d).less in
        let has : get_or index m 0 ≡ j = sym (x.follows m b d) ∙ ap (λ (n : ℕ). get_or index n 0) e ∙ h in
        subst (λ (n : ℕ). has_branch n (branches_at p j) ≡ true) e (next_in (suc j) p j m (omega arith) w b d (more less b has))

    pub reach : (f k : ℕ) → nodes p ≤ k + f → NodeOf is_branch p k → get_or index k 0 ≡ j → has_branch k (branches_at p j) ≡ true
    reach zero k u v h = absurd (omega (arith, v.inside))
    reach (suc f) k u v h =
        let o = holder_of p k v (x.once k v) in
        by_holder k o.holder v o.inside o.links h (λ l b e. reach f o.holder (omega arith) b e)

  pub by_table : (j k : ℕ) → NodeOf is_branch p j → get_or index j 0 ≡ j → k ≤ j → kind_at p k ≡ 9 → eqb (get_or index k 0) j ≡ has_branch k (branches_at p j)
  by_table j k w own l e = go (has_branch k (branches_at p j)) refl
    where
      go : (b : Bool) → has_branch k (branches_at p j) ≡ b → eqb (get_or index k 0) j ≡ b
      go true h = eq-eqb (get_or index k 0) j (same_in_lem (suc j) j k (omega arith) w h ∙ own)
      go false h = ne_eqb (get_or index k 0) j (λ q. not_both (sym h ∙ reach j w (nodes p) k (omega arith) (branch_of p k w.shaped (omega (arith, w.inside)) e) q))

-- The whole table has the lists.
pub lists_of : {p : Bytes} {index : List ℕ} → Indexed p index → Listed p index
lists_of x = record { once = x.once; room = x.room; firsts = x.firsts; follows = x.follows }

-- A group's list, by the field that was read: what a search of it asks for.
pub group_first : {p : Bytes} {index : List ℕ} {i b : ℕ} → Indexed p index → NodeOf is_signal p i → kind_at p i ≡ 7 → b ≡ b_at p i
    → NodeOf is_branch p b × Indexed p index × (get_or index b 0 ≡ b)
group_first {p} {index} {i} {b} x w k e = rw e ((group_kids p i w k).1.node, x, x.firsts i w k)
