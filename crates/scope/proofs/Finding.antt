-- A case's target is offered exactly if it is a branch whose list's door is open, of a group below the limit.
-- Assumes nothing.
use Rattle.std.specs.Prelude.{if◌then◌else◌}
use mathlib.Core.Path.{◌≡◌, refl, sym, ap, subst, ◌∙◌}
use mathlib.Core.Bool.{Bool, true, false}
use mathlib.Core.List.{List, [], ◌∷◌}
use Prim.Native.Nat.{ℕ, zero, suc, ◌+◌, ◌≤◌, ◌<◌}
use native.Mathlib.Omega.{arith}
use native.Mathlib.Decide.{ℕ_discrete}
use borrow.Author.Tests.{eqb-true, eq-eqb, ltb-true, ltb-false}
use lib.Dec.{eqb, ltb}
use lib.ListN.{get_or}
use Rattle.rules.specs.Bytes.{Bytes, ◌and◌, ◌or◌}
use Rattle.rules.specs.Layout.{nodes, kind_at, b_at}
use Rattle.rules.specs.Kinds.{is_signal, is_branch}
use Rattle.rules.specs.Shaped.{NodeOf}
use Rattle.rules.specs.Scope.{Offers, has_branch, is_offered}
use Rattle.rules.specs.Tree.{branches_at}
use Rattle.rules.proofs.Static.{not_both, and_both, or_left, or_right}
use Rattle.rules.proofs.Signals.{group_kids}
use Rattle.rules.proofs.Branches.{found}
use Rattle.cells.specs.Indexed.{Listed}
use Rattle.cells.proofs.Listed.{by_group, not_two}
use Rattle.cells.proofs.Passed.{kind_9}
use Rattle.branches.proofs.ByTable.{by_table, reach}
use Rattle.scope.specs.Open.{is_open, open_from, offers_below}

-- The branches of an open group are offered.
pub in_open : (p : Bytes) (doors : List ℕ) (n k : ℕ) → is_open p doors n ≡ true → has_branch k (branches_at p (b_at p n)) ≡ true
    → (low left : ℕ) → low ≤ n → n < low + left → is_offered k (open_from p doors low left) ≡ true
unfolding open_from is_offered
in_open p doors n k o h low zero a b = absurd (omega arith)
in_open p doors n k o h low (suc left) a b =
    go (ℕ_discrete low n) (is_open p doors low) refl λ e. in_open p doors n k o h (suc low) left (omega arith) (omega arith)
  where
    first : (e : low ≡ n) → is_offered k (branches_at p (b_at p low) ∷ open_from p doors (suc low) left) ≡ true
    first e = or_left _ _ (ap (λ (m : ℕ). has_branch k (branches_at p (b_at p m))) e ∙ h)

    later : is_offered k (open_from p doors (suc low) left) ≡ true → is_offered k (branches_at p (b_at p low) ∷ open_from p doors (suc low) left) ≡ true
    later e = or_right (has_branch k (branches_at p (b_at p low))) _ e

    go : Dec (low ≡ n) → (t : Bool) → is_open p doors low ≡ t → ((low ≡ n → ⊥) → is_offered k (open_from p doors (suc low) left) ≡ true)
        → is_offered k (if t then branches_at p (b_at p low) ∷ open_from p doors (suc low) left else open_from p doors (suc low) left) ≡ true
    go (yes e) true q more = first e
    go (yes e) false q more = absurd (not_both (sym q ∙ ap (is_open p doors) e ∙ o))
    go (no d) true q more = later (more d)
    go (no d) false q more = more d

-- What is offered is a branch of an open group.
pub record Behind (p : Bytes) (doors : List ℕ) (k low top : ℕ) : Type 0 where
  pub group : ℕ
  pub least : low ≤ group
  pub most : group < top
  pub opened : is_open p doors group ≡ true
  pub listed : has_branch k (branches_at p (b_at p group)) ≡ true

pub open_in : (p : Bytes) (doors : List ℕ) (k low left : ℕ) → is_offered k (open_from p doors low left) ≡ true → Behind p doors k low (low + left)
unfolding open_from is_offered ◌or◌
open_in p doors k low zero e = absurd (not_both e)
open_in p doors k low (suc left) e = go (is_open p doors low) refl (has_branch k (branches_at p (b_at p low))) refl e λ f. open_in p doors k (suc low) left f
  where
    wider : Behind p doors k (suc low) (suc low + left) → Behind p doors k low (low + suc left)
    wider b = record { group = b.group; least = omega (arith, b.least); most = omega (arith, b.most); opened = b.opened; listed = b.listed }

    go : (t : Bool) → is_open p doors low ≡ t → (u : Bool) → has_branch k (branches_at p (b_at p low)) ≡ u
        → is_offered k (if t then branches_at p (b_at p low) ∷ open_from p doors (suc low) left else open_from p doors (suc low) left) ≡ true
        → (is_offered k (open_from p doors (suc low) left) ≡ true → Behind p doors k (suc low) (suc low + left))
        → Behind p doors k low (low + suc left)
    go true q true h f more = record { group = low; least = omega arith; most = omega arith; opened = q; listed = h }
    go true q false h f more = wider (more (ap (λ (b : Bool). b or is_offered k (open_from p doors (suc low) left)) (sym h) ∙ f))
    go false q u h f more = wider (more f)

-- One number is below another, or not.
side : {A : Type 0} (m n : ℕ) → (m < n → A) → (n ≤ m → A) → A
side {A} m n f g = go (ltb m n) refl
  where
    go : (b : Bool) → ltb m n ≡ b → A
    go true e = f (ltb-true m n e)
    go false e = g (ltb-false m n e)

-- By the tables: homes gives each branch the first of its list, and an open group's first branch has its door.
module _ (p : Bytes) (homes doors : List ℕ) (x : Listed p homes)
    (held : (g m : ℕ) → get_or doors g 0 ≡ suc m → NodeOf is_signal p m × (kind_at p m ≡ 7) × (b_at p m ≡ g)) where
  pub offered_by : (limit k n : ℕ) → NodeOf is_branch p k → get_or doors (get_or homes k 0) 0 ≡ suc n → n < limit
      → is_offered k (offers_below p doors limit) ≡ true
  unfolding offers_below is_open ◌and◌
  offered_by limit k n w d l =
      let h = held (get_or homes k 0) n d in
      let first = (group_kids p n h.0 h.1).1.node in
      let own : get_or doors (b_at p n) 0 ≡ suc n = ap (λ (g : ℕ). get_or doors g 0) h.2 ∙ d in
      in_open p doors n k (rw (eq-eqb (kind_at p n) 7 h.1) (eq-eqb _ _ own))
      (reach p homes x (b_at p n) first (nodes p) k (omega arith) w (sym h.2)) 0 limit (omega arith) (omega arith)

  pub record Found (limit k : ℕ) : Type 0 where
    pub group : ℕ
    pub branch : NodeOf is_branch p k
    pub door : get_or doors (get_or homes k 0) 0 ≡ suc group
    pub counts : group < limit
    pub below : k < group

  pub by_offered : ((m : ℕ) → is_open p doors m ≡ true → NodeOf is_signal p m) → (limit k : ℕ) → is_offered k (offers_below p doors limit) ≡ true → Found limit k
  unfolding offers_below is_open
  by_offered node limit k e =
      let b = open_in p doors k 0 limit e in
      let o = and_both _ _ b.opened in
      let w = node b.group b.opened in
      let kind = eqb-true _ _ o.0 in
      let first = (group_kids p b.group w kind).1.node in
      let f = found p (b_at p b.group) k first b.listed in
      let home : get_or homes k 0 ≡ b_at p b.group =
      eqb-true _ _ (by_table p homes x (b_at p b.group) k first (x.firsts b.group w kind) f.most (kind_9 p k f.node) ∙ b.listed) in
      record {
        group = b.group;
        branch = f.node;
        door = ap (λ (g : ℕ). get_or doors g 0) home ∙ eqb-true _ _ o.1;
        counts = omega (arith, b.most);
        below = omega (arith, f.most, (group_kids p b.group w kind).1.less);
      }

  -- A group that is entered finds its door free: no other group has its first branch.
  pub free_door : (n : ℕ) → NodeOf is_signal p n → kind_at p n ≡ 7 → ((m : ℕ) → m ≤ n → is_open p doors m ≡ false) → get_or doors (b_at p n) 0 ≡ 0
  unfolding is_open ◌and◌
  free_door n w k above = go (get_or doors (b_at p n) 0) refl
    where
      go : (d : ℕ) → get_or doors (b_at p n) 0 ≡ d → d ≡ 0
      go zero e = refl
      go (suc m) e =
          let h = held (b_at p n) m e in
          let own : get_or doors (b_at p m) 0 ≡ suc m = ap (λ (g : ℕ). get_or doors g 0) h.2 ∙ e in
          let opened : is_open p doors m ≡ true = rw (eq-eqb (kind_at p m) 7 h.1) (eq-eqb _ _ own) in
          side m (suc n) (λ l. absurd (not_both (sym (above m (omega arith)) ∙ opened)))
          (λ l. absurd (not_two p (b_at p n) n m (x.once (b_at p n) (group_kids p n w k).1.node) (omega arith) h.0.inside (by_group k refl) (by_group h.1 h.2)))
