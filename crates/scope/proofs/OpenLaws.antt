-- What a group offers to its parts, and a node that ends the way up.
-- Assumes nothing.
use Rattle.std.specs.Prelude.{if◌then◌else◌}
use mathlib.Core.Path.{◌≡◌, refl, sym, ap, ◌∙◌}
use mathlib.Core.Bool.{Bool, true, false}
use mathlib.Core.List.{List, [], ◌∷◌}
use Prim.Native.Nat.{ℕ, zero, suc, ◌+◌, ◌≤◌, ◌<◌}
use native.Mathlib.Omega.{arith}
use native.Mathlib.Decide.{ℕ_discrete}
use borrow.Author.Tests.{eq-eqb, ne_eqb}
use lib.Dec.{eqb}
use lib.ListN.{length, get_or, set}
use lib.Seq.{get_or-set_same, get_or-set_other}
use Rattle.rules.specs.Bytes.{Bytes, ◌and◌}
use Rattle.rules.specs.Layout.{kind_at, b_at}
use Rattle.rules.specs.Scope.{Offers, onward}
use Rattle.rules.specs.Tree.{branches_at}
use Rattle.scope.specs.Open.{is_open, open_from, offers_below, limit_below}

-- None of so many numbers is open: nothing is offered.
pub none_open : (p : Bytes) (doors : List ℕ) (low left : ℕ) → ((m : ℕ) → low ≤ m → m < low + left → is_open p doors m ≡ false)
    → open_from p doors low left ≡ []
unfolding open_from
none_open p doors low zero h = refl
none_open p doors low (suc left) h =
    rw (h low (omega arith) (omega arith)) (none_open p doors (suc low) left λ m a b. h m (omega arith) (omega arith))

-- The same groups are open from low on: the same is offered.
same_open : (p : Bytes) (doors other : List ℕ) (low left : ℕ) → ((m : ℕ) → low ≤ m → is_open p doors m ≡ is_open p other m)
    → open_from p doors low left ≡ open_from p other low left
unfolding open_from
same_open p doors other low zero h = refl
same_open p doors other low (suc left) h =
    let e = same_open p doors other (suc low) left λ m a. h m (omega arith) in
    λ i. if h low (omega arith) i then branches_at p (b_at p low) ∷ e i else e i

-- A group that is opened: it is open, and of every other number nothing has changed.
module _ (p : Bytes) (doors : List ℕ) (n : ℕ) (k : kind_at p n ≡ 7) (room : b_at p n < length doors) (free : get_or doors (b_at p n) 0 ≡ 0) where
  opened : List ℕ
  opened = set doors (b_at p n) (suc n)

  itself : is_open p (set doors (b_at p n) (suc n)) n ≡ true
  unfolding is_open ◌and◌
  itself = rw (eq-eqb (kind_at p n) 7 k, get_or-set_same doors (b_at p n) (suc n) 0 room) (eq-eqb (suc n) (suc n) refl)

  pub another : (m : ℕ) → (m ≡ n → ⊥) → is_open p (set doors (b_at p n) (suc n)) m ≡ is_open p doors m
  unfolding is_open
  another m d = ap (λ (b : Bool). eqb (kind_at p m) 7 and b) (go (ℕ_discrete (b_at p m) (b_at p n)))
    where
      go : Dec (b_at p m ≡ b_at p n) → eqb (get_or (set doors (b_at p n) (suc n)) (b_at p m) 0) (suc m) ≡ eqb (get_or doors (b_at p m) 0) (suc m)
      go (yes e) =
          rw (e, get_or-set_same doors (b_at p n) (suc n) 0 room, free)
          (ne_eqb (suc n) (suc m) (λ z. d (omega arith)) ∙ sym (ne_eqb 0 (suc m) (λ z. omega arith)))
      go (no e) = ap (λ (x : ℕ). eqb x (suc m)) (get_or-set_other doors (b_at p n) (b_at p m) (suc n) 0 e)

  -- Its branches come first, where no group up to it was open.
  first_open : (low left : ℕ) → low ≤ n → n < low + left → ((m : ℕ) → m ≤ n → is_open p doors m ≡ false)
      → open_from p (set doors (b_at p n) (suc n)) low left ≡ branches_at p (b_at p n) ∷ open_from p doors low left
  unfolding open_from
  first_open low zero a b h = absurd (omega arith)
  first_open low (suc left) a b h = go (ℕ_discrete low n) λ e. first_open (suc low) left (omega arith) (omega arith) h
    where
      go : Dec (low ≡ n)
          → ((low ≡ n → ⊥) → open_from p (set doors (b_at p n) (suc n)) (suc low) left ≡ branches_at p (b_at p n) ∷ open_from p doors (suc low) left)
          → open_from p (set doors (b_at p n) (suc n)) low (suc left) ≡ branches_at p (b_at p n) ∷ open_from p doors low (suc left)
      go (yes e) more =
          rw (e, itself, h n (omega arith))
          (ap (λ (o : Offers). branches_at p (b_at p n) ∷ o) (same_open p (set doors (b_at p n) (suc n)) doors (suc n) left λ m c. another m (λ z. omega arith)))
      go (no e) more = rw (another low e, h low a) (more e)

  -- In edition two the limit stays; in edition one only this group counts.
  pub group_offers : (ed limit : ℕ) → n < limit → ((m : ℕ) → m ≤ n → is_open p doors m ≡ false)
      → offers_below p (set doors (b_at p n) (suc n)) (limit_below ed n limit)
      ≡ branches_at p (b_at p n) ∷ onward ed (offers_below p doors limit)
  unfolding offers_below onward limit_below
  group_offers zero limit l h =
      first_open 0 (suc n) (omega arith) (omega arith) h
      ∙ ap (λ (o : Offers). branches_at p (b_at p n) ∷ o) (none_open p doors 0 (suc n) λ m a b. h m (omega arith))
  group_offers (suc ed) limit l h = first_open 0 limit (omega arith) (omega arith) h

-- Where the way up ends nothing is offered: every open group has a number above.
pub cut_offers : (p : Bytes) (doors : List ℕ) (n : ℕ) → ((m : ℕ) → m < n → is_open p doors m ≡ false) → offers_below p doors n ≡ []
unfolding offers_below
cut_offers p doors n h = none_open p doors 0 n λ m a b. h m (omega arith)
