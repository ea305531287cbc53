-- Each cell of a program whose shape is right stands in the root's tree exactly once, and no other number stands there as a cell.
-- Assumes nothing.
use Rattle.std.specs.Prelude.{if◌then◌else◌, None}
use mathlib.Core.Path.{◌≡◌, refl, sym, ap, ◌∙◌}
use mathlib.Core.Bool.{Bool, true, false}
use Prim.Native.Nat.{ℕ, zero, suc, ◌+◌, ◌≤◌, ◌<◌}
use native.Mathlib.Omega.{arith}
use lib.Dec.{eqb, ltb}
use borrow.Author.Tests.{lt-ltb, le-ltb, eq-eqb, ne_eqb, ltb-true, ltb-false}
use Rattle.rules.specs.Bytes.{Bytes, first, how_many}
use Rattle.rules.specs.Layout.{kind_at, nodes, has_cell, cells_before, cells}
use Rattle.rules.specs.Format.{length_wrong}
use Rattle.rules.specs.Shape.{shape_wrong}
use Rattle.rules.specs.Tree.{root}
use Rattle.rules.specs.Size.{is_cell, times_s}
use Rattle.rules.proofs.ByKind.{choose}
use Rattle.rules.proofs.Counting.{total, one}
use Rattle.rules.proofs.Weights.{own_as}
use Rattle.rules.proofs.Sizes.{times_weight}
use Rattle.rules.proofs.Once.{weighed_once}

-- A place more that passes: the number c is now taken too.
one_more : (k c : ℕ) → one (ltb k c) + one (eqb c k) ≡ one (ltb k (c + 1))
one_more k c =
    choose c k (λ e. rw (le-ltb k c (omega arith), eq-eqb c k e, lt-ltb k (c + 1) (omega arith)))
    (λ d. go d (ltb k c) refl)
  where
    go : (c ≡ k → ⊥) → (b : Bool) → ltb k c ≡ b → one (ltb k c) + one (eqb c k) ≡ one (ltb k (c + 1))
    go d true e = rw (e, ne_eqb c k d, lt-ltb k (c + 1) (omega (arith, ltb-true k c e)))
    go d false e = rw (e, ne_eqb c k d, le-ltb k (c + 1) (omega (arith, d, ltb-false k c e)))

-- One place has the number k if k is below the count, and none otherwise.
taken : (test : ℕ → Bool) (k n : ℕ) → total n (λ i. if test i then one (eqb (how_many test i) k) else 0) ≡ one (ltb k (how_many test n))
unfolding total how_many
taken test k zero = sym (ap one (le-ltb k 0 (omega arith)))
taken test k (suc n) = ap (λ (x : ℕ). x + (if test n then one (eqb (how_many test n) k) else 0)) (taken test k n) ∙ go (test n) (how_many test n)
  where
    go : (b : Bool) (c : ℕ) → one (ltb k c) + (if b then one (eqb c k) else 0) ≡ one (ltb k (c + (if b then 1 else 0)))
    go true c = one_more k c
    go false c =
        let e : c ≡ c + 0 = omega arith in
        let d : one (ltb k c) + 0 ≡ one (ltb k c) = omega arith in
        d ∙ ap (λ (x : ℕ). one (ltb k x)) e

module _ (p : Bytes) (l : length_wrong p ≡ false) (e : first (shape_wrong p) (nodes p) ≡ None) (h : 0 < nodes p) where
  -- Each cell of the state stands in the root's tree once, and no other does.
  pub cells_stand : (k : ℕ) → times_s k (root p) ≡ one (ltb k (cells p))
  unfolding is_cell own_as cells_before cells
  cells_stand k =
      times_weight (root p) k ∙ weighed_once p l e h 0 (is_cell k) ∙ taken (λ m. has_cell (kind_at p m)) k (nodes p)

  pub cells_once : (k : ℕ) → times_s k (root p) ≤ 1
  cells_once k = go (ltb k (cells p)) (cells_stand k)
    where
      go : (b : Bool) → times_s k (root p) ≡ one b → times_s k (root p) ≤ 1
      go true q = omega arith
      go false q = omega arith
