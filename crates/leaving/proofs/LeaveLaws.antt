-- What a switch that catches a value and a group that takes a branch do with their cells.
-- Assumes nothing.
use mathlib.Core.Path.{◌≡◌, ap}
use mathlib.Core.List.{List}
use Prim.Native.Nat.{ℕ}
use Rattle.rules.specs.Bytes.{Bytes, ◌or◌}
use Rattle.rules.specs.Layout.{has_cell, cell, hold, hold_branch}
use Rattle.rules.specs.Tree.{signal_at}
use Rattle.rules.specs.Reset.{reset_s}
use Rattle.rules.specs.declared.Node.{Node}
use Rattle.rules.specs.declared.Value.{Value}
use Rattle.current.specs.Current.{swapped}
use Rattle.moves.specs.Lent.{Celled, Placed}
use Rattle.moves.proofs.KindLaws.{pick_clear, pick_held}
use Rattle.moves.proofs.ReadyLaws.{celled}

-- The cell of a switch and of a group is in the table and in the state.
module _ {p : Bytes} {index : List ℕ} {s i : ℕ} {n : Node} where
  pub switch_celled : Placed 6 p index s i n → Celled index s i
  unfolding has_cell ◌or◌
  switch_celled h = celled h.node h.table h.cells (ap has_cell h.kind)

  pub group_celled : Placed 7 p index s i n → Celled index s i
  unfolding has_cell ◌or◌
  group_celled h = celled h.node h.table h.cells (ap has_cell h.kind)

-- A group enters a branch, and a switch catches a value: the content of the cell, then the part that is left to start.
module _ (p st : Bytes) {c k : ℕ} (b : c ≡ k) {st₂ st₁ : Bytes} (n : ℕ) (e : st₁ ≡ reset_s (signal_at p n) st₂) where
  pub enter_done : (which : ℕ) (v : Value) → st₂ ≡ hold_branch st c which v → st₁ ≡ reset_s (signal_at p n) (hold_branch st k which v)
  enter_done which v h = rw (h, b) at e

  module _ {m : ℕ} (a : m ≡ cell st c) (v : Value) (h : st₂ ≡ hold st c v) (x y : ℕ) where
    pub switch_left : n ≡ x → m ≡ 0 → st₁ ≡ swapped k (signal_at p x) (signal_at p y) st v
    unfolding swapped
    switch_left q z = pick_clear st a b _ _ z (rw (q, h, b) at e)

    pub switch_again : n ≡ y → (m ≡ 0 → ⊥) → st₁ ≡ swapped k (signal_at p x) (signal_at p y) st v
    unfolding swapped
    switch_again q z = pick_held st a b _ _ z (rw (q, h, b) at e)
