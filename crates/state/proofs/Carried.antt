-- What a recursion over a program and a state carries, from a node to its children; and the cell of a node.
-- Assumes nothing.
use mathlib.Core.Path.{◌≡◌, refl, ap, ◌∙◌}
use mathlib.Core.Bool.{Bool, true, false}
use mathlib.Core.List.{List}
use Prim.Native.Nat.{ℕ, ◌+◌, ◌≤◌, ◌<◌}
use native.Mathlib.Omega.{arith}
use borrow.Author.Tests.{leb-true, eqb-true, eqb-false}
use lib.Dec.{eqb}
use lib.ListN.{length, get_or}
use Rattle.rules.specs.Bytes.{Bytes, ◌or◌}
use Rattle.rules.specs.Layout.{kind_at, a_at, has_cell, cells, cells_before, cell_at, state_length}
use Rattle.rules.specs.Kinds.{is_signal}
use Rattle.rules.specs.Shaped.{NodeOf}
use Rattle.rules.specs.Tree.{Expr, Signal, input, time, ext, expr_at, signal_at}
use Rattle.rules.proofs.Static.{and_both}
use Rattle.rules.proofs.Kids.{Child}
use Rattle.rules.proofs.Nodes.{signal_input, signal_time}
use Rattle.rules.proofs.Signals.{less, ext_tree}
use Rattle.rules.proofs.CellNumbers.{cell_below}
use Rattle.state.specs.Stated.{Stated}

-- A child, in a state of the same length.
pub carried : {s t : ℕ → Bool} {p : Bytes} {index : List ℕ} {size size₁ n x : ℕ} → Stated s p index size n → size₁ ≡ size → Child t p n x → Stated t p index size₁ x
carried w e k = record { node = k.node; indexed = w.indexed; enough = rw e w.enough }

-- The cell of a node that has one stands in the state.
fits : (p : Bytes) (k size : ℕ) → k < cells p → state_length p ≤ size → cell_at k + 8 ≤ size
unfolding state_length cell_at
fits p k size h e = omega arith

module _ (p : Bytes) (index : List ℕ) (size n : ℕ) (w : Stated is_signal p index size n) where
  pub number : get_or index n 0 ≡ cells_before p n
  number = w.indexed.numbers n w.node

  own : has_cell (kind_at p n) ≡ true → (n < length index) × (cell_at (get_or index n 0) + 8 ≤ size)
  own e = (
    omega (arith, w.indexed.room, w.node.inside),
    rw number (fits p (cells_before p n) size (cell_below p n w.node.inside e) w.enough),
  )

  pub own_delay : kind_at p n ≡ 4 → (n < length index) × (cell_at (get_or index n 0) + 8 ≤ size)
  unfolding has_cell ◌or◌
  own_delay e = own (ap has_cell e)

  pub own_switch : kind_at p n ≡ 6 → (n < length index) × (cell_at (get_or index n 0) + 8 ≤ size)
  unfolding has_cell ◌or◌
  own_switch e = own (ap has_cell e)

  pub own_group : kind_at p n ≡ 7 → (n < length index) × (cell_at (get_or index n 0) + 8 ≤ size)
  unfolding has_cell ◌or◌
  own_group e = own (ap has_cell e)

one_two_three : (m : ℕ) → 1 ≤ m → m ≤ 3 → (m ≡ 1 → ⊥) → (m ≡ 2 → ⊥) → m ≡ 3
one_two_three m l u a b = omega (arith, a, b)

-- No kind but input, time and ext is left: what holds of these holds.
module _ (p : Bytes) (n : ℕ) (w : NodeOf is_signal p n) where
  pub quiet : {A : Type 0} {m : ℕ} (P : Signal → Type 0) → ((c : ℕ) → P (input n c)) → P (time n) → ((e : Expr) → P (ext n e)) → m ≡ kind_at p n
      → (((((A × (m ≡ 4 → ⊥)) × (m ≡ 5 → ⊥)) × (m ≡ 6 → ⊥)) × (m ≡ 7 → ⊥)) × (m ≡ 8 → ⊥))
      → P (signal_at p n)
  unfolding is_signal
  quiet P at-input at-time at-ext e r =
      let b = and_both _ _ w.sorted in
      let l = leb-true 1 (kind_at p n) b.0 in
      let u = less 3 (less 4 (less 5 (less 6 (less 7 (leb-true (kind_at p n) 8 b.1) (λ h. r.1 (e ∙ h))) (λ h. r.0.1 (e ∙ h))) (λ h. r.0.0.1 (e ∙ h)))
      (λ h. r.0.0.0.1 (e ∙ h))) (λ h. r.0.0.0.0.1 (e ∙ h)) in
      by_kind P at-input at-time at-ext (eqb (kind_at p n) 1) (eqb (kind_at p n) 2) refl refl l u
    where
      by_kind : (P : Signal → Type 0) → ((c : ℕ) → P (input n c)) → P (time n) → ((e : Expr) → P (ext n e))
          → (a b : Bool) → eqb (kind_at p n) 1 ≡ a → eqb (kind_at p n) 2 ≡ b → 1 ≤ kind_at p n → kind_at p n ≤ 3 → P (signal_at p n)
      by_kind P at-input at-time at-ext true b q₁ q₂ l u = rw (signal_input p n (eqb-true _ _ q₁)) (at-input (a_at p n))
      by_kind P at-input at-time at-ext false true q₁ q₂ l u = rw (signal_time p n (eqb-true _ _ q₂)) at-time
      by_kind P at-input at-time at-ext false false q₁ q₂ l u =
          rw (ext_tree p n w (one_two_three _ l u (eqb-false _ _ q₁) (eqb-false _ _ q₂))) (at-ext (expr_at p (a_at p n)))
