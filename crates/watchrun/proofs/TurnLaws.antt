-- The turns come to an end: each one with more to come has counted a step. And every state fits its room.
-- Assumes nothing.
use Rattle.std.specs.Prelude.{if◌then◌else◌}
use mathlib.Core.Path.{◌≡◌, refl, sym, ◌∙◌}
use mathlib.Core.Bool.{Bool, true, false}
use Prim.Native.Nat.{ℕ, suc, ◌+◌, ◌-◌, ◌≤◌, ◌<◌}
use native.Mathlib.Omega.{arith}
use Rattle.rules.specs.Bytes.{Bytes}
use Rattle.rules.specs.Layout.{nodes, cells, cell_at}
use Rattle.rules.specs.Accepted.{Accepted}
use Rattle.rules.proofs.Rooted.{shaped_of}
use Rattle.cells.proofs.Numbered.{cells_most}
use Rattle.turns.specs.Decided.{most_records}
use Rattle.printing.specs.Turns.{turn_of, Turned}
use Rattle.printing.proofs.TurnLaws.{counts}

-- a turn with more to come
pub goes_on : (p piece : Bytes) (steps total : ℕ) (st : Bytes) {line st₁ : Bytes} {size k total₁ : ℕ} {more : Bool}
    → Turned (turn_of p piece steps total st) line size more k total₁ st₁ → more ≡ true → k ≡ steps + 1
goes_on p piece steps total st t e =
    let a = counts p piece steps total st (sym t.more_is ∙ e) in
    let b : suc steps ≡ steps + 1 = omega arith in
    t.steps_is ∙ a ∙ b

-- the turns that may still come, and that they are fewer after one
abbrev pub turns_left : Bool → ℕ → ℕ
turns_left more done = if more then most_records + 1 - done else 0

pub fewer : (more : Bool) (done steps : ℕ) → done ≤ most_records → (more ≡ true → steps ≡ done + 1) → turns_left more steps < turns_left true done
fewer true done steps h e = let f : steps ≡ done + 1 = e refl in omega (arith, h, f)
fewer false done steps h e = omega (arith, h)

-- no program has more than 1,008 cells
pub most_state : (p : Bytes) (held : ℕ) → Accepted p → held ≡ cells p → cell_at held ≤ 8072
unfolding cells cell_at
most_state p held a e = omega (arith, e, cells_most p (nodes p), (shaped_of p a).small)
