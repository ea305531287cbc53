-- The start of an accepted program.
-- Assumes nothing: these are definitions.
use Rattle.std.specs.Prelude.{◌≡◌, true, not, List, ℕ, eqb, length, Ok}
use Rattle.rules.specs.Verdicts.{StartAnswer}
use Rattle.rules.specs.Bytes.{Bytes}
use Rattle.rules.specs.Layout.{state_length}
use Rattle.rules.specs.WellFormed.{well_formed}
use Rattle.rules.specs.Calls.{StartOutcome, start_outcome, refuse_if}
use Rattle.rules.specs.declared.Refusal.TheVariants.{StateFault}
use Rattle.cells.specs.Indexed.{Indexed}

-- A start whose program is accepted: only the room's length is left to refuse.
abbrev pub start_rest : Bytes → Bytes → StartOutcome
start_rest p st = start_outcome p st (refuse_if (not (eqb (length st) (state_length p))) StateFault)

-- From state st to st₁: the start's answer and state, the table of the program's cells, and, where the answer is Ready, a state that its steps
-- can go on from.
pub record Begun (p : Bytes) (index : List ℕ) (st st₁ : Bytes) (answer : StartAnswer) : Type 0 where
  pub answer_is : answer ≡ (start_rest p st).answer
  pub state_is : st₁ ≡ (start_rest p st).state
  pub indexed : Indexed p index
  pub well : answer ≡ Ok tt → well_formed p st₁ ≡ true
