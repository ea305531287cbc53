-- A step that is made.
-- Assumes nothing: these are definitions.
use Rattle.std.specs.Prelude.{◌≡◌, true, ◌≤◌}
use Rattle.rules.specs.Bytes.{Bytes}
use Rattle.rules.specs.Values.{type_of}
use Rattle.rules.specs.Tree.{root}
use Rattle.rules.specs.Typing.{type_s}
use Rattle.rules.specs.WellFormed.{well_formed}
use Rattle.rules.specs.Bound.{bound}
use Rattle.rules.specs.Update.{Made, step_of}
use Rattle.rules.specs.declared.Value.{Value}
use Rattle.rules.specs.declared.Tally.{Tally}
use Rattle.promises.specs.Small.{Small}
use Rattle.promises.specs.Valid.{Valid}

-- It gives a valid value of the root's type, leaves a well-formed state, and works at most the bound.
pub record StepMade (p rec st : Bytes) : Type 0 where
  pub output : Value
  pub state : Bytes
  pub tally : Tally
  pub made : step_of p rec st ≡ Made output state tally
  pub valid : Valid output
  pub typed : type_of output ≡ type_s (root p)
  pub well : well_formed p state ≡ true
  pub bytes : Small state
  pub within : tally.work ≤ bound p
