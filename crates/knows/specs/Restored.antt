-- One crossing's state under another's program.
-- Assumes nothing: these are definitions.
use Rattle.std.specs.Prelude.{◌≡◌, true}
use Rattle.rules.specs.Verdicts.{refused_after}
use Rattle.rules.specs.Bytes.{Bytes}
use Rattle.rules.specs.Layout.{cells, checks_of}
use Rattle.rules.specs.WellFormed.{well_formed}
use Rattle.rules.specs.Accepted.{Accepted}
use Rattle.rules.specs.Calls.{RunOutcome, no_step}
use Rattle.rules.specs.declared.Refusal.TheVariants.{OtherProgram}

-- A mate restored one crossing's state under another's program with the same cells: the state is well-formed for program p, and program q is
-- another one, accepted, with as many cells and another sum.
pub record Restored (p q st : Bytes) : Type 0 where
  pub well : well_formed p st ≡ true
  pub accepts : Accepted q
  pub same_cells : cells p ≡ cells q
  pub other_sum : checks_of p ≡ checks_of q → ⊥

-- What a run answers then: code 15, no work done, and the lent memory as before.
abbrev pub told_apart : Bytes → Bytes → RunOutcome
told_apart st out = record { answer = refused_after OtherProgram 0 no_step; state = st; output = out }
