-- What the promises fix: any two calls that keep one give the same answer and the same memory for every input. (That the wrong programs which the
-- paper names keep none is shown in crate mission.)
-- Assumes nothing.
use Rattle.rules.specs.Verdicts.{CheckAnswer}
use mathlib.Core.Path.{◌≡◌, sym, ◌∙◌}
use Rattle.rules.specs.Bytes.{Bytes}
use Rattle.rules.specs.Calls.{StartOutcome, RunOutcome}
use Rattle.rules.specs.Promised.{Checks, Starts, Runs}

-- two calls that keep a promise are equal at every input
pub one_check : {f g : Bytes → CheckAnswer} → Checks f → Checks g → (p : Bytes) → f p ≡ g p
one_check a b p = a.as_ruled p ∙ sym (b.as_ruled p)

pub one_start : {f g : Bytes → Bytes → StartOutcome} → Starts f → Starts g → (p st : Bytes) → f p st ≡ g p st
one_start a b p st = a.as_ruled p st ∙ sym (b.as_ruled p st)

pub one_run : {f g : Bytes → Bytes → Bytes → Bytes → RunOutcome} → Runs f → Runs g
    → (p st recs out : Bytes) → f p st recs out ≡ g p st recs out
one_run a b p st recs out = a.as_ruled p st recs out ∙ sym (b.as_ruled p st recs out)
