use Rattle.mending.proofs.MendLaws.{time_none, time_fits_lem, time_bad}
use native.Mathlib.Omega.{arith}
use mathlib.Core.Path.{sym, ◌∙◌}
use Rattle.mending.proofs.mend_time.Goals as goal

pub returns-then-time : goal.returns-then-time
returns-then-time c = time_none _ (sym c.last_time-time.ensures ∙ c.if-time.true)

pub returns-then-time-le2147483647 : goal.returns-then-time-le2147483647
returns-then-time-le2147483647 c = time_fits_lem _ (λ h. c.if-time.false (c.last_time-time.ensures ∙ h)) (omega (arith, c.last_time-time.ensures, c.if-time-le2147483647.true))

pub returns : goal.returns
returns c = c.set_time.ensures ∙ time_bad _ (λ h. c.if-time.false (c.last_time-time.ensures ∙ h)) (omega (arith, c.last_time-time.ensures, c.if-time-le2147483647.false))
