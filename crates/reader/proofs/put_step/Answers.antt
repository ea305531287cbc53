use mathlib.Core.Path.{sym, ap, ◌∙◌}
use Rattle.reader.specs.Held.{step_put, flag}
use Rattle.reader.proofs.put_step.Goals as goal

pub returns-in-Err : goal.returns-in-Err
unfolding step_put flag
returns-in-Err c = (c.put_stop.ensures.0 ∙ ap flag (sym c.in-Err.is), c.put_stop.ensures.1 ∙ ap (step_put _) (sym c.in-Err.is))

pub returns-in-Ok : goal.returns-in-Ok
unfolding step_put flag
returns-in-Ok c = (ap flag (sym c.in-Ok.is), ap (step_put _) (sym c.in-Ok.is))
