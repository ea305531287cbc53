use mathlib.Core.Path.{◌∙◌}
use Rattle.reader.proofs.StepIn as I
use Rattle.reader.proofs.put_close.Goals as goal

pub returns-in-Err : goal.returns-in-Err
returns-in-Err c = (λ ns. I.unclosed_in _ c.requires _ _ _ _ _ _ c.put_stop.ensures.1 c.put_stop.ensures.0 c.in-Err.is ∙ c.close.ensures _, I.unclosed_same _ c.requires _ _ c.put_stop.ensures.1)

pub returns-in-Ok : goal.returns-in-Ok
returns-in-Ok c = (λ ns. I.closed_in _ c.requires _ _ _ _ c.in-Ok.is ∙ c.close.ensures _, I.closed_same _ c.requires _)
