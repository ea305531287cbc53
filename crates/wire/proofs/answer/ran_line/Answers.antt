use mathlib.Core.Path.{sym, ap, ◌∙◌}
use Rattle.wire.specs.Lines.{ran_line}
use Rattle.wire.proofs.answer.ran_line.Goals as goal

pub returns-in-Ok : goal.returns-in-Ok
unfolding ran_line
returns-in-Ok c =
    let e = c.steps_line.ensures in
    record { prefix_len = e.prefix_len; line_after = e.line_after ∙ sym (ap ran_line c.in-Ok.is) }

pub returns-in-Err : goal.returns-in-Err
unfolding ran_line
returns-in-Err c =
    let e = c.stopped_line.ensures in
    record { prefix_len = e.prefix_len; line_after = e.line_after ∙ sym (ap ran_line c.in-Err.is) }
