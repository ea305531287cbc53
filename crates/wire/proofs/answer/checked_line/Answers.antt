use mathlib.Core.Path.{sym, ap, ◌∙◌}
use Rattle.wire.specs.Lines.{checked_line}
use Rattle.wire.proofs.answer.checked_line.Goals as goal

pub returns-in-Ok : goal.returns-in-Ok
unfolding checked_line
returns-in-Ok c =
    let e = c.accepted_line.ensures in
    record { prefix_len = e.prefix_len; line_after = e.line_after ∙ sym (ap checked_line c.in-Ok.is) }

pub returns-in-Err : goal.returns-in-Err
unfolding checked_line
returns-in-Err c =
    let e = c.refused_line.ensures in
    record { prefix_len = e.prefix_len; line_after = e.line_after ∙ sym (ap checked_line c.in-Err.is) }
