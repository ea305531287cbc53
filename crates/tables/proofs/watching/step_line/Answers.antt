use mathlib.Core.Path.{ap, ◌∙◌}
use Rattle.rules.specs.Values.{unpacked}
use Rattle.rules.specs.Layout.{time_in}
use Rattle.lines.specs.Shown.{shown_line}
use Rattle.tables.proofs.watching.step_line.Goals as goal

pub returns-clause-line_after : goal.returns-clause-line_after
unfolding time_in
returns-clause-line_after c =
    let v = c.unpack-v.ensures ∙ ap unpacked c.u64_at.ensures in
    c.shown_line.ensures.line_after ∙ (λ i. shown_line (c.u32_at-time.ensures i) (v i) c.args.work c.args.row.now c.args.entries)
