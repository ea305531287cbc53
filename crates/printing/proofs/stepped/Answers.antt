use mathlib.Core.Path.{ap, ◌∙◌}
use Rattle.rules.specs.Values.{unpacked}
use Rattle.rules.specs.Layout.{time_in}
use Rattle.lines.specs.Print.{step_line}
use Rattle.printing.proofs.stepped.Goals as goal

pub returns : goal.returns
unfolding time_in
returns c = let line = c.step_line.ensures in
    record {
      prefix_len = line.prefix_len;
      line_after = line.line_after ∙ (λ i. step_line (c.u32_at-time.ensures i) ((c.unpack-v.ensures ∙ ap unpacked c.u64_at.ensures) i) c.args.work);
    }
