use Rattle.steps.proofs.StepLaws.{held, gone, step_taken}
use mathlib.Core.Path.{sym, ◌∙◌}
use Rattle.peek.proofs.watch_step.Goals as goal

pub show_listed-seen-requires : goal.show_listed-seen-requires
show_listed-seen-requires c = (held c.requires.0, c.requires.2, c.requires.3, c.requires.4)

pub advance-moved-requires : goal.advance-moved-requires
advance-moved-requires c = (gone c.requires.0 c.requires.0.well c.show_listed-seen.ensures.1, c.requires.1, c.show_listed-seen.ensures.3)

pub returns : goal.returns
returns c = (step_taken c.show_listed-seen.ensures.0 c.advance-moved.ensures.0, c.advance-moved.ensures.1.blank ∙ sym c.requires.0.blank, c.show_listed-seen.ensures.2, c.advance-moved.ensures.2)
