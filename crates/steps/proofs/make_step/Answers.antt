use mathlib.Core.Path.{sym, ◌∙◌}
use Rattle.steps.proofs.StepLaws.{held, gone, step_taken}
use borrow.Author.Rules.{rules}
use Rattle.steps.proofs.make_step.Goals as goal

pub show-seen-requires : goal.show-seen-requires
show-seen-requires c = (search (held, rules), search rules, search rules)

pub advance-moved-requires : goal.advance-moved-requires
advance-moved-requires c = (search (gone, rules), search rules, search rules)

pub returns : goal.returns
returns c = (step_taken c.show-seen.ensures.0 c.advance-moved.ensures.0, c.advance-moved.ensures.1.blank ∙ sym c.requires.0.blank, c.advance-moved.ensures.2)
