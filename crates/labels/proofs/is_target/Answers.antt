use mathlib.Core.Path.{◌∙◌}
use Rattle.labels.proofs.is_target.Goals as goal

pub returns-then-table-lt1009 : goal.returns-then-table-lt1009
returns-then-table-lt1009 c = c.is_noted.ensures ∙ c.requires.known c.if-table-lt1009.true _
