use mathlib.Core.Path.{◌∙◌}
use Rattle.moves.proofs.NumberLaws.{later_by, later_fits}
use Rattle.moves.proofs.later.Goals as goal

pub after-requires : goal.after-requires
after-requires c = later_fits c.args.u c.args.w _ c.together.ensures c.requires

pub returns : goal.returns
returns c = λ st. c.after.ensures.0 st ∙ later_by c.args.u c.args.w c.args.r st c.together.ensures
