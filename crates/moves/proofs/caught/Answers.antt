use Rattle.moves.proofs.NumberLaws.{caught_is}
use Rattle.moves.proofs.caught.Goals as goal

pub returns : goal.returns
returns c = caught_is c.args.r c.requires
