use Rattle.reaching.proofs.ReachLaws.{reach_below, reach_above}
use Rattle.reaching.proofs.reached.Goals as goal

pub returns-then-y-x : goal.returns-then-y-x
returns-then-y-x c = reach_below _ _ _ _ c.requires.0 c.requires.1 c.if-y-x.true

pub returns-else-y-x : goal.returns-else-y-x
returns-else-y-x c = reach_above _ _ _ _ c.requires.0 c.requires.1 c.if-y-x.false
