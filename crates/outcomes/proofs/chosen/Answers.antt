use Rattle.outcomes.proofs.Combining.{arm_neither, arm_first, arm_second}
use Rattle.outcomes.proofs.chosen.Goals as goal

pub returns-in_default : goal.returns-in_default
returns-in_default c = arm_neither c.args.r c.args.yes c.args.no c.plain_word.ensures c.in_default.is

pub returns-then-w-eq1 : goal.returns-then-w-eq1
returns-then-w-eq1 c = arm_first c.args.r c.args.yes c.args.no c.plain_word.ensures c.in-Some.is c.if-w-eq1.true c.tally_in-count.ensures

pub returns : goal.returns
returns c = arm_second c.args.r c.args.yes c.args.no c.plain_word.ensures c.in-Some.is c.if-w-eq1.false c.tally_in-count.ensures
