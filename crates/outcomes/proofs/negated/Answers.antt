use Rattle.outcomes.proofs.Combining.{negated_none, negated_done}
use Rattle.outcomes.proofs.Counted.{work_is}
use native.Mathlib.Omega.{arith}
use Rattle.outcomes.proofs.negated.Goals as goal

pub returns-in_default : goal.returns-in_default
returns-in_default c = negated_none c.args.r c.plain_word.ensures c.in_default.is

pub truth-requires : goal.truth-requires
truth-requires c = (omega arith, omega (arith, c.requires, work_is c.args.r, c.counted_in.ensures.0, c.counted_in.ensures.1))

pub returns : goal.returns
returns c = negated_done c.args.r c.plain_word.ensures c.in-Some.is c.counted_in.ensures.0 c.requires c.truth.ensures
