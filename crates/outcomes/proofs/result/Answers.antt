use mathlib.Core.Path.{sym, ◌∙◌}
use Rattle.outcomes.proofs.Numbers.{proper_int, proper_quotient}
use Rattle.outcomes.proofs.Combining.{result_gives, means_number, means_quotient, truth_gives, left_as}
use Rattle.outcomes.proofs.result.Goals as goal

pub number-n-requires : goal.number-n-requires
number-n-requires c = c.if-k-le20.true

pub outcome_if-requires : goal.outcome_if-requires
outcome_if-requires c = (proper_int _, c.requires.0, c.requires.1)

pub returns-then-k-le20 : goal.returns-then-k-le20
returns-then-k-le20 c = let args = c.args in
    let made = c.number-n.ensures in
    result_gives args.k args.x args.y _ (means_number args.k args.x args.y c.if-k-le20.true made.0) made.1 c.outcome_if.ensures

pub outcome_if-requires-then-k-eq21 : goal.outcome_if-requires-then-k-eq21
outcome_if-requires-then-k-eq21 c = (rw c.divide.ensures (proper_quotient _ _), c.requires.0, c.requires.1)

pub returns-then-k-eq21 : goal.returns-then-k-eq21
returns-then-k-eq21 c = let args = c.args in
    let is = c.if-k-eq21.true in
    result_gives args.k args.x args.y _ (c.divide.ensures ∙ means_quotient args.k args.x args.y is)
    (c.quotient_left.ensures ∙ sym (left_as args.x args.y is)) c.outcome_if-then-k-eq21.ensures

pub returns : goal.returns
returns c = let args = c.args in truth_gives args.k args.x args.y _ c.if-k-le20.false c.if-k-eq21.false c.test.ensures c.truth.ensures
