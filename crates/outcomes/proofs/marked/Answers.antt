use native.Mathlib.Omega.{arith}
use Rattle.outcomes.proofs.Counted.{more_fits, marked_stuck, marked_gives, marked_still}
use Rattle.outcomes.proofs.marked.Goals as goal

pub returns-then-r-eq0 : goal.returns-then-r-eq0
returns-then-r-eq0 c = marked_stuck c.args.r c.if-r-eq0.true

pub overflow_add-result : goal.overflow_add-result
overflow_add-result c = omega (arith, more_fits c.args.r 32768 (omega (arith, c.counted_in.ensures.0)) (omega arith))

pub returns-then-counted_in-lt32768 : goal.returns-then-counted_in-lt32768
returns-then-counted_in-lt32768 c = marked_gives c.args.r c.if-r-eq0.false c.requires (omega (arith, c.counted_in.ensures.0))

pub returns : goal.returns
returns c = marked_still c.args.r c.if-r-eq0.false c.requires (omega (arith, c.counted_in.ensures.0))
