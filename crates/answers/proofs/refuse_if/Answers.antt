use Rattle.rules.specs.Calls.{refuse_if}
use Rattle.answers.proofs.refuse_if.Goals as goal

pub returns-then-wrong : goal.returns-then-wrong
unfolding refuse_if
returns-then-wrong c = rw c.if-wrong.true

pub returns-else-wrong : goal.returns-else-wrong
unfolding refuse_if
returns-else-wrong c = rw c.if-wrong.false
