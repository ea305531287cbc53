use Rattle.outcomes.specs.Outcome.{value_in}
use borrow.Author.Rules.{rules}
use Rattle.outcomes.proofs.value_in.Goals as goal

pub returns : goal.returns
unfolding value_in
returns c = search rules
