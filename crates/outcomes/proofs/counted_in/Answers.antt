use borrow.Author.Rules.{rules}
use Rattle.rules.specs.Values.{middle_in}
use Rattle.outcomes.proofs.counted_in.Goals as goal

pub returns : goal.returns
unfolding middle_in
returns c = search rules
