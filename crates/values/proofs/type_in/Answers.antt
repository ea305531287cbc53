use Rattle.rules.specs.Values.{type_in}
use borrow.Author.Rules.{rules}
use Rattle.values.proofs.type_in.Goals as goal

pub returns : goal.returns
unfolding type_in
returns c = search rules
