use Rattle.bound.specs.SmallTree.{eval_in}
use borrow.Author.Rules.{rules}
use Rattle.bound.proofs.eval_in.Goals as goal

pub returns : goal.returns
unfolding eval_in
returns c = search rules
