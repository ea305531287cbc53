use Rattle.bound.specs.SmallTree.{eval_in, update_in}
use borrow.Author.Rules.{rules}
use Rattle.bound.proofs.bounds.Goals as goal

pub returns : goal.returns
unfolding eval_in update_in
returns c = search rules
