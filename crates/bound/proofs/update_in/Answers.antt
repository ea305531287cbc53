use Rattle.bound.specs.SmallTree.{update_in}
use borrow.Author.Rules.{rules}
use Rattle.bound.proofs.update_in.Goals as goal

pub returns : goal.returns
unfolding update_in
returns c = search rules
