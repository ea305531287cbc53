use borrow.Author.Rules.{rules}
use Rattle.kinds.specs.Rows.{b_in}
use Rattle.kinds.proofs.b_in.Goals as goal

pub child_numbered-requires : goal.child_numbered-requires
unfolding b_in
child_numbered-requires c = search rules

pub returns : goal.returns
unfolding b_in
returns c = c.child_numbered.ensures
