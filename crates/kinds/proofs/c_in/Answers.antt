use borrow.Author.Rules.{rules}
use Rattle.kinds.specs.Rows.{c_in}
use Rattle.kinds.proofs.c_in.Goals as goal

pub child_numbered-requires : goal.child_numbered-requires
unfolding c_in
child_numbered-requires c = search rules

pub returns : goal.returns
unfolding c_in
returns c = c.child_numbered.ensures
