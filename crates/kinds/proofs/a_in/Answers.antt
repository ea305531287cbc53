use borrow.Author.Rules.{rules}
use Rattle.kinds.specs.Rows.{a_in}
use Rattle.kinds.proofs.a_in.Goals as goal

pub child_numbered-requires : goal.child_numbered-requires
unfolding a_in
child_numbered-requires c = search rules

pub returns : goal.returns
unfolding a_in
returns c = c.child_numbered.ensures
