use mathlib.Core.Path.{refl}
use borrow.Author.Tests.{ne_eqb}
use Rattle.rules.specs.Bytes.{◌or◌}
use Rattle.texts.specs.Tokens.{ends_line}
use Rattle.tokens.proofs.ends_line.Goals as goal

pub returns-then-b-eq10 : goal.returns-then-b-eq10
unfolding ends_line ◌or◌
returns-then-b-eq10 c = rw c.if-b-eq10.true refl

pub returns-else-b-eq10 : goal.returns-else-b-eq10
unfolding ends_line ◌or◌
returns-else-b-eq10 c = rw (ne_eqb _ 10 c.if-b-eq10.false) refl
