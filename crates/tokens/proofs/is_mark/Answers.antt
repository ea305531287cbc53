use mathlib.Core.Path.{refl}
use borrow.Author.Tests.{ne_eqb}
use Rattle.rules.specs.Bytes.{◌or◌}
use Rattle.texts.specs.Tokens.{is_mark}
use Rattle.tokens.proofs.is_mark.Goals as goal

pub returns-then-b-eq40 : goal.returns-then-b-eq40
unfolding is_mark ◌or◌
returns-then-b-eq40 c = rw c.if-b-eq40.true refl

pub returns-else-b-eq40 : goal.returns-else-b-eq40
unfolding is_mark ◌or◌
returns-else-b-eq40 c = rw (ne_eqb _ 40 c.if-b-eq40.false) refl
