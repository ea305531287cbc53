use Rattle.std.proofs.Common.{refl}
use borrow.Author.Tests.{ne_eqb}
use Rattle.rules.specs.Bytes.{◌and◌}
use Rattle.channels.specs.Named.{input_of}
use Rattle.channels.proofs.is_input_of.Goals as goal

pub returns-then-is_input : goal.returns-then-is_input
unfolding input_of ◌and◌
returns-then-is_input c = rw (← c.kind_at-is_input.ensures, ← c.a_at.ensures, c.if-is_input.true) refl

pub returns-else-is_input : goal.returns-else-is_input
unfolding input_of ◌and◌
returns-else-is_input c = rw (← c.kind_at-is_input.ensures, ne_eqb _ _ c.if-is_input.false) refl
