use mathlib.Core.Path.{refl}
use native.Mathlib.Omega.{arith}
use Rattle.rules.specs.Bytes.{byte_at}
use Rattle.turns.proofs.BlockLaws.{no_edition, few, many, said}
use Rattle.turns.proofs.blocks_taken.Goals as goal

pub returns-then-block-gt1 : goal.returns-then-block-gt1
unfolding byte_at
returns-then-block-gt1 c = (no_edition _ refl c.if-block-gt1.true, omega arith, omega arith)

pub overflow_cast-n : goal.overflow_cast-n
overflow_cast-n c = omega arith

pub returns-then-n-lt1 : goal.returns-then-n-lt1
unfolding byte_at
returns-then-n-lt1 c = (few _ refl refl c.if-block-gt1.false c.if-n-lt1.true, omega arith, omega arith)

pub returns-then-n-gt24 : goal.returns-then-n-gt24
unfolding byte_at
returns-then-n-gt24 c = (many _ refl refl c.if-block-gt1.false c.if-n-gt24.true, omega arith, omega arith)

pub returns : goal.returns
unfolding byte_at
returns c = (
  said _ refl refl c.if-block-gt1.false c.if-n-lt1.false c.if-n-gt24.false,
  omega (arith, c.if-n-lt1.false),
  omega (arith, c.if-n-gt24.false),
)
