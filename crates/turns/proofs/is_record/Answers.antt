use native.Mathlib.Omega.{arith}
use borrow.Author.Tests.{lt-ltb, le-ltb}
use Rattle.rules.specs.Bytes.{◌and◌}
use Rattle.turns.specs.Decided.{is_record}
use Rattle.turns.proofs.is_record.Goals as goal

pub returns-then-steps-lt-MOST_RECORDS : goal.returns-then-steps-lt-MOST_RECORDS
unfolding is_record ◌and◌
returns-then-steps-lt-MOST_RECORDS c = rw (lt-ltb c.args.steps 4096 (omega (arith, c.if-steps-lt-MOST_RECORDS.true)))

pub returns-else-steps-lt-MOST_RECORDS : goal.returns-else-steps-lt-MOST_RECORDS
unfolding is_record ◌and◌
returns-else-steps-lt-MOST_RECORDS c = rw (le-ltb c.args.steps 4096 (omega (arith, c.if-steps-lt-MOST_RECORDS.false)))
