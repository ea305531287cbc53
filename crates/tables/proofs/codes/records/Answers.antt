use Rattle.std.proofs.Common.{arith}
use Rattle.rules.specs.Layout.{records, blocks}
use Rattle.tables.proofs.codes.records.Goals as goal

pub returns : goal.returns
unfolding records blocks
returns c = omega arith
