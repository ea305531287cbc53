use native.Mathlib.Omega.{arith}
use Rattle.rules.specs.Layout.{records, blocks, record_at, block_at}
use Rattle.table.proofs.node_at.Goals as goal

pub returns : goal.returns
unfolding records blocks record_at block_at
returns c = omega (arith, c.requires)
