use native.Mathlib.Omega.{arith}
use Rattle.rules.specs.Bytes.{byte_at}
use Rattle.format.proofs.RowLaws.{by_row}
use Rattle.format.proofs.node_wrong.Goals as goal

pub returns : goal.returns
unfolding byte_at
returns c = by_row _ (λ i. omega (arith, c.shared_slice_known-1.given i)) _ c.node_at-at.ensures.0 c.low_at-low.ensures
    c.u32_at.ensures c.row_of-row.ensures c.row_wrong.ensures c.either.ensures
