use Rattle.table.proofs.Past.{past}
use Rattle.rules.specs.Layout.{type_at, records, blocks}
use Rattle.rules.specs.Bytes.{byte_at}
use mathlib.Core.Path.{refl, sym}
use native.Mathlib.Omega.{arith}
use Rattle.table.proofs.declared.Goals as goal

pub record_at-at-requires : goal.record_at-at-requires
unfolding records blocks
record_at-at-requires c = omega arith

pub returns-then-i-p : goal.returns-then-i-p
unfolding type_at byte_at
returns-then-i-p c = rw c.record_at-at.ensures.0 refl

pub returns-else-i-p : goal.returns-else-i-p
returns-else-i-p c = sym (past _ _ c.requires (omega arith))
