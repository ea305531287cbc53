use native.Mathlib.Omega.{arith}
use Rattle.rules.specs.Layout.{records, blocks}
use Rattle.forms.proofs.PartLaws.{no_node}
use Rattle.forms.proofs.fields.Goals as goal

pub node-requires : goal.node-requires
unfolding records blocks
node-requires c = let b = c.requires in (omega (arith, c.if-i-q.true), omega (arith, c.if-i-q.true, b.few))

pub returns : goal.returns
returns c = let b = c.requires in no_node _ _ b.whole (omega (arith, c.if-i-q.false))
