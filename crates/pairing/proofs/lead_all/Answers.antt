use mathlib.Core.Path.{refl, ◌∙◌}
use Prim.Native.Nat.{◌-◌}
use Rattle.rules.proofs.Rooted.{shaped_of}
use Rattle.reaching.proofs.ReachLaws.{lead_none, lead_done}
use native.Mathlib.Omega.{arith}
use Rattle.pairing.proofs.lead_all.Goals as goal

pub loop-m-init : goal.loop-m-init
loop-m-init c = (refl, lead_none _ _ (omega (arith, c.requires.1, c.requires.2)))

pub lead-requires : goal.lead-requires
lead-requires c = (shaped_of _ c.requires.0, omega (arith, c.requires.1), c.loop-m.invariant.1)

pub loop-m-preserved : goal.loop-m-preserved
loop-m-preserved c = (c.lead.auto.ends ∙ c.loop-m.invariant.0, c.lead.ensures)

pub shape_of-ends : goal.shape_of-ends
shape_of-ends c = c.loop-m.invariant.0

pub returns : goal.returns
returns c = lead_done _ _ _ c.requires.0 (omega (arith, c.requires.1)) c.loop-m.invariant.1
