use Rattle.sealing.proofs.RecordLaws.{sealed_long, sealed_is}
use Rattle.tidy.proofs.BlockLaws.{blocks_step, blocks_start, blocks_end}
use native.Mathlib.Omega.{arith}
use mathlib.Core.Path.{refl, sym, ◌∙◌}
use Rattle.sealing.proofs.put_blocks.Goals as goal

pub loop-j-init : goal.loop-j-init
loop-j-init c = (refl, blocks_start _ _ _ _)

pub put_block-requires : goal.put_block-requires
put_block-requires c = (c.requires.0, c.requires.1, omega (arith, c.requires.0, c.requires.2, c.loop-j.invariant.0, c.loop-j-test.true), omega (arith, c.requires.0), omega (arith, c.requires.0, c.loop-j-test.true))

pub loop-j-preserved : goal.loop-j-preserved
loop-j-preserved c = (c.put_block.auto.room ∙ c.loop-j.invariant.0, blocks_step _ _ _ _ _ _ c.loop-j-test.true c.put_block.ensures ∙ c.loop-j.invariant.1)

pub shape_of-room : goal.shape_of-room
shape_of-room c = c.loop-j.invariant.0

pub returns : goal.returns
returns c = (sealed_long _ _ _, sealed_is _ _ _ _ (sym (blocks_end _ _ _ _ _ c.loop-j-test.false) ∙ c.loop-j.invariant.1))
