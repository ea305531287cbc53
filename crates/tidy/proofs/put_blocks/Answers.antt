use Rattle.tidy.proofs.BlockLaws.{blocks_step, blocks_start, blocks_end}
use Rattle.written.specs.Table.{blocks_for}
use Prim.Native.Nat.{◌-◌}
use mathlib.Core.Path.{refl, sym, ◌∙◌}
use native.Mathlib.Omega.{arith}
use Rattle.tidy.proofs.put_blocks.Goals as goal

pub overflow_add-blocks : goal.overflow_add-blocks
overflow_add-blocks c = omega (arith, c.requires.4)

pub loop-j-init : goal.loop-j-init
loop-j-init c = (refl, blocks_start _ _ _ _)

pub put_block-requires : goal.put_block-requires
unfolding blocks_for
put_block-requires c = (c.requires.0, c.requires.1, c.requires.2, c.requires.3, omega (arith, c.requires.5, c.loop-j.invariant.0), omega (arith, c.requires.4), omega (arith, c.requires.4))

pub loop-j-preserved : goal.loop-j-preserved
loop-j-preserved c = (c.put_block.auto.room ∙ c.loop-j.invariant.0, blocks_step _ _ _ _ _ _ (omega arith) c.put_block.ensures ∙ c.loop-j.invariant.1)

pub shape_of-room : goal.shape_of-room
shape_of-room c = c.loop-j.invariant.0

pub returns : goal.returns
unfolding blocks_for
returns c = sym (blocks_end _ _ _ _ _ (omega arith)) ∙ c.loop-j.invariant.1
