use Rattle.letters.proofs.WroteLaws.{wrote_none, one_space}
use Rattle.letters.proofs.put_spaces.Goals as goal

pub loop-init : goal.loop-init
loop-init c = wrote_none _ _

pub loop-preserved : goal.loop-preserved
loop-preserved c = one_space c.loop.counter 32 c.loop.invariant c.put_byte-to.ensures
