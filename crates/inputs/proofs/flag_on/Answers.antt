use Rattle.rules.specs.Layout.{flag_on}
use Rattle.inputs.proofs.flag_on.Goals as goal

pub returns : goal.returns
unfolding flag_on
returns c = rw (c.from-flags.ensures, c.byte_at.ensures)
