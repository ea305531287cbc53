use Rattle.rules.specs.Values.{maybe_of}
use Rattle.typing.proofs.is_maybe.Goals as goal

pub returns : goal.returns
unfolding maybe_of
returns c = rw (c.wide.ensures.0, c.wide-2.ensures.0, c.wide-3.ensures.0)
