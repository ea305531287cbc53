use Rattle.rules.specs.Layout.{channel_type}
use Rattle.rules.specs.Values.{maybe_of}
use borrow.Author.Tests.{lt-ltb, le-ltb}
use Rattle.typing.proofs.channel_type.Goals as goal

pub returns-then-c-lt4 : goal.returns-then-c-lt4
unfolding channel_type maybe_of
returns-then-c-lt4 c = simp (lt-ltb _ _ c.if-c-lt4.true)

pub returns-else-c-lt4 : goal.returns-else-c-lt4
unfolding channel_type maybe_of
returns-else-c-lt4 c = simp (le-ltb _ _ c.if-c-lt4.false)
