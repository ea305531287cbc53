use native.Mathlib.Omega.{arith}
use borrow.Author.Tests.{lt-ltb, le-ltb}
use Rattle.inputs.proofs.Flags.{no_flag}
use Rattle.rules.specs.Layout.{channel_value, word_on, event_on}
use Rattle.rules.specs.Bytes.{byte_at}
use Rattle.rules.specs.Values.{maybe_of}
use Rattle.inputs.proofs.channel_value.Goals as goal

pub returns-then-c-lt4 : goal.returns-then-c-lt4
unfolding channel_value word_on
returns-then-c-lt4 c = rw (lt-ltb _ _ c.if-c-lt4.true, c.word_at.ensures)

pub returns-then-c-ge12 : goal.returns-then-c-ge12
unfolding channel_value maybe_of byte_at
returns-then-c-ge12 c = rw (le-ltb _ _ c.if-c-lt4.false, no_flag c.args.rec.now c.args.c (omega (arith, c.shared_slice_known-1.given 20)) c.if-c-ge12.true)

pub returns-then-flag_on : goal.returns-then-flag_on
unfolding channel_value event_on maybe_of
returns-then-flag_on c = rw (le-ltb _ _ c.if-c-lt4.false, ← c.flag_on.ensures, c.if-flag_on.true, c.word_at-then-flag_on.ensures)

pub returns : goal.returns
unfolding channel_value maybe_of
returns c = rw (le-ltb _ _ c.if-c-lt4.false, ← c.flag_on.ensures, c.if-flag_on.false)
