use native.Mathlib.Omega.{arith}
use mathlib.Core.Path.{◌∙◌}
use lib.ListN.{length}
use Prim.Native.Nat.{◌<◌}
use Rattle.spell.specs.Vocabulary.{listed}
use Rattle.spell.proofs.WordLaws.{letter_is}
use Rattle.letters.proofs.WroteLaws.{wrote_none, one_more, whole}
use Rattle.letters.proofs.put_word.Goals as goal

pub loop-i-init : goal.loop-i-init
loop-i-init c = wrote_none _ _

pub loop-i-preserved : goal.loop-i-preserved
loop-i-preserved c =
    let h : c.loop-i.i < length (listed c.args.row) = omega (arith, c.loop-i-test.true, c.size-i-end.ensures.0) in
    one_more (listed c.args.row) c.loop-i.i h (c.letter.ensures ∙ letter_is (listed c.args.row) c.loop-i.i h) c.loop-i.invariant c.put_byte-to.ensures

pub returns : goal.returns
returns c = whole (listed c.args.row) c.loop-i.i (omega (arith, c.loop-i-test.false, c.size-i-end.ensures.0)) c.loop-i.invariant
