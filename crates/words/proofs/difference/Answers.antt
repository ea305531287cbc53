use Rattle.std.proofs.Common.{arith}
use Rattle.rules.specs.Words.{difference_of}
use Rattle.words.proofs.Leaving.{difference_made}
use Rattle.words.proofs.difference.Goals as goal

pub returns : goal.returns
unfolding difference_of
returns c = let x = c.args.x in
    let y = c.args.y in
    difference_made x y (omega arith) (omega arith) (omega (arith, c.wrapping_sub_u32-s.ensures.value)) c.astride.ensures c.astride-2.ensures
