use Rattle.std.proofs.Common.{arith}
use Rattle.rules.specs.Words.{sum_of}
use Rattle.words.proofs.Leaving.{sum_made}
use Rattle.words.proofs.sum.Goals as goal

pub returns : goal.returns
unfolding sum_of
returns c = let x = c.args.x in
    let y = c.args.y in
    sum_made x y (omega arith) (omega arith) c.wrapping_add_u32-s.ensures.value c.astride.ensures c.astride-2.ensures
