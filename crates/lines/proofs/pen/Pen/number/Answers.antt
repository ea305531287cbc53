use native.Mathlib.Omega.{arith}
use Rattle.wire.proofs.DecimalLaws.{short, number_put}
use Rattle.lines.proofs.pen.Pen.number.Goals as goal

pub word-requires : goal.word-requires
word-requires c = let few = c.decimal-k.ensures in
    let fits = c.ranges.n.fits in
    let room = short c.args.n c.decimal-k.result few.len fits in
    let count = few.in_bounds.1 in
    omega arith

pub returns : goal.returns
returns c = let few = c.decimal-k.ensures in
    let fits = c.ranges.n.fits in
    let room = short c.args.n c.decimal-k.result few.len fits in
    let count = few.in_bounds.1 in
    let e = c.word.ensures in
    let place = e.put.place in
    record { puts = record { put = number_put _ few.len fits few.digits e.put; lent = e.lent; long = e.long }; upper_bound = omega arith }
