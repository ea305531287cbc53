use native.Mathlib.Omega.{arith}
use Rattle.wire.proofs.DecimalLaws.{short, number_put}
use Rattle.wire.proofs.text.put_number.Goals as goal

pub put-requires : goal.put-requires
put-requires c = let few = c.decimal-k.ensures in
    let fits = c.ranges.n.fits in
    let room = short c.args.n c.decimal-k.result few.len fits in
    let count = few.in_bounds.1 in
    omega arith

pub returns : goal.returns
returns c = let few = c.decimal-k.ensures in
    let fits = c.ranges.n.fits in
    let room = short c.args.n c.decimal-k.result few.len fits in
    let count = few.in_bounds.1 in
    let place = c.put.ensures.place in
    record { put = number_put _ few.len fits few.digits c.put.ensures; upper_bound = omega arith; line_len = omega arith }
