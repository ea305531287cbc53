use Rattle.wire.proofs.PutLaws.{stored}
use Rattle.wire.proofs.DecimalLaws.{shortest, number_put}
use Rattle.wire.specs.Text.{field}
use lib.ListN.{length-set}
use Prim.Native.Nat.{◌^◌, ◌<◌}
use native.Mathlib.Omega.{arith}
use Rattle.wire.proofs.text.put_short.Goals as goal

pub put-here-requires : goal.put-here-requires
put-here-requires c = let few = c.decimal-k.ensures in
    let room = shortest c.args.n c.decimal-k.result few.len c.ranges.n.fits in
    let count = few.in_bounds.1 in
    omega (arith, room, count, c.requires)

pub bounds-line-here : goal.bounds-line-here
bounds-line-here c = let few = c.decimal-k.ensures in
    let room = shortest c.args.n c.decimal-k.result few.len c.ranges.n.fits in
    let count = few.in_bounds.1 in
    let place = c.put-here.ensures.place in
    omega (arith, room, count, place, c.requires)

pub overflow_add-result : goal.overflow_add-result
overflow_add-result c = let few = c.decimal-k.ensures in
    let room = shortest c.args.n c.decimal-k.result few.len c.ranges.n.fits in
    let count = few.in_bounds.1 in
    let place = c.put-here.ensures.place in
    omega (arith, room, count, place, c.requires)

pub returns : goal.returns
unfolding field
returns c = let few = c.decimal-k.ensures in
    let fits = c.ranges.n.fits in
    let room = shortest c.args.n c.decimal-k.result few.len fits in
    let big : c.args.n < 2 ^ 32 = omega (arith, fits) in
    let count = few.in_bounds.1 in
    let place = c.put-here.ensures.place in
    record {
      put = stored c.args.end (number_put _ few.len big few.digits c.put-here.ensures) (omega (arith, room, count, place, c.requires));
      upper_bound = omega (arith, room, count, place);
      line_len = simp length-set (omega arith);
    }
