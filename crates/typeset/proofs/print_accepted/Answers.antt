use native.Mathlib.Omega.{arith}
use Prim.Native.Nat.{ℕ}
use lib.ListN.{length-replicate}
use Rattle.rules.specs.Bytes.{byte_at}
use Rattle.typeset.proofs.Calling.{program_fits, count_few, front, text_asked, long_is, room_is, text_short, short, long}
use Rattle.typeset.proofs.print_accepted.Goals as goal

pub renumber-requires : goal.renumber-requires
unfolding byte_at
renumber-requires c = (c.requires.0, c.requires.1, program_fits c.args.p.now (record { small = λ i. omega (arith, c.shared_slice_known-1.given i) }) c.requires.0)

pub overflow_add-blocks : goal.overflow_add-blocks
unfolding byte_at
overflow_add-blocks c = omega (arith, count_few c.args.p.now (record { small = λ i. omega (arith, c.shared_slice_known-1.given i) }) c.requires.0 c.args.count c.requires.1)

pub overflow_mul-q : goal.overflow_mul-q
unfolding byte_at
overflow_mul-q c = omega (arith, count_few c.args.p.now (record { small = λ i. omega (arith, c.shared_slice_known-1.given i) }) c.requires.0 c.args.count c.requires.1)

pub slice_bounds-q-end : goal.slice_bounds-q-end
unfolding byte_at
slice_bounds-q-end c = omega (arith, count_few c.args.p.now (record { small = λ i. omega (arith, c.type_inv.p i) }) c.requires.0 c.args.count c.requires.1, c.renumber.auto.room)

pub put_text-long-requires : goal.put_text-long-requires
unfolding byte_at
put_text-long-requires c = text_asked c.args.p.now (record { small = λ i. omega (arith, c.type_inv.p i) }) c.requires.0 c.args.count c.requires.1 _ (front c.args.p.now (record { small = λ i. omega (arith, c.type_inv.p i) }) c.requires.0 c.args.count c.requires.1 _ _ (length-replicate {A = ℕ} 12288 0) c.renumber.ensures)

pub returns-then-room-long : goal.returns-then-room-long
unfolding byte_at
returns-then-room-long c = short _ _ _ (long_is c.args.p.now (record { small = λ i. omega (arith, c.type_inv.p i) }) c.requires.0 c.args.count c.requires.1 _ (front c.args.p.now (record { small = λ i. omega (arith, c.type_inv.p i) }) c.requires.0 c.args.count c.requires.1 _ _ (length-replicate {A = ℕ} 12288 0) c.renumber.ensures) c.put_text-long.ensures) (omega (arith, c.if-room-long.true))

pub put_text-requires : goal.put_text-requires
unfolding byte_at
put_text-requires c = text_asked c.args.p.now (record { small = λ i. omega (arith, c.type_inv.p i) }) c.requires.0 c.args.count c.requires.1 _ (front c.args.p.now (record { small = λ i. omega (arith, c.type_inv.p i) }) c.requires.0 c.args.count c.requires.1 _ _ (length-replicate {A = ℕ} 12288 0) c.renumber.ensures)

pub overflow_cast-result : goal.overflow_cast-result
unfolding byte_at
overflow_cast-result c = omega (arith, (long_is c.args.p.now (record { small = λ i. omega (arith, c.type_inv.p i) }) c.requires.0 c.args.count c.requires.1 _ (front c.args.p.now (record { small = λ i. omega (arith, c.type_inv.p i) }) c.requires.0 c.args.count c.requires.1 _ _ (length-replicate {A = ℕ} 12288 0) c.renumber.ensures) c.put_text-long.ensures), text_short c.args.p.now (record { small = λ i. omega (arith, c.type_inv.p i) }) c.requires.0)

pub returns : goal.returns
unfolding byte_at
returns c = long _ _ _ _ (long_is c.args.p.now (record { small = λ i. omega (arith, c.type_inv.p i) }) c.requires.0 c.args.count c.requires.1 _ (front c.args.p.now (record { small = λ i. omega (arith, c.type_inv.p i) }) c.requires.0 c.args.count c.requires.1 _ _ (length-replicate {A = ℕ} 12288 0) c.renumber.ensures) c.put_text-long.ensures) (omega (arith, c.if-room-long.false)) (room_is c.args.p.now (record { small = λ i. omega (arith, c.type_inv.p i) }) c.requires.0 c.args.count c.requires.1 _ (front c.args.p.now (record { small = λ i. omega (arith, c.type_inv.p i) }) c.requires.0 c.args.count c.requires.1 _ _ (length-replicate {A = ℕ} 12288 0) c.renumber.ensures) c.put_text.ensures)
