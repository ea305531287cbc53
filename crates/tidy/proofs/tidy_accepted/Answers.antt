use Rattle.promises.specs.Small.{Small}
use Rattle.tidy.proofs.Calling.{count_few, short, long, nodes_are, bytes_are, few_nodes, blocks_asked, room_made}
use Rattle.rules.specs.Bytes.{byte_at}
use lib.ListN.{length-replicate}
use Prim.Native.Nat.{ℕ}
use native.Mathlib.Omega.{arith}
use Rattle.tidy.proofs.tidy_accepted.Goals as goal

pub returns-then-room-p : goal.returns-then-room-p
returns-then-room-p c = short _ _ _ _ c.if-room-p.true

pub number-left-requires : goal.number-left-requires
number-left-requires c = (c.requires.0, c.requires.1, omega (arith, length-replicate {A = ℕ} 1008 0, count_few _ _ c.requires.0 c.requires.1), length-replicate {A = ℕ} 1024 0)

pub put_blocks-requires : goal.put_blocks-requires
unfolding byte_at
put_blocks-requires c = blocks_asked c.args.p.now (record { small = λ i. omega (arith, c.shared_slice_known-1.given i) }) c.requires.0 _ _ _ _ c.number-left.ensures (omega (arith, length-replicate {A = ℕ} 1008 0, count_few _ _ c.requires.0 c.requires.1, c.requires.1)) c.number-left.auto.order c.args.room.now c.if-room-p.false

pub overflow_cast-result : goal.overflow_cast-result
unfolding byte_at
overflow_cast-result c = omega (arith, few_nodes c.args.p.now (record { small = λ i. omega (arith, c.shared_slice_known-1.given i) }) c.requires.0 _ _ _ _ c.number-left.ensures)

pub overflow_add-result : goal.overflow_add-result
unfolding byte_at
overflow_add-result c = omega (arith, few_nodes c.args.p.now (record { small = λ i. omega (arith, c.shared_slice_known-1.given i) }) c.requires.0 _ _ _ _ c.number-left.ensures)

pub overflow_mul-result : goal.overflow_mul-result
unfolding byte_at
overflow_mul-result c = omega (arith, few_nodes c.args.p.now (record { small = λ i. omega (arith, c.shared_slice_known-1.given i) }) c.requires.0 _ _ _ _ c.number-left.ensures)

pub overflow_cast-result-2 : goal.overflow_cast-result-2
unfolding byte_at
overflow_cast-result-2 c = omega (arith, few_nodes c.args.p.now (record { small = λ i. omega (arith, c.shared_slice_known-1.given i) }) c.requires.0 _ _ _ _ c.number-left.ensures)

pub returns : goal.returns
unfolding byte_at
returns c = let small : Small c.args.p.now = record { small = λ i. omega (arith, c.shared_slice_known-1.given i) } in let a = c.requires.0 in let m = c.number-left.ensures in long c.args.p.now _ _ _ _ _ _ c.if-room-p.false (nodes_are c.args.p.now small a _ _ _ _ m) (bytes_are c.args.p.now small a _ _ _ _ m) (room_made c.args.p.now small a _ _ _ _ m (omega (arith, length-replicate {A = ℕ} 1008 0, count_few _ _ c.requires.0 c.requires.1, c.requires.1)) c.number-left.auto.order c.args.room.now _ c.put_blocks.ensures)
