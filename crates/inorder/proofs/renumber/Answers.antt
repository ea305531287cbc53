use mathlib.Core.Path.{sym}
use native.Mathlib.Omega.{arith}
use Prim.Native.Nat.{ℕ}
use lib.ListN.{length-replicate}
use Rattle.rules.specs.Bytes.{byte_at}
use Rattle.inorder.proofs.Renumbers.{count_some, walk_asked, order_longer, blocks_asked, room_made}
use Rattle.inorder.proofs.renumber.Goals as goal

pub overflow_sub-count : goal.overflow_sub-count
unfolding byte_at
overflow_sub-count c = omega (arith, count_some c.args.p.now (record { small = λ i. omega (arith, c.shared_slice_known-1.given i) }) c.requires.0 c.args.count c.requires.1)

pub walk-requires : goal.walk-requires
unfolding byte_at
walk-requires c = walk_asked c.args.p.now (record { small = λ i. omega (arith, c.shared_slice_known-1.given i) }) c.requires.0 c.args.count c.requires.1

pub slice_bounds-put_blocks-end : goal.slice_bounds-put_blocks-end
unfolding byte_at
slice_bounds-put_blocks-end c = sym (order_longer c.args.p.now (record { small = λ i. omega (arith, c.shared_slice_known-1.given i) }) c.requires.0 c.args.count c.requires.1 _ _ _ _ _ c.walk.ensures (length-replicate {A = ℕ} 1008 0) (length-replicate {A = ℕ} 1024 0))

pub put_blocks-requires : goal.put_blocks-requires
unfolding byte_at
put_blocks-requires c = blocks_asked c.args.p.now (record { small = λ i. omega (arith, c.shared_slice_known-1.given i) }) c.requires.0 c.args.count c.requires.1 _ _ _ _ _ c.walk.ensures (length-replicate {A = ℕ} 1008 0) (length-replicate {A = ℕ} 1024 0) c.args.room.now c.requires.2

pub returns : goal.returns
unfolding byte_at
returns c = room_made c.args.p.now (record { small = λ i. omega (arith, c.shared_slice_known-1.given i) }) c.requires.0 c.args.count c.requires.1 _ _ _ _ _ c.walk.ensures (length-replicate {A = ℕ} 1008 0) (length-replicate {A = ℕ} 1024 0) c.args.room.now _ c.put_blocks.ensures
