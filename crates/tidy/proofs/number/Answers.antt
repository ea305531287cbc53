use Rattle.rules.specs.Bytes.{byte_at}
use Rattle.tidy.proofs.Calling.{count_some, root_asked, settle_asked, number_made}
use lib.ListN.{length-replicate}
use Prim.Native.Nat.{ℕ}
use native.Mathlib.Omega.{arith}
use Rattle.tidy.proofs.number.Goals as goal

pub overflow_sub-count : goal.overflow_sub-count
overflow_sub-count c = omega (arith, count_some _ _ c.requires.0 c.requires.1)

pub sweep-from-requires : goal.sweep-from-requires
unfolding byte_at
sweep-from-requires c = root_asked c.args.p.now (record { small = λ i. omega (arith, c.shared_slice_known-1.given i) }) c.requires.0 c.args.count c.requires.1 _ _ (length-replicate {A = ℕ} 1008 0) (length-replicate {A = ℕ} 1008 0)

pub settle-requires : goal.settle-requires
unfolding byte_at
settle-requires c = settle_asked c.args.p.now (record { small = λ i. omega (arith, c.shared_slice_known-1.given i) }) c.requires.0 c.args.count c.requires.1 _ _ (length-replicate {A = ℕ} 1008 0) (length-replicate {A = ℕ} 1008 0) _ _ _ c.sweep-from.ensures c.sweep-from.auto.names c.args.order.now c.requires.2

pub returns : goal.returns
unfolding byte_at
returns c = number_made c.args.p.now (record { small = λ i. omega (arith, c.shared_slice_known-1.given i) }) c.requires.0 c.args.count c.requires.1 _ _ (length-replicate {A = ℕ} 1008 0) (length-replicate {A = ℕ} 1008 0) _ _ _ c.sweep-from.ensures c.sweep-from.auto.names c.args.order.now c.requires.2 _ c.args.new.now _ _ c.requires.3 c.settle.ensures
