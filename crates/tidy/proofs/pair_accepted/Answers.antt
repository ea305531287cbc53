use Rattle.promises.specs.Small.{Small}
use Rattle.tidy.proofs.Calling.{short, long, nodes_are, bytes_are, few_nodes}
use Rattle.rules.specs.Bytes.{byte_at}
use lib.ListN.{length-replicate}
use Prim.Native.Nat.{ℕ}
use native.Mathlib.Omega.{arith}
use Rattle.tidy.proofs.pair_accepted.Goals as goal

pub returns-then-entries-count : goal.returns-then-entries-count
returns-then-entries-count c = short _ _ _ _ (omega (arith, c.if-entries-count.true, c.requires.1))

pub number-left-requires : goal.number-left-requires
number-left-requires c = (c.requires.0, c.requires.1, c.if-entries-count.false, length-replicate {A = ℕ} 1024 0)

pub overflow_cast-result : goal.overflow_cast-result
unfolding byte_at
overflow_cast-result c = omega (arith, few_nodes c.args.p.now (record { small = λ i. omega (arith, c.shared_slice_known-1.given i) }) c.requires.0 _ _ _ _ c.number-left.ensures)

pub overflow_add-result : goal.overflow_add-result
unfolding byte_at
overflow_add-result c = omega (arith, few_nodes c.args.p.now (record { small = λ i. omega (arith, c.shared_slice_known-1.given i) }) c.requires.0 _ _ _ _ c.number-left.ensures)

pub overflow_mul-result : goal.overflow_mul-result
unfolding byte_at
overflow_mul-result c = omega (arith, few_nodes c.args.p.now (record { small = λ i. omega (arith, c.shared_slice_known-1.given i) }) c.requires.0 _ _ _ _ c.number-left.ensures)

pub overflow_cast-result-2 : goal.overflow_cast-result-2
unfolding byte_at
overflow_cast-result-2 c = omega (arith, few_nodes c.args.p.now (record { small = λ i. omega (arith, c.shared_slice_known-1.given i) }) c.requires.0 _ _ _ _ c.number-left.ensures)

pub returns : goal.returns
unfolding byte_at
returns c = let small : Small c.args.p.now = record { small = λ i. omega (arith, c.shared_slice_known-1.given i) } in let a = c.requires.0 in let m = c.number-left.ensures in long c.args.p.now _ _ _ _ _ _ (omega (arith, c.if-entries-count.false, c.requires.1)) (nodes_are c.args.p.now small a _ _ _ _ m) (bytes_are c.args.p.now small a _ _ _ _ m) m.ordered
