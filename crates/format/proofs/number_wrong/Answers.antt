use Prim.Native.Nat.{◌+◌, ◌*◌}
use Rattle.rules.specs.Bytes.{byte_at}
use Rattle.rules.specs.Format.{number_wrong}
use Rattle.rules.specs.Layout.{blocks, block_at, number_in, count_in, edition_in, edition}
use native.Mathlib.Omega.{arith}
use Rattle.format.proofs.number_wrong.Goals as goal

pub overflow_mul-at : goal.overflow_mul-at
unfolding blocks
overflow_mul-at c = omega arith

pub overflow_add-count : goal.overflow_add-count
unfolding blocks
overflow_add-count c = omega arith

pub bounds-p-at : goal.bounds-p-at
unfolding blocks
bounds-p-at c = omega arith

pub overflow_add-edition : goal.overflow_add-edition
unfolding blocks
overflow_add-edition c = omega arith

pub bounds-p-at-2 : goal.bounds-p-at-2
unfolding blocks
bounds-p-at-2 c = omega arith

pub bounds-p-3 : goal.bounds-p-3
unfolding blocks
bounds-p-3 c = omega arith

pub u16_at-requires : goal.u16_at-requires
unfolding blocks
u16_at-requires c = omega arith

pub overflow_cast-count : goal.overflow_cast-count
overflow_cast-count c = omega (arith, c.shared_slice_known-1.given (512 * c.args.j + 2))

pub returns : goal.returns
unfolding number_wrong number_in count_in edition_in edition block_at blocks byte_at
returns c = cc
