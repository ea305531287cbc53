use Rattle.format.proofs.SumLaws.{from_end, from_start, bytes_before, check_before}
use native.Mathlib.Omega.{arith}
use Prim.Native.Nat.{◌+◌, ◌-◌}
use Rattle.format.proofs.check_sum.Goals as goal

pub loop-i-init : goal.loop-i-init
loop-i-init c = let none = from_end c.args.p.now c.args.at in
    (omega arith, omega arith, omega (arith, none.0), omega (arith, none.1))

pub bounds-p-at : goal.bounds-p-at
bounds-p-at c = omega arith

pub overflow_add-bytes : goal.overflow_add-bytes
overflow_add-bytes c = omega (arith, c.shared_slice_known-1.given (c.args.at + (c.loop-i.i - 1)))

pub overflow_add-sum : goal.overflow_add-sum
overflow_add-sum c = omega (arith, c.shared_slice_known-1.given (c.args.at + (c.loop-i.i - 1)))

pub loop-i-preserved : goal.loop-i-preserved
loop-i-preserved c = let args = c.args in
    let turn = c.loop-i in
    let byte = c.shared_slice_known-1.given (args.at + (turn.i - 1)) in
    let bytes = bytes_before args.p.now args.at turn.i c.requires (omega arith) (omega arith) in
    let check = check_before args.p.now args.at turn.i c.requires (omega arith) (omega arith) in
    (omega (arith, byte), omega (arith, byte), omega (arith, bytes), omega (arith, bytes, check))

pub returns : goal.returns
returns c = let args = c.args in
    let loop = c.loop-i in
    omega (arith, from_start args.p.now args.at loop.i (omega arith))
