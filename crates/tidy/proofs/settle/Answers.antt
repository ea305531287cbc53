use Rattle.tidy.proofs.SettleLaws.{settling_starts, stays, goes, settled}
use Prim.Native.Nat.{◌-◌}
use mathlib.Core.Path.{refl}
use native.Mathlib.Omega.{arith}
use Rattle.tidy.proofs.settle.Goals as goal
use Rattle.tidy.proofs.settle.Goals.{then-e-lt1024, else-e-lt1024}

pub loop-k-init : goal.loop-k-init
loop-k-init c = settling_starts c.args.names.now c.args.from c.args.order.now c.args.new.now c.requires.0

pub offset_bounds-order-m : goal.offset_bounds-order-m
offset_bounds-order-m c = let s = c.loop-k.invariant in omega (arith, c.requires.1, s.few)

pub bounds-order-m : goal.bounds-order-m
bounds-order-m c = let s = c.loop-k.invariant in omega (arith, c.requires.2, s.order_long, s.few)

pub overflow_cast-new : goal.overflow_cast-new
overflow_cast-new c = let s = c.loop-k.invariant in omega (arith, c.requires.1, s.few)

pub offset_bounds-new-n : goal.offset_bounds-new-n
offset_bounds-new-n c = omega arith

pub bounds-new-n : goal.bounds-new-n
bounds-new-n c = omega arith

pub overflow_add-m : goal.overflow_add-m
overflow_add-m c = let s = c.loop-k.invariant in omega (arith, c.requires.1, s.few)

pub overflow_cast-new-else-e-lt1024 : goal.overflow_cast-new-else-e-lt1024
overflow_cast-new-else-e-lt1024 c = let s = c.loop-k.invariant in omega (arith, c.requires.1, s.few, s.last_is)

pub offset_bounds-new-n-else-e-lt1024 : goal.offset_bounds-new-n-else-e-lt1024
offset_bounds-new-n-else-e-lt1024 c = omega arith

pub bounds-new-n-else-e-lt1024 : goal.bounds-new-n-else-e-lt1024
bounds-new-n-else-e-lt1024 c = omega arith

pub loop-k-preserved : goal.loop-k-preserved
loop-k-preserved c = elim c.if-e-lt1024.branch [
  | then-e-lt1024 w ↦ rw (w.order-is, w.new-is, w.m-is, w.last-is) (stays _ _ _ _ _ _ _ _ _ c.loop-k.invariant _ _ refl (omega arith) c.from-n.ensures w.if-e-lt1024.true)
  | else-e-lt1024 w ↦ rw (w.order-is, w.new-is, w.m-is, w.last-is) (goes _ _ _ _ _ _ _ _ _ c.loop-k.invariant _ _ refl (omega arith) c.from-n.ensures w.if-e-lt1024.false)
]

pub shape_of-order : goal.shape_of-order
shape_of-order c = let s = c.loop-k.invariant in s.order_long

pub returns : goal.returns
returns c = settled _ _ _ _ _ _ _ _ _ c.loop-k.invariant (omega arith)
