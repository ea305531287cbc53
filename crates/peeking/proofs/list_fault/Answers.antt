use Rattle.watched.specs.Watch.{entry_off, list_fault}
use Rattle.rules.proofs.First.{first_starts, first_here, first_next, first_ends}
use Prim.Native.Nat.{◌-◌}
use native.Mathlib.Omega.{arith}
use mathlib.Core.Path.{sym, ◌∙◌}
use Rattle.peeking.proofs.list_fault.Goals as goal

pub loop-j-init : goal.loop-j-init
loop-j-init c = first_starts _ _

pub entry_off-requires : goal.entry_off-requires
entry_off-requires c = (c.requires.0, c.requires.1, omega arith)

pub overflow_cast-result : goal.overflow_cast-result
overflow_cast-result c = omega (arith, c.requires.2)

pub returns-then-entry_off : goal.returns-then-entry_off
unfolding list_fault
returns-then-entry_off c = sym (first_here (entry_off c.args.p.now c.args.list.now) _ _ (omega arith) (sym c.entry_off.ensures ∙ c.if-entry_off.true)) ∙ c.loop-j.invariant

pub loop-j-preserved : goal.loop-j-preserved
loop-j-preserved c = sym (first_next (entry_off c.args.p.now c.args.list.now) _ _ (omega arith) (sym c.entry_off.ensures ∙ c.if-entry_off.false)) ∙ c.loop-j.invariant

pub returns : goal.returns
unfolding list_fault
returns c = sym (first_ends (entry_off c.args.p.now c.args.list.now) _ _ (omega arith)) ∙ c.loop-j.invariant
