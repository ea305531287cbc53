use Rattle.pairing.proofs.EntryLaws.{wrong_when, right_when, some_number, no_number}
use Rattle.dropped.specs.Pairing.{entry_wrong, pairing_fault}
use Rattle.rules.proofs.First.{first_starts, first_here, first_next, first_ends}
use Rattle.rules.specs.Bytes.{first}
use native.Mathlib.Omega.{arith}
use Prim.Native.Nat.{◌-◌}
use mathlib.Core.Path.{sym, ap, ◌∙◌}
use Rattle.pairing.proofs.first_wrong.Goals as goal

pub loop-i-init : goal.loop-i-init
loop-i-init c = first_starts _ _

pub entry_broken-broken-requires : goal.entry_broken-broken-requires
entry_broken-broken-requires c = (c.requires.0, c.requires.1, c.requires.2, c.requires.3, omega arith)

pub overflow_cast-result : goal.overflow_cast-result
overflow_cast-result c = omega (arith, c.requires.1.small, c.requires.3)

pub returns-then-is_some : goal.returns-then-is_some
unfolding pairing_fault
returns-then-is_some c = sym (first_here (entry_wrong c.args.p.now c.args.q.now c.args.pairing.now) _ _ (omega arith) (wrong_when _ _ _ _ c.entry_broken-broken.ensures (some_number _ (sym c.is_some.ensures ∙ c.if-is_some.true)))) ∙ c.loop-i.invariant ∙ ap (first (entry_wrong c.args.p.now c.args.q.now c.args.pairing.now)) c.requires.3

pub loop-i-preserved : goal.loop-i-preserved
loop-i-preserved c = sym (first_next (entry_wrong c.args.p.now c.args.q.now c.args.pairing.now) _ _ (omega arith) (right_when _ _ _ _ c.entry_broken-broken.ensures (no_number _ (sym c.is_some.ensures ∙ c.if-is_some.false)))) ∙ c.loop-i.invariant

pub returns : goal.returns
unfolding pairing_fault
returns c = sym (first_ends (entry_wrong c.args.p.now c.args.q.now c.args.pairing.now) _ _ (omega arith)) ∙ c.loop-i.invariant ∙ ap (first (entry_wrong c.args.p.now c.args.q.now c.args.pairing.now)) c.requires.3
