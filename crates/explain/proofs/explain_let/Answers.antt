use mathlib.Core.Path.{sym, ap, ◌∙◌}
use native.Mathlib.Omega.{arith}
use Rattle.chains.specs.declared.Chain.{Chain}
use Rattle.std.specs.Prelude.{Ok}
use Prim.Native.Nat.{ℕ}
use Rattle.chains.specs.Explain.{ExplainOutcome}
use Rattle.explain.proofs.TraceLaws.{definition_fits}
use Rattle.chains.proofs.CallLaws.{wrong_room, right_room}
use Rattle.explain.proofs.explain_let.Goals as goal

pub returns-then-room-ne1008 : goal.returns-then-room-ne1008
returns-then-room-ne1008 c = let e = wrong_room c.args.p.now c.args.room.now c.args.x c.if-room-ne1008.true in (ap (λ (o : ExplainOutcome). o.answer) (sym e), ap (λ (o : ExplainOutcome). o.room) (sym e))

pub overflow_cast-result : goal.overflow_cast-result
overflow_cast-result c = omega (arith, c.chain_of-count.ensures.0, definition_fits _ _ c.requires.0 c.requires.1)

pub returns : goal.returns
returns c = let e = right_room c.args.p.now c.args.room.now c.args.x c.if-room-ne1008.false in (ap (λ (n : ℕ). Ok (record { of = c.args.x; entries = n })) c.chain_of-count.ensures.0 ∙ ap (λ (o : ExplainOutcome). o.answer) (sym e), c.chain_of-count.ensures.1 ∙ ap (λ (o : ExplainOutcome). o.room) (sym e))
