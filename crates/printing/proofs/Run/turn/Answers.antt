use mathlib.Core.Path.{refl, sym, ◌∙◌}
use native.Mathlib.Omega.{arith}
use Rattle.printing.proofs.TurnLaws.{record_early, turn_record, turn_last, turned, turned_as}
use Rattle.printing.proofs.Run.turn.Goals as goal

pub taken-requires : goal.taken-requires
taken-requires c = let pre = c.requires in
    let early = record_early _ (sym c.is_record.ensures ∙ c.if-is_record.true) in
    (pre.0, early.0, omega (arith, early.1, pre.1))

pub returns-then-is_record-clause-turned : goal.returns-then-is_record-clause-turned
returns-then-is_record-clause-turned c =
    turned_as (turn_record _ _ _ _ _ (sym c.is_record.ensures ∙ c.if-is_record.true)) c.taken.ensures.turned

pub returns-clause-turned : goal.returns-clause-turned
returns-clause-turned c =
    turned (turn_last _ _ _ _ _ (sym c.is_record.ensures ∙ c.if-is_record.false)) c.last.ensures.line_after refl refl refl refl
