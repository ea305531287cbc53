use Rattle.outcomes.proofs.Outcomes.{shown_value, shown_exact, shown_stuck}
use mathlib.Core.Path.{refl, sym, ◌∙◌}
use Rattle.notes.proofs.NoteLaws.{put_not, put_none, put_some}
use Rattle.notes.proofs.note_value.Goals as goal

pub returns-then-from-i : goal.returns-then-from-i
returns-then-from-i c = put_not _ _ _ _ _ (λ e. c.if-from-i.true (c.from.ensures ∙ e))

pub returns-in_default : goal.returns-in_default
returns-in_default c = put_none _ _ _ _ (sym c.from.ensures ∙ c.if-from-i.false) refl (shown_stuck c.args.outcome (sym c.show.ensures ∙ c.in_default.is))

pub returns : goal.returns
returns c = let told = sym c.show.ensures ∙ c.in-Some.is in
    put_some _ _ _ _ (sym c.from.ensures ∙ c.if-from-i.false) refl (shown_value c.args.outcome told) c.put64.ensures (sym (shown_exact c.args.outcome c.requires.0 told))
