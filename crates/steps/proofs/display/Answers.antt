use Rattle.steps.proofs.StepLaws.{displays_none, displays}
use mathlib.Core.Path.{sym, ◌∙◌}
use Rattle.outcomes.proofs.Outcomes.{shown_value, shown_exact, shown_stuck}
use Rattle.steps.proofs.display.Goals as goal

pub returns-in_default : goal.returns-in_default
returns-in_default c = displays_none (shown_stuck c.args.outcome (sym c.show.ensures ∙ c.in_default.is)) _ _

pub returns : goal.returns
returns c = let told = sym c.show.ensures ∙ c.in-Some.is in
    displays c.requires.1 (shown_value c.args.outcome told) c.put64.ensures (sym (shown_exact c.args.outcome c.requires.0 told))
