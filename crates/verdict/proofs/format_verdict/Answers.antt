use mathlib.Core.Path.{sym, ◌∙◌}
use Rattle.rules.specs.Calls.{◌otherwise◌, refuse_at}
use Rattle.verdict.specs.Parts.{format_verdict}
use Rattle.verdict.proofs.format_verdict.Goals as goal

pub returns-in-Some : goal.returns-in-Some
unfolding format_verdict ◌otherwise◌ refuse_at
returns-in-Some c = rw (sym c.first_sum.ensures ∙ c.in-Some.is)

pub returns-in-Some-first_number : goal.returns-in-Some-first_number
unfolding format_verdict ◌otherwise◌ refuse_at
returns-in-Some-first_number c = rw (sym c.first_sum.ensures ∙ c.in_default.is) (rw (sym c.first_number.ensures ∙ c.in-Some-first_number.is))

pub returns-in-Some-first_record : goal.returns-in-Some-first_record
unfolding format_verdict ◌otherwise◌ refuse_at
returns-in-Some-first_record c =
    rw (sym c.first_sum.ensures ∙ c.in_default.is)
    (rw (sym c.first_number.ensures ∙ c.in_default-first_number.is) (rw (sym c.first_record.ensures ∙ c.in-Some-first_record.is)))

pub returns : goal.returns
unfolding format_verdict ◌otherwise◌ refuse_at
returns c =
    rw (sym c.first_sum.ensures ∙ c.in_default.is)
    (rw (sym c.first_number.ensures ∙ c.in_default-first_number.is) (rw (sym c.first_record.ensures ∙ c.in_default-first_record.is)))
