use Rattle.outcomes.proofs.Combining.{plain_most, lifted_no, lifted_yes, lifted_proper}
use Rattle.outcomes.proofs.Numbers.{plain_known, other_known}
use Rattle.outcomes.proofs.Counted.{work_is}
use mathlib.Core.Path.{sym, ap, ◌∙◌}
use Rattle.rules.specs.Values.{is_plain}
use native.Mathlib.Omega.{arith}
use Rattle.outcomes.proofs.lifted.Goals as goal

pub overflow_add-t : goal.overflow_add-t
overflow_add-t c = let known = plain_known c.args.r (sym c.unpack.ensures ∙ c.in-Plain.is) in
    omega (arith, known.0, plain_most _ known.2)

pub overflow_add-counted_in : goal.overflow_add-counted_in
overflow_add-counted_in c = omega (arith, c.requires, work_is c.args.r, c.counted_in.ensures.0, c.counted_in.ensures.1)

pub outcome-requires : goal.outcome-requires
outcome-requires c = let known = plain_known c.args.r (sym c.unpack.ensures ∙ c.in-Plain.is) in
    (lifted_proper _ _ (ap is_plain known.0 ∙ known.2), omega arith, omega (arith, c.requires, work_is c.args.r, c.counted_in.ensures.0, c.counted_in.ensures.1))

pub returns-in-Plain : goal.returns-in-Plain
returns-in-Plain c = let known = plain_known c.args.r (sym c.unpack.ensures ∙ c.in-Plain.is) in
    lifted_yes c.args.r known.0 (ap is_plain known.0 ∙ known.2) known.1 c.counted_in.ensures.0 c.requires c.outcome.ensures

pub returns-in-Absent : goal.returns-in-Absent
returns-in-Absent c = lifted_no c.args.r (other_known c.args.r (sym c.unpack.ensures ∙ c.in-Absent.is) (λ z. omega arith))

pub returns-in-Present : goal.returns-in-Present
returns-in-Present c = lifted_no c.args.r (other_known c.args.r (sym c.unpack.ensures ∙ c.in-Present.is) (λ z. omega arith))
