use mathlib.Core.Path.{refl, sym, ap, ◌∙◌}
use Prim.Native.Nat.{◌≤◌}
use native.Mathlib.Omega.{arith}
use Rattle.rules.specs.Layout.{kind_at}
use Rattle.outcomes.proofs.Outcomes.{parts_with}
use Rattle.moves.proofs.ReadyLaws.{case_part}
use Rattle.update.proofs.Evaluable.{at_once}
use Rattle.update.specs.Passes.{seen_of, absent_count, absent_work}
use Rattle.update.proofs.QuietLaws.{last_quiet, high_quiet, low_quiet, low_counts, few_seen, known_none, event_known}
use Rattle.update.proofs.quiet.Goals as goal

pub returns-then-n-eq-LAST : goal.returns-then-n-eq-LAST
returns-then-n-eq-LAST c = (last_quiet c.args.rec.now.now c.args.st.now c.requires c.if-n-eq-LAST.true, refl, known_none, tt)

pub kind_by-kind-requires : goal.kind_by-kind-requires
kind_by-kind-requires c = let w = (case_part c.requires).ready.node in
    (c.requires.ready.lent.table, w.shaped, w.inside)

pub returns-then-kind-gt3 : goal.returns-then-kind-gt3
returns-then-kind-gt3 c = (high_quiet c.args.rec.now.now c.args.st.now c.requires c.if-n-eq-LAST.false c.kind_by-kind.ensures (omega (arith, c.if-kind-gt3.true)), refl, known_none, tt)

pub outright-e-requires : goal.outright-e-requires
outright-e-requires c = let e : kind_at c.args.p.now.now c.args.n.a ≤ 3 = omega (arith, c.kind_by-kind.ensures, c.if-kind-gt3.false) in
    at_once c.args.env.now (case_part c.requires) e

pub returns-in_default : goal.returns-in_default
unfolding absent_work
returns-in_default c = (
  low_quiet c.args.rec.now.now c.args.st.now c.requires c.if-n-eq-LAST.false c.kind_by-kind.ensures (omega (arith, c.if-kind-gt3.false)) (c.outright-e.ensures.0 c.args.st.now)
      (sym c.apart.ensures ∙ c.in_default.is),
  c.outright-e.ensures.2,
  event_known c.args.rec.now.now c.args.st.now c.requires c.kind_by-kind.ensures (omega (arith, c.if-kind-gt3.false)) (c.outright-e.ensures.0 c.args.st.now) c.outright-e.ensures.1,
  tt,
)

pub seen_of-requires : goal.seen_of-requires
seen_of-requires c = few_seen c.args.rec.now.now c.args.st.now c.requires (c.outright-e.ensures.0 c.args.st.now) (sym c.apart.ensures ∙ c.in-Some.is)

pub returns-in-None : goal.returns-in-None
unfolding absent_count absent_work seen_of
returns-in-None c = (
  c.seen_of.ensures ∙ low_quiet c.args.rec.now.now c.args.st.now c.requires c.if-n-eq-LAST.false c.kind_by-kind.ensures (omega (arith, c.if-kind-gt3.false)) (c.outright-e.ensures.0 c.args.st.now)
      (parts_with (sym c.apart.ensures ∙ c.in-Some.is) c.in-None.is),
  c.outright-e.ensures.2,
  known_none,
  let l : kind_at c.args.p.now.now c.args.n.a ≤ 3 = omega (arith, c.kind_by-kind.ensures, c.if-kind-gt3.false) in
      omega (arith, c.seen_of.ensures, low_counts c.args.rec.now.now c.args.st.now c.args.env.now (case_part c.requires).ready.node l (c.outright-e.ensures.0 c.args.st.now) (sym c.apart.ensures ∙ c.in-Some.is)),
)

pub returns-in-Some-event : goal.returns-in-Some-event
unfolding absent_count absent_work
returns-in-Some-event c = (
  low_quiet c.args.rec.now.now c.args.st.now c.requires c.if-n-eq-LAST.false c.kind_by-kind.ensures (omega (arith, c.if-kind-gt3.false)) (c.outright-e.ensures.0 c.args.st.now)
      (parts_with (sym c.apart.ensures ∙ c.in-Some.is) c.in-Some-event.is),
  c.outright-e.ensures.2,
  event_known c.args.rec.now.now c.args.st.now c.requires c.kind_by-kind.ensures (omega (arith, c.if-kind-gt3.false)) (c.outright-e.ensures.0 c.args.st.now) c.outright-e.ensures.1,
  tt,
)
