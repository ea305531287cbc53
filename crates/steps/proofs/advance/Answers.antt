use Rattle.steps.proofs.StepLaws.{held, held_again, some, update_ready, headed, never_broken, advances}
use Rattle.moves.specs.Outcomes.{moved_in}
use Rattle.recalled.specs.Recall.{Recalled}
use Rattle.rules.specs.Bytes.{byte_at}
use mathlib.Core.Path.{refl, sym, ap, ◌∙◌}
use native.Mathlib.Omega.{arith}
use Rattle.steps.proofs.advance.Goals as goal

pub overflow_sub-count : goal.overflow_sub-count
overflow_sub-count c = omega (arith, some (held c.requires.0))

pub update_s-moved-requires : goal.update_s-moved-requires
update_s-moved-requires c = (update_ready (held c.requires.0) _ refl, c.requires.2.noted)

pub returns-in_default : goal.returns-in_default
unfolding byte_at
returns-in_default c = let p = c.shared_slice_known-1 in
    let st = c.slice_known-1 in
    let rec = c.shared_slice_known-2-1 in
    let r = c.update_s-moved in
    absurd (never_broken c.requires.0 (record { small = λ i. omega (arith, p.given i) }) (record { small = λ i. omega (arith, st.given i) }) (record { small = λ i. omega (arith, rec.given i) }) c.requires.2
    (moved_in r.result) _ (ap (λ (o : Recalled). o.outcome) r.ensures.0) (sym c.settled.ensures ∙ c.in_default.is))

pub set_time-requires : goal.set_time-requires
set_time-requires c = omega (arith, headed c.requires.0, c.update_s-moved.auto.st)

pub returns : goal.returns
unfolding byte_at
returns c = let p = c.shared_slice_known-1 in
    let st = c.slice_known-1 in
    let rec = c.shared_slice_known-2-1 in
    let r = c.update_s-moved in (
      advances c.requires.0 (record { small = λ i. omega (arith, p.given i) }) (record { small = λ i. omega (arith, st.given i) }) (record { small = λ i. omega (arith, rec.given i) }) c.requires.2
          (moved_in r.result) _ (ap (λ (o : Recalled). o.outcome) r.ensures.0) (sym c.settled.ensures ∙ c.in-Some.is) c.set_time.ensures c.time_of.ensures,
      held_again (held c.requires.0) (c.set_time.auto.st ∙ r.auto.st) r.ensures.1,
      r.ensures.2,
    )
