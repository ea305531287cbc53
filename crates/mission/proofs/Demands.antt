-- The calls' definitions meet the three demands, for whatever bytes they are lent.
-- Assumes nothing.
use Rattle.std.specs.Prelude.{Ok, Err}
use Rattle.rules.specs.Verdicts.{CheckAnswer, RunAnswer, StartAnswer, Verdict}
use mathlib.Core.Path.{◌≡◌, refl, sym, ap, ◌∙◌}
use mathlib.Core.Bool.{true, false, not}
use Prim.Native.Nat.{ℕ}
use native.Mathlib.Omega.{arith}
use lib.Dec.{eqb}
use lib.ListN.{length}
use borrow.Author.Tests.{eqb-true}
use Rattle.rules.specs.Bytes.{Bytes}
use Rattle.rules.specs.Layout.{state_length}
use Rattle.rules.specs.Reset.{start_state}
use Rattle.rules.specs.Calls.{◌otherwise◌, refuse_if, program_verdict, check_answer, check_call, StartOutcome, start_outcome, start_call, RunOutcome, run_call}
use Rattle.rules.specs.declared.Refusal.{Refusal}
use Rattle.rules.specs.declared.Refusal.TheVariants.{StateFault}
use Rattle.rules.proofs.Kids.{not_not}
use Rattle.rules.proofs.Verdicts.{both_fine, if_fine, accepted}
use Rattle.promises.specs.Small.{Small}
use Rattle.promises.proofs.FromTable.{seated}
use Rattle.promises.proofs.Start.{start_well_formed}
use Rattle.promises.proofs.Promises.{answered}
use Rattle.declarative.specs.Exactly.{Accepts, Exactly}
use Rattle.declarative.proofs.AcceptedExactly.{accepted_exactly}
use Rattle.mission.specs.Mission.{Accepting, CheckDemands, StartDemands, RunDemands}
use Rattle.mission.proofs.Firsts.{first_fault, no_fault, start_verdict, first_start, no_start_fault}
use Rattle.mission.proofs.Outcomes.{outcome}
use Rattle.mission.proofs.Refusals.{refused_run, steps_of}
use Rattle.mission.proofs.Third.{finishes, step_answers}

-- Check's answer and its verdict.
refused_check : (p : Bytes) (r : Refusal) → check_call p ≡ Err r → program_verdict p ≡ Err r
unfolding check_call check_answer
refused_check p r = go (program_verdict p) refl
  where
    go : (v : Verdict) → program_verdict p ≡ v → check_answer p v ≡ Err r → program_verdict p ≡ Err r
    go (Ok _) f e = absurd (let z : ◌≡◌ {A = ℕ} 0 1 = cc in omega arith)
    go (Err q) f e = f ∙ ap Err (let z : q ≡ r = cc in z)

-- An answer that accepts, as crate declarative has it.
accepts : {p : Bytes} {answer : CheckAnswer} → answer ≡ check_call p → Accepting answer → Accepts p
accepts e a = record { count = a.count; cells = a.cells; most = a.most; type = a.type; answer = sym e ∙ a.is }

accepting : {p : Bytes} {answer : CheckAnswer} → answer ≡ check_call p → Accepts p → Accepting answer
accepting e a = record { count = a.count; cells = a.cells; most = a.most; type = a.type; is = e ∙ a.answer }

pub check_demands : (p : Bytes) {answer : CheckAnswer} → answer ≡ check_call p → CheckDemands p answer
check_demands p e =
    let x = accepted_exactly p in
    record {
      first_code = λ r f. first_fault p r (refused_check p r (sym e ∙ f));
      no_code = λ a. no_fault p (x.by_verdict.only_if (accepts e a));
      exactly = record { only_if = λ a. x.by_sentences.only_if (accepts e a); if₀ = λ m. accepting e (x.by_sentences.if₀ m) };
      exactly_typed = record { only_if = λ a. x.by_rules.only_if (accepts e a); if₀ = λ m. accepting e (x.by_rules.if₀ m) };
      numbers = λ a.
          let q = answered p a.count a.cells a.most a.type (sym e ∙ a.is) in
          (q.count_is, q.cells_is, q.most_is, q.type_is);
    }

-- Start, by its verdict.
start_by : (p st : Bytes) → Small p → (v : Verdict) → start_verdict p st ≡ v
    → StartDemands p st (start_outcome p st v).answer (start_outcome p st v).state
unfolding start_outcome start_verdict
start_by p st hp (Ok _) e =
    let b = both_fine _ _ e in
    let long = eqb-true _ _ (not_not _ (if_fine _ _ b.1)) in
    record {
      first_code = λ r f. absurd (let z : ◌≡◌ {A = ℕ} 0 1 = cc in omega arith);
      no_code = λ f. no_start_fault p st b.0 long;
      nothing_written = λ r f. absurd (let z : ◌≡◌ {A = ℕ} 0 1 = cc in omega arith);
      starts = λ f. (refl, start_well_formed p (seated p hp (accepted p b.0)));
    }
start_by p st hp (Err q) e = record {
  first_code = λ r f. first_start p st r (e ∙ ap Err (let z : q ≡ r = cc in z));
  no_code = λ f. absurd (let z : ◌≡◌ {A = ℕ} 0 1 = cc in omega arith);
  nothing_written = λ r f. refl;
  starts = λ f. absurd (let z : ◌≡◌ {A = ℕ} 0 1 = cc in omega arith);
}

pub start_demands : (p st : Bytes) {answer : StartAnswer} {st₁ : Bytes} → Small p → answer ≡ (start_call p st).answer → st₁ ≡ (start_call p st).state
    → StartDemands p st answer st₁
unfolding start_call start_verdict
start_demands p st hp e f = rw (e, f) (start_by p st hp (start_verdict p st) refl)

-- Run.
run_meets : (p st recs out : Bytes) → Small p → Small st → Small recs → (o : RunOutcome) → o ≡ run_call p st recs out
    → RunDemands p st recs out o.answer o.state o.output
run_meets p st recs out hp hs hr o e =
    let x = rw (sym e) at (outcome p st recs out hp hs hr) in
    record {
      refuses = refused_run x;
      by_rules = steps_of x;
      answers = λ count cells most type a l. step_answers p st recs out o hp hr count cells most type a l x;
      finishes = λ count cells most type n a l. finishes p st recs out o hp hr count cells most type a n l x;
    }

pub run_demands : (p st recs out : Bytes) {answer : RunAnswer} {st₁ out₁ : Bytes} → Small p → Small st → Small recs
    → answer ≡ (run_call p st recs out).answer → st₁ ≡ (run_call p st recs out).state → out₁ ≡ (run_call p st recs out).output
    → RunDemands p st recs out answer st₁ out₁
run_demands p st recs out hp hs hr e f g = rw (e, f, g) (run_meets p st recs out hp hs hr (run_call p st recs out) refl)
