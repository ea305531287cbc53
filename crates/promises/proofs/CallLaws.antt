-- The calls of an accepted program: start is ready with a well-formed state, and from a well-formed state a run is refused only for its
-- records, and leaves a well-formed state.
-- Assumes nothing.
use Rattle.std.specs.Prelude.{if◌then◌else◌, Ok, Err}
use Rattle.rules.specs.Verdicts.{Verdict}
use mathlib.Core.Path.{◌≡◌, refl, sym}
use mathlib.Core.Bool.{Bool, true, false, not}
use Prim.Native.Nat.{ℕ, ◌*◌, ◌/◌, ◌%◌, ◌≤◌}
use native.Mathlib.Omega.{arith}
use lib.Dec.{eqb, leb}
use lib.ListN.{length}
use borrow.Author.Tests.{eq-eqb, leb-true}
use Rattle.rules.specs.Bytes.{Bytes, ◌and◌}
use Rattle.rules.specs.Layout.{input_length, state_length}
use Rattle.rules.specs.Answers.{code_of}
use Rattle.rules.specs.Reset.{start_state}
use Rattle.rules.specs.WellFormed.{well_formed}
use Rattle.rules.specs.Bound.{bound}
use Rattle.rules.specs.Accepted.{Accepted}
use Rattle.rules.specs.Calls.{◌otherwise◌, refuse_if, state_verdict, lent_verdict, start_outcome, start_call, RunOutcome, no_step, run_outcome, run_call}
use Rattle.rules.specs.declared.Refusal.{Refusal}
use Rattle.rules.specs.declared.Refusal.TheVariants.{RecordsLength, OutputLength}
use Rattle.rules.proofs.Static.{and_both}
use Rattle.rules.proofs.Kids.{not_not}
use Rattle.rules.proofs.Verdicts.{both_fine, if_fine, fine_verdict}
use Rattle.promises.specs.Small.{Small}
use Rattle.promises.specs.Seated.{Seated}
use Rattle.promises.specs.Run.{run_verdict, RunAnswers, lengths, ran, work_in}
use Rattle.promises.specs.GoesOn.{State}
use Rattle.promises.proofs.ValidLaws.{and_join}
use Rattle.promises.proofs.Runs.{run_from_lem, run_ends_well, total_fits}

-- Start.
pub start_goes_on : (p st : Bytes) → Accepted p → length st ≡ state_length p
    → start_call p st ≡ record { answer = Ok tt; state = start_state p }
unfolding start_call start_outcome ◌otherwise◌ refuse_if
start_goes_on p st acc l = rw (fine_verdict p acc, eq-eqb (length st) (state_length p) l)

-- A state has no fault exactly if it is well-formed.
pub state_fine : (p st : Bytes) → well_formed p st ≡ true → state_verdict p st ≡ Ok tt
unfolding state_verdict well_formed ◌otherwise◌ refuse_if
state_fine p st e =
    let a = and_both _ _ e in
    let b = and_both _ _ a.0 in
    rw (b.0, b.1, a.1)

pub state_well : (p st : Bytes) → state_verdict p st ≡ Ok tt → well_formed p st ≡ true
unfolding state_verdict well_formed
state_well p st e =
    let a = both_fine _ _ e in
    let b = both_fine _ _ a.1 in
    and_join _ _ (and_join _ _ (not_not _ (if_fine _ _ a.0)) (not_not _ (if_fine _ _ b.0))) (not_not _ (if_fine _ _ b.1))

-- What a run is lent.
lent : (p st recs out : Bytes) (fit : Bool) → Accepted p → well_formed p st ≡ true
    → lent_verdict p st recs out fit
    ≡ (refuse_if (not fit) RecordsLength otherwise refuse_if (not (eqb (length out) (8 * (length recs / input_length)))) OutputLength)
unfolding lent_verdict ◌otherwise◌ refuse_if
lent p st recs out fit acc well = rw (fine_verdict p acc, state_fine p st well)

-- A verdict that is fine, or refuses with one of the codes from 10 to most.
data Lent (most : ℕ) : Verdict → Type 0 where
  fine : Lent most (Ok tt)
  refuse : (r : Refusal) → 10 ≤ code_of r → code_of r ≤ most → Lent most (Err r)

-- The lengths are refused with code 10 or 11, or fine.
lengths_lent : (most : ℕ) → 11 ≤ most → (a b : Bool) → Lent most (refuse_if a RecordsLength otherwise refuse_if b OutputLength)
unfolding ◌otherwise◌ refuse_if
lengths_lent most h true b = refuse RecordsLength (omega arith) (omega arith)
lengths_lent most h false true = refuse OutputLength (omega arith) (omega arith)
lengths_lent most h false false = fine

-- Run.
run_outcome_lem : (p st recs out : Bytes) → Accepted p → Seated p → well_formed p st ≡ true → Small st → Small recs → (v : Verdict)
    → run_verdict p st recs out ≡ v → Lent 11 v → (v ≡ Ok tt → length recs / input_length ≤ 4096)
    → RunAnswers p st recs out (run_outcome p st recs out v)
unfolding run_outcome
run_outcome_lem p st recs out acc seat well hs hr (Ok _) e fine few =
    ran e (few refl) (run_from_lem (length recs / input_length) p recs acc seat hr 0 0 no_step st out well hs)
run_outcome_lem p st recs out acc seat well hs hr (Err r) e (refuse _ h g) few = lengths r e h g refl

-- Records that are not refused are at most 4,096.
at_most : (b : Bool) (n : ℕ) (w : Verdict) → (refuse_if (not (b and leb n 4096)) RecordsLength otherwise w) ≡ Ok tt → n ≤ 4096
at_most b n w e = leb-true n 4096 (and_both b _ (yes _ (if_fine _ _ (both_fine _ _ e).0))).1
  where
    yes : (t : Bool) → not t ≡ false → t ≡ true
    yes true z = refl
    yes false z = sym z

-- Run, from a well-formed state.
pub run_goes_on : (p st recs out : Bytes) → Accepted p → Seated p → well_formed p st ≡ true → Small st → Small recs
    → RunAnswers p st recs out (run_call p st recs out)
unfolding run_call run_verdict
run_goes_on p st recs out acc seat well hs hr =
    let e = lent p st recs out (eqb (length recs % input_length) 0 and leb (length recs / input_length) 4096) acc well in
    rw e (run_outcome_lem p st recs out acc seat well hs hr _ e (lengths_lent 11 (omega arith) _ _) (at_most _ _ _))

-- A state is left a state.
pub run_keeps : (p st recs out : Bytes) (o : RunOutcome) → State p st → RunAnswers p st recs out o → State p o.state
run_keeps p st recs out o s (lengths r v h g e) = rw e s
run_keeps p st recs out o s (ran _ _ m) =
    let f = run_ends_well (length recs / input_length) p recs o 0 0 no_step st out s.well s.bytes m in
    record { bytes = f.bytes; well = f.well }

-- No run's total passes 4,294,967,295.
pub run_total : (p st recs out : Bytes) (o : RunOutcome) → bound p ≤ 1008 * 1009 → State p st → RunAnswers p st recs out o
    → work_in o.answer ≤ 4294967295
unfolding work_in
run_total p st recs out o b s (lengths r v h g e) = rw e (omega arith)
run_total p st recs out o b s (ran _ few m) =
    total_fits p (length recs / input_length) o.answer few b
    (run_ends_well (length recs / input_length) p recs o 0 0 no_step st out s.well s.bytes m).answers
