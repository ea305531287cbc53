-- Every run of an accepted program from a well-formed state goes on step by step; it is refused only for its records.
-- Assumes nothing.
use Rattle.std.specs.Prelude.{if◌then◌else◌, Ok, Err}
use Rattle.rules.specs.Verdicts.{RunAnswer, Verdict, finished_with, refused_after}
use mathlib.Core.Path.{◌≡◌, refl, sym}
use mathlib.Core.Bool.{Bool, true, false}
use Prim.Native.Nat.{ℕ, zero, suc, ◌+◌, ◌*◌, ◌≤◌}
use native.Mathlib.Nat.{mul-le-mul}
use native.Mathlib.Omega.{arith}
use borrow.Author.Tests.{ltb-false}
use Rattle.rules.specs.Bytes.{Bytes, write_at}
use Rattle.rules.specs.Values.{value_bytes}
use Rattle.rules.specs.Layout.{input_at, time_in}
use Rattle.rules.specs.Answers.{code_of, place_of}
use Rattle.rules.specs.WellFormed.{well_formed, last_moment}
use Rattle.rules.specs.Bound.{bound}
use Rattle.rules.specs.Accepted.{Accepted}
use Rattle.rules.specs.Calls.{◌otherwise◌, refuse_if, input_wrong, time_wrong, record_verdict, RunOutcome, first_wrapped, run_from}
use Rattle.rules.specs.declared.Refusal.{Refusal}
use Rattle.rules.specs.declared.Refusal.TheVariants.{InputFault, TimeBack}
use Rattle.rules.proofs.Kids.{or_none}
use Rattle.rules.proofs.Verdicts.{not_fine, both_fine, if_fine}
use Rattle.promises.specs.Small.{Small}
use Rattle.promises.specs.Seated.{Seated}
use Rattle.promises.specs.Step.{StepMade}
use Rattle.promises.specs.Run.{RunMade, finished, refused, stepped, AnswersRun, RunEnds, work_in}
use Rattle.promises.proofs.SmallLaws.{small_input}
use Rattle.promises.proofs.Steps.{step_goes_on}

-- A record that is not refused has a time that is not too large.
pub in_time : (rec : Bytes) → input_wrong rec ≡ false → time_in rec ≤ last_moment
unfolding input_wrong
in_time rec e = ltb-false last_moment (time_in rec) (or_none _ _ e).1

-- A record that a run does not refuse is as it should be.
record_fine : (done : ℕ) (st rec : Bytes) → record_verdict done st rec ≡ Ok tt → input_wrong rec ≡ false
unfolding record_verdict
record_fine done st rec e = if_fine _ _ (both_fine _ _ e).0

-- One step of a run.
run_next : (p recs : Bytes) (left done work mark : ℕ) (st out : Bytes) (m : StepMade p (input_at recs done) st)
    → record_verdict done st (input_at recs done) ≡ Ok tt
    → run_from p recs (suc left) done work mark st out
    ≡ run_from p recs left (suc done) (work + m.tally.work) (first_wrapped mark done m.tally) m.state (write_at out (8 * done) (value_bytes m.output))
unfolding run_from
run_next p recs left done work mark st out m e = rw (e, run_from, m.made)

-- A run stops at a record that is refused.
run_stops : (p recs : Bytes) (left done work mark : ℕ) (st out : Bytes) (r : Refusal)
    → record_verdict done st (input_at recs done) ≡ Err r
    → run_from p recs (suc left) done work mark st out ≡ record { answer = refused_after r work mark; state = st; output = out }
unfolding run_from
run_stops p recs left done work mark st out r e = rw (e, run_from)

-- A run ends where no record is left.
run_ends : (p recs : Bytes) (done work mark : ℕ) (st out : Bytes)
    → run_from p recs zero done work mark st out ≡ record { answer = finished_with done work mark; state = st; output = out }
unfolding run_from
run_ends p recs done work mark st out = refl

-- A run from a well-formed state is made step by step.
pub run_from_lem : (left : ℕ) (p recs : Bytes) → Accepted p → Seated p → Small recs → (done work mark : ℕ) (st out : Bytes)
    → well_formed p st ≡ true → Small st → RunMade p recs (run_from p recs left done work mark st out) left done work mark st out
run_from_lem zero p recs acc seat hr done work mark st out well hs = finished (run_ends p recs done work mark st out)
run_from_lem (suc left) p recs acc seat hr done work mark st out well hs =
    go (record_verdict done st (input_at recs done)) refl λ m. run_from_lem left p recs acc seat hr _ _ _ m.state _ m.well m.bytes
  where
    go : (v : Verdict) → record_verdict done st (input_at recs done) ≡ v
        → ((m : StepMade p (input_at recs done) st) → RunMade p recs (run_from p recs left (suc done) (work + m.tally.work) (first_wrapped mark done m.tally) m.state (write_at out (8 * done) (value_bytes m.output))) left (suc done) (work + m.tally.work) (first_wrapped mark done m.tally) m.state (write_at out (8 * done) (value_bytes m.output)))
        → RunMade p recs (run_from p recs (suc left) done work mark st out) (suc left) done work mark st out
    go (Err r) e more = refused r e (run_stops p recs left done work mark st out r e)
    go (Ok _) e more =
        let rec : Bytes = input_at recs done in
        let m = step_goes_on p rec st acc seat well hs (small_input recs done hr) (in_time rec (record_fine done st rec e)) in
        rw (run_next p recs left done work mark st out m e) (stepped e m (more m))

-- A record is refused with code 12 or 13, at the number of steps done.
record Refused (done : ℕ) (r : Refusal) : Type 0 where
  least : 12 ≤ code_of r
  most : code_of r ≤ 13
  place : place_of r ≡ done

-- The verdict on a record, by its two tests.
refused_as : (done : ℕ) (st rec : Bytes) (r : Refusal) → record_verdict done st rec ≡ Err r → Refused done r
unfolding record_verdict ◌otherwise◌ refuse_if
refused_as done st rec r = go (input_wrong rec) (time_wrong st rec)
  where
    known : (q : Refusal) → Refused done q → ◌≡◌ {A = Verdict} (Err q) (Err r) → Refused done r
    known q h e = let z : q ≡ r = cc in rw z at h

    go : (a b : Bool) → ((if a then Err (InputFault done) else Ok tt) otherwise (if b then Err (TimeBack done) else Ok tt)) ≡ Err r
        → Refused done r
    go true b e = known (InputFault done) (record { least = omega arith; most = omega arith; place = refl }) e
    go false true e = known (TimeBack done) (record { least = omega arith; most = omega arith; place = refl }) e
    go false false e = absurd (not_fine (sym e))

-- One step more.
one_more : (p : Bytes) (left done work w : ℕ) → w ≤ bound p → (a : RunAnswer) → AnswersRun p left (suc done) (work + w) a → AnswersRun p (suc left) done work a
one_more p left done work w h (Ok end) e = (omega (arith, e.0), omega (arith, e.1))
one_more p left done work w h (Err stop) e = (e.0, (omega (arith, e.1.0), omega (arith, e.1.1)), omega (arith, e.2))

-- A run that is made leaves a well-formed state, and its answer counts its steps and keeps to the bound.
pub run_ends_well : (left : ℕ) (p recs : Bytes) (o : RunOutcome) (done work mark : ℕ) (st out : Bytes) → well_formed p st ≡ true → Small st
    → RunMade p recs o left done work mark st out → RunEnds p left done work o
run_ends_well zero p recs o done work mark st out well hs (finished e) =
    rw e (record { well = well; bytes = hs; answers = (omega arith, omega arith) })
run_ends_well (suc left) p recs o done work mark st out well hs (refused r v e) =
    let f = refused_as done st (input_at recs done) r v in
    rw e (record {
      well = well;
      bytes = hs;
      answers = ((f.least, f.most), (omega (arith, f.place), omega (arith, f.place)), omega arith);
    })
run_ends_well (suc left) p recs o done work mark st out well hs (stepped v m more) =
    let f = run_ends_well left p recs o (suc done) (work + m.tally.work) (first_wrapped mark done m.tally) m.state (write_at out (8 * done) (value_bytes m.output)) m.well m.bytes more in
    record { well = f.well; bytes = f.bytes; answers = one_more p left done work m.tally.work m.within o.answer f.answers }

most_total : (left most total : ℕ) → left ≤ 4096 → most ≤ 1008 * 1009 → total ≤ left * most → total ≤ 4294967295
most_total left most total h b e = omega (arith, mul-le-mul {n₁ = left} {m₁ = most} {n₂ = 4096} {m₂ = 1017072} h b)

-- No run's total passes 4,294,967,295: it has at most 4,096 records, and no bound exceeds 1,008 times 1,009.
pub total_fits : (p : Bytes) (left : ℕ) (a : RunAnswer) → left ≤ 4096 → bound p ≤ 1008 * 1009 → AnswersRun p left 0 0 a → work_in a ≤ 4294967295
unfolding work_in
total_fits p left (Ok end) h b e = most_total left (bound p) end.work h b (omega (arith, e.1))
total_fits p left (Err stop) h b e = most_total left (bound p) stop.work h b (omega (arith, e.2))
