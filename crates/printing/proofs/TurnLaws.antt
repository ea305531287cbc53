-- A turn by the run of its one record.
-- Assumes nothing.
use Rattle.std.specs.Prelude.{if◌then◌else◌, Ok, Err}
use Rattle.rules.proofs.Same.{same_finished, same_refused}
use Rattle.rules.specs.Verdicts.{RunAnswer, Verdict, finished_with, refused_after}
use mathlib.Core.Path.{◌≡◌, refl, sym, ap, ◌∙◌}
use mathlib.Core.Bool.{Bool, true, false}
use Prim.Native.Nat.{ℕ, zero, suc, ◌+◌, ◌*◌, ◌/◌, ◌≤◌, ◌<◌}
use native.Mathlib.Omega.{arith}
use lib.ListN.{length, take}
use lib.Seq.{take_all, length-take-le}
use borrow.Author.Tests.{ltb-true, leb-true}
use Rattle.rules.specs.Bytes.{Bytes, byte_at, u16_at, u32_at, u64_at, bytes_of, write_at}
use Rattle.rules.specs.Values.{packed, unpacked, value_bytes}
use Rattle.rules.specs.Layout.{input_length, input_at, time_in}
use Rattle.rules.specs.Accepted.{Accepted}
use Rattle.rules.specs.WellFormed.{well_formed, last_moment}
use Rattle.rules.specs.Update.{Stepped, Made, NotMade, step_of}
use Rattle.rules.specs.Calls.{RunOutcome, refuse_if, ◌otherwise◌, input_wrong, time_wrong, record_verdict, no_step, first_wrapped, run_from}
use Rattle.rules.specs.declared.Value.{Value}
use Rattle.rules.specs.declared.Value.TheVariants.{Plain, Absent, Present}
use Rattle.rules.specs.declared.Tally.{Tally}
use Rattle.rules.specs.declared.Refusal.{Refusal}
use Rattle.rules.specs.declared.Refusal.TheVariants.{InputFault, TimeBack}
use Rattle.rules.proofs.Static.{and_both}
use Rattle.rules.proofs.Cells.{u64_same, in_write_at}
use Rattle.rules.proofs.Round.{Fits, round}
use Rattle.rules.proofs.Verdicts.{not_fine, both_fine, if_fine}
use Rattle.lines.specs.Print.{step_line, refused_line}
use Rattle.promises.specs.Small.{Small}
use Rattle.promises.specs.Valid.{Valid}
use Rattle.promises.specs.Step.{StepMade}
use Rattle.promises.specs.Run.{work_in}
use Rattle.promises.proofs.FromTable.{seated}
use Rattle.promises.proofs.ValidLaws.{packed_small}
use Rattle.promises.proofs.Runs.{in_time}
use Rattle.promises.proofs.Steps.{step_goes_on}
use Rattle.steps.specs.Going.{Leaves, most_work}
use Rattle.turns.specs.Decided.{most_records, is_record, placed_at}
use Rattle.printing.specs.Printed.{last_line}
use Rattle.printing.specs.Turns.{TurnOutcome, step_turn, record_turn, turn_of, Turned}

-- a valid value is read back from the 8 bytes that it was written to
eight_bytes : (m : ℕ) → m < 18446744073709551616 → u64_at (bytes_of 8 m) 0 ≡ m
unfolding u64_at u32_at u16_at byte_at bytes_of
eight_bytes m h = omega arith

eight : (m : ℕ) → length (bytes_of 8 m) ≡ 8
unfolding bytes_of
eight m = refl

fits : (v : Value) → Valid v → Fits v
fits (Plain t w) h = record { fit = (h.valid.0, h.valid.1.0) }
fits (Absent t) h = record { fit = h.valid }
fits (Present t w) h = record { fit = (h.valid.0, h.valid.1.0) }

read_back : (out : Bytes) (v : Value) → length out ≡ 8 → Valid v → unpacked (u64_at (write_at out 0 (value_bytes v)) 0) ≡ v
unfolding value_bytes
read_back out v l h =
    let m : ℕ = packed v in
    let same : u64_at (write_at out 0 (bytes_of 8 m)) 0 ≡ u64_at (bytes_of 8 m) 0
    = u64_same (write_at out 0 (bytes_of 8 m)) (bytes_of 8 m) 0 0
    (λ j g. in_write_at (bytes_of 8 m) out 0 j (omega (arith, eight m)) (omega (arith, eight m, l))
    ∙ ap (byte_at (bytes_of 8 m)) (let e : j ≡ 0 + j = omega arith in e)) in
    ap unpacked (same ∙ eight_bytes m (omega (arith, packed_small v 0 h (omega arith)))) ∙ round v (fits v h)

-- the verdict on a record, whatever the number of steps before it
fine_later : (a b : Bool) (steps : ℕ) → (refuse_if a (InputFault 0) otherwise refuse_if b (TimeBack 0)) ≡ Ok tt
    → (refuse_if a (InputFault steps) otherwise refuse_if b (TimeBack steps)) ≡ Ok tt
unfolding refuse_if ◌otherwise◌
fine_later true b steps e = absurd (not_fine e)
fine_later false true steps e = absurd (not_fine e)
fine_later false false steps e = refl

refused_later : (a b : Bool) (steps : ℕ) (r : Refusal) → (refuse_if a (InputFault 0) otherwise refuse_if b (TimeBack 0)) ≡ Err r
    → (refuse_if a (InputFault steps) otherwise refuse_if b (TimeBack steps)) ≡ Err (placed_at steps r)
unfolding refuse_if ◌otherwise◌ placed_at
refused_later true b steps r e = let f : ◌≡◌ {A = Refusal} (InputFault 0) r = cc in ap (λ (q : Refusal). Err (placed_at steps q)) f
refused_later false true steps r e = let f : ◌≡◌ {A = Refusal} (TimeBack 0) r = cc in ap (λ (q : Refusal). Err (placed_at steps q)) f
refused_later false false steps r e = absurd (not_fine (sym e))

module _ (p rec st out : Bytes) where
  verdict_fine : (steps : ℕ) → record_verdict 0 st rec ≡ Ok tt → record_verdict steps st rec ≡ Ok tt
  unfolding record_verdict
  verdict_fine steps e = fine_later (input_wrong rec) (time_wrong st rec) steps e

  verdict_refused : (steps : ℕ) {r : Refusal} → record_verdict 0 st rec ≡ Err r → record_verdict steps st rec ≡ Err (placed_at steps r)
  unfolding record_verdict
  verdict_refused steps {r} e = refused_later (input_wrong rec) (time_wrong st rec) steps r e

  in_its_time : record_verdict 0 st rec ≡ Ok tt → time_in rec ≤ last_moment
  unfolding record_verdict
  in_its_time e = in_time rec (if_fine _ _ (both_fine _ _ e).0)

  -- a run of one record: it is refused, or its step is made
  stops : {r : Refusal} → record_verdict 0 st (input_at rec 0) ≡ Err r
      → run_from p rec (suc zero) 0 0 no_step st out ≡ record { answer = refused_after r 0 no_step; state = st; output = out }
  unfolding run_from
  stops e = rw (e, run_from)

  makes : {v : Value} {st₁ : Bytes} {w : Tally} → record_verdict 0 st (input_at rec 0) ≡ Ok tt → step_of p (input_at rec 0) st ≡ Made v st₁ w
      → run_from p rec (suc zero) 0 0 no_step st out ≡ record { answer = finished_with 1 (0 + w.work) (first_wrapped no_step 0 w); state = st₁; output = write_at out 0 (value_bytes v) }
  unfolding run_from
  makes e f = rw (e, run_from, f)

  module _ (long : length rec ≡ 40) where
    whole : input_at rec 0 ≡ rec
    unfolding input_at
    whole = take_all 40 rec (omega (arith, long))

    one : run_from p rec (length rec / input_length) 0 0 no_step st out ≡ run_from p rec (suc zero) 0 0 no_step st out
    one = ap (λ (k : ℕ). run_from p rec k 0 0 no_step st out) (let e : length rec / 40 ≡ suc zero = omega (arith, long) in e)

    run_stops : {r : Refusal} → record_verdict 0 st rec ≡ Err r
        → run_from p rec (length rec / input_length) 0 0 no_step st out ≡ record { answer = refused_after r 0 no_step; state = st; output = out }
    run_stops e = one ∙ stops (ap (record_verdict 0 st) whole ∙ e)

    run_makes : {v : Value} {st₁ : Bytes} {w : Tally} → record_verdict 0 st rec ≡ Ok tt → step_of p rec st ≡ Made v st₁ w
        → run_from p rec (length rec / input_length) 0 0 no_step st out
        ≡ record { answer = finished_with 1 (0 + w.work) (first_wrapped no_step 0 w); state = st₁; output = write_at out 0 (value_bytes v) }
    run_makes e f = one ∙ makes (ap (record_verdict 0 st) whole ∙ e) (ap (λ (q : Bytes). step_of p q st) whole ∙ f)

-- what a run of one record leaves, as a turn after so many steps and so much work
module _ (out : Bytes) {p rec st st₁ out₁ : Bytes} {answer : RunAnswer} (steps total : ℕ) (long : length rec ≡ 40) (room : length out ≡ 8)
    (hp : Small p) (hs : Small st) (hr : Small rec) (acc : Accepted p) (well : well_formed p st ≡ true)
    (l : Leaves (run_from p rec (length rec / input_length) 0 0 no_step st out) answer st₁ out₁) where
  made : record_verdict 0 st rec ≡ Ok tt → StepMade p rec st
  made e = step_goes_on p rec st acc (seated p hp acc) well hs hr (in_its_time p rec st out e)

  outcome : {o : RunOutcome} → run_from p rec (length rec / input_length) 0 0 no_step st out ≡ o → Leaves o answer st₁ out₁
  outcome e = rw e at l

  pub finishes : {k w mark : ℕ} → answer ≡ finished_with k w mark
      → record_turn p rec steps total st
      ≡ record { line = step_line (time_in rec) (unpacked (u64_at out₁ 0)) w; more = true; steps = suc steps; total = total + w; state = st₁ }
  unfolding record_turn step_turn
  finishes {k} {w} {mark} a = go (record_verdict 0 st rec) refl
    where
      go : (v : Verdict) → record_verdict 0 st rec ≡ v
          → step_turn rec steps total st (record_verdict steps st rec) (step_of p rec st)
          ≡ record { line = step_line (time_in rec) (unpacked (u64_at out₁ 0)) w; more = true; steps = suc steps; total = total + w; state = st₁ }
      go (Err r) e =
          let b : finished_with k w mark ≡ refused_after r 0 no_step = sym a ∙ (outcome (run_stops p rec st out long e)).answer_is in
          absurd (let z : ◌≡◌ {A = ℕ} 0 1 = cc in omega arith)
      go (Ok _) e =
          let m = made e in
          let o = outcome (run_makes p rec st out long e m.made) in
          let b : finished_with k w mark ≡ finished_with 1 (0 + m.tally.work) (first_wrapped no_step 0 m.tally) = sym a ∙ o.answer_is in
          let c : w ≡ 0 + m.tally.work = (same_finished b).1 in
          let d : m.tally.work ≡ w = omega (arith, c) in
          let f : m.output ≡ unpacked (u64_at out₁ 0)
          = sym (ap (λ (q : Bytes). unpacked (u64_at q 0)) o.output_is ∙ read_back out m.output room m.valid) in
          rw (verdict_fine p rec st out steps e, m.made)
          (λ i. record { line = step_line (time_in rec) (f i) (d i); more = true; steps = suc steps; total = total + d i; state = sym o.state_is i })

  pub refuses : {r : Refusal} {w mark : ℕ} → answer ≡ refused_after r w mark
      → record_turn p rec steps total st
      ≡ record { line = refused_line (placed_at steps r); more = false; steps = steps; total = total; state = st₁ }
  unfolding record_turn step_turn
  refuses {r} {w} {mark} a = go (record_verdict 0 st rec) refl
    where
      go : (v : Verdict) → record_verdict 0 st rec ≡ v
          → step_turn rec steps total st (record_verdict steps st rec) (step_of p rec st)
          ≡ record { line = refused_line (placed_at steps r); more = false; steps = steps; total = total; state = st₁ }
      go (Err q) e =
          let o = outcome (run_stops p rec st out long e) in
          let b : refused_after r w mark ≡ refused_after q 0 no_step = sym a ∙ o.answer_is in
          let c : ◌≡◌ {A = Refusal} q r = sym (same_refused b).0 in
          rw (verdict_refused p rec st out steps e)
          (λ i. record { line = refused_line (placed_at steps (c i)); more = false; steps = steps; total = total; state = sym o.state_is i })
      go (Ok _) e =
          let m = made e in
          let b : refused_after r w mark ≡ finished_with 1 (0 + m.tally.work) (first_wrapped no_step 0 m.tally) = sym a ∙ (outcome (run_makes p rec st out long e m.made)).answer_is in
          absurd (let z : ◌≡◌ {A = ℕ} 0 1 = cc in omega arith)

-- so much work has the step of a run of one
pub spent : {k w mark size : ℕ} {answer : RunAnswer} → answer ≡ finished_with k w mark → work_in answer ≤ most_work * (size / input_length) → size ≡ 40 → w ≤ most_work
unfolding work_in
spent {k} {w} {mark} {size} e h l =
    let g : work_in (finished_with k w mark) ≤ most_work * (size / input_length) = rw e at h in
    omega (arith, g, l)

-- an outcome that is known, and a line that is its own
pub turned : {o q : TurnOutcome} {line st : Bytes} {size steps total : ℕ} {more : Bool} → o ≡ q → take size line ≡ q.line → more ≡ q.more
    → steps ≡ q.steps → total ≡ q.total → st ≡ q.state → Turned o line size more steps total st
turned e a b c d f = rw e (record { line_is = a; more_is = b; steps_is = c; total_is = d; state_is = f })

-- the same outcome, known otherwise
pub turned_as : {o q : TurnOutcome} {line st : Bytes} {size steps total : ℕ} {more : Bool} → o ≡ q → Turned q line size more steps total st
    → Turned o line size more steps total st
turned_as e t = rw e t

-- a record to take is no 4,097th, and is whole
pub record_early : (got : ℕ) {steps : ℕ} → is_record got steps ≡ true → (steps < most_records) × (input_length ≤ got)
unfolding is_record
record_early got e = let a = and_both _ _ e in (ltb-true _ _ a.0, leb-true _ _ a.1)

-- the turn on the bytes that were read for it: that of the record, or the last
module _ (p piece : Bytes) (steps total : ℕ) (st : Bytes) where
  pub turn_record : is_record (length piece) steps ≡ true → turn_of p piece steps total st ≡ record_turn p piece steps total st
  unfolding turn_of
  turn_record e = rw e refl

  pub turn_last : is_record (length piece) steps ≡ false
      → turn_of p piece steps total st ≡ record { line = last_line (length piece) steps total; more = false; steps = steps; total = total; state = st }
  unfolding turn_of
  turn_last e = rw e refl

-- a turn with more to come has counted its step
step_counts : (rec : Bytes) (steps total : ℕ) (st : Bytes) (v : Verdict) (s : Stepped) → (step_turn rec steps total st v s).more ≡ true
    → (step_turn rec steps total st v s).steps ≡ suc steps
unfolding step_turn
step_counts rec steps total st (Err r) s e = absurd (let z : ◌≡◌ {A = ℕ} 0 1 = cc in omega arith)
step_counts rec steps total st (Ok _) (Made v st₁ w) e = refl
step_counts rec steps total st (Ok _) NotMade e = absurd (let z : ◌≡◌ {A = ℕ} 0 1 = cc in omega arith)

pub counts : (p piece : Bytes) (steps total : ℕ) (st : Bytes) → (turn_of p piece steps total st).more ≡ true
    → (turn_of p piece steps total st).steps ≡ suc steps
unfolding turn_of record_turn
counts p piece steps total st = go (is_record (length piece) steps)
  where
    go : (b : Bool) → (if b then step_turn piece steps total st (record_verdict steps st piece) (step_of p piece st)
        else record { line = last_line (length piece) steps total; more = false; steps = steps; total = total; state = st }).more ≡ true
        → (if b then step_turn piece steps total st (record_verdict steps st piece) (step_of p piece st)
        else record { line = last_line (length piece) steps total; more = false; steps = steps; total = total; state = st }).steps ≡ suc steps
    go true e = step_counts piece steps total st (record_verdict steps st piece) (step_of p piece st) e
    go false e = absurd (let z : ◌≡◌ {A = ℕ} 0 1 = cc in omega arith)
