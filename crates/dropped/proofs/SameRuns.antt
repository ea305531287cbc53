-- From start, an old program and a new one with lets dropped answer every list of records with equal outputs and refusals after 8.
-- Assumes nothing.
use Rattle.std.specs.Prelude.{if◌then◌else◌, Ok, Err}
use Rattle.rules.specs.Verdicts.{Verdict, finished_with, refused_after}
use mathlib.Core.Path.{◌≡◌, refl, sym, ap, ◌∙◌}
use mathlib.Core.List.{◌++◌}
use mathlib.Core.Bool.{Bool, true, false, not}
use Prim.Native.Nat.{ℕ, zero, suc, ◌+◌, ◌-◌, ◌*◌, ◌/◌, ◌%◌, ◌<◌, ◌≤◌}
use native.Mathlib.Nat.{mul-le-mul}
use native.Mathlib.Omega.{arith}
use lib.Dec.{eqb, leb, ltb}
use lib.ListN.{length, replicate, length-replicate}
use borrow.Author.Tests.{le-ltb, leb-true}
use Rattle.rules.specs.Bytes.{Bytes, write_at, byte_at, u32_at, u16_at, bytes_of, ◌and◌}
use Rattle.rules.specs.Values.{value_bytes}
use Rattle.rules.specs.Layout.{checks_of, most_nodes, cells, type_at, nodes, cell_at, state_length, last_time, no_time, start_header, input_length, input_at, time_in}
use Rattle.rules.specs.Tree.{root}
use Rattle.rules.specs.Reset.{start_state, rests_s}
use Rattle.rules.specs.WellFormed.{well_formed}
use Rattle.rules.specs.Bound.{bound}
use Rattle.rules.specs.Accepted.{Accepted}
use Rattle.rules.specs.Update.{Stepped, Made, NotMade, step_of}
use Rattle.rules.specs.Calls.{◌otherwise◌, refuse_if, input_wrong, time_wrong, record_verdict, RunOutcome, run_from, run_outcome, lent_verdict, run_call, no_step, first_wrapped}
use Rattle.rules.specs.declared.Value.{Value}
use Rattle.rules.specs.declared.Tally.{Tally}
use Rattle.rules.specs.declared.Refusal.{Refusal}
use Rattle.rules.specs.declared.Refusal.TheVariants.{InputFault, TimeBack, RecordsLength, OutputLength}
use Rattle.rules.proofs.Once.{bound_small}
use Rattle.rules.proofs.Rooted.{some_node, shaped_of}
use Rattle.rules.proofs.Static.{and_both, not_both}
use Rattle.rules.proofs.Verdicts.{not_fine, both_fine, if_fine, fine_verdict}
use Rattle.promises.specs.Small.{Small}
use Rattle.promises.specs.Seated.{Seated}
use Rattle.promises.specs.Step.{StepMade}
use Rattle.promises.proofs.SmallLaws.{small_input, small_append, small_bytes, small_zeros}
use Rattle.promises.proofs.FromTable.{seated}
use Rattle.promises.proofs.Start.{start_made}
use Rattle.promises.proofs.Steps.{step_goes_on, well_parts}
use Rattle.promises.proofs.Rests.{reset_rests}
use Rattle.promises.proofs.CallLaws.{state_fine}
use Rattle.promises.proofs.Runs.{in_time}
use Rattle.dropped.specs.Less.{LessS}
use Rattle.dropped.specs.Answers.{SameAnswer, finished, refused, SameRun, AnswersAlike}
use Rattle.dropped.proofs.SameParts.{rests_alike}
use Rattle.dropped.proofs.SameSteps.{Pair, SameStep, made, not_made, step_same}

-- The same verdict on a record.
record_same : (done : ℕ) (st st' rec : Bytes) → last_time st ≡ last_time st' → record_verdict done st rec ≡ record_verdict done st' rec
unfolding record_verdict time_wrong
record_same done st st' rec e = rw e

made_inv : {π : ℕ → ℕ} {p q : Bytes} {x : LessS π (root p) (root q)} {v v' : Value} {st st' : Bytes} {w w' : Tally}
    → SameStep p q x (Made v st w) (Made v' st' w') → (v ≡ v') × Pair p q x st st'
made_inv (made s) = (refl, s)

next_run : (p recs : Bytes) (left done work mark : ℕ) (st out : Bytes) (m : StepMade p (input_at recs done) st)
    → record_verdict done st (input_at recs done) ≡ Ok tt
    → run_from p recs (suc left) done work mark st out
    ≡ run_from p recs left (suc done) (work + m.tally.work) (first_wrapped mark done m.tally) m.state (write_at out (8 * done) (value_bytes m.output))
unfolding run_from
next_run p recs left done work mark st out m e = rw (e, run_from, m.made)

stop_run : (p recs : Bytes) (left done work mark : ℕ) (st out : Bytes) (r : Refusal)
    → record_verdict done st (input_at recs done) ≡ Err r
    → run_from p recs (suc left) done work mark st out ≡ record { answer = refused_after r work mark; state = st; output = out }
unfolding run_from
stop_run p recs left done work mark st out r e = rw (e, run_from)

end_run : (p recs : Bytes) (done work mark : ℕ) (st out : Bytes)
    → run_from p recs zero done work mark st out ≡ record { answer = finished_with done work mark; state = st; output = out }
unfolding run_from
end_run p recs done work mark st out = refl

record_fine : (done : ℕ) (st rec : Bytes) → record_verdict done st rec ≡ Ok tt → input_wrong rec ≡ false
unfolding record_verdict
record_fine done st rec e = if_fine _ _ (both_fine _ _ e).0

module _ {π : ℕ → ℕ} (p q recs : Bytes) (x : LessS π (root p) (root q)) (pa : Accepted p) (qa : Accepted q) (sp : Seated p) (sq : Seated q) (hr : Small recs) where
  run_same : (left done work work' mark mark' : ℕ) (st st' out : Bytes) → well_formed p st ≡ true → well_formed q st' ≡ true → Pair p q x st st'
      → SameRun (run_from p recs left done work mark st out) (run_from q recs left done work' mark' st' out)
  run_same zero done work work' mark mark' st st' out w w' s =
      rw (end_run p recs done work mark st out, end_run q recs done work' mark' st' out) (record { answers = finished; outputs = refl })
  run_same (suc left) done work work' mark mark' st st' out w w' s =
      go (record_verdict done st (input_at recs done)) refl λ m m' e s₁.
      run_same left (suc done) (work + m.tally.work) (work' + m'.tally.work) (first_wrapped mark done m.tally) (first_wrapped mark' done m'.tally) m.state m'.state _ m.well m'.well s₁
    where
      rec : Bytes
      rec = input_at recs done

      same : record_verdict done st rec ≡ record_verdict done st' rec
      same = record_same done st st' rec s.moment

      go : (v : Verdict) → record_verdict done st rec ≡ v
          → ((m : StepMade p rec st) (m' : StepMade q rec st') → m.output ≡ m'.output → Pair p q x m.state m'.state
          → SameRun (run_from p recs left (suc done) (work + m.tally.work) (first_wrapped mark done m.tally) m.state (write_at out (8 * done) (value_bytes m.output)))
          (run_from q recs left (suc done) (work' + m'.tally.work) (first_wrapped mark' done m'.tally) m'.state (write_at out (8 * done) (value_bytes m.output))))
          → SameRun (run_from p recs (suc left) done work mark st out) (run_from q recs (suc left) done work' mark' st' out)
      go (Err r) e more =
          rw (stop_run p recs left done work mark st out r e, stop_run q recs left done work' mark' st' out r (sym same ∙ e)) (record { answers = refused; outputs = refl })
      go (Ok _) e more =
          let t = in_time rec (record_fine done st rec e) in
          let m = step_goes_on p rec st pa sp w s.bytes (small_input recs done hr) t in
          let m' = step_goes_on q rec st' qa sq w' s.bytes' (small_input recs done hr) t in
          let z = step_same p q rec x (small_input recs done hr) pa qa sp sq st st' s in
          let z₁ : SameStep p q x (Made m.output m.state m.tally) (Made m'.output m'.state m'.tally) = rw (m.made, m'.made) at z in
          let i = made_inv z₁ in
          let b : value_bytes m'.output ≡ value_bytes m.output = ap value_bytes (sym i.0) in
          rw (next_run p recs left done work mark st out m e, next_run q recs left done work' mark' st' out m' (sym same ∙ e), b) (more m m' i.0 i.1)

-- No time, and zeros.
blank : Bytes → Bytes
blank p = start_header p ++ replicate (8 * cells p) 0

blank_length : (p : Bytes) → length (blank p) ≡ cell_at (cells p)
unfolding blank start_header bytes_of cell_at
blank_length p = let e = length-replicate {A = ℕ} (8 * cells p) 0 in omega arith

blank_time : (p : Bytes) → last_time (blank p) ≡ no_time
unfolding blank start_header bytes_of last_time u32_at u16_at byte_at
blank_time p = refl

blank_small : (p : Bytes) → Small (blank p)
unfolding blank start_header
blank_small p = small_append _ _ (small_append _ _ (small_bytes 4 no_time) (small_bytes 4 (checks_of p))) (small_zeros (8 * cells p))

-- A start state: at rest, without a time.
record Started (p : Bytes) : Type 0 where
  bytes : Small (start_state p)
  long : length (start_state p) ≡ state_length p
  moment : last_time (start_state p) ≡ no_time
  rests : rests_s (start_state p) (root p) ≡ true

started : (p : Bytes) → Seated p → Started p
unfolding start_state blank state_length
started p seat =
    let a = reset_rests (root p) most_nodes (cells p) (type_at p) (blank p) seat.sits seat.once (blank_small p) (blank_length p) in
    record { bytes = a.kept.bytes; long = a.kept.long ∙ blank_length p; moment = a.kept.moment ∙ blank_time p; rests = a.holds }

-- The two start states go together.
pub start_pair : {π : ℕ → ℕ} (p q : Bytes) (x : LessS π (root p) (root q)) → Seated p → Seated q → Pair p q x (start_state p) (start_state q)
start_pair p q x sp sq =
    let a = started p sp in
    let b = started q sq in
    record {
      bytes = a.bytes;
      bytes' = b.bytes;
      long = a.long;
      long' = b.long;
      moment = a.moment ∙ sym b.moment;
      alike = rests_alike (start_state p) (start_state q) x a.rests b.rests;
    }

-- What run is lent from start.
lent : (p st recs out : Bytes) (fit : Bool) → Accepted p → well_formed p st ≡ true
    → lent_verdict p st recs out fit
    ≡ (refuse_if (not fit) RecordsLength otherwise refuse_if (not (eqb (length out) (8 * (length recs / input_length)))) OutputLength)
unfolding lent_verdict ◌otherwise◌ refuse_if
lent p st recs out fit acc well = rw (fine_verdict p acc, state_fine p st well)

-- A new program with lets dropped answers as the old one.
pub answers_alike : {π : ℕ → ℕ} (p q : Bytes) → Small p → Small q → Accepted p → Accepted q → LessS π (root p) (root q) → AnswersAlike p q
unfolding run_call run_outcome refuse_if ◌otherwise◌
answers_alike {π} p q hp hq pa qa x = record {
  runs = λ recs out hr.
      let sp = seated p hp pa in
      let sq = seated q hq qa in
      let w = (start_made p sp).well in
      let w' = (start_made q sq).well in
      rw (
        lent p (start_state p) recs out (eqb (length recs % input_length) 0 and leb (length recs / input_length) 4096) pa w,
        lent q (start_state q) recs out (eqb (length recs % input_length) 0 and leb (length recs / input_length) 4096) qa w',
      )
      (go recs out (eqb (length recs % input_length) 0 and leb (length recs / input_length) 4096) (eqb (length out) (8 * (length recs / input_length)))
      (run_same p q recs x pa qa sp sq hr (length recs / input_length) 0 0 0 no_step no_step (start_state p) (start_state q) out w w' (start_pair p q x sp sq)));
}
  where
    go : (recs out : Bytes) (fit long : Bool)
        → SameRun (run_from p recs (length recs / input_length) 0 0 no_step (start_state p) out) (run_from q recs (length recs / input_length) 0 0 no_step (start_state q) out)
        → SameRun
        (run_outcome p (start_state p) recs out (refuse_if (not fit) RecordsLength otherwise refuse_if (not long) OutputLength))
        (run_outcome q (start_state q) recs out (refuse_if (not fit) RecordsLength otherwise refuse_if (not long) OutputLength))
    go recs out false long h = record { answers = refused; outputs = refl }
    go recs out true false h = record { answers = refused; outputs = refl }
    go recs out true true h = h
