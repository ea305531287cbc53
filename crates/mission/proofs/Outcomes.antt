-- What a run's call comes to: it is refused for what it is lent, or it is steps by the rules.
-- Assumes nothing.
use Rattle.std.specs.Prelude.{Ok, Err}
use Rattle.rules.specs.Verdicts.{Verdict, finished_with, refused_after}
use mathlib.Core.Path.{◌≡◌, refl, sym, ap, ◌∙◌}
use mathlib.Core.Bool.{true}
use mathlib.Core.List.{[], ◌++◌}
use Prim.Native.Nat.{ℕ, ◌+◌, ◌*◌, ◌/◌, ◌%◌, ◌<◌, ◌≤◌}
use native.Mathlib.Omega.{arith}
use lib.ListN.{length, take, drop, length-append, length-drop, take-append-drop}
use Rattle.rules.specs.Bytes.{Bytes, write_at}
use Rattle.rules.specs.Layout.{input_length, input_at}
use Rattle.rules.specs.Tree.{root}
use Rattle.rules.specs.Typing.{type_s}
use Rattle.rules.specs.Bound.{bound}
use Rattle.rules.specs.Calls.{RunOutcome, no_step, run_from, run_outcome, run_call}
use Rattle.rules.specs.declared.Refusal.{Refusal}
use Rattle.promises.specs.Run.{run_verdict}
use Rattle.promises.specs.Small.{Small}
use Rattle.promises.proofs.FromTable.{seated}
use Rattle.promises.proofs.Runs.{run_from_lem}
use Rattle.rooms.proofs.WalkLaws.{write_front, write_all}
use Rattle.cut.proofs.Records.{input_before}
use Rattle.cut.proofs.Cut.{fits, Lent, lent_fine, fine_lent}
use Rattle.mission.specs.Through.{Through}
use Rattle.mission.proofs.Traces.{Traced, trace, through_run, through_long, through_same}

pub data Outcome (p st recs out : Bytes) (o : RunOutcome) : Type 0 where
  lent_refused : (r : Refusal) → run_verdict p st recs out ≡ Err r → o ≡ record { answer = refused_after r 0 no_step; state = st; output = out }
      → Outcome p st recs out o
  went : run_verdict p st recs out ≡ Ok tt → Lent p st recs out → Traced p recs o (length recs / input_length) 0 0 no_step st out → Outcome p st recs out o

-- What is lent as it should be, by its verdict, and the other way.
pub was_lent : (p st recs out : Bytes) → run_verdict p st recs out ≡ Ok tt → Lent p st recs out
unfolding run_verdict fits
was_lent p st recs out e = lent_fine p st recs out e

pub lent_well : (p st recs out : Bytes) → Lent p st recs out → run_verdict p st recs out ≡ Ok tt
unfolding run_verdict fits
lent_well p st recs out l = fine_lent p st recs out l

-- The call, by its verdict.
pub call_fine : (p st recs out : Bytes) → run_verdict p st recs out ≡ Ok tt → run_call p st recs out ≡ run_from p recs (length recs / input_length) 0 0 no_step st out
unfolding run_call run_verdict run_outcome
call_fine p st recs out e = ap (run_outcome p st recs out) e

pub call_refused : (p st recs out : Bytes) (r : Refusal) → run_verdict p st recs out ≡ Err r
    → run_call p st recs out ≡ record { answer = refused_after r 0 no_step; state = st; output = out }
unfolding run_call run_verdict run_outcome
call_refused p st recs out r e = ap (run_outcome p st recs out) e

pub outcome : (p st recs out : Bytes) → Small p → Small st → Small recs → Outcome p st recs out (run_call p st recs out)
outcome p st recs out hp hs hr = go (run_verdict p st recs out) refl
  where
    go : (v : Verdict) → run_verdict p st recs out ≡ v → Outcome p st recs out (run_call p st recs out)
    go (Err r) e = lent_refused r e (call_refused p st recs out r e)
    go (Ok _) e =
        let l = was_lent p st recs out e in
        let n : ℕ = length recs / input_length in
        let acc = l.accepts in
        went e l (rw (call_fine p st recs out e) (trace n p recs (run_from p recs n 0 0 no_step st out) 0 0 no_step st out l.well
        (run_from_lem n p recs acc (seated p hp acc) hr 0 0 no_step st out l.well hs)))

-- So many of a list.
pub taken_long : (i : ℕ) (s : Bytes) → i ≤ length s → length (take i s) ≡ i
taken_long i s h = omega (arith, ap length (take-append-drop i s), length-drop i s, length-append (take i s) (drop i s))

-- The first k records alone, with their part of the room: lent as they should be, and the same records.
pub record FirstFew (p st recs out : Bytes) (k : ℕ) : Type 0 where
  pub fine : run_verdict p st (take (input_length * k) recs) (take (8 * k) out) ≡ Ok tt
  pub count : length (take (input_length * k) recs) / input_length ≡ k
  pub wide : length (take (8 * k) out) ≡ 8 * k
  pub same : (j : ℕ) → j < k → input_at recs j ≡ input_at (take (input_length * k) recs) j

pub first_few : {p st recs out : Bytes} {k : ℕ} → Lent p st recs out → k ≤ length recs / input_length → FirstFew p st recs out k
first_few {p} {st} {recs} {out} {k} l h =
    let few : Bytes = take (input_length * k) recs in
    let room : Bytes = take (8 * k) out in
    let long : length few ≡ input_length * k = taken_long (input_length * k) recs (omega arith) in
    let wide : length room ≡ 8 * k = taken_long (8 * k) out (omega (arith, l.room)) in
    let lent : Lent p st few room
    = record { accepts = l.accepts; well = l.well; even = omega arith; few = omega (arith, l.few); room = omega arith } in
    record {
      fine = lent_well p st few room lent;
      count = omega arith;
      wide = wide;
      same = λ j g.
          ap (λ (s : Bytes). input_at s j) (sym (take-append-drop (input_length * k) recs))
          ∙ input_before few (drop (input_length * k) recs) j k long g;
    }

-- A run of the first k records alone: its steps, all done.
pub first_run : {p st recs out : Bytes} {most type k : ℕ} {shown st₁ : Bytes} {total m : ℕ} → Lent p st recs out → k ≤ length recs / input_length
    → Through p recs most type k 0 st shown total no_step m st₁
    → run_call p st (take (input_length * k) recs) (take (8 * k) out) ≡ record { answer = finished_with k total m; state = st₁; output = shown }
unfolding run_from
first_run {p} {st} {recs} {out} {k = k} {shown = shown} {st₁ = st₁} {total = total} {m = m} l h t =
    let few : Bytes = take (input_length * k) recs in
    let room : Bytes = take (8 * k) out in
    let f : FirstFew p st recs out k = first_few l h in
    let z : k ≡ k + 0 = omega arith in
    let d : 0 + k ≡ k = omega arith in
    let w : 0 + total ≡ total = omega arith in
    call_fine p st few room f.fine
    ∙ ap (λ (j : ℕ). run_from p few j 0 0 no_step st room) (f.count ∙ z)
    ∙ through_run (through_same (λ j g. f.same j (omega arith)) t) 0 0 room
    ∙ (λ i. record { answer = finished_with (d i) (w i) m; state = st₁; output = write_all shown room (f.wide ∙ sym (through_long t)) i })
