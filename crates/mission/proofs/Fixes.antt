-- The demands fix each call: whatever meets them is the definition's answer, and state and output, for every list of bytes that is lent. So any
-- two calls that meet them are equal.
-- Assumes nothing.
use Rattle.std.specs.Prelude.{Ok, Err}
use Rattle.rules.specs.Verdicts.{CheckAnswer, RunAnswer, StartAnswer, Verdict, accepted_with, finished_with, refused_after}
use mathlib.Core.Path.{◌≡◌, refl, sym, ap, ◌∙◌}
use mathlib.Core.List.{[], ◌++◌, append-nil}
use Prim.Native.Nat.{ℕ, zero, suc, ◌+◌, ◌-◌, ◌*◌, ◌/◌, ◌<◌, ◌≤◌}
use native.Mathlib.Omega.{arith}
use lib.ListN.{length, take, drop, take-append-drop}
use borrow.Author.Tests.{eqb-true}
use Rattle.rules.specs.Bytes.{Bytes, write_at}
use Rattle.rules.specs.Layout.{input_length, input_at}
use Rattle.rules.specs.Update.{step_of}
use Rattle.rules.specs.Calls.{◌otherwise◌, refuse_if, program_verdict, check_answer, check_call, StartOutcome, start_outcome, start_call, RunOutcome, record_verdict, no_step, run_from, run_call}
use Rattle.rules.specs.declared.Refusal.{Refusal}
use Rattle.rules.proofs.Kids.{not_not}
use Rattle.rules.proofs.Verdicts.{both_fine, if_fine}
use Rattle.promises.specs.Run.{run_verdict, work_in}
use Rattle.rooms.specs.Walk.{Walk, walk, in_room}
use Rattle.rooms.proofs.WalkLaws.{walk_stops, walk_agree, run_walk, whole, write_front, write_all}
use Rattle.cut.proofs.Records.{input_before}
use Rattle.cut.proofs.Halves.{behind, walk_split}
use Rattle.cut.proofs.Cut.{Lent}
use Rattle.declarative.specs.Exactly.{Accepts}
use Rattle.declarative.proofs.AcceptedExactly.{accepted_exactly}
use Rattle.mission.specs.Faults.{Fault, StartFault, FirstOf}
use Rattle.mission.specs.Through.{mark_in}
use Rattle.mission.specs.Refused.{RefusedRun, for_lent, for_record}
use Rattle.mission.specs.Mission.{Accepting, CheckDemands, StartDemands, StepsOf, RunDemands}
use Rattle.mission.proofs.Firsts.{first_fault, no_fault, one_fault, start_verdict, first_start, no_start_fault, one_start_fault}
use Rattle.mission.proofs.Traces.{through_run, through_long}
use Rattle.mission.proofs.Outcomes.{was_lent, call_fine, call_refused, FirstFew, first_few}

-- A run that is not refused: its steps by the rules are the definition's.
fixed_finished : (p st recs out : Bytes) (s w m : ℕ) (st₁ out₁ : Bytes) → StepsOf p st recs out (finished_with s w m) st₁ out₁
    → run_call p st recs out ≡ record { answer = finished_with s w m; state = st₁; output = out₁ }
unfolding run_from work_in mark_in
fixed_finished p st recs out s w m st₁ out₁ x =
    let d = x.all_done s w m refl in
    let l = was_lent p st recs out d.0 in
    let long = through_long x.through in
    let n : length recs / input_length ≡ x.steps + 0 = omega (arith, d.2) in
    let steps : 0 + x.steps ≡ s = omega (arith, d.1) in
    let work : 0 + w ≡ w = omega arith in
    let room : write_at out (8 * 0) x.shown ≡ out₁
    = write_front x.shown out (omega (arith, long, l.room, d.2)) ∙ ap (λ (k : ℕ). x.shown ++ drop k out) long ∙ sym x.written in
    call_fine p st recs out d.0
    ∙ ap (λ (k : ℕ). run_from p recs k 0 0 no_step st out) n
    ∙ through_run x.through 0 0 out
    ∙ (λ i. record { answer = finished_with (steps i) (work i) m; state = st₁; output = room i })

-- A run that is refused at the record numbered k, by the run of the first k.
module _ (p st recs out : Bytes) (k : ℕ) (r : Refusal) (w mark : ℕ) (st₁ out₁ : Bytes) (l : Lent p st recs out) (h : k < length recs / input_length)
    (v : record_verdict k st₁ (input_at recs k) ≡ Err r)
    (e : run_call p st (take (input_length * k) recs) (take (8 * k) out) ≡ record { answer = finished_with k w mark; state = st₁; output = take (8 * k) out₁ })
    (b : drop (8 * k) out₁ ≡ drop (8 * k) out) where
  few : FirstFew p st recs out k
  few = first_few l (omega arith)

  -- The first k records' walk, in the whole list.
  abbrev some : Walk
  some = walk p recs k 0 0 no_step st

  some_is : run_call p st (take (input_length * k) recs) (take (8 * k) out) ≡ in_room 0 (take (8 * k) out) some
  some_is =
      call_fine p st _ _ few.fine
      ∙ ap (λ (m : ℕ). run_from p (take (input_length * k) recs) m 0 0 no_step st (take (8 * k) out)) few.count
      ∙ run_walk k p (take (input_length * k) recs) 0 0 no_step st (take (8 * k) out)
      ∙ ap (in_room 0 (take (8 * k) out)) (walk_agree k p (take (input_length * k) recs) recs 0 0 no_step st λ j f g.
      let q = sym (few.same j (omega arith)) in
      record { verdict = λ s. ap (record_verdict j s) q; step = λ s. ap (λ (x : Bytes). step_of p x s) q })

  told : some.answer ≡ finished_with k w mark
  unfolding in_room
  told = sym (ap (λ (o : RunOutcome). o.answer) some_is) ∙ ap (λ (o : RunOutcome). o.answer) e

  state_is : some.state ≡ st₁
  unfolding in_room
  state_is = sym (ap (λ (o : RunOutcome). o.state) some_is) ∙ ap (λ (o : RunOutcome). o.state) e

  wide : length some.written ≡ 8 * k
  wide = (whole k p recs 0 0 no_step st k w mark told).long

  -- What they wrote is the front of the room, and behind it is what was there.
  front_is : some.written ≡ take (8 * k) out₁
  unfolding in_room
  front_is =
      sym (write_all some.written (take (8 * k) out) (few.wide ∙ sym wide))
      ∙ sym (ap (λ (o : RunOutcome). o.output) some_is) ∙ ap (λ (o : RunOutcome). o.output) e

  room_is : write_at out 0 (some.written ++ []) ≡ out₁
  room_is =
      ap (write_at out 0) (append-nil some.written)
      ∙ write_front some.written out (omega (arith, wide, l.room))
      ∙ (λ i. front_is i ++ drop (wide i) out)
      ∙ ap (λ (t : Bytes). take (8 * k) out₁ ++ t) (sym b)
      ∙ take-append-drop (8 * k) out₁

  -- So the whole list's walk stops at the record numbered k.
  all_is : (m : ℕ) → length recs / input_length ≡ k + suc m
      → walk p recs (length recs / input_length) 0 0 no_step st ≡ behind some.written (record { answer = refused_after r w mark; state = st₁; written = [] })
  all_is m n =
      ap (λ (j : ℕ). walk p recs j 0 0 no_step st) n
      ∙ walk_split k (suc m) p recs 0 0 no_step st k w mark told
      ∙ ap (behind some.written) (ap (walk p recs (suc m) k w mark) state_is ∙ walk_stops p recs m k w mark st₁ v)

  fixed_at : run_verdict p st recs out ≡ Ok tt → run_call p st recs out ≡ record { answer = refused_after r w mark; state = st₁; output = out₁ }
  unfolding in_room behind
  fixed_at fine =
      let n : length recs / input_length ≡ k + suc (length recs / input_length - suc k) = omega (arith, h) in
      call_fine p st recs out fine
      ∙ run_walk (length recs / input_length) p recs 0 0 no_step st out
      ∙ ap (in_room 0 out) (all_is _ n)
      ∙ ap (λ (t : Bytes). record { answer = refused_after r w mark; state = st₁; output = t }) room_is

fixed_refused : (p st recs out : Bytes) (r : Refusal) (w m : ℕ) (st₁ out₁ : Bytes) → RefusedRun p st recs out r w m st₁ out₁
    → run_call p st recs out ≡ record { answer = refused_after r w m; state = st₁; output = out₁ }
fixed_refused p st recs out r w m st₁ out₁ (for_lent e f u g h) =
    call_refused p st recs out r e ∙ (λ i. record { answer = refused_after r (sym f i) (sym u i); state = sym g i; output = sym h i })
fixed_refused p st recs out r w m st₁ out₁ (for_record k fine h v e b) =
    fixed_at p st recs out k r w m st₁ out₁ (was_lent p st recs out fine) h v e b fine

pub fixed_run : (p st recs out : Bytes) (answer : RunAnswer) (st₁ out₁ : Bytes) → RunDemands p st recs out answer st₁ out₁
    → run_call p st recs out ≡ record { answer = answer; state = st₁; output = out₁ }
fixed_run p st recs out (Ok end) st₁ out₁ x = fixed_finished p st recs out end.steps end.work end.wrapped st₁ out₁ x.by_rules
fixed_run p st recs out (Err stop) st₁ out₁ x =
    fixed_refused p st recs out stop.why stop.work stop.wrapped st₁ out₁ (x.refuses stop.why stop.work stop.wrapped refl)

-- Check.
fixed_verdict : (p : Bytes) (r : Refusal) → FirstOf (Fault p) r → program_verdict p ≡ Err r
fixed_verdict p r f = go (program_verdict p) refl
  where
    go : (v : Verdict) → program_verdict p ≡ v → program_verdict p ≡ Err r
    go (Ok _) e = absurd (no_fault p e r f.given₀)
    go (Err q) e = e ∙ ap Err (one_fault (first_fault p q e) f)

pub fixed_check : (p : Bytes) (answer : CheckAnswer) → CheckDemands p answer → answer ≡ check_call p
unfolding check_call check_answer
fixed_check p (Err r) x = sym (ap (check_answer p) (fixed_verdict p r (x.first_code r refl)))
fixed_check p (Ok found) x =
    let a : Accepting (Ok found) = record { count = found.nodes; cells = found.cells; most = found.bound; type = found.root; is = refl } in
    let n = x.numbers a in
    let c = (accepted_exactly p).by_sentences.if₀ (x.exactly.only_if a) in
    (λ i. accepted_with (n.0 i) (n.1 i) (n.2 i) (n.3 i)) ∙ sym (ap (check_answer p) ((accepted_exactly p).by_verdict.only_if c))

-- Start.
fixed_start_verdict : (p st : Bytes) (r : Refusal) → FirstOf (StartFault p st) r → start_verdict p st ≡ Err r
unfolding start_verdict
fixed_start_verdict p st r f = go (start_verdict p st) refl
  where
    go : (v : Verdict) → start_verdict p st ≡ v → start_verdict p st ≡ Err r
    go (Ok _) e =
        let b = both_fine _ _ e in
        absurd (no_start_fault p st b.0 (eqb-true _ _ (not_not _ (if_fine _ _ b.1))) r f.given₀)
    go (Err q) e = e ∙ ap Err (one_start_fault (first_start p st q e) f)

pub fixed_start : (p st : Bytes) (answer : StartAnswer) (st₁ : Bytes) → StartDemands p st answer st₁
    → start_call p st ≡ record { answer = answer; state = st₁ }
unfolding start_call start_outcome start_verdict
fixed_start p st (Err r) st₁ x =
    ap (start_outcome p st) (fixed_start_verdict p st r (x.first_code r refl))
    ∙ (λ i. record { answer = Err r; state = sym (x.nothing_written r refl) i })
fixed_start p st (Ok _) st₁ x = go (start_verdict p st) refl
  where
    go : (v : Verdict) → start_verdict p st ≡ v → start_outcome p st v ≡ record { answer = Ok tt; state = st₁ }
    go (Ok _) e = λ i. record { answer = Ok tt; state = sym (x.starts refl).0 i }
    go (Err q) e = absurd (x.no_code refl q (first_start p st q e).given₀)
