-- Demands 1 and 2 of a run: what a refused run leaves, and how its steps go.
-- Assumes nothing.
use Rattle.std.specs.Prelude.{Ok, Err}
use Rattle.rules.proofs.Same.{same_finished, same_refused}
use Rattle.rules.specs.Verdicts.{finished_with, refused_after}
use mathlib.Core.Path.{◌≡◌, refl, sym, ap, ◌∙◌}
use mathlib.Core.List.{[], ◌∷◌, ◌++◌}
use Prim.Native.Nat.{ℕ, ◌+◌, ◌*◌, ◌/◌, ◌<◌, ◌≤◌}
use native.Mathlib.Omega.{arith}
use lib.ListN.{length, take, drop}
use Rattle.rules.specs.Bytes.{Bytes, write_at}
use Rattle.rules.specs.Layout.{input_length, input_at}
use Rattle.rules.specs.Calls.{RunOutcome, no_step, record_verdict}
use Rattle.rules.specs.declared.Refusal.{Refusal}
use Rattle.promises.specs.Run.{run_verdict, work_in}
use Rattle.rooms.proofs.WalkLaws.{not_finished, write_front}
use Rattle.cut.proofs.Records.{drop_past}
use Rattle.cut.proofs.Cut.{Lent}
use Rattle.mission.specs.Through.{mark_in, Through, at_end}
use Rattle.mission.specs.Refused.{RefusedRun, for_lent, for_record}
use Rattle.mission.specs.Mission.{StepsOf}
use Rattle.mission.proofs.Traces.{Ends, all_of, stopped, Traced, through_long}
use Rattle.mission.proofs.Outcomes.{Outcome, lent_refused, went, first_run}

-- Answers that are equal.
record SameRefusal (q r : Refusal) (v w m n : ℕ) : Type 0 where
  reason : q ≡ r
  work : v ≡ w
  mark : m ≡ n

same_refusal : {q r : Refusal} {v w m n : ℕ} → refused_after q v m ≡ refused_after r w n → SameRefusal q r v w m n
same_refusal e = let s = same_refused e in record { reason = s.0; work = s.1; mark = s.2 }

same_count : {a b v w m n : ℕ} → finished_with a v m ≡ finished_with b w n → a ≡ b
same_count e = (same_finished e).0

-- The front of a list, and the rest.
front : (a b : Bytes) → take (length a) (a ++ b) ≡ a
front [] b = refl
front (x ∷ a) b = ap (λ (t : Bytes). x ∷ t) (front a b)

behind : (a b : Bytes) → drop (length a) (a ++ b) ≡ b
behind a b = ap (λ (n : ℕ). drop n (a ++ b)) (let z : length a ≡ length a + 0 = omega arith in z) ∙ drop_past a b 0

-- What the steps show stands at the front of the room, and behind it what was there.
pub room_is : {p st recs out : Bytes} {o : RunOutcome} → Lent p st recs out → (t : Traced p recs o (length recs / input_length) 0 0 no_step st out)
    → o.output ≡ t.shown ++ drop (8 * t.steps) out
room_is {out = out} l t =
    t.output ∙ write_front t.shown out (omega (arith, l.room, through_long t.through, t.few))
    ∙ ap (λ (n : ℕ). t.shown ++ drop n out) (through_long t.through)

-- A refused run.
stopped_run : {p st recs out : Bytes} {o : RunOutcome} {r : Refusal} {w m : ℕ} → o.answer ≡ refused_after r w m
    → (t : Traced p recs o (length recs / input_length) 0 0 no_step st out) → Lent p st recs out → run_verdict p st recs out ≡ Ok tt
    → Ends recs o (length recs / input_length) 0 0 t.steps t.total t.mark₁ → RefusedRun p st recs out r w m o.state o.output
stopped_run a t l e (all_of h f) = absurd (not_finished (sym a ∙ f))
stopped_run {p} {st} {recs} {out} {o} {r} {w} {m} a t l e (stopped q h v f) =
    let s = same_refusal (sym f ∙ a) in
    let k : ℕ = t.steps in
    let d : 0 + k ≡ k = omega arith in
    let u : t.total ≡ w = (let z : t.total ≡ 0 + t.total = omega arith in z) ∙ s.work in
    let out₁ = room_is l t in
    let long : 8 * k ≡ length t.shown = sym (through_long t.through) in
    let rest : Bytes = drop (8 * k) out in
    let shows : t.shown ≡ take (8 * k) o.output
    = sym (ap (λ (n : ℕ). take n o.output) long ∙ ap (take (length t.shown)) out₁ ∙ front t.shown rest) in
    for_record k e h
    (sym (ap (λ (j : ℕ). record_verdict j o.state (input_at recs j)) d) ∙ v ∙ ap Err s.reason)
    (first_run l t.few t.through ∙ λ i. record { answer = finished_with k (u i) (s.mark i); state = o.state; output = shows i })
    (ap (λ (n : ℕ). drop n o.output) long ∙ ap (drop (length t.shown)) out₁ ∙ behind t.shown rest)

pub refused_run : {p st recs out : Bytes} {o : RunOutcome} → Outcome p st recs out o → (r : Refusal) (w m : ℕ) → o.answer ≡ refused_after r w m
    → RefusedRun p st recs out r w m o.state o.output
refused_run (lent_refused q e f) r w m a =
    let s = same_refusal (sym (ap (λ (x : RunOutcome). x.answer) f) ∙ a) in
    for_lent (e ∙ ap Err s.reason) (sym s.work) (sym s.mark) (ap (λ (x : RunOutcome). x.state) f) (ap (λ (x : RunOutcome). x.output) f)
refused_run (went e l t) r w m a = stopped_run a t l e t.ends

-- How the steps go.
work_told : {recs : Bytes} {o : RunOutcome} {left steps total mark : ℕ} → Ends recs o left 0 0 steps total mark → work_in o.answer ≡ total
unfolding work_in
work_told {total = total} (all_of h f) = ap work_in f ∙ (let z : 0 + total ≡ total = omega arith in z)
work_told {total = total} (stopped r h v f) = ap work_in f ∙ (let z : 0 + total ≡ total = omega arith in z)

mark_told : {recs : Bytes} {o : RunOutcome} {left steps total mark : ℕ} → Ends recs o left 0 0 steps total mark → mark_in o.answer ≡ mark
unfolding mark_in
mark_told (all_of h f) = ap mark_in f
mark_told (stopped r h v f) = ap mark_in f

all_told : {recs : Bytes} {o : RunOutcome} {left steps total mark : ℕ} → Ends recs o left 0 0 steps total mark → (s w m : ℕ) → o.answer ≡ finished_with s w m
    → (s ≡ steps) × (steps ≡ left)
all_told {steps = steps} (all_of h f) s w m g =
    (same_count (sym g ∙ f) ∙ (let z : 0 + steps ≡ steps = omega arith in z), h)
all_told (stopped r h v f) s w m g = absurd (not_finished (sym f ∙ g))

pub steps_of : {p st recs out : Bytes} {o : RunOutcome} → Outcome p st recs out o → StepsOf p st recs out o.answer o.state o.output
unfolding work_in mark_in
steps_of (lent_refused q e f) =
    rw f (record {
      steps = 0;
      shown = [];
      through = at_end;
      written = refl;
      all_done = λ s w m g. absurd (not_finished g);
    })
steps_of {o = o} (went e l t) = record {
  steps = t.steps;
  shown = t.shown;
  through = rw (work_told t.ends, mark_told t.ends) t.through;
  written = room_is l t;
  all_done = λ s w m g. let a = all_told t.ends s w m g in (e, a.0, a.1);
}
