-- Demand 3 of a run: well-formed records whose times do not go back are answered, all of them.
-- Assumes nothing.
use Rattle.rules.specs.Verdicts.{RunAnswer, accepted_with, finished_with}
use mathlib.Core.Path.{◌≡◌, refl, sym, ap, ◌∙◌}
use mathlib.Core.Bool.{Bool, true}
use mathlib.Core.List.{[], ◌++◌, append-nil}
use Prim.Native.Nat.{ℕ, zero, suc, ◌+◌, ◌*◌, ◌/◌, ◌<◌, ◌≤◌}
use native.Mathlib.Omega.{arith}
use lib.ListN.{length}
use Rattle.rules.specs.Bytes.{Bytes, write_at}
use Rattle.rules.specs.Values.{value_bytes}
use Rattle.rules.specs.Layout.{nodes, input_length, input_at}
use Rattle.rules.specs.Bound.{bound}
use Rattle.rules.specs.Calls.{RunOutcome, record_verdict, no_step, check_call}
use Rattle.rules.specs.declared.Value.{Value}
use Rattle.rules.specs.declared.Refusal.{Refusal}
use Rattle.rules.proofs.Verdicts.{not_fine}
use Rattle.promises.specs.Small.{Small}
use Rattle.promises.proofs.Promises.{goes_on, Answered, answered}
use Rattle.rooms.proofs.WalkLaws.{write_all}
use Rattle.cut.proofs.Cut.{Lent}
use Rattle.mission.specs.Lent.{StepLent, RunLent}
use Rattle.mission.specs.Through.{ByRules, mark_after, Through, at_end, one_step}
use Rattle.mission.specs.Mission.{Finishes, Answers}
use Rattle.mission.proofs.Traces.{Ends, all_of, stopped, Traced, through_long, through_within, through_left}
use Rattle.mission.proofs.Records.{not_refused, ended, next_not_back, one_record}
use Rattle.mission.proofs.Outcomes.{Outcome, lent_refused, went, lent_well}

module _ (p st recs out : Bytes) (o : RunOutcome) (hp : Small p) (hr : Small recs) (count cells most type : ℕ)
    (a : check_call p ≡ accepted_with count cells most type) where
  -- What check answered.
  said : Answered p count cells most type
  said = answered p count cells most type a

  -- The whole bound.
  small_bound : most ≤ count * (count + 1)
  small_bound =
      let b : bound p ≤ nodes p * (nodes p + 1) = (goes_on p hp said.accepts).bounded in
      rw (said.most_is, said.count_is) b

  -- What is lent is fine for codes 1-11.
  lent : (n : ℕ) → RunLent p st recs out n → Lent p st recs out
  lent n l = record {
    accepts = said.accepts;
    well = l.state;
    even = omega (arith, l.whole);
    few = omega (arith, l.whole, l.few);
    room = omega (arith, l.whole, l.room);
  }

  -- No record is refused, so all are done.
  done_all : (n : ℕ) → RunLent p st recs out n → (t : Traced p recs o (length recs / input_length) 0 0 no_step st out)
      → Ends recs o (length recs / input_length) 0 0 t.steps t.total t.mark₁ → (t.steps ≡ n) × (o.answer ≡ finished_with n t.total t.mark₁)
  done_all n l t (all_of h f) =
      let k : t.steps ≡ n = omega (arith, h, l.whole) in
      let d : 0 + t.steps ≡ n = omega arith in
      let w : 0 + t.total ≡ t.total = omega arith in
      (k, f ∙ λ i. finished_with (d i) (w i) t.mark₁)
  done_all n l t (stopped r h v f) =
      let k : t.steps < n = omega (arith, h, l.whole) in
      let d : 0 + t.steps ≡ t.steps = omega arith in
      let fine = not_refused t.steps o.state (input_at recs t.steps) (l.right t.steps k) (next_not_back t.steps hr l k t.through) in
      absurd (not_fine (sym v ∙ ap (λ (j : ℕ). record_verdict j o.state (input_at recs j)) d ∙ fine))

  pub finishes : (n : ℕ) → RunLent p st recs out n → Outcome p st recs out o → Finishes p st recs n o.answer o.state o.output count most type
  finishes n l (lent_refused r e f) = absurd (not_fine (sym e ∙ lent_well p st recs out (lent n l)))
  finishes n l (went e _ t) =
      let d = done_all n l t t.ends in
      let s : o.output ≡ t.shown = t.output ∙ write_all t.shown out (omega (arith, l.room, through_long t.through, d.0)) in
      let through : Through p recs most type n 0 st o.output t.total no_step t.mark₁ o.state = rw (s, said.most_is, said.type_is, sym d.0) t.through in
      let left = through_left l.state through in
      record {
        work = t.total;
        mark = t.mark₁;
        finished = d.1;
        through = through;
        well = left.well;
        long = left.long;
        within = through_within through;
        bounded = small_bound;
      }

-- Steps taken apart: none; and the first.
none_left : {p recs : Bytes} {most type k : ℕ} {st shown st₁ : Bytes} {total m m₁ : ℕ} → Through p recs most type zero k st shown total m m₁ st₁
    → (shown ≡ []) × (total ≡ 0) × (st₁ ≡ st)
none_left at_end = (refl, refl, refl)

record OneLeft (p rec st : Bytes) (most type k : ℕ) (shown : Bytes) (total m m₁ : ℕ) (st₁ : Bytes) : Type 0 where
  value : Value
  left : Bool
  shows : shown ≡ value_bytes value
  by_rules : ByRules p rec st most type value st₁ total left
  after : m₁ ≡ mark_after m k left

one_left : {p recs : Bytes} {most type k : ℕ} {st shown st₁ : Bytes} {total m m₁ : ℕ} → Through p recs most type (suc zero) k st shown total m m₁ st₁
    → OneLeft p (input_at recs k) st most type k shown total m m₁ st₁
one_left (one_step {value = v} {work = w} {left = left} e b rest) =
    let none = ended rest in
    let z : w + 0 ≡ w = omega arith in
    record {
      value = v;
      left = left;
      shows = ap (λ (s : Bytes). value_bytes v ++ s) none.0 ∙ append-nil (value_bytes v);
      by_rules = rw (none.3, none.1, z) b;
      after = none.2;
    }

-- One record.
one_answered : (p st rec : Bytes) (answer : RunAnswer) (st₁ out₁ : Bytes) (count most type : ℕ) → input_at rec 0 ≡ rec
    → Finishes p st rec 1 answer st₁ out₁ count most type → Answers p st rec answer st₁ out₁ count most type
one_answered p st rec answer st₁ out₁ count most type same f =
    let one = one_left f.through in
    let b : ByRules p rec st most type one.value st₁ f.work one.left = rw same at one.by_rules in
    record {
      value = one.value;
      work = f.work;
      mark = f.mark;
      finished = f.finished;
      shown = one.shows;
      valid = b.valid;
      typed = b.typed;
      well = f.well;
      long = f.long;
      derived = b.derived;
      counted = b.counted;
      within = b.within;
      bounded = f.bounded;
      marked = one.after ∙ ap (mark_after no_step 0) (sym b.marked);
    }

one_lent : (p st rec out : Bytes) → StepLent p st rec out → RunLent p st rec out 1
one_lent p st rec out l =
    let same = one_record rec l.right.long in
    record {
      state = l.state;
      whole = omega (arith, l.right.long);
      few = omega arith;
      right = λ k h. rw (let z : k ≡ 0 = omega arith in z, same) l.right;
      forward = λ h. rw same l.forward;
      onward = λ k h. absurd (omega arith);
      room = omega (arith, l.room);
    }

pub step_answers : (p st rec out : Bytes) (o : RunOutcome) → Small p → Small rec → (count cells most type : ℕ)
    → check_call p ≡ accepted_with count cells most type → StepLent p st rec out → Outcome p st rec out o
    → Answers p st rec o.answer o.state o.output count most type
step_answers p st rec out o hp hr count cells most type a l x =
    one_answered p st rec o.answer o.state o.output count most type (one_record rec l.right.long)
    (finishes p st rec out o hp hr count cells most type a 1 (one_lent p st rec out l) x)
