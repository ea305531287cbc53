-- A run that is made is steps by the published rules, one after the other; and such steps are a run.
-- Assumes nothing.
use Rattle.std.specs.Prelude.{Ok, Err}
use Rattle.rules.specs.Verdicts.{finished_with, refused_after}
use mathlib.Core.Path.{◌≡◌, refl, sym, ap, ◌∙◌}
use mathlib.Core.Bool.{Bool, true}
use mathlib.Core.List.{[], ◌++◌}
use Prim.Native.Nat.{ℕ, zero, suc, ◌+◌, ◌*◌, ◌<◌, ◌≤◌}
use native.Mathlib.Omega.{arith}
use lib.ListN.{length, length-append}
use Rattle.rules.specs.Bytes.{Bytes, write_at}
use Rattle.rules.specs.Values.{value_bytes}
use Rattle.rules.specs.Layout.{input_at}
use Rattle.rules.specs.Tree.{root}
use Rattle.rules.specs.Typing.{type_s}
use Rattle.rules.specs.WellFormed.{well_formed}
use Rattle.rules.specs.Bound.{bound}
use Rattle.rules.specs.Update.{Made, step_of}
use Rattle.rules.specs.Calls.{RunOutcome, record_verdict, first_wrapped, run_from}
use Rattle.rules.specs.declared.Value.{Value}
use Rattle.rules.specs.declared.Tally.{Tally}
use Rattle.rules.specs.declared.Refusal.{Refusal}
use Rattle.promises.specs.Step.{StepMade}
use Rattle.promises.specs.Run.{RunMade, finished, refused, stepped}
use Rattle.promises.proofs.Steps.{well_parts}
use Rattle.published.specs.Steps.{Steps}
use Rattle.published.specs.Marks.{left_of}
use Rattle.published.proofs.OneStep.{sound_step, complete_step, marked_step}
use Rattle.published.proofs.Sizes.{sized_step}
use Rattle.rooms.proofs.WalkLaws.{eight, write_both}
use Rattle.mission.specs.Through.{ByRules, mark_after, Through, at_end, one_step}

-- Two steps that are made of one state and record are one.
same_value : {u v : Value} {s t : Bytes} {a b : Tally} → Made u s a ≡ Made v t b → (u ≡ v) × (s ≡ t) × (a ≡ b)
same_value e = (cc, cc, cc)

-- The rules give a step that is made, and no other.
only_made : {p rec st : Bytes} {v : Value} {st₁ : Bytes} {w : Tally} → step_of p rec st ≡ Made v st₁ w
    → (u : Value) (s : Bytes) (n : ℕ) (d : Steps p rec st u s n) → (u ≡ v) × (s ≡ st₁) × (n ≡ w.work) × (left_of d ≡ w.wrapped)
only_made e u s n d =
    let q = same_value (sym (sound_step d) ∙ e) in
    (q.0, q.1, ap (λ (t : Tally). t.work) q.2, marked_step d e)

-- A step that is made, by the rules.
by_rules : (p rec st : Bytes) → well_formed p st ≡ true → (m : StepMade p rec st)
    → ByRules p rec st (bound p) (type_s (root p)) m.output m.state m.tally.work m.tally.wrapped
by_rules p rec st well m =
    let d = complete_step m.made in
    record {
      valid = m.valid;
      typed = m.typed;
      well = m.well;
      long = (well_parts p m.state m.well).long ∙ sym (well_parts p st well).long;
      derived = d;
      counted = sized_step d;
      marked = marked_step d m.made;
      only = only_made m.made;
      within = m.within;
    }

-- How a run ends after so many steps: all records are done, or the next one is refused.
pub data Ends (recs : Bytes) (o : RunOutcome) (left done work steps total mark : ℕ) : Type 0 where
  all_of : steps ≡ left → o.answer ≡ finished_with (done + steps) (work + total) mark → Ends recs o left done work steps total mark
  stopped : (r : Refusal) → steps < left → record_verdict (done + steps) o.state (input_at recs (done + steps)) ≡ Err r
      → o.answer ≡ refused_after r (work + total) mark → Ends recs o left done work steps total mark

pub record Traced (p recs : Bytes) (o : RunOutcome) (left done work mark : ℕ) (st out : Bytes) : Type 0 where
  pub steps : ℕ
  pub few : steps ≤ left
  pub shown : Bytes
  pub total : ℕ
  pub mark₁ : ℕ
  pub through : Through p recs (bound p) (type_s (root p)) steps done st shown total mark mark₁ o.state
  pub output : o.output ≡ write_at out (8 * done) shown
  pub ends : Ends recs o left done work steps total mark₁

-- One step more before it.
ends_later : {recs : Bytes} {o : RunOutcome} {left done work steps total mark : ℕ} (w : ℕ) → Ends recs o left (suc done) (work + w) steps total mark
    → Ends recs o (suc left) done work (suc steps) (w + total) mark
ends_later {done = done} {work = work} {steps = steps} {total = total} {mark = mark} w (all_of e a) =
    let d : suc done + steps ≡ done + suc steps = omega arith in
    let t : work + w + total ≡ work + (w + total) = omega arith in
    all_of (omega arith) (a ∙ λ i. finished_with (d i) (t i) mark)
ends_later {recs = recs} {o = o} {done = done} {work = work} {steps = steps} {total = total} {mark = mark} w (stopped r h v a) =
    let d : suc done + steps ≡ done + suc steps = omega arith in
    let t : work + w + total ≡ work + (w + total) = omega arith in
    stopped r (omega arith) (sym (ap (λ (k : ℕ). record_verdict k o.state (input_at recs k)) d) ∙ v) (a ∙ ap (λ (n : ℕ). refused_after r n mark) t)

write_next : (out shown : Bytes) (done : ℕ) (v : Value)
    → write_at (write_at out (8 * done) (value_bytes v)) (8 * suc done) shown ≡ write_at out (8 * done) (value_bytes v ++ shown)
write_next out shown done v =
    let e : 8 * done + length (value_bytes v) ≡ 8 * suc done = omega (arith, eight v) in
    sym (write_both (value_bytes v) shown out (8 * done) ∙ ap (λ (j : ℕ). write_at (write_at out (8 * done) (value_bytes v)) j shown) e)

pub trace : (left : ℕ) (p recs : Bytes) (o : RunOutcome) (done work mark : ℕ) (st out : Bytes) → well_formed p st ≡ true
    → RunMade p recs o left done work mark st out → Traced p recs o left done work mark st out
unfolding write_at first_wrapped
trace zero p recs o done work mark st out well (finished e) =
    let d : done + 0 ≡ done = omega arith in
    let t : work + 0 ≡ work = omega arith in
    rw e (record {
      steps = 0;
      few = omega arith;
      shown = [];
      total = 0;
      mark₁ = mark;
      through = at_end;
      output = refl;
      ends = all_of refl λ i. finished_with (sym d i) (sym t i) mark;
    })
trace (suc left) p recs o done work mark st out well (refused r v e) =
    let d : done + 0 ≡ done = omega arith in
    let t : work + 0 ≡ work = omega arith in
    rw e (record {
      steps = 0;
      few = omega arith;
      shown = [];
      total = 0;
      mark₁ = mark;
      through = at_end;
      output = refl;
      ends = stopped r (omega arith) (ap (λ (k : ℕ). record_verdict k st (input_at recs k)) d ∙ v) (ap (λ (n : ℕ). refused_after r n mark) (sym t));
    })
trace (suc left) p recs o done work mark st out well (stepped v m more) =
    let t = trace left p recs o (suc done) (work + m.tally.work) (mark_after mark done m.tally.wrapped) m.state (write_at out (8 * done) (value_bytes m.output)) m.well more in
    record {
      steps = suc t.steps;
      few = omega (arith, t.few);
      shown = value_bytes m.output ++ t.shown;
      total = m.tally.work + t.total;
      mark₁ = t.mark₁;
      through = one_step v (by_rules p (input_at recs done) st well m) t.through;
      output = t.output ∙ write_next out t.shown done m.output;
      ends = ends_later m.tally.work t.ends;
    }

-- One step by the rules, in a run.
run_step : (p recs : Bytes) (left done work mark : ℕ) (st out : Bytes) {v : Value} {st₁ : Bytes} {n : ℕ}
    → record_verdict done st (input_at recs done) ≡ Ok tt → (d : Steps p (input_at recs done) st v st₁ n)
    → run_from p recs (suc left) done work mark st out
    ≡ run_from p recs left (suc done) (work + n) (mark_after mark done (left_of d)) st₁ (write_at out (8 * done) (value_bytes v))
unfolding run_from first_wrapped
run_step p recs left done work mark st out e d = rw (e, run_from, sound_step d)

-- Steps by the rules, and the run of what is left.
pub through_run : {p recs : Bytes} {most type n k : ℕ} {st shown st₁ : Bytes} {total m m₁ : ℕ} → Through p recs most type n k st shown total m m₁ st₁
    → (left work : ℕ) (out : Bytes)
    → run_from p recs (n + left) k work m st out ≡ run_from p recs left (k + n) (work + total) m₁ st₁ (write_at out (8 * k) shown)
unfolding write_at
through_run {p = p} {recs = recs} {k = k} {st = st} {m = m} at_end left work out =
    let l : 0 + left ≡ left = omega arith in
    let d : k ≡ k + 0 = omega arith in
    let t : work ≡ work + 0 = omega arith in
    λ i. run_from p recs (l i) (d i) (t i) m st out
through_run {p = p} {recs = recs} {k = k} {st = st} {m = m} {m₁ = m₁} (one_step {n = n} {st₁ = st₁} {st₂ = st₂} {shown = shown} {value = v} {work = w} {total = total} e b more) left work out =
    let l : suc n + left ≡ suc (n + left) = omega arith in
    let d : suc k + n ≡ k + suc n = omega arith in
    let t : work + w + total ≡ work + (w + total) = omega arith in
    ap (λ (j : ℕ). run_from p recs j k work m st out) l
    ∙ run_step p recs (n + left) k work m st out e b.derived
    ∙ ap (λ (x : Bool). run_from p recs (n + left) (suc k) (work + w) (mark_after m k x) st₁ (write_at out (8 * k) (value_bytes v))) b.marked
    ∙ through_run more left (work + w) (write_at out (8 * k) (value_bytes v))
    ∙ (λ i. run_from p recs left (d i) (t i) m₁ st₂ (write_next out shown k v i))

-- What they show is 8 bytes each, and their work at most the bound each.
pub through_long : {p recs : Bytes} {most type n k : ℕ} {st shown st₁ : Bytes} {total m m₁ : ℕ} → Through p recs most type n k st shown total m m₁ st₁
    → length shown ≡ 8 * n
through_long at_end = refl
through_long (one_step {n = n} {shown = shown} {value = v} e b more) =
    length-append (value_bytes v) shown ∙ omega (arith, eight v, through_long more)

pub through_within : {p recs : Bytes} {most type n k : ℕ} {st shown st₁ : Bytes} {total m m₁ : ℕ} → Through p recs most type n k st shown total m m₁ st₁
    → total ≤ n * most
through_within {most = most} at_end = omega arith
through_within (one_step {n = n} e b more) = omega (arith, b.within, through_within more)

-- They leave a well-formed state as long as before.
pub record Left (p st st₁ : Bytes) : Type 0 where
  pub well : well_formed p st₁ ≡ true
  pub long : length st₁ ≡ length st

pub through_left : {p recs : Bytes} {most type n k : ℕ} {st shown st₁ : Bytes} {total m m₁ : ℕ} → well_formed p st ≡ true
    → Through p recs most type n k st shown total m m₁ st₁ → Left p st st₁
through_left well at_end = record { well = well; long = refl }
through_left well (one_step e b more) =
    let l = through_left b.well more in
    record { well = l.well; long = l.long ∙ b.long }

-- The same steps over a list that has the same records there.
pub through_same : {p recs recs₂ : Bytes} {most type n k : ℕ} {st shown st₁ : Bytes} {total m m₁ : ℕ}
    → ((j : ℕ) → j < k + n → input_at recs j ≡ input_at recs₂ j) → Through p recs most type n k st shown total m m₁ st₁
    → Through p recs₂ most type n k st shown total m m₁ st₁
through_same same at_end = at_end
through_same {p = p} {recs₂ = recs₂} {most = most} {type = type} {k = k} {st = st} same (one_step {n = n} {st₁ = st₁} {value = v} {work = w} e b more) =
    let q = same k (omega arith) in
    one_step (sym (ap (λ (x : Bytes). record_verdict k st x) q) ∙ e) (rw q at b) (through_same (λ j h. same j (omega arith)) more)
