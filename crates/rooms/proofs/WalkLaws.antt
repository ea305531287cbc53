-- A run is its walk, written into the room that it is lent. So its answer, its state and what it writes do not depend on what the room held.
-- Assumes nothing.
use Rattle.std.specs.Prelude.{Ok, Err}
use Rattle.rules.specs.Verdicts.{Verdict, finished_with, refused_after}
use mathlib.Core.Path.{◌≡◌, refl, sym, ap, ◌∙◌}
use mathlib.Core.List.{[], ◌∷◌, ◌++◌, append-nil}
use Prim.Native.Nat.{ℕ, zero, suc, ◌+◌, ◌*◌, ◌<◌, ◌≤◌}
use native.Mathlib.Omega.{arith}
use lib.ListN.{length, set, drop, length-append}
use Rattle.rules.specs.Bytes.{Bytes, bytes_of, write_at}
use Rattle.rules.specs.Values.{packed, value_bytes}
use Rattle.rules.specs.Layout.{input_at}
use Rattle.rules.specs.Update.{Stepped, Made, NotMade, step_of}
use Rattle.rules.specs.Calls.{RunOutcome, record_verdict, first_wrapped, run_from}
use Rattle.rules.specs.declared.Value.{Value}
use Rattle.rules.specs.declared.Tally.{Tally}
use Rattle.rules.specs.declared.Refusal.{Refusal}
use Rattle.rules.specs.declared.Refusal.TheVariants.{StateFault}
use Rattle.rules.proofs.Same.{same_finished}
use Rattle.rooms.specs.Walk.{Walk, showing, walk, in_room}

module _ (p recs : Bytes) (left done work mark : ℕ) (st : Bytes) where
  -- A step that is made, and the rest.
  pub walk_next : {v : Value} {st₁ : Bytes} {w : Tally} → record_verdict done st (input_at recs done) ≡ Ok tt
      → step_of p (input_at recs done) st ≡ Made v st₁ w
      → walk p recs (suc left) done work mark st ≡ showing v (walk p recs left (suc done) (work + w.work) (first_wrapped mark done w) st₁)
  unfolding walk
  walk_next e f = rw (e, walk, f)

  -- A record that is refused.
  pub walk_stops : {r : Refusal} → record_verdict done st (input_at recs done) ≡ Err r
      → walk p recs (suc left) done work mark st ≡ record { answer = refused_after r work mark; state = st; written = [] }
  unfolding walk
  walk_stops e = rw (e, walk)

  -- A step that is not made.
  pub walk_stuck : record_verdict done st (input_at recs done) ≡ Ok tt → step_of p (input_at recs done) st ≡ NotMade
      → walk p recs (suc left) done work mark st ≡ record { answer = refused_after StateFault work mark; state = st; written = [] }
  unfolding walk
  walk_stuck e f = rw (e, walk, f)

  -- No record left.
  pub walk_ends : walk p recs zero done work mark st ≡ record { answer = finished_with done work mark; state = st; written = [] }
  unfolding walk
  walk_ends = refl

  -- The same of a run.
  run_next : (out : Bytes) {v : Value} {st₁ : Bytes} {w : Tally} → record_verdict done st (input_at recs done) ≡ Ok tt
      → step_of p (input_at recs done) st ≡ Made v st₁ w
      → run_from p recs (suc left) done work mark st out
      ≡ run_from p recs left (suc done) (work + w.work) (first_wrapped mark done w) st₁ (write_at out (8 * done) (value_bytes v))
  unfolding run_from
  run_next out e f = rw (e, run_from, f)

  run_stops : (out : Bytes) {r : Refusal} → record_verdict done st (input_at recs done) ≡ Err r
      → run_from p recs (suc left) done work mark st out ≡ record { answer = refused_after r work mark; state = st; output = out }
  unfolding run_from
  run_stops out e = rw (e, run_from)

  run_stuck : (out : Bytes) → record_verdict done st (input_at recs done) ≡ Ok tt → step_of p (input_at recs done) st ≡ NotMade
      → run_from p recs (suc left) done work mark st out ≡ record { answer = refused_after StateFault work mark; state = st; output = out }
  unfolding run_from
  run_stuck out e f = rw (e, run_from, f)

  -- How a proof about a run's next record goes: it is refused, or its step is made, or (never, in an accepted program) not.
  pub by_record : {A : Type 0} → ((r : Refusal) → record_verdict done st (input_at recs done) ≡ Err r → A)
      → (record_verdict done st (input_at recs done) ≡ Ok tt → step_of p (input_at recs done) st ≡ NotMade → A)
      → ((v : Value) (st₁ : Bytes) (w : Tally) → record_verdict done st (input_at recs done) ≡ Ok tt
      → step_of p (input_at recs done) st ≡ Made v st₁ w → A)
      → A
  by_record {A} never stuck made-it = go (record_verdict done st (input_at recs done)) refl
    where
      made : record_verdict done st (input_at recs done) ≡ Ok tt → (s : Stepped) → step_of p (input_at recs done) st ≡ s → A
      made e (Made v st₁ w) f = made-it v st₁ w e f
      made e NotMade f = stuck e f

      go : (v : Verdict) → record_verdict done st (input_at recs done) ≡ v → A
      go (Err r) e = never r e
      go (Ok _) e = made e (step_of p (input_at recs done) st) refl

-- Two records that a run cannot tell apart: refused alike after so many steps, and with the same step.
pub record SameRecord (p : Bytes) (done : ℕ) (rec₁ rec₂ : Bytes) : Type 0 where
  pub verdict : (st : Bytes) → record_verdict done st rec₁ ≡ record_verdict done st rec₂
  pub step : (st : Bytes) → step_of p rec₁ st ≡ step_of p rec₂ st

-- Runs over such records are the same.
pub walk_agree : (left : ℕ) (p recs₁ recs₂ : Bytes) (done work mark : ℕ) (st : Bytes)
    → ((k : ℕ) → done ≤ k → k < done + left → SameRecord p k (input_at recs₁ k) (input_at recs₂ k))
    → walk p recs₁ left done work mark st ≡ walk p recs₂ left done work mark st
unfolding walk
walk_agree zero p recs₁ recs₂ done work mark st a = refl
walk_agree (suc left) p recs₁ recs₂ done work mark st a =
    let b = a done (omega arith) (omega arith) in
    let v = sym (b.verdict st) in
    let s = sym (b.step st) in
    by_record p recs₁ left done work mark st
    (λ r e. walk_stops p recs₁ left done work mark st e ∙ sym (walk_stops p recs₂ left done work mark st (v ∙ e)))
    (λ e f. walk_stuck p recs₁ left done work mark st e f ∙ sym (walk_stuck p recs₂ left done work mark st (v ∙ e) (s ∙ f)))
    (λ x st₁ w e f.
    walk_next p recs₁ left done work mark st e f
    ∙ ap (showing x) (walk_agree left p recs₁ recs₂ (suc done) (work + w.work) (first_wrapped mark done w) st₁ λ k l g. a k (omega arith) (omega arith))
    ∙ sym (walk_next p recs₂ left done work mark st (v ∙ e) (s ∙ f)))

-- A value is 8 bytes.
pub eight : (v : Value) → length (value_bytes v) ≡ 8
unfolding value_bytes bytes_of
eight v = refl

-- Two lists, one after the other.
pub write_both : (bs cs s : Bytes) (i : ℕ) → write_at s i (bs ++ cs) ≡ write_at (write_at s i bs) (i + length bs) cs
unfolding write_at
write_both [] cs s i = ap (λ (j : ℕ). write_at s j cs) (let e : i ≡ i + 0 = omega arith in e)
write_both (b ∷ bs) cs s i =
    write_both bs cs (set s i b) (suc i)
    ∙ ap (λ (j : ℕ). write_at (write_at (set s i b) (suc i) bs) j cs) (let e : suc i + length bs ≡ i + suc (length bs) = omega arith in e)

-- One step's value, and then the rest.
room_next : (done : ℕ) (out : Bytes) (v : Value) (r : Walk)
    → in_room (suc done) (write_at out (8 * done) (value_bytes v)) r ≡ in_room done out (showing v r)
unfolding in_room showing
room_next done out v r =
    let at : 8 * done + length (value_bytes v) ≡ 8 * suc done = omega (arith, eight v) in
    let e : write_at out (8 * done) (value_bytes v ++ r.written) ≡ write_at (write_at out (8 * done) (value_bytes v)) (8 * suc done) r.written
    = write_both (value_bytes v) r.written out (8 * done) ∙ ap (λ (j : ℕ). write_at (write_at out (8 * done) (value_bytes v)) j r.written) at in
    ap (λ (o : Bytes). record { answer = r.answer; state = r.state; output = o }) (sym e)

-- A run is its walk, in its room.
pub run_walk : (left : ℕ) (p recs : Bytes) (done work mark : ℕ) (st out : Bytes)
    → run_from p recs left done work mark st out ≡ in_room done out (walk p recs left done work mark st)
unfolding in_room run_from walk write_at
run_walk zero p recs done work mark st out = refl
run_walk (suc left) p recs done work mark st out =
    by_record p recs left done work mark st
    (λ r e. run_stops p recs left done work mark st out e ∙ sym (ap (in_room done out) (walk_stops p recs left done work mark st e)))
    (λ e f. run_stuck p recs left done work mark st out e f ∙ sym (ap (in_room done out) (walk_stuck p recs left done work mark st e f)))
    (λ v st₁ w e f.
    run_next p recs left done work mark st out e f
    ∙ run_walk left p recs (suc done) (work + w.work) (first_wrapped mark done w) st₁ (write_at out (8 * done) (value_bytes v))
    ∙ room_next done out v (walk p recs left (suc done) (work + w.work) (first_wrapped mark done w) st₁)
    ∙ sym (ap (in_room done out) (walk_next p recs left done work mark st e f)))

-- No refused run is finished.
pub not_finished : {r : Refusal} {a b c d e : ℕ} → refused_after r a b ≡ finished_with c d e → ⊥
not_finished f = let z : ◌≡◌ {A = ℕ} 0 1 = cc in omega arith

-- A walk that is finished has made a step for each record, and written 8 bytes for each.
pub record Whole (left done : ℕ) (r : Walk) (steps : ℕ) : Type 0 where
  pub counted : steps ≡ done + left
  pub long : length r.written ≡ 8 * left

whole_next : (left done steps : ℕ) (v : Value) (r : Walk) → Whole left (suc done) r steps → Whole (suc left) done (showing v r) steps
unfolding showing
whole_next left done steps v r h =
    record { counted = omega (arith, h.counted); long = length-append (value_bytes v) r.written ∙ omega (arith, eight v, h.long) }

pub whole : (left : ℕ) (p recs : Bytes) (done work mark : ℕ) (st : Bytes) (steps total first : ℕ)
    → (walk p recs left done work mark st).answer ≡ finished_with steps total first → Whole left done (walk p recs left done work mark st) steps
unfolding walk showing
whole zero p recs done work mark st steps total first e = record { counted = omega (arith, (same_finished e).0); long = omega arith }
whole (suc left) p recs done work mark st steps total first e =
    by_record p recs left done work mark st
    (λ r f. absurd (not_finished (ap (λ (x : Walk). x.answer) (sym (walk_stops p recs left done work mark st f)) ∙ e)))
    (λ f g. absurd (not_finished (ap (λ (x : Walk). x.answer) (sym (walk_stuck p recs left done work mark st f g)) ∙ e)))
    (λ v st₁ w f g.
    let n = walk_next p recs left done work mark st f g in
    rw n (whole_next left done steps v _ (whole left p recs (suc done) (work + w.work) (first_wrapped mark done w) st₁ steps total first (ap (λ (x : Walk). x.answer) (sym n) ∙ e))))

-- No walk writes more than 8 bytes for each record.
pub short : (left : ℕ) (p recs : Bytes) (done work mark : ℕ) (st : Bytes) → length (walk p recs left done work mark st).written ≤ 8 * left
unfolding walk showing
short zero p recs done work mark st = omega arith
short (suc left) p recs done work mark st =
    by_record p recs left done work mark st
    (λ r e. rw (walk_stops p recs left done work mark st e) (omega arith))
    (λ e f. rw (walk_stuck p recs left done work mark st e f) (omega arith))
    (λ v st₁ w e f.
    let r : Walk = walk p recs left (suc done) (work + w.work) (first_wrapped mark done w) st₁ in
    rw (walk_next p recs left done work mark st e f) (omega (arith, length-append (value_bytes v) r.written, eight v, short left p recs (suc done) (work + w.work) (first_wrapped mark done w) st₁)))

-- What is written from a room's start on: that, and then the rest of the room.
write_after : (bs s : Bytes) (x i : ℕ) → write_at (x ∷ s) (suc i) bs ≡ x ∷ write_at s i bs
unfolding write_at
write_after [] s x i = refl
write_after (b ∷ bs) s x i = write_after bs (set s i b) x (suc i)

pub write_front : (bs s : Bytes) → length bs ≤ length s → write_at s 0 bs ≡ bs ++ drop (length bs) s
unfolding write_at
write_front [] s h = refl
write_front (b ∷ bs) [] h = absurd (omega arith)
write_front (b ∷ bs) (x ∷ s) h = write_after bs s b 0 ∙ ap (λ (t : Bytes). b ∷ t) (write_front bs s (omega arith))

-- Nothing is left of a list that is dropped whole.
pub drop_all : (s : Bytes) (n : ℕ) → length s ≤ n → drop n s ≡ []
drop_all [] zero h = refl
drop_all [] (suc n) h = refl
drop_all (x ∷ s) zero h = absurd (omega arith)
drop_all (x ∷ s) (suc n) h = drop_all s n (omega arith)

-- A room that is written whole.
pub write_all : (bs s : Bytes) → length s ≡ length bs → write_at s 0 bs ≡ bs
write_all bs s h =
    write_front bs s (omega arith) ∙ ap (λ (t : Bytes). bs ++ t) (drop_all s (length bs) (omega arith)) ∙ append-nil bs
