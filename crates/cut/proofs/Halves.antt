-- A run of records is a run of the first of them and, from the state that it leaves, a run of the rest; and a run that counts from later on is
-- the run that counts from the cut, with its steps, places and work summed.
-- Assumes nothing.
use Rattle.std.specs.Prelude.{if◌then◌else◌, Ok, Err}
use Rattle.rules.proofs.Same.{same_finished}
use Rattle.rules.specs.Verdicts.{RunAnswer, Verdict, finished_with, refused_after}
use mathlib.Core.Path.{◌≡◌, refl, sym, ap, ◌∙◌}
use mathlib.Core.Bool.{Bool, true, false}
use mathlib.Core.List.{[], ◌++◌, append_assoc}
use mathlib.Core.Logic.{◌⊎◌, inl, inr}
use Prim.Native.Nat.{ℕ, zero, suc, ◌+◌, ◌*◌, ◌≤◌, ◌<◌}
use native.Mathlib.Omega.{arith}
use lib.Dec.{eqb}
use lib.ListN.{length, length-append}
use borrow.Author.Tests.{eq-eqb, ne_eqb}
use Rattle.rules.specs.Bytes.{Bytes, ◌and◌}
use Rattle.rules.specs.Values.{value_bytes}
use Rattle.rules.specs.Layout.{input_at}
use Rattle.rules.specs.Answers.{code_of, place_of}
use Rattle.rules.specs.Update.{Made, step_of}
use Rattle.rules.specs.Calls.{◌otherwise◌, refuse_if, input_wrong, time_wrong, record_verdict, no_step, first_wrapped}
use Rattle.rules.specs.declared.Value.{Value}
use Rattle.rules.specs.declared.Tally.{Tally}
use Rattle.rules.specs.declared.Refusal.{Refusal}
use Rattle.rules.specs.declared.Refusal.TheVariants.{StateFault, InputFault, TimeBack}
use Rattle.rooms.specs.Walk.{Walk, showing, walk}
use Rattle.rooms.proofs.WalkLaws.{eight, walk_next, walk_stops, walk_stuck, by_record, not_finished}
use Rattle.rules.proofs.Verdicts.{not_fine}
use Rattle.cut.specs.Parts.{later, first_of, counted_on, steps_in}

-- What the first part wrote before what the second writes.
unfoldable pub behind : Bytes → Walk → Walk
behind bs r = record { answer = r.answer; state = r.state; written = bs ++ r.written }

behind_showing : (v : Value) (bs : Bytes) (r : Walk) → showing v (behind bs r) ≡ behind (value_bytes v ++ bs) r
unfolding behind showing
behind_showing v bs r =
    ap (λ (t : Bytes). record { answer = r.answer; state = r.state; written = t }) (sym (append_assoc (value_bytes v) bs r.written))

-- The first part's walk, and then the rest's.
pub walk_split : (m n : ℕ) (p recs : Bytes) (done work mark : ℕ) (st : Bytes) (steps total first : ℕ)
    → (walk p recs m done work mark st).answer ≡ finished_with steps total first
    → walk p recs (m + n) done work mark st
    ≡ behind (walk p recs m done work mark st).written (walk p recs n steps total first (walk p recs m done work mark st).state)
unfolding walk behind showing
walk_split zero n p recs done work mark st steps total first e =
    let (d, t, f) = same_finished e in
    let z : 0 + n ≡ n = omega arith in
    λ i. walk p recs (z i) (d i) (t i) (f i) st
walk_split (suc m) n p recs done work mark st steps total first e =
    by_record p recs m done work mark st
    (λ r f. absurd (not_finished (ap (λ (x : Walk). x.answer) (sym (walk_stops p recs m done work mark st f)) ∙ e)))
    (λ f g. absurd (not_finished (ap (λ (x : Walk). x.answer) (sym (walk_stuck p recs m done work mark st f g)) ∙ e)))
    (λ v st₁ w f g.
    let q = walk_next p recs m done work mark st f g in
    let z : suc m + n ≡ suc (m + n) = omega arith in
    ap (λ (k : ℕ). walk p recs k done work mark st) z
    ∙ walk_next p recs (m + n) done work mark st f g
    ∙ ap (showing v) (walk_split m n p recs (suc done) (work + w.work) (first_wrapped mark done w) st₁ steps total first (ap (λ (x : Walk). x.answer) (sym q) ∙ e))
    ∙ behind_showing v _ _
    ∙ sym (ap (λ (x : Walk). behind x.written (walk p recs n steps total first x.state)) q))

-- A walk that counts from the cut, as one that counts from the start.
unfoldable pub counting : ℕ → ℕ → ℕ → Walk → Walk
counting d w m r = record { answer = counted_on d w m r.answer; state = r.state; written = r.written }

-- The verdict on a record: fine in both, or refused in both, the place counted from the cut or from the start.
laterᵛ : ℕ → Verdict → Verdict
laterᵛ d (Ok _) = Ok tt
laterᵛ d (Err r) = Err (later d r)

verdict_later : (d done : ℕ) (st rec : Bytes) → record_verdict (d + done) st rec ≡ laterᵛ d (record_verdict done st rec)
unfolding record_verdict laterᵛ refuse_if ◌otherwise◌
verdict_later d done st rec = go (input_wrong rec) (time_wrong st rec)
  where
    go : (a b : Bool)
        → ((if a then Err (InputFault (d + done)) else Ok tt) otherwise (if b then Err (TimeBack (d + done)) else Ok tt))
        ≡ laterᵛ d ((if a then Err (InputFault done) else Ok tt) otherwise (if b then Err (TimeBack done) else Ok tt))
    go true b = refl
    go false true = refl
    go false false = refl

-- A first wrapped step is none, or one of the steps done.
abbrev pub Marked : ℕ → ℕ → Type 0
Marked mark done = (mark ≡ no_step) ⊎ (mark < done)

marked_next : (mark done : ℕ) (w : Tally) → Marked mark done → Marked (first_wrapped mark done w) (suc done)
unfolding first_wrapped ◌and◌
marked_next mark done w h = go (eqb mark no_step) w.wrapped h
  where
    kept : Marked mark done → Marked mark (suc done)
    kept (inl e) = inl e
    kept (inr l) = inr (omega arith)

    go : (a b : Bool) → Marked mark done → Marked (if a and b then done else mark) (suc done)
    go true true h = inr (omega arith)
    go true false h = kept h
    go false b h = kept h

-- One more step of the second part: counted from the cut and then on, or from the start.
mark_later : (d m mark done : ℕ) (w : Tally) → Marked mark done → d + done < no_step
    → first_wrapped (first_of d m mark) (d + done) w ≡ first_of d m (first_wrapped mark done w)
unfolding first_wrapped ◌and◌
mark_later d m mark done w h l = go (eqb m no_step) w.wrapped refl h
  where
    go : (a b : Bool) → eqb m no_step ≡ a → Marked mark done
        → (if eqb (if a then (if eqb mark no_step then no_step else d + mark) else m) no_step and b then d + done
        else (if a then (if eqb mark no_step then no_step else d + mark) else m))
        ≡ (if a then (if eqb (if eqb mark no_step and b then done else mark) no_step then no_step else d + (if eqb mark no_step and b then done else mark)) else m)
    go true true q (inl e) = rw e (rw (ne_eqb done no_step (λ z. omega arith)))
    go true false q (inl e) = rw e
    go true b q (inr k) =
        let e = ne_eqb mark no_step λ z. omega arith in
        rw (e, ne_eqb (d + mark) no_step λ z. omega arith) (rw e)
    go false b q h = rw q

-- A walk over the rest of a list, after so many steps, so much work and a first wrapped step, is the walk over the second list from the cut.
pub walk_later : (left : ℕ) (p recs recs₂ : Bytes) (d w m : ℕ) → ((k : ℕ) → input_at recs (d + k) ≡ input_at recs₂ k)
    → (done work mark : ℕ) (st : Bytes) → Marked mark done → d + (done + left) < no_step
    → walk p recs left (d + done) (w + work) (first_of d m mark) st ≡ counting d w m (walk p recs₂ left done work mark st)
unfolding walk counting showing laterᵛ
walk_later zero p recs recs₂ d w m same done work mark st k l = refl
walk_later (suc left) p recs recs₂ d w m same done work mark st k l =
    let v : record_verdict (d + done) st (input_at recs (d + done)) ≡ laterᵛ d (record_verdict done st (input_at recs₂ done))
    = verdict_later d done st _ ∙ ap (λ (x : Bytes). laterᵛ d (record_verdict done st x)) (same done) in
    let s : step_of p (input_at recs (d + done)) st ≡ step_of p (input_at recs₂ done) st = ap (λ (x : Bytes). step_of p x st) (same done) in
    by_record p recs₂ left done work mark st
    (λ r e. walk_stops p recs left (d + done) (w + work) (first_of d m mark) st (v ∙ ap (laterᵛ d) e) ∙ sym (ap (counting d w m) (walk_stops p recs₂ left done work mark st e)))
    (λ e f. walk_stuck p recs left (d + done) (w + work) (first_of d m mark) st (v ∙ ap (laterᵛ d) e) (s ∙ f) ∙ sym (ap (counting d w m) (walk_stuck p recs₂ left done work mark st e f)))
    (λ x st₁ u e f.
    let more = walk_later left p recs recs₂ d w m same (suc done) (work + u.work) (first_wrapped mark done u) st₁ (marked_next mark done u k) (omega arith) in
    let a : suc (d + done) ≡ d + suc done = omega arith in
    let b : w + work + u.work ≡ w + (work + u.work) = omega arith in
    let c = mark_later d m mark done u k (omega arith) in
    walk_next p recs left (d + done) (w + work) (first_of d m mark) st (v ∙ ap (laterᵛ d) e) (s ∙ f)
    ∙ ap (showing x) ((λ i. walk p recs left (a i) (b i) (c i) st₁) ∙ more)
    ∙ sym (ap (counting d w m) (walk_next p recs₂ left done work mark st e f)))

-- A refused record's place is the number of steps done.
refused_place : (done : ℕ) (st rec : Bytes) (r : Refusal) → record_verdict done st rec ≡ Err r → place_of r ≡ done
unfolding record_verdict ◌otherwise◌ refuse_if
refused_place done st rec r = go (input_wrong rec) (time_wrong st rec)
  where
    known : (q : Refusal) → place_of q ≡ done → ◌≡◌ {A = Verdict} (Err q) (Err r) → place_of r ≡ done
    known q h e = let z : q ≡ r = cc in rw z at h

    go : (a b : Bool)
        → ((if a then Err (InputFault done) else Ok tt) otherwise (if b then Err (TimeBack done) else Ok tt)) ≡ Err r
        → place_of r ≡ done
    go true b e = known (InputFault done) refl e
    go false true e = known (TimeBack done) refl e
    go false false e = absurd (not_fine (sym e))

-- An answer that is no code below 12.
abbrev pub Made₁₂ : RunAnswer → Type 0
Made₁₂ (Ok end) = Unit {0}
Made₁₂ (Err stop) = 12 ≤ code_of stop.why

-- What is written is 8 bytes for each step that the answer tells of.
counted_next : (done : ℕ) (v : Value) (r : Walk) → 8 * suc done + length r.written ≡ 8 * steps_in r.answer
    → 8 * done + length (showing v r).written ≡ 8 * steps_in (showing v r).answer
unfolding showing
counted_next done v r h = omega (arith, h, length-append (value_bytes v) r.written, eight v)

pub walk_counted : (left : ℕ) (p recs : Bytes) (done work mark : ℕ) (st : Bytes) → Made₁₂ (walk p recs left done work mark st).answer
    → 8 * done + length (walk p recs left done work mark st).written ≡ 8 * steps_in (walk p recs left done work mark st).answer
unfolding walk showing
walk_counted zero p recs done work mark st h = omega arith
walk_counted (suc left) p recs done work mark st h =
    by_record p recs left done work mark st
    (λ r e. rw (walk_stops p recs left done work mark st e) (omega (arith, refused_place done st (input_at recs done) r e)))
    (λ e f. absurd (let z : 12 ≤ 9 = rw (walk_stuck p recs left done work mark st e f) at h in omega arith))
    (λ v st₁ w e f.
    let n = walk_next p recs left done work mark st e f in
    rw n (counted_next done v (walk p recs left (suc done) (work + w.work) (first_wrapped mark done w) st₁) (walk_counted left p recs (suc done) (work + w.work) (first_wrapped mark done w) st₁ (rw n at h))))
