-- Well-formed records whose times do not go back are not refused.
-- Assumes nothing.
use Rattle.std.specs.Prelude.{Ok}
use mathlib.Core.Path.{◌≡◌, refl, sym, ap, ◌∙◌}
use mathlib.Core.Bool.{Bool, true, false, not}
use mathlib.Core.List.{[], ◌∷◌}
use Prim.Native.Nat.{ℕ, zero, suc, ◌+◌, ◌*◌, ◌<◌, ◌≤◌}
use native.Mathlib.Omega.{arith}
use lib.Dec.{eqb, ltb}
use lib.ListN.{length, take, drop}
use borrow.Author.Tests.{eq-eqb, ne_eqb, eqb-true, eqb-false, le-ltb}
use Rattle.rules.specs.Bytes.{Bytes, byte_at, ◌and◌, ◌or◌}
use Rattle.rules.specs.Layout.{state_length, cell_at, last_time, no_time, set_time, input_length, input_at, time_in, flag_on, event_on}
use Rattle.rules.specs.WellFormed.{well_formed, last_moment}
use Rattle.rules.specs.Calls.{◌otherwise◌, refuse_if, absent_wrong, input_wrong, time_wrong, record_verdict}
use Rattle.promises.specs.Small.{Small}
use Rattle.promises.proofs.SmallLaws.{u32_small, small_input}
use Rattle.promises.proofs.Steps.{well_parts}
use Rattle.promises.proofs.Moment.{time_same, length_set_time}
use Rattle.published.specs.Steps.{Steps, step}
use Rattle.mission.specs.Lent.{WellRecord, NotBack, RunLent}
use Rattle.mission.specs.Through.{Through, at_end, one_step}

-- An absent word that is zero.
absent_right : (rec : Bytes) (c : ℕ) → (flag_on rec c ≡ 0 → event_on rec c ≡ 0) → absent_wrong rec c ≡ false
unfolding absent_wrong ◌and◌
absent_right rec c h = go (eqb (flag_on rec c) 0) refl
  where
    go : (b : Bool) → eqb (flag_on rec c) 0 ≡ b → (b and not (eqb (event_on rec c) 0)) ≡ false
    go true e = rw (eq-eqb _ _ (h (eqb-true _ _ e)))
    go false e = refl

-- Code 12 is not given.
pub record_right : (rec : Bytes) → WellRecord rec → input_wrong rec ≡ false
unfolding input_wrong ◌and◌ ◌or◌
record_right rec w =
    rw (
      le-ltb 15 (byte_at rec 20) w.flags,
      eq-eqb _ _ w.zeros.0,
      eq-eqb _ _ w.zeros.1,
      eq-eqb _ _ w.zeros.2,
      absent_right rec 0 (w.absent 0 (omega arith)),
      absent_right rec 1 (w.absent 1 (omega arith)),
      absent_right rec 2 (w.absent 2 (omega arith)),
      absent_right rec 3 (w.absent 3 (omega arith)),
      le-ltb last_moment (time_in rec) w.moment,
    )

-- Code 13 is not given.
pub time_right : (st rec : Bytes) → NotBack st rec → time_wrong st rec ≡ false
unfolding time_wrong ◌and◌
time_right st rec h = go (eqb (last_time st) no_time) refl
  where
    go : (b : Bool) → eqb (last_time st) no_time ≡ b → (not b and ltb (time_in rec) (last_time st)) ≡ false
    go true e = refl
    go false e = le-ltb (time_in rec) (last_time st) (h (eqb-false _ _ e))

pub not_refused : (done : ℕ) (st rec : Bytes) → WellRecord rec → NotBack st rec → record_verdict done st rec ≡ Ok tt
unfolding record_verdict refuse_if ◌otherwise◌
not_refused done st rec w h = rw (record_right rec w, time_right st rec h)

-- A state has room for its time.
header_there : (p st : Bytes) → well_formed p st ≡ true → 4 ≤ length st
unfolding state_length cell_at
header_there p st w = omega (arith, (well_parts p st w).long)

-- After a step the state's time is the record's.
pub step_time : {p rec st : Bytes} {v : _} {st₁ : Bytes} {n : ℕ} → Small rec → well_formed p st₁ ≡ true → Steps p rec st v st₁ n
    → last_time st₁ ≡ time_in rec
unfolding time_in
step_time {p = p} {rec = rec} hr w (step {st₁ = s} d u) =
    time_same s (time_in rec) (omega (arith, header_there p (set_time s (time_in rec)) w, length_set_time s (time_in rec))) (u32_small rec 0 hr)

-- No step shows nothing and leaves the state and the mark.
pub ended : {p recs : Bytes} {most type k : ℕ} {st shown st₁ : Bytes} {total m m₁ : ℕ} → Through p recs most type zero k st shown total m m₁ st₁
    → (shown ≡ []) × (total ≡ 0) × (m₁ ≡ m) × (st₁ ≡ st)
ended at_end = (refl, refl, refl, refl)

-- And after so many steps it is the last record's.
pub last_time_lem : (n : ℕ) {p recs : Bytes} {most type k : ℕ} {st shown st₁ : Bytes} {total m m₁ : ℕ} → Small recs
    → Through p recs most type (suc n) k st shown total m m₁ st₁ → last_time st₁ ≡ time_in (input_at recs (k + n))
last_time_lem zero {recs = recs} {k = k} hr (one_step e b rest) =
    ap last_time (ended rest).3 ∙ step_time (small_input recs k hr) b.well b.derived ∙ ap (λ (j : ℕ). time_in (input_at recs j)) (let z : k ≡ k + 0 = omega arith in z)
last_time_lem (suc n) {recs = recs} {k = k} hr (one_step e b more) =
    last_time_lem n hr more ∙ ap (λ (j : ℕ). time_in (input_at recs j)) (let z : suc k + n ≡ k + suc n = omega arith in z)

-- So the next record's time does not go back either.
pub next_not_back : (n : ℕ) {p recs out : Bytes} {most type : ℕ} {st shown st₁ : Bytes} {total m m₁ count : ℕ} → Small recs
    → RunLent p st recs out count → n < count → Through p recs most type n 0 st shown total m m₁ st₁ → NotBack st₁ (input_at recs n)
next_not_back zero hr l h at_end = l.forward h
next_not_back (suc n) {recs = recs} hr l h t = λ g. omega (arith, last_time_lem n hr t, ap (λ (j : ℕ). time_in (input_at recs j)) (let z : 0 + n ≡ n = omega arith in z), l.onward n h)

-- A record by itself is the first of its list.
taken_whole : (n : ℕ) (s : Bytes) → length s ≡ n → take n s ≡ s
taken_whole zero [] h = refl
taken_whole zero (x ∷ s) h = absurd (omega arith)
taken_whole (suc n) [] h = absurd (omega arith)
taken_whole (suc n) (x ∷ s) h = ap (λ (t : Bytes). x ∷ t) (taken_whole n s (omega arith))

pub one_record : (rec : Bytes) → length rec ≡ input_length → input_at rec 0 ≡ rec
unfolding input_at
one_record rec l = taken_whole input_length rec l
