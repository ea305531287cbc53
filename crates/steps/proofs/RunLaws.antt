-- A run, record by record, as a loop over the records goes.
-- Assumes nothing.
use Rattle.std.specs.Prelude.{Ok, Err}
use Rattle.rules.specs.Verdicts.{Verdict, finished_with, refused_after}
use mathlib.Core.Path.{◌≡◌, refl, sym, ap, ◌∙◌}
use Prim.Native.Nat.{ℕ, zero, suc, ◌+◌, ◌-◌, ◌*◌, ◌/◌, ◌<◌, ◌≤◌}
use native.Mathlib.Omega.{arith}
use Rattle.rules.specs.Bytes.{Bytes, write_at}
use Rattle.rules.specs.Values.{value_bytes}
use Rattle.rules.specs.Layout.{input_at}
use Rattle.rules.specs.Update.{Made, step_of}
use Rattle.rules.specs.Calls.{record_verdict, no_step, first_wrapped, run_from}
use Rattle.rules.specs.declared.Value.{Value}
use Rattle.rules.specs.declared.Tally.{Tally}
use Rattle.rules.specs.declared.Refusal.{Refusal}
use Rattle.rules.specs.Layout.{time_in}
use Rattle.rules.specs.WellFormed.{last_moment}
use Rattle.rules.proofs.Verdicts.{both_fine, if_fine}
use Rattle.promises.proofs.Runs.{in_time}
use mathlib.Core.Bool.{true}
use mathlib.Core.List.{List}
use lib.ListN.{length, take, drop}
use Rattle.rules.specs.WellFormed.{well_formed}
use Rattle.rules.specs.Evaluate.{Env}
use Rattle.rules.proofs.Cells.{length_write_at}
use Rattle.promises.proofs.Steps.{well_parts}
use Rattle.steps.specs.Going.{Going, Taken, Leaves, OnTheWay, most_work}
use Rattle.steps.proofs.StepLaws.{gone, small_bound}

next : (p recs : Bytes) (left done work mark : ℕ) (st out : Bytes) {v : Value} {st₁ : Bytes} {w : Tally}
    → record_verdict done st (input_at recs done) ≡ Ok tt → step_of p (input_at recs done) st ≡ Made v st₁ w
    → run_from p recs (suc left) done work mark st out ≡ run_from p recs left (suc done) (work + w.work) (first_wrapped mark done w) st₁ (write_at out (8 * done) (value_bytes v))
unfolding run_from
next p recs left done work mark st out e f = rw (e, run_from, f)

stops : (p recs : Bytes) (left done work mark : ℕ) (st out : Bytes) {r : Refusal}
    → record_verdict done st (input_at recs done) ≡ Err r
    → run_from p recs (suc left) done work mark st out ≡ record { answer = refused_after r work mark; state = st; output = out }
unfolding run_from
stops p recs left done work mark st out e = rw (e, run_from)

ends : (p recs : Bytes) (done work mark : ℕ) (st out : Bytes)
    → run_from p recs zero done work mark st out ≡ record { answer = finished_with done work mark; state = st; output = out }
unfolding run_from
ends p recs done work mark st out = refl

-- the record at a number, with the records left after it
pub run_next : (p recs : Bytes) (n done work mark : ℕ) (w : Tally) (st st₁ out out₁ : Bytes) → done < n
    → record_verdict done st (input_at recs done) ≡ Ok tt → Taken p (input_at recs done) st st₁ out out₁ (8 * done) w
    → run_from p recs (n - done) done work mark st out ≡ run_from p recs (n - (done + 1)) (done + 1) (work + w.work) (first_wrapped mark done w) st₁ out₁
run_next p recs n done work mark w st st₁ out out₁ h e t =
    let a : n - done ≡ suc (n - (done + 1)) = omega arith in
    let b : suc done ≡ done + 1 = omega arith in
    ap (λ (k : ℕ). run_from p recs k done work mark st out) a
    ∙ next p recs (n - (done + 1)) done work mark st out e t.made
    ∙ (λ i. run_from p recs (n - (done + 1)) (b i) (work + w.work) (first_wrapped mark done w) st₁ (sym t.shown i))

pub run_stops : (p recs : Bytes) (n done work mark : ℕ) (st out : Bytes) {r : Refusal} → done < n
    → record_verdict done st (input_at recs done) ≡ Err r
    → run_from p recs (n - done) done work mark st out ≡ record { answer = refused_after r work mark; state = st; output = out }
run_stops p recs n done work mark st out h e =
    let a : n - done ≡ suc (n - (done + 1)) = omega arith in
    ap (λ (k : ℕ). run_from p recs k done work mark st out) a ∙ stops p recs (n - (done + 1)) done work mark st out e

pub run_ends : (p recs : Bytes) (n done work mark : ℕ) (st out : Bytes) → n ≤ done
    → run_from p recs (n - done) done work mark st out ≡ record { answer = finished_with done work mark; state = st; output = out }
run_ends p recs n done work mark st out h =
    let a : n - done ≡ 0 = omega arith in
    ap (λ (k : ℕ). run_from p recs k done work mark st out) a ∙ ends p recs done work mark st out

-- a record that is not refused: its time is not too large
record_in_time : (done : ℕ) (st rec : Bytes) → record_verdict done st rec ≡ Ok tt → time_in rec ≤ last_moment
unfolding record_verdict
record_in_time done st rec e = in_time rec (if_fine _ _ (both_fine _ _ e).0)

-- the record at a number, as the part of the records that is lent
slice_is : (recs : Bytes) (done : ℕ) → take (40 * done + 40 - 40 * done) (drop (40 * done) recs) ≡ input_at recs done
unfolding input_at
slice_is recs done =
    let e : 40 * done + 40 - 40 * done ≡ 40 = omega arith in
    ap (λ (k : ℕ). take k (drop (40 * done) recs)) e

-- two well-formed states are of one length
pub one_length : (p st st₁ : Bytes) → well_formed p st ≡ true → well_formed p st₁ ≡ true → length st ≡ length st₁
one_length p st st₁ e f = (well_parts p st e).long ∙ sym (well_parts p st₁ f).long

-- a run on its way, at its next record: it goes on, stops, or has come to its end
module _ {p : Bytes} {index : List ℕ} {recs st₀ out₀ st : Bytes} {env : Env} {out : Bytes} {count left done work mark : ℕ}
    (w : OnTheWay p index recs st₀ out₀ st env out count left done work mark) where
  module _ (h : done < left) {v : Verdict} (e : v ≡ record_verdict done st (take (40 * done + 40 - 40 * done) (drop (40 * done) recs))) where
    judged : v ≡ record_verdict done st (input_at recs done)
    judged = e ∙ ap (record_verdict done st) (slice_is recs done)

    pub goes_on : v ≡ Ok tt → {st₁ out₁ : Bytes} {n : Tally}
        → Taken p (take (40 * done + 40 - 40 * done) (drop (40 * done) recs)) st st₁ out out₁ (8 * done) n → {env₁ : Env} → env₁ ≡ env
        → OnTheWay p index recs st₀ out₀ st₁ env₁ out₁ count left (done + 1) (work + n.work) (first_wrapped mark done n)
    goes_on f {st₁} {out₁} {n} t q =
        let fine : record_verdict done st (input_at recs done) ≡ (Ok tt) = sym judged ∙ f in
        let well = t.well (record_in_time done st _ (sym e ∙ f)) in
        let t₁ : Taken p (input_at recs done) st st₁ out out₁ (8 * done) n = rw (slice_is recs done) at t in
        record {
          going = gone w.going well q;
          all = w.all;
          within = omega arith;
          fits = omega (arith, w.fits, small_bound p w.going.accepted, t.within);
          cells = one_length p st₁ st well w.going.well ∙ w.cells;
          room = ap length t.shown ∙ length_write_at (value_bytes t.output) out (8 * done) ∙ w.room;
          same = sym (run_next p recs left done work mark n st st₁ out out₁ h fine t₁) ∙ w.same;
        }

    pub stopped : {r : Refusal} → v ≡ Err r → Leaves (run_from p recs left 0 0 no_step st₀ out₀) (refused_after r work mark) st out
    stopped f =
        let s = sym w.same ∙ run_stops p recs left done work mark st out h (sym judged ∙ f) in
        rw s (record { answer_is = refl; state_is = refl; output_is = refl })

  -- what it has worked is at most so much for each of its records
  pub worked : work ≤ most_work * (length recs / 40)
  worked = omega (arith, w.fits, w.within, w.all)

  pub ended : left ≤ done → Leaves (run_from p recs left 0 0 no_step st₀ out₀) (finished_with done work mark) st out
  ended h =
      let s = sym w.same ∙ run_ends p recs left done work mark st out h in
      rw s (record { answer_is = refl; state_is = refl; output_is = refl })

-- at its beginning
pub begun : (p : Bytes) (index : List ℕ) (recs st : Bytes) (env : Env) (out : Bytes) (count : ℕ) → Going p index st env count
    → OnTheWay p index recs st out st env out count (length recs / 40) 0 0 no_step
begun p index recs st env out count g =
    let e : length recs / 40 - 0 ≡ length recs / 40 = omega arith in
    record {
      going = g;
      all = refl;
      within = omega arith;
      fits = omega arith;
      cells = refl;
      room = refl;
      same = ap (λ (k : ℕ). run_from p recs k 0 0 no_step st out) e;
    }
