-- A watched run, record by record.
-- Assumes nothing.
use Rattle.std.specs.Prelude.{Ok, Err}
use Rattle.rules.specs.Verdicts.{Verdict}
use mathlib.Core.Path.{◌≡◌, refl, sym, ap, ◌∙◌}
use mathlib.Core.List.{List}
use Prim.Native.Nat.{ℕ, zero, suc, ◌+◌, ◌-◌, ◌*◌, ◌/◌, ◌<◌, ◌≤◌}
use native.Mathlib.Omega.{arith}
use native.Mathlib.Nat.{mul-le-mul}
use lib.ListN.{length, take, drop}
use Rattle.rules.specs.Bytes.{Bytes, write_at, bytes_of}
use Rattle.rules.specs.Layout.{nodes, input_at}
use Rattle.rules.specs.Tree.{root, signal_at}
use Rattle.rules.specs.Evaluate.{Env}
use Rattle.rules.specs.Update.{Made, step_of}
use Rattle.rules.specs.Calls.{record_verdict, no_step, first_wrapped}
use Rattle.rules.specs.declared.Value.{Value}
use Rattle.rules.specs.declared.Tally.{Tally}
use Rattle.rules.specs.declared.Refusal.{Refusal}
use Rattle.rules.proofs.Cells.{length_write_at}
use Rattle.steps.specs.Going.{Going, Held, Taken}
use Rattle.steps.proofs.RunLaws.{goes_on, begun}
use Rattle.watched.specs.Note.{note_s}
use Rattle.watched.specs.Watch.{shown, shown_from}
use Rattle.watched.proofs.RoomNoted.{room_noted}
use Rattle.peek.specs.Watching.{Watching}

-- A row is in the room.
pub row_fits : (w d n : ℕ) → d < n → w * d + w ≤ w * n
row_fits w d n h = omega (arith, mul-le-mul {n₁ = w} {m₁ = suc d} {n₂ = w} {m₂ = n} (omega arith) h)

-- No row's place is large.
pub row_small : (w d : ℕ) → w ≤ 64 → d ≤ 163840 → w * d ≤ 10485760
row_small w d h g = omega (arith, mul-le-mul {n₁ = w} {m₁ = d} {n₂ = 64} {m₂ = 163840} h g)

root_at : (p : Bytes) (count : ℕ) → count ≡ nodes p → signal_at p (count - 1) ≡ root p
unfolding root
root_at p count e = rw e

-- A step's row, by the calls of the code.
pub row_shown : {p : Bytes} {index : List ℕ} {size : ℕ} {env : Env} {count : ℕ} → Held p index size env count → (rec st : Bytes) (l : List ℕ) (at : ℕ)
    (room : Bytes) {room₁ room₂ : Bytes} → room₁ ≡ write_at room at (bytes_of (8 * length l) 0)
    → room₂ ≡ note_s l at rec st env (signal_at p (count - 1)) room₁ → room₂ ≡ write_at room at (shown p rec st l)
row_shown {p} {count = count} g rec st l at room e f =
    f ∙ (λ i. note_s l at rec st (g.blank i) (root_at p count g.counted i) (e i)) ∙ room_noted p rec st l at room

-- The record at a number: the room after it, or as it is.
shown_on : (p recs : Bytes) (l : List ℕ) (left done : ℕ) (st room : Bytes) {v : Value} {st₁ : Bytes} {w : Tally}
    → record_verdict done st (input_at recs done) ≡ Ok tt → step_of p (input_at recs done) st ≡ Made v st₁ w
    → shown_from p recs l (suc left) done st room
    ≡ shown_from p recs l left (suc done) st₁ (write_at room (8 * length l * done) (shown p (input_at recs done) st l))
unfolding shown_from
shown_on p recs l left done st room e f = rw (e, shown_from, f)

shown_stops : (p recs : Bytes) (l : List ℕ) (left done : ℕ) (st room : Bytes) {r : Refusal}
    → record_verdict done st (input_at recs done) ≡ Err r → shown_from p recs l (suc left) done st room ≡ room
unfolding shown_from
shown_stops p recs l left done st room e = rw (e, shown_from)

shown_ends : (p recs : Bytes) (l : List ℕ) (done : ℕ) (st room : Bytes) → shown_from p recs l zero done st room ≡ room
unfolding shown_from
shown_ends p recs l done st room = refl

slice_is : (recs : Bytes) (done : ℕ) → take (40 * done + 40 - 40 * done) (drop (40 * done) recs) ≡ input_at recs done
unfolding input_at
slice_is recs done =
    let e : 40 * done + 40 - 40 * done ≡ 40 = omega arith in
    ap (λ (k : ℕ). take k (drop (40 * done) recs)) e

module _ {p : Bytes} {index : List ℕ} {recs st₀ out₀ st : Bytes} {env : Env} {out : Bytes} {count left done work mark : ℕ} {l : List ℕ} {room₀ room : Bytes}
    (w : Watching p index recs st₀ out₀ st env out count left done work mark l room₀ room) where
  module _ (h : done < left) {v : Verdict} (e : v ≡ record_verdict done st (take (40 * done + 40 - 40 * done) (drop (40 * done) recs))) where
    judged : v ≡ record_verdict done st (input_at recs done)
    judged = e ∙ ap (record_verdict done st) (slice_is recs done)

    again : left - done ≡ suc (left - (done + 1))
    again = omega arith

    pub watch_on : v ≡ Ok tt → {st₁ out₁ room₁ : Bytes} {n : Tally}
        → room₁ ≡ write_at room (8 * length l * done) (shown p (take (40 * done + 40 - 40 * done) (drop (40 * done) recs)) st l)
        → Taken p (take (40 * done + 40 - 40 * done) (drop (40 * done) recs)) st st₁ out out₁ (8 * done) n → {env₁ : Env} → env₁ ≡ env
        → Watching p index recs st₀ out₀ st₁ env₁ out₁ count left (done + 1) (work + n.work) (first_wrapped mark done n) l room₀ room₁
    watch_on f {st₁} {out₁} {room₁} {n} s t q =
        let rec : Bytes = input_at recs done in
        let t₁ : Taken p rec st st₁ out out₁ (8 * done) n = rw (slice_is recs done) at t in
        let s₁ : room₁ ≡ write_at room (8 * length l * done) (shown p rec st l) =
        s ∙ ap (λ (x : Bytes). write_at room (8 * length l * done) (shown p x st l)) (slice_is recs done) in
        let b : done + 1 ≡ suc done = omega arith in
        record {
          way = goes_on w.way h e f t q;
          size = ap length s₁ ∙ length_write_at (shown p rec st l) room (8 * length l * done) ∙ w.size;
          rows =
              sym (ap (λ (k : ℕ). shown_from p recs l k done st room) again
              ∙ shown_on p recs l (left - (done + 1)) done st room (sym judged ∙ f) t₁.made
              ∙ (λ i. shown_from p recs l (left - (done + 1)) (sym b i) st₁ (sym s₁ i)))
              ∙ w.rows;
        }

    pub watch_stops : {r : Refusal} → v ≡ Err r → room ≡ shown_from p recs l left 0 st₀ room₀
    watch_stops f =
        sym (ap (λ (k : ℕ). shown_from p recs l k done st room) again ∙ shown_stops p recs l (left - (done + 1)) done st room (sym judged ∙ f)) ∙ w.rows

  pub watch_ends : left ≤ done → room ≡ shown_from p recs l left 0 st₀ room₀
  watch_ends h =
      let a : left - done ≡ 0 = omega arith in
      sym (ap (λ (k : ℕ). shown_from p recs l k done st room) a ∙ shown_ends p recs l done st room) ∙ w.rows

pub watch_begun : (p : Bytes) (index : List ℕ) (recs st : Bytes) (env : Env) (out : Bytes) (count : ℕ) (l : List ℕ) (room : Bytes) → Going p index st env count
    → Watching p index recs st out st env out count (length recs / 40) 0 0 no_step l room room
watch_begun p index recs st env out count l room g =
    let e : length recs / 40 - 0 ≡ length recs / 40 = omega arith in
    record { way = begun p index recs st env out count g; size = refl; rows = ap (λ (k : ℕ). shown_from p recs l k 0 st room) e }
