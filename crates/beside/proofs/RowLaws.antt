-- The second room of a watched run is its rows, written into the room that it is lent.
-- Assumes nothing.
use Rattle.std.specs.Prelude.{Ok, Err}
use Rattle.rules.specs.Verdicts.{finished_with}
use mathlib.Core.Path.{◌≡◌, refl, sym, ap, ◌∙◌}
use mathlib.Core.List.{[], ◌∷◌, ◌++◌}
use Prim.Native.Nat.{ℕ, zero, suc, ◌+◌, ◌*◌, ◌<◌, ◌≤◌}
use native.Mathlib.Omega.{arith}
use native.Mathlib.Nat.{mul-suc}
use lib.ListN.{length, length-append}
use Rattle.rules.specs.Bytes.{Bytes, bytes_of, write_at}
use Rattle.rules.specs.Layout.{most_nodes, input_at}
use Rattle.rules.specs.Tree.{root}
use Rattle.rules.specs.Evaluate.{unbound}
use Rattle.rules.specs.Update.{Made, NotMade, step_of}
use Rattle.rules.specs.Calls.{record_verdict, first_wrapped}
use Rattle.rules.specs.declared.Value.{Value}
use Rattle.rules.specs.declared.Tally.{Tally}
use Rattle.rules.specs.declared.Refusal.{Refusal}
use Rattle.rooms.specs.Walk.{Walk, walk, showing}
use Rattle.rooms.proofs.WalkLaws.{SameRecord, by_record, walk_next, walk_stops, walk_stuck, write_both, not_finished}
use Rattle.watched.specs.Gave.{gave_s}
use Rattle.watched.specs.Watch.{List16, shown, shown_from}
use Rattle.beside.specs.Rows.{rows}

-- A step's row is 8 bytes for each listed node.
row_long : (p rec st : Bytes) (l : List16) → length (shown p rec st l) ≡ 8 * length l
unfolding shown bytes_of
row_long p rec st [] = refl
row_long p rec st (x ∷ xs) =
    length-append (bytes_of 8 (gave_s rec st (unbound most_nodes) (root p) x 0)) (shown p rec st xs) ∙ omega (arith, row_long p rec st xs)

module _ (p recs : Bytes) (l : List16) (left done : ℕ) (st : Bytes) where
  rows_next : {v : Value} {st₁ : Bytes} {w : Tally} → record_verdict done st (input_at recs done) ≡ Ok tt → step_of p (input_at recs done) st ≡ Made v st₁ w
      → rows p recs l (suc left) done st ≡ shown p (input_at recs done) st l ++ rows p recs l left (suc done) st₁
  unfolding rows
  rows_next e f = rw (e, rows, f)

  rows_stop : {r : Refusal} → record_verdict done st (input_at recs done) ≡ Err r → rows p recs l (suc left) done st ≡ []
  unfolding rows
  rows_stop e = rw (e, rows)

  rows_stuck : record_verdict done st (input_at recs done) ≡ Ok tt → step_of p (input_at recs done) st ≡ NotMade → rows p recs l (suc left) done st ≡ []
  unfolding rows
  rows_stuck e f = rw (e, rows, f)

  module _ (room : Bytes) where
    shown_next : {v : Value} {st₁ : Bytes} {w : Tally} → record_verdict done st (input_at recs done) ≡ Ok tt → step_of p (input_at recs done) st ≡ Made v st₁ w
        → shown_from p recs l (suc left) done st room
        ≡ shown_from p recs l left (suc done) st₁ (write_at room (8 * length l * done) (shown p (input_at recs done) st l))
    unfolding shown_from
    shown_next e f = rw (e, shown_from, f)

    shown_stops : {r : Refusal} → record_verdict done st (input_at recs done) ≡ Err r → shown_from p recs l (suc left) done st room ≡ room
    unfolding shown_from
    shown_stops e = rw (e, shown_from)

    shown_stuck : record_verdict done st (input_at recs done) ≡ Ok tt → step_of p (input_at recs done) st ≡ NotMade
        → shown_from p recs l (suc left) done st room ≡ room
    unfolding shown_from
    shown_stuck e f = rw (e, shown_from, f)

-- The row after.
after : (w d : ℕ) → w * d + w ≡ w * suc d
after w d = omega (arith, mul-suc w d)

pub in_room_lem : (left : ℕ) (p recs : Bytes) (l : List16) (done : ℕ) (st room : Bytes)
    → shown_from p recs l left done st room ≡ write_at room (8 * length l * done) (rows p recs l left done st)
unfolding shown_from rows write_at
in_room_lem zero p recs l done st room = refl
in_room_lem (suc left) p recs l done st room =
    let at : ℕ = 8 * length l * done in
    by_record p recs left done 0 0 st
    (λ r e. shown_stops p recs l left done st room e ∙ sym (ap (write_at room at) (rows_stop p recs l left done st e)))
    (λ e f. shown_stuck p recs l left done st room e f ∙ sym (ap (write_at room at) (rows_stuck p recs l left done st e f)))
    (λ v st₁ w e f.
    let row : Bytes = shown p (input_at recs done) st l in
    let rest : Bytes = rows p recs l left (suc done) st₁ in
    let place : at + length row ≡ 8 * length l * suc done = ap (λ (k : ℕ). at + k) (row_long p (input_at recs done) st l) ∙ after (8 * length l) done in
    shown_next p recs l left done st room e f
    ∙ in_room_lem left p recs l (suc done) st₁ (write_at room at row)
    ∙ sym (ap (write_at room at) (rows_next p recs l left done st e f) ∙ write_both row rest room at ∙ ap (λ (k : ℕ). write_at (write_at room at row) k rest) place))

-- Records that cannot be told apart, and are shown alike, leave the same rows.
pub rows_agree : (left : ℕ) (p recs₁ recs₂ : Bytes) (l : List16) (done : ℕ) (st : Bytes)
    → ((k : ℕ) → done ≤ k → k < done + left → SameRecord p k (input_at recs₁ k) (input_at recs₂ k))
    → ((k : ℕ) → done ≤ k → k < done + left → (s : Bytes) → shown p (input_at recs₁ k) s l ≡ shown p (input_at recs₂ k) s l)
    → rows p recs₁ l left done st ≡ rows p recs₂ l left done st
unfolding rows
rows_agree zero p recs₁ recs₂ l done st a b = refl
rows_agree (suc left) p recs₁ recs₂ l done st a b =
    let c = a done (omega arith) (omega arith) in
    let v = sym (c.verdict st) in
    let s = sym (c.step st) in
    by_record p recs₁ left done 0 0 st
    (λ r e. rows_stop p recs₁ l left done st e ∙ sym (rows_stop p recs₂ l left done st (v ∙ e)))
    (λ e f. rows_stuck p recs₁ l left done st e f ∙ sym (rows_stuck p recs₂ l left done st (v ∙ e) (s ∙ f)))
    (λ x st₁ w e f.
    rows_next p recs₁ l left done st e f
    ∙ (λ i. b done (omega arith) (omega arith) st i ++ rows_agree left p recs₁ recs₂ l (suc done) st₁ (λ k g h. a k (omega arith) (omega arith)) (λ k g h. b k (omega arith) (omega arith)) i)
    ∙ sym (rows_next p recs₂ l left done st (v ∙ e) (s ∙ f)))

-- Of a walk that is finished there is a row for each record.
pub rows_whole : (left : ℕ) (p recs : Bytes) (l : List16) (done work mark : ℕ) (st : Bytes) {steps total first : ℕ}
    → (walk p recs left done work mark st).answer ≡ finished_with steps total first → length (rows p recs l left done st) ≡ 8 * length l * left
unfolding rows showing
rows_whole zero p recs l done work mark st e = omega arith
rows_whole (suc left) p recs l done work mark st e =
    by_record p recs left done work mark st
    (λ r f. absurd (not_finished (ap (λ (x : Walk). x.answer) (sym (walk_stops p recs left done work mark st f)) ∙ e)))
    (λ f g. absurd (not_finished (ap (λ (x : Walk). x.answer) (sym (walk_stuck p recs left done work mark st f g)) ∙ e)))
    (λ v st₁ w f g.
    let more = rows_whole left p recs l (suc done) (work + w.work) (first_wrapped mark done w) st₁
    (sym (ap (λ (x : Walk). x.answer) (walk_next p recs left done work mark st f g)) ∙ e) in
    ap length (rows_next p recs l left done st f g) ∙ length-append (shown p (input_at recs done) st l) (rows p recs l left (suc done) st₁)
    ∙ (λ i. row_long p (input_at recs done) st l i + more i) ∙ omega (arith, after (8 * length l) left))
