-- The answer and the room of the calls.
-- Assumes nothing.
use Rattle.rules.specs.Verdicts.{Verdict}
use Rattle.std.specs.Prelude.{Result, Ok, Err, Some, None}
use mathlib.Core.Path.{◌≡◌, refl, sym, ap, subst, ◌∙◌}
use mathlib.Core.Bool.{true, false}
use mathlib.Core.List.{List, [], ◌∷◌, ◌++◌}
use Prim.Native.Nat.{ℕ, zero, suc, ◌+◌, ◌*◌, ◌≤◌, ◌<◌, min}
use native.Mathlib.Omega.{arith}
use native.Mathlib.Nat.{min-eq_left, min-eq_right}
use lib.Dec.{ltb}
use lib.ListN.{length, get_or, set, take, drop}
use borrow.Author.Tests.{lt-ltb, le-ltb}
use Rattle.rules.specs.Bytes.{Bytes, write_at}
use Rattle.rules.specs.Layout.{nodes}
use Rattle.rules.specs.Calls.{program_verdict}
use Rattle.rules.specs.declared.Refusal.{Refusal}
use Rattle.texts.specs.Rows.{Got, stopped}
use Rattle.texts.specs.Reader.{read_text, places_in, node_place}
use Rattle.texts.specs.Resolved.{blocks_of}
use Rattle.texts.specs.Calls.{ReadOutcome, last_position, unread_answer, read_checked, read_fitted, read_outcome, read_call}
use Rattle.texts.specs.declared.Unread.{Unread}
use Rattle.texts.specs.declared.NoTable.{NoTable}
use Rattle.written.specs.declared.TableSize.{TableSize}
use Rattle.tidy.proofs.BlockLaws.{in_front}
use Rattle.sealing.specs.Scratch.{count_in, rows_in, starts_in}
use Rattle.sealing.proofs.RecordLaws.{sealed_long}
use Rattle.reading.specs.Given.{Rowed, Built, BlocksOf}
use Rattle.reading.specs.Position.{node_position}
use Rattle.reading.proofs.RowsLaws.{starts_count, start_is}

-- A position.
pub capped_low : (at : ℕ) → at < 4294967295 → at ≡ min at last_position
capped_low at h = sym (min-eq_left (let z : at ≤ 4294967295 = omega arith in z))

pub capped_high : (at : ℕ) → 4294967295 ≤ at → 4294967295 ≡ min at last_position
capped_high at h = sym (min-eq_right h)

module _ (why : Unread) (at r : ℕ) (q : r ≡ min at last_position) where
  pub unread_word : why ≡ Unread.Word at → Err (NoTable.BadWord r) ≡ unread_answer why
  unfolding unread_answer
  unread_word e = ap (λ (n : ℕ). Err (NoTable.BadWord n)) q ∙ sym (ap unread_answer e)

  pub unread_name : why ≡ Unread.Name at → Err (NoTable.BadName r) ≡ unread_answer why
  unfolding unread_answer
  unread_name e = ap (λ (n : ℕ). Err (NoTable.BadName n)) q ∙ sym (ap unread_answer e)

  pub unread_range : why ≡ Unread.Range at → Err (NoTable.BadNumber r) ≡ unread_answer why
  unfolding unread_answer
  unread_range e = ap (λ (n : ℕ). Err (NoTable.BadNumber n)) q ∙ sym (ap unread_answer e)

-- A list written at the front of another.
write_past : (s room : Bytes) (x i : ℕ) → write_at (x ∷ room) (suc i) s ≡ x ∷ write_at room i s
unfolding write_at
write_past [] room x i = refl
write_past (b ∷ s) room x i = write_past s (set room i b) x (suc i)

pub write_front : (s room : Bytes) → length s ≤ length room → s ++ drop (length s) room ≡ write_at room 0 s
unfolding write_at
write_front [] room h = refl
write_front (b ∷ s) [] h = absurd (omega arith)
write_front (b ∷ s) (x ∷ room) h = ap (λ (l : Bytes). b ∷ l) (write_front s room (omega arith)) ∙ sym (write_past s room b 0)

-- What the check says.
module _ (result room : Bytes) where
  pub judged_refused : (r : Refusal) → program_verdict result ≡ Err r
      → (Err (NoTable.Refused r) ≡ (read_checked (program_verdict result) result room).answer) × (room ≡ (read_checked (program_verdict result) result room).room)
  unfolding read_checked
  judged_refused r e =
      (sym (ap (λ (v : Verdict). (read_checked v result room).answer) e), sym (ap (λ (v : Verdict). (read_checked v result room).room) e))

  pub judged_fine : {n : ℕ} {after : Bytes} → program_verdict result ≡ Ok tt → n ≡ nodes result → after ≡ write_at room 0 result
      → (Ok (record { nodes = n; bytes = (length result) }) ≡ (read_checked (program_verdict result) result room).answer) × (after ≡ (read_checked (program_verdict result) result room).room)
  unfolding read_checked
  judged_fine e q w = (
    ap (λ (m : ℕ). Ok (record { nodes = m; bytes = (length result) })) q ∙ sym (ap (λ (v : Verdict). (read_checked v result room).answer) e),
    w ∙ sym (ap (λ (v : Verdict). (read_checked v result room).room) e),
  )

-- The whole call.
module _ (text room : Bytes) where
  pub call_stopped : {why : Unread} → read_text text ≡ stopped why
      → (unread_answer why ≡ (read_call text room).answer) × (room ≡ (read_call text room).room)
  unfolding read_call read_outcome
  call_stopped e =
      (sym (ap (λ (g : Got ℕ). (read_outcome g room).answer) e), sym (ap (λ (g : Got ℕ). (read_outcome g room).room) e))

  module _ {before after : Bytes} {n : ℕ} (b : Built text before after n) where
    abbrev blocks₀ : Bytes
    blocks₀ = blocks_of b.edition b.so.rows

    fitted : read_call text room ≡ read_fitted blocks₀ room
    unfolding read_call read_outcome
    fitted = ap (λ (g : Got ℕ). read_outcome g room) b.is_read

    pub call_short : length room < n → (Err NoTable.RoomShort ≡ (read_call text room).answer) × (room ≡ (read_call text room).room)
    unfolding read_fitted
    call_short h =
        let z : ltb (length room) (length blocks₀) ≡ true = lt-ltb (length room) (length blocks₀) (omega (arith, b.long)) in
        let q : read_call text room ≡ record { answer = Err NoTable.RoomShort; room = room } = fitted ∙ rw (z, read_fitted) refl in
        (sym (ap (λ (o : ReadOutcome). o.answer) q), sym (ap (λ (o : ReadOutcome). o.room) q))

    pub front_is : length before ≡ 12288 → take n after ≡ blocks₀
    front_is l =
        (λ i. take (b.long i) (b.stands i)) ∙ in_front blocks₀ before (omega (arith, b.long, b.fits))

    pub front_long : length before ≡ 12288 → length (take n after) ≡ n
    front_long l = ap length (front_is l) ∙ sym b.long

    pub front_fits : length before ≡ 12288 → n ≤ length room → (length (take n after) ≤ length room) × (length (take n after) ≤ 12288)
    front_fits l h =
        let z : length (take n after) ≡ n = ap length (front_is l) ∙ sym b.long in (omega arith, omega (arith, b.fits))

    pub call_judged : {r : Result TableSize NoTable} {room' : Bytes} → n ≤ length room → length before ≡ 12288
        → (r ≡ (read_checked (program_verdict (take n after)) (take n after) room).answer) × (room' ≡ (read_checked (program_verdict (take n after)) (take n after) room).room)
        → (r ≡ (read_call text room).answer) × (room' ≡ (read_call text room).room)
    unfolding read_fitted
    call_judged h l j =
        let z : ltb (length room) (length blocks₀) ≡ false = le-ltb (length room) (length blocks₀) (omega (arith, b.long)) in
        let q : read_call text room ≡ read_checked (program_verdict blocks₀) blocks₀ room = fitted ∙ rw (z, read_fitted) refl in
        let k : read_checked (program_verdict (take n after)) (take n after) room ≡ read_call text room
        = ap (λ (s : Bytes). read_checked (program_verdict s) s room) (front_is l) ∙ sym q in
        (j.0 ∙ ap (λ (o : ReadOutcome). o.answer) k, j.1 ∙ ap (λ (o : ReadOutcome). o.room) k)

pub built_of : (text before after : Bytes) (r : Result ℕ Unread) → BlocksOf text before after r → (n : ℕ) → r ≡ Ok n → Built text before after n
built_of text before after r h n q = subst (BlocksOf text before after) q h

pub blocks_err : (text before after : Bytes) (r : Result ℕ Unread) (why : Unread) → r ≡ Err why → read_text text ≡ stopped why → BlocksOf text before after r
blocks_err text before after r why q h = subst (BlocksOf text before after) (sym q) h

pub unbuilt_of : (text before after : Bytes) (r : Result ℕ Unread) → BlocksOf text before after r → (why : Unread) → r ≡ Err why → read_text text ≡ stopped why
unbuilt_of text before after r h why q = subst (BlocksOf text before after) q h

-- The blocks of rows that were read.
pub built_is : (text : Bytes) (s : List ℕ) (e : ℕ) (before after : Bytes) (n : ℕ) → Rowed text s e
    → (n ≡ length (blocks_of e (rows_in text s))) × (after ≡ write_at before 0 (blocks_of e (rows_in text s))) → Built text before after n
built_is text s e before after n r h = record {
  edition = e;
  rest = r.rest;
  so = r.so;
  is_read = r.is_read;
  long = h.0 ∙ ap (λ rs. length (blocks_of e rs)) (sym r.rows);
  stands = h.1 ∙ ap (λ rs. write_at before 0 (blocks_of e rs)) (sym r.rows);
  fits = omega (arith, h.0, sealed_long text s e, r.few);
}

-- Where a node begins.
module _ (text : Bytes) (node : ℕ) where
  pub place_none : {why : Unread} → read_text text ≡ stopped why → None ≡ node_position text node
  unfolding node_position places_in
  place_none e = sym (rw (ap (λ (g : Got ℕ). ltb node (length (places_in g))) e, le-ltb node 0 (omega arith), node_position) refl)

  module _ (s : List ℕ) (e : ℕ) (r : Rowed text s e) where
    places_are : places_in (read_text text) ≡ starts_in s
    unfolding places_in
    places_are = ap places_in r.is_read ∙ r.places

    count_is : length (places_in (read_text text)) ≡ count_in s
    count_is = ap length places_are ∙ starts_count s

    pub place_at : {p : ℕ} → node < count_in s → p ≡ min (get_or s (13 * node + 26) 0) last_position → Some p ≡ node_position text node
    unfolding node_position node_place
    place_at h q =
        let z : ltb node (length (places_in (read_text text))) ≡ true = lt-ltb node (length (places_in (read_text text))) (omega (arith, count_is)) in
        let y : get_or (places_in (read_text text)) node (length text) ≡ get_or s (13 * node + 26) 0
        = ap (λ (l : List ℕ). get_or l node (length text)) places_are ∙ start_is s (length text) node h in
        ap Some (q ∙ ap (λ (m : ℕ). min m last_position) (sym y)) ∙ sym (rw (z, node_position) refl)

    pub place_behind : count_in s ≤ node → None ≡ node_position text node
    unfolding node_position
    place_behind h =
        let z : ltb node (length (places_in (read_text text))) ≡ false = le-ltb node (length (places_in (read_text text))) (omega (arith, count_is)) in
        sym (rw (z, node_position) refl)
