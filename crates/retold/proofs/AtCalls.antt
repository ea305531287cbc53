-- "Printing an accepted program and reading it gives the same program under that numbering, and the printed text again": at the calls, for all
-- rooms.
-- Assumes nothing.
use Rattle.rules.specs.Verdicts.{Verdict}
use Rattle.std.specs.Prelude.{Result, Ok, Err}
use mathlib.Core.Path.{◌≡◌, refl, sym, ap, subst, ◌∙◌}
use mathlib.Core.Bool.{Bool, true, false}
use Prim.Native.Nat.{ℕ, ◌≤◌}
use lib.Dec.{ltb}
use lib.ListN.{length, take}
use borrow.Author.Tests.{ltb-false}
use Rattle.rules.specs.Bytes.{Bytes, write_at}
use Rattle.rules.specs.Accepted.{Accepted}
use Rattle.rules.specs.Calls.{program_verdict}
use Rattle.rules.proofs.Verdicts.{accepted}
use Rattle.promises.specs.Small.{Small}
use Rattle.texts.specs.Numbering.{renumbered}
use Rattle.texts.specs.Printer.{print_text}
use Rattle.texts.specs.Calls.{ReadOutcome, PrintOutcome, read_fitted, read_call, print_fitted, print_outcome, print_call}
use Rattle.written.specs.declared.TableSize.{TableSize}
use Rattle.texts.specs.declared.NoTable.{NoTable}
use Rattle.texts.specs.declared.NoTable.TheVariants.{BadWord, BadName, BadNumber}
use Rattle.texts.specs.declared.NoText.{NoText}
use Rattle.retold.specs.Retold.{text_in, program_in, Retold}
use Rattle.retold.proofs.Fronts.{written_front}
use Rattle.retold.proofs.There.{text_read, text_fits, text_again}

-- Printing that answers a length was of an accepted program, with room enough.
abbrev IsText : Result ℕ NoText → ℕ → Type 0
IsText (Ok m) n = m ≡ n
IsText (Err (NoText.Refused r)) n = ⊥
IsText (Err NoText.RoomShort) n = ⊥

is_text : {x : Result ℕ NoText} {n : ℕ} → x ≡ Ok n → IsText x n
is_text {x} {n} e = subst (λ (y : Result ℕ NoText). IsText y n) (sym e) refl

pub record Printed (p room : Bytes) (n : ℕ) : Type 0 where
  pub accepts : Accepted p
  pub long : n ≡ length (print_text p)
  pub fits : length (print_text p) ≤ length room
  pub left : (print_call p room).room ≡ write_at room 0 (print_text p)

print_fine : (p room : Bytes) → program_verdict p ≡ Ok tt → print_call p room ≡ print_fitted (print_text p) room
unfolding print_call print_outcome
print_fine p room e = ap (λ (v : Verdict). print_outcome v p room) e

print_long : (text room : Bytes) → ltb (length room) (length text) ≡ false → print_fitted text room ≡ record { answer = Ok (length text); room = write_at room 0 text }
unfolding print_fitted
print_long text room e = rw (e, print_fitted) refl

print_short : (text room : Bytes) → ltb (length room) (length text) ≡ true → print_fitted text room ≡ record { answer = Err NoText.RoomShort; room = room }
unfolding print_fitted
print_short text room e = rw (e, print_fitted) refl

by_verdict : (p room : Bytes) (n : ℕ) (v : Verdict) → program_verdict p ≡ v → (print_call p room).answer ≡ Ok n → program_verdict p ≡ Ok tt
unfolding print_call print_outcome
by_verdict p room n (Ok _) e is = e
by_verdict p room n (Err r) e is = absurd (is_text (sym (ap (λ (v : Verdict). (print_outcome v p room).answer) e) ∙ is))

by_room : (p room : Bytes) (n : ℕ) (b : Bool) → ltb (length room) (length (print_text p)) ≡ b → program_verdict p ≡ Ok tt → (print_call p room).answer ≡ Ok n → Printed p room n
by_room p room n true e fine is =
    absurd (is_text (sym (ap (λ (o : PrintOutcome). o.answer) (print_fine p room fine ∙ print_short (print_text p) room e)) ∙ is))
by_room p room n false e fine is =
    let all = print_fine p room fine ∙ print_long (print_text p) room e in
    record {
      accepts = accepted p fine;
      long = sym (is_text (sym (ap (λ (o : PrintOutcome). o.answer) all) ∙ is));
      fits = ltb-false (length room) (length (print_text p)) e;
      left = ap (λ (o : PrintOutcome). o.room) all;
    }

pub printing : (p room : Bytes) (n : ℕ) → (print_call p room).answer ≡ Ok n → Printed p room n
printing p room n is = by_room p room n (ltb (length room) (length (print_text p))) refl (by_verdict p room n (program_verdict p) refl is) is

-- The text that it left.
pub text_in_lem : (p room : Bytes) (n : ℕ) → (print_call p room).answer ≡ Ok n → text_in p room n ≡ print_text p
text_in_lem p room n is =
    let d = printing p room n is in
    ap (λ (k : ℕ). take k (print_call p room).room) d.long ∙ ap (take (length (print_text p))) d.left ∙ written_front room (print_text p) d.fits

-- Reading that answers a program had room enough.
abbrev pub IsTable : Result TableSize NoTable → ℕ → Type 0
IsTable (Ok size) n = size.bytes ≡ n
IsTable (Err (BadWord at)) n = ⊥
IsTable (Err (BadName at)) n = ⊥
IsTable (Err (BadNumber at)) n = ⊥
IsTable (Err NoTable.RoomShort) n = ⊥
IsTable (Err (NoTable.Refused r)) n = ⊥

pub is_table : {x : Result TableSize NoTable} {count n : ℕ} → x ≡ Ok (record { nodes = count; bytes = n }) → IsTable x n
is_table {x} {count} {n} e = subst (λ (y : Result TableSize NoTable). IsTable y n) (sym e) refl

pub read_short : (q room : Bytes) → ltb (length room) (length q) ≡ true → read_fitted q room ≡ record { answer = Err NoTable.RoomShort; room = room }
unfolding read_fitted
read_short q room e = rw (e, read_fitted) refl

module _ (p : Bytes) (small : Small p) (a : Accepted p) (room : Bytes) (count size : ℕ) (is : (read_call (print_text p) room).answer ≡ Ok (record { nodes = count; bytes = size })) where
  room_fits : (b : Bool) → ltb (length room) (length (renumbered p)) ≡ b → length (renumbered p) ≤ length room
  room_fits true e = absurd (is_table (sym (ap (λ (o : ReadOutcome). o.answer) (text_read p small a room ∙ read_short (renumbered p) room e)) ∙ is))
  room_fits false e = ltb-false (length room) (length (renumbered p)) e

  fits : length (renumbered p) ≤ length room
  fits = room_fits (ltb (length room) (length (renumbered p))) refl

  pub program_in_lem : program_in (print_text p) room size ≡ renumbered p
  program_in_lem =
      let all = text_fits p small a room fits in
      let long : size ≡ length (renumbered p) = sym (is_table (sym (ap (λ (o : ReadOutcome). o.answer) all) ∙ is)) in
      ap (λ (k : ℕ). take k (read_call (print_text p) room).room) long ∙ ap (λ (o : ReadOutcome). take (length (renumbered p)) o.room) all
      ∙ written_front room (renumbered p) fits

-- The paragraph's sentence.
pub retold : (p : Bytes) → Small p → Retold p
retold p small = record {
  reads = λ room₁ room₂ n is l.
      let a = (printing p room₁ n is).accepts in
      ap (λ (t : Bytes). (read_call t room₂).answer) (text_in_lem p room₁ n is) ∙ ap (λ (o : ReadOutcome). o.answer) (text_fits p small a room₂ l);
  same_program = λ room₁ room₂ n count size is so.
      let a = (printing p room₁ n is).accepts in
      let t = text_in_lem p room₁ n is in
      ap (λ (x : Bytes). program_in x room₂ size) t ∙ program_in_lem p small a room₂ count size (sym (ap (λ (x : Bytes). (read_call x room₂).answer) t) ∙ so);
  same_text = λ room₁ room₂ room₃ n count size m is so again.
      let a = (printing p room₁ n is).accepts in
      let t = text_in_lem p room₁ n is in
      let q = program_in (text_in p room₁ n) room₂ size in
      let e : q ≡ renumbered p
      = ap (λ (x : Bytes). program_in x room₂ size) t ∙ program_in_lem p small a room₂ count size (sym (ap (λ (x : Bytes). (read_call x room₂).answer) t) ∙ so) in
      text_in_lem q room₃ m again ∙ ap print_text e ∙ text_again p small a ∙ sym t;
}
