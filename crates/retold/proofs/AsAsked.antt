-- The two calls refuse as the paragraph names it; and any two calls that keep the promise are one.
-- Assumes nothing.
use Rattle.rules.proofs.Same.{same_accepted}
use Rattle.rules.specs.Verdicts.{Verdict, accepted_with}
use Rattle.std.specs.Prelude.{Result, Ok, Err}
use mathlib.Core.Path.{◌≡◌, refl, sym, ap, subst, ◌∙◌}
use Prim.Native.Nat.{ℕ, ◌≤◌, ◌<◌}
use native.Mathlib.Omega.{arith}
use lib.ListN.{length}
use borrow.Author.Tests.{lt-ltb, le-ltb}
use Rattle.rules.specs.Bytes.{Bytes, write_at}
use Rattle.rules.specs.Layout.{nodes}
use Rattle.rules.specs.Calls.{program_verdict, check_answer, check_call}
use Rattle.rules.specs.declared.Refusal.{Refusal}
use Rattle.rules.proofs.Verdicts.{accepted}
use Rattle.promises.specs.Small.{Small}
use Rattle.texts.specs.Rows.{Got, got, stopped}
use Rattle.texts.specs.Resolved.{blocks_of}
use Rattle.texts.specs.Reader.{read_text}
use Rattle.texts.specs.Printer.{print_text}
use Rattle.texts.specs.Calls.{ReadOutcome, PrintOutcome, read_checked, read_fitted, read_outcome, read_call, print_fitted, print_outcome, print_call}
use Rattle.texts.specs.declared.NoTable.{NoTable}
use Rattle.texts.specs.declared.NoText.{NoText}
use Rattle.retold.specs.Asked.{ReadAsAsked, PrintAsAsked, AlwaysFits, Reading, Printing}
use Rattle.retold.proofs.There.{text_most}

-- What check answers is its verdict.
refused_verdict : (p : Bytes) (r : Refusal) → check_call p ≡ Err r → program_verdict p ≡ Err r
unfolding check_call check_answer
refused_verdict p r e = go (program_verdict p) e
  where
    go : (v : Verdict) → check_answer p v ≡ Err r → v ≡ Err r
    go (Ok _) e = cc
    go (Err q) e = cc

fine_verdict : (p : Bytes) (n c b t : ℕ) → check_call p ≡ accepted_with n c b t → (program_verdict p ≡ Ok tt) × (nodes p ≡ n)
unfolding check_call check_answer
fine_verdict p n c b t e = go (program_verdict p) e
  where
    go : (v : Verdict) → check_answer p v ≡ accepted_with n c b t → (v ≡ Ok tt) × (nodes p ≡ n)
    go (Ok _) e = (refl, (same_accepted e).0)
    go (Err q) e = (cc, cc)

-- The steps of reading.
outcome : (text room : Bytes) (r : Got ℕ) → read_text text ≡ r → read_call text room ≡ read_outcome r room
unfolding read_call
outcome text room r e = ap (λ (x : Got ℕ). read_outcome x room) e

short : (q room : Bytes) → length room < length q → read_fitted q room ≡ record { answer = Err NoTable.RoomShort; room = room }
unfolding read_fitted
short q room l = rw (lt-ltb (length room) (length q) l, read_fitted) refl

long : (q room : Bytes) → length q ≤ length room → read_fitted q room ≡ read_checked (program_verdict q) q room
unfolding read_fitted
long q room l = rw (le-ltb (length room) (length q) l, read_fitted) refl

pub read_as_asked : (text room : Bytes) → ReadAsAsked text room
unfolding read_outcome read_checked
read_as_asked text room = record {
  not_read = λ why e. outcome text room (stopped why) e;
  too_long = λ e rest so is l. outcome text room (got e rest so) is ∙ short (blocks_of e so.rows) room l;
  refused = λ e rest so r is l c.
      outcome text room (got e rest so) is ∙ long (blocks_of e so.rows) room l
      ∙ ap (λ (v : Verdict). read_checked v (blocks_of e so.rows) room) (refused_verdict (blocks_of e so.rows) r c);
  read = λ e rest so n c b t is l a.
      let q = blocks_of e so.rows in
      let f = fine_verdict q n c b t a in
      outcome text room (got e rest so) is ∙ long q room l ∙ ap (λ (v : Verdict). read_checked v q room) f.0
      ∙ ap (λ (k : ℕ). record { answer = Ok (record { nodes = k; bytes = length q }); room = write_at room 0 q }) f.1;
}

-- The steps of printing.
print_short : (text room : Bytes) → length room < length text → print_fitted text room ≡ record { answer = Err NoText.RoomShort; room = room }
unfolding print_fitted
print_short text room l = rw (lt-ltb (length room) (length text) l, print_fitted) refl

print_long : (text room : Bytes) → length text ≤ length room → print_fitted text room ≡ record { answer = Ok (length text); room = write_at room 0 text }
unfolding print_fitted
print_long text room l = rw (le-ltb (length room) (length text) l, print_fitted) refl

pub print_as_asked : (p room : Bytes) → PrintAsAsked p room
unfolding print_call print_outcome
print_as_asked p room = record {
  refused = λ r e. ap (λ (v : Verdict). print_outcome v p room) (refused_verdict p r e);
  too_long = λ n c b t e l. ap (λ (v : Verdict). print_outcome v p room) (fine_verdict p n c b t e).0 ∙ print_short (print_text p) room l;
  printed = λ n c b t e l. ap (λ (v : Verdict). print_outcome v p room) (fine_verdict p n c b t e).0 ∙ print_long (print_text p) room l;
}

-- Two calls that keep the promise are equal at every input.
pub one_reading : {f g : Bytes → Bytes → ReadOutcome} → Reading f → Reading g → (text room : Bytes) → f text room ≡ g text room
one_reading a b text room = a.as_ruled text room ∙ sym (b.as_ruled text room)

pub one_printing : {f g : Bytes → Bytes → PrintOutcome} → Printing f → Printing g → (p room : Bytes) → f p room ≡ g p room
one_printing a b p room = a.as_ruled p room ∙ sym (b.as_ruled p room)

-- A room that always fits.
abbrev IsShort : Result ℕ NoText → Type 0
IsShort (Ok n) = ⊥
IsShort (Err (NoText.Refused r)) = ⊥
IsShort (Err NoText.RoomShort) = Unit {0}

pub always_fits : (p room : Bytes) → Small p → AlwaysFits p room
unfolding print_call print_outcome
always_fits p room small l e = go (program_verdict p) refl
  where
    go : (v : Verdict) → program_verdict p ≡ v → ⊥
    go (Err r) z = subst IsShort (sym e ∙ ap (λ (x : Verdict). (print_outcome x p room).answer) z) tt
    go (Ok _) z =
        let m = text_most p small (accepted p z) in
        subst IsShort (sym e ∙ ap (λ (x : Verdict). (print_outcome x p room).answer) z ∙ ap (λ (o : PrintOutcome). o.answer) (print_long (print_text p) room (omega (arith, m, l)))) tt
