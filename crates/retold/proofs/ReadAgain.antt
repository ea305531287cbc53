-- What reading leaves is numbered children first; printed and read again it is the same program.
-- Assumes nothing.
use Rattle.rules.specs.Verdicts.{Verdict}
use Rattle.std.specs.Prelude.{Ok, Err}
use mathlib.Core.Path.{◌≡◌, refl, sym, ap, subst, ◌∙◌}
use mathlib.Core.Bool.{Bool, true, false}
use mathlib.Core.List.{List}
use Prim.Native.Nat.{ℕ, ◌≤◌}
use lib.Dec.{ltb}
use lib.ListN.{length, take}
use borrow.Author.Tests.{ltb-false}
use Rattle.rules.specs.Bytes.{Bytes, write_at}
use Rattle.rules.specs.Calls.{program_verdict}
use Rattle.texts.specs.Tokens.{Token}
use Rattle.texts.specs.Rows.{Sofar, Got, got, stopped}
use Rattle.texts.specs.Resolved.{blocks_of}
use Rattle.texts.specs.Reader.{read_text}
use Rattle.texts.specs.Calls.{ReadOutcome, unread_answer, read_checked, read_fitted, read_outcome, read_call}
use Rattle.texts.specs.declared.Unread.{Unread}
use Rattle.texts.specs.declared.Unread.TheVariants.{Word, Name, Range}
use Rattle.retold.specs.Retold.{program_in}
use Rattle.retold.specs.Stays.{NumberedSo, Reread}
use Rattle.retold.proofs.Fronts.{written_front}
use Rattle.retold.proofs.AtCalls.{is_table, read_short}
use Rattle.retold.proofs.Stays.{comes_back}
use Rattle.retold.proofs.TextOrder.{text_numbered}

-- Reading that answers a program left its blocks.
no_table : (why : Unread) {count size : ℕ} → unread_answer why ≡ Ok (record { nodes = count; bytes = size }) → ⊥
unfolding unread_answer
no_table (Word at) e = is_table e
no_table (Name at) e = is_table e
no_table (Range at) e = is_table e

read_long : (q room : Bytes) → ltb (length room) (length q) ≡ false → read_fitted q room ≡ read_checked (program_verdict q) q room
unfolding read_fitted
read_long q room e = rw (e, read_fitted) refl

by_verdict : (q room : Bytes) (v : Verdict) (count size : ℕ) → length q ≤ length room → (read_checked v q room).answer ≡ Ok (record { nodes = count; bytes = size }) → take size (read_checked v q room).room ≡ q
unfolding read_checked
by_verdict q room (Ok _) count size l is = ap (λ (k : ℕ). take k (write_at room 0 q)) (sym (is_table is)) ∙ written_front room q l
by_verdict q room (Err r) count size l is = absurd (is_table is)

by_room : (q room : Bytes) (b : Bool) → ltb (length room) (length q) ≡ b → (count size : ℕ) → (read_fitted q room).answer ≡ Ok (record { nodes = count; bytes = size }) → take size (read_fitted q room).room ≡ q
by_room q room true e count size is = absurd (is_table (sym (ap (λ (o : ReadOutcome). o.answer) (read_short q room e)) ∙ is))
by_room q room false e count size is =
    let all = read_long q room e in
    ap (λ (o : ReadOutcome). take size o.room) all
    ∙ by_verdict q room (program_verdict q) count size (ltb-false (length room) (length q) e) (sym (ap (λ (o : ReadOutcome). o.answer) all) ∙ is)

record WasRead (text room : Bytes) (size : ℕ) : Type 0 where
  edition : ℕ
  rest : List Token
  so : Sofar
  is_read : read_text text ≡ got edition rest so
  program : program_in text room size ≡ blocks_of edition so.rows

was_read : (text room : Bytes) (count size : ℕ) → (read_call text room).answer ≡ Ok (record { nodes = count; bytes = size }) → (r : Got ℕ) → read_text text ≡ r → WasRead text room size
unfolding read_call read_outcome
was_read text room count size is (stopped why) e = absurd (no_table why (sym (ap (λ (r : Got ℕ). (read_outcome r room).answer) e) ∙ is))
was_read text room count size is (got edition rest so) e =
    let all = ap (λ (r : Got ℕ). read_outcome r room) e in
    let q = blocks_of edition so.rows in
    record {
      edition = edition;
      rest = rest;
      so = so;
      is_read = e;
      program = ap (λ (o : ReadOutcome). take size o.room) all
          ∙ by_room q room (ltb (length room) (length q)) refl count size (sym (ap (λ (o : ReadOutcome). o.answer) all) ∙ is);
    }

pub reread : (text room₁ : Bytes) (count size : ℕ) → (read_call text room₁).answer ≡ Ok (record { nodes = count; bytes = size }) → Reread text room₁ count size
reread text room₁ count size is =
    let w = was_read text room₁ count size is (read_text text) refl in
    let so = subst NumberedSo (sym w.program) (text_numbered text w.edition w.rest w.so w.is_read) in
    record {
      numbered = so;
      same_program = λ room₂ room₃ n count₂ size₂ small is₂ again. comes_back (program_in text room₁ size) room₂ room₃ n count₂ size₂ small so is₂ again;
    }
