-- The call keeps what request l says; and what it says leaves one answer and one content of state, output and second room, for every input.
-- Assumes nothing.
use Rattle.std.specs.Prelude.{Option, Some, None, Ok, Err, ℕ}
use Rattle.rules.specs.Verdicts.{Verdict}
use mathlib.Core.Path.{◌≡◌, refl, sym, ◌∙◌}
use mathlib.Core.Bool.{Bool, true, false}
use Prim.Native.Nat.{ℕ}
use Rattle.rules.specs.Bytes.{Bytes}
use Rattle.rules.specs.Calls.{RunOutcome, program_verdict}
use Rattle.watched.specs.Watch.{List16, list_wrong, list_fault, watch_lent, WatchOutcome, watch_call}
use Rattle.beside.specs.Seen.{Plainly}
use Rattle.beside.specs.Says.{Says}
use Rattle.beside.proofs.AsPlain.{as_plain, length_refused, entry_refused}
use Rattle.beside.proofs.Loose.{right_room, program_refused, lent_refused, lent_room}

-- For any bytes as program, state, records and rooms, and any list.
pub as_said : (p st recs : Bytes) (l : List16) (out room : Bytes) → Says p st recs l out room (watch_call p st recs l out room)
as_said p st recs l out room = record {
  refused = λ r e. program_refused p st recs l out room r e;
  list_length = λ e f. length_refused p st recs l out room e f;
  list_entry = λ e f j g. entry_refused p st recs l out room e f g;
  lent = λ e f g r h. lent_refused p st recs l out room e f g r h;
  plain = λ e f g h. as_plain p st recs l out room f g (right_room p st recs l out room h);
  in_rows = λ e f g h. lent_room p st recs l out room e f g h;
}

-- Two outcomes that are one plain run's and have one second room are one.
both_plain : {r : RunOutcome} (o₁ o₂ : WatchOutcome) → Plainly o₁ r → Plainly o₂ r → o₁.room ≡ o₂.room → o₁ ≡ o₂
both_plain o₁ o₂ a b w =
    let answers = a.answers ∙ sym b.answers in
    let states = a.states ∙ sym b.states in
    let outputs = a.outputs ∙ sym b.outputs in
    λ i. record { answer = answers i; state = states i; output = outputs i; room = w i }

pub one_watch : (p st recs : Bytes) (l : List16) (out room : Bytes) (o₁ o₂ : WatchOutcome) → Says p st recs l out room o₁ → Says p st recs l out room o₂ → o₁ ≡ o₂
one_watch p st recs l out room o₁ o₂ a b = program (program_verdict p) refl
  where
    lent : program_verdict p ≡ Ok tt → list_wrong l ≡ false → list_fault p l ≡ None → (v : Verdict) → watch_lent p st recs l out room ≡ v → o₁ ≡ o₂
    lent e f g (Err r) h = a.lent e f g r h ∙ sym (b.lent e f g r h)
    lent e f g (Ok _) h = both_plain o₁ o₂ (a.plain e f g h) (b.plain e f g h) (a.in_rows e f g h ∙ sym (b.in_rows e f g h))

    entry : program_verdict p ≡ Ok tt → list_wrong l ≡ false → (q : Option ℕ) → list_fault p l ≡ q → o₁ ≡ o₂
    entry e f (Some j) g = a.list_entry e f j g ∙ sym (b.list_entry e f j g)
    entry e f None g = lent e f g (watch_lent p st recs l out room) refl

    listed : program_verdict p ≡ Ok tt → (w : Bool) → list_wrong l ≡ w → o₁ ≡ o₂
    listed e true f = a.list_length e f ∙ sym (b.list_length e f)
    listed e false f = entry e f (list_fault p l) refl

    program : (v : Verdict) → program_verdict p ≡ v → o₁ ≡ o₂
    program (Err r) e = a.refused r e ∙ sym (b.refused r e)
    program (Ok _) e = listed e (list_wrong l) refl
