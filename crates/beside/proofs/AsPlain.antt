-- Outputs, state, work, marks and answers of a watched run are those of the plain run; a refusal of the list, or of the second room, writes nothing.
-- Assumes nothing.
use Rattle.std.specs.Prelude.{if◌then◌else◌, Ok, Err, None, Some}
use Rattle.rules.specs.Verdicts.{Verdict}
use mathlib.Core.Path.{◌≡◌, refl, sym, ap, ◌∙◌}
use mathlib.Core.Bool.{Bool, true, false, not}
use Prim.Native.Nat.{ℕ, ◌*◌, ◌/◌, ◌%◌}
use lib.Dec.{eqb, leb}
use lib.ListN.{length}
use borrow.Author.Tests.{eq-eqb}
use Rattle.rules.specs.Bytes.{Bytes, ◌and◌}
use Rattle.rules.specs.Layout.{input_length}
use Rattle.rules.specs.Calls.{◌otherwise◌, refuse_if, program_verdict, state_verdict, lent_verdict, RunOutcome, run_outcome, run_call}
use Rattle.rules.specs.declared.Refusal.{Refusal}
use Rattle.rules.specs.declared.Refusal.TheVariants.{RecordsLength, OutputLength}
use Rattle.watched.specs.declared.ListFault.TheVariants.{ListLength, ListEntry}
use Rattle.beside.specs.Seen.{Plainly}
use Rattle.watched.specs.Watch.{List16, list_wrong, list_fault, records_fit, rooms_fit, watch_lent, watch_room, WatchOutcome, as_run, off_list, watch_listed, watch_accepted, watch_judged, watch_call}

-- The second room is of the right length: 8 bytes for each step and listed node.
abbrev pub RightRoom : Bytes → List16 → Bytes → Type 0
RightRoom recs l room = length room ≡ 8 * length l * (length recs / input_length)

and_true : (a : Bool) → (a and true) ≡ a
unfolding ◌and◌
and_true true = refl
and_true false = refl

-- With the second room right, what is lent is judged as of a plain run.
lent_plain : (p st recs : Bytes) (l : List16) (out room : Bytes) → RightRoom recs l room → program_verdict p ≡ Ok tt
    → lent_verdict p st recs out (records_fit recs) ≡ watch_lent p st recs l out room
unfolding lent_verdict watch_lent rooms_fit ◌otherwise◌
lent_plain p st recs l out room e f =
    rw (f, eq-eqb (length room) (8 * length l * (length recs / input_length)) e, and_true (eqb (length out) (8 * (length recs / input_length))))

-- A watched run with a right list and a second room of the right length, of any program, state, records and output.
module _ (p st recs : Bytes) (l : List16) (out room : Bytes) where
  abbrev Call : WatchOutcome
  Call = watch_call p st recs l out room

  abbrev Run : RunOutcome
  Run = run_call p st recs out

  -- A program that is refused: whatever the list and the second room.
  refused_plain : (r : Refusal) → program_verdict p ≡ Err r → Plainly Call Run
  unfolding watch_call watch_judged as_run run_call lent_verdict ◌otherwise◌ records_fit
  refused_plain r e = rw e (record { answers = refl; states = refl; outputs = refl })

  accepted_plain : program_verdict p ≡ Ok tt → list_wrong l ≡ false → list_fault p l ≡ None → RightRoom recs l room → Plainly Call Run
  unfolding watch_call watch_judged watch_accepted watch_listed as_run run_call records_fit
  accepted_plain e f g h =
      let same = ap (run_outcome p st recs out) (lent_plain p st recs l out room h e) in
      rw (e, f, g) (record {
        answers = ap Ok (sym (ap (λ (o : RunOutcome). o.answer) same));
        states = sym (ap (λ (o : RunOutcome). o.state) same);
        outputs = sym (ap (λ (o : RunOutcome). o.output) same);
      })

  pub as_plain : list_wrong l ≡ false → list_fault p l ≡ None → RightRoom recs l room → Plainly Call Run
  as_plain f g h = go (program_verdict p) refl
    where
      go : (v : Verdict) → program_verdict p ≡ v → Plainly Call Run
      go (Err r) e = refused_plain r e
      go (Ok _) e = accepted_plain e f g h

  -- 17 exactly when the program is accepted and the list has not 1 to 8 entries; 18 then, at the first entry that is off. All lent memory is as before.
  pub length_refused : program_verdict p ≡ Ok tt → list_wrong l ≡ true → Call ≡ off_list (Err ListLength) st out room
  unfolding watch_call watch_judged watch_accepted
  length_refused e f = rw (e, f)

  pub entry_refused : program_verdict p ≡ Ok tt → list_wrong l ≡ false → {j : ℕ} → list_fault p l ≡ Some j → Call ≡ off_list (Err (ListEntry j)) st out room
  unfolding watch_call watch_judged watch_accepted watch_listed
  entry_refused e f g = rw (e, f, g)
