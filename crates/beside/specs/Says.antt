-- What request l says of a watched run, of what it is lent and of what it answers and leaves.
-- Assumes nothing: these are definitions.
use Rattle.std.specs.Prelude.{◌≡◌, true, false, ℕ, ◌/◌, length, Ok, Err, None, Some}
use Rattle.rules.specs.Verdicts.{refused_after}
use Rattle.rules.specs.Bytes.{Bytes, write_at}
use Rattle.rules.specs.Layout.{input_length}
use Rattle.rules.specs.Calls.{no_step, program_verdict, run_call}
use Rattle.rules.specs.declared.Refusal.{Refusal}
use Rattle.watched.specs.declared.ListFault.TheVariants.{ListLength, ListEntry}
use Rattle.watched.specs.Watch.{List16, list_wrong, list_fault, watch_lent, WatchOutcome, off_list}
use Rattle.beside.specs.Seen.{Plainly}
use Rattle.beside.specs.Rows.{rows}

pub record Says (p st recs : Bytes) (l : List16) (out room : Bytes) (o : WatchOutcome) : Type 0 where
  -- A program that the check refuses, whatever the list: all lent memory is as before.
  pub refused : (r : Refusal) → program_verdict p ≡ Err r → o ≡ off_list (Ok (refused_after r 0 no_step)) st out room
  -- "Refusals: 17 if the list has not 1 to 8 entries", after 8 and before 9.
  pub list_length : program_verdict p ≡ Ok tt → list_wrong l ≡ true → o ≡ off_list (Err ListLength) st out room
  -- "Then 18, with the entry's place, for the first that is no signal node or not above the one before."
  pub list_entry : program_verdict p ≡ Ok tt → list_wrong l ≡ false → (j : ℕ) → list_fault p l ≡ Some j → o ≡ off_list (Err (ListEntry j)) st out room
  -- 9, 15, 10, and "11 also for the second room's length".
  pub lent : program_verdict p ≡ Ok tt → list_wrong l ≡ false → list_fault p l ≡ None → (r : Refusal) → watch_lent p st recs l out room ≡ Err r
      → o ≡ off_list (Ok (refused_after r 0 no_step)) st out room
  -- "Outputs, state, work, marks and answers are those of the plain run."
  pub plain : program_verdict p ≡ Ok tt → list_wrong l ≡ false → list_fault p l ≡ None → watch_lent p st recs l out room ≡ Ok tt
      → Plainly o (run_call p st recs out)
  -- "For each step it writes, in list order, the value that the node gave while the root was evaluated", and "a refused watched run keeps the entries
  -- of its finished steps": their rows from the room's start on, and the rest of it as before.
  pub in_rows : program_verdict p ≡ Ok tt → list_wrong l ≡ false → list_fault p l ≡ None → watch_lent p st recs l out room ≡ Ok tt
      → o.room ≡ write_at room 0 (rows p recs l (length recs / input_length) 0 st)
