-- The call: from the program, the state and the lent list's room to the answer and both after.
-- Assumes nothing: these are definitions.
use Rattle.std.specs.Prelude.{ℕ, suc, not, List, [], ◌∷◌, eqb, length, if◌then◌else◌, Result, Ok, Err}
use Rattle.rules.specs.Verdicts.{Verdict}
use Rattle.rules.specs.Bytes.{Bytes, write_at}
use Rattle.rules.specs.Layout.{cells}
use Rattle.rules.specs.WellFormed.{long_as_cells, knows_program}
use Rattle.rules.specs.Answers.{code_of, place_of}
use Rattle.rules.specs.Calls.{◌otherwise◌, refuse_if, program_verdict}
use Rattle.rules.specs.declared.Refusal.TheVariants.{StateFault, OtherProgram}
use Rattle.mends.specs.declared.Unmended.{Unmended}
use Rattle.mends.specs.declared.Unmended.TheVariants.{ListLength}
use Rattle.mends.specs.Mend.{mended}
use Rattle.mends.specs.Changes.{changes}

-- What the call answers, and the state and the list's entries after it.
pub record MendOutcome : Type 0 where
  pub answer : Result ℕ Unmended
  pub state : Bytes
  pub list : List ℕ

-- A state of the right length and sum: "then 16 if the list's room is not exactly cells + 1 entries". "The answer says how many entries were
-- listed; the room after them is left."
unfoldable pub mend_known : Bytes → Bytes → List ℕ → MendOutcome
mend_known p st room =
    if eqb (length room) (suc (cells p)) then
    record {
      answer = Ok (length (changes p st (mended p st)));
      state = mended p st;
      list = write_at room 0 (changes p st (mended p st));
    }
    else record { answer = Err ListLength; state = st; list = room }

-- "9 for a wrong length, 15 for a wrong sum."
unfoldable pub known_verdict : Bytes → Bytes → Verdict
known_verdict p st =
    refuse_if (not (long_as_cells p st)) StateFault
    otherwise refuse_if (not (knows_program p st)) OtherProgram

-- A refusal leaves both as before.
unfoldable pub mend_outcome : Bytes → Bytes → List ℕ → Verdict → MendOutcome
mend_outcome p st room (Err r) = record { answer = Err (Unmended.Refused r); state = st; list = room }
mend_outcome p st room (Ok tt) = mend_known p st room

-- "Refusals: 1-8" first.
unfoldable pub mend_call : Bytes → Bytes → List ℕ → MendOutcome
mend_call p st room = mend_outcome p st room (program_verdict p otherwise known_verdict p st)

-- The answer as the paper's numbers: 0 and the entries listed; a code, its place and 0.
abbrev pub mended_numbers : Result ℕ Unmended → List ℕ
mended_numbers (Ok count) = 0 ∷ count ∷ []
mended_numbers (Err (Unmended.Refused r)) = code_of r ∷ place_of r ∷ 0 ∷ []
mended_numbers (Err ListLength) = 16 ∷ 0 ∷ 0 ∷ []
