-- The calls of request m: from the program and the lent room to the answer and the room after.
-- Assumes nothing: these are definitions.
use Rattle.std.specs.Prelude.{ℕ, List, [], ◌∷◌, ltb, length, if◌then◌else◌, Result, Ok, Err}
use Rattle.rules.specs.Verdicts.{Verdict}
use Rattle.rules.specs.Bytes.{Bytes, write_at}
use Rattle.rules.specs.Layout.{nodes}
use Rattle.rules.specs.Answers.{code_of, place_of}
use Rattle.rules.specs.Calls.{program_verdict}
use Rattle.written.specs.declared.TableSize.{TableSize}
use Rattle.rewritten.specs.declared.Untidied.{Untidied}
use Rattle.rewritten.specs.declared.Untidied.TheVariants.{RoomShort}
use Rattle.rewritten.specs.Rewritten.{tidied, tidying}

-- What a call answers, and the room after it.
pub record TidyOutcome : Type 0 where
  pub answer : Result TableSize Untidied
  pub room : List ℕ

-- "Then 19 if the new room is shorter than the old program", or else a result that "fills its first blocks and the rest is left". A refusal
-- leaves the room as before.
unfoldable pub lent_for : Bytes → ℕ → List ℕ → List ℕ → TidyOutcome
lent_for p least room result =
    if ltb (length room) least then record { answer = Err RoomShort; room = room }
    else record { answer = Ok (record { nodes = nodes (tidied p); bytes = length (tidied p) }); room = write_at room 0 result }

-- "Refusals: 1-8."
unfoldable pub after_verdict : Verdict → List ℕ → TidyOutcome → TidyOutcome
after_verdict (Ok tt) room made = made
after_verdict (Err r) room made = record { answer = Err (Untidied.Refused r); room = room }

-- The tidied program.
unfoldable pub tidy_call : Bytes → Bytes → TidyOutcome
tidy_call p room = after_verdict (program_verdict p) room (lent_for p (length p) room (tidied p))

-- The pairing in which it was numbered: for each new node its old one, in a room with an entry for each old node, or more.
unfoldable pub tidying_call : Bytes → List ℕ → TidyOutcome
tidying_call p room = after_verdict (program_verdict p) room (lent_for p (nodes p) room (tidying p))

-- The answer as the paper's numbers: 0, nodes and length in bytes; a code, its place and 0.
abbrev pub tidied_numbers : Result TableSize Untidied → List ℕ
tidied_numbers (Ok size) = 0 ∷ size.nodes ∷ size.bytes ∷ []
tidied_numbers (Err (Untidied.Refused r)) = code_of r ∷ place_of r ∷ 0 ∷ []
tidied_numbers (Err RoomShort) = 19 ∷ 0 ∷ 0 ∷ []
