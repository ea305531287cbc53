-- The two calls: from the bytes that they are lent to the answer and the bytes after.
-- Assumes nothing: these are definitions.
use Rattle.rules.specs.Verdicts.{Verdict}
use Rattle.std.specs.Prelude.{ℕ, min, true, false, length, ltb, Result, Ok, Err}
use Rattle.rules.specs.Bytes.{Bytes, write_at}
use Rattle.rules.specs.Layout.{nodes}
use Rattle.rules.specs.Calls.{program_verdict}
use Rattle.texts.specs.Rows.{Got, got, stopped}
use Rattle.texts.specs.Reader.{read_text}
use Rattle.texts.specs.Resolved.{blocks_of}
use Rattle.texts.specs.Printer.{print_text}
use Rattle.texts.specs.declared.Unread.{Unread}
use Rattle.texts.specs.declared.Unread.TheVariants.{Word, Name, Range}
use Rattle.written.specs.declared.TableSize.{TableSize}
use Rattle.texts.specs.declared.NoTable.{NoTable}
use Rattle.texts.specs.declared.NoTable.TheVariants.{BadWord, BadName, BadNumber}
use Rattle.texts.specs.declared.NoText.{NoText}

-- What reading answers, and the room after it. "Nothing is written" where it refuses; where it does not, the result stands at the room's front
-- and the rest of the room is left.
pub record ReadOutcome : Type 0 where
  pub answer : Result TableSize NoTable
  pub room : Bytes

-- "Text that is no program gets a position": a 32-bit number. (In a text of more than 4 GiB a later position is given as the last one.)
abbrev pub last_position : ℕ
last_position = 4294967295

unfoldable pub unread_answer : Unread → Result TableSize NoTable
unread_answer (Word at) = Err (BadWord (min at last_position))
unread_answer (Name at) = Err (BadName (min at last_position))
unread_answer (Range at) = Err (BadNumber (min at last_position))

-- "The rest goes to the check."
unfoldable pub read_checked : Verdict → Bytes → Bytes → ReadOutcome
read_checked (Ok tt) result room = record { answer = Ok (record { nodes = nodes result; bytes = length result }); room = write_at room 0 result }
read_checked (Err r) result room = record { answer = Err (NoTable.Refused r); room = room }

-- "Then 24 exactly if the result is longer than the lent room."
unfoldable pub read_fitted : Bytes → Bytes → ReadOutcome
read_fitted result room =
    elim (ltb (length room) (length result)) [
      | true ↦ record { answer = Err NoTable.RoomShort; room = room }
      | false ↦ read_checked (program_verdict result) result room
    ]

-- 21, 22 and 23 in text order, then 24, then 01's codes.
unfoldable pub read_outcome : Got ℕ → Bytes → ReadOutcome
read_outcome (stopped why) room = record { answer = unread_answer why; room = room }
read_outcome (got edition rest so) room = read_fitted (blocks_of edition so.rows) room

unfoldable pub read_call : Bytes → Bytes → ReadOutcome
read_call text room = read_outcome (read_text text) room

-- What printing answers, and the room after it.
pub record PrintOutcome : Type 0 where
  pub answer : Result ℕ NoText
  pub room : Bytes

unfoldable pub print_fitted : Bytes → Bytes → PrintOutcome
print_fitted text room =
    elim (ltb (length room) (length text)) [
      | true ↦ record { answer = Err NoText.RoomShort; room = room }
      | false ↦ record { answer = Ok (length text); room = write_at room 0 text }
    ]

-- "The printer refuses by 01's codes 1-8, then 24."
unfoldable pub print_outcome : Verdict → Bytes → Bytes → PrintOutcome
print_outcome (Err r) p room = record { answer = Err (NoText.Refused r); room = room }
print_outcome (Ok tt) p room = print_fitted (print_text p) room

unfoldable pub print_call : Bytes → Bytes → PrintOutcome
print_call p room = print_outcome (program_verdict p) p room
