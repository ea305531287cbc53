-- The refusals, as the paragraph names them, for each of the two calls; and that one answer and one content of the room is left for each input.
-- Assumes nothing: these are definitions.
use Rattle.rules.specs.Verdicts.{accepted_with}
use Rattle.std.specs.Prelude.{ℕ, ◌≤◌, ◌<◌, ◌≡◌, List, length, Ok, Err}
use Rattle.rules.specs.Bytes.{Bytes, write_at}
use Rattle.rules.specs.Calls.{check_call}
use Rattle.rules.specs.declared.Refusal.{Refusal}
use Rattle.texts.specs.Tokens.{Token}
use Rattle.texts.specs.Rows.{Sofar, got, stopped}
use Rattle.texts.specs.Resolved.{blocks_of}
use Rattle.texts.specs.Reader.{read_text}
use Rattle.texts.specs.Printer.{print_text, longest_text}
use Rattle.texts.specs.Calls.{ReadOutcome, PrintOutcome, unread_answer, read_call, print_call}
use Rattle.texts.specs.declared.Unread.{Unread}
use Rattle.texts.specs.declared.NoTable.{NoTable}
use Rattle.texts.specs.declared.NoText.{NoText}

-- "Text codes 21, 22, 23, in text order, then 24 exactly if the result is longer than the lent room, all before 01's codes; nothing is written."
pub record ReadAsAsked (text room : Bytes) : Type 0 where
  pub not_read : (why : Unread) → read_text text ≡ stopped why → read_call text room ≡ record { answer = unread_answer why; room = room }
  pub too_long : (e : ℕ) (rest : List Token) (so : Sofar) → read_text text ≡ got e rest so → length room < length (blocks_of e so.rows)
      → read_call text room ≡ record { answer = Err NoTable.RoomShort; room = room }
  pub refused : (e : ℕ) (rest : List Token) (so : Sofar) (r : Refusal) → read_text text ≡ got e rest so → length (blocks_of e so.rows) ≤ length room
      → check_call (blocks_of e so.rows) ≡ Err r → read_call text room ≡ record { answer = Err (NoTable.Refused r); room = room }
  pub read : (e : ℕ) (rest : List Token) (so : Sofar) (n cells bound type : ℕ) → read_text text ≡ got e rest so → length (blocks_of e so.rows) ≤ length room
      → check_call (blocks_of e so.rows) ≡ accepted_with n cells bound type
      → read_call text room ≡ record { answer = Ok (record { nodes = n; bytes = length (blocks_of e so.rows) }); room = write_at room 0 (blocks_of e so.rows) }

-- "The printer refuses by 01's codes 1-8, then 24."
pub record PrintAsAsked (p room : Bytes) : Type 0 where
  pub refused : (r : Refusal) → check_call p ≡ Err r → print_call p room ≡ record { answer = Err (NoText.Refused r); room = room }
  pub too_long : (n cells bound type : ℕ) → check_call p ≡ accepted_with n cells bound type → length room < length (print_text p)
      → print_call p room ≡ record { answer = Err NoText.RoomShort; room = room }
  pub printed : (n cells bound type : ℕ) → check_call p ≡ accepted_with n cells bound type → length (print_text p) ≤ length room
      → print_call p room ≡ record { answer = Ok (length (print_text p)); room = write_at room 0 (print_text p) }

-- A room of 107,868 bytes is long enough for every program's text.
abbrev pub AlwaysFits : Bytes → Bytes → Type 0
AlwaysFits p room = longest_text ≤ length room → (print_call p room).answer ≡ Err NoText.RoomShort → ⊥

-- Calls that keep the promise.
pub record Reading (f : Bytes → Bytes → ReadOutcome) : Type 0 where
  pub as_ruled : (text room : Bytes) → f text room ≡ read_call text room

pub record Printing (f : Bytes → Bytes → PrintOutcome) : Type 0 where
  pub as_ruled : (p room : Bytes) → f p room ≡ print_call p room
