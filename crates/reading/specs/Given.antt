-- What the parts of the call have found: the rows of a text that is read, in the scratch; and its blocks, at a room's front.
-- Assumes nothing: these are definitions.
use Rattle.std.specs.Prelude.{ℕ, ◌≤◌, ◌<◌, ◌≡◌, List, length, get_or, Result, Ok, Err}
use Rattle.rules.specs.Bytes.{Bytes, write_at}
use Rattle.texts.specs.Tokens.{Token}
use Rattle.texts.specs.Rows.{Sofar, got, stopped}
use Rattle.texts.specs.Reader.{read_text}
use Rattle.texts.specs.Resolved.{blocks_of}
use Rattle.texts.specs.declared.Unread.{Unread}
use Rattle.phrases.specs.declared.Read.{Read}
use Rattle.sealing.specs.Scratch.{count_in, rows_in, starts_in}

-- A scratch that holds nothing yet.
pub record Fresh (s : List ℕ) : Type 0 where
  pub long : length s ≡ 13118
  pub begun : get_or s 0 0 ≡ 0
  pub ended : get_or s 1 0 ≡ 0

-- A text that is read, in an edition, and its rows.
pub record Rowed (text : Bytes) (s : List ℕ) (e : ℕ) : Type 0 where
  pub rest : List Token
  pub so : Sofar
  pub is_read : read_text text ≡ got e rest so
  pub rows : so.rows ≡ rows_in text s
  pub places : so.places ≡ starts_in s
  pub few : count_in s ≤ 1008
  pub edition : e < 256

abbrev pub RowsOf : Bytes → List ℕ → Result (Read ℕ) Unread → Type 0
RowsOf text s (Ok r) = Rowed text s r.value
RowsOf text s (Err why) = read_text text ≡ stopped why

-- A text that is read, and its blocks.
pub record Built (text before after : Bytes) (n : ℕ) : Type 0 where
  pub edition : ℕ
  pub rest : List Token
  pub so : Sofar
  pub is_read : read_text text ≡ got edition rest so
  pub long : n ≡ length (blocks_of edition so.rows)
  pub stands : after ≡ write_at before 0 (blocks_of edition so.rows)
  pub fits : n ≤ 12288

abbrev pub BlocksOf : Bytes → Bytes → Bytes → Result ℕ Unread → Type 0
BlocksOf text before after (Ok n) = Built text before after n
BlocksOf text before after (Err why) = read_text text ≡ stopped why
