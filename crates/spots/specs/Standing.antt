-- Where a position stands in a text, for people: its line, and the position at which that line begins. Assumes nothing: these are definitions.
use Rattle.std.specs.Prelude.{ℕ, zero, suc, ◌+◌, Bool, true, false, eqb, ltb, if◌then◌else◌}
use Rattle.rules.specs.Bytes.{Bytes, byte_at}

-- A line ends with a line feed, or with a carriage return that no line feed follows.
unfoldable pub ends_line : ℕ → ℕ → Bool
ends_line byte next = if eqb byte 10 then true else (if eqb byte 13 then (if eqb next 10 then false else true) else false)

abbrev pub ends_at : Bytes → ℕ → Bool
ends_at text i = ends_line (byte_at text i) (byte_at text (i + 1))

-- How many lines end before a position.
unfoldable pub lines_before : Bytes → ℕ → ℕ
lines_before text zero = 0
lines_before text (suc i) = lines_before text i + (if ends_at text i then 1 else 0)

-- Where the line of a position begins: behind the last line end before it.
unfoldable pub line_start : Bytes → ℕ → ℕ
line_start text zero = 0
line_start text (suc i) = if ends_at text i then i + 1 else line_start text i

-- Columns count characters: a byte from 128 to 191 goes on with one.
unfoldable pub begins_one : ℕ → ℕ
begins_one byte = if ltb byte 128 then 1 else (if ltb 191 byte then 1 else 0)
