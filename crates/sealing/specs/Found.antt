-- What a name in the scratch is for, and the records of the rows.
-- Assumes nothing: these are definitions.
use Rattle.std.specs.Prelude.{ℕ, zero, suc, ◌+◌, ◌%◌, List, map, true, false, eqb}
use Rattle.rules.specs.Bytes.{Bytes}
use Rattle.rules.specs.declared.Node.{Node}
use Rattle.texts.specs.Spelled.{same}
use Rattle.texts.specs.Resolved.{record_of}
use Rattle.sealing.specs.Scratch.{count_in, column_of, name_in, rows_in}

-- The number of the first of so many rows, from row j on, whose name at column k is a word; 0 if there is none.
unfoldable pub found_from : Bytes → Bytes → List ℕ → ℕ → ℕ → ℕ → ℕ
found_from w text s k zero j = 0
found_from w text s k (suc n) j = elim (same w (name_in text s j k)) [ true ↦ j | false ↦ found_from w text s k n (j + 1) ]

unfoldable pub found_in : Bytes → Bytes → List ℕ → ℕ → ℕ
found_in w text s k = found_from w text s k (count_in s) 0

-- The node that a row's name is for, if the row is of a kind; else a number.
unfoldable pub settled_in : Bytes → List ℕ → ℕ → ℕ → ℕ → ℕ → ℕ
settled_in text s j kind k number = elim (eqb (column_of s j 0 % 256) kind) [ true ↦ found_in (name_in text s j 10) text s k | false ↦ number ]

-- The records of all rows.
unfoldable pub records_in : Bytes → List ℕ → List Node
records_in text s = map (record_of (rows_in text s)) (rows_in text s)
