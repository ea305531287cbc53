-- The reader's scratch: one list of numbers. At 0 how many nodes have begun, at 1 how many have ended; from 14 on the rows of those, 13 numbers each:
-- the record, the three names by where in the text each begins and ends, and where the node begins.
-- Assumes nothing: these are definitions.
use Rattle.std.specs.Prelude.{ℕ, zero, suc, ◌+◌, ◌*◌, ◌%◌, List, [], ◌∷◌, get_or}
use Rattle.rules.specs.Bytes.{Bytes}
use Rattle.texts.specs.Rows.{Row}
use Rattle.labels.specs.Noted.{named_by}

-- How many rows there are.
abbrev pub count_in : List ℕ → ℕ
count_in s = get_or s 1 0

-- Number k of row j.
abbrev pub column_of : List ℕ → ℕ → ℕ → ℕ
column_of s j k = get_or s (13 * j + 14 + k) 0

-- The name of row j whose beginning is number k, and whose end is the next.
unfoldable pub name_in : Bytes → List ℕ → ℕ → ℕ → Bytes
name_in text s j k = named_by text (column_of s j k) (get_or s (13 * j + 14 + k + 1) 0)

-- Row j, and where its node begins.
unfoldable pub row_in : Bytes → List ℕ → ℕ → Row
row_in text s j = record {
  kind = column_of s j 0 % 256;
  type = column_of s j 1 % 256;
  a = column_of s j 2;
  b = column_of s j 3;
  c = column_of s j 4;
  word = column_of s j 5 % 4294967296;
  binds = name_in text s j 6;
  label = name_in text s j 8;
  uses = name_in text s j 10;
}

unfoldable pub start_in : List ℕ → ℕ → ℕ
start_in s j = column_of s j 12

-- So many rows from row j on, and where they begin.
unfoldable pub rows_of : Bytes → List ℕ → ℕ → ℕ → List Row
rows_of text s zero j = []
rows_of text s (suc n) j = row_in text s j ∷ rows_of text s n (j + 1)

unfoldable pub starts_of : List ℕ → ℕ → ℕ → List ℕ
starts_of s zero j = []
starts_of s (suc n) j = start_in s j ∷ starts_of s n (j + 1)

-- All of them.
unfoldable pub rows_in : Bytes → List ℕ → List Row
rows_in text s = rows_of text s (count_in s) 0

unfoldable pub starts_in : List ℕ → List ℕ
starts_in s = starts_of s (count_in s) 0
