-- Names to numbers, and rows to blocks.
-- Assumes nothing: these are definitions.
use Rattle.std.specs.Prelude.{ℕ, ◌+◌, List, [], ◌∷◌, map, Bool, true, false, length, eqb}
use Rattle.rules.specs.Bytes.{Bytes}
use Rattle.rules.specs.declared.Node.{Node}
use Rattle.written.specs.Table.{rows_bytes, blocks_from, blocks_for}
use Rattle.texts.specs.Spelled.{same}
use Rattle.texts.specs.Rows.{Row}

-- The number of the first row, from k on, that a test picks; 0 if there is none.
unfoldable pub number_of : (Row → Bool) → ℕ → List Row → ℕ
number_of test k [] = 0
number_of test k (r ∷ rs) = elim (test r) [ true ↦ k | false ↦ number_of test (k + 1) rs ]

-- The node that binds a variable's name, and the branch of a name.
unfoldable pub binder_of : List Row → Bytes → ℕ
binder_of rows w = number_of (λ r. same w r.binds) 0 rows

unfoldable pub branch_of : List Row → Bytes → ℕ
branch_of rows w = number_of (λ r. same w r.label) 0 rows

-- A row's record: a variable's field a is its binder, a case's field c its target.
unfoldable pub record_of : List Row → Row → Node
record_of rows r =
    record {
      kind = r.kind;
      ty = r.type;
      a = elim (eqb r.kind 16) [ true ↦ binder_of rows r.uses | false ↦ r.a ];
      b = r.b;
      c = elim (eqb r.kind 10) [ true ↦ branch_of rows r.uses | false ↦ r.c ];
      word = r.word;
    }

-- The records as blocks, in an edition: 42 to a block, with number, count, edition and check; zeros behind the last.
unfoldable pub table_from : ℕ → List Node → Bytes
table_from edition records = blocks_from (blocks_for (length records)) edition (blocks_for (length records)) 0 (rows_bytes records)

unfoldable pub blocks_of : ℕ → List Row → Bytes
blocks_of edition rows = table_from edition (map (record_of rows) rows)
