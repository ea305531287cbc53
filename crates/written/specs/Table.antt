-- Records as blocks: 12 bytes each, 42 to a block, with number, count, edition and check; after the last record zeros.
-- Assumes nothing: these are definitions.
use Rattle.std.specs.Prelude.{ℕ, zero, suc, ◌+◌, ◌-◌, ◌/◌, List, [], ◌∷◌, ◌++◌, length, take, drop, replicate}
use Rattle.rules.specs.Bytes.{Bytes, bytes_of}
use Rattle.rules.specs.Format.{check_of}
use Rattle.rules.specs.declared.Node.{Node}
use Rattle.written.specs.Parts.{Part, size_p, rows_p}

unfoldable pub row_bytes : Node → Bytes
row_bytes n = n.kind ∷ n.ty ∷ (bytes_of 2 n.a ++ (bytes_of 2 n.b ++ (bytes_of 2 n.c ++ bytes_of 4 n.word)))

unfoldable pub rows_bytes : List Node → Bytes
rows_bytes [] = []
rows_bytes (n ∷ ns) = row_bytes n ++ rows_bytes ns

-- A block: bytes 0-1 its number, byte 2 the count of blocks, byte 3 the edition (0 for edition one), then records, zeros and the check.
unfoldable pub block_of : ℕ → ℕ → ℕ → Bytes → Bytes
block_of edition count j s =
    let b = bytes_of 2 j ++ (count ∷ edition ∷ (s ++ replicate (504 - length s) 0)) in
    b ++ bytes_of 4 (check_of b)

unfoldable pub blocks_from : ℕ → ℕ → ℕ → ℕ → Bytes → Bytes
blocks_from zero edition count j s = []
blocks_from (suc left) edition count j s = block_of edition count j (take 504 s) ++ blocks_from left edition count (suc j) (drop 504 s)

-- How many blocks so many records need.
unfoldable pub blocks_for : ℕ → ℕ
blocks_for n = (n + 41) / 42

unfoldable pub table_of : ℕ → Part → Bytes
table_of edition p = blocks_from (blocks_for (size_p p)) edition (blocks_for (size_p p)) 0 (rows_bytes (rows_p p 0))
