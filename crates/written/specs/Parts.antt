-- A tree of records: what every kind has in common. A field holds a number or a child.
-- Assumes nothing: these are definitions.
use Rattle.std.specs.Prelude.{ℕ, suc, ◌+◌, List, [], ◌∷◌, ◌++◌}
use Rattle.rules.specs.declared.Node.{Node}

mutual
  pub data Part : Type 0 where
    part : (kind type word : ℕ) (a b c : Slot) → Part

  pub data Slot : Type 0 where
    holds : (x : ℕ) → Slot
    child : (p : Part) → Slot

-- How many records it takes.
unfoldable mutual
  pub size_p : Part → ℕ
  size_p (part k t w a b c) = suc (size_k a + size_k b + size_k c)

  pub size_k : Slot → ℕ
  size_k (holds x) = 0
  size_k (child p) = size_p p

-- The number of its own record, where its records begin with number lo: children stand before it.
unfoldable pub last_p : ℕ → Part → ℕ
last_p lo (part k t w a b c) = lo + (size_k a + size_k b + size_k c)

-- What stands in a field.
unfoldable pub field_k : ℕ → Slot → ℕ
field_k lo (holds x) = x
field_k lo (child p) = last_p lo p

-- Its own record.
unfoldable pub row_p : ℕ → Part → Node
row_p lo (part k t w a b c) =
    record { kind = k; ty = t; a = field_k lo a; b = field_k (lo + size_k a) b; c = field_k (lo + size_k a + size_k b) c; word = w }

-- All its records, children first in field order.
unfoldable mutual
  pub rows_p : Part → ℕ → List Node
  rows_p (part k t w a b c) lo =
      rows_k a lo ++ (rows_k b (lo + size_k a) ++ (rows_k c (lo + size_k a + size_k b) ++ (row_p lo (part k t w a b c) ∷ [])))

  pub rows_k : Slot → ℕ → List Node
  rows_k (holds x) lo = []
  rows_k (child p) lo = rows_p p lo
