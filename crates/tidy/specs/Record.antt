-- The record of a node that stays, by its old record and the new numbers: children, binders and targets are renumbered, all else is as it was.
-- Assumes nothing: these are definitions.
use Rattle.std.specs.Prelude.{ℕ, zero, suc, ◌+◌, ◌<◌, List, [], ◌∷◌, ◌++◌, Bool, eqb, ltb, get_or, if◌then◌else◌}
use Rattle.rules.specs.Bytes.{Bytes, ◌and◌, ◌or◌}
use Rattle.rules.specs.Layout.{kind_at, type_at, a_at, b_at, c_at, word_at}
use Rattle.rules.specs.Kinds.{fields_of}
use Rattle.rules.specs.Shape.{is_child}
use Rattle.rules.specs.declared.Node.{Node}
use Rattle.written.specs.Table.{row_bytes}

unfoldable pub new_field : List ℕ → Bool → ℕ → ℕ
new_field new yes₀ x = if yes₀ and ltb x 1024 then get_or new x 0 else x

-- The fields that name a node: children's, a variable's binder, a case's target.
unfoldable pub moves_a : ℕ → Bool
moves_a k = is_child (fields_of k).a or eqb k 16

unfoldable pub moves_b : ℕ → Bool
moves_b k = is_child (fields_of k).b

unfoldable pub moves_c : ℕ → Bool
moves_c k = is_child (fields_of k).c or eqb k 10

unfoldable pub new_row : Bytes → List ℕ → ℕ → Node
new_row p new o = record {
  kind = kind_at p o;
  ty = type_at p o;
  a = new_field new (moves_a (kind_at p o)) (a_at p o);
  b = new_field new (moves_b (kind_at p o)) (b_at p o);
  c = new_field new (moves_c (kind_at p o)) (c_at p o);
  word = word_at p o;
}

unfoldable pub new_rows : Bytes → List ℕ → List ℕ → List Node
new_rows p new [] = []
new_rows p new (o ∷ os) = new_row p new o ∷ new_rows p new os

-- A record of zeros.
unfoldable pub zero_row : Node
zero_row = record { kind = 0; ty = 0; a = 0; b = 0; c = 0; word = 0 }

-- Record k of a list; zeros behind the last.
unfoldable pub row_from : List Node → ℕ → Node
row_from [] k = zero_row
row_from (n ∷ ns) zero = n
row_from (n ∷ ns) (suc k) = row_from ns k

-- So many records from record k on, as bytes.
unfoldable pub rows_from : ℕ → List Node → ℕ → Bytes
rows_from zero ns k = []
rows_from (suc left) ns k = row_bytes (row_from ns k) ++ rows_from left ns (suc k)

-- The first entries of a list name nodes.
pub record Inside (most count : ℕ) (order : List ℕ) : Type 0 where
  pub each : (k : ℕ) → k < count → get_or order k 0 < most
