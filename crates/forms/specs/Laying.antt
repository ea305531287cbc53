-- The pieces of a node in the parts in which the code puts them.
-- Assumes nothing: these are definitions.
use Rattle.std.specs.Prelude.{ℕ, ◌%◌, ◌≤◌, ◌≡◌, length, List, [], ◌∷◌, ◌++◌, Bool, true, false, not, eqb, if◌then◌else◌}
use Rattle.rules.specs.Bytes.{Bytes, ◌and◌}
use Rattle.rules.specs.Layout.{no_next}
use Rattle.rules.specs.Kinds.{fields_of}
use Rattle.rules.specs.Shape.{is_child, may_stop}
use Rattle.rules.specs.declared.Field.{Field}
use Rattle.rules.specs.declared.TypeField.{TypeField}
use Rattle.rules.specs.declared.TypeField.TheVariants.{NoType, AnyType, PlainType, ValueType}
use Rattle.texts.specs.Spelling.{kind_word}
use Rattle.texts.specs.Numerals.{decimal}
use Rattle.texts.specs.Printer.{Piece, Pieces, spaced, tight, opening, label_pieces, type_pieces, branch_name}

-- Blocks, at most 24 of them.
pub record Blocks (q : Bytes) : Type 0 where
  pub whole : length q % 512 ≡ 0
  pub few : length q ≤ 12288

-- A child that stands inside the parentheses; a next, which stands behind them.
unfoldable pub is_inside : Field → Bool
is_inside f = is_child f and not (may_stop f)

unfoldable pub child_pieces : Pieces → Field → ℕ → List Piece
child_pieces kid f x = if is_inside f then kid f x else []

unfoldable pub goes_on : Field → ℕ → Bool
goes_on f x = may_stop f and not (eqb x no_next)

-- An input's channel, and a case's target.
unfoldable pub channel_pieces : ℕ → ℕ → List Piece
channel_pieces k x = if eqb k 1 then spaced (decimal x) ∷ [] else []

unfoldable pub target_pieces : ℕ → ℕ → List Piece
target_pieces k x = if eqb k 10 then spaced (branch_name x) ∷ [] else []

-- A type that a variable is bound with, and one that a value has.
unfoldable pub is_binding : TypeField → Bool
is_binding NoType = false
is_binding AnyType = true
is_binding PlainType = true
is_binding ValueType = false

unfoldable pub is_valued : TypeField → Bool
is_valued NoType = false
is_valued AnyType = false
is_valued PlainType = false
is_valued ValueType = true

-- What stands before a form's children: its parenthesis, its kind's word, names, type, value and channel.
unfoldable pub head_pieces : Field → Bool → ℕ → ℕ → ℕ → ℕ → ℕ → ℕ → ℕ → List Piece
head_pieces f isFirst depth k n t present w a =
    opening f isFirst k depth ∷ tight (kind_word k) ∷ (label_pieces k n ++ (type_pieces (fields_of k).ty n t present w ++ channel_pieces k a))
