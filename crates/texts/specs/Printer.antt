-- From a table to its text. Signals, branches and cases begin a line, two spaces further in for each that they stand in; an input, a time or an
-- ext that is its form's first child follows on the line, and so do expressions. A variable is called x and a branch k (document 000's letters), with the
-- node's number behind.
-- Assumes nothing: these are definitions.
use Rattle.std.specs.Prelude.{ℕ, zero, suc, ◌-◌, ◌*◌, min, List, [], ◌∷◌, ◌++◌, Bool, true, false, replicate, eqb, ltb}
use Rattle.rules.specs.Bytes.{Bytes, ◌and◌, ◌or◌}
use Rattle.rules.specs.Values.{bool_t, int_t, is_plain}
use Rattle.rules.specs.Layout.{edition, kind_at, type_at, a_at, b_at, c_at, word_at, nodes, no_next}
use Rattle.rules.specs.Kinds.{fields_of}
use Rattle.rules.specs.Shape.{may_be}
use Rattle.rules.specs.declared.Field.{Field}
use Rattle.rules.specs.declared.Field.TheVariants.{Unused, Channel, PresentByte, Signal, Expression, FirstBranch, NextBranch, FirstCase, NextCase, Binder, Target}
use Rattle.rules.specs.declared.TypeField.{TypeField}
use Rattle.rules.specs.declared.TypeField.TheVariants.{NoType, AnyType, PlainType, ValueType}
use Rattle.texts.specs.Spelling.{open₀, close₀, edition_word, kind_word, type_word, true_word, false_word, unit_word, some_word, none_word}
use Rattle.texts.specs.Numerals.{decimal, signed_decimal}
use Rattle.texts.specs.Numbering.{renumbered}

-- A word and the white space before it.
pub record Piece : Type 0 where
  pub before : Bytes
  pub word : Bytes

unfoldable pub tight : Bytes → Piece
tight w = record { before = []; word = w }

unfoldable pub spaced : Bytes → Piece
spaced w = record { before = 32 ∷ []; word = w }

-- On a new line, so far in. (No further than 40 levels.)
unfoldable pub lined : ℕ → Bytes → Piece
lined depth w = record { before = 10 ∷ replicate (2 * min depth 40) 32; word = w }

unfoldable pub variable_name : ℕ → Bytes
variable_name n = 120 ∷ decimal n

unfoldable pub branch_name : ℕ → Bytes
branch_name n = 107 ∷ decimal n

-- A plain value's word, and a value.
unfoldable pub plain_word : ℕ → ℕ → Bytes
plain_word t w =
    elim (eqb t int_t) [
      | true ↦ signed_decimal w
      | false ↦ elim (eqb t bool_t) [ true ↦ elim (eqb w 1) [ true ↦ true_word | false ↦ false_word ] | false ↦ unit_word ]
    ]

unfoldable pub value_pieces : ℕ → ℕ → ℕ → List Piece
value_pieces t present w =
    elim (is_plain t) [
      | true ↦ spaced (plain_word t w) ∷ []
      | false ↦
          elim (eqb present 1) [
            | true ↦ spaced open₀ ∷ tight some_word ∷ spaced (plain_word (t - 4) w) ∷ tight close₀ ∷ []
            | false ↦ spaced open₀ ∷ tight none_word ∷ spaced (type_word (t - 4)) ∷ tight close₀ ∷ []
          ]
    ]

-- What stands between a kind's word and its children.
unfoldable pub label_pieces : ℕ → ℕ → List Piece
label_pieces k n = elim (eqb k 9) [ true ↦ spaced (branch_name n) ∷ [] | false ↦ [] ]

unfoldable pub type_pieces : TypeField → ℕ → ℕ → ℕ → ℕ → List Piece
type_pieces NoType n t present w = []
type_pieces AnyType n t present w = spaced (variable_name n) ∷ spaced (type_word t) ∷ []
type_pieces PlainType n t present w = spaced (variable_name n) ∷ spaced (type_word t) ∷ []
type_pieces ValueType n t present w = value_pieces t present w

-- A field inside the parentheses, and a next behind them.
abbrev pub Pieces : Type 0
Pieces = Field → ℕ → List Piece

unfoldable pub field_pieces : Pieces → Field → ℕ → List Piece
field_pieces kid Unused x = []
field_pieces kid Channel x = spaced (decimal x) ∷ []
field_pieces kid PresentByte x = []
field_pieces kid Signal x = kid Signal x
field_pieces kid Expression x = kid Expression x
field_pieces kid FirstBranch x = kid FirstBranch x
field_pieces kid NextBranch x = []
field_pieces kid FirstCase x = kid FirstCase x
field_pieces kid NextCase x = []
field_pieces kid Binder x = []
field_pieces kid Target x = spaced (branch_name x) ∷ []

unfoldable pub behind_pieces : Pieces → Field → ℕ → List Piece
behind_pieces kid Unused x = []
behind_pieces kid Channel x = []
behind_pieces kid PresentByte x = []
behind_pieces kid Signal x = []
behind_pieces kid Expression x = []
behind_pieces kid FirstBranch x = []
behind_pieces kid NextBranch x = elim (eqb x no_next) [ true ↦ [] | false ↦ kid NextBranch x ]
behind_pieces kid FirstCase x = []
behind_pieces kid NextCase x = elim (eqb x no_next) [ true ↦ [] | false ↦ kid NextCase x ]
behind_pieces kid Binder x = []
behind_pieces kid Target x = []

-- An open parenthesis: for an expression, and for a short first child, on the same line; else on a line of its own.
unfoldable pub opening : Field → Bool → ℕ → ℕ → Piece
opening f isFirst k depth = elim (may_be f 17 or isFirst and ltb k 4) [ true ↦ spaced open₀ | false ↦ lined depth open₀ ]

unfoldable pub form_pieces : (Bool → Pieces) → Pieces → Bytes → ℕ → ℕ → List Piece
form_pieces kid sibling q k n =
    label_pieces k n
    ++ type_pieces (fields_of k).ty n (type_at q n) (b_at q n) (word_at q n)
    ++ field_pieces (kid true) (fields_of k).a (a_at q n)
    ++ field_pieces (kid false) (fields_of k).b (b_at q n)
    ++ field_pieces (kid false) (fields_of k).c (c_at q n)
    ++ tight close₀ ∷ behind_pieces sibling (fields_of k).b (b_at q n)

-- Node n, of a kind, whose children and whose next are printed by kid and sibling.
unfoldable pub pieces_as : (Bool → Pieces) → Pieces → Bytes → ℕ → Bool → Field → ℕ → ℕ → List Piece
pieces_as kid sibling q depth isFirst f k n =
    elim (eqb k 16) [
      | true ↦ spaced (variable_name (a_at q n)) ∷ []
      | false ↦
          elim (eqb k 17) [
            | true ↦ value_pieces (type_at q n) (b_at q n) (word_at q n)
            | false ↦ opening f isFirst k depth ∷ tight (kind_word k) ∷ form_pieces kid sibling q k n
          ]
    ]

-- Node n, for a field that asks for its sort, so deep, of so many levels. (Since children's numbers fall, n + 1 levels are all.)
unfoldable pub pieces_f : ℕ → Bytes → ℕ → Bool → Field → ℕ → List Piece
pieces_f zero q depth isFirst f n = []
pieces_f (suc g) q depth isFirst f n = pieces_as (pieces_f g q (suc depth)) (pieces_f g q depth false) q depth isFirst f (kind_at q n) n

unfoldable pub pieces : Bytes → List Piece
pieces q = tight (edition_word (edition q)) ∷ pieces_f (nodes q) q 0 false Signal (nodes q - 1)

-- The pieces one after the other, and a line end.
unfoldable pub laid : List Piece → Bytes
laid [] = 10 ∷ []
laid (x ∷ xs) = x.before ++ x.word ++ laid xs

unfoldable pub printed : Bytes → Bytes
printed q = laid (pieces q)

-- The text of a table: numbered children first, so that the names do not depend on how it was numbered.
unfoldable pub print_text : Bytes → Bytes
print_text p = printed (renumbered p)

-- No text of an accepted program is longer (crate retold has the theorem): a room of so many bytes always fits.
abbrev pub longest_text : ℕ
longest_text = 107868
