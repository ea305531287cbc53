-- The reader's steps: a word that must stand there, a name bound or used, a type, a number, a value. Each stops at the first word that does not
-- fit, with its position; where the text has ended, with the text's length.
-- Assumes nothing: these are definitions.
use Rattle.std.specs.Prelude.{ℕ, List, [], ◌∷◌, Bool, true, false, ltb, Some, None}
use Rattle.rules.specs.Bytes.{Bytes, ◌and◌, ◌or◌}
use Rattle.rules.specs.Values.{unit_t, bool_t, int_t, maybe_of, is_plain}
use Rattle.texts.specs.Tokens.{Token}
use Rattle.texts.specs.Spelled.{same, is_among}
use Rattle.texts.specs.Spelling.{open₀, close₀, type_named, true_word, false_word, unit_word, some_word, none_word, is_name}
use Rattle.texts.specs.Numerals.{is_number, in_range, word_of}
use Rattle.texts.specs.Rows.{Sofar, Got, got, stopped, ◌onward◌}
use Rattle.texts.specs.declared.Unread.{Unread}
use Rattle.texts.specs.declared.Unread.TheVariants.{Word, Name, Range}

-- The next word, whatever it is. (finish is the text's length.)
unfoldable pub next : ℕ → List Token → Sofar → Got Token
next finish [] so = stopped (Word finish)
next finish (t ∷ ts) so = got t ts so

-- The position of the next word.
unfoldable pub position : ℕ → List Token → ℕ
position finish [] = finish
position finish (t ∷ ts) = t.at

-- Go on if a test holds; else stop.
unfoldable pub given : Bool → Unread → List Token → Sofar → Got (Unit {0})
given true why ts so = got tt ts so
given false why ts so = stopped why

-- The next word is this one.
unfoldable pub expect : Bytes → ℕ → List Token → Sofar → Got (Unit {0})
expect w finish ts so = next finish ts so onward λ t ts so. given (same t.word w) (Word t.at) ts so

-- The next word is a name.
unfoldable pub name : ℕ → List Token → Sofar → Got Token
name finish ts so =
    next finish ts so onward λ t ts so. given (is_name t.word) (Word t.at) ts so onward λ _ ts so. got t ts so

-- "A name is bound once in a text": a variable's, and a branch's own.
unfoldable pub is_bound : Bytes → Sofar → Bool
is_bound w so = is_among w so.variables or is_among w so.labels

unfoldable pub fresh : ℕ → List Token → Sofar → Got Bytes
fresh finish ts so =
    name finish ts so onward λ t ts so.
    elim (is_bound t.word so) [ true ↦ stopped (Name t.at) | false ↦ got t.word ts so ]

unfoldable pub variable : ℕ → List Token → Sofar → Got Bytes
variable finish ts so =
    fresh finish ts so onward λ w ts so.
    got w ts (record { begun = so.begun; rows = so.rows; places = so.places; variables = w ∷ so.variables; labels = so.labels })

unfoldable pub label : ℕ → List Token → Sofar → Got Bytes
label finish ts so =
    fresh finish ts so onward λ w ts so.
    got w ts (record { begun = so.begun; rows = so.rows; places = so.places; variables = so.variables; labels = w ∷ so.labels })

-- A case's target: one of the branch names that stand anywhere in the text.
unfoldable pub target : List Bytes → ℕ → List Token → Sofar → Got Bytes
target names finish ts so =
    name finish ts so onward λ t ts so. given (is_among t.word names) (Name t.at) ts so onward λ _ ts so. got t.word ts so

-- A type.
unfoldable pub type : (ℕ → Bool) → ℕ → List Token → Sofar → Got ℕ
type allowed finish ts so =
    next finish ts so onward λ t ts so.
    elim (type_named allowed t.word) [ Some k ↦ got k ts so | None ↦ stopped (Word t.at) ]

-- A channel, 0-7.
unfoldable pub channel : ℕ → List Token → Sofar → Got ℕ
channel finish ts so =
    next finish ts so onward λ t ts so.
    given (is_number t.word) (Word t.at) ts so onward λ _ ts so.
    given (ltb (word_of t.word) 8 and in_range t.word) (Range t.at) ts so onward λ _ ts so.
    got (word_of t.word) ts so

-- A value: type, present, word.
pub record Written : Type 0 where
  pub type : ℕ
  pub present : ℕ
  pub word : ℕ

unfoldable pub plain : ℕ → ℕ → Written
plain t w = record { type = t; present = 1; word = w }

-- A plain value that is one word: an integer, a truth value, unit.
unfoldable pub is_plain_value : Bytes → Bool
is_plain_value w = is_number w or same w true_word or same w false_word or same w unit_word

unfoldable pub plain_value : Token → ℕ → List Token → Sofar → Got Written
plain_value t finish ts so =
    elim (is_number t.word) [
      | true ↦ given (in_range t.word) (Range t.at) ts so onward λ _ ts so. got (plain int_t (word_of t.word)) ts so
      | false ↦
          elim (same t.word true_word) [
            | true ↦ got (plain bool_t 1) ts so
            | false ↦
                elim (same t.word false_word) [
                  | true ↦ got (plain bool_t 0) ts so
                  | false ↦ given (same t.word unit_word) (Word t.at) ts so onward λ _ ts so. got (plain unit_t 0) ts so
                ]
          ]
    ]

-- Behind an open parenthesis: some and a plain value, or none and a plain type.
unfoldable pub maybe_value : Token → ℕ → List Token → Sofar → Got Written
maybe_value t finish ts so =
    elim (same t.word some_word) [
      | true ↦
          next finish ts so onward λ u ts so. plain_value u finish ts so onward λ v ts so. expect close₀ finish ts so onward λ _ ts so.
          got (record { type = maybe_of v.type; present = 1; word = v.word }) ts so
      | false ↦
          given (same t.word none_word) (Word t.at) ts so onward λ _ ts so.
          type is_plain finish ts so onward λ k ts so. expect close₀ finish ts so onward λ _ ts so.
          got (record { type = maybe_of k; present = 0; word = 0 }) ts so
    ]

unfoldable pub value : ℕ → List Token → Sofar → Got Written
value finish ts so =
    next finish ts so onward λ t ts so.
    elim (same t.word open₀) [
      | true ↦ next finish ts so onward λ u ts so. maybe_value u finish ts so
      | false ↦ plain_value t finish ts so
    ]
