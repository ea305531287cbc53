-- The words of the text form: one for each kind, for types and for constants; and what may be a name.
-- Assumes nothing: these are definitions.
use Rattle.std.specs.Prelude.{ℕ, [], ◌∷◌, Bool, true, false, not, length, eqb, leb, if◌then◌else◌, Option, Some, None}
use Rattle.rules.specs.Bytes.{Bytes, first, ◌and◌, ◌or◌}
use Rattle.rules.specs.Shape.{may_be}
use Rattle.rules.specs.declared.Field.{Field}
use Rattle.texts.specs.Spelled.{spelled, same}

abbrev pub open₀ : Bytes
open₀ = 40 ∷ []

abbrev pub close₀ : Bytes
close₀ = 41 ∷ []

-- "The first word of a text is its edition": byte 3 of its blocks is 0 for edition one and 1 for edition two.
unfoldable pub edition_word : ℕ → Bytes
edition_word e = if eqb e 0 then spelled "edition-one" else if eqb e 1 then spelled "edition-two" else []

-- The edition that a word stands for.
unfoldable pub edition_named : Bytes → Option ℕ
edition_named w = first (λ e. same w (edition_word e)) 2

-- One word per kind. (A variable, 16, is written as its name and a constant, 17, as its value; kinds that the paper does not have, too, have
-- no word.)
unfoldable pub kind_word : ℕ → Bytes
kind_word k =
    if eqb k 1 then spelled "input"
    else if eqb k 2 then spelled "time"
    else if eqb k 3 then spelled "ext"
    else if eqb k 4 then spelled "delay"
    else if eqb k 5 then spelled "let"
    else if eqb k 6 then spelled "switch"
    else if eqb k 7 then spelled "group"
    else if eqb k 8 then spelled "until"
    else if eqb k 9 then spelled "branch"
    else if eqb k 10 then spelled "case"
    else if eqb k 18 then spelled "add"
    else if eqb k 19 then spelled "subtract"
    else if eqb k 20 then spelled "multiply"
    else if eqb k 21 then spelled "divide"
    else if eqb k 22 then spelled "less"
    else if eqb k 23 then spelled "equal"
    else if eqb k 24 then spelled "not"
    else if eqb k 25 then spelled "and"
    else if eqb k 26 then spelled "or"
    else if eqb k 27 then spelled "if"
    else if eqb k 28 then spelled "just"
    else if eqb k 29 then spelled "take"
    else []

-- The kind that a word stands for, where a field asks for a signal, an expression, a branch or a case.
unfoldable pub kind_named : Field → Bytes → Option ℕ
kind_named f w = first (λ k. may_be f k and same w (kind_word k)) 30

-- Types.
unfoldable pub type_word : ℕ → Bytes
type_word t =
    if eqb t 1 then spelled "unit"
    else if eqb t 2 then spelled "bool"
    else if eqb t 3 then spelled "int"
    else if eqb t 5 then spelled "maybe-unit"
    else if eqb t 6 then spelled "maybe-bool"
    else if eqb t 7 then spelled "maybe-int"
    else []

-- The type, plain where so named, that a word stands for.
unfoldable pub type_named : (ℕ → Bool) → Bytes → Option ℕ
type_named allowed w = first (λ t. allowed t and same w (type_word t)) 8

-- Constants that are words; and what is put before a maybe value.
abbrev pub true_word : Bytes
true_word = spelled "true"

abbrev pub false_word : Bytes
false_word = spelled "false"

abbrev pub unit_word : Bytes
unit_word = spelled "unit"

abbrev pub some_word : Bytes
some_word = spelled "some"

abbrev pub none_word : Bytes
none_word = spelled "none"

-- A word of the text form is no name.
unfoldable pub is_kept : Bytes → Bool
is_kept w =
    elim (first (λ k. same w (kind_word k)) 30) [
      | Some k ↦ true
      | None ↦
          elim (first (λ t. same w (type_word t)) 8) [
            | Some t ↦ true
            | None ↦ same w true_word or same w false_word or same w some_word or same w none_word or same w (edition_word 0) or same w (edition_word 1)
          ]
    ]

-- A name: a letter, then letters, digits and hyphens; at most 31 bytes; no word of the text form.
unfoldable pub is_digit : ℕ → Bool
is_digit b = leb 48 b and leb b 57

unfoldable pub is_letter : ℕ → Bool
is_letter b = leb 97 b and leb b 122 or leb 65 b and leb b 90

unfoldable pub are_name_bytes : Bytes → Bool
are_name_bytes [] = true
are_name_bytes (b ∷ bs) = (is_letter b or is_digit b or eqb b 45) and are_name_bytes bs

unfoldable pub is_name : Bytes → Bool
is_name [] = false
is_name (b ∷ bs) = is_letter b and are_name_bytes bs and leb (length (b ∷ bs)) 31 and not (is_kept (b ∷ bs))
