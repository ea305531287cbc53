-- The words of the text form in one list, and what a number in a text comes to.
-- Assumes nothing: these are definitions.
use Rattle.std.specs.Prelude.{ℕ, ◌-◌, ◌%◌, ◌≤◌, ◌∷◌, Bool, eqb, ltb, leb, length, if◌then◌else◌, Result, Ok, Err}
use Rattle.rules.specs.Bytes.{Bytes, ◌or◌}
use Rattle.rules.specs.Values.{is_plain, is_type}
use Rattle.texts.specs.Spelling.{kind_word, type_word, true_word, false_word, some_word, none_word, edition_word, is_letter, is_digit}
use Rattle.texts.specs.Numerals.{is_natural, read_on, is_number, in_range, word_of}
use Rattle.spell.specs.declared.NumberFault.{NumberFault}
use Rattle.spell.specs.declared.NumberFault.TheVariants.{Outside, Other}

-- The kinds' words, by kind; the types', by type and 30; the other kept words.
unfoldable pub listed : ℕ → Bytes
listed j =
    if ltb j 30 then kind_word j
    else if ltb j 38 then type_word (j - 30)
    else if eqb j 38 then true_word
    else if eqb j 39 then false_word
    else if eqb j 40 then some_word
    else if eqb j 41 then none_word
    else edition_word (j - 42)

-- A word with its length in front.
unfoldable pub counted : Bytes → Bytes
counted w = length w ∷ w

-- A part of a text: from a position up to another, both within it.
abbrev pub IsPart : Bytes → ℕ → ℕ → Type 0
IsPart text start end = (start ≤ end) × (end ≤ length text)

-- The types that may stand where a plain one is asked for, or any.
unfoldable pub allowed : Bool → ℕ → Bool
allowed plain t = if plain then is_plain t else is_type t

-- A size; one more than the largest of a number of 32 bits where it is larger.
unfoldable pub capped : ℕ → ℕ
capped n = if leb n 2147483648 then n else 2147483649

-- A number of a sign and a size: in two's complement, if it is in the range of 32 bits.
unfoldable pub number_of : Bool → ℕ → Result ℕ NumberFault
number_of negative n =
    if leb n (if negative then 2147483648 else 2147483647)
    then Ok (if negative then (4294967296 - n) % 4294967296 else n)
    else Err Outside

-- Digits, behind a minus sign or without, as a number.
unfoldable pub digits_in : Bool → Bytes → Result ℕ NumberFault
digits_in negative w = if is_natural w then number_of negative (read_on 0 w) else Err Other

-- A word as a number: inside the range of 32 bits, outside of it, or no number.
unfoldable pub number_in : Bytes → Result ℕ NumberFault
number_in w = if is_number w then if in_range w then Ok (word_of w) else Err Outside else Err Other

-- A letter, a digit or a hyphen.
unfoldable pub is_name_byte : ℕ → Bool
is_name_byte b = is_letter b or is_digit b or eqb b 45
