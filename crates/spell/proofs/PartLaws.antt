-- The library's tests of whole words are the definitions'.
-- Assumes nothing.
use mathlib.Core.Path.{◌≡◌, refl, ap}
use mathlib.Core.Bool.{Bool, true, false}
use mathlib.Core.List.{[], ◌∷◌}
use lib.Dec.{eqb}
use lib.Pointwise.{pointwise}
use Rattle.std.specs.List.{list_all}
use Rattle.rules.specs.Bytes.{Bytes, ◌and◌, ◌or◌}
use Rattle.texts.specs.Spelled.{same}
use Rattle.texts.specs.Spelling.{is_digit, is_letter, are_name_bytes}
use Rattle.texts.specs.Numerals.{are_digits}
use Rattle.spell.specs.Vocabulary.{is_name_byte}

pub and_false : (x : Bool) → (x and false) ≡ false
unfolding ◌and◌
and_false true = refl
and_false false = refl

pub same_pointwise : (v w : Bytes) → pointwise eqb v w ≡ same v w
unfolding same ◌and◌
same_pointwise [] [] = refl
same_pointwise [] (y ∷ ys) = refl
same_pointwise (x ∷ xs) [] = refl
same_pointwise (x ∷ xs) (y ∷ ys) = ap (λ (b : Bool). eqb x y and b) (same_pointwise xs ys)

pub digits_all : (w : Bytes) → are_digits w ≡ list_all is_digit w
unfolding are_digits ◌and◌
digits_all [] = refl
digits_all (b ∷ w) = ap (λ (x : Bool). is_digit b and x) (digits_all w)

pub names_all : (w : Bytes) → are_name_bytes w ≡ list_all is_name_byte w
unfolding are_name_bytes ◌and◌ is_name_byte
names_all [] = refl
names_all (b ∷ w) = ap (λ (x : Bool). (is_letter b or is_digit b or eqb b 45) and x) (names_all w)
