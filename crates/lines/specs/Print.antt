-- What watchrun prints: types, values and lines, as document 01 has them. Assumes nothing: these are definitions.
use Rattle.std.specs.Prelude.{ℕ, suc, ◌-◌, List, [], ◌∷◌, ◌++◌, eqb, ltb, ℤ, pos, negsuc, if◌then◌else◌}
use Rattle.rules.specs.Words.{signed}
use Rattle.rules.specs.Answers.{code_of, place_of}
use Rattle.rules.specs.declared.Value.{Value}
use Rattle.rules.specs.declared.Value.TheVariants.{Plain, Absent, Present}
use Rattle.rules.specs.declared.Refusal.{Refusal}
use Rattle.wire.specs.Text.{decimal, field}

-- "unit"
abbrev pub unit_word : List ℕ
unit_word = 117 ∷ 110 ∷ 105 ∷ 116 ∷ []

-- "bool"
abbrev pub bool_word : List ℕ
bool_word = 98 ∷ 111 ∷ 111 ∷ 108 ∷ []

-- "int"
abbrev pub int_word : List ℕ
int_word = 105 ∷ 110 ∷ 116 ∷ []

-- "maybe "
abbrev pub maybe_word : List ℕ
maybe_word = 109 ∷ 97 ∷ 121 ∷ 98 ∷ 101 ∷ 32 ∷ []

-- "true"
abbrev pub true_word : List ℕ
true_word = 116 ∷ 114 ∷ 117 ∷ 101 ∷ []

-- "false"
abbrev pub false_word : List ℕ
false_word = 102 ∷ 97 ∷ 108 ∷ 115 ∷ 101 ∷ []

-- "none"
abbrev pub none_word : List ℕ
none_word = 110 ∷ 111 ∷ 110 ∷ 101 ∷ []

-- "some "
abbrev pub some_word : List ℕ
some_word = 115 ∷ 111 ∷ 109 ∷ 101 ∷ 32 ∷ []

-- Types 1, 2, 3.
unfoldable pub plain_type : ℕ → List ℕ
plain_type t = if eqb t 1 then unit_word else if eqb t 2 then bool_word else int_word

-- Types: `unit`, `bool`, `int`; 5-7 with `maybe` and a space before.
unfoldable pub type_words : ℕ → List ℕ
type_words t = if ltb t 5 then plain_type t else maybe_word ++ plain_type (t - 4)

-- A decimal, with a sign where the integer is negative.
unfoldable pub integer : ℤ → List ℕ
integer (pos n) = decimal n
integer (negsuc n) = 45 ∷ decimal (suc n)

-- A plain value of a type.
unfoldable pub plain_words : ℕ → ℕ → List ℕ
plain_words t w =
    if eqb t 1 then unit_word
    else if eqb t 2 then (if eqb w 0 then false_word else true_word)
    else integer (signed w)

-- A present value of a maybe type.
unfoldable pub present_words : ℕ → ℕ → List ℕ
present_words t w = some_word ++ plain_words (t - 4) w

-- Values: `unit`, `true`, `false`, a decimal, `none`, `some 5`.
unfoldable pub value_words : Value → List ℕ
value_words (Plain t w) = plain_words t w
value_words (Absent t) = none_word
value_words (Present t w) = present_words t w

-- The first line of an accepted program: N, cells, bound, root type.
unfoldable pub first_line : ℕ → ℕ → ℕ → ℕ → List ℕ
first_line n cells bound ty = (79 ∷ 75 ∷ 32 ∷ []) ++ field n 32 ++ field cells 32 ++ field bound 32 ++ type_words ty ++ (10 ∷ [])

-- A step line: time, value, work.
unfoldable pub step_line : ℕ → Value → ℕ → List ℕ
step_line time v work = field time 32 ++ value_words v ++ (32 ∷ []) ++ field work 10

-- The last line: steps and total work.
unfoldable pub end_line : ℕ → ℕ → List ℕ
end_line steps work = (69 ∷ 78 ∷ 68 ∷ 32 ∷ []) ++ field steps 32 ++ field work 10

-- The last line of a refusal: code and place.
unfoldable pub refused_line : Refusal → List ℕ
refused_line r = (82 ∷ 69 ∷ 70 ∷ 85 ∷ 83 ∷ 69 ∷ 68 ∷ 32 ∷ []) ++ field (code_of r) 32 ++ field (place_of r) 10
