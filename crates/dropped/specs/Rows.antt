-- Small examples of requests m and n, as rows.
-- Assumes nothing: these are definitions.
use Rattle.std.specs.Prelude.{[], ◌∷◌}
use Rattle.rules.specs.Bytes.{Bytes}
use Rattle.rules.specs.Layout.{no_next}
use Rattle.rules.specs.Samples.{program, input, ext, delay, let_signal, let_continue, until, branch, case, variable, constant, add}

-- let y = ext 1 in case A: y is not named. What is left is case A.
abbrev pub unused : Bytes
unused = program (
    constant 1 ∷ ext 0 ∷ variable 9 ∷ constant 1 ∷ add 2 3 ∷ ext 4 ∷ delay 5 0 ∷ variable 9 ∷ ext 7 ∷ let_signal 6 8 ∷ let_signal 1 9 ∷ [])

abbrev pub case_a : Bytes
case_a = program (variable 7 ∷ constant 1 ∷ add 0 1 ∷ ext 2 ∷ delay 3 0 ∷ variable 7 ∷ ext 5 ∷ let_signal 4 6 ∷ [])

-- let a = input 0 in let b = ext a in ext 5: b is not named, and without b nor is a.
abbrev pub chain : Bytes
chain = program (input 0 ∷ variable 6 ∷ ext 1 ∷ constant 5 ∷ ext 3 ∷ let_signal 2 4 ∷ let_signal 0 5 ∷ [])

abbrev pub five : Bytes
five = program (constant 5 ∷ ext 0 ∷ [])

-- let x = delay 0 (ext x) in ext 5: named by its own definition only.
abbrev pub itself : Bytes
itself = program (variable 5 ∷ ext 0 ∷ delay 1 0 ∷ constant 5 ∷ ext 3 ∷ let_signal 2 4 ∷ [])

-- let y = input 0 in a group: body ext 0 until input 4 => up, up x = ext x until input 4 => up. The group's branch gets a new number, so that its
-- cell holds another.
abbrev pub regrouped : Bytes
regrouped = program (
    input 0 ∷ constant 0 ∷ ext 1 ∷ input 4 ∷ case 3 no_next 11 ∷ until 2 4 ∷ variable 11 ∷ ext 6 ∷ input 4 ∷ case 8 no_next 11 ∷ until 7 9 ∷ branch 10 no_next
    ∷ let_continue 5 11 ∷ let_signal 0 12 ∷ [])

abbrev pub regrouped_tidy : Bytes
regrouped_tidy = program (
    constant 0 ∷ ext 0 ∷ input 4 ∷ case 2 no_next 10 ∷ until 1 3 ∷ variable 10 ∷ ext 5 ∷ input 4 ∷ case 7 no_next 10 ∷ until 6 8 ∷ branch 9 no_next
    ∷ let_continue 4 10 ∷ [])
