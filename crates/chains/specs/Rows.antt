-- Programs that are not ready, and their chains.
-- Assumes nothing: these are definitions.
use Rattle.std.specs.Prelude.{ℕ, List, [], ◌∷◌}
use Rattle.rules.specs.Bytes.{Bytes}
use Rattle.rules.specs.Layout.{no_next}
use Rattle.rules.specs.Calls.{check_call}
use Rattle.rules.specs.Samples.{program, node, input, ext, delay, let_signal, switch, let_continue, until, branch, case, variable, constant, add}
use Rattle.chains.specs.Chain.{chain_of}

-- C: let x = ext x in ext x.
abbrev pub row_c : Bytes
row_c = program (variable 4 ∷ ext 0 ∷ variable 4 ∷ ext 2 ∷ let_signal 1 3 ∷ [])

-- let x = (switch (ext 0) on y = (until-free input 4) in ext (x + x)) in ext x: by the second part, and there the first operand.
abbrev pub row_switch : Bytes
row_switch = program (constant 0 ∷ ext 0 ∷ input 4 ∷ variable 9 ∷ variable 9 ∷ add 3 4 ∷ ext 5 ∷ switch 1 2 6 ∷ input 0 ∷ let_signal 7 8 ∷ [])

-- let x = a group with a body that does not need x and two branches of which the second does: the list of branches is entered by its first.
abbrev pub row_group : Bytes
row_group =
    program (input 0 ∷ variable 8 ∷ ext 1 ∷ branch 2 no_next ∷ input 1 ∷ branch 4 3 ∷ let_continue 0 5 ∷ input 2 ∷ let_signal 6 7 ∷ [])

-- A: let x = delay 0 (ext x+1) in ext x is ready.
abbrev pub row_a : Bytes
row_a = program (variable 7 ∷ constant 1 ∷ add 0 1 ∷ ext 2 ∷ delay 3 0 ∷ variable 7 ∷ ext 5 ∷ let_signal 4 6 ∷ [])

abbrev pub chains : List (List ℕ)
chains = chain_of row_c 4 ∷ chain_of row_switch 9 ∷ chain_of row_group 8 ∷ chain_of row_a 7 ∷ []

abbrev pub expected : List (List ℕ)
expected = (1 ∷ 0 ∷ []) ∷ (7 ∷ 6 ∷ 5 ∷ 3 ∷ []) ∷ (6 ∷ 5 ∷ 3 ∷ 2 ∷ 1 ∷ []) ∷ [] ∷ []
