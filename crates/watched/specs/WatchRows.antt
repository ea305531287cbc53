-- Small examples of watched runs.
-- Assumes nothing: these are definitions.
use Rattle.std.specs.Prelude.{ℕ, List, [], ◌∷◌}
use Rattle.rules.specs.Bytes.{Bytes}
use Rattle.rules.specs.Samples.{program, joined, quiet, event, input, ext, delay, let_signal, switch, variable, constant, add}

-- Case A: 3 is inside the delay, 4 the delay, 6 the body, 7 the let.
abbrev pub case_a : Bytes
case_a = program (variable 7 ∷ constant 1 ∷ add 0 1 ∷ ext 2 ∷ delay 3 0 ∷ variable 7 ∷ ext 5 ∷ let_signal 4 6 ∷ [])

-- Case D: switch (ext 0) on x = input 4 in ext x. 1 is first, 2 the event, 4 second.
abbrev pub case_d : Bytes
case_d = program (constant 0 ∷ ext 0 ∷ input 4 ∷ variable 5 ∷ ext 3 ∷ switch 1 2 4 ∷ [])

abbrev pub two_quiet : Bytes
two_quiet = joined (quiet 0 ∷ quiet 100 ∷ [])

abbrev pub five_then_quiet : Bytes
five_then_quiet = joined (event 0 5 ∷ quiet 0 ∷ [])

-- The second record is before the first.
abbrev pub back_in_time : Bytes
back_in_time = joined (quiet 100 ∷ quiet 0 ∷ [])
