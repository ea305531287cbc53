-- Two tables that share one sum.
-- Assumes nothing: these are definitions.
use Rattle.std.specs.Prelude.{ℕ, [], ◌∷◌}
use Rattle.rules.specs.Bytes.{Bytes}
use Rattle.rules.specs.Samples.{program, ext, delay, let_signal, variable, constant, add}

-- let x = delay first (ext x + step) in ext x: case A's nodes, in its order.
abbrev pub counting_by : ℕ → ℕ → Bytes
counting_by step first =
    let used : ℕ = 0 in let by : ℕ = 1 in let sum : ℕ = 2 in let next : ℕ = 3 in let counter : ℕ = 4 in let seen : ℕ = 5 in let shown : ℕ = 6 in let x : ℕ = 7 in
    program (
    variable x
    ∷ constant step
    ∷ add used by
    ∷ ext sum
    ∷ delay next first
    ∷ variable x
    ∷ ext seen
    ∷ let_signal counter shown
    ∷ []
    )

-- The step stands in byte 24 of the block, which weighs 25 in the check, and the first value in byte 60, which weighs 61. So a step of 61 more
-- weighs as much as a first value of 25 more.
abbrev pub by_ones : Bytes
by_ones = counting_by 1 25

abbrev pub by_sixty_twos : Bytes
by_sixty_twos = counting_by 62 0

-- A third one, of another sum.
abbrev pub by_twos : Bytes
by_twos = counting_by 2 25
