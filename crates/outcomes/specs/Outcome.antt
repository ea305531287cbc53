-- An outcome as one number: 0 is stuck; else the 8 bytes of the value, with what was counted in bytes 2-3, which a value leaves zero. Their lower 15 bits
-- are the work (no evaluation of 1,008 nodes works more than 1,008), and the highest is the mark.
-- Assumes nothing: these are definitions.
use Rattle.std.specs.Prelude.{◌≡◌, ℕ, ◌+◌, ◌*◌, ◌/◌, ◌%◌, eqb, leb, get_or, if◌then◌else◌, Option, Some, None}
use Rattle.rules.specs.Values.{packed, unpacked, middle_in}
use Rattle.rules.specs.Evaluate.{Env}
use Rattle.rules.specs.declared.Value.{Value}
use Rattle.rules.specs.declared.Tally.{Tally}
use Rattle.rules.specs.Evaluated.{Evaluated, Done, Stuck}
use Rattle.outcomes.specs.declared.Shown.{Shown}

-- What was counted, of a number of 16 bits, and as one.
unfoldable pub tally_in : ℕ → Tally
tally_in t = record { work = t % 32768; wrapped = leb 32768 t }

unfoldable pub tally_of : Tally → ℕ
tally_of w = w.work + (if w.wrapped then 32768 else 0)

-- The outcome of a number.
unfoldable pub outcome_in : ℕ → Evaluated
outcome_in m = if eqb m 0 then Stuck else Done (unpacked m) (tally_in (middle_in m))

-- The number of an outcome.
unfoldable pub outcome_of : Evaluated → ℕ
outcome_of (Done v w) = packed v + 65536 * tally_of w
outcome_of Stuck = 0

-- A number that is exactly an outcome's.
abbrev pub IsOutcome : ℕ → Type 0
IsOutcome m = outcome_of (outcome_in m) ≡ m

-- A number that is exactly a value's 8 bytes.
abbrev pub IsValue : ℕ → Type 0
IsValue m = packed (unpacked m) ≡ m

-- A value that its 8 bytes give back.
abbrev pub IsProper : Value → Type 0
IsProper v = unpacked (packed v) ≡ v

-- Slots that each hold a value's bytes or 0.
abbrev pub Slots : Env → Type 0
Slots env = (n : ℕ) → IsValue (get_or env n 0)

-- The 8 bytes of an outcome's value: bytes 2-3 cleared.
unfoldable pub value_in : ℕ → ℕ
value_in m = m % 65536 + 4294967296 * (m / 4294967296)

-- An outcome taken apart.
abbrev pub shown : ℕ → Tally → Option Shown
shown v w = Some (record { value = v; count = w })

unfoldable pub shown_in : ℕ → Option Shown
shown_in m = if eqb m 0 then None else shown (value_in m) (tally_in (middle_in m))
