-- What a combinator of evaluation hands on: the word of a plain outcome, the arm of an if, the parts of a maybe, and the count of an outcome.
-- Assumes nothing: these are definitions.
use Rattle.std.specs.Prelude.{ℕ, if◌then◌else◌, Option, Some, None}
use Rattle.rules.specs.Values.{bool_t, packed}
use Rattle.rules.specs.Operations.{is_true}
use Rattle.rules.specs.Work.{nothing}
use Rattle.rules.specs.Evaluate.{plain_word, opened}
use Rattle.rules.specs.declared.Tally.{Tally}
use Rattle.rules.specs.Opened.{Opened, Here, Gone, Amiss}
use Rattle.rules.specs.Evaluated.{Evaluated, Done, Stuck}
use Rattle.outcomes.specs.declared.Arm.{Arm}
use Rattle.outcomes.specs.declared.Parts.{Parts}

-- What an outcome has counted, and its work; nothing where it is stuck.
abbrev pub count_of : Evaluated → Tally
count_of (Done v w) = w
count_of Stuck = nothing

abbrev pub work_of : Evaluated → ℕ
work_of (Done v w) = w.work
work_of Stuck = 0

-- The word of an outcome that is a plain value of a type.
unfoldable pub word_by : ℕ → Evaluated → Option ℕ
word_by t (Done v w) = plain_word t v
word_by t Stuck = None

-- The arm that the word of a test chooses, and that its outcome does.
abbrev pub arm : ℕ → Tally → Option Arm
arm i w = Some (record { at = i; count = w })

unfoldable pub arm_by : Option ℕ → Tally → ℕ → ℕ → Option Arm
arm_by (Some b) w yes₀ no₀ = arm (if is_true b then yes₀ else no₀) w
arm_by None w yes₀ no₀ = None

unfoldable pub arm_in : Evaluated → ℕ → ℕ → Option Arm
arm_in (Done u w) yes₀ no₀ = arm_by (plain_word bool_t u) w yes₀ no₀
arm_in Stuck yes₀ no₀ = None

-- The parts of a maybe that was opened, and of its outcome: what it holds is given by its 8 bytes.
abbrev pub parts : Option ℕ → Tally → Option Parts
parts e w = Some (record { event = e; count = w })

unfoldable pub parts_by : Opened → Tally → Option Parts
parts_by (Here v) w = parts (Some (packed v)) w
parts_by Gone w = parts None w
parts_by Amiss w = None

unfoldable pub parts_of : Evaluated → Option Parts
parts_of (Done u w) = parts_by (opened u) w
parts_of Stuck = None
