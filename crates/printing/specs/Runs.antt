-- A run on its way as the program holds it, and what a turn answers of its line.
-- Assumes nothing: these are definitions.
use Rattle.std.specs.Prelude.{◌≡◌, Bool, true, false, ℕ, length}
use Rattle.printing.specs.declared.Run.{Run}
use Rattle.printing.specs.declared.Line.{Line}
use Rattle.printing.specs.declared.Line.TheVariants.{Step, Last}
use Rattle.printing.specs.Turns.{Under}

-- How long the line is, and whether there is more to come behind it.
abbrev pub size_of : Line → ℕ
size_of (Step n) = n
size_of (Last n) = n

abbrev pub has_more : Line → Bool
has_more (Step n) = true
has_more (Last n) = false

-- A run of at most 4,096 steps on its way.
abbrev pub IsUnder : Run → Type 0
IsUnder s = Under s.program.now s.index.now s.state.now s.env.now s.memo.now s.count s.steps s.total

-- It has the same program, table of cells and count, and writes to what it was lent.
pub record Lent (s s' : Run) : Type 0 where
  pub program : s'.program.now ≡ s.program.now
  pub index : s'.index.now ≡ s.index.now
  pub count : s'.count ≡ s.count
  pub state : s'.state.ghost_name ≡ s.state.ghost_name
  pub env : s'.env.ghost_name ≡ s.env.ghost_name
  pub memo : s'.memo.ghost_name ≡ s.memo.ghost_name
  pub long : length s'.state.now ≡ length s.state.now
