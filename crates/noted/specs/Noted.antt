-- The memory of definitions' outcomes in lent slots, by the let's number.
-- Assumes nothing: these are definitions.
use Rattle.std.specs.Prelude.{◌≡◌, List, ℕ, ◌≤◌, length, get_or}
use Rattle.rules.specs.Bytes.{Bytes}
use Rattle.rules.specs.Layout.{kind_at, a_at}
use Rattle.rules.specs.Kinds.{is_signal}
use Rattle.rules.specs.Tree.{signal_at}
use Rattle.rules.specs.Bound.{bound_s}
use Rattle.rules.specs.Shaped.{NodeOf}
use Rattle.outcomes.specs.Combine.{work_of}
use Rattle.outcomes.specs.Outcome.{outcome_in, IsOutcome}
use Rattle.recalled.specs.Recall.{Memory}

unfoldable pub memory_in : List ℕ → Memory
memory_in l n = outcome_in (get_or l n 0)

-- Each slot is an outcome's number, and a let's slot counts no more than its definition's bound.
pub record Noted (p : Bytes) (l : List ℕ) : Type 0 where
  pub room : length l ≡ 1008
  pub outcomes : (n : ℕ) → IsOutcome (get_or l n 0)
  pub bounded : (n : ℕ) → NodeOf is_signal p n → kind_at p n ≡ 5 → work_of (memory_in l n) ≤ bound_s (signal_at p (a_at p n))

-- What an evaluation does to the slots.
pub record Notes (p : Bytes) (l l₁ : List ℕ) (f : Memory → Memory) : Type 0 where
  pub filled : memory_in l₁ ≡ f (memory_in l)
  pub noted : Noted p l₁
