-- What a change of a state keeps: the length, the time, the sum of its program's checks, and every cell that is not one of its own.
-- Assumes nothing: these are definitions.
use Rattle.std.specs.Prelude.{◌≡◌, ℕ, ◌≤◌, length}
use Rattle.rules.specs.Bytes.{Bytes}
use Rattle.rules.specs.Layout.{cell, last_time, sum_in}
use Rattle.promises.specs.Small.{Small}

-- From state st to st₁: own k says how often cell k is one of the changed part's.
pub record Kept (own : ℕ → ℕ) (st st₁ : Bytes) : Type 0 where
  pub long : length st₁ ≡ length st
  pub bytes : Small st₁
  pub moment : last_time st₁ ≡ last_time st
  pub stamp : sum_in st₁ ≡ sum_in st
  pub others : (k : ℕ) → own k ≡ 0 → cell st₁ k ≡ cell st k

-- Two states have the same content in a part's cells.
pub record Agree (own : ℕ → ℕ) (st st₁ : Bytes) : Type 0 where
  pub same : (k : ℕ) → 1 ≤ own k → cell st₁ k ≡ cell st k
