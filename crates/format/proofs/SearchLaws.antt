-- A loop that looks for the first place where a test holds: what a turn, and the end, say of the answer.
-- Assumes nothing.
use Rattle.std.specs.Prelude.{Some, None}
use mathlib.Core.Path.{◌≡◌, sym, ◌∙◌}
use mathlib.Core.Bool.{Bool, true, false}
use Prim.Native.Nat.{ℕ, ◌+◌, ◌-◌, ◌≤◌, ◌<◌}
use Rattle.rules.specs.Bytes.{first, first_from}
use Rattle.rules.proofs.First.{first_here, first_next, first_ends}

-- What is still to be searched, from j on, has the answer.
abbrev pub Ahead : (ℕ → Bool) → ℕ → ℕ → Type 0
Ahead test count j = first_from test j (count - j) ≡ first test count

module _ (test : ℕ → Bool) (count j : ℕ) (ahead : Ahead test count j) where
  -- The test holds here: this is the place.
  pub found : (b : Bool) → j < count → b ≡ test j → b ≡ true → Some j ≡ first test count
  found b h e t = sym (first_here test count j h (sym e ∙ t)) ∙ ahead

  -- It does not: the next place has the answer.
  pub passed : (b : Bool) → j < count → b ≡ test j → b ≡ false → Ahead test count (j + 1)
  passed b h e t = sym (first_next test count j h (sym e ∙ t)) ∙ ahead

  -- No place is left.
  pub none_left : count ≤ j → None ≡ first test count
  none_left h = sym (first_ends test count j h) ∙ ahead
