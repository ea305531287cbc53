-- The list of what changed from one state to another.
-- Assumes nothing: these are definitions.
use Rattle.std.specs.Prelude.{ℕ, zero, suc, List, [], ◌∷◌, ◌++◌, eqb, if◌then◌else◌}
use Rattle.rules.specs.Bytes.{Bytes}
use Rattle.rules.specs.Layout.{no_next, cells, cell, last_time}

-- "Each cell number that changed, rising": of the cells from k on, so many.
unfoldable pub changed_from : Bytes → Bytes → ℕ → ℕ → List ℕ
changed_from st st₁ k zero = []
changed_from st st₁ k (suc left) =
    if eqb (cell st₁ k) (cell st k) then changed_from st st₁ (suc k) left else k ∷ changed_from st st₁ (suc k) left

-- ".. with 65535 in front if the time did."
unfoldable pub changed_time : Bytes → Bytes → List ℕ
changed_time st st₁ = if eqb (last_time st₁) (last_time st) then [] else no_next ∷ []

-- Both: the time, and the cells below count.
unfoldable pub changed_below : Bytes → Bytes → ℕ → List ℕ
changed_below st st₁ count = changed_time st st₁ ++ changed_from st st₁ 0 count

unfoldable pub changes : Bytes → Bytes → Bytes → List ℕ
changes p st st₁ = changed_below st st₁ (cells p)
