-- New numbers from the list of a walk: the nodes that stay are numbered in its order, and a let that goes has its body's number, the last one given.
-- Assumes nothing: these are definitions.
use Rattle.std.specs.Prelude.{ℕ, suc, ◌-◌, ◌%◌, List, [], ◌∷◌, ltb, set, if◌then◌else◌}

-- The nodes that stay.
unfoldable pub staying : List ℕ → List ℕ
staying [] = []
staying (e ∷ es) = if ltb e 1024 then e ∷ staying es else staying es

-- By old number, the new one; so many are given.
unfoldable pub renumber : List ℕ → ℕ → List ℕ → List ℕ
renumber [] m new = new
renumber (e ∷ es) m new =
    if ltb e 1024 then renumber es (suc m) (set new (e % 1024) m)
    else renumber es m (set new (e % 1024) (m - 1))
