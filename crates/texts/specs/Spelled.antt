-- Words written as quoted text, and when two words are the same.
-- Assumes nothing: these are definitions.
use Prim.Native.Char.{code}
use Prim.Native.String.{String, [] as end, ◌∷◌ as ◌onto◌}
use Rattle.std.specs.Prelude.{List, [], ◌∷◌, Bool, true, false, eqb}
use Rattle.rules.specs.Bytes.{Bytes, ◌and◌}

-- The bytes of a quoted text (ASCII only).
unfoldable pub spelled : String → Bytes
spelled end = []
spelled (c onto s) = code c ∷ spelled s

unfoldable pub same : Bytes → Bytes → Bool
same [] [] = true
same [] (y ∷ ys) = false
same (x ∷ xs) [] = false
same (x ∷ xs) (y ∷ ys) = eqb x y and same xs ys

-- A word is among words.
unfoldable pub is_among : Bytes → List Bytes → Bool
is_among w [] = false
is_among w (v ∷ vs) = elim (same w v) [ true ↦ true | false ↦ is_among w vs ]
