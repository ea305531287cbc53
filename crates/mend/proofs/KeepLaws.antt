-- A state kept at the front of a room.
-- Assumes nothing.
use mathlib.Core.Path.{◌≡◌, refl}
use mathlib.Core.List.{List, [], ◌∷◌, ◌++◌}
use Prim.Native.Nat.{ℕ, zero, suc, ◌<◌}
use native.Mathlib.Omega.{arith}
use lib.ListN.{length, get_or}
use Rattle.rules.specs.Bytes.{Bytes, byte_at}
use Rattle.mend.specs.Kept.{StandsIn}

in_front : (st rest : List ℕ) (i : ℕ) → i < length st → get_or (st ++ rest) i 0 ≡ get_or st i 0
in_front [] rest i h = absurd (omega arith)
in_front (x ∷ st) rest zero h = refl
in_front (x ∷ st) rest (suc i) h = in_front st rest i (omega arith)

pub kept : {copy : Bytes} (st rest : Bytes) → copy ≡ st → StandsIn st (copy ++ rest)
unfolding byte_at
kept st rest e = rw e (record { same = λ i h. in_front st rest i h })
