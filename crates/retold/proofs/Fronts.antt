-- What is written at a room's front stands there.
-- Assumes nothing.
use mathlib.Core.Path.{◌≡◌, refl, ap, ◌∙◌}
use mathlib.Core.List.{[], ◌∷◌}
use Prim.Native.Nat.{ℕ, suc, ◌≤◌}
use native.Mathlib.Omega.{arith}
use lib.ListN.{length, take, set}
use Rattle.rules.specs.Bytes.{Bytes, write_at}

behind_first : (x i : ℕ) (s bs : Bytes) → write_at (x ∷ s) (suc i) bs ≡ x ∷ write_at s i bs
unfolding write_at
behind_first x i s [] = refl
behind_first x i s (b ∷ bs) = behind_first x (suc i) (set s i b) bs

pub written_front : (room bs : Bytes) → length bs ≤ length room → take (length bs) (write_at room 0 bs) ≡ bs
unfolding write_at
written_front room [] l = refl
written_front [] (b ∷ bs) l = absurd (omega arith)
written_front (r ∷ room) (b ∷ bs) l =
    ap (take (suc (length bs))) (behind_first b 0 room bs) ∙ ap {B = Bytes} (λ (s : Bytes). b ∷ s) (written_front room bs (omega arith))
