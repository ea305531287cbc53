-- The slots of variables hold values' bytes.
-- Assumes nothing.
use mathlib.Core.Path.{◌≡◌, refl}
use mathlib.Core.List.{[], ◌∷◌}
use Prim.Native.Nat.{ℕ, zero, suc}
use lib.ListN.{get_or, set, replicate}
use Rattle.rules.specs.Bytes.{◌and◌}
use Rattle.rules.specs.Values.{is_plain, value_from, packed, unpacked, type_in, present_in, word_in}
use Rattle.rules.specs.Evaluate.{Env, bind}
use Rattle.outcomes.specs.Outcome.{IsValue, Slots}

-- Slots of values: none bound, and one bound.
value_zero : IsValue 0
unfolding packed unpacked value_from type_in present_in word_in is_plain ◌and◌
value_zero = refl

none_at : (n i : ℕ) → ◌≡◌ {A = ℕ} (get_or (replicate n 0) i 0) 0
none_at zero i = refl
none_at (suc n) zero = refl
none_at (suc n) (suc i) = none_at n i

pub slots_none : (n : ℕ) → Slots (replicate n 0)
slots_none n i = rw (none_at n i) value_zero

set_at : (P : ℕ → Type 0) (env : Env) (i v n : ℕ) → P v → P (get_or env n 0) → P (get_or (set env i v) n 0)
set_at P [] i v n h g = g
set_at P (x ∷ xs) zero v zero h g = h
set_at P (x ∷ xs) zero v (suc n) h g = g
set_at P (x ∷ xs) (suc i) v zero h g = g
set_at P (x ∷ xs) (suc i) v (suc n) h g = set_at P xs i v n h g

pub slots_set : (env : Env) (i v : ℕ) → Slots env → IsValue v → Slots (set env i v)
slots_set env i v h g n = set_at (λ (m : ℕ). IsValue m) env i v n g (h n)

pub bind_value : (env : Env) (i v : ℕ) → IsValue v → bind env i (unpacked v) ≡ set env i v
unfolding bind
bind_value env i v h = rw h
