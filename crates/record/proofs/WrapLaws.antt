-- The first wrapped step after one more.
-- Assumes nothing.
use Rattle.std.specs.Prelude.{if◌then◌else◌}
use mathlib.Core.Path.{◌≡◌, refl}
use mathlib.Core.Bool.{Bool, true, false}
use Prim.Native.Nat.{ℕ}
use lib.Dec.{eqb}
use borrow.Author.Tests.{eq-eqb, ne_eqb}
use Rattle.rules.specs.Bytes.{◌and◌}
use Rattle.rules.specs.Calls.{no_step, first_wrapped}
use Rattle.rules.specs.declared.Tally.{Tally}

-- It is the first, there was one, or nothing wrapped.
pub wrapped_first : (mark done : ℕ) (w : Tally) → mark ≡ no_step → w.wrapped ≡ true → done ≡ first_wrapped mark done w
unfolding first_wrapped ◌and◌
wrapped_first mark done w e f = rw (eq-eqb mark no_step e, f)

pub wrapped_again : (mark done : ℕ) (w : Tally) → (mark ≡ no_step → ⊥) → mark ≡ first_wrapped mark done w
unfolding first_wrapped ◌and◌
wrapped_again mark done w e = rw (ne_eqb mark no_step e)

pub not_wrapped : (mark done : ℕ) (w : Tally) → w.wrapped ≡ false → mark ≡ first_wrapped mark done w
unfolding first_wrapped ◌and◌
not_wrapped mark done w f = go (eqb mark no_step) w.wrapped f
  where
    go : (a b : Bool) → b ≡ false → mark ≡ (if a and b then done else mark)
    go true b e = rw e
    go false b e = refl
