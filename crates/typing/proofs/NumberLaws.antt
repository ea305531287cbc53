-- A type and the number of a place as one number: each is read back.
-- Assumes nothing.
use mathlib.Core.Path.{◌≡◌, ap, ◌∙◌}
use Prim.Native.Nat.{ℕ, ◌+◌, ◌*◌, ◌/◌, ◌%◌, ◌<◌}
use native.Mathlib.Omega.{arith}
use Rattle.rules.specs.Values.{type_in}
use Rattle.places.specs.Numbers.{place_in}
use Rattle.typing.specs.Numbers.{place_below}

module _ (t at : ℕ) (h : t < 256) where
  -- The low byte is the type.
  pub type_back : type_in (t + 256 * at) ≡ t
  unfolding type_in
  type_back = omega arith

  -- What is above it is the number of the place.
  pub place_back : at < 4294967296 → place_below (t + 256 * at) ≡ place_in at
  unfolding place_below
  place_back k =
      let above : (t + 256 * at) / 256 ≡ at = omega arith in
      let word : at % 4294967296 ≡ at = omega arith in
      ap place_in (ap (λ (m : ℕ). m % 4294967296) above ∙ word)
