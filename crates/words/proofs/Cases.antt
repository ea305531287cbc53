-- Worked cases, by computation.
-- Assumes nothing.
use Rattle.std.proofs.Common.{◌≡◌, ℕ, ℤ, refl, ap, arith}
use lib.Signed.{mag}
use Rattle.rules.specs.Values.{maybe_of}
use Rattle.rules.specs.Words.{signed, word_of, floor_z, quotient_of, Divided}
use Rattle.rules.specs.declared.Value.TheVariants.{Absent, Present}
use Rattle.words.proofs.Floor.{only_floor}

-- -7 by 2, 7 by -2, -7 by -2, 5 by 0, the lowest by -1.
pub cases : (quotient_of 4294967289 2 ≡ Present 7 4294967292) × (quotient_of 7 4294967294 ≡ Present 7 4294967292)
    × (quotient_of 4294967289 4294967294 ≡ Present 7 3) × (quotient_of 5 0 ≡ Absent 7) × (quotient_of 2147483648 4294967295 ≡ Present 7 2147483648)
unfolding quotient_of floor_z word_of signed maybe_of
cases = (refl, refl, refl, refl, refl)

-- Truncation does not meet the law: -3, which -7 by 2 is rounded toward zero, has no remainder.
pub truncated : (r : ℤ) → Divided (signed 4294967289) (signed 2) (signed 4294967293) r → ⊥
unfolding floor_z signed
truncated r w = let e : ◌≡◌ {A = ℕ} 2 3 = ap mag (only_floor (signed 4294967289) (signed 2) (signed 4294967293) r w) in omega arith
