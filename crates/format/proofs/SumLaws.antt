-- A program of the right length is small, and the check of a block is what a loop from its last byte to its first adds up.
-- Assumes nothing.
use mathlib.Core.Path.{◌≡◌, refl, ap}
use mathlib.Core.Bool.{false}
use mathlib.Core.List.{[], ◌∷◌}
use Prim.Native.Nat.{ℕ, suc, ◌+◌, ◌-◌, ◌*◌, ◌≤◌, ◌<◌}
use native.Mathlib.Omega.{arith}
use native.Mathlib.Nat.{add-mul}
use lib.ListN.{length, take, drop, get_or}
use lib.Seq.{drop-cons}
use borrow.Author.Tests.{ltb-false}
use Rattle.rules.specs.Bytes.{Bytes, ◌or◌}
use Rattle.rules.specs.Format.{length_wrong, weighed, check_of}
use Rattle.rules.proofs.Kids.{or_none}

-- Code 1 leaves at most 24 blocks.
pub most_bytes : (p : Bytes) → length_wrong p ≡ false → length p ≤ 12288
unfolding length_wrong
most_bytes p e = ltb-false 12288 (length p) (or_none _ _ (or_none _ _ e).0).1

-- The sum of bytes, which is what their weighed sum grows by where each weight is one more.
unfoldable pub added : Bytes → ℕ
added [] = 0
added (x ∷ xs) = x + added xs

pub one_more : (i : ℕ) (xs : Bytes) → weighed (suc i) xs ≡ added xs + weighed i xs
unfolding weighed added
one_more i [] = refl
one_more i (x ∷ xs) = omega (arith, one_more (suc i) xs, add-mul 1 (suc i) x)

-- The bytes of a block from byte i on.
unfoldable pub from : Bytes → ℕ → ℕ → Bytes
from p at i = take (508 - i) (drop (at + i) p)

-- After the last byte there is none, and from the first on there are all.
pub from_end : (p : Bytes) (at : ℕ) → (added (from p at 508) ≡ 0) × (weighed 0 (from p at 508) ≡ 0)
unfolding from added weighed
from_end p at = (refl, refl)

pub from_start : (p : Bytes) (at i : ℕ) → i ≡ 0 → weighed 0 (from p at i) ≡ check_of (take 508 (drop at p))
unfolding check_of from
from_start p at i e = let a : at + i ≡ at = omega arith in rw (a, e)

-- One byte earlier: the sum of bytes grows by that byte, and the check by the new sum of bytes.
from_before : (p : Bytes) (at i : ℕ) → at + 508 ≤ length p → 0 < i → i ≤ 508 → from p at (i - 1) ≡ get_or p (at + (i - 1)) 0 ∷ from p at i
unfolding from
from_before p at i l h m =
    let a : 508 - (i - 1) ≡ suc (508 - i) = omega arith in
    let b : suc (at + (i - 1)) ≡ at + i = omega arith in
    rw (a, drop-cons p (at + (i - 1)) 0 (omega arith), b)

pub bytes_before : (p : Bytes) (at i : ℕ) → at + 508 ≤ length p → 0 < i → i ≤ 508
    → added (from p at (i - 1)) ≡ get_or p (at + (i - 1)) 0 + added (from p at i)
unfolding added
bytes_before p at i l h m = rw (from_before p at i l h m)

pub check_before : (p : Bytes) (at i : ℕ) → at + 508 ≤ length p → 0 < i → i ≤ 508
    → weighed 0 (from p at (i - 1)) ≡ added (from p at (i - 1)) + weighed 0 (from p at i)
unfolding added weighed
check_before p at i l h m = rw (from_before p at i l h m) (omega (arith, one_more 0 (from p at i)))
