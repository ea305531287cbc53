-- A check of an accepted program is at most 32,967,930, and the sum of all its checks at most 791,230,320: a number of 4 bytes.
-- Assumes nothing.
use mathlib.Core.Path.{◌≡◌, refl}
use mathlib.Core.List.{[], ◌∷◌}
use Prim.Native.Nat.{ℕ, zero, suc, ◌+◌, ◌-◌, ◌*◌, ◌/◌, ◌<◌, ◌≤◌}
use native.Mathlib.Omega.{arith}
use native.Mathlib.Nat.{mul-le-mul}
use lib.ListN.{length, take, drop, length-take, length-drop}
use borrow.Author.Tests.{eqb-true, ltb-false}
use Rattle.rules.specs.Bytes.{Bytes, ◌or◌, first}
use Rattle.rules.specs.Layout.{blocks, block_at, check_in, checks_below, checks_of}
use Rattle.rules.specs.Format.{length_wrong, weighed, check_of, sum_wrong}
use Rattle.rules.specs.Accepted.{Formed}
use Rattle.rules.proofs.Kids.{or_none, not_not}
use Rattle.rules.proofs.Established.{nowhere_from}
use Rattle.promises.specs.Small.{Small}
use Rattle.promises.proofs.SmallLaws.{small_head, small_tail, small_take, small_drop}

-- The sum 1 + .. + n of the weights of n bytes.
weights : ℕ → ℕ
weights zero = 0
weights (suc n) = suc n + weights n

more_weights : (m n : ℕ) → m ≤ n → weights m ≤ weights n
unfolding weights
more_weights zero n h = omega arith
more_weights (suc m) zero h = absurd (omega arith)
more_weights (suc m) (suc n) h = omega (arith, more_weights m n (omega arith))

-- 255 times 1 + .. + 508.
heaviest : 255 * weights 508 ≡ 32967930
unfolding weights
heaviest = refl

-- A byte adds at most 255 times its weight.
weight : (i x : ℕ) → x < 256 → suc i * x ≤ suc i * 255
weight i x l = mul-le-mul {n₁ = suc i} {m₁ = x} {n₂ = suc i} {m₂ = 255} (omega arith) (omega arith)

weighed_most : (bs : Bytes) (i n : ℕ) → Small bs → i + length bs ≤ n → weighed i bs + 255 * weights i ≤ 255 * weights n
unfolding weighed weights
weighed_most [] i n s h = omega (arith, more_weights i n (omega arith))
weighed_most (x ∷ bs) i n s h =
    omega (arith, weight i x (small_head x bs s), weighed_most bs (suc i) n (small_tail x bs s) (omega arith))

-- The check of 508 bytes or fewer.
check_most : (bs : Bytes) → Small bs → length bs ≤ 508 → check_of bs ≤ 32967930
unfolding check_of
check_most bs s h = omega (arith, weighed_most bs 0 508 s (omega arith), heaviest)

-- Each block's check is that of its first 508 bytes.
block_most : (p : Bytes) (j : ℕ) → Small p → Formed p → j < blocks p → check_in p j ≤ 32967930
unfolding first sum_wrong
block_most p j s f h =
    let bs : Bytes = take 508 (drop (block_at j) p) in
    let e : check_in p j ≡ check_of bs = eqb-true _ _ (not_not _ (nowhere_from (sum_wrong p) (blocks p) 0 j f.sums_right (omega arith) (omega arith))) in
    let l : length bs ≤ 508 = omega (arith, length-take 508 (drop (block_at j) p)) in
    omega (arith, e, check_most bs (small_take 508 (drop (block_at j) p) (small_drop (block_at j) p s)) l)

below_most : (p : Bytes) → Small p → Formed p → (j : ℕ) → j ≤ blocks p → checks_below p j ≤ 32967930 * j
unfolding checks_below
below_most p s f zero h = omega arith
below_most p s f (suc j) h = omega (arith, below_most p s f j (omega arith), block_most p j s f (omega arith))

-- At most 24 blocks.
pub checks_most : (p : Bytes) → Small p → Formed p → checks_of p ≤ 791230320
unfolding checks_of blocks length_wrong
checks_most p s f =
    let l : length p ≤ 12288 = ltb-false 12288 (length p) (or_none _ _ (or_none _ _ f.length_right).0).1 in
    omega (arith, below_most p s f (blocks p) (omega arith))
