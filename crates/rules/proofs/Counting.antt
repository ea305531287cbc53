-- Sums over the numbers below a bound, and the counting law: where each number but the last is named once, what is weighed over the last
-- one's tree is what is weighed over all the numbers.
-- Assumes nothing.
use Rattle.std.specs.Prelude.{if◌then◌else◌}
use mathlib.Core.Path.{◌≡◌, refl, sym, ap, ap₂, ◌∙◌}
use mathlib.Core.Bool.{Bool, true, false}
use Prim.Native.Nat.{ℕ, zero, suc, ◌+◌, ◌*◌, ◌≤◌, ◌<◌}
use native.Mathlib.Omega.{arith}
use lib.Dec.{eqb}
use borrow.Author.Tests.{eqb-true, eqb-false, ne_eqb}

-- The sum of f over the numbers below n.
unfoldable pub total : ℕ → (ℕ → ℕ) → ℕ
total zero f = 0
total (suc n) f = total n f + f n

pub total_same : (n : ℕ) (f g : ℕ → ℕ) → ((k : ℕ) → k < n → f k ≡ g k) → total n f ≡ total n g
unfolding total
total_same zero f g h = refl
total_same (suc n) f g h = ap₂ ◌+◌ (total_same n f g (λ k l. h k (omega arith))) (h n (omega arith))

pub total_plus : (n : ℕ) (f g : ℕ → ℕ) → total n (λ k. f k + g k) ≡ total n f + total n g
unfolding total
total_plus zero f g = refl
total_plus (suc n) f g = omega (arith, total_plus n f g)

-- Every number below n weighs c.
pub total_each : (n c : ℕ) → total n (λ k. c) ≡ n * c
unfolding total
total_each zero c = omega arith
total_each (suc n) c = omega (arith, total_each n c)

-- Nothing counts that is taken no times.
pub total_none : (n : ℕ) (f : ℕ → ℕ) → total n (λ k. f k * 0) ≡ 0
total_none n f = total_same n (λ k. f k * 0) (λ k. 0) (λ k l. omega arith) ∙ total_each n 0 ∙ (let e : n * 0 ≡ 0 = omega arith in e)

-- 1 where two numbers are the same.
abbrev pub one : Bool → ℕ
one b = if b then 1 else 0

-- Only the term at x counts; past the bound there is none.
pub total_past : (n x : ℕ) (f : ℕ → ℕ) → n ≤ x → total n (λ k. f k * one (eqb x k)) ≡ 0
total_past n x f h =
    total_same n (λ k. f k * one (eqb x k)) (λ k. f k * 0) (λ k l. ap (λ (b : Bool). f k * one b) (ne_eqb x k λ e. omega arith))
    ∙ total_none n f

pub total_at : (n x : ℕ) (f : ℕ → ℕ) → x < n → total n (λ k. f k * one (eqb x k)) ≡ f x
unfolding total
total_at zero x f h = absurd (omega arith)
total_at (suc n) x f h = go (eqb x n) refl (total_at n x f)
  where
    go : (b : Bool) → eqb x n ≡ b → (x < n → total n (λ k. f k * one (eqb x k)) ≡ f x)
        → total n (λ k. f k * one (eqb x k)) + f n * one b ≡ f x
    go true e ih =
        let z = eqb-true x n e in
        omega (arith, total_past n x f (omega arith), ap f z)
    go false e ih = let d = eqb-false x n e in omega (arith, ih (omega (arith, d)))

-- The sums swapped: what all that the first n name weighs.
pub total_swap : (m n : ℕ) (f : ℕ → ℕ) (c : ℕ → ℕ → ℕ)
    → total n (λ i. total m (λ k. f k * c k i)) ≡ total m (λ k. f k * total n (c k))
unfolding total
total_swap m zero f c = sym (total_none m f)
total_swap m (suc n) f c =
    let e : total m (λ k. f k * (total n (c k) + c k n)) ≡ total m (λ k. f k * total n (c k)) + total m (λ k. f k * c k n)
    = total_same m (λ k. f k * (total n (c k) + c k n)) (λ k. f k * total n (c k) + f k * c k n) (λ k l. omega arith)
    ∙ total_plus m (λ k. f k * total n (c k)) (λ k. f k * c k n) in
    omega (arith, e, total_swap m n f c)

-- Let c k i be how often i names k, and whole i what i weighs with all that it names. If each number but the last is named once, then the
-- last weighs, with all that it names, what all the numbers weigh.
pub once : (m : ℕ) (whole own : ℕ → ℕ) (c : ℕ → ℕ → ℕ)
    → ((i : ℕ) → i < suc m → whole i ≡ own i + total m (λ k. whole k * c k i))
    → ((k : ℕ) → k < m → total (suc m) (c k) ≡ 1)
    → whole m ≡ total (suc m) own
once m whole own c step named = omega (arith, each, parts, swapped, kept, last)
  where
    each : total (suc m) whole ≡ total (suc m) (λ i. own i + total m (λ k. whole k * c k i))
    each = total_same (suc m) whole (λ i. own i + total m (λ k. whole k * c k i)) step

    parts : total (suc m) (λ i. own i + total m (λ k. whole k * c k i)) ≡ total (suc m) own + total (suc m) (λ i. total m (λ k. whole k * c k i))
    parts = total_plus (suc m) own (λ i. total m (λ k. whole k * c k i))

    swapped : total (suc m) (λ i. total m (λ k. whole k * c k i)) ≡ total m (λ k. whole k * total (suc m) (c k))
    swapped = total_swap m (suc m) whole c

    kept : total m (λ k. whole k * total (suc m) (c k)) ≡ total m whole
    kept = total_same m (λ k. whole k * total (suc m) (c k)) whole (λ k l. omega (arith, ap (λ (x : ℕ). whole k * x) (named k l)))

    last : total (suc m) whole ≡ total m whole + whole m
    last = unfold total in refl
