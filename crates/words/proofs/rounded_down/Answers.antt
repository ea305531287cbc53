use Rattle.std.specs.Prelude.{if◌then◌else◌}
use Rattle.std.proofs.Common.{◌≡◌, ◌<◌, ◌≤◌, Bool, true, false, ℤ, pos, ◌+ℤ◌, ◌-ℤ◌, nat_abs, sym, ap, ◌∙◌, arith, w64, SFits, to_z, of_z}
use lib.Signed.{quot_z, rem_z, lt_z}
use Rattle.rules.specs.Words.{floor_z}
use Rattle.words.proofs.Lowered.{above, below}
use Rattle.words.proofs.Wide.{small_fits, size_sum, some_bits, read_back, quot_small, quot_back, rem_back, floor_small}
use Rattle.words.proofs.rounded_down.Goals as goal

-- The quotient in 64 bits.
quotient : (a b : ℤ) → nat_abs a ≤ 2147483648 → nat_abs b ≤ 2147483648
    → to_z w64 (of_z w64 (quot_z (to_z w64 (of_z w64 a)) (to_z w64 (of_z w64 b)))) ≡ quot_z a b
quotient a b h k = ap (λ (z : ℤ). to_z w64 (of_z w64 z)) (quot_back a b h k) ∙ read_back (quot_z a b) (omega (arith, quot_small a b))

can_divide : (a b : ℤ) → 0 < nat_abs b → nat_abs a ≤ 2147483648 → nat_abs b ≤ 2147483648
    → (0 < of_z w64 b) × SFits w64 (quot_z (to_z w64 (of_z w64 a)) (to_z w64 (of_z w64 b)))
can_divide a b n h k = (some_bits b n k, rw (quot_back a b h k) (small_fits (quot_z a b) (omega (arith, quot_small a b))))

-- What the tests in 64 bits say of the integers.
divisor_above : (b : ℤ) (t : Bool) → nat_abs b ≤ 2147483648 → lt_z (pos 0) (to_z w64 (of_z w64 b)) ≡ t → lt_z (pos 0) b ≡ t
divisor_above b t k e = ap (lt_z (pos 0)) (sym (read_back b (omega arith))) ∙ e

module _ (a b : ℤ) (h : nat_abs a ≤ 2147483648) (k : nat_abs b ≤ 2147483648) where
  -- A quotient and at most one more or less fits.
  near_fits : (z : ℤ) → nat_abs z ≤ 1 → SFits w64 (to_z w64 (of_z w64 (quot_z (to_z w64 (of_z w64 a)) (to_z w64 (of_z w64 b)))) +ℤ z)
  near_fits z l =
      rw (quotient a b h k) (small_fits (quot_z a b +ℤ z) (omega (arith, size_sum (quot_z a b) z, quot_small a b)))

  -- One less than the quotient, where that is the one rounded down.
  lowered-back : quot_z a b -ℤ pos 1 ≡ floor_z a b
      → to_z w64 (of_z w64 (to_z w64 (of_z w64 (quot_z (to_z w64 (of_z w64 a)) (to_z w64 (of_z w64 b)))) -ℤ pos 1)) ≡ floor_z a b
  lowered-back e = rw (quotient a b h k, e) (read_back (floor_z a b) (omega (arith, floor_small a b)))

  by-above : (t : Bool) → lt_z (pos 0) (to_z w64 (of_z w64 b)) ≡ true
      → lt_z (to_z w64 (of_z w64 (rem_z (to_z w64 (of_z w64 a)) (to_z w64 (of_z w64 b))))) (pos 0) ≡ t
      → (if t then quot_z a b -ℤ pos 1 else quot_z a b) ≡ floor_z a b
  by-above t s e = above a b t (divisor_above b true k s) (ap (λ (z : ℤ). lt_z z (pos 0)) (sym (rem_back a b h k)) ∙ e)

  by-below : (t : Bool) → 0 < nat_abs b → lt_z (pos 0) (to_z w64 (of_z w64 b)) ≡ false
      → lt_z (pos 0) (to_z w64 (of_z w64 (rem_z (to_z w64 (of_z w64 a)) (to_z w64 (of_z w64 b))))) ≡ t
      → (if t then quot_z a b -ℤ pos 1 else quot_z a b) ≡ floor_z a b
  by-below t n s e = below a b t (divisor_above b false k s) n (ap (lt_z (pos 0)) (sym (rem_back a b h k)) ∙ e)

pub nonzero_div-q : goal.nonzero_div-q
nonzero_div-q c = can_divide c.args.a c.args.b c.requires.0 c.requires.1 c.requires.2

pub nonzero_rem-r : goal.nonzero_rem-r
nonzero_rem-r c = can_divide c.args.a c.args.b c.requires.0 c.requires.1 c.requires.2

pub overflow_sub-result : goal.overflow_sub-result
overflow_sub-result c = let a : ℤ = c.args.a in let b : ℤ = c.args.b in
    near_fits a b c.requires.1 c.requires.2 _ (omega arith)

pub returns-then-r-lt0 : goal.returns-then-r-lt0
returns-then-r-lt0 c = let a : ℤ = c.args.a in let b : ℤ = c.args.b in
    lowered-back a b c.requires.1 c.requires.2 (by-above a b c.requires.1 c.requires.2 true c.if-b-gt0.true c.if-r-lt0.true)

pub returns-then-b-gt0 : goal.returns-then-b-gt0
returns-then-b-gt0 c = let a : ℤ = c.args.a in let b : ℤ = c.args.b in
    quotient a b c.requires.1 c.requires.2 ∙ by-above a b c.requires.1 c.requires.2 false c.if-b-gt0.true c.if-r-lt0.false

pub overflow_sub-result-then-r-gt0 : goal.overflow_sub-result-then-r-gt0
overflow_sub-result-then-r-gt0 c = let a : ℤ = c.args.a in let b : ℤ = c.args.b in
    near_fits a b c.requires.1 c.requires.2 _ (omega arith)

pub returns-then-r-gt0 : goal.returns-then-r-gt0
returns-then-r-gt0 c = let a : ℤ = c.args.a in let b : ℤ = c.args.b in
    lowered-back a b c.requires.1 c.requires.2 (by-below a b c.requires.1 c.requires.2 true c.requires.0 c.if-b-gt0.false c.if-r-gt0.true)

pub returns : goal.returns
returns c = let a : ℤ = c.args.a in let b : ℤ = c.args.b in
    quotient a b c.requires.1 c.requires.2 ∙ by-below a b c.requires.1 c.requires.2 false c.requires.0 c.if-b-gt0.false c.if-r-gt0.false
