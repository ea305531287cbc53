-- The bits are those of the channels that unplugged speaks of: so records that agree on the channels whose bits are 1 give equal runs.
-- Assumes nothing.
use Rattle.std.specs.Prelude.{if◌then◌else◌}
use mathlib.Core.Path.{◌≡◌, refl, sym, ap, ◌∙◌}
use mathlib.Core.Bool.{Bool, true, false}
use Prim.Native.Nat.{ℕ, zero, suc, ◌+◌, ◌-◌, ◌*◌, ◌/◌, ◌%◌, ◌^◌, ◌<◌, ◌≤◌}
use native.Mathlib.Omega.{arith}
use lib.Dec.{eqb, ltb}
use lib.ListN.{length}
use lib.Pow.{pow_pos, pow_mono}
use native.Mathlib.Nat.{div-lt_iff_lt-mul}
use borrow.Author.Tests.{eqb-true, eq-eqb, ne_eqb, ltb-true, ltb-false, le-ltb}
use Rattle.rules.specs.Bytes.{Bytes, byte_at, ◌and◌, ◌or◌}
use Rattle.rules.specs.Layout.{nodes, kind_at, a_at, flag_on, channel_value}
use Rattle.rules.specs.Values.{int_t, maybe_of}
use Rattle.rules.specs.declared.Value.TheVariants.{Absent}
use Rattle.rules.specs.Calls.{input_wrong, run_call}
use Rattle.rules.proofs.Kids.{or_none}
use Rattle.rules.proofs.Static.{not_both, and_both}
use Rattle.unplugged.specs.Alike.{Names, Alike, AllAlike, SameRuns}
use Rattle.unplugged.proofs.Unplugged.{unplugged}
use Rattle.channels.specs.Named.{input_of, some_below, named, bit_of, named_channels, bit_in}
use Rattle.channels.specs.Told.{Agree, AllAgree}

-- Below, and not there.
le_lt : (i n : ℕ) → i ≤ n → (i ≡ n → ⊥) → i < n
le_lt i n h d = omega (arith, d)

module _ (p : Bytes) (k : ℕ) where
  -- A place where the test holds is an input node that names the channel.
  is_names : (i : ℕ) → i < nodes p → input_of p k i ≡ true → Names p k
  unfolding input_of
  is_names i h e = let t = and_both _ _ e in record { node = i; within = h; input = eqb-true _ _ t.0; channel = eqb-true _ _ t.1 }

  -- Where some place below n passes, some input node names the channel.
  names_below : (n : ℕ) → n ≤ nodes p → some_below (input_of p k) n ≡ true → Names p k
  unfolding some_below ◌or◌
  names_below zero h e = absurd (not_both e)
  names_below (suc n) h e = go (input_of p k n) refl e (names_below n (omega arith))
    where
      go : (b : Bool) → input_of p k n ≡ b → (b or some_below (input_of p k) n) ≡ true → (some_below (input_of p k) n ≡ true → Names p k) → Names p k
      go true f g again = is_names n (omega arith) f
      go false f g again = again g

  -- An input node that names the channel passes below every n behind it.
  below_names : (i n : ℕ) → i < n → input_of p k i ≡ true → some_below (input_of p k) n ≡ true
  unfolding some_below ◌or◌
  below_names i zero h e = absurd (omega arith)
  below_names i (suc n) h e = go (input_of p k n) refl λ l. below_names i n l e
    where
      go : (b : Bool) → input_of p k n ≡ b → (i < n → some_below (input_of p k) n ≡ true) → (b or some_below (input_of p k) n) ≡ true
      go true f again = refl
      go false f again = again (le_lt i n (omega arith) λ q. not_both (sym f ∙ ap (input_of p k) (sym q) ∙ e))

  -- A channel is named exactly where unplugged's predicate holds of it.
  pub named_names : named p k ≡ true → Names p k
  unfolding named
  named_names e = names_below (nodes p) (omega arith) e

  pub names_named : Names p k → named p k ≡ true
  unfolding named input_of ◌and◌
  names_named h = below_names h.node (nodes p) h.within (rw (eq-eqb _ _ h.input, eq-eqb _ _ h.channel) refl)

-- A bit is at most 1, and is 1 where it is of true.
bit_most : (b : Bool) → bit_of b ≤ 1
unfolding bit_of
bit_most true = omega arith
bit_most false = omega arith

bit_is : (b : Bool) (n : ℕ) → n ≡ bit_of b → eqb n 1 ≡ b
unfolding bit_of
bit_is true n e = eq-eqb n 1 e
bit_is false n e = ne_eqb n 1 λ f. absurd (omega (arith, e, f))

-- Eight bits in one number, taken out again.
module _ (x₀ x₁ x₂ x₃ x₄ x₅ x₆ x₇ : Bool) where
  abbrev sum : ℕ
  sum =
      bit_of x₀ + 2 * bit_of x₁ + 4 * bit_of x₂ + 8 * bit_of x₃ + 16 * bit_of x₄ + 32 * bit_of x₅ + 64 * bit_of x₆ + 128 * bit_of x₇

  abbrev Bit : ℕ → Bool → Type 0
  Bit d x = sum / d % 2 ≡ bit_of x

  taken : Bit 1 x₀ × Bit 2 x₁ × Bit 4 x₂ × Bit 8 x₃ × Bit 16 x₄ × Bit 32 x₅ × Bit 64 x₆ × Bit 128 x₇
  taken =
      let a = bit_most x₀ in
      let b = bit_most x₁ in
      let c = bit_most x₂ in
      let d = bit_most x₃ in
      let e = bit_most x₄ in
      let f = bit_most x₅ in
      let g = bit_most x₆ in
      let h = bit_most x₇ in
      (omega arith, omega arith, omega arith, omega arith, omega arith, omega arith, omega arith, omega arith)

-- Bit k of a number whose eight bits are those of a test.
eighth : (n : ℕ) (test : ℕ → Bool) → n / 1 % 2 ≡ bit_of (test 0) → n / 2 % 2 ≡ bit_of (test 1) → n / 4 % 2 ≡ bit_of (test 2)
    → n / 8 % 2 ≡ bit_of (test 3) → n / 16 % 2 ≡ bit_of (test 4) → n / 32 % 2 ≡ bit_of (test 5) → n / 64 % 2 ≡ bit_of (test 6)
    → n / 128 % 2 ≡ bit_of (test 7) → (k : ℕ) → k < 8 → bit_in n k ≡ test k
unfolding bit_in
eighth n test a b c d e f g i zero h = bit_is (test 0) _ a
eighth n test a b c d e f g i (suc zero) h = bit_is (test 1) _ b
eighth n test a b c d e f g i (suc (suc zero)) h = bit_is (test 2) _ c
eighth n test a b c d e f g i (suc (suc (suc zero))) h = bit_is (test 3) _ d
eighth n test a b c d e f g i (suc (suc (suc (suc zero)))) h = bit_is (test 4) _ e
eighth n test a b c d e f g i (suc (suc (suc (suc (suc zero))))) h = bit_is (test 5) _ f
eighth n test a b c d e f g i (suc (suc (suc (suc (suc (suc zero)))))) h = bit_is (test 6) _ g
eighth n test a b c d e f g i (suc (suc (suc (suc (suc (suc (suc zero))))))) h = bit_is (test 7) _ i
eighth n test a b c d e f g i (suc (suc (suc (suc (suc (suc (suc (suc k)))))))) h = absurd (omega arith)

-- Bit k of the number tells channel k.
pub bit_named : (p : Bytes) (k : ℕ) → k < 8 → bit_in (named_channels p) k ≡ named p k
unfolding named_channels
bit_named p k h =
    let t = taken (named p 0) (named p 1) (named p 2) (named p 3) (named p 4) (named p 5) (named p 6) (named p 7) in
    eighth (named_channels p) (named p) t.0 t.1 t.2 t.3 t.4 t.5 t.6 t.7 k h

-- It is 1 exactly where some input node names channel k.
pub bit_names : (p : Bytes) (k : ℕ) → k < 8 → bit_in (named_channels p) k ≡ true → Names p k
bit_names p k h e = named_names p k (sym (bit_named p k h) ∙ e)

pub names_bit : (p : Bytes) (k : ℕ) → k < 8 → Names p k → bit_in (named_channels p) k ≡ true
names_bit p k h e = bit_named p k h ∙ names_named p k e

-- A number below 16 has no bit above the fourth.
no_bit : (n m : ℕ) → n < 16 → 4 ≤ m → n / 2 ^ m % 2 ≡ 0
no_bit n m h l =
    let power : 16 ≤ 2 ^ m = pow_mono l in
    let part : n / 2 ^ m < 1 = (div-lt_iff_lt-mul (pow_pos m)).1 (omega arith) in
    ap (λ (x : ℕ). x % 2) (let z : n / 2 ^ m ≡ 0 = omega arith in z)

-- The flags of a well-formed record are below 16.
flags_below : (rec : Bytes) → input_wrong rec ≡ false → byte_at rec 20 < 16
unfolding input_wrong
flags_below rec e =
    let first = (or_none _ _ (or_none _ _ (or_none _ _ (or_none _ _ (or_none _ _ (or_none _ _ e).0).0).0).0).0).0 in
    let most = ltb-false 15 (byte_at rec 20) first in
    omega arith

-- So no event came on a channel above 7.
past_seven : (rec : Bytes) (k : ℕ) → input_wrong rec ≡ false → 8 ≤ k → channel_value rec k ≡ Absent (maybe_of int_t)
unfolding channel_value flag_on
past_seven rec k e h =
    let none : byte_at rec 20 / 2 ^ (k - 4) % 2 ≡ 0 = no_bit (byte_at rec 20) (k - 4) (flags_below rec e) (omega arith) in
    rw (le-ltb k 4 (omega arith), none) refl

-- Records that agree on the channels whose bits are 1 are alike for unplugged.
pub agree_alike : (p rec₁ rec₂ : Bytes) → Agree (named_channels p) rec₁ rec₂ → Alike p rec₁ rec₂
agree_alike p rec₁ rec₂ a = record {
  well₁ = a.well₁;
  well₂ = a.well₂;
  moment = a.moment;
  channels = λ k n. go k n (ltb k 8) refl;
}
  where
    go : (k : ℕ) → Names p k → (b : Bool) → ltb k 8 ≡ b → channel_value rec₁ k ≡ channel_value rec₂ k
    go k n true e = let h = ltb-true k 8 e in a.channels k h (names_bit p k h n)
    go k n false e = let h = ltb-false k 8 e in past_seven rec₁ k a.well₁ h ∙ sym (past_seven rec₂ k a.well₂ h)

-- And alike records agree on them.
pub alike_agree : (p rec₁ rec₂ : Bytes) → Alike p rec₁ rec₂ → Agree (named_channels p) rec₁ rec₂
alike_agree p rec₁ rec₂ a = record {
  well₁ = a.well₁;
  well₂ = a.well₂;
  moment = a.moment;
  channels = λ k h e. a.channels k (bit_names p k h e);
}

-- h), by the bits that a user reads: lists of records that agree on the channels told give runs that cannot be told apart.
pub told : (p st recs₁ recs₂ out₁ out₂ : Bytes) → length out₁ ≡ length out₂ → AllAgree (named_channels p) recs₁ recs₂
    → SameRuns out₁ out₂ (run_call p st recs₁ out₁) (run_call p st recs₂ out₂)
told p st recs₁ recs₂ out₁ out₂ e a =
    unplugged p st recs₁ recs₂ out₁ out₂ e (record { as_many = a.as_many; each = λ k h. agree_alike p _ _ (a.each k h) })
