-- Code 12 by the words of the channels 4-7, asked together and one after the other, and by the flags and the zero bytes as one number.
-- Assumes nothing.
use mathlib.Core.Path.{◌≡◌, sym, ◌∙◌, ap, refl}
use mathlib.Core.Bool.{Bool, true, false, not}
use Prim.Native.Nat.{ℕ, ◌+◌, ◌*◌}
use native.Mathlib.Omega.{arith}
use lib.Dec.{eqb, ltb}
use borrow.Author.Tests.{ltb-true, ltb-false, lt-ltb, le-ltb, eqb-true, eqb-false, ne_eqb}
use Rattle.rules.proofs.Static.{and_both}
use Rattle.rules.specs.Bytes.{Bytes, byte_at, u16_at, u32_at, u64_at, ◌and◌, ◌or◌}
use Rattle.rules.specs.Layout.{flag_on, event_on}
use Rattle.rules.specs.Calls.{absent_wrong}

-- Both of two tests, the second known.
pub and_false : (b : Bool) → false ≡ (b and false)
unfolding ◌and◌
and_false true = refl
and_false false = refl

pub and_true : (b : Bool) → b ≡ (b and true)
unfolding ◌and◌
and_true true = refl
and_true false = refl

-- A word that is zero is not wrong.
pub zero_word : (rec : Bytes) (c : ℕ) {word : ℕ} → word ≡ u32_at rec (24 + 4 * c) → word ≡ 0 → false ≡ absent_wrong rec c
unfolding absent_wrong event_on
zero_word rec c e z = and_false (eqb (flag_on rec c) 0) ∙ ap (λ (x : ℕ). eqb (flag_on rec c) 0 and not (eqb x 0)) (sym z ∙ e)

-- Another one is wrong where the channel's flag is off.
pub some_word : (rec : Bytes) (c : ℕ) {word : ℕ} → word ≡ u32_at rec (24 + 4 * c) → (word ≡ 0 → ⊥) → eqb (flag_on rec c) 0 ≡ absent_wrong rec c
unfolding absent_wrong event_on
some_word rec c {word} e n = and_true (eqb (flag_on rec c) 0) ∙ ap (λ (b : Bool). eqb (flag_on rec c) 0 and not b) (sym (ne_eqb word 0 n)) ∙ ap (λ (x : ℕ). eqb (flag_on rec c) 0 and not (eqb x 0)) e

-- Four tests: the first that holds answers, else the last.
pub by_first : (b c d : Bool) {a r : Bool} → r ≡ a → r ≡ true → true ≡ (a or b or c or d)
unfolding ◌or◌
by_first b c d e f = cc

pub by_second : (c d : Bool) {a b r s : Bool} → r ≡ a → r ≡ false → s ≡ b → s ≡ true → true ≡ (a or b or c or d)
unfolding ◌or◌
by_second c d e f g h = cc

pub by_third : (d : Bool) {a b c r s t : Bool} → r ≡ a → r ≡ false → s ≡ b → s ≡ false → t ≡ c → t ≡ true → true ≡ (a or b or c or d)
unfolding ◌or◌
by_third d e f g h i j = cc

pub by_last : {a b c d r s t u : Bool} → r ≡ a → r ≡ false → s ≡ b → s ≡ false → t ≡ c → t ≡ false → u ≡ d → u ≡ (a or b or c or d)
unfolding ◌or◌
by_last e f g h i j k = cc

-- Where the eight bytes at 24 and at 32 are zero, no word is wrong.
pub no_word : (rec : Bytes) {r : Bool} → r ≡ (eqb (u64_at rec 24) 0 and eqb (u64_at rec 32) 0) → r ≡ true
    → false ≡ (absent_wrong rec 0 or absent_wrong rec 1 or absent_wrong rec 2 or absent_wrong rec 3)
unfolding u64_at
no_word rec e f =
    let zero = and_both (eqb (u64_at rec 24) 0) (eqb (u64_at rec 32) 0) (sym e ∙ f) in
    let first = eqb-true (u64_at rec 24) 0 zero.0 in
    let last = eqb-true (u64_at rec 32) 0 zero.1 in
    by_last refl (sym (zero_word rec 0 refl (omega arith)))
    refl (sym (zero_word rec 1 refl (omega arith)))
    refl (sym (zero_word rec 2 refl (omega arith)))
    (zero_word rec 3 refl (omega arith))

-- The flags and the three zero bytes as one number: it is above 15 where the flags are, or where one of the others is not zero.
pub flags_and_zeros : (rec : Bytes)
    → ltb 15 (u32_at rec 20) ≡ (ltb 15 (byte_at rec 20) or not (eqb (byte_at rec 21) 0 and eqb (byte_at rec 22) 0 and eqb (byte_at rec 23) 0))
unfolding u32_at u16_at ◌and◌ ◌or◌
flags_and_zeros rec = go (byte_at rec 20) (byte_at rec 21) (byte_at rec 22) (byte_at rec 23) _ refl _ _ _ _ refl refl refl refl
  where
    go : (a b c d n : ℕ) → n ≡ a + 256 * b + 65536 * (c + 256 * d) → (w x y z : Bool) → ltb 15 a ≡ w → eqb b 0 ≡ x → eqb c 0 ≡ y → eqb d 0 ≡ z
        → ltb 15 n ≡ (w or not (x and y and z))
    go a b c d n s true x y z e f g h = lt-ltb 15 n (omega (arith, ltb-true 15 a e))
    go a b c d n s false false y z e f g h = lt-ltb 15 n (omega (arith, eqb-false b 0 f))
    go a b c d n s false true false z e f g h = lt-ltb 15 n (omega (arith, eqb-false c 0 g))
    go a b c d n s false true true false e f g h = lt-ltb 15 n (omega (arith, eqb-false d 0 h))
    go a b c d n s false true true true e f g h = le-ltb 15 n (omega (arith, ltb-false 15 a e, eqb-true b 0 f, eqb-true c 0 g, eqb-true d 0 h))

-- Four tests after another one.
pub gathered : (x a b c d : Bool) → (x or (a or b or c or d)) ≡ (x or a or b or c or d)
unfolding ◌or◌
gathered true a b c d = refl
gathered false a b c d = refl
