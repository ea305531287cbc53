-- A search over the places, and eight bits.
-- Assumes nothing.
use mathlib.Core.Path.{◌≡◌, refl, ap, ◌∙◌}
use mathlib.Core.Bool.{Bool, true, false}
use Rattle.std.proofs.Common.{List, [], ◌∷◌, ◌++◌, ◌||◌}
use Rattle.std.specs.List.{list_any, range_with_len}
use Rattle.std.proofs.lemmas.List.Folds.{list_any-append}
use Prim.Native.Nat.{ℕ, zero, suc, ◌+◌, ◌*◌}
use native.Mathlib.Omega.{arith}
use Rattle.rules.specs.Bytes.{Bytes, ◌or◌}
use Rattle.rules.specs.Layout.{nodes}
use Rattle.channels.specs.Named.{input_of, some_below, named, bit_of, named_channels}

-- One place more in a range.
range_more : (a n : ℕ) → range_with_len a (suc n) ≡ range_with_len a n ++ (a + n) ∷ []
range_more a zero = let e : a ≡ a + 0 = omega arith in ap (λ (x : ℕ). x ∷ []) e
range_more a (suc n) =
    let e : (a + 1) + n ≡ a + suc n = omega arith in
    ap (λ (xs : List ℕ). a ∷ xs) (range_more (a + 1) n ∙ ap (λ (x : ℕ). range_with_len (a + 1) n ++ x ∷ []) e)

swapped : (x y : Bool) → (x || (y || false)) ≡ (y or x)
unfolding ◌or◌
swapped true true = refl
swapped true false = refl
swapped false true = refl
swapped false false = refl

-- Some of the places below n passes: the search from the first on finds one where that from the last on does.
pub any_below : (test : ℕ → Bool) (n : ℕ) → list_any test (range_with_len 0 n) ≡ some_below test n
unfolding some_below
any_below test zero = refl
any_below test (suc n) =
    let last : 0 + n ≡ n = omega arith in
    ap (list_any test) (range_more 0 n) ∙ list_any-append test (range_with_len 0 n) ((0 + n) ∷ [])
    ∙ swapped (list_any test (range_with_len 0 n)) (test (0 + n)) ∙ ap (λ (x : ℕ). test x or list_any test (range_with_len 0 n)) last
    ∙ ap (λ (b : Bool). test n or b) (any_below test n)

-- Eight bits, each of the first n nodes, are the program's where n is the count of its nodes.
pub bits_are : (p : Bytes) {n b₀ b₁ b₂ b₃ b₄ b₅ b₆ b₇ : ℕ} → n ≡ nodes p
    → b₀ ≡ bit_of (some_below (input_of p 0) n) → b₁ ≡ bit_of (some_below (input_of p 1) n)
    → b₂ ≡ bit_of (some_below (input_of p 2) n) → b₃ ≡ bit_of (some_below (input_of p 3) n)
    → b₄ ≡ bit_of (some_below (input_of p 4) n) → b₅ ≡ bit_of (some_below (input_of p 5) n)
    → b₆ ≡ bit_of (some_below (input_of p 6) n) → b₇ ≡ bit_of (some_below (input_of p 7) n)
    → b₀ + 2 * b₁ + 4 * b₂ + 8 * b₃ + 16 * b₄ + 32 * b₅ + 64 * b₆ + 128 * b₇ ≡ named_channels p
unfolding named_channels named
bits_are p e f₀ f₁ f₂ f₃ f₄ f₅ f₆ f₇ = rw (f₀, f₁, f₂, f₃, f₄, f₅, f₆, f₇, e) refl
