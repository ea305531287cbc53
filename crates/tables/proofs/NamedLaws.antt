-- A number read digit by digit. Assumes nothing.
use Rattle.std.specs.Prelude.{if◌then◌else◌}
use Prim.Native.Nat.{ℕ, suc, ◌+◌, ◌*◌, ◌-◌, ◌≤◌, ◌<◌}
use mathlib.Core.Path.{◌≡◌, refl, sym, ap, ◌∙◌}
use mathlib.Core.Bool.{Bool, true, false}
use mathlib.Core.List.{List, [], ◌∷◌}
use native.Mathlib.Numerals.{add-one}
use native.Mathlib.Omega.{arith}
use borrow.Author.Tests.{lt-ltb, le-ltb}
use lib.Dec.{ltb}
use lib.ListN.{length, get_or, drop, drop_of_length-le}
use lib.Seq.{drop-cons}
use Rattle.std.proofs.lemmas.Grind.{common_steps}
use Rattle.tables.specs.Named.{with_digit, number_from, number_of}

-- a byte below or above the digits
pub low : (n b : ℕ) → b < 48 → with_digit n b ≡ 65536
unfolding with_digit
low n b h = rw (lt-ltb b 48 h) refl

pub high : (n b : ℕ) → 57 < b → with_digit n b ≡ 65536
unfolding with_digit
high n b h = rw (le-ltb b 48 (omega arith), lt-ltb 57 b h) refl

-- a digit, behind which the number is none of 16 bits, or is one
pub large : (n b : ℕ) → 48 ≤ b → b ≤ 57 → 65535 < n * 10 + (b - 48) → with_digit n b ≡ 65536
unfolding with_digit
large n b l h m = rw (le-ltb b 48 l, le-ltb 57 b h, lt-ltb 65535 (n * 10 + (b - 48)) m) refl

pub digit : (n b : ℕ) → 48 ≤ b → b ≤ 57 → n * 10 + (b - 48) ≤ 65535 → with_digit n b ≡ n * 10 + (b - 48)
unfolding with_digit
digit n b l h m = rw (le-ltb b 48 l, le-ltb 57 b h, le-ltb 65535 (n * 10 + (b - 48)) m) refl

-- a digit more, or none
pub ruleset digits = (common_steps, low, high, large, digit)

-- an empty text
pub nothing : (text : List ℕ) → length text ≡ 0 → number_of text ≡ 65536
unfolding number_of
nothing [] h = refl
nothing (b ∷ bs) h = absurd (omega arith)

-- a text of at least one byte
pub begins : (text : List ℕ) → 0 < length text → number_from 0 text ≡ number_of text
unfolding number_of
begins [] h = absurd (omega arith)
begins (b ∷ bs) h = refl

one_more : (text : List ℕ) (n i : ℕ) → i < length text
    → number_from n (drop i text) ≡ (if ltb 65535 (with_digit n (get_or text i 0)) then 65536 else number_from (with_digit n (get_or text i 0)) (drop (suc i) text))
unfolding number_from
one_more text n i h = ap (number_from n) (drop-cons text i 0 h)

-- a byte that makes no number of 16 bits
pub over : (text : List ℕ) (n i : ℕ) → i < length text → number_from n (drop i text) ≡ number_of text → with_digit n (get_or text i 0) ≡ 65536 → number_of text ≡ 65536
over text n i h e d =
    let t : ltb 65535 (with_digit n (get_or text i 0)) ≡ true = ap (ltb 65535) d in
    sym e ∙ one_more text n i h ∙ ap (λ (b : Bool). if b then 65536 else number_from (with_digit n (get_or text i 0)) (drop (suc i) text)) t

-- a digit
pub grows : (text : List ℕ) (n i m : ℕ) → i < length text → number_from n (drop i text) ≡ number_of text → with_digit n (get_or text i 0) ≡ m → m ≤ 65535
    → number_from m (drop (i + 1) text) ≡ number_of text
grows text n i m h e d small =
    let t : ltb 65535 (with_digit n (get_or text i 0)) ≡ false = ap (ltb 65535) d ∙ le-ltb 65535 m small in
    ap (λ (k : ℕ). number_from m (drop k text)) (add-one i) ∙ ap (λ (k : ℕ). number_from k (drop (suc i) text)) (sym d)
    ∙ sym (one_more text n i h ∙ ap (λ (b : Bool). if b then 65536 else number_from (with_digit n (get_or text i 0)) (drop (suc i) text)) t) ∙ e

-- the end of the text
pub ends : (text : List ℕ) (n i : ℕ) → length text ≤ i → number_from n (drop i text) ≡ number_of text → number_of text ≡ n
unfolding number_from
ends text n i h e = sym e ∙ ap (number_from n) (drop_of_length-le text h)
