-- One byte more in hex. Assumes nothing.
use Prim.Native.Nat.{ℕ, suc, ◌+◌, ◌*◌, ◌/◌, ◌%◌, ◌<◌}
use mathlib.Core.Path.{◌≡◌, refl, sym, ap, ◌∙◌}
use mathlib.Core.List.{List, [], ◌∷◌, ◌++◌, append_assoc}
use native.Mathlib.Numerals.{add-one}
use native.Mathlib.Omega.{arith}
use lib.ListN.{length, take, set, get_or, length-set}
use lib.Seq.{take-suc, take-suc-set}
use Rattle.io.specs.Digits.{hex_digit_ascii}
use Rattle.wire.specs.Text.{hexes}

-- the hex of a list with one byte more
hexes_more : (xs : List ℕ) (b : ℕ) → hexes (xs ++ (b ∷ [])) ≡ hexes xs ++ (hex_digit_ascii (b / 16) ∷ hex_digit_ascii (b % 16) ∷ [])
unfolding hexes
hexes_more [] b = refl
hexes_more (x ∷ xs) b = ap (λ (l : List ℕ). hex_digit_ascii (x / 16) ∷ hex_digit_ascii (x % 16) ∷ l) (hexes_more xs b)

-- two stores behind a text
two : (text : List ℕ) (k h l : ℕ) → suc k < length text → take (suc (suc k)) (set (set text k h) (suc k) l) ≡ take k text ++ (h ∷ l ∷ [])
two text k h l lt =
    take-suc-set (set text k h) (suc k) l (simp length-set (omega arith))
    ∙ ap (λ (t : List ℕ). t ++ (l ∷ [])) (take-suc-set text k h (omega arith))
    ∙ append_assoc (take k text) (h ∷ []) (l ∷ [])

-- a turn of `hex`
pub pair : (s text : List ℕ) (i b : ℕ) {h l : ℕ} → i < length s → 2 * i + 1 < length text → take (2 * i) text ≡ hexes (take i s)
    → h ≡ hex_digit_ascii (b / 16) → l ≡ hex_digit_ascii (b % 16) → b ≡ get_or s i 0
    → take (2 * (i + 1)) (set (set text (2 * i) h) (2 * i + 1) l) ≡ hexes (take (i + 1) s)
pair s text i b {h} {l} in-s in-text so_far high low at =
    let e : 2 * (i + 1) ≡ suc (suc (2 * i)) = omega arith in
    ap (λ (k : ℕ). take k (set (set text (2 * i) h) (2 * i + 1) l)) e
    ∙ ap (λ (k : ℕ). take (suc (suc (2 * i))) (set (set text (2 * i) h) k l)) (add-one (2 * i))
    ∙ two text (2 * i) h l (omega arith)
    ∙ ap (λ (t : List ℕ). t ++ (h ∷ l ∷ [])) so_far
    ∙ ap (λ (x : ℕ). hexes (take i s) ++ (x ∷ l ∷ [])) high
    ∙ ap (λ (x : ℕ). hexes (take i s) ++ (hex_digit_ascii (b / 16) ∷ x ∷ [])) low
    ∙ sym (hexes_more (take i s) b)
    ∙ ap (λ (x : ℕ). hexes (take i s ++ (x ∷ []))) at
    ∙ ap hexes (sym (take-suc s i 0 in-s) ∙ ap (λ (k : ℕ). take k s) (sym (add-one i)))
