-- Writing nothing, a byte, and one text behind another.
-- Assumes nothing.
use mathlib.Core.Path.{◌≡◌, refl, sym, ap, ◌∙◌}
use mathlib.Core.List.{List, [], ◌∷◌, ◌++◌}
use Prim.Native.Nat.{ℕ, zero, suc, ◌+◌, ◌≤◌, ◌<◌}
use native.Mathlib.Omega.{arith}
use lib.ListN.{length, set, take, get_or, replicate, length-append}
use lib.Seq.{set_out, take-suc}
use Rattle.rules.specs.Bytes.{Bytes, write_at}
use Rattle.texts.specs.Printer.{Piece}
use Rattle.letters.specs.Wrote.{Wrote, spread}

pub write_more : (xs ys s : Bytes) (i j : ℕ) → j ≡ i + length xs → write_at (write_at s i xs) j ys ≡ write_at s i (xs ++ ys)
unfolding write_at
write_more [] ys s i j e = ap (λ (k : ℕ). write_at s k ys) (omega arith)
write_more (x ∷ xs) ys s i j e = write_more xs ys (set s i x) (suc i) j (omega arith)

pub wrote_none : (s : Bytes) (at : ℕ) → Wrote s at [] s at
unfolding write_at
wrote_none s at = record { done = λ h. (omega arith, refl) }

pub wrote_as : {s s' xs ys : Bytes} {at r : ℕ} → xs ≡ ys → Wrote s at xs s' r → Wrote s at ys s' r
wrote_as e w = rw (← e) w

-- One text behind another.
pub wrote_then : {s s₁ s₂ : Bytes} {xs ys : Bytes} {a b c : ℕ} → Wrote s a xs s₁ b → Wrote s₁ b ys s₂ c → Wrote s a (xs ++ ys) s₂ c
wrote_then {s} {s₁} {s₂} {xs} {ys} {a} {b} {c} w v = record {
  done = λ h.
      let l = length-append xs ys in
      let x = w.done (omega arith) in
      let y = v.done (omega (arith, x.0)) in (
        omega (arith, x.0, y.0),
        y.1 ∙ ap (λ (t : Bytes). write_at t b ys) x.1 ∙ write_more xs ys s a b x.0,
      );
}

-- A byte: past the longest text, in the room, and behind it.
pub byte_far : (s : Bytes) (at b : ℕ) → 107868 ≤ at → Wrote s at (b ∷ []) s at
byte_far s at b h = record { done = λ l. absurd (omega arith) }

pub byte_in : (s s' : Bytes) (at b : ℕ) → s' ≡ set s at b → Wrote s at (b ∷ []) s' (at + 1)
unfolding write_at
byte_in s s' at b e = record { done = λ l. (refl, e) }

pub byte_out : (s : Bytes) (at b : ℕ) → length s ≤ at → Wrote s at (b ∷ []) s (at + 1)
unfolding write_at
byte_out s at b h = record { done = λ l. (refl, sym (set_out s at b h)) }

-- One element more of a list, and of equal ones.
pub one_more : {s s₁ s₂ : Bytes} {a b c x : ℕ} (w : Bytes) (i : ℕ) → i < length w → x ≡ get_or w i 0 → Wrote s a (take i w) s₁ b → Wrote s₁ b (x ∷ []) s₂ c
    → Wrote s a (take (i + 1) w) s₂ c
one_more {x = x} w i h e v u =
    wrote_as (ap (λ (y : ℕ). take i w ++ y ∷ []) e ∙ sym (take-suc w i 0 h) ∙ ap (λ (k : ℕ). take k w) (let z : suc i ≡ i + 1 = omega arith in z)) (wrote_then v u)

pub replicate_end : (n x : ℕ) → replicate n x ++ (x ∷ []) ≡ replicate (suc n) x
replicate_end zero x = refl
replicate_end (suc n) x = ap (λ (l : Bytes). x ∷ l) (replicate_end n x)

-- Pieces one behind another.
pub spread_app : (xs ys : List Piece) → spread (xs ++ ys) ≡ spread xs ++ spread ys
unfolding spread
spread_app [] ys = refl
spread_app (x ∷ xs) ys = simp (spread_app xs ys, mathlib.Core.List.append_assoc)

pub spread_one : (x : Piece) → spread (x ∷ []) ≡ x.before ++ x.word
unfolding spread
spread_one x = ap (λ (l : Bytes). x.before ++ l) (none_after x.word)
  where
    none_after : (l : Bytes) → l ++ [] ≡ l
    none_after [] = refl
    none_after (y ∷ l) = ap (λ (m : Bytes). y ∷ m) (none_after l)

-- A list whole, and one more of equal elements.
pub whole : {s s' : Bytes} {a r : ℕ} (w : Bytes) (i : ℕ) → length w ≤ i → Wrote s a (take i w) s' r → Wrote s a w s' r
whole w i h v = wrote_as (take_all w i h) v
  where
    take_all : (w : Bytes) (i : ℕ) → length w ≤ i → take i w ≡ w
    take_all [] zero h = refl
    take_all [] (suc i) h = refl
    take_all (x ∷ w) zero h = absurd (omega arith)
    take_all (x ∷ w) (suc i) h = ap (λ (l : Bytes). x ∷ l) (take_all w i (omega arith))

pub one_space : {s s₁ s₂ : Bytes} {a b c : ℕ} (i x : ℕ) → Wrote s a (replicate i x) s₁ b → Wrote s₁ b (x ∷ []) s₂ c → Wrote s a (replicate (i + 1) x) s₂ c
one_space i x v u = wrote_as (replicate_end i x ∙ ap (λ (k : ℕ). replicate k x) (let z : suc i ≡ i + 1 = omega arith in z)) (wrote_then v u)
