-- The records of two lists one after the other.
-- Assumes nothing.
use mathlib.Core.Path.{◌≡◌, refl, sym, ap, ◌∙◌}
use mathlib.Core.List.{[], ◌∷◌, ◌++◌}
use Prim.Native.Nat.{ℕ, zero, suc, ◌+◌, ◌-◌, ◌*◌, ◌≤◌, ◌<◌}
use native.Mathlib.Omega.{arith}
use lib.ListN.{length, take, drop, length-drop}
use Rattle.rules.specs.Bytes.{Bytes}
use Rattle.rules.specs.Layout.{input_length, input_at}

drop_within : (i : ℕ) (s t : Bytes) → i ≤ length s → drop i (s ++ t) ≡ drop i s ++ t
drop_within zero s t h = refl
drop_within (suc i) [] t h = absurd (omega arith)
drop_within (suc i) (x ∷ s) t h = drop_within i s t (omega arith)

take_within : (i : ℕ) (s t : Bytes) → i ≤ length s → take i (s ++ t) ≡ take i s
take_within zero s t h = refl
take_within (suc i) [] t h = absurd (omega arith)
take_within (suc i) (x ∷ s) t h = ap (λ (u : Bytes). x ∷ u) (take_within i s t (omega arith))

drop_nil : (i : ℕ) → drop i [] ≡ (let n : Bytes = [] in n)
drop_nil zero = refl
drop_nil (suc i) = refl

drop_suc : (n : ℕ) (x : ℕ) (s : Bytes) (m : ℕ) → m ≡ suc n → drop m (x ∷ s) ≡ drop n s
drop_suc n x s m e = ap (λ (k : ℕ). drop k (x ∷ s)) e

pub drop_past : (s t : Bytes) (i : ℕ) → drop (length s + i) (s ++ t) ≡ drop i t
drop_past [] t i = ap (λ (k : ℕ). drop k t) (let e : 0 + i ≡ i = omega arith in e)
drop_past (x ∷ s) t i = drop_suc (length s + i) x (s ++ t) (suc (length s) + i) (omega arith) ∙ drop_past s t i

-- A record of the first list.
pub input_before : (recs₁ recs₂ : Bytes) (k m : ℕ) → length recs₁ ≡ input_length * m → k < m → input_at (recs₁ ++ recs₂) k ≡ input_at recs₁ k
unfolding input_at
input_before recs₁ recs₂ k m l h =
    ap (take input_length) (drop_within (input_length * k) recs₁ recs₂ (omega arith))
    ∙ take_within input_length (drop (input_length * k) recs₁) recs₂ (omega (arith, length-drop (input_length * k) recs₁))

-- A record of the second.
pub input_after : (recs₁ recs₂ : Bytes) (k m : ℕ) → length recs₁ ≡ input_length * m → input_at (recs₁ ++ recs₂) (m + k) ≡ input_at recs₂ k
unfolding input_at
input_after recs₁ recs₂ k m l =
    let e : input_length * (m + k) ≡ length recs₁ + input_length * k = omega arith in
    ap (λ (i : ℕ). take input_length (drop i (recs₁ ++ recs₂))) e ∙ ap (take input_length) (drop_past recs₁ recs₂ (input_length * k))
