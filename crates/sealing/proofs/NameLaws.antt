-- The search of a name among the rows.
-- Assumes nothing.
use mathlib.Core.Path.{◌≡◌, refl, sym, ap, ◌∙◌}
use mathlib.Core.Bool.{Bool, true, false}
use mathlib.Core.List.{List}
use Prim.Native.Nat.{ℕ, zero, suc, ◌+◌, ◌-◌, ◌*◌, ◌%◌, ◌≤◌, ◌<◌}
use native.Mathlib.Omega.{arith}
use lib.ListN.{get_or}
use borrow.Author.Tests.{eq-eqb, ne_eqb}
use Rattle.rules.specs.Bytes.{Bytes}
use Rattle.texts.specs.Spelled.{same}
use Rattle.texts.specs.Resolved.{number_of, binder_of, branch_of}
use Rattle.labels.specs.Noted.{named_by}
use Rattle.sealing.specs.Scratch.{count_in, column_of, name_in, row_in, rows_of, rows_in}
use Rattle.sealing.specs.Found.{found_from, found_in, settled_in}

module _ (w text : Bytes) (s : List ℕ) (k : ℕ) where
  pub found_start : found_in w text s k ≡ found_from w text s k (count_in s - 0) 0
  unfolding found_in
  found_start = ap (λ (n : ℕ). found_from w text s k n 0) (let z : count_in s ≡ count_in s - 0 = omega arith in z)

  next : (n j : ℕ) (b : Bool) → same w (name_in text s j k) ≡ b → found_from w text s k (suc n) j ≡ elim b [ true ↦ j | false ↦ found_from w text s k n (j + 1) ]
  unfolding found_from
  next n j b e = rw (e, found_from) refl

  from_next : (count j : ℕ) → j < count → found_from w text s k (count - j) j ≡ found_from w text s k (suc (count - (j + 1))) j
  from_next count j h = ap (λ (n : ℕ). found_from w text s k n j) (let z : count - j ≡ suc (count - (j + 1)) = omega arith in z)

  pub found_at : (count j : ℕ) → j < count → same w (name_in text s j k) ≡ true → found_from w text s k (count - j) j ≡ j
  found_at count j h e = from_next count j h ∙ next (count - (j + 1)) j true e

  pub found_on : (count j : ℕ) → j < count → same w (name_in text s j k) ≡ false
      → found_from w text s k (count - j) j ≡ found_from w text s k (count - (j + 1)) (j + 1)
  found_on count j h e = from_next count j h ∙ next (count - (j + 1)) j false e

  pub found_none : (count j : ℕ) → count ≤ j → found_from w text s k (count - j) j ≡ 0
  unfolding found_from
  found_none count j h = ap (λ (n : ℕ). found_from w text s k n j) (let z : count - j ≡ 0 = omega arith in z)

chosen : (b : Bool) (x : ℕ) {y z : ℕ} → y ≡ z → ◌≡◌ {A = ℕ} (elim b [ true ↦ x | false ↦ y ]) (elim b [ true ↦ x | false ↦ z ])
chosen true x e = refl
chosen false x e = e

-- The definitions' search in the rows is the same.
module _ (w text : Bytes) (s : List ℕ) where
  binder_from : (n j : ℕ) → number_of (λ r. same w r.binds) j (rows_of text s n j) ≡ found_from w text s 6 n j
  unfolding number_of rows_of found_from row_in
  binder_from zero j = refl
  binder_from (suc n) j = chosen (same w (name_in text s j 6)) j (binder_from n (j + 1))

  branch_from : (n j : ℕ) → number_of (λ r. same w r.label) j (rows_of text s n j) ≡ found_from w text s 8 n j
  unfolding number_of rows_of found_from row_in
  branch_from zero j = refl
  branch_from (suc n) j = chosen (same w (name_in text s j 8)) j (branch_from n (j + 1))

  pub binder_is : binder_of (rows_in text s) w ≡ found_in w text s 6
  unfolding binder_of rows_in found_in
  binder_is = binder_from (count_in s) 0

  pub branch_is : branch_of (rows_in text s) w ≡ found_in w text s 8
  unfolding branch_of rows_in found_in
  branch_is = branch_from (count_in s) 0

-- Column 0.
pub first_column : (s : List ℕ) (j : ℕ) → get_or s (13 * j + 14) 0 ≡ column_of s j 0
first_column s j = ap (λ (m : ℕ). get_or s m 0) (let z : 13 * j + 14 ≡ 13 * j + 14 + 0 = omega arith in z)

-- What a field comes to.
module _ (text : Bytes) (s : List ℕ) (j kind k number : ℕ) {x : ℕ} (e : x ≡ get_or s (13 * j + 14) 0 % 256) where
  of_kind : x ≡ column_of s j 0 % 256
  of_kind = e ∙ ap (λ (n : ℕ). n % 256) (first_column s j)

  pub settled_other : (x ≡ kind → ⊥) → number ≡ settled_in text s j kind k number
  unfolding settled_in
  settled_other f = sym (rw (ne_eqb (column_of s j 0 % 256) kind (λ q. f (of_kind ∙ q)), settled_in) refl)

  pub settled_own : {r : ℕ} → x ≡ kind → r ≡ found_in (named_by text (column_of s j 10) (column_of s j 11)) text s k → r ≡ settled_in text s j kind k number
  unfolding settled_in name_in
  settled_own f q =
      q ∙ ap (λ (m : ℕ). found_in (named_by text (column_of s j 10) (get_or s m 0)) text s k) (let z : 13 * j + 14 + 11 ≡ 13 * j + 14 + 10 + 1 = omega arith in z)
      ∙ sym (rw (eq-eqb (column_of s j 0 % 256) kind (sym of_kind ∙ f), settled_in) refl)
