-- The rest of a form's row, as it is put.
-- Assumes nothing.
use mathlib.Core.Path.{◌≡◌, refl, ap, ◌∙◌}
use mathlib.Core.List.{List}
use Prim.Native.Nat.{ℕ, ◌<◌}
use native.Mathlib.Omega.{arith}
use lib.ListN.{length, get_or, set}
use borrow.Author.Tests.{eq-eqb, ne_eqb}
use Rattle.reader.specs.Held.{numbers_in, appended, rest_put}
use Rattle.reader.proofs.RowLaws.{numbers_count, numbers_length}

module _ (xs y : List ℕ) (k ty a b c word : ℕ) (e : y ≡ numbers_in xs k ty a b c word) where
  pub rest_room : (length xs ≡ 13118) × (get_or xs 1 0 < 1008) → (length y ≡ 13118) × (get_or y 1 0 < 1008)
  rest_room l =
      (ap length e ∙ numbers_length xs k ty a b c word ∙ l.0, omega (arith, ap (λ (zs : List ℕ). get_or zs 1 0) e, numbers_count xs k ty a b c word, l.1))

  pub rest_put_lem : (z : List ℕ) (u v place n : ℕ) → n ≡ get_or y 1 0 → z ≡ appended y u v place → set z 3 n ≡ set (appended (numbers_in xs k ty a b c word) u v place) 3 (get_or xs 1 0)
  rest_put_lem z u v place n g h =
      let p = h ∙ ap (λ (l : List ℕ). appended l u v place) e in
      let q = g ∙ ap (λ (l : List ℕ). get_or l 1 0) e ∙ numbers_count xs k ty a b c word in
      λ i. set (p i) 3 (q i)

-- Of a case, and of any other form.
module _ (xs : List ℕ) (k ty a b c cend word place : ℕ) where
  pub rest_case : k ≡ 10 → set (appended (numbers_in xs k ty a b 0 word) c cend place) 3 (get_or xs 1 0) ≡ rest_put xs k ty a b c cend word place
  unfolding rest_put
  rest_case e = rw (eq-eqb k 10 e) refl

  pub rest_other : (k ≡ 10 → ⊥) → set (appended (numbers_in xs k ty a b c word) 0 0 place) 3 (get_or xs 1 0) ≡ rest_put xs k ty a b c cend word place
  unfolding rest_put
  rest_other e = rw (ne_eqb k 10 e) refl
