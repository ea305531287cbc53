-- The order of a tree: its length, and where each node stands in it.
-- Assumes nothing.
use Rattle.std.specs.Prelude.{if◌then◌else◌}
use mathlib.Core.Path.{◌≡◌, refl, sym, ap, ◌∙◌}
use mathlib.Core.List.{List, [], ◌∷◌, ◌++◌}
use mathlib.Core.Bool.{Bool, true, false}
use mathlib.Core.Logic.{◌⊎◌, inl, inr}
use Prim.Native.Nat.{ℕ, zero, suc, ◌+◌, ◌-◌, ◌<◌, ◌≤◌}
use native.Mathlib.Decide.{dec_lt}
use native.Mathlib.Omega.{arith}
use lib.Dec.{eqb}
use lib.ListN.{length, get_or}
use borrow.Author.Tests.{eqb-true, eqb-false, eq-eqb, ne_eqb}
use Rattle.rules.specs.Bytes.{Bytes}
use Rattle.rules.specs.Layout.{type_at}
use Rattle.rules.specs.Size.{size_e, size_s, size_b, size_c}
use Rattle.rules.specs.Tree.{Expr, variable, constant, operation, negation, choice, just, taking, Signal, input, time, ext, delay, let_signal, switch, group, until, Branches, no_branch, branch, Cases, no_case, case}
use Rattle.written.specs.Order.{order_e, order_s, order_b, order_c, In}
use Rattle.written.specs.Written.{place_in}
use Rattle.written.proofs.ListLaws.{app_length, app_left, app_at}

-- As many as the tree has nodes.
one : (xs : List ℕ) (n a : ℕ) → length xs ≡ a → length (xs ++ n ∷ []) ≡ 1 + a
one xs n a e = omega (arith, app_length xs (n ∷ []))

two : (xs ys : List ℕ) (n a b : ℕ) → length xs ≡ a → length ys ≡ b → length (xs ++ ys ++ n ∷ []) ≡ 1 + a + b
two xs ys n a b e f = omega (arith, app_length (xs ++ ys) (n ∷ []), app_length xs ys)

three : (xs ys zs : List ℕ) (n a b c : ℕ) → length xs ≡ a → length ys ≡ b → length zs ≡ c → length (xs ++ ys ++ zs ++ n ∷ []) ≡ 1 + a + b + c
three xs ys zs n a b c e f g = omega (arith, app_length (xs ++ ys ++ zs) (n ∷ []), app_length (xs ++ ys) zs, app_length xs ys)

pub order_e_length : (e : Expr) → length (order_e e) ≡ size_e e
unfolding order_e size_e
order_e_length (variable n b t) = refl
order_e_length (constant n v) = refl
order_e_length (operation n k x y) = two (order_e x) (order_e y) n _ _ (order_e_length x) (order_e_length y)
order_e_length (negation n x) = one (order_e x) n _ (order_e_length x)
order_e_length (choice n x y z) = three (order_e x) (order_e y) (order_e z) n _ _ _ (order_e_length x) (order_e_length y) (order_e_length z)
order_e_length (just n x) = one (order_e x) n _ (order_e_length x)
order_e_length (taking n t x y z) = three (order_e x) (order_e y) (order_e z) n _ _ _ (order_e_length x) (order_e_length y) (order_e_length z)

mutual
  unfolding order_s size_s

  pub order_s_length : (s : Signal) → length (order_s s) ≡ size_s s
  order_s_length (input n c) = refl
  order_s_length (time n) = refl
  order_s_length (ext n e) = one (order_e e) n _ (order_e_length e)
  order_s_length (delay n k v s) = one (order_s s) n _ (order_s_length s)
  order_s_length (let_signal n t d b) = two (order_s d) (order_s b) n _ _ (order_s_length d) (order_s_length b)
  order_s_length (switch n k t x y z) = three (order_s x) (order_s y) (order_s z) n _ _ _ (order_s_length x) (order_s_length y) (order_s_length z)
  order_s_length (group n k body brs) = two (order_s body) (order_b brs) n _ _ (order_s_length body) (order_b_length brs)
  order_s_length (until n s cs) = two (order_s s) (order_c cs) n _ _ (order_s_length s) (order_c_length cs)

  pub order_b_length : (brs : Branches) → length (order_b brs) ≡ size_b brs
  order_b_length no_branch = refl
  order_b_length (branch n t body next) = two (order_s body) (order_b next) n _ _ (order_s_length body) (order_b_length next)

  pub order_c_length : (cs : Cases) → length (order_c cs) ≡ size_c cs
  order_c_length no_case = refl
  order_c_length (case n event target t next) = two (order_s event) (order_c next) n _ _ (order_s_length event) (order_c_length next)

-- Entry i of a list.
unfoldable pub entry : List ℕ → ℕ → ℕ
entry xs i = get_or xs i 0

-- A property of places and numbers along a list, from place lo on.
unfoldable pub Along : (ℕ → ℕ → Type 0) → ℕ → List ℕ → Type 0
Along P lo xs = (i : ℕ) → i < length xs → P (lo + i) (entry xs i)

entry_left : (s t : List ℕ) (k : ℕ) → k < length s → entry (s ++ t) k ≡ entry s k
unfolding entry
entry_left [] t k h = absurd (omega arith)
entry_left (b ∷ s) t zero h = refl
entry_left (b ∷ s) t (suc k) h = entry_left s t k (omega arith)

entry_right : (s t : List ℕ) (k : ℕ) → entry (s ++ t) (length s + k) ≡ entry t k
unfolding entry
entry_right [] t k = ap (entry t) (let e : 0 + k ≡ k = omega arith in e)
entry_right (b ∷ s) t k = ap (entry (b ∷ (s ++ t))) (let e : suc (length s) + k ≡ suc (length s + k) = omega arith in e) ∙ entry_right s t k

module _ (P : ℕ → ℕ → Type 0) where
  pub along_none : (lo : ℕ) → Along P lo []
  unfolding Along
  along_none lo i h = absurd (omega arith)

  pub along_one : (lo n : ℕ) → P lo n → Along P lo (n ∷ [])
  unfolding Along entry
  along_one lo n h zero g = let z : lo + 0 ≡ lo = omega arith in rw z h
  along_one lo n h (suc i) g = absurd (omega arith)

  pub along_app : (lo a : ℕ) (xs ys : List ℕ) → length xs ≡ a → Along P lo xs → Along P (lo + a) ys → Along P lo (xs ++ ys)
  unfolding Along
  along_app lo a xs ys e h g i l = go (dec_lt i (length xs))
    where
      go : Dec (i < length xs) → P (lo + i) (entry (xs ++ ys) i)
      go (yes j) = rw (entry_left xs ys i j) (h i j)
      go (no j) =
          let z : i ≡ length xs + (i - length xs) = omega arith in
          let w : lo + i ≡ lo + a + (i - length xs) = omega arith in
          let u : entry (xs ++ ys) i ≡ entry ys (i - length xs) = ap (entry (xs ++ ys)) z ∙ entry_right xs ys (i - length xs) in
          rw (u, w) (g (i - length xs) (omega (arith, app_length xs ys)))

  -- And taken apart again.
  pub along_left : (lo : ℕ) (xs ys : List ℕ) → Along P lo (xs ++ ys) → Along P lo xs
  unfolding Along
  along_left lo xs ys h i l = rw (← entry_left xs ys i l) (h i (omega (arith, app_length xs ys)))

  pub along_right : (lo a : ℕ) (xs ys : List ℕ) → length xs ≡ a → Along P lo (xs ++ ys) → Along P (lo + a) ys
  unfolding Along
  along_right lo a xs ys e h i l =
      let w : lo + a + i ≡ lo + (length xs + i) = omega arith in
      rw (w, ← entry_right xs ys i) (h (length xs + i) (omega (arith, app_length xs ys)))

  pub along_is : (lo n : ℕ) → Along P lo (n ∷ []) → P lo n
  unfolding Along entry
  along_is lo n h = let z : lo ≡ lo + 0 = omega arith in rw z (h 0 (omega arith))

-- A number that is in a list.
pub in_left : (x : ℕ) (xs ys : List ℕ) → In x xs → In x (xs ++ ys)
in_left x [] ys h = absurd h
in_left x (y ∷ xs) ys (inl e) = inl e
in_left x (y ∷ xs) ys (inr h) = inr (in_left x xs ys h)

pub in_right : (x : ℕ) (xs ys : List ℕ) → In x ys → In x (xs ++ ys)
in_right x [] ys h = h
in_right x (y ∷ xs) ys h = inr (in_right x xs ys h)

pub in_last : (x : ℕ) (xs : List ℕ) → In x (xs ++ x ∷ [])
in_last x xs = in_right x xs (x ∷ []) (inl refl)

-- Its place.
pub place_here : (y x : ℕ) (xs : List ℕ) → y ≡ x → place_in (y ∷ xs) x ≡ 0
unfolding place_in
place_here y x xs e = simp (eq-eqb y x e)

pub place_there : (y x : ℕ) (xs : List ℕ) → (y ≡ x → ⊥) → place_in (y ∷ xs) x ≡ suc (place_in xs x)
unfolding place_in
place_there y x xs e = simp (ne_eqb y x e)

pub record Placed (xs : List ℕ) (x : ℕ) : Type 0 where
  pub inside : place_in xs x < length xs
  pub found : entry xs (place_in xs x) ≡ x

place_step : (y x : ℕ) (xs : List ℕ) (b : Bool) → eqb y x ≡ b → ((y ≡ x → ⊥) → Placed xs x) → Placed (y ∷ xs) x
unfolding entry
place_step y x xs true e p =
    let d = eqb-true y x e in
    let z = place_here y x xs d in
    record { inside = omega (arith, z); found = ap (entry (y ∷ xs)) z ∙ d }
place_step y x xs false e p =
    let d = eqb-false y x e in
    let z = place_there y x xs d in
    record { inside = omega (arith, z, (p d).inside); found = ap (entry (y ∷ xs)) z ∙ (p d).found }

rest : (y x : ℕ) (xs : List ℕ) → In x (y ∷ xs) → (y ≡ x → ⊥) → In x xs
rest y x xs (inl e) d = absurd (d e)
rest y x xs (inr h) d = h

pub in_placed : (xs : List ℕ) (x : ℕ) → In x xs → Placed xs x
in_placed [] x h = absurd h
in_placed (y ∷ xs) x i = place_step y x xs (eqb y x) refl λ d. in_placed xs x (rest y x xs i d)

pub place_most : (xs : List ℕ) (x : ℕ) → place_in xs x ≤ length xs
unfolding place_in
place_most [] x = omega arith
place_most (y ∷ xs) x = go (eqb y x) (place_most xs x)
  where
    go : (b : Bool) → place_in xs x ≤ length xs → (if b then 0 else suc (place_in xs x)) ≤ suc (length xs)
    go true h = omega arith
    go false h = omega arith

-- An entry is in the list.
pub entry_in : (xs : List ℕ) (i : ℕ) → i < length xs → In (entry xs i) xs
unfolding entry
entry_in [] i h = absurd (omega arith)
entry_in (y ∷ xs) zero h = inl refl
entry_in (y ∷ xs) (suc i) h = inr (entry_in xs i (omega arith))
