-- The new numbers that the list of a walk gives: each node that stays has its place, and a let that goes its body's.
-- Assumes nothing.
use Rattle.std.specs.Prelude.{if◌then◌else◌}
use mathlib.Core.Path.{◌≡◌, refl, sym, ap, subst, ◌∙◌}
use mathlib.Core.List.{List, [], ◌∷◌, ◌++◌}
use mathlib.Core.Bool.{Bool, true, false}
use Prim.Native.Nat.{ℕ, zero, suc, ◌+◌, ◌-◌, ◌%◌, ◌≤◌, ◌<◌}
use native.Mathlib.Omega.{arith}
use lib.Dec.{eqb, ltb}
use lib.ListN.{length, get_or, set, length-set}
use lib.Seq.{get_or-set_other}
use borrow.Author.Tests.{eq-eqb, eqb-true, ltb-true, ltb-false}
use Rattle.written.proofs.Counted.{sum_l, is}
use Rattle.tidy.specs.Settle.{staying, renumber}
use Rattle.tidy.proofs.SweptRight.{get_set}

-- How many numbers are given after an entry, and the one that it is given.
unfoldable pub after_one : ℕ → ℕ → ℕ
after_one m e = if ltb e 1024 then suc m else m

unfoldable pub given : ℕ → ℕ → ℕ
given m e = if ltb e 1024 then m else m - 1

-- Each entry has its number, so many having been given before.
abbrev pub Right : List ℕ → ℕ → List ℕ → Type 0
Right new m [] = Unit {0}
Right new m (e ∷ es) = (get_or new (e % 1024) 0 ≡ given m e) × Right new (after_one m e) es

renumber_step : (e : ℕ) (es : List ℕ) (m : ℕ) (new : List ℕ) → renumber (e ∷ es) m new ≡ renumber es (after_one m e) (set new (e % 1024) (given m e))
unfolding renumber after_one given
renumber_step e es m new = go (ltb e 1024)
  where
    go : (b : Bool) → (if b then renumber es (suc m) (set new (e % 1024) m) else renumber es m (set new (e % 1024) (m - 1)))
        ≡ renumber es (if b then suc m else m) (set new (e % 1024) (if b then m else m - 1))
    go true = refl
    go false = refl

-- Entries of node y.
unfoldable pub entry_of : ℕ → ℕ → ℕ
entry_of y e = is y (e % 1024)

sum_cons : (own : ℕ → ℕ) (e : ℕ) (es : List ℕ) → sum_l own (e ∷ es) ≡ own e + sum_l own es
unfolding sum_l
sum_cons own e es = refl

own_entry : (e : ℕ) → entry_of (e % 1024) e ≡ 1
unfolding entry_of is
own_entry e = simp (eq-eqb (e % 1024) (e % 1024) refl)

other_entry : (y e : ℕ) → entry_of y e ≡ 0 → y ≡ e % 1024 → ⊥
other_entry y e h z = let o : entry_of y e ≡ 1 = ap (λ (k : ℕ). entry_of k e) z ∙ own_entry e in absurd (omega arith)

-- A node that is not listed keeps its number.
frame : (es : List ℕ) (m : ℕ) (new : List ℕ) (y : ℕ) → sum_l (entry_of y) es ≡ 0 → get_or (renumber es m new) y 0 ≡ get_or new y 0
unfolding renumber
frame [] m new y h = refl
frame (e ∷ es) m new y h =
    let s = sum_cons (entry_of y) e es in
    ap (λ (l : List ℕ). get_or l y 0) (renumber_step e es m new)
    ∙ frame es (after_one m e) (set new (e % 1024) (given m e)) y (omega arith)
    ∙ get_or-set_other new (e % 1024) y (given m e) 0 (other_entry y e (omega arith))

pub right_numbers : (es : List ℕ) (m : ℕ) (new : List ℕ) → length new ≡ 1024 → ((y : ℕ) → sum_l (entry_of y) es ≤ 1) → Right (renumber es m new) m es
right_numbers [] m new l h = tt
right_numbers (e ∷ es) m new l h =
    let n : ℕ = e % 1024 in
    let new' : List ℕ = set new n (given m e) in
    let s = sum_cons (entry_of n) e es in
    let o = own_entry e in
    let fr : sum_l (entry_of n) es ≡ 0 = omega (arith, h n) in
    subst (λ (r : List ℕ). Right r m (e ∷ es)) (sym (renumber_step e es m new)) (
      frame es (after_one m e) new' n fr ∙ get_set new n (given m e) (omega arith),
      right_numbers es (after_one m e) new' (length-set new n (given m e) ∙ l) (λ y. omega (arith, h y, sum_cons (entry_of y) e es)),
    )

-- Lists behind one another.
staying_step : (e : ℕ) (es : List ℕ) (m : ℕ) → m + length (staying (e ∷ es)) ≡ after_one m e + length (staying es)
unfolding staying after_one
staying_step e es m = go (ltb e 1024)
  where
    go : (b : Bool) → m + length (if b then e ∷ staying es else staying es) ≡ (if b then suc m else m) + length (staying es)
    go true = omega arith
    go false = refl

pub staying_app : (xs ys : List ℕ) → staying (xs ++ ys) ≡ staying xs ++ staying ys
unfolding staying
staying_app [] ys = refl
staying_app (e ∷ es) ys = go (ltb e 1024) (staying_app es ys)
  where
    go : (b : Bool) → staying (es ++ ys) ≡ staying es ++ staying ys
        → (if b then e ∷ staying (es ++ ys) else staying (es ++ ys)) ≡ (if b then e ∷ staying es else staying es) ++ staying ys
    go true h = ap (λ (l : List ℕ). e ∷ l) h
    go false h = h

pub right_left : (new : List ℕ) (m : ℕ) (xs ys : List ℕ) → Right new m (xs ++ ys) → Right new m xs
right_left new m [] ys r = tt
right_left new m (e ∷ es) ys r = (r.0, right_left new (after_one m e) es ys r.1)

pub right_right : (new : List ℕ) (m j : ℕ) (xs ys : List ℕ) → j ≡ m + length (staying xs) → Right new m (xs ++ ys) → Right new j ys
unfolding staying
right_right new m j [] ys e r = rw (let z : j ≡ m = omega arith in z) r
right_right new m j (x ∷ xs) ys e r = right_right new (after_one m x) j xs ys (e ∙ staying_step x xs m) r.1
