-- A room that is filled from a place on; and the chain in it.
-- Assumes nothing.
use mathlib.Core.Path.{◌≡◌, refl, sym, ap, subst, ◌∙◌}
use mathlib.Core.List.{List, [], ◌∷◌, ◌++◌}
use Prim.Native.Nat.{ℕ, zero, suc, ◌+◌, ◌-◌, ◌≤◌, ◌<◌}
use native.Mathlib.Omega.{arith}
use lib.ListN.{length, set, take, drop, replicate, take-append-drop, length-take, length-drop, drop_of_length-le}
use borrow.Author.Fill.{fill_none, fill_more}
use Rattle.rules.specs.Bytes.{Bytes, write_at}
use Rattle.rules.specs.Layout.{no_next, most_nodes}
use Rattle.chains.specs.Explain.{filled}

nothing_after : (l : List ℕ) → l ++ [] ≡ l
nothing_after [] = refl
nothing_after (a ∷ l) = ap (λ (m : List ℕ). a ∷ m) (nothing_after l)

-- What was written stands in front.
taken_set : (room : List ℕ) (i n : ℕ) → i < length room → take (suc i) (set room i n) ≡ take i room ++ n ∷ []
taken_set [] i n h = absurd (omega arith)
taken_set (a ∷ room) zero n h = refl
taken_set (a ∷ room) (suc i) n h = ap (λ (l : List ℕ). a ∷ l) (taken_set room i n (omega arith))

set_length : (room : List ℕ) (i n : ℕ) → length (set room i n) ≡ length room
set_length [] i n = refl
set_length (a ∷ room) zero n = refl
set_length (a ∷ room) (suc i) n = ap suc (set_length room i n)

joined : (xs ys zs : List ℕ) → (xs ++ ys) ++ zs ≡ xs ++ (ys ++ zs)
joined [] ys zs = refl
joined (x ∷ xs) ys zs = ap (λ (l : List ℕ). x ∷ l) (joined xs ys zs)

in_front : (c room : List ℕ) (at : ℕ) → at + length c ≤ length room → take (at + length c) (write_at room at c) ≡ take at room ++ c
unfolding write_at
in_front [] room at h = ap (λ (j : ℕ). take j room) (let e : at + 0 ≡ at = omega arith in e) ∙ sym (nothing_after (take at room))
in_front (n ∷ ns) room at h =
    let e : at + length (n ∷ ns) ≡ suc at + length ns = omega arith in
    ap (λ (j : ℕ). take j (write_at (set room at n) (suc at) ns)) e
    ∙ in_front ns (set room at n) (suc at) (omega (arith, set_length room at n))
    ∙ ap (λ (l : List ℕ). l ++ ns) (taken_set room at n (omega arith)) ∙ joined (take at room) (n ∷ []) ns

pub written : (c room : List ℕ) → length c ≤ length room → take (length c) (write_at room 0 c) ≡ c
written c room h = ap (λ (j : ℕ). take j (write_at room 0 c)) (let e : length c ≡ 0 + length c = omega arith in e) ∙ in_front c room 0 (omega arith)

pub filled_so : (c room after : List ℕ) (n : ℕ) → length room ≡ 1008 → length after ≡ 1008 → n ≡ length c → length c ≤ 1008 → after ≡ write_at room 0 c
    → take n after ++ replicate (length after - n) no_next ≡ filled c
unfolding filled
filled_so c room after n l m e h q =
    (λ i. take (e i) (q i) ++ replicate (m i - e i) no_next)
    ∙ ap (λ (t : List ℕ). t ++ replicate (1008 - length c) no_next) (written c room (omega arith))
