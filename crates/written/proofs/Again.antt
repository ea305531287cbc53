-- A tree written, read and written again gives the same bytes.
-- Assumes nothing.
use mathlib.Core.Path.{◌≡◌, refl, sym, ap, ◌∙◌}
use mathlib.Core.List.{List, [], ◌∷◌, ◌++◌}
use mathlib.Core.Bool.{Bool, true, false}
use Prim.Native.Nat.{ℕ, zero, suc, ◌+◌, ◌-◌, ◌<◌, ◌≤◌}
use native.Mathlib.Omega.{arith}
use lib.ListN.{length}
use Rattle.rules.specs.Bytes.{Bytes}
use Rattle.rules.specs.Layout.{cells_before}
use Rattle.rules.specs.Size.{size_e, size_s, size_b, size_c}
use Rattle.rules.specs.Tree.{Expr, variable, constant, operation, negation, choice, just, taking, Signal, input, time, ext, delay, let_signal, switch, group, until, Branches, no_branch, branch, Cases, no_case, case, root}
use Rattle.rules.specs.Values.{type_of}
use Rattle.written.specs.Parts.{Part, part, Slot, holds, child}
use Rattle.written.specs.Table.{table_of}
use Rattle.written.specs.Order.{order_e, order_s, order_b, order_c, In}
use Rattle.written.specs.Written.{present_of, word_of, place_in, part_e, part_s, slot_b, slot_c, new_number, written, placed_e, placed_s, placed_b, placed_c, renamed}
use Rattle.written.specs.Right.{EachE, EachS, EachB, EachC, Sound}
use Rattle.written.proofs.ListLaws.{app_length}
use Rattle.written.proofs.Places.{entry, Along, along_none, along_one, along_app, place_here, place_there}
use Rattle.written.proofs.Typed.{each_map}
use Rattle.written.proofs.Sounded.{new_number_lem, sound_root}

-- The numbers of a placed tree are its places, in order.
abbrev Same : ℕ → ℕ → Type 0
Same i n = n ≡ i

-- So many numbers, from lo on.
record Counts (lo size : ℕ) (xs : List ℕ) : Type 0 where
  long : length xs ≡ size
  same : Along Same lo xs

leaf : (lo : ℕ) → Counts lo 1 (lo ∷ [])
leaf lo = record { long = refl; same = along_one Same lo lo refl }

join : (lo a b : ℕ) (xs ys : List ℕ) → Counts lo a xs → Counts (lo + a) b ys → Counts lo (a + b) (xs ++ ys)
join lo a b xs ys h g = record { long = omega (arith, h.long, g.long, app_length xs ys); same = along_app Same lo a xs ys h.long h.same g.same }

over : (lo a : ℕ) (xs : List ℕ) → Counts lo a xs → Counts lo (1 + a) (xs ++ (lo + a) ∷ [])
over lo a xs h =
    let z : a + 1 ≡ 1 + a = omega arith in
    rw (← z) (join lo a 1 xs ((lo + a) ∷ []) h (leaf (lo + a)))

over2 : (lo a b : ℕ) (xs ys : List ℕ) → Counts lo a xs → Counts (lo + a) b ys → Counts lo (1 + a + b) (xs ++ ys ++ (lo + (a + b)) ∷ [])
over2 lo a b xs ys h g =
    let z : 1 + (a + b) ≡ 1 + a + b = omega arith in
    rw (← z) (over lo (a + b) (xs ++ ys) (join lo a b xs ys h g))

over3 : (lo a b c : ℕ) (xs ys zs : List ℕ) → Counts lo a xs → Counts (lo + a) b ys → Counts (lo + a + b) c zs
    → Counts lo (1 + a + b + c) (xs ++ ys ++ zs ++ (lo + (a + b + c)) ∷ [])
over3 lo a b c xs ys zs h g i =
    let z : 1 + (a + b + c) ≡ 1 + a + b + c = omega arith in
    let w : lo + (a + b) ≡ lo + a + b = omega arith in
    rw (← z) (over lo (a + b + c) (xs ++ ys ++ zs) (join lo (a + b) c (xs ++ ys) zs (join lo a b xs ys h g) (rw w i)))

module _ (κ φ : ℕ → ℕ) where
  counts_e : (e : Expr) (lo : ℕ) → Counts lo (size_e e) (order_e (placed_e φ e lo))
  unfolding order_e placed_e size_e
  counts_e (variable n b t) lo = leaf lo
  counts_e (constant n v) lo = leaf lo
  counts_e (operation n k x y) lo = over2 lo _ _ _ _ (counts_e x lo) (counts_e y (lo + size_e x))
  counts_e (negation n x) lo = over lo _ _ (counts_e x lo)
  counts_e (choice n x y z) lo = over3 lo _ _ _ _ _ _ (counts_e x lo) (counts_e y (lo + size_e x)) (counts_e z (lo + size_e x + size_e y))
  counts_e (just n x) lo = over lo _ _ (counts_e x lo)
  counts_e (taking n t x y z) lo = over3 lo _ _ _ _ _ _ (counts_e x lo) (counts_e y (lo + size_e x)) (counts_e z (lo + size_e x + size_e y))

  mutual
    unfolding order_s placed_s size_s

    counts : (s : Signal) (lo : ℕ) → Counts lo (size_s s) (order_s (placed_s s κ φ lo))
    counts (input n c) lo = leaf lo
    counts (time n) lo = leaf lo
    counts (ext n e) lo = over lo _ _ (counts_e e lo)
    counts (delay n k v s) lo = over lo _ _ (counts s lo)
    counts (let_signal n t x y) lo = over2 lo _ _ _ _ (counts x lo) (counts y (lo + size_s x))
    counts (switch n k t x y z) lo = over3 lo _ _ _ _ _ _ (counts x lo) (counts y (lo + size_s x)) (counts z (lo + size_s x + size_s y))
    counts (group n k x brs) lo = over2 lo _ _ _ _ (counts x lo) (counts_b brs (lo + size_s x))
    counts (until n x cs) lo = over2 lo _ _ _ _ (counts x lo) (counts_c cs (lo + size_s x))

    counts_b : (s : Branches) (lo : ℕ) → Counts lo (size_b s) (order_b (placed_b s κ φ lo))
    counts_b no_branch lo = record { long = refl; same = along_none Same lo }
    counts_b (branch n t x brs) lo = over2 lo _ _ _ _ (counts x lo) (counts_b brs (lo + size_s x))

    counts_c : (s : Cases) (lo : ℕ) → Counts lo (size_c s) (order_c (placed_c s κ φ lo))
    counts_c no_case lo = record { long = refl; same = along_none Same lo }
    counts_c (case n x target t cs) lo = over2 lo _ _ _ _ (counts x lo) (counts_c cs (lo + size_s x))

-- The place of a number in such an order is the number.
place_same : (xs : List ℕ) (lo i : ℕ) → Along Same lo xs → i < length xs → place_in xs (lo + i) ≡ i
unfolding Along entry
place_same [] lo i h l = absurd (omega arith)
place_same (y ∷ xs) lo zero h l = place_here y (lo + 0) xs (h 0 (omega arith))
place_same (y ∷ xs) lo (suc i) h l =
    let y₀ : y ≡ lo = h 0 (omega arith) ∙ (let z : lo + 0 ≡ lo = omega arith in z) in
    let e : lo + suc i ≡ suc lo + i = omega arith in
    place_there y (lo + suc i) xs (λ d. omega arith)
    ∙ ap suc (ap (place_in xs) e ∙ place_same xs (suc lo) i (λ j g. h (suc j) (omega arith) ∙ (let z : lo + suc j ≡ suc lo + j = omega arith in z)) (omega arith))

-- The records are the same, if the new numbers stay.
module _ (κ φ ψ : ℕ → ℕ) where
  abbrev Stays : ℕ → Type 0
  Stays b = ψ (φ b) ≡ φ b

  again_e : (e : Expr) (lo : ℕ) → EachE Stays e → part_e ψ (placed_e φ e lo) ≡ part_e φ e
  unfolding part_e placed_e
  again_e (variable n b t) lo h = ap (λ (x : ℕ). part 16 0 0 (holds x) (holds 0) (holds 0)) h
  again_e (constant n v) lo h = refl
  again_e (operation n k x y) lo h =
      let a = again_e x lo h.0 in
      let b = again_e y (lo + size_e x) h.1 in
      λ i. part k 0 0 (child (a i)) (child (b i)) (holds 0)
  again_e (negation n x) lo h = let a = again_e x lo h in λ i. part 24 0 0 (child (a i)) (holds 0) (holds 0)
  again_e (choice n x y z) lo h =
      let a = again_e x lo h.0 in
      let b = again_e y (lo + size_e x) h.1 in
      let c = again_e z (lo + size_e x + size_e y) h.2 in
      λ i. part 27 0 0 (child (a i)) (child (b i)) (child (c i))
  again_e (just n x) lo h = let a = again_e x lo h in λ i. part 28 0 0 (child (a i)) (holds 0) (holds 0)
  again_e (taking n t x y z) lo h =
      let a = again_e x lo h.0 in
      let b = again_e y (lo + size_e x) h.1 in
      let c = again_e z (lo + size_e x + size_e y) h.2 in
      λ i. part 29 t 0 (child (a i)) (child (b i)) (child (c i))

  mutual
    unfolding part_s placed_s

    again : (s : Signal) (lo : ℕ) → EachS s Stays → part_s (placed_s s κ φ lo) ψ ≡ part_s s φ
    again (input n c) lo h = refl
    again (time n) lo h = refl
    again (ext n e) lo h = let a = again_e e lo h in λ i. part 3 0 0 (child (a i)) (holds 0) (holds 0)
    again (delay n k v s) lo h = let a = again s lo h in λ i. part 4 (type_of v) (word_of v) (child (a i)) (holds (present_of v)) (holds 0)
    again (let_signal n t x y) lo h =
        let a = again x lo h.0 in
        let b = again y (lo + size_s x) h.1 in
        λ i. part 5 t 0 (child (a i)) (child (b i)) (holds 0)
    again (switch n k t x y z) lo h =
        let a = again x lo h.0 in
        let b = again y (lo + size_s x) h.1 in
        let c = again z (lo + size_s x + size_s y) h.2 in
        λ i. part 6 t 0 (child (a i)) (child (b i)) (child (c i))
    again (group n k x brs) lo h =
        let a = again x lo h.0 in
        let b = again_b brs (lo + size_s x) h.1 in
        λ i. part 7 0 0 (child (a i)) (b i) (holds 0)
    again (until n x cs) lo h =
        let a = again x lo h.0 in
        let b = again_c cs (lo + size_s x) h.1 in
        λ i. part 8 0 0 (child (a i)) (b i) (holds 0)

    again_b : (s : Branches) (lo : ℕ) → EachB s Stays → slot_b (placed_b s κ φ lo) ψ ≡ slot_b s φ
    again_b no_branch lo h = refl
    again_b (branch n t x brs) lo h =
        let a = again x lo h.0 in
        let b = again_b brs (lo + size_s x) h.1 in
        λ i. child (part 9 t 0 (child (a i)) (b i) (holds 0))

    again_c : (s : Cases) (lo : ℕ) → EachC s Stays → slot_c (placed_c s κ φ lo) ψ ≡ slot_c s φ
    again_c no_case lo h = refl
    again_c (case n x target t cs) lo h =
        let g = h.0 in
        let a = again x lo h.1 in
        let b = again_c cs (lo + size_s x) h.2 in
        λ i. child (part 10 0 0 (child (a i)) (b i) (holds (g i)))

module _ (τ : ℕ → ℕ) (s : Signal) (sound : Sound τ s) (e₀ : ℕ) where
  -- The new number of a new number.
  stays : (b : ℕ) → In b (order_s s) → new_number (renamed e₀ s) (new_number s b) ≡ new_number s b
  unfolding new_number renamed
  stays b i =
      let c = counts (cells_before (written e₀ s)) (new_number s) s 0 in
      let n = new_number_lem τ s sound b i in
      ap (place_in (order_s (renamed e₀ s))) (let z : new_number s b ≡ 0 + new_number s b = omega arith in z)
      ∙ place_same (order_s (renamed e₀ s)) 0 (new_number s b) c.same (omega (arith, n.0, c.long))

  -- The renamed tree written gives the same bytes.
  pub renamed_written : written e₀ (renamed e₀ s) ≡ written e₀ s
  unfolding written renamed
  renamed_written =
      ap (table_of e₀)
      (again (cells_before (written e₀ s)) (new_number s) (new_number (renamed e₀ s)) s 0
      (each_map (λ b. In b (order_s s)) (λ b. new_number (renamed e₀ s) (new_number s b) ≡ new_number s b) stays s sound.named))

  -- Written, read and written again.
  pub written_again : written e₀ (root (written e₀ s)) ≡ written e₀ s
  written_again = ap (written e₀) (sound_root τ s sound e₀) ∙ renamed_written
