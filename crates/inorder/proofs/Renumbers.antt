-- What the walk gives for an accepted program: its order, its new numbers, and with them the records of the program renumbered.
-- Assumes nothing.
use mathlib.Core.Path.{◌≡◌, refl, sym, ap, ◌∙◌}
use mathlib.Core.List.{List, [], ◌∷◌, ◌++◌}
use Prim.Native.Nat.{ℕ, zero, suc, ◌+◌, ◌-◌, ◌*◌, ◌/◌, ◌≤◌, ◌<◌}
use native.Mathlib.Omega.{arith}
use lib.ListN.{length, get_or, set, take, length-set}
use lib.Seq.{get_or-set_same, get_or-set_other}
use borrow.Author.Tests.{eq-eqb, lt-ltb}
use Rattle.rules.specs.Bytes.{Bytes, write_at, ◌and◌}
use Rattle.rules.specs.Layout.{nodes, type_at, edition, records, blocks}
use Rattle.rules.specs.Accepted.{Accepted}
use Rattle.rules.specs.Shaped.{Shaped}
use Rattle.rules.specs.Tree.{Signal, root}
use Rattle.rules.proofs.Once.{tree_size}
use Rattle.rules.proofs.Rooted.{root_of, some_node}
use Rattle.rules.proofs.Cells.{length_write_at}
use Rattle.promises.specs.Small.{Small}
use Rattle.written.specs.Order.{order_s, In}
use Rattle.written.specs.Parts.{Part, Slot, size_p, rows_p}
use Rattle.written.specs.Table.{rows_bytes, blocks_from, blocks_for, table_of}
use Rattle.written.specs.Written.{written, new_number, part_s}
use Rattle.written.proofs.Blocks.{blocks_length}
use Rattle.written.proofs.Counted.{sum_l, is, order_sum, root_once}
use Rattle.written.proofs.Parted.{part_s_size}
use Rattle.written.proofs.Places.{entry, Along, order_s_length}
use Rattle.written.proofs.Sounded.{accepted_sound, new_number_lem}
use Rattle.written.proofs.Typed.{each_map}
use Rattle.texts.specs.Numbering.{renumbered}
use Rattle.tidy.specs.Twig.{Twig, twig, Limb, holds, child, twig_at}
use Rattle.tidy.specs.Record.{new_field, new_rows, Inside}
use Rattle.tidy.proofs.Pruned.{order_t, order_l, part_t, From}
use Rattle.tidy.proofs.FromTable.{from_table}
use Rattle.tidy.proofs.Bridged.{signal_same}
use Rattle.tidy.proofs.Renamed.{agree_s}
use Rattle.tidy.proofs.BlockLaws.{in_front}
use Rattle.inorder.specs.Walked.{list_t, list_l, order_at, numbers, Walked}
use Rattle.inorder.proofs.Plainly.{signal_plain}
use Rattle.inorder.proofs.RowsPlain.{φ, IsPlace, numbered, inside}

-- The list of a tree is its order.
mutual
  unfolding list_t order_t

  list_order : (t : Twig) → list_t t ≡ order_t t
  list_order (twig n k t w a b c) = let x = list_limb a in let y = list_limb b in let z = list_limb c in λ i. x i ++ (y i ++ (z i ++ n ∷ []))

  list_limb : (l : Limb) → list_l l ≡ order_l l
  list_limb (holds x) = refl
  list_limb (child x t) = list_order t

-- A node that is not listed keeps its number, and in a list that has each node once each has its place.
sum_cons : (own : ℕ → ℕ) (e : ℕ) (es : List ℕ) → sum_l own (e ∷ es) ≡ own e + sum_l own es
unfolding sum_l
sum_cons own e es = refl

own_entry : (e : ℕ) → is e e ≡ 1
unfolding is
own_entry e = simp (eq-eqb e e refl)

other_entry : (y e : ℕ) → is y e ≡ 0 → y ≡ e → ⊥
other_entry y e h z = let o : is y e ≡ 1 = ap (λ (k : ℕ). is k e) z ∙ own_entry e in absurd (omega arith)

frame : (es : List ℕ) (m : ℕ) (new : List ℕ) (y : ℕ) → sum_l (is y) es ≡ 0 → get_or (numbers es m new) y 0 ≡ get_or new y 0
unfolding numbers
frame [] m new y h = refl
frame (e ∷ es) m new y h =
    let s = sum_cons (is y) e es in
    frame es (suc m) (set new e m) y (omega arith) ∙ get_or-set_other new e y m 0 (other_entry y e (omega arith))

each_place : (es : List ℕ) (m : ℕ) (new : List ℕ) → ((i : ℕ) → i < length es → get_or es i 0 < length new) → ((y : ℕ) → sum_l (is y) es ≤ 1)
    → (i : ℕ) → i < length es → get_or (numbers es m new) (get_or es i 0) 0 ≡ m + i
unfolding numbers
each_place [] m new b h i g = absurd (omega arith)
each_place (e ∷ es) m new b h zero g =
    let s = sum_cons (is e) e es in
    let o = own_entry e in
    frame es (suc m) (set new e m) e (omega (arith, h e)) ∙ get_or-set_same new e m 0 (b 0 (omega arith)) ∙ (let z : m ≡ m + 0 = omega arith in z)
each_place (e ∷ es) m new b h (suc i) g =
    each_place es (suc m) (set new e m) (λ j l. let x = b (suc j) (omega arith) in omega (arith, length-set new e m)) (λ y. omega (arith, h y, sum_cons (is y) e es)) i (omega arith)
    ∙ (let z : suc m + i ≡ m + suc i = omega arith in z)

-- The part in a field.
part_of : Slot → Part
part_of (Slot.holds x) = Part.part 0 0 0 (Slot.holds x) (Slot.holds 0) (Slot.holds 0)
part_of (Slot.child q) = q

within_records : (p : Bytes) → Shaped p → nodes p ≤ 42 * (length p / 512)
unfolding records blocks
within_records p s = s.within

get_take : (l : List ℕ) (n k : ℕ) → k < n → get_or (take n l) k 0 ≡ get_or l k 0
get_take l zero k h = absurd (omega arith)
get_take [] (suc n) k h = refl
get_take (x ∷ l) (suc n) zero h = refl
get_take (x ∷ l) (suc n) (suc k) h = get_take l n k (omega arith)

module _ (p : Bytes) (small : Small p) (a : Accepted p) where
  abbrev n₀ : ℕ
  n₀ = nodes p - 1

  abbrev t : Twig
  t = twig_at p n₀

  abbrev s : Signal
  s = root p

  from : From t p
  from = let w = root_of p a in from_table p a.formed w.shaped n₀ w.inside

  order_is : order_at p n₀ ≡ order_s s
  unfolding root order_at
  order_is = list_order t ∙ (signal_same p a.formed n₀ (root_of p a)).whole

  part_is : (ψ : ℕ → ℕ) → part_t t ψ ≡ part_s s ψ
  unfolding root part_of
  part_is ψ = ap part_of ((signal_plain p a.formed n₀ (root_of p a)).slot ψ)

  pub order_long : length (order_at p n₀) ≡ nodes p
  order_long = ap length order_is ∙ order_s_length s ∙ tree_size p a.formed.length_right a.shape_right (some_node p a.formed)

  once : (y : ℕ) → sum_l (is y) (order_at p n₀) ≤ 1
  once y = omega (arith, ap (sum_l (is y)) order_is, order_sum (is y) s, root_once p a y)

  entries_inside : (i : ℕ) → i < length (order_at p n₀) → get_or (order_at p n₀) i 0 < nodes p
  unfolding order_at Along entry
  entries_inside i h = inside t p 0 from i h

  module _ (new₀ : List ℕ) (ln : length new₀ ≡ 1024) where
    abbrev new : List ℕ
    new = numbers (order_at p n₀) 0 new₀

    places : (i : ℕ) → i < length (order_at p n₀) → get_or new (get_or (order_at p n₀) i 0) 0 ≡ i
    places i h =
        each_place (order_at p n₀) 0 new₀ (λ j l. let w = root_of p a in omega (arith, entries_inside j l, w.shaped.small)) once i h ∙ (let z : 0 + i ≡ i = omega arith in z)

    along : Along (IsPlace new) 0 (list_t t)
    unfolding Along entry order_at
    along i h = places i h ∙ (let z : i ≡ 0 + i = omega arith in z)

    -- Binders and targets are given their places.
    placed : (b : ℕ) → In b (order_s s) → φ p new b ≡ new_number s b
    unfolding new_field ◌and◌ entry
    placed b i =
        let q = new_number_lem (type_at p) s (accepted_sound p a small.small) b i in
        let k : ℕ = new_number s b in
        let h : k < length (order_at p n₀) = omega (arith, q.0, order_s_length s, ap length order_is) in
        let y : get_or (order_at p n₀) k 0 ≡ b = ap (λ (l : List ℕ). get_or l k 0) order_is ∙ q.1 in
        let w = root_of p a in
        let l : b < 1024 = omega (arith, entries_inside k h, y, w.shaped.small) in
        simp (lt-ltb b 1024 l) (ap (λ (j : ℕ). get_or new j 0) (sym y) ∙ places k h)

    rows_are : new_rows p new (order_at p n₀) ≡ rows_p (part_s s (new_number s)) 0
    unfolding order_at
    rows_are =
        let d = numbered t p new 0 from along in
        sym d.rows
        ∙ ap (λ (q : Part). rows_p q 0) (part_is (φ p new) ∙ agree_s (φ p new) (new_number s) s
        (each_map (λ b. In b (order_s s)) (λ b. φ p new b ≡ new_number s b) placed s (accepted_sound p a small.small).named))

  size_is : size_p (part_s s (new_number s)) ≡ nodes p
  size_is = part_s_size s (new_number s) ∙ tree_size p a.formed.length_right a.shape_right (some_node p a.formed)

  table_is : renumbered p ≡ blocks_from (blocks_for (nodes p)) (edition p) (blocks_for (nodes p)) 0 (rows_bytes (rows_p (part_s s (new_number s)) 0))
  unfolding renumbered written table_of
  table_is = ap (λ (n : ℕ). blocks_from (blocks_for n) (edition p) (blocks_for n) 0 (rows_bytes (rows_p (part_s s (new_number s)) 0))) size_is

  pub renumbered_long : length (renumbered p) ≡ 512 * blocks_for (nodes p)
  renumbered_long = ap length table_is ∙ blocks_length (edition p) (blocks_for (nodes p)) (blocks_for (nodes p)) 0 (rows_bytes (rows_p (part_s s (new_number s)) 0))

  module _ (count : ℕ) (counted : count ≡ nodes p) where
    order_same : order_at p (count - 1) ≡ order_at p n₀
    order_same = ap (λ (k : ℕ). order_at p (k - 1)) counted

    pub walk_asked : Shaped p × (count - 1 < nodes p) × (0 + length (order_at p (count - 1)) ≤ 1008)
    walk_asked =
        let w = root_of p a in (
          w.shaped,
          omega (arith, w.inside),
          omega (arith, ap length order_same, order_long, w.shaped.small),
        )

    pub count_some : 1 ≤ count
    count_some = let w = root_of p a in omega (arith, w.inside)

    module _ (order₀ order new₀ new₁ : List ℕ) (r : ℕ) (w : Walked (order_at p (count - 1)) 0 r order₀ order new₀ new₁) (lo : length order₀ ≡ 1008) (ln : length new₀ ≡ 1024) where
      end_is : r ≡ nodes p
      end_is = omega (arith, w.from, ap length order_same, order_long)

      first_is : take r order ≡ order_at p n₀
      first_is =
          let v = root_of p a in
          (λ i. take (w.from i) (w.listed i))
          ∙ ap (λ (k : ℕ). take k (write_at order₀ 0 (order_at p (count - 1)))) (let z : 0 + length (order_at p (count - 1)) ≡ length (order_at p (count - 1)) = omega arith in z)
          ∙ (λ i. take (length (order_same i)) (write_at order₀ 0 (order_same i)))
          ∙ in_front (order_at p n₀) order₀ (omega (arith, order_long, v.shaped.small))

      pub order_longer : length order ≡ 1008
      order_longer = ap length w.listed ∙ length_write_at (order_at p (count - 1)) order₀ 0 ∙ lo

      pub blocks_asked : (room : List ℕ) → length p ≤ length room
          → Shaped p × (4 ≤ length p) × (r ≤ length order) × Inside (nodes p) r order × (r ≤ 1008) × (512 * blocks_for r ≤ length room)
      unfolding blocks_for
      blocks_asked room h =
          let v = root_of p a in (
            v.shaped,
            omega (arith, within_records p v.shaped, v.inside),
            omega (arith, end_is, order_longer, v.shaped.small),
            record { each = λ i l. let z = entries_inside i (omega (arith, end_is, order_long)) in omega (arith, z, get_take order r i l, ap (λ (m : List ℕ). get_or m i 0) first_is) },
            omega (arith, end_is, v.shaped.small),
            omega (arith, end_is, within_records p v.shaped),
          )

      pub room_made : (room room' : List ℕ)
          → room' ≡ write_at room 0 (blocks_from (blocks_for r) (edition p) (blocks_for r) 0 (rows_bytes (new_rows p new₁ (take r order)))) → room' ≡ write_at room 0 (renumbered p)
      room_made room room' e =
          let z : new₁ ≡ numbers (order_at p n₀) 0 new₀ = w.numbered ∙ ap (λ (l : List ℕ). numbers l 0 new₀) order_same in
          e ∙ ap (write_at room 0)
          ((λ i. blocks_from (blocks_for (end_is i)) (edition p) (blocks_for (end_is i)) 0 (rows_bytes (new_rows p (z i) (first_is i))))
          ∙ ap (λ l. blocks_from (blocks_for (nodes p)) (edition p) (blocks_for (nodes p)) 0 (rows_bytes l)) (rows_are new₀ ln) ∙ sym table_is)
