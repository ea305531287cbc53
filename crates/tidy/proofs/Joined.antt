-- What the walks of the code give for an accepted program: the order in which it is tidied, and the records of the tidied program.
-- Assumes nothing.
use Rattle.std.specs.Prelude.{if◌then◌else◌}
use mathlib.Core.Path.{◌≡◌, refl, sym, ap, ◌∙◌, subst}
use mathlib.Core.List.{List, [], ◌∷◌, ◌++◌}
use mathlib.Core.Bool.{Bool, true, false}
use Prim.Native.Nat.{ℕ, zero, suc, ◌+◌, ◌-◌, ◌*◌, ◌%◌, ◌≤◌, ◌<◌}
use native.Mathlib.Decide.{dec_lt}
use native.Mathlib.Omega.{arith}
use lib.Dec.{eqb, ltb}
use lib.ListN.{length, get_or, replicate, length-replicate}
use borrow.Author.Tests.{ltb-true, lt-ltb}
use Rattle.rules.specs.Bytes.{Bytes, ◌and◌}
use Rattle.rules.specs.Layout.{nodes, type_at}
use Rattle.rules.specs.Accepted.{Accepted}
use Rattle.rules.specs.Scope.{Marks}
use Rattle.rules.specs.Size.{size_s}
use Rattle.rules.specs.Tree.{Signal, signal_at, root}
use Rattle.rules.specs.declared.Node.{Node}
use Rattle.rules.proofs.Once.{tree_size}
use Rattle.rules.proofs.Rooted.{root_of, some_node}
use Rattle.rules.proofs.Counting.{total, total_past}
use Rattle.promises.specs.Small.{Small}
use Rattle.dropped.specs.Tidy.{tidy_s}
use Rattle.written.specs.Order.{order_s, In}
use Rattle.written.specs.Parts.{Part, Slot, rows_p}
use Rattle.written.specs.Written.{new_number, part_s}
use Rattle.written.specs.Right.{Sound}
use Rattle.written.proofs.Counted.{sum_s, sum_l, is, sum_app, order_sum, root_sums, root_once, entry_counts}
use Rattle.written.proofs.Places.{entry, order_s_length}
use Rattle.written.proofs.Sounded.{new_number_lem}
use Rattle.written.proofs.Typed.{each_map}
use Rattle.rewritten.specs.Rewritten.{tidying}
use Rattle.rewritten.proofs.StillSound.{tidy_sum}
use Rattle.rewritten.proofs.AsTidied.{tidied_sound}
use Rattle.tidy.specs.Twig.{Twig, twig, Limb, holds, child, twig_at}
use Rattle.tidy.specs.Sweep.{gone_let, sweep}
use Rattle.tidy.specs.Settle.{staying, renumber}
use Rattle.tidy.specs.Record.{new_field, new_rows}
use Rattle.tidy.proofs.Pruned.{prune_l, prune_t, goes_by, order_t, order_l, names_t, names_l, part_t, Here, From, FromL}
use Rattle.tidy.proofs.SweptRight.{stays_names, goes_names, swept_right}
use Rattle.tidy.proofs.Numbered.{after_one, given, Right, entry_of, right_numbers}
use Rattle.tidy.proofs.RowsRight.{φ, numbered}
use Rattle.tidy.proofs.FromTable.{from_table}
use Rattle.tidy.proofs.Bridged.{signal_same}
use Rattle.tidy.proofs.Renamed.{agree_s}

-- The walk's list weighs no more than the whole order, an entry weighing as its node.
module _ (own : ℕ → ℕ) where
  abbrev by_node : ℕ → ℕ
  by_node e = own (e % 1024)

  one : (w : ℕ → ℕ) (n : ℕ) → sum_l w (n ∷ []) ≡ w n
  unfolding sum_l
  one w n = omega arith

  three : (w : ℕ → ℕ) (a b c : List ℕ) (n : ℕ) → sum_l w (a ++ (b ++ (c ++ n ∷ []))) ≡ sum_l w a + (sum_l w b + (sum_l w c + w n))
  three w a b c n = omega (arith, sum_app w a (b ++ (c ++ n ∷ [])), sum_app w b (c ++ n ∷ []), sum_app w c (n ∷ []), one w n)

  node_lighter : (p : Bytes) (n k t w : ℕ) (a b c : Limb) → Here p n k t w a b c → sum_l by_node (names_l a) ≤ sum_l own (order_l a)
      → sum_l by_node (names_l b) ≤ sum_l own (order_l b) → sum_l by_node (names_l c) ≤ sum_l own (order_l c)
      → sum_l by_node (names_t (twig n k t w a b c)) ≤ sum_l own (order_l a ++ (order_l b ++ (order_l c ++ n ∷ [])))
  unfolding gone_let
  node_lighter p n k t w a b c here ha hb hc = go (goes_by n k (prune_l b)) refl
    where
      go : (g : Bool) → goes_by n k (prune_l b) ≡ g → sum_l by_node (names_t (twig n k t w a b c)) ≤ sum_l own (order_l a ++ (order_l b ++ (order_l c ++ n ∷ [])))
      go false g =
          let z : own (n % 1024) ≡ own n = ap own (let y : n % 1024 ≡ n = omega (arith, here.small) in y) in
          omega (arith, ap (sum_l by_node) (stays_names n k t w a b c g), three by_node (names_l a) (names_l b) (names_l c) n, three own (order_l a) (order_l b) (order_l c) n)
      go true g =
          let z : own ((1024 + n) % 1024) ≡ own n = ap own (let y : (1024 + n) % 1024 ≡ n = omega (arith, here.small) in y) in
          omega (arith, ap (sum_l by_node) (goes_names n k t w a b c g), sum_app by_node (names_l b) ((1024 + n) ∷ []), one by_node (1024 + n), three own (order_l a) (order_l b) (order_l c) n)

  mutual
    unfolding order_t names_t sum_l

    lighter : (t : Twig) (p : Bytes) → From t p → sum_l by_node (names_t t) ≤ sum_l own (order_t t)
    lighter (twig n k t w a b c) p f = node_lighter p n k t w a b c f.0 (lighter_limb a p n f.1) (lighter_limb b p n f.2) (lighter_limb c p n f.3)

    lighter_limb : (l : Limb) (p : Bytes) (n : ℕ) → FromL l p n → sum_l by_node (names_l l) ≤ sum_l own (order_l l)
    lighter_limb (holds x) p n f = omega arith
    lighter_limb (child x t) p n f = lighter t p f.2

-- Ones weigh a list's length.
ones : (xs : List ℕ) → sum_l (λ e. 1) xs ≡ length xs
unfolding sum_l
ones [] = refl
ones (x ∷ xs) = omega (arith, ones xs)

-- Entry i of the nodes that stay has number i.
stay_place : (new : List ℕ) (xs : List ℕ) (m i : ℕ) → Right new m xs → i < length (staying xs)
    → (entry (staying xs) i < 1024) × (get_or new (entry (staying xs) i) 0 ≡ m + i)
unfolding staying entry given after_one
stay_place new [] m i r h = absurd (omega arith)
stay_place new (e ∷ es) m i r h = go (ltb e 1024) refl i (λ m' j r'. stay_place new es m' j r') r.0 r.1 h
  where
    go : (b : Bool) → ltb e 1024 ≡ b → (i : ℕ)
        → ((m' j : ℕ) → Right new m' es → j < length (staying es) → (get_or (staying es) j 0 < 1024) × (get_or new (get_or (staying es) j 0) 0 ≡ m' + j))
        → get_or new (e % 1024) 0 ≡ (if b then m else m - 1) → Right new (if b then suc m else m) es → i < length (if b then e ∷ staying es else staying es)
        → (get_or (if b then e ∷ staying es else staying es) i 0 < 1024) × (get_or new (get_or (if b then e ∷ staying es else staying es) i 0) 0 ≡ m + i)
    go true t zero ih q r h =
        let l = ltb-true e 1024 t in
        (l, ap (λ (k : ℕ). get_or new k 0) (let z : e ≡ e % 1024 = omega arith in z) ∙ q ∙ (let z : m ≡ m + 0 = omega arith in z))
    go true t (suc i) ih q r h = let x = ih (suc m) i r (omega arith) in (x.0, x.1 ∙ (let z : suc m + i ≡ m + suc i = omega arith in z))
    go false t i ih q r h = ih m i r h

-- The part in a field.
part_of : Slot → Part
part_of (Slot.holds x) = Part.part 0 0 0 (Slot.holds x) (Slot.holds 0) (Slot.holds 0)
part_of (Slot.child q) = q

module _ (p : Bytes) (small : Small p) (a : Accepted p) (u : Marks) (lu : length u ≡ 1008) where
  abbrev n₀ : ℕ
  n₀ = nodes p - 1

  abbrev t : Twig
  t = twig_at p n₀

  abbrev s : Signal
  s = tidy_s (root p)

  from : From t p
  from = let w = root_of p a in from_table p a.formed w.shaped n₀ w.inside

  names_are : (sweep p n₀ u).names ≡ names_t t
  unfolding sweep
  names_are = (swept_right t p from u lu).named

  whole_is : order_t t ≡ order_s (root p)
  unfolding root
  whole_is = (signal_same p a.formed n₀ (root_of p a)).whole

  order_is : order_t (prune_t t) ≡ order_s s
  unfolding root
  order_is = (signal_same p a.formed n₀ (root_of p a)).order

  part_is : (φ : ℕ → ℕ) → part_t (prune_t t) φ ≡ part_s s φ
  unfolding root part_of
  part_is φ = ap part_of ((signal_same p a.formed n₀ (root_of p a)).slot φ)

  -- The list has no more entries than the program nodes.
  pub names_few : length (sweep p n₀ u).names ≤ nodes p
  names_few =
      let z = lighter (λ x. 1) t p from in
      omega (
        arith,
        ap length names_are,
        z,
        ones (names_t t),
        ones (order_t t),
        ap length whole_is,
        order_s_length (root p),
        tree_size p a.formed.length_right a.shape_right (some_node p a.formed),
      )

  once : (y : ℕ) → sum_l (entry_of y) (names_t t) ≤ 1
  unfolding entry_of
  once y = omega (arith, lighter (is y) t p from, ap (sum_l (is y)) whole_is, order_sum (is y) (root p), root_once p a y)

  module _ (new₀ : List ℕ) (ln : length new₀ ≡ 1024) where
    abbrev new : List ℕ
    new = renumber (sweep p n₀ u).names 0 new₀

    right : Right new 0 (names_t t)
    right = rw names_are (right_numbers (names_t t) 0 new₀ ln once)

    -- The nodes that stay, in their order.
    pub staying_is : staying (sweep p n₀ u).names ≡ tidying p
    unfolding tidying
    staying_is = ap staying names_are ∙ (numbered t p new 0 from right).stay ∙ order_is

    -- Binders and targets are given their places.
    placed : (b : ℕ) → In b (order_s s) → φ p new b ≡ new_number s b
    unfolding new_field ◌and◌
    placed b i =
        let q = new_number_lem (type_at p) s (tidied_sound p small a) b i in
        let e : staying (names_t t) ≡ order_s s = (numbered t p new 0 from right).stay ∙ order_is in
        let k : ℕ = new_number s b in
        let h : k < length (staying (names_t t)) = omega (arith, q.0, order_s_length s, ap length e) in
        let x = stay_place new (names_t t) 0 k right h in
        let y : entry (staying (names_t t)) k ≡ b = ap (λ (l : List ℕ). entry l k) e ∙ q.1 in
        let l : b < 1024 = omega (arith, x.0, y) in
        simp (lt-ltb b 1024 l) (ap (λ (j : ℕ). get_or new j 0) (sym y) ∙ x.1 ∙ (let z : 0 + k ≡ k = omega arith in z))

    -- The records of the tidied program.
    pub rows_are : new_rows p new (tidying p) ≡ rows_p (part_s s (new_number s)) 0
    unfolding tidying
    rows_are =
        let d = numbered t p new 0 from right in
        ap (new_rows p new) (sym order_is) ∙ sym d.rows
        ∙ ap (λ (q : Part). rows_p q 0) (part_is (φ p new) ∙ agree_s (φ p new) (new_number s) s
        (each_map (λ b. In b (order_s s)) (λ b. φ p new b ≡ new_number s b) placed s (tidied_sound p small a).named))

-- Each entry of the order is a node.
pub order_inside : (p : Bytes) → Accepted p → (i : ℕ) → i < length (tidying p) → get_or (tidying p) i 0 < nodes p
unfolding tidying entry is
order_inside p a i h = go (dec_lt (get_or (order_s (tidy_s (root p))) i 0) (nodes p))
  where
    go : Dec (get_or (order_s (tidy_s (root p))) i 0 < nodes p) → get_or (order_s (tidy_s (root p))) i 0 < nodes p
    go (yes l) = l
    go (no l) =
        let x : ℕ = get_or (order_s (tidy_s (root p))) i 0 in
        absurd (omega (
          arith,
          entry_counts (order_s (tidy_s (root p))) i x h refl,
          order_sum (is x) (tidy_s (root p)),
          tidy_sum (is x) (root p),
          root_sums p (is x) a,
          total_past (nodes p) x (λ k. 1) (omega arith),
        ))
