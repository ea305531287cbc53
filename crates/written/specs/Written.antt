-- A tree written as a table: each node's record from the tree's own constructor, numbers by position, children first in field order.
-- Assumes nothing: these are definitions.
use Rattle.std.specs.Prelude.{ℕ, suc, ◌+◌, List, [], ◌∷◌, eqb, if◌then◌else◌}
use Rattle.rules.specs.Bytes.{Bytes}
use Rattle.rules.specs.Layout.{no_next, cells_before}
use Rattle.rules.specs.Values.{type_of}
use Rattle.rules.specs.Size.{size_e, size_s, size_b, size_c}
use Rattle.rules.specs.Tree.{Expr, variable, constant, operation, negation, choice, just, taking, Signal, input, time, ext, delay, let_signal, switch, group, until, Branches, no_branch, branch, Cases, no_case, case}
use Rattle.rules.specs.declared.Value.{Value}
use Rattle.rules.specs.declared.Value.TheVariants.{Plain, Absent, Present}
use Rattle.written.specs.Parts.{Part, part, Slot, holds, child}
use Rattle.written.specs.Table.{table_of}
use Rattle.written.specs.Order.{order_s}

-- The present byte and the word of a value.
unfoldable pub present_of : Value → ℕ
present_of (Plain t w) = 1
present_of (Absent t) = 0
present_of (Present t w) = 1

unfoldable pub word_of : Value → ℕ
word_of (Plain t w) = w
word_of (Absent t) = 0
word_of (Present t w) = w

-- The place of a number in a list: the new number of an old node.
unfoldable pub place_in : List ℕ → ℕ → ℕ
place_in [] x = 0
place_in (y ∷ ys) x = if eqb y x then 0 else suc (place_in ys x)

-- The records of a tree. Variables' binders and cases' targets are given new numbers by φ.
unfoldable pub part_e : (ℕ → ℕ) → Expr → Part
part_e φ (variable n binder t) = part 16 0 0 (holds (φ binder)) (holds 0) (holds 0)
part_e φ (constant n v) = part 17 (type_of v) (word_of v) (holds 0) (holds (present_of v)) (holds 0)
part_e φ (operation n k x y) = part k 0 0 (child (part_e φ x)) (child (part_e φ y)) (holds 0)
part_e φ (negation n x) = part 24 0 0 (child (part_e φ x)) (holds 0) (holds 0)
part_e φ (choice n test x y) = part 27 0 0 (child (part_e φ test)) (child (part_e φ x)) (child (part_e φ y))
part_e φ (just n x) = part 28 0 0 (child (part_e φ x)) (holds 0) (holds 0)
part_e φ (taking n t m x y) = part 29 t 0 (child (part_e φ m)) (child (part_e φ x)) (child (part_e φ y))

unfoldable mutual
  pub part_s : Signal → (ℕ → ℕ) → Part
  part_s (input n c) φ = part 1 0 0 (holds c) (holds 0) (holds 0)
  part_s (time n) φ = part 2 0 0 (holds 0) (holds 0) (holds 0)
  part_s (ext n e) φ = part 3 0 0 (child (part_e φ e)) (holds 0) (holds 0)
  part_s (delay n k v s) φ = part 4 (type_of v) (word_of v) (child (part_s s φ)) (holds (present_of v)) (holds 0)
  part_s (let_signal n t d b) φ = part 5 t 0 (child (part_s d φ)) (child (part_s b φ)) (holds 0)
  part_s (switch n k t x e y) φ = part 6 t 0 (child (part_s x φ)) (child (part_s e φ)) (child (part_s y φ))
  part_s (group n k body brs) φ = part 7 0 0 (child (part_s body φ)) (slot_b brs φ) (holds 0)
  part_s (until n s cs) φ = part 8 0 0 (child (part_s s φ)) (slot_c cs φ) (holds 0)

  pub slot_b : Branches → (ℕ → ℕ) → Slot
  slot_b no_branch φ = holds no_next
  slot_b (branch n t body next) φ = child (part 9 t 0 (child (part_s body φ)) (slot_b next φ) (holds 0))

  pub slot_c : Cases → (ℕ → ℕ) → Slot
  slot_c no_case φ = holds no_next
  slot_c (case n event target t next) φ = child (part 10 0 0 (child (part_s event φ)) (slot_c next φ) (holds (φ target)))

-- The new number of each node: its place in the tree.
unfoldable pub new_number : Signal → ℕ → ℕ
new_number s x = place_in (order_s s) x

-- The table of a tree, in an edition.
unfoldable pub written : ℕ → Signal → Bytes
written edition s = table_of edition (part_s s (new_number s))

-- The tree with each node's number by its place, from lo on; binders and targets by φ, and cells by κ.
unfoldable pub placed_e : (ℕ → ℕ) → Expr → ℕ → Expr
placed_e φ (variable n binder t) lo = variable lo (φ binder) t
placed_e φ (constant n v) lo = constant lo v
placed_e φ (operation n k x y) lo = operation (lo + (size_e x + size_e y)) k (placed_e φ x lo) (placed_e φ y (lo + size_e x))
placed_e φ (negation n x) lo = negation (lo + size_e x) (placed_e φ x lo)
placed_e φ (choice n test x y) lo =
    choice (lo + (size_e test + size_e x + size_e y)) (placed_e φ test lo) (placed_e φ x (lo + size_e test)) (placed_e φ y (lo + size_e test + size_e x))
placed_e φ (just n x) lo = just (lo + size_e x) (placed_e φ x lo)
placed_e φ (taking n t m x y) lo =
    taking (lo + (size_e m + size_e x + size_e y)) t (placed_e φ m lo) (placed_e φ x (lo + size_e m)) (placed_e φ y (lo + size_e m + size_e x))

unfoldable mutual
  pub placed_s : Signal → (ℕ → ℕ) → (ℕ → ℕ) → ℕ → Signal
  placed_s (input n c) κ φ lo = input lo c
  placed_s (time n) κ φ lo = time lo
  placed_s (ext n e) κ φ lo = ext (lo + size_e e) (placed_e φ e lo)
  placed_s (delay n k v s) κ φ lo = delay (lo + size_s s) (κ (lo + size_s s)) v (placed_s s κ φ lo)
  placed_s (let_signal n t d b) κ φ lo = let_signal (lo + (size_s d + size_s b)) t (placed_s d κ φ lo) (placed_s b κ φ (lo + size_s d))
  placed_s (switch n k t x e y) κ φ lo =
      switch (lo + (size_s x + size_s e + size_s y)) (κ (lo + (size_s x + size_s e + size_s y))) t
      (placed_s x κ φ lo) (placed_s e κ φ (lo + size_s x)) (placed_s y κ φ (lo + size_s x + size_s e))
  placed_s (group n k body brs) κ φ lo =
      group (lo + (size_s body + size_b brs)) (κ (lo + (size_s body + size_b brs))) (placed_s body κ φ lo) (placed_b brs κ φ (lo + size_s body))
  placed_s (until n s cs) κ φ lo = until (lo + (size_s s + size_c cs)) (placed_s s κ φ lo) (placed_c cs κ φ (lo + size_s s))

  pub placed_b : Branches → (ℕ → ℕ) → (ℕ → ℕ) → ℕ → Branches
  placed_b no_branch κ φ lo = no_branch
  placed_b (branch n t body next) κ φ lo =
      branch (lo + (size_s body + size_b next)) t (placed_s body κ φ lo) (placed_b next κ φ (lo + size_s body))

  pub placed_c : Cases → (ℕ → ℕ) → (ℕ → ℕ) → ℕ → Cases
  placed_c no_case κ φ lo = no_case
  placed_c (case n event target t next) κ φ lo =
      case (lo + (size_s event + size_c next)) (placed_s event κ φ lo) (φ target) t (placed_c next κ φ (lo + size_s event))

-- The tree of the table: nodes, binders and targets by their place in the tree, cells as the table counts them.
unfoldable pub renamed : ℕ → Signal → Signal
renamed edition s = placed_s s (cells_before (written edition s)) (new_number s) 0
