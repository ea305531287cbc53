-- In a program whose shape is right each node stands in the root's tree exactly once: what is weighed over the tree is what is weighed over
-- the table. So the tree has as many nodes as the table, and the bound is at most N(N + 1).
-- Assumes nothing.
use Rattle.std.specs.Prelude.{if◌then◌else◌, None}
use mathlib.Core.Path.{◌≡◌, refl, sym, ap, subst, ◌∙◌}
use mathlib.Core.Bool.{Bool, true, false}
use Prim.Native.Nat.{ℕ, zero, suc, ◌+◌, ◌-◌, ◌*◌, ◌≤◌, ◌<◌}
use native.Mathlib.Omega.{arith}
use lib.Dec.{eqb}
use borrow.Author.Tests.{eqb-true, ne_eqb}
use Rattle.rules.specs.Bytes.{Bytes, first, ◌and◌}
use Rattle.rules.specs.Layout.{kind_at, a_at, b_at, c_at, nodes, has_cell, cells_before}
use Rattle.rules.specs.declared.Field.{Field}
use Rattle.rules.specs.declared.Field.TheVariants.{Unused, Channel, PresentByte, Signal, Expression, FirstBranch, NextBranch, FirstCase, NextCase, Binder, Target}
use Rattle.rules.specs.Kinds.{fields_of}
use Rattle.rules.specs.Format.{length_wrong}
use Rattle.rules.specs.Shape.{is_child, names, names_in, named_below, named, shape_wrong}
use Rattle.rules.specs.Shaped.{Shaped}
use Rattle.rules.specs.Tree.{below, root}
use Rattle.rules.specs.Size.{size_s}
use Rattle.rules.specs.Bound.{bound}
use Rattle.rules.proofs.Nodes.{below_lt, below_ge}
use Rattle.rules.proofs.Kids.{Kid, kids, or_none, not_not}
use Rattle.rules.proofs.Established.{nowhere_from, shaped, root_signal}
use Rattle.rules.proofs.Bounds.{bound≤}
use Rattle.rules.proofs.ByKind.{choose}
use Rattle.rules.proofs.Counting.{total, total_same, total_plus, total_each, total_none, total_past, total_at, once}
use Rattle.rules.proofs.Weights.{weigh_s, of_child, of_children, own_as, own_at, whole, whole_law, signal_weighs}
use Rattle.rules.proofs.Sizes.{size_weight}

-- What a field's child weighs is what the nodes below m weigh, each taken as often as the field names it.
module _ (p : Bytes) (f : ℕ → ℕ) (m i x : ℕ) (h : i ≤ m) (g : m < 65535) where
  here : x < i → below i 0 f x ≡ total m (λ k. f k * (if eqb x k then 1 else 0))
  here l = below_lt i 0 f x l ∙ sym (total_at m x f (omega arith))

  gone : x ≡ 65535 → below i 0 f x ≡ total m (λ k. f k * (if eqb x k then 1 else 0))
  gone e = below_ge i 0 f x (omega arith) ∙ sym (total_past m x f (omega arith))

  field_sum : (field : Field) → Kid field p i x → of_child field (below i 0 f x) ≡ total m (λ k. f k * names field x k)
  unfolding of_child names is_child ◌and◌
  field_sum Unused k = sym (total_none m f)
  field_sum Channel k = sym (total_none m f)
  field_sum PresentByte k = sym (total_none m f)
  field_sum Signal k = here k.less
  field_sum Expression k = here k.less
  field_sum FirstBranch k = here k.less
  field_sum NextBranch k = choose x 65535 gone (λ d. here (k d).less)
  field_sum FirstCase k = here k.less
  field_sum NextCase k = choose x 65535 gone (λ d. here (k d).less)
  field_sum Binder k = sym (total_none m f)
  field_sum Target k = sym (total_none m f)

-- The same for all that node i names.
node_sum : (p : Bytes) (f : ℕ → ℕ) (m i : ℕ) → Shaped p → i < nodes p → i ≤ m → m < 65535
    → of_children (fields_of (kind_at p i)) p i (below i 0 f) ≡ total m (λ k. f k * names_in p k i)
unfolding of_children names_in
node_sum p f m i s l h g =
    let k = kids p i s l (kind_at p i) refl in
    let fa = (fields_of (kind_at p i)).a in
    let fb = (fields_of (kind_at p i)).b in
    let fc = (fields_of (kind_at p i)).c in
    let a : ℕ → ℕ = λ j. f j * names fa (a_at p i) j in
    let b : ℕ → ℕ = λ j. f j * names fb (b_at p i) j in
    let c : ℕ → ℕ = λ j. f j * names fc (c_at p i) j in
    let e = total_same m (λ j. f j * (names fa (a_at p i) j + names fb (b_at p i) j + names fc (c_at p i) j)) (λ j. a j + b j + c j) (λ j _. omega arith) in
    omega (
      arith,
      field_sum p f m i (a_at p i) h g fa k.0,
      field_sum p f m i (b_at p i) h g fb k.1,
      field_sum p f m i (c_at p i) h g fc k.2,
      e,
      total_plus m (λ j. a j + b j) c,
      total_plus m a b,
    )

-- Each node weighs 1.
own_one : (k : ℕ) → own_as k 1 1 ≡ 1
unfolding own_as
own_one k = go (has_cell k)
  where
    go : (b : Bool) → ◌≡◌ {A = ℕ} (if b then 1 else 1) 1
    go true = refl
    go false = refl

-- How often the nodes below n name k, as a sum.
named_total : (p : Bytes) (k n : ℕ) → total n (names_in p k) ≡ named_below p k n
unfolding total named_below
named_total p k zero = refl
named_total p k (suc n) = ap (λ (x : ℕ). x + names_in p k n) (named_total p k n)

module _ (p : Bytes) (l : length_wrong p ≡ false) (e : first (shape_wrong p) (nodes p) ≡ None) (h : 0 < nodes p) where
  named_once : (k : ℕ) → suc k < nodes p → named_below p k (nodes p) ≡ 1
  unfolding first shape_wrong named
  named_once k g =
      let f = (or_none _ _ (nowhere_from (shape_wrong p) (nodes p) 0 k e (omega arith) (omega arith))).1 in
      eqb-true _ _ (not_not _ (simp (ne_eqb (suc k) (nodes p) (λ z. omega arith)) at f))

  -- What a node weighs with its children, at the root, is the sum over the table.
  pub whole_once : (own : ℕ → ℕ) → whole p own (nodes p - 1) ≡ total (nodes p) own
  whole_once own =
      let s = shaped p l e in
      let q : suc (nodes p - 1) ≡ nodes p = omega arith in
      once (nodes p - 1) (whole p own) own (names_in p)
      (λ i g. whole_law p own i ∙ ap (λ (x : ℕ). own i + x) (node_sum p (whole p own) (nodes p - 1) i s (omega arith) (omega arith) (omega (arith, s.small))))
      (λ k g. ap (λ (n : ℕ). total n (names_in p k)) q ∙ named_total p k (nodes p) ∙ named_once k (omega arith))
      ∙ ap (λ (n : ℕ). total n own) q

  -- Each node, with or without a cell, stands in the root's tree exactly once.
  pub weighed_once : (u : ℕ) (v : ℕ → ℕ) → weigh_s (root p) u v ≡ total (nodes p) (λ n. own_as (kind_at p n) u (v (cells_before p n)))
  unfolding root
  weighed_once u v = signal_weighs p u v (nodes p - 1) (root_signal p l e h) ∙ whole_once (own_at p u v)

  -- The root's tree has exactly as many nodes as the table.
  pub tree_size : size_s (root p) ≡ nodes p
  tree_size =
      size_weight (root p) ∙ weighed_once 1 (λ _. 1)
      ∙ total_same (nodes p) (λ n. own_as (kind_at p n) 1 1) (λ n. 1) (λ n _. own_one (kind_at p n))
      ∙ total_each (nodes p) 1 ∙ (let z : nodes p * 1 ≡ nodes p = omega arith in z)

  pub tree_small : size_s (root p) ≤ 1008
  tree_small = omega (arith, tree_size, (shaped p l e).small)

  pub bound_small : bound p ≤ nodes p * (nodes p + 1)
  unfolding bound
  bound_small = subst (λ (n : ℕ). bound p ≤ n * (n + 1)) tree_size (bound≤ (root p))
