-- What a recursion for bounds carries, so that no sum passes a word: a tree of at most 1008 nodes, and bounds that are as small as such a tree's.
-- Assumes nothing: these are definitions.
use Rattle.std.specs.Prelude.{◌≡◌, Bool, ℕ, ◌/◌, ◌%◌, ◌≤◌}
use Rattle.rules.specs.Bytes.{Bytes}
use Rattle.rules.specs.Shaped.{NodeOf}
use Rattle.rules.specs.Size.{size_e, size_s, size_b, size_c}
use Rattle.rules.specs.Tree.{expr_at, signal_at, branches_at, cases_at}

-- The number of nodes of the tree at a node, by sort.
abbrev pub nodes_e : Bytes → ℕ → ℕ
nodes_e p i = size_e (expr_at p i)

abbrev pub nodes_s : Bytes → ℕ → ℕ
nodes_s p i = size_s (signal_at p i)

abbrev pub nodes_b : Bytes → ℕ → ℕ
nodes_b p i = size_b (branches_at p i)

abbrev pub nodes_c : Bytes → ℕ → ℕ
nodes_c p i = size_c (cases_at p i)

-- A node of a sort, whose tree has at most 1008 nodes.
pub record SmallTree (sort : ℕ → Bool) (size : Bytes → ℕ → ℕ) (p : Bytes) (i : ℕ) : Type 0 where
  pub node : NodeOf sort p i
  pub small : size p i ≤ 1008

-- Both bounds as one number: that of the evaluation in the low half, that of the update in the high one.
unfoldable pub eval_in : ℕ → ℕ
eval_in m = m % 4294967296

unfoldable pub update_in : ℕ → ℕ
update_in m = m / 4294967296

-- Bounds of a tree of at most 1008 nodes.
pub record Most (m : ℕ) : Type 0 where
  pub eval_most : eval_in m ≤ 1008
  pub update_most : update_in m ≤ 1016064

-- Both bounds of a tree, and that they are small.
pub record BoundsOf (eval update : ℕ) (m : ℕ) : Type 0 where
  pub eval_is : eval_in m ≡ eval
  pub update_is : update_in m ≡ update
  pub most : Most m
