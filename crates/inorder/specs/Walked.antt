-- The walk that numbers nodes: children first in field order, each node's number its place.
-- Assumes nothing: these are definitions.
use Rattle.std.specs.Prelude.{ℕ, suc, ◌+◌, ◌≡◌, List, [], ◌∷◌, ◌++◌, Bool, length, set, if◌then◌else◌}
use Rattle.rules.specs.Bytes.{Bytes, write_at}
use Rattle.rules.specs.Tree.{below}
use Rattle.tidy.specs.Twig.{Twig, twig, Limb, holds, child, twig_at}

-- The nodes of a tree without regard to kinds.
unfoldable mutual
  pub list_t : Twig → List ℕ
  list_t (twig n k t w a b c) = list_l a ++ (list_l b ++ (list_l c ++ n ∷ []))

  pub list_l : Limb → List ℕ
  list_l (holds x) = []
  list_l (child x t) = list_t t

-- By the table: of node n; and of a field of node n that holds m, if it is for a child.
unfoldable pub order_at : Bytes → ℕ → List ℕ
order_at p n = list_t (twig_at p n)

unfoldable pub order_by : Bytes → ℕ → Bool → ℕ → List ℕ
order_by p n yes₀ m = if yes₀ then below n [] (λ j. order_at p j) m else []

-- By old number, the new one: its place in the list, from a place on.
unfoldable pub numbers : List ℕ → ℕ → List ℕ → List ℕ
numbers [] m new = new
numbers (e ∷ es) m new = numbers es (suc m) (set new e m)

-- The nodes of a list are listed from a place on and numbered, and the answer is the place behind them.
pub record Walked (xs : List ℕ) (at r : ℕ) (order order' new new' : List ℕ) : Type 0 where
  pub from : r ≡ at + length xs
  pub listed : order' ≡ write_at order at xs
  pub numbered : new' ≡ numbers xs at new
