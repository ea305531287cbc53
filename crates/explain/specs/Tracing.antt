-- The chain of a node that is no use, from its children on.
-- Assumes nothing: these are definitions.
use Rattle.std.specs.Prelude.{ℕ, List, []}
use Rattle.rules.specs.Bytes.{Bytes}
use Rattle.rules.specs.Tree.{below}
use Rattle.chains.specs.Chain.{a_field, b_field, c_field, ◌or_else◌, via, chain}

unfoldable pub onward : Bytes → ℕ → ℕ → List ℕ
onward p x n =
    via p n (below n [] (chain p x)) a_field
    or_else via p n (below n [] (chain p x)) b_field
    or_else via p n (below n [] (chain p x)) c_field
