-- The chain at a node is read off its record and the chains at its children, however many levels were asked for.
-- Assumes nothing.
use mathlib.Core.Path.{◌≡◌, ap}
use mathlib.Core.List.{List, [], ◌∷◌}
use Prim.Native.Nat.{ℕ, zero, suc, ◌<◌}
use native.Mathlib.Nat.{not-suc-le-zero}
use native.Mathlib.Omega.{arith}
use Rattle.rules.specs.Bytes.{Bytes}
use Rattle.rules.specs.Tree.{below}
use Rattle.rules.proofs.Laws.{below_same}
use Rattle.chains.specs.Chain.{chain_as, chain_f, chain}

chain_enough : (p : Bytes) (x f g n : ℕ) → n < f → n < g → chain_f f p x n ≡ chain_f g p x n
unfolding chain_f
chain_enough p x zero g n hf hg = absurd (not-suc-le-zero hf)
chain_enough p x (suc f) zero n hf hg = absurd (not-suc-le-zero hg)
chain_enough p x (suc f) (suc g) n hf hg =
    ap (chain_as p x n)
    (below_same n [] (λ m. chain_f f p x m) (λ m. chain_f g p x m) λ m h. chain_enough p x f g m (omega arith) (omega arith))

pub chain_law : (p : Bytes) (x n : ℕ) → chain p x n ≡ chain_as p x n (below n [] (chain p x))
unfolding chain chain_f
chain_law p x n =
    ap (chain_as p x n)
    (below_same n [] (λ m. chain_f n p x m) (λ m. chain_f (suc m) p x m) λ m h. chain_enough p x n (suc m) m h (omega arith))
