-- The chain (document 02, request d): "from the definition of the let down to the use of its own variable, each node a child of the one
-- before", as a function of the table.
-- Assumes nothing: these are definitions.
use Rattle.std.specs.Prelude.{ℕ, zero, suc, List, [], ◌∷◌, Bool, true, false, not, eqb, if◌then◌else◌}
use Rattle.rules.specs.Bytes.{Bytes, ◌and◌, ◌or◌}
use Rattle.rules.specs.Layout.{kind_at, a_at, b_at, c_at}
use Rattle.rules.specs.Kinds.{fields_of}
use Rattle.rules.specs.Shape.{is_child}
use Rattle.rules.specs.Tree.{below}

-- The fields a, b and c by their order, and what node n has in one.
pub data Which : Type 0 where
  a_field : Which
  b_field : Which
  c_field : Which

unfoldable pub field_at : Bytes → ℕ → Which → ℕ
field_at p n a_field = a_at p n
field_at p n b_field = b_at p n
field_at p n c_field = c_at p n

-- The fields by which a node of a kind is left for a child: "No delay is entered to its signal, no switch or until to its event." (An until's
-- events hang on its list of cases.)
unfoldable pub enters : ℕ → Which → Bool
enters k a_field = is_child (fields_of k).a and not (eqb k 4)
enters k b_field = is_child (fields_of k).b and not (eqb k 6 or eqb k 8)
enters k c_field = is_child (fields_of k).c

-- Node n is a use of the variable that node x binds.
unfoldable pub is_use : Bytes → ℕ → ℕ → Bool
is_use p x n = eqb (kind_at p n) 16 and eqb (a_at p n) x

-- No chain is the empty list. The first of two; and a chain with one node more in front.
infixr 20 ◌or_else◌
unfoldable pub ◌or_else◌ : List ℕ → List ℕ → List ℕ
[] or_else d = d
(n ∷ ns) or_else d = n ∷ ns

unfoldable pub under : ℕ → List ℕ → List ℕ
under n [] = []
under n (m ∷ ns) = n ∷ m ∷ ns

-- What a field of node n leads to, if it is one that is entered.
unfoldable pub via : Bytes → ℕ → (ℕ → List ℕ) → Which → List ℕ
via p n kid f = if enters (kind_at p n) f then kid (field_at p n f) else []

-- The chain from node n down to a use of x's variable, "the first by field order", so many levels deep; and down to the leaves.
unfoldable pub chain_as : Bytes → ℕ → ℕ → (ℕ → List ℕ) → List ℕ
chain_as p x n kid =
    if is_use p x n then n ∷ []
    else under n (via p n kid a_field or_else via p n kid b_field or_else via p n kid c_field)

unfoldable pub chain_f : ℕ → Bytes → ℕ → ℕ → List ℕ
chain_f zero p x n = []
chain_f (suc f) p x n = chain_as p x n (below n [] (λ m. chain_f f p x m))

unfoldable pub chain : Bytes → ℕ → ℕ → List ℕ
chain p x n = chain_f (suc n) p x n

-- The chain of let x: "from the definition of the let".
unfoldable pub chain_of : Bytes → ℕ → List ℕ
chain_of p x = chain p x (a_at p x)
