-- What a chain is, said without the function: a list of nodes and of the fields by which it goes down; and which of two comes first.
-- Assumes nothing: these are definitions.
use Rattle.std.specs.Prelude.{◌≡◌, List, [], ◌∷◌, true, ◌⊎◌, ℕ, ◌≤◌, ◌<◌, length}
use Rattle.rules.specs.Bytes.{Bytes}
use Rattle.rules.specs.Layout.{kind_at, a_at}
use Rattle.chains.specs.Chain.{Which, a_field, b_field, c_field, field_at, enters}

-- Node m is the child of node n by a field that is entered. (65535 in a next field is no child: a child's number is smaller.)
pub record Enters (p : Bytes) (n : ℕ) (f : Which) (m : ℕ) : Type 0 where
  pub entered : enters (kind_at p n) f ≡ true
  pub child : m ≡ field_at p n f
  pub smaller : m < n

-- From node n, through the nodes ns by the fields fs, down to a use of the variable that node x binds.
abbrev pub Leads : Bytes → ℕ → ℕ → List ℕ → List Which → Type 0
Leads p x n [] [] = (kind_at p n ≡ 16) × (a_at p n ≡ x)
Leads p x n [] (f ∷ fs) = ⊥
Leads p x n (m ∷ ns) [] = ⊥
Leads p x n (m ∷ ns) (f ∷ fs) = Enters p n f m × Leads p x m ns fs

-- Field order: a, b, c. Of two ways down the first that differs decides.
abbrev pub order : Which → ℕ
order a_field = 0
order b_field = 1
order c_field = 2

abbrev pub NotAfter : List Which → List Which → Type 0
NotAfter [] gs = Unit {0}
NotAfter (f ∷ fs) [] = ⊥
NotAfter (f ∷ fs) (g ∷ gs) = (order f < order g) ⊎ ((f ≡ g) × NotAfter fs gs)

-- The chain that begins with node n and goes on with ns is the first by field order of all that begin with n.
pub record FirstChain (p : Bytes) (x n : ℕ) (ns : List ℕ) : Type 0 where
  pub fields : List Which
  pub leads : Leads p x n ns fields
  pub first : (ms : List ℕ) (gs : List Which) → Leads p x n ms gs → NotAfter fields gs
  pub short : length (n ∷ ns) ≤ 1008
