-- Where each old node leads through the bodies of lets: a table by node number, filled once.
-- Assumes nothing: these are definitions.
use Rattle.std.specs.Prelude.{◌≡◌, List, true, ℕ, suc, ◌≤◌, ◌<◌, length, get_or}
use Rattle.rules.specs.Bytes.{Bytes}
use Rattle.rules.specs.Layout.{nodes, kind_at, b_at, no_next}
use Rattle.rules.specs.Shape.{is_child, may_stop, named}
use Rattle.rules.specs.Shaped.{Shaped}
use Rattle.rules.specs.declared.Field.{Field}
use Rattle.rules.specs.declared.Fields.{Fields}

-- Of the nodes below m: a let has what its body has, any other node its own number.
pub record LeadsTo (m : ℕ) (p : Bytes) (l : List ℕ) : Type 0 where
  pub room : nodes p ≤ length l
  pub through : (x : ℕ) → x < m → kind_at p x ≡ 5 → get_or l x 0 ≡ get_or l (b_at p x) 0
  pub stays : (x : ℕ) → x < m → (kind_at p x ≡ 5 → ⊥) → get_or l x 0 ≡ x

-- The same of all nodes of a table whose shape is right.
pub record Leads (p : Bytes) (l : List ℕ) : Type 0 where
  pub shaped : Shaped p
  pub once : (n : ℕ) → suc n < nodes p → named p n ≡ 1
  pub filled : LeadsTo (nodes p) p l

-- The child that a field names is a node, but where it names none.
abbrev pub InField : Bytes → Field → ℕ → Type 0
InField p f y = is_child f ≡ true → (may_stop f ≡ true → y ≡ no_next → ⊥) → y < nodes p

-- The same of the three fields of a node.
pub record InFields (p : Bytes) (f : Fields) (x y z : ℕ) : Type 0 where
  pub in_a : InField p f.a x
  pub in_b : InField p f.b y
  pub in_c : InField p f.c z
