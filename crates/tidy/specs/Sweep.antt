-- The walk that decides which lets go: a let's body before its definition, so that a definition is entered only where the body, as it is then,
-- names the variable. It lists the nodes that stay, children first in field order, and the lets that go.
-- Assumes nothing: these are definitions.
use Rattle.std.specs.Prelude.{ℕ, ◌+◌, ◌≤◌, ◌≡◌, List, [], ◌∷◌, ◌++◌, Bool, eqb, length, set, if◌then◌else◌}
use Rattle.rules.specs.Bytes.{Bytes, write_at}
use Rattle.rules.specs.Scope.{Marks, mark, is_marked}
use Rattle.rules.specs.Tree.{below}
use Rattle.tidy.specs.Twig.{Twig, twig, Limb, holds, child, held_in, twig_at}

-- Which variables are named by what was walked, and the list. A let that goes is listed with 1,024 added.
pub record Swept : Type 0 where
  pub marks : Marks
  pub names : List ℕ

unfoldable pub gone_let : ℕ → ℕ
gone_let n = 1024 + n

unfoldable pub unmark : Marks → ℕ → Marks
unmark u n = set u n 0

unfoldable pub nothing : Marks → Swept
nothing u = record { marks = u; names = [] }

-- A variable names its binder.
unfoldable pub swept_variable : ℕ → ℕ → Marks → Swept
swept_variable n binder u = record { marks = mark u binder; names = n ∷ [] }

-- A let, its body walked: with its definition where the body names it.
unfoldable pub swept_let : ℕ → Swept → (Marks → Swept) → Swept
swept_let n body definition =
    if is_marked body.marks n then record { marks = (definition body.marks).marks; names = (definition body.marks).names ++ (body.names ++ n ∷ []) }
    else record { marks = body.marks; names = body.names ++ gone_let n ∷ [] }

-- Any other node, its children walked last to first.
unfoldable pub swept_node : ℕ → (Marks → Swept) → (Marks → Swept) → (Marks → Swept) → Marks → Swept
swept_node n a b c u =
    let third = c u in
    let second = b third.marks in
    let first = a second.marks in
    record { marks = first.marks; names = first.names ++ (second.names ++ (third.names ++ n ∷ [])) }

unfoldable pub swept_as : ℕ → ℕ → ℕ → (Marks → Swept) → (Marks → Swept) → (Marks → Swept) → Marks → Swept
swept_as n k binder a b c u =
    if eqb k 16 then swept_variable n binder u
    else if eqb k 5 then swept_let n (b (unmark u n)) a
    else swept_node n a b c u

unfoldable mutual
  pub sweep_t : Twig → Marks → Swept
  sweep_t (twig n k t w a b c) u = swept_as n k (held_in a) (λ v. sweep_l a v) (λ v. sweep_l b v) (λ v. sweep_l c v) u

  pub sweep_l : Limb → Marks → Swept
  sweep_l (holds x) u = nothing u
  sweep_l (child x t) u = sweep_t t u

-- By the table: of node n; and of a field of node n that holds m, if it is for a child.
unfoldable pub sweep : Bytes → ℕ → Marks → Swept
sweep p n u = sweep_t (twig_at p n) u

unfoldable pub sweep_by : Bytes → ℕ → Bool → ℕ → Marks → Swept
sweep_by p n yes₀ m u = if yes₀ then below n (nothing u) (λ j. sweep p j u) m else nothing u

-- The rooms that the code walks with have 1,008 entries, and a walk's list is to stand before a place.
pub record Roomy (s : Swept) (at : ℕ) (used names : List ℕ) : Type 0 where
  pub fits : length s.names ≤ at
  pub most : at ≤ 1008
  pub used_long : length used ≡ 1008
  pub names_long : length names ≡ 1008

-- The walk is done, and its list stands before that place, from where the answer says.
pub record Stored (s : Swept) (at r : ℕ) (used' names names' : List ℕ) : Type 0 where
  pub from : r + length s.names ≡ at
  pub marked : used' ≡ s.marks
  pub listed : names' ≡ write_at names r s.names
