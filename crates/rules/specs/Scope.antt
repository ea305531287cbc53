-- Code 6: scope. Going down, a context says which binders are in scope and which branches the groups upward offer.
-- Assumes nothing: these are definitions.
use Rattle.std.specs.Prelude.{ℕ, zero, suc, List, [], ◌∷◌, Bool, false, get_or, set, replicate, eqb, Option, None}
use Rattle.rules.specs.Bytes.{Bytes, ◌or◌}
use Rattle.rules.specs.Layout.{most_nodes, edition}
use Rattle.rules.specs.Places.{sooner, wrong_unless}
use Rattle.rules.specs.Tree.{Expr, variable, constant, operation, negation, choice, just, taking, Signal, input, time, ext, delay, let_signal, switch, group, until, Branches, no_branch, branch, Cases, no_case, case, root}

-- The binders in scope: a mark by node number.
abbrev pub Marks : Type 0
Marks = List ℕ

unfoldable pub mark : Marks → ℕ → Marks
mark marks n = set marks n 1

unfoldable pub is_marked : Marks → ℕ → Bool
is_marked marks n = eqb (get_or marks n 0) 1

unfoldable pub unmarked : ℕ → Marks
unmarked count = replicate count 0

-- A branch of a list has the number.
unfoldable pub has_branch : ℕ → Branches → Bool
has_branch k no_branch = false
has_branch k (branch n t body next) = eqb n k or has_branch k next

-- The groups that a case may leave for: their branches.
abbrev pub Offers : Type 0
Offers = List Branches

unfoldable pub is_offered : ℕ → Offers → Bool
is_offered k [] = false
is_offered k (brs ∷ more) = has_branch k brs or is_offered k more

-- Those that a group hands on to its parts: none in edition one, where only the first group upward counts; all in edition two, where the way up
-- may pass on through an inner let continue's body or branches.
unfoldable pub onward : ℕ → Offers → Offers
onward zero Δ = []
onward (suc e) Δ = Δ

-- A variable's binder is above it; a take is entered by its present arm.
unfoldable pub scope_e : Marks → Expr → Option ℕ
scope_e Γ (variable n binder t) = wrong_unless (is_marked Γ binder) n
scope_e Γ (constant n v) = None
scope_e Γ (operation n k x y) = sooner (scope_e Γ x) (scope_e Γ y)
scope_e Γ (negation n x) = scope_e Γ x
scope_e Γ (choice n test x y) = sooner (scope_e Γ test) (sooner (scope_e Γ x) (scope_e Γ y))
scope_e Γ (just n x) = scope_e Γ x
scope_e Γ (taking n t m x y) = sooner (scope_e Γ m) (sooner (scope_e Γ x) (scope_e (mark Γ n) y))

-- A let is entered by either part, a switch by its second, a branch by its body. Only let bodies, let continue bodies, branch bodies and
-- branch lists lead on to the group (Δ); a group's own branches are offered in its body and its branches, beside what it hands on.
unfoldable mutual
  pub scope_s : ℕ → Marks → Offers → Signal → Option ℕ
  scope_s e Γ Δ (input n c) = None
  scope_s e Γ Δ (time n) = None
  scope_s e Γ Δ (ext n x) = scope_e Γ x
  scope_s e Γ Δ (delay n k v s) = scope_s e Γ [] s
  scope_s e Γ Δ (let_signal n t d b) = sooner (scope_s e (mark Γ n) [] d) (scope_s e (mark Γ n) Δ b)
  scope_s e Γ Δ (switch n k t x event y) =
      sooner (scope_s e Γ [] x) (sooner (scope_s e Γ [] event) (scope_s e (mark Γ n) [] y))
  scope_s e Γ Δ (group n k body brs) =
      sooner (scope_s e Γ (brs ∷ onward e Δ) body) (scope_b e Γ (brs ∷ onward e Δ) brs)
  scope_s e Γ Δ (until n s cs) = sooner (scope_s e Γ [] s) (scope_c e Γ Δ cs)

  pub scope_b : ℕ → Marks → Offers → Branches → Option ℕ
  scope_b e Γ Δ no_branch = None
  scope_b e Γ Δ (branch n t body next) = sooner (scope_s e (mark Γ n) Δ body) (scope_b e Γ Δ next)

  -- A case's target is a branch of that group, or in edition two of any group met.
  pub scope_c : ℕ → Marks → Offers → Cases → Option ℕ
  scope_c e Γ Δ no_case = None
  scope_c e Γ Δ (case n event target t next) =
      sooner (wrong_unless (is_offered target Δ) n) (sooner (scope_s e Γ [] event) (scope_c e Γ Δ next))

-- The smallest variable or case out of scope.
unfoldable pub scope_fault : Bytes → Option ℕ
scope_fault p = scope_s (edition p) (unmarked most_nodes) [] (root p)
