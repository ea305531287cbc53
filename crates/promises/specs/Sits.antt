-- A tree whose numbers, types and values are those of a table: count nodes, cells cells, and τ n the type that node n declares.
-- Assumes nothing: these are definitions.
use Rattle.std.specs.Prelude.{◌≡◌, ℕ, ◌<◌, ◌≤◌}
use Rattle.rules.specs.Tree.{Expr, variable, constant, operation, negation, choice, just, taking, Signal, input, time, ext, delay, let_signal, switch, group, until, Branches, no_branch, branch, Cases, no_case, case}
use Rattle.promises.specs.Valid.{Valid}

-- A binder is a node, and declares its variable's type.
pub record Binds (count : ℕ) (τ : ℕ → ℕ) (n t : ℕ) : Type 0 where
  pub below : n < count
  pub declared : t ≡ τ n

-- The type of a switch's, a branch's and a take's variable is plain.
pub record BindsPlain (count : ℕ) (τ : ℕ → ℕ) (n t : ℕ) : Type 0 where
  pub binds : Binds count τ n t
  pub least : 1 ≤ t
  pub most : t ≤ 3

-- A branch's number is one of two bytes, and not zero.
pub record Numbered (n : ℕ) : Type 0 where
  pub positive : 1 ≤ n
  pub small : n < 65536

-- Expressions: a variable has its binder's type.
abbrev pub SitsE : ℕ → (ℕ → ℕ) → Expr → Type 0
SitsE count τ (variable n binder t) = t ≡ τ binder
SitsE count τ (constant n v) = Valid v
SitsE count τ (operation n k x y) = SitsE count τ x × SitsE count τ y
SitsE count τ (negation n x) = SitsE count τ x
SitsE count τ (choice n test x y) = SitsE count τ test × SitsE count τ x × SitsE count τ y
SitsE count τ (just n x) = SitsE count τ x
SitsE count τ (taking n t m x y) = BindsPlain count τ n t × SitsE count τ m × SitsE count τ x × SitsE count τ y

-- Signals, branches and cases: a case carries the type of its target's argument.
abbrev mutual
  pub SitsS : ℕ → ℕ → (ℕ → ℕ) → Signal → Type 0
  SitsS count cells τ (input n c) = c < 8
  SitsS count cells τ (time n) = Unit {0}
  SitsS count cells τ (ext n e) = SitsE count τ e
  SitsS count cells τ (delay n k v s) = (k < cells) × Valid v × SitsS count cells τ s
  SitsS count cells τ (let_signal n t d b) = Binds count τ n t × SitsS count cells τ d × SitsS count cells τ b
  SitsS count cells τ (switch n k t x e y) =
      (k < cells) × BindsPlain count τ n t × SitsS count cells τ x × SitsS count cells τ e × SitsS count cells τ y
  SitsS count cells τ (group n k body brs) = (k < cells) × SitsS count cells τ body × SitsB count cells τ brs
  SitsS count cells τ (until n s cs) = SitsS count cells τ s × SitsC count cells τ cs

  pub SitsB : ℕ → ℕ → (ℕ → ℕ) → Branches → Type 0
  SitsB count cells τ no_branch = Unit {0}
  SitsB count cells τ (branch n t body next) =
      Numbered n × BindsPlain count τ n t × SitsS count cells τ body × SitsB count cells τ next

  pub SitsC : ℕ → ℕ → (ℕ → ℕ) → Cases → Type 0
  SitsC count cells τ no_case = Unit {0}
  SitsC count cells τ (case n event target t next) =
      (t ≡ τ target) × SitsS count cells τ event × SitsC count cells τ next
