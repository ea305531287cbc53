-- A tree that carries what a table declares: its binders are nodes and have their declared types, a variable and a case carry the type that
-- their binder or target declares, and an operation is of one of the kinds. Every tree that is read off a shaped table does (FromTable).
-- Assumes nothing.
use mathlib.Core.Path.{◌≡◌}
use Prim.Native.Nat.{ℕ, ◌<◌}
use Rattle.rules.specs.Layout.{most_nodes}
use Rattle.rules.specs.Operations.{operand_type, result_type}
use Rattle.rules.specs.Tree.{Expr, variable, constant, operation, negation, choice, just, taking, Signal, input, time, ext, delay, let_signal, switch, group, until, Branches, no_branch, branch, Cases, no_case, case}
use Rattle.declarative.specs.TypedE.{Takes}

-- A binder is a node, and declares its variable's type: τ n is what node n declares.
pub record Binder (τ : ℕ → ℕ) (n t : ℕ) : Type 0 where
  pub inside : n < most_nodes
  pub declared : t ≡ τ n

abbrev pub DeclaresE : (ℕ → ℕ) → Expr → Type 0
DeclaresE τ (variable n binder t) = t ≡ τ binder
DeclaresE τ (constant n v) = Unit {0}
DeclaresE τ (operation n k x y) = Takes k (operand_type k) (result_type k) × DeclaresE τ x × DeclaresE τ y
DeclaresE τ (negation n x) = DeclaresE τ x
DeclaresE τ (choice n c x y) = DeclaresE τ c × DeclaresE τ x × DeclaresE τ y
DeclaresE τ (just n x) = DeclaresE τ x
DeclaresE τ (taking n t m x y) = Binder τ n t × DeclaresE τ m × DeclaresE τ x × DeclaresE τ y

abbrev mutual
  pub DeclaresS : (ℕ → ℕ) → Signal → Type 0
  DeclaresS τ (input n c) = Unit {0}
  DeclaresS τ (time n) = Unit {0}
  DeclaresS τ (ext n e) = DeclaresE τ e
  DeclaresS τ (delay n k v s) = DeclaresS τ s
  DeclaresS τ (let_signal n t d b) = Binder τ n t × DeclaresS τ d × DeclaresS τ b
  DeclaresS τ (switch n k t x e y) = Binder τ n t × DeclaresS τ x × DeclaresS τ e × DeclaresS τ y
  DeclaresS τ (group n k body brs) = DeclaresS τ body × DeclaresB τ brs
  DeclaresS τ (until n s cs) = DeclaresS τ s × DeclaresC τ cs

  pub DeclaresB : (ℕ → ℕ) → Branches → Type 0
  DeclaresB τ no_branch = Unit {0}
  DeclaresB τ (branch n t body next) = Binder τ n t × DeclaresS τ body × DeclaresB τ next

  pub DeclaresC : (ℕ → ℕ) → Cases → Type 0
  DeclaresC τ no_case = Unit {0}
  DeclaresC τ (case n event target t next) = (t ≡ τ target) × DeclaresS τ event × DeclaresC τ next
