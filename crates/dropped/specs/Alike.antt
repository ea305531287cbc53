-- States and environments of an old and a new tree that go together.
-- Assumes nothing: these are definitions.
use Rattle.std.specs.Prelude.{◌≡◌, true, false, ◌⊎◌, ℕ, ◌≤◌, ◌<◌, get_or}
use Rattle.rules.specs.Bytes.{Bytes}
use Rattle.rules.specs.Layout.{cell, held, is_clear, branch_in}
use Rattle.rules.specs.Tree.{Signal, Branches, Cases}
use Rattle.rules.specs.Scope.{Marks, is_marked, has_branch}
use Rattle.rules.specs.Evaluate.{Env}
use Rattle.dropped.specs.Less.{LessS, inputs, times, exts, delays, lets, dropped, switches, groups, untils, LessB, no_branches, branches, LessC, no_cases, cases}

-- A group's cells: both are clear; or both hold the same argument, and the old names the branch that the new one's is paired with.
pub data GroupCell (π : ℕ → ℕ) (st st' : Bytes) (k k' : ℕ) (brs' : Branches) : Type 0 where
  in_body : is_clear st k ≡ true → is_clear st' k' ≡ true → GroupCell π st st' k k' brs'
  in_branch : is_clear st k ≡ false → is_clear st' k' ≡ false → held st k ≡ held st' k' → branch_in st k ≡ π (branch_in st' k')
      → has_branch (branch_in st' k') brs' ≡ true → GroupCell π st st' k k' brs'

-- Delays and switches hold the same content. Nothing is asked of the cells of dropped definitions.
abbrev mutual
  pub AlikeS : {π : ℕ → ℕ} {s s' : Signal} → Bytes → Bytes → LessS π s s' → Type 0
  AlikeS st st' (inputs a) = Unit {0}
  AlikeS st st' (times a) = Unit {0}
  AlikeS st st' (exts a e) = Unit {0}
  AlikeS st st' (delays {k = k} {k' = k'} a s) = (cell st k ≡ cell st' k') × AlikeS st st' s
  AlikeS st st' (lets a d b) = AlikeS st st' d × AlikeS st st' b
  AlikeS st st' (dropped b) = AlikeS st st' b
  AlikeS st st' (switches {k = k} {k' = k'} a x e y) =
      (cell st k ≡ cell st' k') × AlikeS st st' x × AlikeS st st' e × AlikeS st st' y
  AlikeS {π} st st' (groups {k = k} {k' = k'} {brs' = brs'} a b bs) = GroupCell π st st' k k' brs' × AlikeS st st' b × AlikeB st st' bs
  AlikeS st st' (untils a s cs) = AlikeS st st' s × AlikeC st st' cs

  pub AlikeB : {π : ℕ → ℕ} {s s' : Branches} → Bytes → Bytes → LessB π s s' → Type 0
  AlikeB st st' no_branches = Unit {0}
  AlikeB st st' (branches a b bs) = AlikeS st st' b × AlikeB st st' bs

  pub AlikeC : {π : ℕ → ℕ} {s s' : Cases} → Bytes → Bytes → LessC π s s' → Type 0
  AlikeC st st' no_cases = Unit {0}
  AlikeC st st' (cases a g e cs) = AlikeS st st' e × AlikeC st st' cs

-- What is in scope of the new tree has the same value in both environments, or none in the old one, and its old binder is above, from m on.
-- (A let's own variable has none while its definition is evaluated.)
pub record Bound (π : ℕ → ℕ) (m : ℕ) (env env' : Env) (x : ℕ) : Type 0 where
  pub above : m ≤ π x
  pub same : (get_or env (π x) 0 ≡ 0) ⊎ (get_or env (π x) 0 ≡ get_or env' x 0)

-- Below m nothing is bound yet.
pub record Envs (π : ℕ → ℕ) (m : ℕ) (Γ : Marks) (env env' : Env) : Type 0 where
  pub fresh : (j : ℕ) → j < m → get_or env j 0 ≡ 0
  pub bound : (x : ℕ) → is_marked Γ x ≡ true → Bound π m env env' x
