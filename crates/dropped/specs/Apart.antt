-- A new tree all of whose numbers are below N, and drops of lets that the new tree does not name.
-- Assumes nothing: these are definitions.
use Rattle.std.specs.Prelude.{◌≡◌, true, ◌≢◌, ℕ, ◌<◌}
use Rattle.rules.specs.Tree.{Expr, variable, constant, operation, negation, choice, just, taking, Signal, input, time, ext, delay, let_signal, switch, group, until, Branches, no_branch, branch, Cases, no_case, case}
use Rattle.dropped.specs.Uses.{uses_s}
use Rattle.dropped.specs.Less.{LessS, inputs, times, exts, delays, lets, dropped, switches, groups, untils, LessB, no_branches, branches, LessC, no_cases, cases}

-- Binders, variables' binders and targets.
abbrev pub WithinE : ℕ → Expr → Type 0
WithinE c (variable n b t) = b < c
WithinE c (constant n v) = Unit {0}
WithinE c (operation n k x y) = WithinE c x × WithinE c y
WithinE c (negation n x) = WithinE c x
WithinE c (choice n test x y) = WithinE c test × WithinE c x × WithinE c y
WithinE c (just n x) = WithinE c x
WithinE c (taking n t m x y) = (n < c) × WithinE c m × WithinE c x × WithinE c y

abbrev mutual
  pub WithinS : ℕ → Signal → Type 0
  WithinS c (input n k) = Unit {0}
  WithinS c (time n) = Unit {0}
  WithinS c (ext n e) = WithinE c e
  WithinS c (delay n k v s) = WithinS c s
  WithinS c (let_signal n t d b) = (n < c) × WithinS c d × WithinS c b
  WithinS c (switch n k t x e y) = (n < c) × WithinS c x × WithinS c e × WithinS c y
  WithinS c (group n k body brs) = WithinS c body × WithinB c brs
  WithinS c (until n s cs) = WithinS c s × WithinC c cs

  pub WithinB : ℕ → Branches → Type 0
  WithinB c no_branch = Unit {0}
  WithinB c (branch n t body next) = (n < c) × WithinS c body × WithinB c next

  pub WithinC : ℕ → Cases → Type 0
  WithinC c no_case = Unit {0}
  WithinC c (case n event target t next) = (target < c) × WithinS c event × WithinC c next

-- Each let that is dropped is not named by what stands for its body.
abbrev mutual
  pub UnusedS : {π : ℕ → ℕ} {s s' : Signal} → LessS π s s' → Type 0
  UnusedS (inputs a) = Unit {0}
  UnusedS (times a) = Unit {0}
  UnusedS (exts a e) = Unit {0}
  UnusedS (delays a s) = UnusedS s
  UnusedS (lets a d b) = UnusedS d × UnusedS b
  UnusedS {π} (dropped {n = n} {s' = s'} b) = ((y : ℕ) → uses_s y s' ≡ true → π y ≢ n) × UnusedS b
  UnusedS (switches a x e y) = UnusedS x × UnusedS e × UnusedS y
  UnusedS (groups a b bs) = UnusedS b × UnusedB bs
  UnusedS (untils a s cs) = UnusedS s × UnusedC cs

  pub UnusedB : {π : ℕ → ℕ} {s s' : Branches} → LessB π s s' → Type 0
  UnusedB no_branches = Unit {0}
  UnusedB (branches a b bs) = UnusedS b × UnusedB bs

  pub UnusedC : {π : ℕ → ℕ} {s s' : Cases} → LessC π s s' → Type 0
  UnusedC no_cases = Unit {0}
  UnusedC (cases a g e cs) = UnusedS e × UnusedC cs
