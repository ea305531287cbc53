-- The numbers of a tree fall on the way down.
-- Assumes nothing: these are definitions.
use Rattle.std.specs.Prelude.{ℕ, ◌<◌}
use Rattle.rules.specs.Tree.{Expr, variable, constant, operation, negation, choice, just, taking, Signal, input, time, ext, delay, let_signal, switch, group, until, Branches, no_branch, branch, Cases, no_case, case}

-- Below m, and each child's below its parent's. (Of leaves nothing is asked.)
abbrev pub FallsE : ℕ → Expr → Type 0
FallsE m (variable n b t) = Unit {0}
FallsE m (constant n v) = Unit {0}
FallsE m (operation n k x y) = (n < m) × FallsE n x × FallsE n y
FallsE m (negation n x) = (n < m) × FallsE n x
FallsE m (choice n c x y) = (n < m) × FallsE n c × FallsE n x × FallsE n y
FallsE m (just n x) = (n < m) × FallsE n x
FallsE m (taking n t a x y) = (n < m) × FallsE n a × FallsE n x × FallsE n y

abbrev mutual
  pub FallsS : ℕ → Signal → Type 0
  FallsS m (input n c) = Unit {0}
  FallsS m (time n) = Unit {0}
  FallsS m (ext n e) = (n < m) × FallsE n e
  FallsS m (delay n k v s) = (n < m) × FallsS n s
  FallsS m (let_signal n t d b) = (n < m) × FallsS n d × FallsS n b
  FallsS m (switch n k t x e y) = (n < m) × FallsS n x × FallsS n e × FallsS n y
  FallsS m (group n k body brs) = (n < m) × FallsS n body × FallsB n brs
  FallsS m (until n s cs) = (n < m) × FallsS n s × FallsC n cs

  pub FallsB : ℕ → Branches → Type 0
  FallsB m no_branch = Unit {0}
  FallsB m (branch n t body next) = (n < m) × FallsS n body × FallsB n next

  pub FallsC : ℕ → Cases → Type 0
  FallsC m no_case = Unit {0}
  FallsC m (case n event target t next) = (n < m) × FallsS n event × FallsC n next
