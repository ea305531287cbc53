-- Lets whose body does not name their variable, replaced by that body until none is left (request m): one pass from below.
-- Assumes nothing: these are definitions.
use Rattle.std.specs.Prelude.{ℕ, if◌then◌else◌}
use Rattle.rules.specs.Tree.{Signal, input, time, ext, delay, let_signal, switch, group, until, Branches, no_branch, branch, Cases, no_case, case}
use Rattle.dropped.specs.Uses.{uses_s}

-- A let over a tidied definition and a tidied body. (The definition may name the variable: that does not keep the let.)
unfoldable pub let_over : ℕ → ℕ → Signal → Signal → Signal
let_over n t d b = if uses_s n b then let_signal n t d b else b

unfoldable mutual
  pub tidy_s : Signal → Signal
  tidy_s (input n c) = input n c
  tidy_s (time n) = time n
  tidy_s (ext n e) = ext n e
  tidy_s (delay n k v s) = delay n k v (tidy_s s)
  tidy_s (let_signal n t d b) = let_over n t (tidy_s d) (tidy_s b)
  tidy_s (switch n k t x e y) = switch n k t (tidy_s x) (tidy_s e) (tidy_s y)
  tidy_s (group n k body brs) = group n k (tidy_s body) (tidy_b brs)
  tidy_s (until n s cs) = until n (tidy_s s) (tidy_c cs)

  pub tidy_b : Branches → Branches
  tidy_b no_branch = no_branch
  tidy_b (branch n t body next) = branch n t (tidy_s body) (tidy_b next)

  pub tidy_c : Cases → Cases
  tidy_c no_case = no_case
  tidy_c (case n event target t next) = case n (tidy_s event) target t (tidy_c next)
