-- What one pass over a program finds: a let of a set that is needed at once, or a let inside that is not ready.
-- Assumes nothing: these are definitions.
use Rattle.std.specs.Prelude.{ℕ, Bool, false, eqb, Option, None}
use Rattle.rules.specs.Bytes.{◌or◌}
use Rattle.rules.specs.Places.{sooner, wrong_if}
use Rattle.rules.specs.Tree.{Expr, variable, constant, operation, negation, choice, just, taking, Signal, input, time, ext, delay, let_signal, switch, group, until, Branches, no_branch, branch}
use Rattle.rules.specs.Ready.{ready_s, ready_c}

-- A set of lets, by their numbers: those whose definition is around, with no delay and no event between.
abbrev pub Lets : Type 0
Lets = ℕ → Bool

unfoldable pub no_let : Lets
no_let x = false

-- One let more.
unfoldable pub adding : ℕ → Lets → Lets
adding n M x = eqb x n or M x

unfoldable pub found_e : Lets → Expr → Option ℕ
found_e M (variable n binder t) = wrong_if (M binder) binder
found_e M (constant n v) = None
found_e M (operation n k e f) = sooner (found_e M e) (found_e M f)
found_e M (negation n e) = found_e M e
found_e M (choice n test e f) = sooner (found_e M test) (sooner (found_e M e) (found_e M f))
found_e M (just n e) = found_e M e
found_e M (taking n t m e f) = sooner (found_e M m) (sooner (found_e M e) (found_e M f))

-- A let's definition is passed with the let in the set; under a delay, and in an event, the set is empty.
unfoldable mutual
  pub found_s : Lets → Signal → Option ℕ
  found_s M (input n c) = None
  found_s M (time n) = None
  found_s M (ext n e) = found_e M e
  found_s M (delay n k v s) = ready_s s
  found_s M (let_signal n t d b) = sooner (found_s (adding n M) d) (found_s M b)
  found_s M (switch n k t x e y) = sooner (found_s M x) (sooner (ready_s e) (found_s M y))
  found_s M (group n k body brs) = sooner (found_s M body) (found_b M brs)
  found_s M (until n s cs) = sooner (found_s M s) (ready_c cs)

  pub found_b : Lets → Branches → Option ℕ
  found_b M no_branch = None
  found_b M (branch n t body next) = sooner (found_s M body) (found_b M next)
