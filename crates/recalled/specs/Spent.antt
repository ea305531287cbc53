-- The rules that a step by the memory uses in earnest, whatever it counts: as the update of Recall goes, one for each update rule, and what its own
-- evaluations count; and a bound of them.
-- Assumes nothing: these are definitions.
use Rattle.std.specs.Prelude.{ℕ, ◌+◌, max, eqb, if◌then◌else◌}
use Rattle.rules.specs.Bytes.{Bytes}
use Rattle.rules.specs.Layout.{held, is_clear, branch_in}
use Rattle.rules.specs.Work.{Updated, Next, Jump, Halted}
use Rattle.rules.specs.Tree.{Signal, input, time, ext, delay, let_signal, switch, group, until, Branches, no_branch, branch, Cases, no_case, case}
use Rattle.rules.specs.Evaluate.{Env, bind, eval_s}
use Rattle.rules.specs.Bound.{bound_s, bound_sc}
use Rattle.rules.specs.declared.Value.{Value}
use Rattle.rules.specs.Evaluated.{Evaluated, Done, Stuck}
use Rattle.recalled.specs.Recall.{Memory, fill_s, fill_c, recall_s, recall_c}

unfoldable pub count_of : Evaluated → ℕ
count_of (Done v u) = u.work
count_of Stuck = 0

unfoldable pub on_value : Evaluated → (Value → ℕ) → ℕ
on_value (Done v u) f = f v
on_value Stuck f = 0

unfoldable pub on_next : Updated → (Bytes → ℕ) → ℕ
on_next (Next st u) f = f st
on_next (Jump target v st u) f = 0
on_next Halted f = 0

-- What the events of an until count, if all are evaluated.
unfoldable pub count_c : Bytes → Bytes → Env → Cases → ℕ
count_c rec st env no_case = 0
count_c rec st env (case n event target t next) = count_of (eval_s rec st env event) + count_c rec st env next

-- (Where an event is present this counts more than is used: what follows it.)
unfoldable mutual
  pub spent_s : Bytes → Env → Signal → Bytes → Memory → ℕ
  spent_s rec env (input n c) st m = 1
  spent_s rec env (time n) st m = 1
  spent_s rec env (ext n e) st m = 1
  spent_s rec env (delay n k v s) st m = 1 + (count_of (eval_s rec st env s) + spent_s rec env s st (fill_s rec st env s m))
  spent_s rec env (let_signal n t d b) st m =
      1 + on_value (m n) λ v.
      spent_s rec (bind env n v) d st m
      + on_next (recall_s rec (bind env n v) d st m).outcome λ st₁. spent_s rec (bind env n v) b st₁ (recall_s rec (bind env n v) d st m).memory
  spent_s rec env (switch n k t x e y) st m =
      1 + (count_of (eval_s rec st env e) + (spent_s rec env e st (fill_s rec st env e m)
      + on_next (recall_s rec env e st (fill_s rec st env e m)).outcome λ st₁.
      if is_clear st₁ k then spent_s rec env x st₁ (recall_s rec env e st (fill_s rec st env e m)).memory
      else spent_s rec (bind env n (held st₁ k)) y st₁ (recall_s rec env e st (fill_s rec st env e m)).memory))
  spent_s rec env (group n k body brs) st m =
      1 + (if is_clear st k then spent_s rec env body st m else spent_b rec env (branch_in st k) (held st k) brs st m)
  spent_s rec env (until n s cs) st m =
      1 + (count_c rec st env cs + (spent_c rec env cs st (fill_c rec st env cs m)
      + on_next (recall_c rec env cs st (fill_c rec st env cs m)).outcome λ st₁. spent_s rec env s st₁ (recall_c rec env cs st (fill_c rec st env cs m)).memory))

  pub spent_b : Bytes → Env → ℕ → Value → Branches → Bytes → Memory → ℕ
  spent_b rec env which v no_branch st m = 0
  spent_b rec env which v (branch n t body next) st m =
      if eqb n which then spent_s rec (bind env n v) body st m else spent_b rec env which v next st m

  pub spent_c : Bytes → Env → Cases → Bytes → Memory → ℕ
  spent_c rec env no_case st m = 0
  spent_c rec env (case n event target t next) st m =
      spent_c rec env next st m + on_next (recall_c rec env next st m).outcome λ st₁. spent_s rec env event st₁ (recall_c rec env next st m).memory

-- The bound of the rules' update, but that a let's definition is not evaluated.
unfoldable mutual
  pub bound_r : Signal → ℕ
  bound_r (input n c) = 1
  bound_r (time n) = 1
  bound_r (ext n e) = 1
  bound_r (delay n k v s) = 1 + (bound_s s + bound_r s)
  bound_r (let_signal n t d b) = 1 + (bound_r d + bound_r b)
  bound_r (switch n k t x e y) = 1 + (bound_s e + (bound_r e + max (bound_r x) (bound_r y)))
  bound_r (group n k body brs) = 1 + max (bound_r body) (bound_rb brs)
  bound_r (until n s cs) = 1 + (bound_sc cs + (bound_rc cs + bound_r s))

  pub bound_rb : Branches → ℕ
  bound_rb no_branch = 0
  bound_rb (branch n t body next) = max (bound_r body) (bound_rb next)

  pub bound_rc : Cases → ℕ
  bound_rc no_case = 0
  bound_rc (case n event target t next) = bound_r event + bound_rc next
