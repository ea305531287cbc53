-- The value that a node gave while a signal was evaluated: its 8 bytes as one number, or what was noted before where the evaluation did not come to
-- that node.
-- Assumes nothing: these are definitions.
use Rattle.std.specs.Prelude.{ℕ, eqb, if◌then◌else◌}
use Rattle.rules.specs.Bytes.{Bytes, u64_at}
use Rattle.rules.specs.Values.{value_bytes}
use Rattle.rules.specs.Layout.{held, is_clear, branch_in}
use Rattle.rules.specs.Tree.{Signal, input, time, ext, delay, let_signal, switch, group, until, Branches, no_branch, branch}
use Rattle.rules.specs.Evaluate.{Env, bind, eval_s}
use Rattle.rules.specs.declared.Value.{Value}
use Rattle.rules.specs.Evaluated.{Evaluated, Done, Stuck}

-- A value that is given, over what was noted before.
unfoldable pub given : Evaluated → ℕ → ℕ
given (Done v u) z = u64_at (value_bytes v) 0
given Stuck z = z

-- Node n gives r: is it node x?
unfoldable pub own : ℕ → ℕ → Evaluated → ℕ → ℕ
own n x r z = if eqb n x then given r z else z

-- In a let's body, once the definition gave its value.
unfoldable pub once : Evaluated → (Value → ℕ → ℕ) → ℕ → ℕ
once (Done v u) f z = f v z
once Stuck f z = z

-- The parts that a signal evaluates give their values, and so does the signal itself: a let's definition and body, the current part of a switch or
-- a group, an until's signal. The evaluation does not come to parts that are not current, the inside of a delay, the events of switch and until.
-- z is what was noted before: 0 at the root.
unfoldable mutual
  pub gave_s : Bytes → Bytes → Env → Signal → ℕ → ℕ → ℕ
  gave_s rec st env (input n c) x z = own n x (eval_s rec st env (input n c)) z
  gave_s rec st env (time n) x z = own n x (eval_s rec st env (time n)) z
  gave_s rec st env (ext n e) x z = own n x (eval_s rec st env (ext n e)) z
  gave_s rec st env (delay n k v s) x z = own n x (eval_s rec st env (delay n k v s)) z
  gave_s rec st env (let_signal n t d b) x z =
      own n x (eval_s rec st env (let_signal n t d b))
      (once (eval_s rec st env d) (λ v y. gave_s rec st (bind env n v) b x y) (gave_s rec st env d x z))
  gave_s rec st env (switch n k t f e s) x z =
      own n x (eval_s rec st env (switch n k t f e s))
      (if is_clear st k then gave_s rec st env f x z else gave_s rec st (bind env n (held st k)) s x z)
  gave_s rec st env (group n k body brs) x z =
      own n x (eval_s rec st env (group n k body brs))
      (if is_clear st k then gave_s rec st env body x z else gave_b rec st env (branch_in st k) (held st k) brs x z)
  gave_s rec st env (until n s cs) x z = own n x (eval_s rec st env (until n s cs)) (gave_s rec st env s x z)

  -- In the branch with the number. (A branch is no signal: it gives nothing itself.)
  pub gave_b : Bytes → Bytes → Env → ℕ → Value → Branches → ℕ → ℕ → ℕ
  gave_b rec st env which v no_branch x z = z
  gave_b rec st env which v (branch n t body next) x z =
      if eqb n which then gave_s rec st (bind env n v) body x z else gave_b rec st env which v next x z
