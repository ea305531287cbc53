-- What a pass finds in an expression and a signal of each kind and in a list of branches.
-- Assumes nothing.
use Rattle.std.specs.Prelude.{None}
use mathlib.Core.Path.{◌≡◌, ap}
use Prim.Native.Nat.{ℕ}
use Rattle.rules.specs.Bytes.{Bytes}
use Rattle.rules.specs.Layout.{kind_at, a_at, b_at, c_at}
use Rattle.rules.specs.Kinds.{is_expression, is_signal, is_branch}
use Rattle.rules.specs.Places.{sooner, wrong_if}
use Rattle.rules.specs.Shaped.{NodeOf}
use Rattle.rules.specs.Tree.{expr_at, signal_at, branches_at, cases_at}
use Rattle.rules.specs.Ready.{ready_s, ready_c}
use Rattle.rules.proofs.Nodes.{expr_variable, expr_constant, signal_input, signal_time}
use Rattle.rules.proofs.Expressions.{IsOperation, negation_tree, just_tree, choice_tree, taking_tree, operation_tree}
use Rattle.rules.proofs.Signals.{ext_tree, delay_tree, let_tree, switch_tree, group_tree, until_tree, branch_end, branch_on}
use Rattle.ready.specs.Found.{Lets, adding, found_e, found_s, found_b}

module _ (p : Bytes) (n : ℕ) (w : NodeOf is_expression p n) (M : Lets) where
  pub variable_found : kind_at p n ≡ 16 → found_e M (expr_at p n) ≡ wrong_if (M (a_at p n)) (a_at p n)
  unfolding found_e
  variable_found e = ap (found_e M) (expr_variable p n e)

  pub constant_found : kind_at p n ≡ 17 → found_e M (expr_at p n) ≡ None
  unfolding found_e
  constant_found e = ap (found_e M) (expr_constant p n e)

  pub negation_found : kind_at p n ≡ 24 → found_e M (expr_at p n) ≡ found_e M (expr_at p (a_at p n))
  unfolding found_e
  negation_found e = ap (found_e M) (negation_tree p n w e)

  pub just_found : kind_at p n ≡ 28 → found_e M (expr_at p n) ≡ found_e M (expr_at p (a_at p n))
  unfolding found_e
  just_found e = ap (found_e M) (just_tree p n w e)

  pub choice_found : kind_at p n ≡ 27
      → found_e M (expr_at p n) ≡ sooner (found_e M (expr_at p (a_at p n))) (sooner (found_e M (expr_at p (b_at p n))) (found_e M (expr_at p (c_at p n))))
  unfolding found_e
  choice_found e = ap (found_e M) (choice_tree p n w e)

  pub taking_found : kind_at p n ≡ 29
      → found_e M (expr_at p n) ≡ sooner (found_e M (expr_at p (a_at p n))) (sooner (found_e M (expr_at p (b_at p n))) (found_e M (expr_at p (c_at p n))))
  unfolding found_e
  taking_found e = ap (found_e M) (taking_tree p n w e)

  pub operation_found : IsOperation (kind_at p n) → found_e M (expr_at p n) ≡ sooner (found_e M (expr_at p (a_at p n))) (found_e M (expr_at p (b_at p n)))
  unfolding found_e
  operation_found o = ap (found_e M) (operation_tree p n w o)

module _ (p : Bytes) (n : ℕ) (w : NodeOf is_signal p n) (M : Lets) where
  pub input_found : kind_at p n ≡ 1 → found_s M (signal_at p n) ≡ None
  unfolding found_s
  input_found e = ap (found_s M) (signal_input p n e)

  pub time_found : kind_at p n ≡ 2 → found_s M (signal_at p n) ≡ None
  unfolding found_s
  time_found e = ap (found_s M) (signal_time p n e)

  pub ext_found : kind_at p n ≡ 3 → found_s M (signal_at p n) ≡ found_e M (expr_at p (a_at p n))
  unfolding found_s
  ext_found e = ap (found_s M) (ext_tree p n w e)

  pub delay_found : kind_at p n ≡ 4 → found_s M (signal_at p n) ≡ ready_s (signal_at p (a_at p n))
  unfolding found_s
  delay_found e = ap (found_s M) (delay_tree p n w e)

  pub let_found : kind_at p n ≡ 5 → found_s M (signal_at p n) ≡ sooner (found_s (adding n M) (signal_at p (a_at p n))) (found_s M (signal_at p (b_at p n)))
  unfolding found_s
  let_found e = ap (found_s M) (let_tree p n w e)

  pub switch_found : kind_at p n ≡ 6
      → found_s M (signal_at p n) ≡ sooner (found_s M (signal_at p (a_at p n))) (sooner (ready_s (signal_at p (b_at p n))) (found_s M (signal_at p (c_at p n))))
  unfolding found_s
  switch_found e = ap (found_s M) (switch_tree p n w e)

  pub group_found : kind_at p n ≡ 7 → found_s M (signal_at p n) ≡ sooner (found_s M (signal_at p (a_at p n))) (found_b M (branches_at p (b_at p n)))
  unfolding found_s
  group_found e = ap (found_s M) (group_tree p n w e)

  pub until_found : kind_at p n ≡ 8 → found_s M (signal_at p n) ≡ sooner (found_s M (signal_at p (a_at p n))) (ready_c (cases_at p (b_at p n)))
  unfolding found_s
  until_found e = ap (found_s M) (until_tree p n w e)

module _ (p : Bytes) (n : ℕ) (w : NodeOf is_branch p n) (M : Lets) where
  pub branch_last_found : b_at p n ≡ 65535 → found_b M (branches_at p n) ≡ sooner (found_s M (signal_at p (a_at p n))) None
  unfolding found_s
  branch_last_found e = ap (found_b M) (branch_end p n w e)

  pub branch_more_found : (b_at p n ≡ 65535 → ⊥) → found_b M (branches_at p n) ≡ sooner (found_s M (signal_at p (a_at p n))) (found_b M (branches_at p (b_at p n)))
  unfolding found_s
  branch_more_found d = ap (found_b M) (branch_on p n w d)
