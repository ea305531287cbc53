-- The scope of an expression of each kind, and the same from what the calls for its parts have answered, marks as each of them has left them.
-- Assumes nothing.
use Rattle.std.specs.Prelude.{Option, None, ℕ}
use mathlib.Core.Path.{◌≡◌, ap}
use mathlib.Core.List.{List}
use mathlib.Core.Bool.{Bool, false}
use Prim.Native.Nat.{ℕ, ◌≤◌}
use lib.ListN.{length, get_or-eq_default}
use Rattle.rules.specs.Bytes.{Bytes}
use Rattle.rules.specs.Layout.{kind_at, a_at, b_at, c_at}
use Rattle.rules.specs.Kinds.{is_expression}
use Rattle.rules.specs.Places.{sooner, wrong_unless}
use Rattle.rules.specs.Tree.{expr_at}
use Rattle.rules.specs.Scope.{Marks, mark, is_marked, scope_e}
use Rattle.rules.proofs.Nodes.{expr_variable, expr_constant, expr_negation, expr_choice, expr_operation, expr_just, expr_taking}
use Rattle.rules.specs.Shaped.{NodeOf}
use Rattle.rules.proofs.Expressions.{IsOperation, negation_kid, just_kid, choice_kids, taking_kids, operation_kids}

pub unmarked_past : (marks : Marks) (n : ℕ) → length marks ≤ n → is_marked marks n ≡ false
unfolding is_marked
unmarked_past marks n h = rw (get_or-eq_default marks 0 h)

module _ (p : Bytes) (n : ℕ) (w : NodeOf is_expression p n) (Γ : Marks) where
  variable_scope : kind_at p n ≡ 16 → scope_e Γ (expr_at p n) ≡ wrong_unless (is_marked Γ (a_at p n)) n
  unfolding scope_e
  variable_scope e = ap (scope_e Γ) (expr_variable p n e)

  pub constant_scope : kind_at p n ≡ 17 → scope_e Γ (expr_at p n) ≡ None
  unfolding scope_e
  constant_scope e = ap (scope_e Γ) (expr_constant p n e)

  pub negation_scope : kind_at p n ≡ 24 → scope_e Γ (expr_at p n) ≡ scope_e Γ (expr_at p (a_at p n))
  unfolding scope_e
  negation_scope e = ap (scope_e Γ) (expr_negation p n e (negation_kid p n w e).less)

  pub just_scope : kind_at p n ≡ 28 → scope_e Γ (expr_at p n) ≡ scope_e Γ (expr_at p (a_at p n))
  unfolding scope_e
  just_scope e = ap (scope_e Γ) (expr_just p n e (just_kid p n w e).less)

  choice_scope : kind_at p n ≡ 27
      → scope_e Γ (expr_at p n) ≡ sooner (scope_e Γ (expr_at p (a_at p n))) (sooner (scope_e Γ (expr_at p (b_at p n))) (scope_e Γ (expr_at p (c_at p n))))
  unfolding scope_e
  choice_scope e = let k = choice_kids p n w e in ap (scope_e Γ) (expr_choice p n e k.0.less k.1.less k.2.less)

  taking_scope : kind_at p n ≡ 29
      → scope_e Γ (expr_at p n) ≡ sooner (scope_e Γ (expr_at p (a_at p n))) (sooner (scope_e Γ (expr_at p (b_at p n))) (scope_e (mark Γ n) (expr_at p (c_at p n))))
  unfolding scope_e
  taking_scope e = let k = taking_kids p n w e in ap (scope_e Γ) (expr_taking p n e k.0.less k.1.less k.2.less)

  operation_scope : IsOperation (kind_at p n)
      → scope_e Γ (expr_at p n) ≡ sooner (scope_e Γ (expr_at p (a_at p n))) (scope_e Γ (expr_at p (b_at p n)))
  unfolding scope_e
  operation_scope o =
      let k = operation_kids p n w o in
      ap (scope_e Γ) (expr_operation p n o.no16 o.no17 o.no24 o.no27 o.no28 o.no29 k.0.less k.1.less)

  pub variable_parts : {a : ℕ} {t : Bool} {q : Option ℕ} → kind_at p n ≡ 16 → a ≡ a_at p n → t ≡ is_marked Γ a → q ≡ wrong_unless t n → q ≡ scope_e Γ (expr_at p n)
  variable_parts k ea ht hq = cc (variable_scope k)

  pub one_part : {a : ℕ} {q : Option ℕ} → scope_e Γ (expr_at p n) ≡ scope_e Γ (expr_at p (a_at p n)) → a ≡ a_at p n → q ≡ scope_e Γ (expr_at p a) → q ≡ scope_e Γ (expr_at p n)
  one_part e ea hq = cc

  pub operation_parts : {a b : ℕ} {x y q : Option ℕ} {Γ' : Marks} → IsOperation (kind_at p n) → a ≡ a_at p n → b ≡ b_at p n
      → x ≡ scope_e Γ (expr_at p a) → Γ' ≡ Γ → y ≡ scope_e Γ' (expr_at p b) → q ≡ sooner x y
      → q ≡ scope_e Γ (expr_at p n)
  operation_parts o ea eb hx m hy hq = cc (operation_scope o)

  pub choice_parts : {a b c : ℕ} {x y z v q : Option ℕ} {Γ' Γ'' : Marks} → kind_at p n ≡ 27 → a ≡ a_at p n → b ≡ b_at p n → c ≡ c_at p n
      → x ≡ scope_e Γ (expr_at p a) → Γ' ≡ Γ → y ≡ scope_e Γ' (expr_at p b) → Γ'' ≡ Γ' → z ≡ scope_e Γ'' (expr_at p c)
      → v ≡ sooner y z → q ≡ sooner x v → q ≡ scope_e Γ (expr_at p n)
  choice_parts k ea eb ec hx m hy m' hz hv hq = cc (choice_scope k)

  pub taking_parts : {a b c : ℕ} {x y z v q : Option ℕ} {Γ' Γ'' : Marks} → kind_at p n ≡ 29 → a ≡ a_at p n → b ≡ b_at p n → c ≡ c_at p n
      → x ≡ scope_e Γ (expr_at p a) → Γ' ≡ Γ → y ≡ scope_e Γ' (expr_at p b) → Γ'' ≡ Γ' → z ≡ scope_e (mark Γ'' n) (expr_at p c)
      → v ≡ sooner y z → q ≡ sooner x v → q ≡ scope_e Γ (expr_at p n)
  taking_parts k ea eb ec hx m hy m' hz hv hq = cc (taking_scope k)
