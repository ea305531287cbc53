-- The work of the update that puts only the current part to start is at most the bound, whatever the environment, the record and the state.
-- Assumes nothing.
use Prim.Native.Nat.{ℕ, ◌≤◌}
use native.Mathlib.Nat.{le_refl}
use native.Mathlib.Omega.{arith}
use lib.Dec.{eqb}
use Rattle.rules.specs.Bytes.{Bytes}
use Rattle.rules.specs.Scope.{has_branch}
use Rattle.rules.specs.Layout.{is_clear}
use Rattle.rules.specs.Work.{nothing, Updated, Next, Jump, Halted, ◌with◌}
use Rattle.rules.specs.Tree.{Signal, input, time, ext, delay, let_signal, switch, group, until, Branches, no_branch, branch, Cases, no_case, case}
use Rattle.rules.specs.Evaluate.{Env, opened}
use Rattle.rules.specs.Bound.{bound_sc, bound_u, bound_ub, bound_uc}
use Rattle.rules.specs.declared.Value.{Value}
use Rattle.rules.proofs.Within.{Withinᵘ, Withinᵒ, eval_s_within, occurs_within, freeᵘ, widerᵘ, rule_withinᵘ, leave_within, with_within, then_withinᵘ, stays_within, eitherᵘ, on_occurrence_within, on_event_within}
use Rattle.current.specs.Current.{soonest, leaves, go_s, go_b, go_c}

-- The events of an until.
pub soonest_within : (rec st : Bytes) (env : Env) (cs : Cases) → Withinᵒ (soonest rec st env cs) (bound_sc cs)
unfolding soonest bound_sc nothing
soonest_within rec st env no_case = record { most = le_refl 0 }
soonest_within rec st env (case n event target t next) =
    occurs_within _ _ _ (eval_s_within rec st env event) (soonest_within rec st env next)

-- A group that is left by a jump.
pub leaves_within : (k : ℕ) (part : Signal) (brs : Branches) (r : Updated) {b : ℕ} → Withinᵘ r b → Withinᵘ (leaves k part brs r) b
unfolding leaves
leaves_within k part brs (Next st w) h = h
leaves_within k part brs (Jump target v st w) h = eitherᵘ (has_branch target brs) _ _ (record { most = h.most }) h
leaves_within k part brs Halted h = freeᵘ

-- a part's update, whatever the environment and the state
abbrev Part : Bytes → Signal → ℕ → Type 0
Part rec s b = (env : Env) (st : Bytes) → Withinᵘ (go_s rec env s st) b

-- by one of two parts, neither of which has a bound above the whole's
parts_within : (rec : Bytes) (x y : Signal) (r : Updated) {a b c : ℕ} → Part rec x a → Part rec y b → a ≤ c → b ≤ c
    → (Part rec x c → Part rec y c → Withinᵘ r c) → Withinᵘ r c
parts_within rec x y r h g l k f = f (λ env st. widerᵘ _ (h env st) l) λ env st. widerᵘ _ (g env st) k

mutual
  unfolding go_s bound_u bound_sc

  pub go_s_within : (rec : Bytes) (env : Env) (s : Signal) (st : Bytes) → Withinᵘ (go_s rec env s st) (bound_u s)
  go_s_within rec env (input n c) st = rule_withinᵘ _ {b = 0} (leave_within st)
  go_s_within rec env (time n) st = rule_withinᵘ _ {b = 0} (leave_within st)
  go_s_within rec env (ext n e) st = rule_withinᵘ _ {b = 0} (leave_within st)
  go_s_within rec env (delay n k v s) st =
      rule_withinᵘ _ (with_within _ _ (eval_s_within rec _ _ s) λ w.
      widerᵘ _ (then_withinᵘ _ _ (go_s_within rec _ s _) λ st₁. leave_within _ {b = 0}) (omega arith))
  go_s_within rec env (let_signal n t d b) st =
      rule_withinᵘ _ (with_within _ _ (eval_s_within rec _ _ d) λ v.
      then_withinᵘ _ _ (go_s_within rec _ d _) λ st₁. go_s_within rec _ b _)
  go_s_within rec env (switch n k t x e y) st =
      rule_withinᵘ _ (with_within _ _ (eval_s_within rec _ _ e) λ event.
      then_withinᵘ _ _ (go_s_within rec _ e _) λ st₁.
      on_event_within (opened event) _ _ (λ v. leave_within _)
      (stays_within _ (parts_within rec x y _ (λ env₁ st₂. go_s_within rec env₁ x st₂) (λ env₁ st₂. go_s_within rec env₁ y st₂)
      (omega arith) (omega arith) λ first second. eitherᵘ (is_clear st₁ k) _ _ (search) (search))))
  go_s_within rec env (group n k body brs) st =
      rule_withinᵘ _
      (eitherᵘ (is_clear st k) _ _
      (leaves_within k body brs _ (widerᵘ _ (go_s_within rec _ body _) (omega arith))) (widerᵘ _ (go_b_within rec _ k _ _ brs brs _) (omega arith)))
  go_s_within rec env (until n s cs) st =
      rule_withinᵘ _ (on_occurrence_within _ st _ (soonest_within rec st env cs)
      (then_withinᵘ _ _ (go_c_within rec env cs st) λ st₁. stays_within _ (go_s_within rec env s st₁)))

  pub go_b_within : (rec : Bytes) (env : Env) (k which : ℕ) (v : Value) (all brs : Branches) (st : Bytes)
      → Withinᵘ (go_b rec env k which v all brs st) (bound_ub brs)
  go_b_within rec env k which v all no_branch st = freeᵘ
  go_b_within rec env k which v all (branch n t body next) st =
      eitherᵘ (eqb n which) _ _
      (leaves_within k body all _ (widerᵘ _ (go_s_within rec _ body _) (omega arith))) (widerᵘ _ (go_b_within rec env k which v all next st) (omega arith))

  pub go_c_within : (rec : Bytes) (env : Env) (cs : Cases) (st : Bytes) → Withinᵘ (go_c rec env cs st) (bound_uc cs)
  go_c_within rec env no_case st = leave_within st
  go_c_within rec env (case n event target t next) st =
      widerᵘ _ (then_withinᵘ _ _ (go_c_within rec env next st) λ st₁. stays_within _ (go_s_within rec env event st₁)) (omega arith)
