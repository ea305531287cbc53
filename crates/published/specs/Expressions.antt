-- How an expression evaluates, as inference rules: E ⊢ e ↪ v. Document 000 leaves its expressions to the λ-calculus and names no rule of
-- them (figure 3's ev-ext cites E ⊢ e ↪ v), so the rules are named by document 01's kinds, 16-29. The last index is the number of rules
-- in the derivation.
-- Assumes nothing: these are definitions.
use Rattle.std.specs.Prelude.{◌≡◌, true, false, ℕ, ◌+◌, eqb, Some}
use Rattle.rules.specs.Values.{bool_t, maybe_of, is_plain}
use Rattle.rules.specs.Operations.{truth, is_true, operand_type, meaning}
use Rattle.rules.specs.Work.{give}
use Rattle.rules.specs.Tree.{Expr, variable, constant, operation, negation, choice, just, taking}
use Rattle.rules.specs.Evaluate.{Env, bind, look, plain_word, opened}
use Rattle.rules.specs.declared.Value.{Value}
use Rattle.rules.specs.declared.Value.TheVariants.{Present}
use Rattle.rules.specs.Opened.{Here, Gone}

-- Evaluates E e v n: E ⊢ e ↪ v, by a derivation of n rules.
pub data Evaluates : Env → Expr → Value → ℕ → Type 0 where
  --  E(x) = v
  -- ───────────
  --  E ⊢ x ↪ v
  ev_variable : {env : Env} {i binder t : ℕ} {v : Value} → look env binder ≡ give v → Evaluates env (variable i binder t) v 1
  -- ───────────
  --  E ⊢ c ↪ c
  ev_constant : {env : Env} {i : ℕ} {v : Value} → Evaluates env (constant i v) v 1
  --  E ⊢ e₁ ↪ a    E ⊢ e₂ ↪ b
  -- ───────────────────────────  a, b words of the kind's operand type
  --  E ⊢ e₁ op e₂ ↪ a op b
  ev_operation : {env : Env} {i k a b m n : ℕ} {x y : Expr} {u v : Value} → Evaluates env x u m → Evaluates env y v n
      → plain_word (operand_type k) u ≡ Some a → plain_word (operand_type k) v ≡ Some b → Evaluates env (operation i k x y) (meaning k a b) (1 + (m + n))
  --  E ⊢ e ↪ a
  -- ─────────────────  a a bool
  --  E ⊢ not e ↪ not a
  ev_not : {env : Env} {i a n : ℕ} {x : Expr} {u : Value} → Evaluates env x u n → plain_word bool_t u ≡ Some a
      → Evaluates env (negation i x) (truth (eqb a 0)) (1 + n)
  --  E ⊢ e ↪ true    E ⊢ e₁ ↪ v          E ⊢ e ↪ false    E ⊢ e₂ ↪ v
  -- ────────────────────────────        ─────────────────────────────
  --  E ⊢ if e then e₁ else e₂ ↪ v        E ⊢ if e then e₁ else e₂ ↪ v
  ev_if_true : {env : Env} {i a m n : ℕ} {test x y : Expr} {u v : Value} → Evaluates env test u m → plain_word bool_t u ≡ Some a
      → is_true a ≡ true → Evaluates env x v n → Evaluates env (choice i test x y) v (1 + (m + n))
  ev_if_false : {env : Env} {i a m n : ℕ} {test x y : Expr} {u v : Value} → Evaluates env test u m → plain_word bool_t u ≡ Some a
      → is_true a ≡ false → Evaluates env y v n → Evaluates env (choice i test x y) v (1 + (m + n))
  --  E ⊢ e ↪ v
  -- ──────────────  v of a plain type
  --  E ⊢ e⊥ ↪ v⊥
  ev_just : {env : Env} {i a n : ℕ} {x : Expr} {u : Value} (t : ℕ) → Evaluates env x u n → plain_word t u ≡ Some a → is_plain t ≡ true
      → Evaluates env (just i x) (Present (maybe_of t) a) (1 + n)
  --  E ⊢ e ↪ ⊥    E ⊢ e₁ ↪ v               E ⊢ e ↪ u⊥    E, x ↦ u ⊢ e₂ ↪ v
  -- ─────────────────────────────         ─────────────────────────────────
  --  E ⊢ take x = e in e₁, e₂ ↪ v          E ⊢ take x = e in e₁, e₂ ↪ v
  ev_take_absent : {env : Env} {i t m n : ℕ} {e x y : Expr} {u v : Value} → Evaluates env e u m → opened u ≡ Gone
      → Evaluates env x v n → Evaluates env (taking i t e x y) v (1 + (m + n))
  ev_take_present : {env : Env} {i t m n : ℕ} {e x y : Expr} {u c v : Value} → Evaluates env e u m → opened u ≡ Here c
      → Evaluates (bind env i c) y v n → Evaluates env (taking i t e x y) v (1 + (m + n))
