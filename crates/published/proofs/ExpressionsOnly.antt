-- Of an expression in an environment there is one derivation at most: of one value, of one size, and the derivations themselves are equal.
-- Assumes nothing.
use Rattle.std.specs.Prelude.{Some}
use mathlib.Core.Path.{◌≡◌, refl, sym, ap, ◌∙◌}
use mathlib.Core.HLevel.{Σ_prop, Σ_prop_path, ×_prop}
use mathlib.Core.Bool.{true, false, Bool-set}
use Prim.Native.Nat.{ℕ, ◌+◌}
use lib.Dec.{eqb}
use Rattle.rules.specs.Values.{bool_t, maybe_of}
use Rattle.rules.specs.Operations.{truth, is_true, operand_type, meaning}
use Rattle.rules.specs.Work.{give}
use Rattle.rules.specs.Tree.{Expr, variable, operation, negation, choice, just, taking}
use Rattle.rules.specs.Evaluate.{Env, bind, look, plain_word, opened}
use Rattle.rules.specs.declared.Value.{Value}
use Rattle.rules.specs.declared.Value.TheVariants.{Present}
use Rattle.rules.specs.Opened.{Here, Gone}
use Rattle.published.specs.Expressions.{Evaluates, ev_variable, ev_constant, ev_operation, ev_not, ev_if_true, ev_if_false, ev_just, ev_take_absent, ev_take_present}
use Rattle.published.proofs.Sets.{Result-set, word_prop, here_prop, gone_prop, look_prop, IsPlainValue, plain_prop, gone_not_here, true_not_false, along, each_prop}

-- a derivation of any value and size
abbrev pub SomeE : Env → Expr → Type 0
SomeE env e = (r : Value × ℕ) × Evaluates env e r.0 r.1

abbrev WordOf : ℕ → Value → Type 0
WordOf t u = (a : ℕ) × (plain_word t u ≡ Some a)

abbrev pub HeldBy : Value → Type 0
HeldBy u = (c : Value) × (opened u ≡ Here c)

variable_only : {env : Env} {i b t : ℕ} → (p q : (v : Value) × (look env b ≡ give v))
    → ◌≡◌ {A = SomeE env (variable i b t)} ((p.0, 1), ev_variable p.1) ((q.0, 1), ev_variable q.1)
variable_only {env} {b = b} p q = ap (λ (r : (v : Value) × (look env b ≡ give v)). ((r.0, 1), ev_variable r.1)) (look_prop env b p q)

-- each rule, from its premises
abbrev by_operation : {env : Env} {i k : ℕ} {x y : Expr} (p : SomeE env x × SomeE env y)
    → WordOf (operand_type k) p.0.0.0 × WordOf (operand_type k) p.1.0.0 → SomeE env (operation i k x y)
by_operation {k = k} p w = ((meaning k w.0.0 w.1.0, 1 + (p.0.0.1 + p.1.0.1)), ev_operation p.0.1 p.1.1 w.0.1 w.1.1)

abbrev by_not : {env : Env} {i : ℕ} {x : Expr} (p : SomeE env x) → WordOf bool_t p.0.0 → SomeE env (negation i x)
by_not p w = ((truth (eqb w.0 0), 1 + p.0.1), ev_not p.1 w.1)

abbrev by_if_true : {env : Env} {i : ℕ} {test x y : Expr} (p : SomeE env test × SomeE env x)
    → (w : WordOf bool_t p.0.0.0) × (is_true w.0 ≡ true) → SomeE env (choice i test x y)
by_if_true p w = ((p.1.0.0, 1 + (p.0.0.1 + p.1.0.1)), ev_if_true p.0.1 w.0.1 w.1 p.1.1)

abbrev by_if_false : {env : Env} {i : ℕ} {test x y : Expr} (p : SomeE env test × SomeE env y)
    → (w : WordOf bool_t p.0.0.0) × (is_true w.0 ≡ false) → SomeE env (choice i test x y)
by_if_false p w = ((p.1.0.0, 1 + (p.0.0.1 + p.1.0.1)), ev_if_false p.0.1 w.0.1 w.1 p.1.1)

abbrev by_just : {env : Env} {i : ℕ} {x : Expr} (p : SomeE env x) → IsPlainValue p.0.0 → SomeE env (just i x)
by_just p w = ((Present (maybe_of w.0.0) w.0.1, 1 + p.0.1), ev_just w.0.0 p.1 w.1.0 w.1.1)

abbrev by_take_absent : {env : Env} {i t : ℕ} {e x y : Expr} (p : SomeE env e × SomeE env x) → opened p.0.0.0 ≡ Gone → SomeE env (taking i t e x y)
by_take_absent p g = ((p.1.0.0, 1 + (p.0.0.1 + p.1.0.1)), ev_take_absent p.0.1 g p.1.1)

abbrev by_take_present : {env : Env} {i t : ℕ} {e x y : Expr} (p : (q : SomeE env e) × HeldBy q.0.0) → SomeE (bind env i p.1.0) y
    → SomeE env (taking i t e x y)
by_take_present p q = ((q.0.0, 1 + (p.0.0.1 + q.0.1)), ev_take_present p.0.1 p.1.1 q.1)

-- what is true, or absent, by one derivation is not false, or present, by another
not_both_arms : {u v : Value} {a b : ℕ} → u ≡ v → plain_word bool_t u ≡ Some a → plain_word bool_t v ≡ Some b → is_true a ≡ true → is_true b ≡ false → ⊥
not_both_arms {u} {v} {a} {b} e g h p q =
    true_not_false (sym (ap is_true (ap (λ (w : WordOf bool_t u). w.0) (word_prop (plain_word bool_t u) (a, g) (b, ap (plain_word bool_t) e ∙ h)))) ∙ p) q

pub not_both_takes : {u v c : Value} → u ≡ v → opened u ≡ Gone → opened v ≡ Here c → ⊥
not_both_takes e g h = gone_not_here g (ap opened e ∙ h)

value_path : {env : Env} {e : Expr} {p q : SomeE env e} → p ≡ q → p.0.0 ≡ q.0.0
value_path {env} {e} h = ap (λ (r : SomeE env e). r.0.0) h

-- two derivations are one
pub only_e : {env : Env} {e : Expr} {u v : Value} {m n : ℕ} (d : Evaluates env e u m) (c : Evaluates env e v n)
    → ◌≡◌ {A = SomeE env e} ((u, m), d) ((v, n), c)
only_e (ev_variable g) (ev_variable h) = variable_only (_, g) (_, h)
only_e ev_constant ev_constant = refl
only_e (ev_operation d f g h) (ev_operation d₁ f₁ g₁ h₁) =
    along by_operation (λ i. (only_e d d₁ i, only_e f f₁ i)) ((_, g), (_, h)) (×_prop (word_prop _) (word_prop _) _) ((_, g₁), (_, h₁))
only_e (ev_not d g) (ev_not d₁ g₁) = along by_not (only_e d d₁) (_, g) (word_prop _ _) (_, g₁)
only_e (ev_if_true d g h f) (ev_if_true d₁ g₁ h₁ f₁) =
    along by_if_true (λ i. (only_e d d₁ i, only_e f f₁ i)) ((_, g), h) (Σ_prop (word_prop _) (λ w. Bool-set _ _) _) ((_, g₁), h₁)
only_e (ev_if_true d g h f) (ev_if_false d₁ g₁ h₁ f₁) = absurd (not_both_arms (value_path (only_e d d₁)) g g₁ h h₁)
only_e (ev_if_false d g h f) (ev_if_true d₁ g₁ h₁ f₁) = absurd (not_both_arms (sym (value_path (only_e d d₁))) g₁ g h₁ h)
only_e (ev_if_false d g h f) (ev_if_false d₁ g₁ h₁ f₁) =
    along by_if_false (λ i. (only_e d d₁ i, only_e f f₁ i)) ((_, g), h) (Σ_prop (word_prop _) (λ w. Bool-set _ _) _) ((_, g₁), h₁)
only_e (ev_just t d g h) (ev_just t₁ d₁ g₁ h₁) = along by_just (only_e d d₁) ((t, _), (g, h)) (plain_prop _ _) ((t₁, _), (g₁, h₁))
only_e (ev_take_absent d g f) (ev_take_absent d₁ g₁ f₁) =
    along by_take_absent (λ i. (only_e d d₁ i, only_e f f₁ i)) g (gone_prop _ _) g₁
only_e (ev_take_absent d g f) (ev_take_present d₁ g₁ f₁) = absurd (not_both_takes (value_path (only_e d d₁)) g g₁)
only_e (ev_take_present d g f) (ev_take_absent d₁ g₁ f₁) = absurd (not_both_takes (sym (value_path (only_e d d₁))) g₁ g)
only_e (ev_take_present d g f) (ev_take_present d₁ g₁ f₁) =
    along by_take_present (Σ_prop_path (λ q. here_prop _) (only_e d d₁)) (_, f) (λ q. only_e f q.1) (_, f₁)

-- and so are two of one value and size
pub one_e : (env : Env) (e : Expr) (v : Value) (n : ℕ) → IsProp (Evaluates env e v n)
one_e env e v n = each_prop Result-set (λ p q. only_e p.1 q.1) (v, n)
