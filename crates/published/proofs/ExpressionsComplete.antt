-- An expression that the definition does not leave stuck has a derivation, of the definition's value and work.
-- Assumes nothing.
use Rattle.std.specs.Prelude.{if◌then◌else◌, Option, Some, None, ℕ}
use mathlib.Core.Path.{◌≡◌, refl}
use mathlib.Core.Bool.{Bool, true, false}
use Prim.Native.Nat.{ℕ}
use lib.Dec.{eqb}
use lib.ListN.{get_or}
use borrow.Author.Tests.{eq-eqb}
use Rattle.rules.specs.Values.{bool_t, maybe_of, is_plain, unpacked}
use Rattle.rules.specs.Operations.{is_true, operand_type}
use Rattle.rules.specs.Work.{◌plus◌, give, after, rule}
use Rattle.rules.specs.Tree.{Expr, variable, constant, operation, negation, choice, just, taking}
use Rattle.rules.specs.Evaluate.{Env, bind, look, plain_word, opened, meant, on_words, operate, operated, not_of, negated, arm_of, chosen, just_of, lifted, take_arm, taken, eval_e}
use Rattle.rules.specs.declared.Tally.{Tally}
use Rattle.rules.specs.declared.Value.{Value}
use Rattle.rules.specs.declared.Value.TheVariants.{Plain, Absent, Present}
use Rattle.rules.specs.Opened.{Opened, Here, Gone, Amiss}
use Rattle.rules.specs.Evaluated.{Evaluated, Done, Stuck}
use Rattle.published.specs.Expressions.{Evaluates, ev_variable, ev_constant, ev_operation, ev_not, ev_if_true, ev_if_false, ev_just, ev_take_absent, ev_take_present}
use Rattle.published.proofs.Outcomes.{Derived, derived, stuck, derivation, rule_give, rule_after, rule_after_give, rule_after_noted, rule_stuck, after_stuck}

-- each kind of expression: it has a derivation where its parts have, and is stuck with them
variable_derived : (env : Env) (i b t : ℕ) → Derived (Evaluates env (variable i b t)) (rule (look env b))
unfolding look
variable_derived env i b t = go (eqb (get_or env b 0) 0) refl
  where
    go : (q : Bool) → eqb (get_or env b 0) 0 ≡ q
        → Derived (Evaluates env (variable i b t)) (rule (if q then Stuck else give (unpacked (get_or env b 0))))
    go true e = rule_stuck
    go false e = rule_give _ (ev_variable (rw e))

operation_derived : (env : Env) (i k : ℕ) (x y : Expr) {r s : Evaluated} → Derived (Evaluates env x) r → Derived (Evaluates env y) s
    → Derived (Evaluates env (operation i k x y)) (rule (operated k r s))
unfolding operated operate on_words meant
operation_derived env i k x y (derived {v = u} {w = p} d) (derived {v = v} {w = q} c) =
    go (plain_word (operand_type k) u) refl (plain_word (operand_type k) v) refl
  where
    go : (a : Option ℕ) → plain_word (operand_type k) u ≡ a → (b : Option ℕ) → plain_word (operand_type k) v ≡ b
        → Derived (Evaluates env (operation i k x y)) (rule (after (p plus q) (on_words (meant k) a b)))
    go (Some a) g (Some b) h = rule_after_noted (p plus q) _ _ (unfold ◌plus◌ in ev_operation d c g h)
    go (Some a) g None h = after_stuck (p plus q)
    go None g b h = after_stuck (p plus q)
operation_derived env i k x y (derived d) stuck = rule_stuck
operation_derived env i k x y stuck s = rule_stuck

not_derived : (env : Env) (i : ℕ) (x : Expr) {r : Evaluated} → Derived (Evaluates env x) r → Derived (Evaluates env (negation i x)) (rule (negated r))
unfolding negated not_of
not_derived env i x (derived {v = u} {w = p} d) = go (plain_word bool_t u) refl
  where
    go : (a : Option ℕ) → plain_word bool_t u ≡ a → Derived (Evaluates env (negation i x)) (rule (after p (not_of a)))
    go (Some a) g = rule_after_give p _ (ev_not d g)
    go None g = after_stuck p
not_derived env i x stuck = rule_stuck

if_derived : (env : Env) (i : ℕ) (test x y : Expr) {q r s : Evaluated} → Derived (Evaluates env test) q → Derived (Evaluates env x) r
    → Derived (Evaluates env y) s → Derived (Evaluates env (choice i test x y)) (rule (chosen q r s))
unfolding chosen arm_of
if_derived env i test x y {r = r} {s} (derived {v = u} {w = p} d) c b = go (plain_word bool_t u) refl
  where
    arm : (a : ℕ) → plain_word bool_t u ≡ Some a → (q : Bool) → is_true a ≡ q
        → Derived (Evaluates env (choice i test x y)) (rule (after p (if q then r else s)))
    arm a g true h = rule_after p (λ v n. ev_if_true d g h) c
    arm a g false h = rule_after p (λ v n. ev_if_false d g h) b

    go : (a : Option ℕ) → plain_word bool_t u ≡ a → Derived (Evaluates env (choice i test x y)) (rule (after p (arm_of a r s)))
    go (Some a) g = arm a g (is_true a) refl
    go None g = after_stuck p
if_derived env i test x y stuck c b = rule_stuck

just_derived : (env : Env) (i : ℕ) (x : Expr) {r : Evaluated} → Derived (Evaluates env x) r → Derived (Evaluates env (just i x)) (rule (lifted r))
unfolding lifted just_of plain_word
just_derived env i x (derived {v = Plain t a} {w = p} d) = go (is_plain t) refl
  where
    go : (q : Bool) → is_plain t ≡ q → Derived (Evaluates env (just i x)) (rule (after p (if q then give (Present (maybe_of t) a) else Stuck)))
    go true h = rule_after_give p _ (ev_just t d (rw (eq-eqb t t refl)) h)
    go false h = after_stuck p
just_derived env i x (derived {v = Absent t} {w = p} d) = after_stuck p
just_derived env i x (derived {v = Present t a} {w = p} d) = after_stuck p
just_derived env i x stuck = rule_stuck

take_derived : (env : Env) (i t : ℕ) (e x y : Expr) {q r : Evaluated} (f : Value → Evaluated) → Derived (Evaluates env e) q
    → Derived (Evaluates env x) r → ((c : Value) → Derived (Evaluates (bind env i c) y) (f c))
    → Derived (Evaluates env (taking i t e x y)) (rule (taken q r f))
unfolding taken take_arm
take_derived env i t e x y {r = r} f (derived {v = u} {w = p} d) c b = go (opened u) refl
  where
    go : (o : Opened) → opened u ≡ o → Derived (Evaluates env (taking i t e x y)) (rule (after p (take_arm o r f)))
    go (Here v) g = rule_after p (λ v n. ev_take_present d g) (b v)
    go Gone g = rule_after p (λ v n. ev_take_absent d g) c
    go Amiss g = after_stuck p
take_derived env i t e x y f stuck c b = rule_stuck

-- where the definition is not stuck there is a derivation
pub derive_e : (e : Expr) (env : Env) → Derived (Evaluates env e) (eval_e env e)
unfolding eval_e
derive_e (variable i b t) env = variable_derived env i b t
derive_e (constant i v) env = rule_give _ ev_constant
derive_e (operation i k x y) env = operation_derived env i k x y (derive_e x env) (derive_e y env)
derive_e (negation i x) env = not_derived env i x (derive_e x env)
derive_e (choice i test x y) env = if_derived env i test x y (derive_e test env) (derive_e x env) (derive_e y env)
derive_e (just i x) env = just_derived env i x (derive_e x env)
derive_e (taking i t e x y) env =
    take_derived env i t e x y (λ v. eval_e (bind env i v) y) (derive_e e env) (derive_e x env) (λ c. derive_e y (bind env i c))

-- so of the definition's value and work there is a derivation
pub complete_e : {env : Env} {e : Expr} {v : Value} {w : Tally} → eval_e env e ≡ Done v w → Evaluates env e v w.work
complete_e {env} {e} h = derivation (derive_e e env) h
