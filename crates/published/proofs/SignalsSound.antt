-- A derivation of a signal's evaluation gives the definition's outcome.
-- Assumes nothing.
use Rattle.std.specs.Prelude.{if◌then◌else◌}
use mathlib.Core.Path.{◌≡◌, refl, ap, ◌∙◌}
use Prim.Native.Nat.{ℕ, ◌+◌}
use borrow.Author.Tests.{eqb-true}
use mathlib.Core.Bool.{Bool}
use Rattle.rules.specs.Bytes.{Bytes, ◌or◌}
use Rattle.rules.specs.Layout.{held, is_clear, branch_in}
use Rattle.rules.specs.Work.{one_rule, ◌plus◌, after, rule, ◌then◌}
use Rattle.rules.specs.Tree.{Signal, Branches}
use Rattle.rules.specs.Evaluate.{Env, bind, eval_s, eval_b}
use Rattle.rules.specs.declared.Value.{Value}
use Rattle.rules.specs.Evaluated.{Evaluated}
use Rattle.published.specs.Signals.{BodyOf, here, later, CurrentOfSwitch, first, second, CurrentOfGroup, in_body, in_branch, EvaluatesS, ev_input, ev_time, ev_ext, ev_delay, ev_signal, ev_switch, ev_continue, ev_until}
use Rattle.published.specs.Marks.{left_s}
use Rattle.published.proofs.Outcomes.{done}
use Rattle.published.proofs.ExpressionsSound.{give_done, sound_e}

-- one rule, and one rule after another evaluation
rule_done : {r : Evaluated} {v : Value} {n : ℕ} {i : Bool} → r ≡ done v n i → rule r ≡ done v (1 + n) i
unfolding rule after one_rule ◌plus◌ ◌or◌
rule_done e = rw e

then_done : {r : Evaluated} (f : Value → Evaluated) {u v : Value} {m n : ℕ} {i j : Bool} → r ≡ done u m i → f u ≡ done v n j
    → rule (r then f) ≡ done v (1 + (m + n)) (i or j)
unfolding rule after one_rule ◌plus◌ ◌or◌ ◌then◌
then_done f e h = rw (e, h)

-- a definition by the state's cell goes to the current part
pub switch_part : {A : Type 0} (f : Env → Signal → A) {st : Bytes} {env : Env} {i k : ℕ} {E : Env} {x y s : Signal} → CurrentOfSwitch st env i k x y E s
    → (if is_clear st k then f env x else f (bind env i (held st k)) y) ≡ f E s
switch_part f (first e) = rw e
switch_part f (second e) = rw e

pub group_part : {A : Type 0} (f : Env → Signal → A) (b : A) {st : Bytes} {env : Env} {k : ℕ} {E : Env} {body s : Signal} {brs : Branches}
    → ((t : Signal) → BodyOf (branch_in st k) brs t → b ≡ f (bind env (branch_in st k) (held st k)) t) → CurrentOfGroup st env k body brs E s
    → (if is_clear st k then f env body else b) ≡ f E s
group_part f b h (in_body e) = rw e
group_part f b h (in_branch {s = s} e c) = rw e (h s c)

branch_body : (rec st : Bytes) (env : Env) (v : Value) {k : ℕ} {brs : Branches} {s : Signal} → BodyOf k brs s
    → eval_b rec st env k v brs ≡ eval_s rec st (bind env k v) s
unfolding eval_b
branch_body rec st env v {k} (here {n = n} {body = s} e) = rw e (ap (λ (b : ℕ). eval_s rec st (bind env b v) s) (eqb-true n k e))
branch_body rec st env v (later e b) = rw e (branch_body rec st env v b)

-- a derivation gives the definition's outcome: its size is the work, and its mark the mark
pub sound_s : {rec st : Bytes} {env : Env} {s : Signal} {v : Value} {n : ℕ} (d : EvaluatesS rec st env s v n) → eval_s rec st env s ≡ done v n (left_s d)
unfolding eval_s left_s
sound_s ev_input = give_done refl
sound_s ev_time = give_done refl
sound_s (ev_ext d) = rule_done (sound_e d)
sound_s ev_delay = give_done refl
sound_s (ev_signal d b) = then_done _ (sound_s d) (sound_s b)
sound_s {rec} {st} (ev_switch c d) = rule_done (switch_part (eval_s rec st) c ∙ sound_s d)
sound_s {rec} {st} {env} (ev_continue c d) = rule_done (group_part (eval_s rec st) _ (λ t. branch_body rec st env _) c ∙ sound_s d)
sound_s (ev_until d) = rule_done (sound_s d)
