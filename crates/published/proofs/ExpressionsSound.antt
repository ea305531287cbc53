-- A derivation of an expression gives the definition's outcome.
-- Assumes nothing.
use Rattle.std.specs.Prelude.{if◌then◌else◌, Option, Some, None, ℕ}
use mathlib.Core.Path.{◌≡◌, refl, ap₂}
use mathlib.Core.Bool.{Bool, true, false}
use Prim.Native.Nat.{ℕ, ◌+◌}
use native.Mathlib.Omega.{arith}
use lib.Dec.{eqb}
use borrow.Author.Tests.{eqb-true}
use Rattle.rules.specs.Bytes.{◌or◌}
use Rattle.rules.specs.Values.{bool_t, maybe_of, is_plain}
use Rattle.rules.specs.Operations.{truth, is_true, operand_type, meaning, leaves_range}
use Rattle.rules.specs.Work.{nothing, noted, one_rule, ◌plus◌, give, after, rule}
use Rattle.rules.specs.Tree.{Expr}
use Rattle.rules.specs.Evaluate.{Env, plain_word, opened, meant, on_words, operate, operated, not_of, negated, arm_of, chosen, just_of, lifted, take_arm, taken, eval_e}
use Rattle.rules.specs.declared.Value.{Value}
use Rattle.rules.specs.declared.Value.TheVariants.{Plain, Absent, Present}
use Rattle.rules.specs.Opened.{Here, Gone}
use Rattle.rules.specs.Evaluated.{Evaluated}
use Rattle.published.specs.Expressions.{Evaluates, ev_variable, ev_constant, ev_operation, ev_not, ev_if_true, ev_if_false, ev_just, ev_take_absent, ev_take_present}
use Rattle.published.specs.Marks.{left_e}
use Rattle.published.proofs.Outcomes.{done, sized, or_no}

-- the value that has a word of a type
abbrev IsNow : Option ℕ → ℕ → Type 0
IsNow (Some w) a = w ≡ a
IsNow None a = ⊥

is_now : {u : Option ℕ} {a : ℕ} → u ≡ Some a → IsNow u a
is_now {u} {a} e = rw e refl

pub plain_of : (t a : ℕ) (u : Value) → plain_word t u ≡ Some a → u ≡ Plain t a
unfolding plain_word
plain_of t a (Plain s w) e = go (eqb s t) refl (is_now e)
  where
    go : (b : Bool) → eqb s t ≡ b → IsNow (if b then Some w else None) a → Plain s w ≡ Plain t a
    go true h g = ap₂ Plain (eqb-true s t h) g
    go false h g = absurd g
plain_of t a (Absent s) e = absurd (is_now e)
plain_of t a (Present s w) e = absurd (is_now e)

-- one rule, of each kind of expression: what its premises gave, and one more counted
pub give_done : {r : Evaluated} {v : Value} → r ≡ give v → rule r ≡ done v 1 false
unfolding rule after give one_rule nothing ◌plus◌ ◌or◌
give_done {v = v} e = rw e (sized v (omega arith) refl)

operated_done : (k : ℕ) {r s : Evaluated} {u v : Value} {a b m n : ℕ} {i j : Bool} → r ≡ done u m i → s ≡ done v n j
    → plain_word (operand_type k) u ≡ Some a → plain_word (operand_type k) v ≡ Some b
    → rule (operated k r s) ≡ done (meaning k a b) (1 + (m + n)) (i or j or leaves_range k a b)
unfolding rule after noted one_rule ◌plus◌ ◌or◌ operated operate on_words meant
operated_done k e f g h = rw (e, f, g, h) (sized _ (omega arith) refl)

negated_done : {r : Evaluated} {u : Value} {a n : ℕ} {i : Bool} → r ≡ done u n i → plain_word bool_t u ≡ Some a
    → rule (negated r) ≡ done (truth (eqb a 0)) (1 + n) i
unfolding rule after give one_rule nothing ◌plus◌ ◌or◌ negated not_of
negated_done {i = i} e g = rw (e, g) (sized _ (omega arith) (or_no i))

chosen_true : {q r : Evaluated} (s : Evaluated) {u v : Value} {a m n : ℕ} {i j : Bool} → q ≡ done u m i → plain_word bool_t u ≡ Some a → is_true a ≡ true → r ≡ done v n j
    → rule (chosen q r s) ≡ done v (1 + (m + n)) (i or j)
unfolding rule after one_rule ◌plus◌ ◌or◌ chosen arm_of
chosen_true s e g h f = rw (e, g, h, f)

chosen_false : {q s : Evaluated} (r : Evaluated) {u v : Value} {a m n : ℕ} {i j : Bool} → q ≡ done u m i → plain_word bool_t u ≡ Some a → is_true a ≡ false → s ≡ done v n j
    → rule (chosen q r s) ≡ done v (1 + (m + n)) (i or j)
unfolding rule after one_rule ◌plus◌ ◌or◌ chosen arm_of
chosen_false r e g h f = rw (e, g, h, f)

lifted_done : (t : ℕ) {r : Evaluated} {u : Value} {a n : ℕ} {i : Bool} → r ≡ done u n i → plain_word t u ≡ Some a → is_plain t ≡ true
    → rule (lifted r) ≡ done (Present (maybe_of t) a) (1 + n) i
unfolding rule after give one_rule nothing ◌plus◌ ◌or◌ lifted just_of
lifted_done t {u = u} {a} {i = i} e g h = rw (e, plain_of t a u g, h) (sized _ (omega arith) (or_no i))

taken_absent : {q r : Evaluated} (f : Value → Evaluated) {u v : Value} {m n : ℕ} {i j : Bool} → q ≡ done u m i → opened u ≡ Gone → r ≡ done v n j
    → rule (taken q r f) ≡ done v (1 + (m + n)) (i or j)
unfolding rule after one_rule ◌plus◌ ◌or◌ taken take_arm
taken_absent f e g h = rw (e, g, h)

taken_present : {q : Evaluated} (r : Evaluated) (f : Value → Evaluated) {u c v : Value} {m n : ℕ} {i j : Bool} → q ≡ done u m i → opened u ≡ Here c → f c ≡ done v n j
    → rule (taken q r f) ≡ done v (1 + (m + n)) (i or j)
unfolding rule after one_rule ◌plus◌ ◌or◌ taken take_arm
taken_present r f e g h = rw (e, g, h)

-- a derivation gives the definition's outcome: its size is the work, and the mark is that some operation in it left the range
pub sound_e : {env : Env} {e : Expr} {v : Value} {n : ℕ} (d : Evaluates env e v n) → eval_e env e ≡ done v n (left_e d)
unfolding eval_e left_e
sound_e (ev_variable e) = give_done e
sound_e (ev_constant) = give_done refl
sound_e (ev_operation {k = k} d f g h) = operated_done k (sound_e d) (sound_e f) g h
sound_e (ev_not d g) = negated_done (sound_e d) g
sound_e (ev_if_true d g h f) = chosen_true _ (sound_e d) g h (sound_e f)
sound_e (ev_if_false d g h f) = chosen_false _ (sound_e d) g h (sound_e f)
sound_e (ev_just t d g h) = lifted_done t (sound_e d) g h
sound_e (ev_take_absent d g f) = taken_absent _ (sound_e d) g (sound_e f)
sound_e (ev_take_present d g f) = taken_present _ _ (sound_e d) g (sound_e f)
