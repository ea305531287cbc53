-- Whether some operation in a derivation left the 32-bit range, read off the derivation itself: rule ev-operation can, and no other rule.
-- Assumes nothing: these are definitions.
use Rattle.std.specs.Prelude.{Bool, false, ℕ}
use Rattle.rules.specs.Bytes.{Bytes, ◌or◌}
use Rattle.rules.specs.Operations.{leaves_range}
use Rattle.rules.specs.Tree.{Expr, Signal, Cases}
use Rattle.rules.specs.Evaluate.{Env}
use Rattle.rules.specs.declared.Value.{Value}
use Rattle.published.specs.Expressions.{Evaluates, ev_variable, ev_constant, ev_operation, ev_not, ev_if_true, ev_if_false, ev_just, ev_take_absent, ev_take_present}
use Rattle.published.specs.Signals.{EvaluatesS, ev_input, ev_time, ev_ext, ev_delay, ev_signal, ev_switch, ev_continue, ev_until}
use Rattle.published.specs.Updates.{NoneOccurs, none_of_none, none_of_case, FirstOccurs, occurs_here, occurs_later, Part, Result, Transition, tr_input, tr_time, tr_ext, tr_delay, tr_signal', tr_switch_occ, tr_switch_noc, tr_continue, tr_continue_taken, tr_continue_left, tr_until_noc, tr_until_occ, tr_no_case, tr_case}
use Rattle.published.specs.Steps.{Steps, step}

-- An expression's: in one of its premises, or the operation of its own words.
unfoldable pub left_e : {env : Env} {e : Expr} {v : Value} {n : ℕ} → Evaluates env e v n → Bool
left_e (ev_variable g) = false
left_e ev_constant = false
left_e (ev_operation {k = k} {a = a} {b = b} d f g h) = left_e d or left_e f or leaves_range k a b
left_e (ev_not d g) = left_e d
left_e (ev_if_true d g h f) = left_e d or left_e f
left_e (ev_if_false d g h f) = left_e d or left_e f
left_e (ev_just t d g h) = left_e d
left_e (ev_take_absent d g f) = left_e d or left_e f
left_e (ev_take_present d g f) = left_e d or left_e f

unfoldable pub left_s : {rec st : Bytes} {env : Env} {s : Signal} {v : Value} {n : ℕ} → EvaluatesS rec st env s v n → Bool
left_s ev_input = false
left_s ev_time = false
left_s (ev_ext d) = left_e d
left_s ev_delay = false
left_s (ev_signal d b) = left_s d or left_s b
left_s (ev_switch c d) = left_s d
left_s (ev_continue c d) = left_s d
left_s (ev_until d) = left_s d

unfoldable pub left_none : {rec st : Bytes} {env : Env} {cs : Cases} {n : ℕ} → NoneOccurs rec st env cs n → Bool
left_none none_of_none = false
left_none (none_of_case d g c) = left_s d or left_none c

unfoldable pub left_first : {rec st : Bytes} {env : Env} {cs : Cases} {aim : ℕ} {v : Value} {n : ℕ} → FirstOccurs rec st env cs aim v n → Bool
left_first (occurs_here d g) = left_s d
left_first (occurs_later d g c) = left_s d or left_first c

unfoldable pub left_t : {rec : Bytes} {env : Env} {st : Bytes} {x : Part} {r : Result} {n : ℕ} → Transition rec env st x r n → Bool
left_t tr_input = false
left_t tr_time = false
left_t tr_ext = false
left_t (tr_delay d u) = left_s d or left_t u
left_t (tr_signal' d u b) = left_s d or (left_t u or left_t b)
left_t (tr_switch_occ d u o) = left_s d or left_t u
left_t (tr_switch_noc d u o c p) = left_s d or (left_t u or left_t p)
left_t (tr_continue c u) = left_t u
left_t (tr_continue_taken c u h) = left_t u
left_t (tr_continue_left c u h) = left_t u
left_t (tr_until_noc a c u) = left_none a or (left_t c or left_t u)
left_t (tr_until_occ a) = left_first a
left_t tr_no_case = false
left_t (tr_case c u) = left_t c or left_t u

-- A step's: in either phase.
unfoldable pub left_of : {p rec st : Bytes} {v : Value} {st₁ : Bytes} {n : ℕ} → Steps p rec st v st₁ n → Bool
left_of (step d u) = left_s d or left_t u
