-- The last index of a derivation is its size: the number of rules in it.
-- Assumes nothing.
use mathlib.Core.Path.{◌≡◌, refl, ap, ap₂}
use Prim.Native.Nat.{ℕ, ◌+◌}
use Rattle.rules.specs.Bytes.{Bytes}
use Rattle.rules.specs.Tree.{Expr, Signal, Cases}
use Rattle.rules.specs.Evaluate.{Env}
use Rattle.rules.specs.declared.Value.{Value}
use Rattle.published.specs.Expressions.{Evaluates, ev_variable, ev_constant, ev_operation, ev_not, ev_if_true, ev_if_false, ev_just, ev_take_absent, ev_take_present}
use Rattle.published.specs.Signals.{EvaluatesS, ev_input, ev_time, ev_ext, ev_delay, ev_signal, ev_switch, ev_continue, ev_until}
use Rattle.published.specs.Updates.{NoneOccurs, none_of_none, none_of_case, FirstOccurs, occurs_here, occurs_later, Part, Result, Transition, tr_input, tr_time, tr_ext, tr_delay, tr_signal', tr_switch_occ, tr_switch_noc, tr_continue, tr_continue_taken, tr_continue_left, tr_until_noc, tr_until_occ, tr_no_case, tr_case}
use Rattle.published.specs.Steps.{Steps, step, used_e, used_s, used_none, used_first, used_t, size_of}

-- sizes add up where those of the premises do
one_more : {a m : ℕ} → a ≡ m → 1 + a ≡ 1 + m
one_more e = ap (λ (k : ℕ). 1 + k) e

both_parts : {a b m n : ℕ} → a ≡ m → b ≡ n → a + b ≡ m + n
both_parts e f = ap₂ (λ (j k : ℕ). j + k) e f

pub sized_e : {env : Env} {e : Expr} {v : Value} {n : ℕ} (d : Evaluates env e v n) → used_e d ≡ n
unfolding used_e
sized_e (ev_variable g) = refl
sized_e ev_constant = refl
sized_e (ev_operation d f g h) = one_more (both_parts (sized_e d) (sized_e f))
sized_e (ev_not d g) = one_more (sized_e d)
sized_e (ev_if_true d g h f) = one_more (both_parts (sized_e d) (sized_e f))
sized_e (ev_if_false d g h f) = one_more (both_parts (sized_e d) (sized_e f))
sized_e (ev_just t d g h) = one_more (sized_e d)
sized_e (ev_take_absent d g f) = one_more (both_parts (sized_e d) (sized_e f))
sized_e (ev_take_present d g f) = one_more (both_parts (sized_e d) (sized_e f))

pub sized_s : {rec st : Bytes} {env : Env} {s : Signal} {v : Value} {n : ℕ} (d : EvaluatesS rec st env s v n) → used_s d ≡ n
unfolding used_s
sized_s ev_input = refl
sized_s ev_time = refl
sized_s (ev_ext d) = one_more (sized_e d)
sized_s ev_delay = refl
sized_s (ev_signal d b) = one_more (both_parts (sized_s d) (sized_s b))
sized_s (ev_switch c d) = one_more (sized_s d)
sized_s (ev_continue c d) = one_more (sized_s d)
sized_s (ev_until d) = one_more (sized_s d)

sized_none : {rec st : Bytes} {env : Env} {cs : Cases} {n : ℕ} (d : NoneOccurs rec st env cs n) → used_none d ≡ n
unfolding used_none
sized_none none_of_none = refl
sized_none (none_of_case d g c) = both_parts (sized_s d) (sized_none c)

sized_first : {rec st : Bytes} {env : Env} {cs : Cases} {aim : ℕ} {v : Value} {n : ℕ} (d : FirstOccurs rec st env cs aim v n) → used_first d ≡ n
unfolding used_first
sized_first (occurs_here d g) = sized_s d
sized_first (occurs_later d g c) = both_parts (sized_s d) (sized_first c)

pub sized_t : {rec : Bytes} {env : Env} {st : Bytes} {x : Part} {r : Result} {n : ℕ} (d : Transition rec env st x r n) → used_t d ≡ n
unfolding used_t
sized_t tr_input = refl
sized_t tr_time = refl
sized_t tr_ext = refl
sized_t (tr_delay d u) = one_more (both_parts (sized_s d) (sized_t u))
sized_t (tr_signal' d u b) = one_more (both_parts (sized_s d) (both_parts (sized_t u) (sized_t b)))
sized_t (tr_switch_occ d u o) = one_more (both_parts (sized_s d) (sized_t u))
sized_t (tr_switch_noc d u o c p) = one_more (both_parts (sized_s d) (both_parts (sized_t u) (sized_t p)))
sized_t (tr_continue c u) = one_more (sized_t u)
sized_t (tr_continue_taken c u h) = one_more (sized_t u)
sized_t (tr_continue_left c u h) = one_more (sized_t u)
sized_t (tr_until_noc a c u) = one_more (both_parts (sized_none a) (both_parts (sized_t c) (sized_t u)))
sized_t (tr_until_occ a) = one_more (sized_first a)
sized_t tr_no_case = refl
sized_t (tr_case c u) = both_parts (sized_t c) (sized_t u)

pub sized_step : {p rec st : Bytes} {v : Value} {st₁ : Bytes} {n : ℕ} (d : Steps p rec st v st₁ n) → size_of d ≡ n
unfolding size_of
sized_step (step d u) = both_parts (sized_s d) (sized_t u)
