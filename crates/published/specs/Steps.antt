-- A step by the inference rules, and the size of a derivation counted from the derivation itself.
-- Assumes nothing: these are definitions.
use Rattle.std.specs.Prelude.{ℕ, ◌+◌}
use Rattle.rules.specs.Bytes.{Bytes}
use Rattle.rules.specs.Layout.{time_in, set_time, most_nodes}
use Rattle.rules.specs.Tree.{Expr, Signal, Cases, root}
use Rattle.rules.specs.Evaluate.{Env, unbound}
use Rattle.rules.specs.declared.Value.{Value}
use Rattle.published.specs.Expressions.{Evaluates, ev_variable, ev_constant, ev_operation, ev_not, ev_if_true, ev_if_false, ev_just, ev_take_absent, ev_take_present}
use Rattle.published.specs.Signals.{EvaluatesS, ev_input, ev_time, ev_ext, ev_delay, ev_signal, ev_switch, ev_continue, ev_until}
use Rattle.published.specs.Updates.{NoneOccurs, none_of_none, none_of_case, FirstOccurs, occurs_here, occurs_later, Part, sig, Result, becomes, Transition, tr_input, tr_time, tr_ext, tr_delay, tr_signal', tr_switch_occ, tr_switch_noc, tr_continue, tr_continue_taken, tr_continue_left, tr_until_noc, tr_until_occ, tr_no_case, tr_case}

-- Document 000 writes E; K ⊢ s → s', v for both judgements together. A step evaluates the root (its output) and then updates it, with no
-- variable bound; the state's time becomes the record's. That is no rule, and counts nothing.
pub data Steps (p rec st : Bytes) : Value → Bytes → ℕ → Type 0 where
  step : {v : Value} {st₁ : Bytes} {m n : ℕ} → EvaluatesS rec st (unbound most_nodes) (root p) v m
      → Transition rec (unbound most_nodes) st (sig (root p)) (becomes st₁) n → Steps p rec st v (set_time st₁ (time_in rec)) (m + n)

-- Document 000, section 5: the size of a derivation is the number of times a transition or evaluation rule is used in it. One for each rule,
-- with those of its premises; lists count nothing.
unfoldable pub used_e : {env : Env} {e : Expr} {v : Value} {n : ℕ} → Evaluates env e v n → ℕ
used_e (ev_variable g) = 1
used_e ev_constant = 1
used_e (ev_operation d f g h) = 1 + (used_e d + used_e f)
used_e (ev_not d g) = 1 + used_e d
used_e (ev_if_true d g h f) = 1 + (used_e d + used_e f)
used_e (ev_if_false d g h f) = 1 + (used_e d + used_e f)
used_e (ev_just t d g h) = 1 + used_e d
used_e (ev_take_absent d g f) = 1 + (used_e d + used_e f)
used_e (ev_take_present d g f) = 1 + (used_e d + used_e f)

unfoldable pub used_s : {rec st : Bytes} {env : Env} {s : Signal} {v : Value} {n : ℕ} → EvaluatesS rec st env s v n → ℕ
used_s ev_input = 1
used_s ev_time = 1
used_s (ev_ext d) = 1 + used_e d
used_s ev_delay = 1
used_s (ev_signal d b) = 1 + (used_s d + used_s b)
used_s (ev_switch c d) = 1 + used_s d
used_s (ev_continue c d) = 1 + used_s d
used_s (ev_until d) = 1 + used_s d

unfoldable pub used_none : {rec st : Bytes} {env : Env} {cs : Cases} {n : ℕ} → NoneOccurs rec st env cs n → ℕ
used_none none_of_none = 0
used_none (none_of_case d g c) = used_s d + used_none c

unfoldable pub used_first : {rec st : Bytes} {env : Env} {cs : Cases} {aim : ℕ} {v : Value} {n : ℕ} → FirstOccurs rec st env cs aim v n → ℕ
used_first (occurs_here d g) = used_s d
used_first (occurs_later d g c) = used_s d + used_first c

unfoldable pub used_t : {rec : Bytes} {env : Env} {st : Bytes} {x : Part} {r : Result} {n : ℕ} → Transition rec env st x r n → ℕ
used_t tr_input = 1
used_t tr_time = 1
used_t tr_ext = 1
used_t (tr_delay d u) = 1 + (used_s d + used_t u)
used_t (tr_signal' d u b) = 1 + (used_s d + (used_t u + used_t b))
used_t (tr_switch_occ d u o) = 1 + (used_s d + used_t u)
used_t (tr_switch_noc d u o c p) = 1 + (used_s d + (used_t u + used_t p))
used_t (tr_continue c u) = 1 + used_t u
used_t (tr_continue_taken c u h) = 1 + used_t u
used_t (tr_continue_left c u h) = 1 + used_t u
used_t (tr_until_noc a c u) = 1 + (used_none a + (used_t c + used_t u))
used_t (tr_until_occ a) = 1 + used_first a
used_t tr_no_case = 0
used_t (tr_case c u) = used_t c + used_t u

unfoldable pub size_of : {p rec st : Bytes} {v : Value} {st₁ : Bytes} {n : ℕ} → Steps p rec st v st₁ n → ℕ
size_of (step d u) = used_s d + used_t u
