-- A signal that the definition does not leave stuck has a derivation, of the definition's value and work.
-- Assumes nothing.
use Rattle.std.specs.Prelude.{if◌then◌else◌}
use mathlib.Core.Path.{◌≡◌, refl}
use mathlib.Core.Bool.{Bool, true, false}
use Prim.Native.Nat.{ℕ}
use lib.Dec.{eqb}
use borrow.Author.Tests.{eqb-true}
use Rattle.rules.specs.Bytes.{Bytes}
use Rattle.rules.specs.Layout.{held, is_clear, branch_in}
use Rattle.rules.specs.Work.{rule, ◌then◌}
use Rattle.rules.specs.Tree.{Signal, input, time, ext, delay, let_signal, switch, group, until, Branches, no_branch, branch}
use Rattle.rules.specs.Evaluate.{Env, bind, eval_s, eval_b}
use Rattle.rules.specs.declared.Tally.{Tally}
use Rattle.rules.specs.declared.Value.{Value}
use Rattle.rules.specs.Evaluated.{Evaluated, Done}
use Rattle.published.specs.Signals.{BodyOf, here, later, first, second, in_body, in_branch, EvaluatesS, ev_input, ev_time, ev_ext, ev_delay, ev_signal, ev_switch, ev_continue, ev_until}
use Rattle.published.proofs.Outcomes.{Derived, derived, stuck, derivation, mapped, rule_give, rule_one, rule_after, rule_stuck}
use Rattle.published.proofs.ExpressionsComplete.{derive_e}

-- the branch with the number, evaluated with its argument bound
record InBranch (rec st : Bytes) (env : Env) (k : ℕ) (u : Value) (brs : Branches) (v : Value) (n : ℕ) : Type 0 where
  part : Signal
  body : BodyOf k brs part
  runs : EvaluatesS rec st (bind env k u) part v n

-- each kind of signal with parts: it has a derivation where they have, and is stuck with them
let_derived : (rec st : Bytes) (env : Env) (i t : ℕ) (d b : Signal) {r : Evaluated} (f : Value → Evaluated) → Derived (EvaluatesS rec st env d) r
    → ((u : Value) → Derived (EvaluatesS rec st (bind env i u) b) (f u)) → Derived (EvaluatesS rec st env (let_signal i t d b)) (rule (r then f))
unfolding ◌then◌
let_derived rec st env i t d b f (derived {v = u} {w = p} c) g = rule_after p (λ v n. ev_signal c) (g u)
let_derived rec st env i t d b f stuck g = rule_stuck

switch_derived : (rec st : Bytes) (env : Env) (i k t : ℕ) (x e y : Signal) {r s : Evaluated} (q : Bool) → is_clear st k ≡ q
    → Derived (EvaluatesS rec st env x) r → Derived (EvaluatesS rec st (bind env i (held st k)) y) s
    → Derived (EvaluatesS rec st env (switch i k t x e y)) (rule (if q then r else s))
switch_derived rec st env i k t x e y true h c d = rule_one (λ v n. ev_switch (first h)) c
switch_derived rec st env i k t x e y false h c d = rule_one (λ v n. ev_switch (second h)) d

group_derived : (rec st : Bytes) (env : Env) (i k : ℕ) (body : Signal) (brs : Branches) {r s : Evaluated} (q : Bool) → is_clear st k ≡ q
    → Derived (EvaluatesS rec st env body) r → Derived (InBranch rec st env (branch_in st k) (held st k) brs) s
    → Derived (EvaluatesS rec st env (group i k body brs)) (rule (if q then r else s))
group_derived rec st env i k body brs true h c d = rule_one (λ v n. ev_continue (in_body h)) c
group_derived rec st env i k body brs false h c d = rule_one (λ v n b. ev_continue (in_branch h b.body) b.runs) d

branch_derived : (rec st : Bytes) (env : Env) (k : ℕ) (u : Value) (n t : ℕ) (body : Signal) (next : Branches) {r s : Evaluated} (q : Bool) → eqb n k ≡ q
    → Derived (EvaluatesS rec st (bind env n u) body) r → Derived (InBranch rec st env k u next) s
    → Derived (InBranch rec st env k u (branch n t body next)) (if q then r else s)
branch_derived rec st env k u n t body next true h c d =
    mapped (λ v m e. record { part = body; body = here h; runs = rw (← eqb-true n k h) e }) c
branch_derived rec st env k u n t body next false h c d =
    mapped (λ v m b. record { part = b.part; body = later h b.body; runs = b.runs }) d

-- where the definition is not stuck there is a derivation
mutual
  unfolding eval_s

  pub derive_s : (s : Signal) (rec st : Bytes) (env : Env) → Derived (EvaluatesS rec st env s) (eval_s rec st env s)
  derive_s (input i c) rec st env = rule_give _ ev_input
  derive_s (time i) rec st env = rule_give _ ev_time
  derive_s (ext i e) rec st env = rule_one (λ v n. ev_ext) (derive_e e env)
  derive_s (delay i k v s) rec st env = rule_give _ ev_delay
  derive_s (let_signal i t d b) rec st env =
      let_derived rec st env i t d b (λ u. eval_s rec st (bind env i u) b) (derive_s d rec st env) (λ u. derive_s b rec st (bind env i u))
  derive_s (switch i k t x e y) rec st env =
      switch_derived rec st env i k t x e y (is_clear st k) refl (derive_s x rec st env) (derive_s y rec st (bind env i (held st k)))
  derive_s (group i k body brs) rec st env =
      group_derived rec st env i k body brs (is_clear st k) refl (derive_s body rec st env) (derive_b brs rec st env (branch_in st k) (held st k))
  derive_s (until i s cs) rec st env = rule_one (λ v n. ev_until) (derive_s s rec st env)

  derive_b : (brs : Branches) (rec st : Bytes) (env : Env) (k : ℕ) (u : Value)
      → Derived (InBranch rec st env k u brs) (eval_b rec st env k u brs)
  derive_b no_branch rec st env k u = stuck
  derive_b (branch n t body next) rec st env k u =
      branch_derived rec st env k u n t body next (eqb n k) refl (derive_s body rec st (bind env n u)) (derive_b next rec st env k u)

-- so of the definition's value and work there is a derivation
pub complete_s : {rec st : Bytes} {env : Env} {s : Signal} {v : Value} {w : Tally} → eval_s rec st env s ≡ Done v w
    → EvaluatesS rec st env s v w.work
complete_s {rec} {st} {env} {s} h = derivation (derive_s s rec st env) h
