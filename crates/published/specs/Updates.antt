-- How a signal updates, as inference rules. Of document 000's transition rules our copy has tr-signal' only (figure 5): figures 4 and 7 are
-- missing, so the others follow sections 3.3, 4.1 and 4.2 and are named on the same pattern. The last index is the number of rules in the
-- derivation.
-- Document 000's transition E; K ⊢ s → s' replaces a term; here the term stays and the state st becomes st'. An until that occurs leaves
-- its place for a branch, K(k), of the group around it: it hands the jump up, and the group takes it.
-- Assumes nothing: these are definitions.
use Rattle.std.specs.Prelude.{◌≡◌, true, false, ℕ, ◌+◌}
use Rattle.rules.specs.Bytes.{Bytes}
use Rattle.rules.specs.Layout.{hold, hold_branch}
use Rattle.rules.specs.Tree.{Expr, Signal, input, time, ext, delay, let_signal, switch, group, until, Branches, Cases, no_case, case}
use Rattle.rules.specs.Scope.{has_branch}
use Rattle.rules.specs.Evaluate.{Env, bind, opened}
use Rattle.rules.specs.Reset.{reset_s, reset_b}
use Rattle.rules.specs.declared.Value.{Value}
use Rattle.rules.specs.Opened.{Here, Gone}
use Rattle.published.specs.Signals.{CurrentOfSwitch, CurrentOfGroup, EvaluatesS}

-- {E ⊢ evⱼ ↪ ⊥}: no event of a list occurs. Its size is that of the evaluations: lists count nothing.
pub data NoneOccurs (rec st : Bytes) (env : Env) : Cases → ℕ → Type 0 where
  none_of_none : NoneOccurs rec st env no_case 0
  none_of_case : {i target t m n : ℕ} {event : Signal} {next : Cases} {u : Value} → EvaluatesS rec st env event u m → opened u ≡ Gone
      → NoneOccurs rec st env next n → NoneOccurs rec st env (case i event target t next) (m + n)

-- {E ⊢ evⱼ ↪ ⊥} for j < l and E ⊢ ev_l ↪ v⊥: the first event of a list that occurs, with its target. Later ones are not evaluated.
pub data FirstOccurs (rec st : Bytes) (env : Env) : Cases → ℕ → Value → ℕ → Type 0 where
  occurs_here : {i target t n : ℕ} {event : Signal} {next : Cases} {u v : Value} → EvaluatesS rec st env event u n → opened u ≡ Here v
      → FirstOccurs rec st env (case i event target t next) target v n
  occurs_later : {i target t aim m n : ℕ} {event : Signal} {next : Cases} {u v : Value} → EvaluatesS rec st env event u m → opened u ≡ Gone
      → FirstOccurs rec st env next aim v n → FirstOccurs rec st env (case i event target t next) aim v (m + n)

-- What a transition is of, a signal or the events of an until, and what comes of it: a state, or that an until leaves for the branch k with
-- the value v, from a state.
pub data Part : Type 0 where
  sig : (s : Signal) → Part
  evs : (cs : Cases) → Part

pub data Result : Type 0 where
  becomes : (st : Bytes) → Result
  leaves : (k : ℕ) (v : Value) (st : Bytes) → Result

-- Transition rec E st s r n: E; K ⊢ s → s' at the record's time and input, by a derivation of n rules.
pub data Transition (rec : Bytes) : Env → Bytes → Part → Result → ℕ → Type 0 where
  -- ────────────────────────      ──────────────────────      ─────────────────────────
  --  E; K ⊢ input → input          E; K ⊢ time → time          E; K ⊢ ext e → ext e
  tr_input : {env : Env} {st : Bytes} {i c : ℕ} → Transition rec env st (sig (input i c)) (becomes st) 1
  tr_time : {env : Env} {st : Bytes} {i : ℕ} → Transition rec env st (sig (time i)) (becomes st) 1
  tr_ext : {env : Env} {st : Bytes} {i : ℕ} {e : Expr} → Transition rec env st (sig (ext i e)) (becomes st) 1
  --  E ⊢ s ↪ v'    E; K ⊢ s → s'
  -- ───────────────────────────────
  --  E; K ⊢ delay v s → delay v' s'
  tr_delay : {env : Env} {st st₁ : Bytes} {i k m n : ℕ} {v w : Value} {s : Signal} → EvaluatesS rec st env s w m
      → Transition rec env st (sig s) (becomes st₁) n → Transition rec env st (sig (delay i k v s)) (becomes (hold st₁ k w)) (1 + (m + n))
  --  x ∈ FV(s₂)    E ⊢ s₁ ↪ v₁    E, x ↦ v₁ ⊢ s₁ → s₁'    E, x ↦ v₁ ⊢ s₂ → s₂'
  -- ─────────────────────────────────────────────────────────────────────────────  tr-signal', here without x ∈ FV(s₂)
  --  E; K ⊢ let signal x = s₁ in s₂ → let signal x = s₁' in s₂'
  -- Where an until of the body leaves it, so does the let.
  tr_signal' : {env : Env} {st st₁ : Bytes} {i t l m n : ℕ} {d b : Signal} {v : Value} {r : Result} → EvaluatesS rec st env d v l
      → Transition rec (bind env i v) st (sig d) (becomes st₁) m → Transition rec (bind env i v) st₁ (sig b) r n
      → Transition rec env st (sig (let_signal i t d b)) r (1 + (l + (m + n)))
  --  E ⊢ ev ↪ v⊥    E; K ⊢ ev → ev'
  -- ─────────────────────────────────────────────────────────────────────────────
  --  E; K ⊢ s₁ switch on x = ev in s₂ → s₂[x := v] switch on x = ev' in s₂
  tr_switch_occ : {env : Env} {st st₁ : Bytes} {i k t m n : ℕ} {x e y : Signal} {u v : Value} → EvaluatesS rec st env e u m
      → Transition rec env st (sig e) (becomes st₁) n → opened u ≡ Here v
      → Transition rec env st (sig (switch i k t x e y)) (becomes (reset_s y (reset_s x (hold st₁ k v)))) (1 + (m + n))
  --  E ⊢ ev ↪ ⊥    E; K ⊢ ev → ev'    E; K ⊢ s₁ → s₁'
  -- ────────────────────────────────────────────────────────────────────  s₁ the current part; s₂ does not age
  --  E; K ⊢ s₁ switch on x = ev in s₂ → s₁' switch on x = ev' in s₂
  tr_switch_noc : {env E : Env} {st st₁ st₂ : Bytes} {i k t l m n : ℕ} {x e y s : Signal} {u : Value} → EvaluatesS rec st env e u l
      → Transition rec env st (sig e) (becomes st₁) m → opened u ≡ Gone → CurrentOfSwitch st₁ env i k x y E s
      → Transition rec E st₁ (sig s) (becomes st₂) n → Transition rec env st (sig (switch i k t x e y)) (becomes st₂) (1 + (l + (m + n)))
  --  E; K, {kⱼ ↦ (xⱼ, sⱼ)} ⊢ s → s'
  -- ────────────────────────────────────────────────────────────────────────────  s the current part
  --  E; K ⊢ let continue {kⱼ xⱼ = sⱼ} in s → let continue {kⱼ xⱼ = sⱼ} in s'
  -- Three rules, since the jump is handed up: no until of s leaves it; one leaves for a branch of this group, which takes that branch and
  -- value while all below it goes to start; one leaves for a branch of no group so far. (In a program that is in scope there is none such.)
  tr_continue : {env E : Env} {st st₁ : Bytes} {i k n : ℕ} {body s : Signal} {brs : Branches} → CurrentOfGroup st env k body brs E s
      → Transition rec E st (sig s) (becomes st₁) n → Transition rec env st (sig (group i k body brs)) (becomes st₁) (1 + n)
  tr_continue_taken : {env E : Env} {st st₁ : Bytes} {i k aim n : ℕ} {body s : Signal} {brs : Branches} {v : Value}
      → CurrentOfGroup st env k body brs E s → Transition rec E st (sig s) (leaves aim v st₁) n → has_branch aim brs ≡ true
      → Transition rec env st (sig (group i k body brs)) (becomes (reset_b brs (reset_s body (hold_branch st₁ k aim v)))) (1 + n)
  tr_continue_left : {env E : Env} {st st₁ : Bytes} {i k aim n : ℕ} {body s : Signal} {brs : Branches} {v : Value}
      → CurrentOfGroup st env k body brs E s → Transition rec E st (sig s) (leaves aim v st₁) n → has_branch aim brs ≡ false
      → Transition rec env st (sig (group i k body brs)) (leaves aim v st₁) (1 + n)
  --  {E ⊢ evⱼ ↪ ⊥}    {E; K ⊢ evⱼ → evⱼ'}    E; K ⊢ s → s'
  -- ───────────────────────────────────────────────────────────
  --  E; K ⊢ s until {evⱼ ⇒ kⱼ} → s' until {evⱼ' ⇒ kⱼ}
  tr_until_noc : {env : Env} {st st₁ st₂ : Bytes} {i l m n : ℕ} {s : Signal} {cs : Cases} → NoneOccurs rec st env cs l
      → Transition rec env st (evs cs) (becomes st₁) m → Transition rec env st₁ (sig s) (becomes st₂) n
      → Transition rec env st (sig (until i s cs)) (becomes st₂) (1 + (l + (m + n)))
  --  {E ⊢ evⱼ ↪ ⊥} for j < l    E ⊢ ev_l ↪ v⊥    K(k_l) = (x, s_l)
  -- ─────────────────────────────────────────────────────────────────
  --  E; K ⊢ s until {evⱼ ⇒ kⱼ} → s_l[x := v]
  tr_until_occ : {env : Env} {st : Bytes} {i aim n : ℕ} {s : Signal} {cs : Cases} {v : Value} → FirstOccurs rec st env cs aim v n
      → Transition rec env st (sig (until i s cs)) (leaves aim v st) (1 + n)
  -- {E; K ⊢ evⱼ → evⱼ'}: no rules but the two of a list, which count nothing. The last of the list goes first.
  tr_no_case : {env : Env} {st : Bytes} → Transition rec env st (evs no_case) (becomes st) 0
  tr_case : {env : Env} {st st₁ st₂ : Bytes} {i target t m n : ℕ} {event : Signal} {next : Cases}
      → Transition rec env st (evs next) (becomes st₁) m → Transition rec env st₁ (sig event) (becomes st₂) n
      → Transition rec env st (evs (case i event target t next)) (becomes st₂) (m + n)
