-- How a signal evaluates, as inference rules, named as in document 000's figure 3. (Figure 7, with let continue and until, is missing in our
-- copy: ev-continue and ev-until follow section 4.2 and figure 3's way of naming.) The last index is the number of rules in the derivation.
-- Assumes nothing: these are definitions.
use Rattle.std.specs.Prelude.{◌≡◌, true, false, ℕ, ◌+◌, eqb}
use Rattle.rules.specs.Bytes.{Bytes}
use Rattle.rules.specs.Values.{int_t}
use Rattle.rules.specs.Layout.{channel_value, time_in, held, is_clear, branch_in}
use Rattle.rules.specs.Tree.{Signal, input, time, ext, delay, let_signal, switch, group, until, Expr, Branches, branch, Cases}
use Rattle.rules.specs.Evaluate.{Env, bind}
use Rattle.rules.specs.declared.Value.{Value}
use Rattle.rules.specs.declared.Value.TheVariants.{Plain}
use Rattle.published.specs.Expressions.{Evaluates}

-- K(k) = (x, s): the body of the branch with a number, the first of the list.
pub data BodyOf (k : ℕ) : Branches → Signal → Type 0 where
  here : {n t : ℕ} {body : Signal} {next : Branches} → eqb n k ≡ true → BodyOf k (branch n t body next) body
  later : {n t : ℕ} {body s : Signal} {next : Branches} → eqb n k ≡ false → BodyOf k next s → BodyOf k (branch n t body next) s

-- The current part of a switch, with the environment it is in: first until switched, then second, its variable the caught value. In document
-- 000 the current part is the term's s₁, which the transition replaces by s₂; here the cell says which it is.
pub data CurrentOfSwitch (st : Bytes) (env : Env) (i k : ℕ) (x y : Signal) : Env → Signal → Type 0 where
  first : is_clear st k ≡ true → CurrentOfSwitch st env i k x y env x
  second : is_clear st k ≡ false → CurrentOfSwitch st env i k x y (bind env i (held st k)) y

-- The current part of a group: its body or the named branch, whose argument is the caught value.
pub data CurrentOfGroup (st : Bytes) (env : Env) (k : ℕ) (body : Signal) (brs : Branches) : Env → Signal → Type 0 where
  in_body : is_clear st k ≡ true → CurrentOfGroup st env k body brs env body
  in_branch : {s : Signal} → is_clear st k ≡ false → BodyOf (branch_in st k) brs s
      → CurrentOfGroup st env k body brs (bind env (branch_in st k) (held st k)) s

-- EvaluatesS rec st E s v n: E ⊢ s ↪ v at the record's time t and input i, by a derivation of n rules. The record is (t, i); the state
-- holds what document 000 writes into the term: the values of delays and the parts that are current.
pub data EvaluatesS (rec st : Bytes) : Env → Signal → Value → ℕ → Type 0 where
  -- ────────────────
  --  E ⊢ input ↪ i
  ev_input : {env : Env} {i c : ℕ} → EvaluatesS rec st env (input i c) (channel_value rec c) 1
  -- ───────────────
  --  E ⊢ time ↪ t
  ev_time : {env : Env} {i : ℕ} → EvaluatesS rec st env (time i) (Plain int_t (time_in rec)) 1
  --  E ⊢ e ↪ v
  -- ──────────────
  --  E ⊢ ext e ↪ v
  ev_ext : {env : Env} {i n : ℕ} {e : Expr} {v : Value} → Evaluates env e v n → EvaluatesS rec st env (ext i e) v (1 + n)
  -- ──────────────────
  --  E ⊢ delay v s ↪ v
  ev_delay : {env : Env} {i k : ℕ} {v : Value} {s : Signal} → EvaluatesS rec st env (delay i k v s) (held st k) 1
  --  x ∈ FV(s₂)    E ⊢ s₁ ↪ v₁    E, x ↦ v₁ ⊢ s₂ ↪ v₂
  -- ───────────────────────────────────────────────────  here without x ∈ FV(s₂): there is no ev-signal-gc
  --  E ⊢ let signal x = s₁ in s₂ ↪ v₂
  ev_signal : {env : Env} {i t m n : ℕ} {d b : Signal} {u v : Value} → EvaluatesS rec st env d u m → EvaluatesS rec st (bind env i u) b v n
      → EvaluatesS rec st env (let_signal i t d b) v (1 + (m + n))
  --  E ⊢ s₁ ↪ v
  -- ─────────────────────────────────  s₁ the current part
  --  E ⊢ s₁ switch on x = ev in s₂ ↪ v
  ev_switch : {env E : Env} {i k t n : ℕ} {x e y s : Signal} {v : Value} → CurrentOfSwitch st env i k x y E s → EvaluatesS rec st E s v n
      → EvaluatesS rec st env (switch i k t x e y) v (1 + n)
  --  E ⊢ s ↪ v
  -- ──────────────────────────────────────  s the current part
  --  E ⊢ let continue {kⱼ xⱼ = sⱼ} in s ↪ v
  ev_continue : {env E : Env} {i k n : ℕ} {body s : Signal} {brs : Branches} {v : Value} → CurrentOfGroup st env k body brs E s
      → EvaluatesS rec st E s v n → EvaluatesS rec st env (group i k body brs) v (1 + n)
  --  E ⊢ s ↪ v
  -- ──────────────────────────────
  --  E ⊢ s until {evⱼ ⇒ kⱼ} ↪ v
  ev_until : {env : Env} {i n : ℕ} {s : Signal} {cs : Cases} {v : Value} → EvaluatesS rec st env s v n → EvaluatesS rec st env (until i s cs) v (1 + n)
