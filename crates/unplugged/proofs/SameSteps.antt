-- Records with equal times that agree on the channels of a signal evaluate and update it alike, from any state and environment.
-- Assumes nothing.
use Rattle.std.specs.Prelude.{if◌then◌else◌}
use mathlib.Core.Path.{◌≡◌, refl, ap, ◌∙◌}
use Prim.Native.Nat.{ℕ}
use lib.Dec.{eqb}
use Rattle.rules.specs.Bytes.{Bytes}
use Rattle.rules.specs.Values.{int_t}
use Rattle.rules.specs.Layout.{most_nodes, channel_value, time_in, set_time, held, hold, is_clear, branch_in}
use Rattle.rules.specs.Work.{◌plus◌, give, rule, ◌then◌, Updated, Next, Jump, Halted, stays, leave, ruleᵘ, ◌with◌, ◌thenᵘ◌}
use Rattle.rules.specs.Tree.{Signal, input, time, ext, delay, let_signal, switch, group, until, Branches, no_branch, branch, Cases, no_case, case, root}
use Rattle.rules.specs.Evaluate.{Env, unbound, bind, opened, eval_e, eval_s, eval_b}
use Rattle.rules.specs.Reset.{reset_s}
use Rattle.rules.specs.Update.{occurs, first_present, on_occurrence, caught, on_event, upd_s, upd_b, upd_c, Stepped, Made, NotMade, updated, evaluated, step_of}
use Rattle.rules.specs.declared.Tally.{Tally}
use Rattle.rules.specs.declared.Value.{Value}
use Rattle.rules.specs.declared.Value.TheVariants.{Plain}
use Rattle.rules.specs.Occurrence.{Occurrence}

-- Each channel that an input in the signal names has a property.
abbrev mutual
  pub EachS : (ℕ → Type 0) → Signal → Type 0
  EachS P (input n c) = P c
  EachS P (time n) = Unit {0}
  EachS P (ext n e) = Unit {0}
  EachS P (delay n k v s) = EachS P s
  EachS P (let_signal n t d b) = EachS P d × EachS P b
  EachS P (switch n k t x e y) = EachS P x × EachS P e × EachS P y
  EachS P (group n k body brs) = EachS P body × EachB P brs
  EachS P (until n s cs) = EachS P s × EachC P cs

  pub EachB : (ℕ → Type 0) → Branches → Type 0
  EachB P no_branch = Unit {0}
  EachB P (branch n t body next) = EachS P body × EachB P next

  pub EachC : (ℕ → Type 0) → Cases → Type 0
  EachC P no_case = Unit {0}
  EachC P (case n event target t next) = EachS P event × EachC P next

module _ (rec₁ rec₂ : Bytes) (moment : time_in rec₁ ≡ time_in rec₂) where
  -- A channel gives the same in both.
  abbrev pub Same : ℕ → Type 0
  Same c = channel_value rec₁ c ≡ channel_value rec₂ c

  mutual
    unfolding eval_s

    pub eval_same : (s : Signal) → EachS Same s → (st : Bytes) (env : Env) → eval_s rec₁ st env s ≡ eval_s rec₂ st env s
    eval_same (input n c) a st env = λ i. rule (give (a i))
    eval_same (time n) a st env = λ i. rule (give (Plain int_t (moment i)))
    eval_same (ext n e) a st env = refl
    eval_same (delay n k v s) a st env = refl
    eval_same (let_signal n t d b) a st env =
        let f = eval_same d a.0 st env in
        λ i. rule (f i then λ v. eval_same b a.1 st (bind env n v) i)
    eval_same (switch n k t x e y) a st env =
        let f = eval_same x a.0 st env in
        let g = eval_same y a.2 st (bind env n (held st k)) in
        λ i. rule (if is_clear st k then f i else g i)
    eval_same (group n k body brs) a st env =
        let f = eval_same body a.0 st env in
        let g = eval_b_same brs a.1 st env (branch_in st k) (held st k) in
        λ i. rule (if is_clear st k then f i else g i)
    eval_same (until n s cs) a st env =
        let f = eval_same s a.0 st env in
        λ i. rule (f i)

    eval_b_same : (brs : Branches) → EachB Same brs → (st : Bytes) (env : Env) (which : ℕ) (v : Value)
        → eval_b rec₁ st env which v brs ≡ eval_b rec₂ st env which v brs
    eval_b_same no_branch a st env which v = refl
    eval_b_same (branch n t body next) a st env which v =
        let f = eval_same body a.0 st (bind env n v) in
        let g = eval_b_same next a.1 st env which v in
        λ i. if eqb n which then f i else g i

  first_same : (cs : Cases) → EachC Same cs → (st : Bytes) (env : Env) → first_present rec₁ st env cs ≡ first_present rec₂ st env cs
  unfolding first_present
  first_same no_case a st env = refl
  first_same (case n event target t next) a st env =
      let f = eval_same event a.0 st env in
      let g = first_same next a.1 st env in
      λ i. occurs (f i) target (g i)

  mutual
    unfolding upd_s

    pub update_same : (s : Signal) → EachS Same s → (env : Env) (st : Bytes) → upd_s rec₁ env s st ≡ upd_s rec₂ env s st
    update_same (input n c) a env st = refl
    update_same (time n) a env st = refl
    update_same (ext n e) a env st = refl
    update_same (delay n k v s) a env st =
        let f = eval_same s a st env in
        let g = update_same s a env st in
        λ i. ruleᵘ (f i with λ w. g i thenᵘ λ st₁. leave (hold st₁ k w))
    update_same (let_signal n t d b) a env st =
        let f = eval_same d a.0 st env in
        λ i. ruleᵘ (f i with λ v. update_same d a.0 (bind env n v) st i thenᵘ λ st₁. update_same b a.1 (bind env n v) st₁ i)
    update_same (switch n k t x e y) a env st =
        let f = eval_same e a.1 st env in
        let g = update_same e a.1 env st in
        λ i. ruleᵘ (f i with λ event. g i thenᵘ λ st₁.
        on_event (opened event) (λ v. leave (reset_s y (reset_s x (hold st₁ k v))))
        (stays (if is_clear st₁ k then update_same x a.0 env st₁ i else update_same y a.2 (bind env n (held st₁ k)) st₁ i)))
    update_same (group n k body brs) a env st =
        let f = update_same body a.0 env st in
        let g = update_b_same brs a.1 env (branch_in st k) (held st k) st in
        λ i. ruleᵘ (caught k body brs (if is_clear st k then f i else g i))
    update_same (until n s cs) a env st =
        let f = first_same cs a.1 st env in
        let g = update_c_same cs a.1 env st in
        λ i. ruleᵘ (on_occurrence (f i) st (g i thenᵘ λ st₁. stays (update_same s a.0 env st₁ i)))

    update_b_same : (brs : Branches) → EachB Same brs → (env : Env) (which : ℕ) (v : Value) (st : Bytes)
        → upd_b rec₁ env which v brs st ≡ upd_b rec₂ env which v brs st
    update_b_same no_branch a env which v st = refl
    update_b_same (branch n t body next) a env which v st =
        let f = update_same body a.0 (bind env n v) st in
        let g = update_b_same next a.1 env which v st in
        λ i. if eqb n which then f i else g i

    update_c_same : (cs : Cases) → EachC Same cs → (env : Env) (st : Bytes) → upd_c rec₁ env cs st ≡ upd_c rec₂ env cs st
    update_c_same no_case a env st = refl
    update_c_same (case n event target t next) a env st =
        let f = update_c_same next a.1 env st in
        λ i. f i thenᵘ λ st₁. stays (update_same event a.0 env st₁ i)

  -- The state's time becomes the record's.
  timed_same : (v : Value) (u : Tally) (r : Updated) → updated v u rec₁ r ≡ updated v u rec₂ r
  unfolding updated
  timed_same v u (Next st w) = λ i. Made v (set_time st (moment i)) (u plus w)
  timed_same v u (Jump target x st w) = refl
  timed_same v u Halted = refl

  -- So the step is the same: value, state and count.
  pub step_same : (p st : Bytes) → EachS Same (root p) → step_of p rec₁ st ≡ step_of p rec₂ st
  unfolding step_of
  step_same p st a =
      let env : Env = unbound most_nodes in
      let f = eval_same (root p) a st env in
      let g = update_same (root p) a env st in
      (λ i. evaluated (f i) λ v u. updated v u rec₁ (g i)) ∙ (λ i. evaluated (eval_s rec₂ st env (root p)) λ v u. timed_same v u (upd_s rec₂ env (root p) st) i)
