-- Records with equal times that agree on the channels of a signal have every node of it give the same, from any state and environment.
-- Assumes nothing.
use Rattle.std.specs.Prelude.{if◌then◌else◌}
use mathlib.Core.Path.{◌≡◌, refl, ap, ◌∙◌}
use mathlib.Core.List.{[], ◌∷◌, ◌++◌}
use Prim.Native.Nat.{ℕ}
use lib.Dec.{eqb}
use Rattle.rules.specs.Bytes.{Bytes, bytes_of}
use Rattle.rules.specs.Layout.{most_nodes, channel_value, time_in, held, is_clear, branch_in}
use Rattle.rules.specs.Tree.{Signal, input, time, ext, delay, let_signal, switch, group, until, Branches, no_branch, branch, root}
use Rattle.rules.specs.Evaluate.{Env, unbound, bind, eval_s}
use Rattle.rules.specs.declared.Value.{Value}
use Rattle.unplugged.proofs.SameSteps.{EachS, EachB, eval_same}
use Rattle.watched.specs.Gave.{own, once, gave_s, gave_b}
use Rattle.watched.specs.Watch.{List16, shown}

module _ (rec₁ rec₂ : Bytes) (moment : time_in rec₁ ≡ time_in rec₂) where
  -- A channel gives the same in both.
  abbrev Same : ℕ → Type 0
  Same c = channel_value rec₁ c ≡ channel_value rec₂ c

  -- A signal evaluates to the same.
  eval : (s : Signal) → EachS Same s → (st : Bytes) (env : Env) → eval_s rec₁ st env s ≡ eval_s rec₂ st env s
  eval s a st env = eval_same rec₁ rec₂ moment s a st env

  mutual
    unfolding gave_s

    gave_same : (s : Signal) → EachS Same s → (st : Bytes) (env : Env) (x z : ℕ) → gave_s rec₁ st env s x z ≡ gave_s rec₂ st env s x z
    gave_same (input n c) a st env x z = λ i. own n x (eval (input n c) a st env i) z
    gave_same (time n) a st env x z = λ i. own n x (eval (time n) a st env i) z
    gave_same (ext n e) a st env x z = λ i. own n x (eval (ext n e) a st env i) z
    gave_same (delay n k v s) a st env x z = λ i. own n x (eval (delay n k v s) a st env i) z
    gave_same (let_signal n t d b) a st env x z =
        let f = gave_same d a.0 st env x z in
        λ i. own n x (eval (let_signal n t d b) a st env i)
        (once (eval d a.0 st env i) (λ v y. gave_same b a.1 st (bind env n v) x y i) (f i))
    gave_same (switch n k t u e y) a st env x z =
        let f = gave_same u a.0 st env x z in
        let g = gave_same y a.2 st (bind env n (held st k)) x z in
        λ i. own n x (eval (switch n k t u e y) a st env i) (if is_clear st k then f i else g i)
    gave_same (group n k body brs) a st env x z =
        let f = gave_same body a.0 st env x z in
        let g = gave_b_same brs a.1 st env (branch_in st k) (held st k) x z in
        λ i. own n x (eval (group n k body brs) a st env i) (if is_clear st k then f i else g i)
    gave_same (until n s cs) a st env x z =
        let f = gave_same s a.0 st env x z in
        λ i. own n x (eval (until n s cs) a st env i) (f i)

    gave_b_same : (brs : Branches) → EachB Same brs → (st : Bytes) (env : Env) (which : ℕ) (v : Value) (x z : ℕ)
        → gave_b rec₁ st env which v brs x z ≡ gave_b rec₂ st env which v brs x z
    gave_b_same no_branch a st env which v x z = refl
    gave_b_same (branch n t body next) a st env which v x z =
        let f = gave_same body a.0 st (bind env n v) x z in
        let g = gave_b_same next a.1 st env which v x z in
        λ i. if eqb n which then f i else g i

  -- So a step shows the same.
  pub shown_same : (p st : Bytes) → EachS Same (root p) → (l : List16) → shown p rec₁ st l ≡ shown p rec₂ st l
  unfolding shown
  shown_same p st a [] = refl
  shown_same p st a (x ∷ xs) =
      let f = gave_same (root p) a st (unbound most_nodes) x 0 in
      let g = shown_same p st a xs in
      λ i. bytes_of 8 (f i) ++ g i
