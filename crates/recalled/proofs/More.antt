-- An evaluation that gives a value gives the same with the same count in a state that agrees on the signal's cells, and where more variables are
-- bound. Assumes nothing.
use Rattle.std.specs.Prelude.{if◌then◌else◌, Option, Some, None, ℕ}
use mathlib.Core.Path.{◌≡◌, refl, sym, ap, ◌∙◌}
use mathlib.Core.Logic.{◌≢◌, ◌⊎◌, inl, inr}
use mathlib.Core.List.{List, [], ◌∷◌}
use mathlib.Core.Bool.{Bool, true, false}
use Prim.Native.Nat.{ℕ, zero, suc, ◌+◌, ◌≤◌}
use native.Mathlib.Decide.{ℕ_discrete}
use native.Mathlib.Omega.{arith}
use lib.Dec.{eqb}
use lib.ListN.{length, get_or, set, length-set}
use lib.Seq.{get_or-set_same, get_or-set_other}
use Rattle.rules.specs.Bytes.{Bytes}
use Rattle.rules.specs.Values.{packed, unpacked, middle_in}
use Rattle.rules.specs.Layout.{cell, held, is_clear, branch_in}
use Rattle.rules.specs.Operations.{is_true}
use Rattle.rules.specs.Work.{◌plus◌, give, after, rule, one_rule, ◌then◌}
use Rattle.rules.specs.Tree.{Expr, variable, constant, operation, negation, choice, just, taking, Signal, input, time, ext, delay, let_signal, switch, group, until, Branches, no_branch, branch}
use Rattle.rules.specs.Size.{is_cell, times_s, times_b}
use Rattle.rules.specs.Evaluate.{Env, bind, look, opened, operate, operated, negated, chosen, arm_of, lifted, taken, take_arm, eval_e, eval_s, eval_b}
use Rattle.rules.specs.declared.Value.{Value}
use Rattle.rules.specs.declared.Tally.{Tally}
use Rattle.rules.specs.Opened.{Opened, Here, Gone, Amiss}
use Rattle.rules.specs.Evaluated.{Evaluated, Done, Stuck}
use Rattle.promises.specs.Kept.{Agree}
use Rattle.promises.proofs.Frames.{cell_itself, agree_part}

-- Wherever the first outcome is a value, the second is the same.
pub data More : Evaluated → Evaluated → Type 0 where
  same : {v : Value} {u : Tally} → More (Done v u) (Done v u)
  stuck : {r : Evaluated} → More Stuck r

after_more : (u : Tally) {r q : Evaluated} → More r q → More (after u r) (after u q)
unfolding after
after_more u same = same
after_more u stuck = stuck

rule_more : {r q : Evaluated} → More r q → More (rule r) (rule q)
unfolding rule
rule_more h = after_more one_rule h

self_more : (r : Evaluated) → More r r
self_more (Done v u) = same
self_more Stuck = stuck

then_more : {r q : Evaluated} (f g : Value → Evaluated) → More r q → ((v : Value) → More (f v) (g v)) → More (r then f) (q then g)
unfolding ◌then◌
then_more f g (same {v} {u}) h = after_more u (h v)
then_more f g stuck h = stuck

operated_more : (k : ℕ) {r q s z : Evaluated} → More r q → More s z → More (operated k r s) (operated k q z)
unfolding operated
operated_more k (same {v} {u}) (same {v = v₁} {u = u₁}) = self_more _
operated_more k same stuck = stuck
operated_more k stuck h = stuck

negated_more : {r q : Evaluated} → More r q → More (negated r) (negated q)
unfolding negated
negated_more same = self_more _
negated_more stuck = stuck

pub either_more : (b : Bool) {r q s z : Evaluated} → More r q → More s z → More (if b then r else s) (if b then q else z)
either_more true h g = h
either_more false h g = g

arm_more : (x : Option ℕ) {r q s z : Evaluated} → More r q → More s z → More (arm_of x r s) (arm_of x q z)
unfolding arm_of
arm_more (Some w) h g = either_more (is_true w) h g
arm_more None h g = stuck

chosen_more : {c d r q s z : Evaluated} → More c d → More r q → More s z → More (chosen c r s) (chosen d q z)
unfolding chosen
chosen_more (same {v} {u}) h g = after_more u (arm_more _ h g)
chosen_more stuck h g = stuck

lifted_more : {r q : Evaluated} → More r q → More (lifted r) (lifted q)
unfolding lifted
lifted_more same = self_more _
lifted_more stuck = stuck

take_arm_more : (o : Opened) {r q : Evaluated} (f g : Value → Evaluated) → More r q → ((v : Value) → More (f v) (g v))
    → More (take_arm o r f) (take_arm o q g)
unfolding take_arm
take_arm_more (Here v) f g h k = k v
take_arm_more Gone f g h k = h
take_arm_more Amiss f g h k = stuck

taken_more : {c d r q : Evaluated} (f g : Value → Evaluated) → More c d → More r q → ((v : Value) → More (f v) (g v))
    → More (taken c r f) (taken d q g)
unfolding taken
taken_more f g (same {v} {u}) h k = after_more u (take_arm_more (opened v) f g h k)
taken_more f g stuck h k = stuck

-- A value in both, or none in the first.
abbrev pub Looks : ℕ → ℕ → Type 0
Looks a b = (a ≡ 0) ⊎ (a ≡ b)

set_looks : (l l₁ : List ℕ) → length l ≡ length l₁ → ((n : ℕ) → Looks (get_or l n 0) (get_or l₁ n 0)) → (i x j : ℕ)
    → Looks (get_or (set l i x) j 0) (get_or (set l₁ i x) j 0)
set_looks [] l₁ e h i x j = inl refl
set_looks (a ∷ l) [] e h i x j = absurd (omega arith)
set_looks (a ∷ l) (b ∷ l₁) e h zero x zero = inr refl
set_looks (a ∷ l) (b ∷ l₁) e h zero x (suc j) = h (suc j)
set_looks (a ∷ l) (b ∷ l₁) e h (suc i) x zero = h zero
set_looks (a ∷ l) (b ∷ l₁) e h (suc i) x (suc j) = set_looks l l₁ (omega arith) (λ n. h (suc n)) i x j

-- What is bound in the first environment is bound so in the second.
pub record Under (env env₁ : Env) : Type 0 where
  pub long : length env ≡ length env₁
  pub under : (n : ℕ) → Looks (get_or env n 0) (get_or env₁ n 0)

pub under_self : (env : Env) → Under env env
under_self env = record { long = refl; under = λ n. inr refl }

pub under_bind : {env env₁ : Env} (n : ℕ) (v : Value) → Under env env₁ → Under (bind env n v) (bind env₁ n v)
unfolding bind
under_bind {env} {env₁} n v h = record {
  long = length-set env n _ ∙ h.long ∙ sym (length-set env₁ n _);
  under = λ j. set_looks env env₁ h.long h.under n _ j;
}

-- One variable more.
pub under_own : (env : Env) (n : ℕ) (v : Value) → get_or env n 0 ≡ 0 → Under env (bind env n v)
unfolding bind
under_own env n v e = record { long = sym (length-set env n _); under = λ j. go j (ℕ_discrete j n) }
  where
    go : (j : ℕ) → Dec (j ≡ n) → Looks (get_or env j 0) (get_or (set env n (packed v)) j 0)
    go j (yes q) = inl (ap (λ (i : ℕ). get_or env i 0) q ∙ e)
    go j (no q) = inr (sym (get_or-set_other env n j (packed v) 0 q))

look_more : {env env₁ : Env} → Under env env₁ → (b : ℕ) → More (look env b) (look env₁ b)
unfolding look
look_more {env} {env₁} h b = go (h.under b)
  where
    go : {a c : ℕ} → Looks a c → More (if eqb a 0 then Stuck else give (unpacked a)) (if eqb c 0 then Stuck else give (unpacked c))
    go {a} {c} (inl z) = rw z stuck
    go {a} {c} (inr z) = rw z (self_more _)

-- One of two parts, by the content of a cell.
clear_more : (c c₁ : ℕ) → c₁ ≡ c → {r q : Evaluated} (f g : ℕ → Evaluated) → More r q → ((x : ℕ) → More (f x) (g x))
    → More (if eqb c 0 then r else f c) (if eqb c₁ 0 then q else g c₁)
clear_more c c₁ e f g h k = rw e (either_more (eqb c 0) h (k c))

pub eval_e_more : (e : Expr) (env env₁ : Env) → Under env env₁ → More (eval_e env e) (eval_e env₁ e)
unfolding eval_e
eval_e_more (variable n b t) env env₁ h = rule_more (look_more h b)
eval_e_more (constant n v) env env₁ h = self_more _
eval_e_more (operation n k x y) env env₁ h = rule_more (operated_more k (eval_e_more x env env₁ h) (eval_e_more y env env₁ h))
eval_e_more (negation n x) env env₁ h = rule_more (negated_more (eval_e_more x env env₁ h))
eval_e_more (choice n test x y) env env₁ h =
    rule_more (chosen_more (eval_e_more test env env₁ h) (eval_e_more x env env₁ h) (eval_e_more y env env₁ h))
eval_e_more (just n x) env env₁ h = rule_more (lifted_more (eval_e_more x env env₁ h))
eval_e_more (taking n t m x y) env env₁ h =
    rule_more (taken_more _ _ (eval_e_more m env env₁ h) (eval_e_more x env env₁ h) λ v. eval_e_more y _ _ (under_bind n v h))

held_more : (st st₁ : Bytes) (k : ℕ) → cell st₁ k ≡ cell st k → More (give (held st k)) (give (held st₁ k))
unfolding held
held_more st st₁ k e = rw e (self_more _)

module _ (rec st st₁ : Bytes) where
  mutual
    unfolding eval_s times_s held is_clear branch_in

    pub eval_s_more : (s : Signal) → Agree (λ k. times_s k s) st st₁ → (env env₁ : Env) → Under env env₁ → More (eval_s rec st env s) (eval_s rec st₁ env₁ s)
    eval_s_more (input n c) a env env₁ h = self_more _
    eval_s_more (time n) a env env₁ h = self_more _
    eval_s_more (ext n e) a env env₁ h = rule_more (eval_e_more e env env₁ h)
    eval_s_more (delay n k v s) a env env₁ h = rule_more (held_more st st₁ k (a.same k (omega (arith, cell_itself k))))
    eval_s_more (let_signal n t d b) a env env₁ h =
        rule_more (then_more _ _ (eval_s_more d (agree_part (λ j. omega arith) a) env env₁ h) λ v.
        eval_s_more b (agree_part (λ j. omega arith) a) _ _ (under_bind n v h))
    eval_s_more (switch n k t x e y) a env env₁ h =
        rule_more (clear_more (cell st k) (cell st₁ k) (a.same k (omega (arith, cell_itself k)))
        (λ c. eval_s rec st (bind env n (unpacked c)) y) (λ c. eval_s rec st₁ (bind env₁ n (unpacked c)) y)
        (eval_s_more x (agree_part (λ j. omega arith) a) env env₁ h) λ c.
        eval_s_more y (agree_part (λ j. omega arith) a) _ _ (under_bind n _ h))
    eval_s_more (group n k body brs) a env env₁ h =
        rule_more (clear_more (cell st k) (cell st₁ k) (a.same k (omega (arith, cell_itself k)))
        (λ c. eval_b rec st env (middle_in c) (unpacked c) brs) (λ c. eval_b rec st₁ env₁ (middle_in c) (unpacked c) brs)
        (eval_s_more body (agree_part (λ j. omega arith) a) env env₁ h) λ c.
        eval_b_more brs (agree_part (λ j. omega arith) a) env env₁ h _ _)
    eval_s_more (until n s cs) a env env₁ h = rule_more (eval_s_more s (agree_part (λ j. omega arith) a) env env₁ h)

    pub eval_b_more : (brs : Branches) → Agree (λ k. times_b k brs) st st₁ → (env env₁ : Env) → Under env env₁ → (which : ℕ) (v : Value)
        → More (eval_b rec st env which v brs) (eval_b rec st₁ env₁ which v brs)
    eval_b_more no_branch a env env₁ h which v = stuck
    eval_b_more (branch n t body next) a env env₁ h which v =
        either_more (eqb n which) (eval_s_more body (agree_part (λ j. omega arith) a) _ _ (under_bind n v h))
        (eval_b_more next (agree_part (λ j. omega arith) a) env env₁ h which v)
