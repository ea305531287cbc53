-- The work of an evaluation and of an update is at most the bound, whatever the environment, the record and the state.
-- Assumes nothing.
use Rattle.std.specs.Prelude.{if◌then◌else◌, Option, Some, None, ℕ}
use mathlib.Core.Bool.{Bool, true, false}
use Prim.Native.Nat.{ℕ, ◌+◌, ◌≤◌, max}
use native.Mathlib.Nat.{le_refl}
use native.Mathlib.Omega.{arith}
use lib.Dec.{eqb}
use lib.ListN.{get_or}
use Rattle.rules.specs.Bytes.{Bytes}
use Rattle.rules.specs.Scope.{has_branch}
use Rattle.rules.specs.Layout.{is_clear, held, branch_in}
use Rattle.rules.specs.Values.{maybe_of, is_plain, unpacked}
use Rattle.rules.specs.Work.{nothing, noted, one_rule, ◌plus◌, give, after, rule, ◌then◌, Updated, Next, Jump, Halted, stays, leave, afterᵘ, ruleᵘ, ◌with◌, ◌thenᵘ◌}
use Rattle.rules.specs.Tree.{Expr, variable, constant, operation, negation, choice, just, taking, Signal, input, time, ext, delay, let_signal, switch, group, until, Branches, no_branch, branch, Cases, no_case, case}
use Rattle.rules.specs.Operations.{is_true}
use Rattle.rules.specs.Evaluate.{Env, bind, look, opened, meant, on_words, operate, operated, not_of, negated, arm_of, chosen, just_of, lifted, take_arm, taken, eval_e, eval_s, eval_b}
use Rattle.rules.specs.Update.{laterᵒ, occurs_if, occurs, first_present, on_occurrence, caught, on_event, upd_s, upd_b, upd_c}
use Rattle.rules.specs.Bound.{bound_e, bound_s, bound_sb, bound_sc, bound_u, bound_ub, bound_uc}
use Rattle.rules.specs.declared.Value.{Value}
use Rattle.rules.specs.declared.Value.TheVariants.{Plain, Absent, Present}
use Rattle.rules.specs.declared.Tally.{Tally}
use Rattle.rules.specs.Opened.{Opened, Here, Gone, Amiss}
use Rattle.rules.specs.Evaluated.{Evaluated, Done, Stuck}
use Rattle.rules.specs.Occurrence.{Occurrence, Took, Quiet}

-- an outcome's work is at most b
abbrev pub AtMost : Evaluated → ℕ → Type 0
AtMost (Done v w) b = w.work ≤ b
AtMost Stuck b = Unit {0}

pub record Within (r : Evaluated) (b : ℕ) : Type 0 where
  pub most : AtMost r b

free : {b : ℕ} → Within Stuck b
free = record { most = tt }

wider : (r : Evaluated) {b c : ℕ} → Within r b → b ≤ c → Within r c
wider (Done v w) h g = omega arith
wider Stuck h g = free

after_within : (u : Tally) (r : Evaluated) {b : ℕ} → Within r b → Within (after u r) (u.work + b)
unfolding after ◌plus◌
after_within u (Done v w) h = omega arith
after_within u Stuck h = free

rule_within : (r : Evaluated) {b : ℕ} → Within r b → Within (rule r) (1 + b)
unfolding rule one_rule
rule_within r h = after_within one_rule r h

give_within : (v : Value) → Within (give v) 0
unfolding give nothing
give_within v = record { most = le_refl 0 }

if_within : (t : Bool) (r s : Evaluated) {b : ℕ} → Within r b → Within s b → Within (if t then r else s) b
if_within true r s h g = h
if_within false r s h g = g

either : (t : Bool) (r s : Evaluated) {b c : ℕ} → Within r b → Within s c → Within (if t then r else s) (max b c)
either true r s h g = wider r h (omega arith)
either false r s h g = wider s g (omega arith)

-- by a value with no work of its own
done_within : (u : Tally) (r : Evaluated) {b : ℕ} → u.work ≤ b → Within r 0 → Within (after u r) b
done_within u r h g = wider (after u r) (after_within u r g) (omega arith)

then_within : (r : Evaluated) (f : Value → Evaluated) {b c : ℕ} → Within r b → ((v : Value) → Within (f v) c) → Within (r then f) (b + c)
unfolding ◌then◌
then_within (Done v u) f h g = wider (after u (f v)) (after_within u (f v) (g v)) (omega arith)
then_within Stuck f h g = free

look_within : (env : Env) (n : ℕ) → Within (look env n) 0
unfolding look
look_within env n = if_within (eqb (get_or env n 0) 0) Stuck (give (unpacked (get_or env n 0))) free (give_within _)

meant_within : (k x y : ℕ) → Within (meant k x y) 0
unfolding meant noted
meant_within k x y = record { most = le_refl 0 }

on_words_within : (f : ℕ → ℕ → Evaluated) (x y : Option ℕ) → ((a b : ℕ) → Within (f a b) 0) → Within (on_words f x y) 0
unfolding on_words
on_words_within f (Some x) (Some y) h = h x y
on_words_within f (Some x) None h = free
on_words_within f None y h = free

operate_within : (k : ℕ) (u v : Value) → Within (operate k u v) 0
unfolding operate
operate_within k u v = on_words_within _ _ _ (meant_within k)

operated_within : (k : ℕ) (r s : Evaluated) {b c : ℕ} → Within r b → Within s c → Within (operated k r s) (b + c)
unfolding operated ◌plus◌
operated_within k (Done u x) (Done v y) h g = done_within (x plus y) (operate k u v) (omega arith) (operate_within k u v)
operated_within k (Done u x) Stuck h g = free
operated_within k Stuck s h g = free

not_of_within : (w : Option ℕ) → Within (not_of w) 0
unfolding not_of
not_of_within (Some w) = give_within _
not_of_within None = free

negated_within : (r : Evaluated) {b : ℕ} → Within r b → Within (negated r) b
unfolding negated
negated_within (Done u x) h = done_within x _ h.most (not_of_within _)
negated_within Stuck h = free

arm_of_within : (w : Option ℕ) (r s : Evaluated) {b c : ℕ} → Within r b → Within s c → Within (arm_of w r s) (max b c)
unfolding arm_of
arm_of_within (Some w) r s h g = if_within (is_true w) r s (wider r h (omega arith)) (wider s g (omega arith))
arm_of_within None r s h g = free

chosen_within : (q r s : Evaluated) {a b c : ℕ} → Within q a → Within r b → Within s c → Within (chosen q r s) (a + max b c)
unfolding chosen
chosen_within (Done u x) r s e h g = wider (after x _) (after_within x _ (arm_of_within _ r s h g)) (omega arith)
chosen_within Stuck r s e h g = free

just_of_within : (v : Value) → Within (just_of v) 0
unfolding just_of
just_of_within (Plain t w) = go (is_plain t)
  where
    go : (b : Bool) → Within (if b then give (Present (maybe_of t) w) else Stuck) 0
    go true = give_within _
    go false = free
just_of_within (Absent t) = free
just_of_within (Present t w) = free

lifted_within : (r : Evaluated) {b : ℕ} → Within r b → Within (lifted r) b
unfolding lifted
lifted_within (Done u x) h = done_within x _ h.most (just_of_within u)
lifted_within Stuck h = free

take_arm_within : (o : Opened) (r : Evaluated) (f : Value → Evaluated) {b c : ℕ} → Within r b → ((v : Value) → Within (f v) c)
    → Within (take_arm o r f) (max b c)
unfolding take_arm
take_arm_within (Here v) r f h g = wider (f v) (g v) (omega arith)
take_arm_within Gone r f h g = wider r h (omega arith)
take_arm_within Amiss r f h g = free

taken_within : (q r : Evaluated) (f : Value → Evaluated) {a b c : ℕ} → Within q a → Within r b → ((v : Value) → Within (f v) c)
    → Within (taken q r f) (a + max b c)
unfolding taken
taken_within (Done u x) r f e h g = wider (after x _) (after_within x _ (take_arm_within _ r f h g)) (omega arith)
taken_within Stuck r f e h g = free

-- expressions
pub eval_e_within : (env : Env) (e : Expr) → Within (eval_e env e) (bound_e e)
unfolding eval_e bound_e
eval_e_within env (variable n binder t) = rule_within _ (look_within env binder)
eval_e_within env (constant n v) = rule_within _ (give_within v)
eval_e_within env (operation n k x y) = rule_within _ (operated_within k _ _ (eval_e_within env x) (eval_e_within env y))
eval_e_within env (negation n x) = rule_within _ (negated_within _ (eval_e_within env x))
eval_e_within env (choice n test x y) =
    rule_within _ (chosen_within _ _ _ (eval_e_within env test) (eval_e_within env x) (eval_e_within env y))
eval_e_within env (just n x) = rule_within _ (lifted_within _ (eval_e_within env x))
eval_e_within env (taking n t m x y) =
    rule_within _ (taken_within _ _ _ (eval_e_within env m) (eval_e_within env x) λ v. eval_e_within (bind env n v) y)

-- signals
mutual
  unfolding eval_s bound_s

  pub eval_s_within : (rec st : Bytes) (env : Env) (s : Signal) → Within (eval_s rec st env s) (bound_s s)
  eval_s_within rec st env (input n c) = rule_within _ (give_within _)
  eval_s_within rec st env (time n) = rule_within _ (give_within _)
  eval_s_within rec st env (ext n e) = rule_within _ (eval_e_within env e)
  eval_s_within rec st env (delay n k v s) = rule_within _ (give_within _)
  eval_s_within rec st env (let_signal n t d b) =
      rule_within _ (then_within _ _ (eval_s_within rec st env d) λ v. eval_s_within rec st (bind env n v) b)
  eval_s_within rec st env (switch n k t x e y) =
      rule_within _ (either (is_clear st k) _ _ (eval_s_within rec st env x) (eval_s_within rec st (bind env n (held st k)) y))
  eval_s_within rec st env (group n k body brs) =
      rule_within _
      (either (is_clear st k) _ _ (eval_s_within rec st env body) (eval_b_within rec st env (branch_in st k) (held st k) brs))
  eval_s_within rec st env (until n s cs) = rule_within _ (eval_s_within rec st env s)

  pub eval_b_within : (rec st : Bytes) (env : Env) (which : ℕ) (v : Value) (brs : Branches)
      → Within (eval_b rec st env which v brs) (bound_sb brs)
  eval_b_within rec st env which v no_branch = free
  eval_b_within rec st env which v (branch n t body next) =
      either (eqb n which) _ _ (eval_s_within rec st (bind env n v) body) (eval_b_within rec st env which v next)

-- the events of an until
abbrev pub AtMostᵒ : Occurrence → ℕ → Type 0
AtMostᵒ (Took target v w) b = w.work ≤ b
AtMostᵒ (Quiet w) b = w.work ≤ b
AtMostᵒ Occurrence.Stuck b = Unit {0}

pub record Withinᵒ (o : Occurrence) (b : ℕ) : Type 0 where
  pub most : AtMostᵒ o b

later_within : (u : Tally) (o : Occurrence) {b c : ℕ} → u.work ≤ b → Withinᵒ o c → Withinᵒ (laterᵒ u o) (b + c)
unfolding laterᵒ ◌plus◌
later_within u (Took target v w) h g = record { most = omega (arith, g.most) }
later_within u (Quiet w) h g = record { most = omega (arith, g.most) }
later_within u Occurrence.Stuck h g = record { most = tt }

occurs_if_within : (o : Opened) (u : Tally) (target : ℕ) (rest : Occurrence) {b c : ℕ} → u.work ≤ b → Withinᵒ rest c
    → Withinᵒ (occurs_if o u target rest) (b + c)
unfolding occurs_if
occurs_if_within (Here v) u target rest h g = record { most = omega arith }
occurs_if_within Gone u target rest h g = later_within u rest h g
occurs_if_within Amiss u target rest h g = record { most = tt }

pub occurs_within : (r : Evaluated) (target : ℕ) (rest : Occurrence) {b c : ℕ} → Within r b → Withinᵒ rest c
    → Withinᵒ (occurs r target rest) (b + c)
unfolding occurs
occurs_within (Done v u) target rest h g = occurs_if_within _ u target rest h.most g
occurs_within Stuck target rest h g = record { most = tt }

first_present_within : (rec st : Bytes) (env : Env) (cs : Cases) → Withinᵒ (first_present rec st env cs) (bound_sc cs)
unfolding first_present bound_sc nothing
first_present_within rec st env no_case = record { most = le_refl 0 }
first_present_within rec st env (case n event target t next) =
    occurs_within _ target _ (eval_s_within rec st env event) (first_present_within rec st env next)

-- updates
abbrev pub AtMostᵘ : Updated → ℕ → Type 0
AtMostᵘ (Next st w) b = w.work ≤ b
AtMostᵘ (Jump target v st w) b = w.work ≤ b
AtMostᵘ Halted b = Unit {0}

pub record Withinᵘ (r : Updated) (b : ℕ) : Type 0 where
  pub most : AtMostᵘ r b

pub freeᵘ : {b : ℕ} → Withinᵘ Halted b
freeᵘ = record { most = tt }

pub widerᵘ : (r : Updated) {b c : ℕ} → Withinᵘ r b → b ≤ c → Withinᵘ r c
widerᵘ (Next st w) h g = record { most = omega (arith, h.most) }
widerᵘ (Jump target v st w) h g = record { most = omega (arith, h.most) }
widerᵘ Halted h g = freeᵘ

after_withinᵘ : (u : Tally) (r : Updated) {b c : ℕ} → u.work ≤ b → Withinᵘ r c → Withinᵘ (afterᵘ u r) (b + c)
unfolding afterᵘ ◌plus◌
after_withinᵘ u (Next st w) h g = record { most = omega (arith, g.most) }
after_withinᵘ u (Jump target v st w) h g = record { most = omega (arith, g.most) }
after_withinᵘ u Halted h g = freeᵘ

pub rule_withinᵘ : (r : Updated) {b : ℕ} → Withinᵘ r b → Withinᵘ (ruleᵘ r) (1 + b)
unfolding ruleᵘ one_rule
rule_withinᵘ r h = after_withinᵘ one_rule r (le_refl 1) h

pub leave_within : (st : Bytes) {b : ℕ} → Withinᵘ (leave st) b
unfolding leave nothing
leave_within st = record { most = omega arith }

pub with_within : (r : Evaluated) (f : Value → Updated) {b c : ℕ} → Within r b → ((v : Value) → Withinᵘ (f v) c) → Withinᵘ (r with f) (b + c)
unfolding ◌with◌
with_within (Done v u) f h g = after_withinᵘ u (f v) h.most (g v)
with_within Stuck f h g = freeᵘ

pub then_withinᵘ : (r : Updated) (f : Bytes → Updated) {b c : ℕ} → Withinᵘ r b → ((st : Bytes) → Withinᵘ (f st) c) → Withinᵘ (r thenᵘ f) (b + c)
unfolding ◌thenᵘ◌
then_withinᵘ (Next st u) f h g = after_withinᵘ u (f st) h.most (g st)
then_withinᵘ (Jump target v st u) f h g = freeᵘ
then_withinᵘ Halted f h g = freeᵘ

pub stays_within : (r : Updated) {b : ℕ} → Withinᵘ r b → Withinᵘ (stays r) b
unfolding stays
stays_within (Next st w) h = h
stays_within (Jump target v st w) h = freeᵘ
stays_within Halted h = freeᵘ

pub eitherᵘ : (t : Bool) (r s : Updated) {b : ℕ} → Withinᵘ r b → Withinᵘ s b → Withinᵘ (if t then r else s) b
eitherᵘ true r s h g = h
eitherᵘ false r s h g = g

pub on_occurrence_within : (o : Occurrence) (st : Bytes) (q : Updated) {b c : ℕ} → Withinᵒ o b → Withinᵘ q c → Withinᵘ (on_occurrence o st q) (b + c)
unfolding on_occurrence
on_occurrence_within (Took target v u) st q h e = record { most = omega (arith, h.most) }
on_occurrence_within (Quiet u) st q h e = after_withinᵘ u q h.most e
on_occurrence_within Occurrence.Stuck st q h e = freeᵘ

caught_within : (k : ℕ) (body : Signal) (brs : Branches) (r : Updated) {b : ℕ} → Withinᵘ r b → Withinᵘ (caught k body brs r) b
unfolding caught
caught_within k body brs (Next st w) h = h
caught_within k body brs (Jump target v st w) h = eitherᵘ (has_branch target brs) _ _ (record { most = h.most }) h
caught_within k body brs Halted h = freeᵘ

pub on_event_within : (o : Opened) (f : Value → Updated) (q : Updated) {c : ℕ} → ((v : Value) → Withinᵘ (f v) c) → Withinᵘ q c
    → Withinᵘ (on_event o f q) c
unfolding on_event
on_event_within (Here v) f q g e = g v
on_event_within Gone f q g e = e
on_event_within Amiss f q g e = freeᵘ

-- a part's update, whatever the environment and the state
abbrev Part : Bytes → Signal → ℕ → Type 0
Part rec s b = (env : Env) (st : Bytes) → Withinᵘ (upd_s rec env s st) b

-- by one of two parts, neither of which has a bound above the whole's
parts_within : (rec : Bytes) (x y : Signal) (r : Updated) {a b c : ℕ} → Part rec x a → Part rec y b → a ≤ c → b ≤ c
    → (Part rec x c → Part rec y c → Withinᵘ r c) → Withinᵘ r c
parts_within rec x y r h g l k f = f (λ env st. widerᵘ _ (h env st) l) λ env st. widerᵘ _ (g env st) k

mutual
  unfolding upd_s bound_u bound_sc

  pub upd_s_within : (rec : Bytes) (env : Env) (s : Signal) (st : Bytes) → Withinᵘ (upd_s rec env s st) (bound_u s)
  upd_s_within rec env (input n c) st = rule_withinᵘ _ {b = 0} (leave_within st)
  upd_s_within rec env (time n) st = rule_withinᵘ _ {b = 0} (leave_within st)
  upd_s_within rec env (ext n e) st = rule_withinᵘ _ {b = 0} (leave_within st)
  upd_s_within rec env (delay n k v s) st =
      rule_withinᵘ _ (with_within _ _ (eval_s_within rec _ _ s) λ w.
      widerᵘ _ (then_withinᵘ _ _ (upd_s_within rec _ s _) λ st₁. leave_within _ {b = 0}) (omega arith))
  upd_s_within rec env (let_signal n t d b) st =
      rule_withinᵘ _ (with_within _ _ (eval_s_within rec _ _ d) λ v.
      then_withinᵘ _ _ (upd_s_within rec _ d _) λ st₁. upd_s_within rec _ b _)
  upd_s_within rec env (switch n k t x e y) st =
      rule_withinᵘ _ (with_within _ _ (eval_s_within rec _ _ e) λ event.
      then_withinᵘ _ _ (upd_s_within rec _ e _) λ st₁.
      on_event_within (opened event) _ _ (λ v. leave_within _)
      (stays_within _ (parts_within rec x y _ (λ env₁ st₂. upd_s_within rec env₁ x st₂) (λ env₁ st₂. upd_s_within rec env₁ y st₂)
      (omega arith) (omega arith) λ first second. eitherᵘ (is_clear st₁ k) _ _ (search) (search))))
  upd_s_within rec env (group n k body brs) st =
      rule_withinᵘ _
      (caught_within k body brs _ (eitherᵘ (is_clear st k) _ _
      (widerᵘ _ (upd_s_within rec _ body _) (omega arith)) (widerᵘ _ (upd_b_within rec _ _ _ brs _) (omega arith))))
  upd_s_within rec env (until n s cs) st =
      rule_withinᵘ _ (on_occurrence_within _ st _ (first_present_within rec st env cs)
      (then_withinᵘ _ _ (upd_c_within rec env cs st) λ st₁. stays_within _ (upd_s_within rec env s st₁)))

  pub upd_b_within : (rec : Bytes) (env : Env) (which : ℕ) (v : Value) (brs : Branches) (st : Bytes)
      → Withinᵘ (upd_b rec env which v brs st) (bound_ub brs)
  upd_b_within rec env which v no_branch st = freeᵘ
  upd_b_within rec env which v (branch n t body next) st =
      eitherᵘ (eqb n which) _ _
      (widerᵘ _ (upd_s_within rec _ body _) (omega arith)) (widerᵘ _ (upd_b_within rec env which v next st) (omega arith))

  pub upd_c_within : (rec : Bytes) (env : Env) (cs : Cases) (st : Bytes)
      → Withinᵘ (upd_c rec env cs st) (bound_uc cs)
  upd_c_within rec env no_case st = leave_within st
  upd_c_within rec env (case n event target t next) st =
      widerᵘ _ (then_withinᵘ _ _ (upd_c_within rec env next st) λ st₁. stays_within _ (upd_s_within rec env event st₁)) (omega arith)
