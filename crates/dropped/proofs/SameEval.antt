-- An evaluation of the new tree gives the value of the old one, wherever the old one gives a value.
-- Assumes nothing.
use Rattle.std.specs.Prelude.{if◌then◌else◌, Option, Some, None, ℕ}
use mathlib.Core.Path.{◌≡◌, refl, sym, ap, ◌∙◌}
use mathlib.Core.Logic.{◌≢◌, ◌⊎◌, inl, inr}
use mathlib.Core.List.{[], ◌∷◌}
use mathlib.Core.Bool.{Bool, true, false}
use Prim.Native.Nat.{ℕ, ◌<◌}
use native.Mathlib.Decide.{ℕ_discrete}
use native.Mathlib.Omega.{arith}
use lib.Dec.{eqb}
use lib.ListN.{length, get_or, set}
use lib.Seq.{get_or-set_same, get_or-set_other}
use borrow.Author.Tests.{eq-eqb, eqb-true, ne_eqb}
use Rattle.rules.specs.Bytes.{Bytes, ◌or◌}
use Rattle.rules.specs.Values.{packed, unpacked}
use Rattle.rules.specs.Layout.{cell, held, is_clear, branch_in}
use Rattle.rules.specs.Operations.{is_true}
use Rattle.rules.specs.Work.{◌plus◌, give, after, rule, one_rule, ◌then◌}
use Rattle.rules.specs.Tree.{Expr, Signal, Branches, no_branch, branch}
use Rattle.rules.specs.Scope.{Marks, mark, is_marked, Offers, has_branch, onward, scope_e, scope_s, scope_b}
use Rattle.rules.specs.Evaluate.{Env, bind, look, opened, operate, operated, negated, chosen, arm_of, lifted, taken, take_arm, eval_e, eval_s, eval_b}
use Rattle.rules.specs.declared.Value.{Value}
use Rattle.rules.specs.declared.Tally.{Tally}
use Rattle.rules.specs.Opened.{Opened, Here, Gone, Amiss}
use Rattle.rules.specs.Evaluated.{Evaluated, Done, Stuck}
use Rattle.rules.proofs.Static.{both, holds, not_both, or_left, or_right}
use Rattle.promises.specs.Sits.{SitsE, SitsS, SitsB}
use Rattle.promises.proofs.ValidLaws.{or_cases}
use Rattle.promises.proofs.SoundE.{mark_other, bind_length}
use Rattle.dropped.specs.Less.{LessE, variables, constants, operations, negations, choices, justs, takings, LessS, inputs, times, exts, delays, lets, dropped, switches, groups, untils, LessB, no_branches, branches}
use Rattle.dropped.specs.Falls.{FallsE, FallsS, FallsB}
use Rattle.dropped.specs.Alike.{GroupCell, in_body, in_branch, AlikeS, AlikeB, Bound, Envs}

-- Wherever the old outcome is a value, the new one is that value.
pub data SameE : Evaluated → Evaluated → Type 0 where
  done : {v : Value} {u w : Tally} → SameE (Done v u) (Done v w)
  stuck : {r : Evaluated} → SameE Stuck r

after_same : (u w : Tally) {r q : Evaluated} → SameE r q → SameE (after u r) (after w q)
unfolding after
after_same u w done = done
after_same u w stuck = stuck

after_old : (u : Tally) {r q : Evaluated} → SameE r q → SameE (after u r) q
unfolding after
after_old u done = done
after_old u stuck = stuck

rule_same : {r q : Evaluated} → SameE r q → SameE (rule r) (rule q)
unfolding rule
rule_same h = after_same one_rule one_rule h

self_same : (r : Evaluated) → SameE r r
self_same (Done v u) = done
self_same Stuck = stuck

then_same : {r q : Evaluated} (f g : Value → Evaluated) → SameE r q → ((v : Value) → SameE (f v) (g v)) → SameE (r then f) (q then g)
unfolding ◌then◌
then_same f g (done {v} {u} {w}) h = after_same u w (h v)
then_same f g stuck h = stuck

-- A let that is dropped.
drop_same : (r : Evaluated) (f : Value → Evaluated) {q : Evaluated} → ((v : Value) → SameE (f v) q) → SameE (rule (r then f)) q
unfolding rule ◌then◌ after
drop_same (Done v u) f h = after_old one_rule (after_old u (h v))
drop_same Stuck f h = stuck

operated_same : (k : ℕ) {r q s z : Evaluated} → SameE r q → SameE s z → SameE (operated k r s) (operated k q z)
unfolding operated
operated_same k (done {v} {u} {w}) (done {v = v₁} {u = u₁} {w = w₁}) = after_same (u plus u₁) (w plus w₁) (self_same (operate k v v₁))
operated_same k done stuck = stuck
operated_same k stuck h = stuck

negated_same : {r q : Evaluated} → SameE r q → SameE (negated r) (negated q)
unfolding negated
negated_same (done {v} {u} {w}) = after_same u w (self_same _)
negated_same stuck = stuck

pub either_same : (b : Bool) {r q s z : Evaluated} → SameE r q → SameE s z → SameE (if b then r else s) (if b then q else z)
either_same true h g = h
either_same false h g = g

arm_same : (x : Option ℕ) {r q s z : Evaluated} → SameE r q → SameE s z → SameE (arm_of x r s) (arm_of x q z)
unfolding arm_of
arm_same (Some w) h g = either_same (is_true w) h g
arm_same None h g = stuck

chosen_same : {c d r q s z : Evaluated} → SameE c d → SameE r q → SameE s z → SameE (chosen c r s) (chosen d q z)
unfolding chosen
chosen_same (done {v} {u} {w}) h g = after_same u w (arm_same _ h g)
chosen_same stuck h g = stuck

lifted_same : {r q : Evaluated} → SameE r q → SameE (lifted r) (lifted q)
unfolding lifted
lifted_same (done {v} {u} {w}) = after_same u w (self_same _)
lifted_same stuck = stuck

take_arm_same : (o : Opened) {r q : Evaluated} (f g : Value → Evaluated) → SameE r q → ((v : Value) → SameE (f v) (g v))
    → SameE (take_arm o r f) (take_arm o q g)
unfolding take_arm
take_arm_same (Here v) f g h k = k v
take_arm_same Gone f g h k = h
take_arm_same Amiss f g h k = stuck

taken_same : {c d r q : Evaluated} (f g : Value → Evaluated) → SameE c d → SameE r q → ((v : Value) → SameE (f v) (g v))
    → SameE (taken c r f) (taken d q g)
unfolding taken
taken_same f g (done {v} {u} {w}) h k = after_same u w (take_arm_same (opened v) f g h k)
taken_same f g stuck h k = stuck

-- What is in scope, further down.
pub envs_below : {π : ℕ → ℕ} {m n : ℕ} {Γ : Marks} {env env' : Env} → n < m → Envs π m Γ env env' → Envs π n Γ env env'
envs_below l h = record {
  fresh = λ j i. h.fresh j (omega arith);
  bound = λ x i. record { above = omega (arith, (h.bound x i).above); same = (h.bound x i).same };
}

-- A value in both, or none in the old.
abbrev Looks : ℕ → ℕ → Type 0
Looks a b = (a ≡ 0) ⊎ (a ≡ b)

looks_so : {a b c d : ℕ} → c ≡ a → d ≡ b → Looks a b → Looks c d
looks_so e f (inl z) = inl (e ∙ z)
looks_so e f (inr z) = inr (e ∙ z ∙ sym f)

module _ {π : ℕ → ℕ} {m n : ℕ} (n' : ℕ) (Γ : Marks) {env env' : Env} (e : n ≡ π n') (l : n < m) (h : Envs π m Γ env env') where
  -- The own variable of a let that is kept, in its definition: it has no value yet.
  pub envs_own : Envs π n (mark Γ n') env env'
  envs_own = record { fresh = λ j i. h.fresh j (omega arith); bound = λ x i. go x i (ℕ_discrete x n') }
    where
      go : (x : ℕ) → is_marked (mark Γ n') x ≡ true → Dec (x ≡ n') → Bound π n env env' x
      go x i (yes q) =
          let at : π x ≡ n = ap π q ∙ sym e in
          record { above = omega arith; same = inl (ap (λ (j : ℕ). get_or env j 0) at ∙ h.fresh n l) }
      go x i (no q) =
          let b = h.bound x (sym (mark_other Γ n' x q) ∙ i) in
          record { above = omega (arith, b.above); same = b.same }

  -- One variable more, of a binder that is kept.
  pub envs_bind : (v : Value) → n < length env → n' < length env' → Envs π n (mark Γ n') (bind env n v) (bind env' n' v)
  unfolding bind
  envs_bind v ln ln' = record {
    fresh = λ j i. get_or-set_other env n j (packed v) 0 (let z : j ≢ n = λ y. omega arith in z) ∙ h.fresh j (omega arith);
    bound = λ x i. go x i (ℕ_discrete x n');
  }
    where
      go : (x : ℕ) → is_marked (mark Γ n') x ≡ true → Dec (x ≡ n') → Bound π n (set env n (packed v)) (set env' n' (packed v)) x
      go x i (yes q) =
          let at : π x ≡ n = ap π q ∙ sym e in
          record {
            above = omega arith;
            same = inr (ap (λ (j : ℕ). get_or (set env n (packed v)) j 0) at ∙ get_or-set_same env n (packed v) 0 ln
                ∙ sym (ap (λ (j : ℕ). get_or (set env' n' (packed v)) j 0) q ∙ get_or-set_same env' n' (packed v) 0 ln'));
          }
      go x i (no q) =
          let b = h.bound x (sym (mark_other Γ n' x q) ∙ i) in
          record {
            above = omega (arith, b.above);
            same = looks_so (get_or-set_other env n (π x) (packed v) 0 (let z : π x ≢ n = λ y. omega (arith, b.above) in z))
                (get_or-set_other env' n' x (packed v) 0 q) b.same;
          }

-- A let that is dropped binds nothing that is in scope of the new tree.
pub envs_drop : {π : ℕ → ℕ} {m n : ℕ} {Γ : Marks} {env env' : Env} (v : Value) → n < m → Envs π m Γ env env' → Envs π n Γ (bind env n v) env'
unfolding bind
envs_drop {π} {m} {n} {Γ} {env} {env'} v l h = record {
  fresh = λ j i. get_or-set_other env n j (packed v) 0 (let z : j ≢ n = λ y. omega arith in z) ∙ h.fresh j (omega arith);
  bound = λ x i.
      let b = h.bound x i in
      record {
        above = omega (arith, b.above);
        same = looks_so (get_or-set_other env n (π x) (packed v) 0 (let z : π x ≢ n = λ y. omega (arith, b.above) in z)) refl b.same;
      };
}

look_same : {π : ℕ → ℕ} {m : ℕ} {Γ : Marks} {env env' : Env} → Envs π m Γ env env' → (b x : ℕ) → b ≡ π x → is_marked Γ x ≡ true
    → SameE (look env b) (look env' x)
unfolding look
look_same {π} {env = env} {env'} h b x e i = go (looks_so (ap (λ (j : ℕ). get_or env j 0) e) refl (h.bound x i).same)
  where
    go : {a c : ℕ} → Looks a c → SameE (if eqb a 0 then Stuck else give (unpacked a)) (if eqb c 0 then Stuck else give (unpacked c))
    go {a} {c} (inl z) = rw z stuck
    go {a} {c} (inr z) = rw z (self_same _)

pub given_same : (st st' : Bytes) (k k' : ℕ) → cell st k ≡ cell st' k' → SameE (give (held st k)) (give (held st' k'))
unfolding held
given_same st st' k k' e = rw e (self_same _)

-- A switch's part.
switched_same : (st st' : Bytes) (k k' : ℕ) → cell st k ≡ cell st' k' → {r q : Evaluated} (f g : Value → Evaluated)
    → SameE r q → ((v : Value) → SameE (f v) (g v))
    → SameE (if is_clear st k then r else f (held st k)) (if is_clear st' k' then q else g (held st' k'))
unfolding is_clear held
switched_same st st' k k' e f z h g = rw e (either_same (is_clear st' k') h (g _))

-- A group's part.
grouped_same : {π : ℕ → ℕ} {st st' : Bytes} {k k' : ℕ} {brs' : Branches} → GroupCell π st st' k k' brs'
    → {r q : Evaluated} (f g : ℕ → Value → Evaluated)
    → SameE r q → ((which : ℕ) (v : Value) → has_branch which brs' ≡ true → SameE (f (π which) v) (g which v))
    → SameE (if is_clear st k then r else f (branch_in st k) (held st k)) (if is_clear st' k' then q else g (branch_in st' k') (held st' k'))
grouped_same (in_body c c') f z h g = rw (c, c') h
grouped_same (in_branch c c' e b has) f z h g = rw (c, c', e, b) (g _ _ has)

-- A branch of a list that falls is below.
pub branch_below : (brs : Branches) (m which : ℕ) → FallsB m brs → has_branch which brs ≡ true → which < m
unfolding has_branch
branch_below no_branch m which f has = absurd (not_both has)
branch_below (branch n t body next) m which f has = go (or_cases _ _ has) (branch_below next n which f.2)
  where
    go : (eqb n which ≡ true) ⊎ (has_branch which next ≡ true) → (has_branch which next ≡ true → which < n) → which < m
    go (inl e) k = let q : n ≡ which = eqb-true n which e in omega (arith, f.0)
    go (inr e) k = omega (arith, f.0, k e)

-- The old branch that a new one is paired with is in the old list.
pub has_paired : {π : ℕ → ℕ} {s s' : Branches} → LessB π s s' → (which : ℕ) → has_branch which s' ≡ true → has_branch (π which) s ≡ true
unfolding has_branch
has_paired no_branches which has = absurd (not_both has)
has_paired {π} (branches {n = n} {n' = n'} {next = next} {next' = next'} a b bs) which has = go (or_cases _ _ has) (has_paired bs which)
  where
    go : (eqb n' which ≡ true) ⊎ (has_branch which next' ≡ true) → (has_branch which next' ≡ true → has_branch (π which) next ≡ true) → (eqb n (π which) or has_branch (π which) next) ≡ true
    go (inl e) k = or_left _ _ (eq-eqb n (π which) (a ∙ ap π (eqb-true n' which e)))
    go (inr e) k = or_right _ _ (k e)

-- The branch that is named: the same one of both lists.
pub pick_same : {π : ℕ → ℕ} (n n' which : ℕ) {next next' : Branches} → n ≡ π n' → LessB π next next' → FallsB n next
    → (eqb n' which or has_branch which next') ≡ true → (A : Type 0) (R : A → A → Type 0) (r s q z : A) → R r q → (has_branch which next' ≡ true → R s z)
    → R (if eqb n (π which) then r else s) (if eqb n' which then q else z)
unfolding ◌or◌
pick_same {π} n n' which {next} {next'} e bs f has A R r s q z h g = go (eqb n' which) refl has
  where
    go : (b : Bool) → eqb n' which ≡ b → (b or has_branch which next') ≡ true → R (if eqb n (π which) then r else s) (if b then q else z)
    go true c i = rw (eq-eqb n (π which) (e ∙ ap π (eqb-true n' which c))) h
    go false c i =
        let low : π which < n = branch_below next n (π which) f (has_paired bs which i) in
        let other : eqb n (π which) ≡ false = ne_eqb n (π which) (λ y. omega arith) in
        rw other (g i)

module _ (count : ℕ) (τ τ' : ℕ → ℕ) (π : ℕ → ℕ) where
  pub eval_e_same : {e e' : Expr} → LessE π e e' → (m : ℕ) → FallsE m e → SitsE count τ e → SitsE count τ' e'
      → (Γ : Marks) → scope_e Γ e' ≡ None → (env env' : Env) → length env ≡ count → length env' ≡ count → Envs π m Γ env env'
      → SameE (eval_e env e) (eval_e env' e')
  unfolding eval_e scope_e
  eval_e_same (variables {n' = n'} {b = b} {b' = b'} a g) m f s s' Γ sc env env' l l' h =
      rule_same (look_same h b b' g (holds _ n' sc))
  eval_e_same (constants a) m f s s' Γ sc env env' l l' h = rule_same (self_same _)
  eval_e_same (operations {k = k} a x y) m f s s' Γ sc env env' l l' h =
      let z = both _ _ sc in
      let g = envs_below f.0 h in
      rule_same (operated_same k (eval_e_same x _ f.1 s.0 s'.0 Γ z.0 env env' l l' g)
      (eval_e_same y _ f.2 s.1 s'.1 Γ z.1 env env' l l' g))
  eval_e_same (negations a x) m f s s' Γ sc env env' l l' h =
      rule_same (negated_same (eval_e_same x _ f.1 s s' Γ sc env env' l l' (envs_below f.0 h)))
  eval_e_same (choices a c x y) m f s s' Γ sc env env' l l' h =
      let z = both _ _ sc in
      let z₁ = both _ _ z.1 in
      let g = envs_below f.0 h in
      rule_same (chosen_same (eval_e_same c _ f.1 s.0 s'.0 Γ z.0 env env' l l' g)
      (eval_e_same x _ f.2 s.1 s'.1 Γ z₁.0 env env' l l' g)
      (eval_e_same y _ f.3 s.2 s'.2 Γ z₁.1 env env' l l' g))
  eval_e_same (justs a x) m f s s' Γ sc env env' l l' h =
      rule_same (lifted_same (eval_e_same x _ f.1 s s' Γ sc env env' l l' (envs_below f.0 h)))
  eval_e_same (takings {n = n} {n' = n'} a x y w) m f s s' Γ sc env env' l l' h =
      let z = both _ _ sc in
      let z₁ = both _ _ z.1 in
      let g = envs_below f.0 h in
      rule_same (taken_same _ _ (eval_e_same x _ f.1 s.1 s'.1 Γ z.0 env env' l l' g)
      (eval_e_same y _ f.2 s.2 s'.2 Γ z₁.0 env env' l l' g) λ v.
      eval_e_same w _ f.3 s.3 s'.3 (mark Γ n') z₁.1 (bind env n v) (bind env' n' v) (bind_length env n v ∙ l) (bind_length env' n' v ∙ l')
      (envs_bind n' Γ a f.0 h v (rw l s.0.binds.below) (rw l' s'.0.binds.below)))

module _ (ed count cells cells' : ℕ) (τ τ' : ℕ → ℕ) (π : ℕ → ℕ) (rec st st' : Bytes) where
  mutual
    unfolding eval_s scope_s held is_clear branch_in has_branch

    pub eval_s_same : {s s' : Signal} (x : LessS π s s') → AlikeS st st' x → (m : ℕ) → FallsS m s → SitsS count cells τ s → SitsS count cells' τ' s'
        → (Γ : Marks) (Δ : Offers) → scope_s ed Γ Δ s' ≡ None → (env env' : Env) → length env ≡ count → length env' ≡ count → Envs π m Γ env env'
        → SameE (eval_s rec st env s) (eval_s rec st' env' s')
    eval_s_same (inputs a) al m f s s' Γ Δ sc env env' l l' h = rule_same (self_same _)
    eval_s_same (times a) al m f s s' Γ Δ sc env env' l l' h = rule_same (self_same _)
    eval_s_same (exts a e) al m f s s' Γ Δ sc env env' l l' h =
        rule_same (eval_e_same count τ τ' π e _ f.1 s s' Γ sc env env' l l' (envs_below f.0 h))
    eval_s_same (delays {k = k} {k' = k'} a x) al m f s s' Γ Δ sc env env' l l' h = rule_same (given_same st st' k k' al.0)
    eval_s_same (lets {n = n} {n' = n'} a d b) al m f s s' Γ Δ sc env env' l l' h =
        let z = both _ _ sc in
        rule_same (then_same _ _ (eval_s_same d al.0 _ f.1 s.1 s'.1 (mark Γ n') [] z.0 env env' l l' (envs_own n' Γ a f.0 h)) λ v.
        eval_s_same b al.1 _ f.2 s.2 s'.2 (mark Γ n') Δ z.1 (bind env n v) (bind env' n' v) (bind_length env n v ∙ l) (bind_length env' n' v ∙ l')
        (envs_bind n' Γ a f.0 h v (rw l s.0.below) (rw l' s'.0.below)))
    eval_s_same (dropped {n = n} {d = d} b) al m f s s' Γ Δ sc env env' l l' h =
        drop_same (eval_s rec st env d) _ λ v.
        eval_s_same b al _ f.2 s.2 s' Γ Δ sc (bind env n v) env' (bind_length env n v ∙ l) l' (envs_drop v f.0 h)
    eval_s_same (switches {n = n} {n' = n'} {k = k} {k' = k'} a x e y) al m f s s' Γ Δ sc env env' l l' h =
        let z = both _ _ sc in
        let z₁ = both _ _ z.1 in
        rule_same (switched_same st st' k k' al.0 _ _
        (eval_s_same x al.1 _ f.1 s.2 s'.2 Γ [] z.0 env env' l l' (envs_below f.0 h)) λ v.
        eval_s_same y al.3 _ f.3 s.4 s'.4 (mark Γ n') [] z₁.1 (bind env n v) (bind env' n' v) (bind_length env n v ∙ l) (bind_length env' n' v ∙ l')
        (envs_bind n' Γ a f.0 h v (rw l s.1.binds.below) (rw l' s'.1.binds.below)))
    eval_s_same (groups {k = k} {k' = k'} {brs = brs} {brs' = brs'} a b bs) al m f s s' Γ Δ sc env env' l l' h =
        let z = both _ _ sc in
        rule_same (grouped_same al.0 (λ which v. eval_b rec st env which v brs) (λ which v. eval_b rec st' env' which v brs')
        (eval_s_same b al.1 _ f.1 s.1 s'.1 Γ (brs' ∷ onward ed Δ) z.0 env env' l l' (envs_below f.0 h)) λ which v has.
        eval_b_same bs al.2 _ f.2 s.2 s'.2 Γ (brs' ∷ onward ed Δ) z.1 env env' l l' (envs_below f.0 h) which v has)
    eval_s_same (untils a x cs) al m f s s' Γ Δ sc env env' l l' h =
        rule_same (eval_s_same x al.0 _ f.1 s.0 s'.0 Γ [] (both _ _ sc).0 env env' l l' (envs_below f.0 h))

    pub eval_b_same : {s s' : Branches} (x : LessB π s s') → AlikeB st st' x → (m : ℕ) → FallsB m s → SitsB count cells τ s → SitsB count cells' τ' s'
        → (Γ : Marks) (Δ : Offers) → scope_b ed Γ Δ s' ≡ None → (env env' : Env) → length env ≡ count → length env' ≡ count → Envs π m Γ env env'
        → (which : ℕ) (v : Value) → has_branch which s' ≡ true
        → SameE (eval_b rec st env (π which) v s) (eval_b rec st' env' which v s')
    eval_b_same no_branches al m f s s' Γ Δ sc env env' l l' h which v has = absurd (not_both has)
    eval_b_same (branches {n = n} {n' = n'} {next = next} {next' = next'} a b bs) al m f s s' Γ Δ sc env env' l l' h which v has =
        let z = both _ _ sc in
        pick_same n n' which a bs f.2 has Evaluated SameE _ _ _ _
        (eval_s_same b al.0 _ f.1 s.2 s'.2 (mark Γ n') Δ z.0 (bind env n v) (bind env' n' v) (bind_length env n v ∙ l) (bind_length env' n' v ∙ l')
        (envs_bind n' Γ a f.0 h v (rw l s.1.binds.below) (rw l' s'.1.binds.below))) λ more.
        eval_b_same bs al.1 _ f.2 s.3 s'.3 Γ Δ z.1 env env' l l' (envs_below f.0 h) which v more
