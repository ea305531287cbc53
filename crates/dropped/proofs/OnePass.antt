-- One pass from below drops what any order of drops leaves, none is left after it, and every drop makes the tree smaller.
-- Assumes nothing.
use Rattle.std.specs.Prelude.{if◌then◌else◌}
use mathlib.Core.Path.{◌≡◌, refl, sym, ap, ◌∙◌}
use mathlib.Core.Logic.{◌⊎◌, inl, inr}
use mathlib.Core.Bool.{Bool, true, false}
use Prim.Native.Nat.{ℕ, ◌<◌, ◌≤◌}
use native.Mathlib.Nat.{le_refl}
use native.Mathlib.Omega.{arith}
use Rattle.rules.specs.Bytes.{◌or◌}
use Rattle.rules.specs.Tree.{Signal, input, time, ext, delay, let_signal, switch, group, until, Branches, no_branch, branch, Cases, no_case, case}
use Rattle.rules.specs.Size.{size_s, size_b, size_c}
use Rattle.rules.proofs.Static.{or_left, or_right, not_both}
use Rattle.promises.proofs.ValidLaws.{or_cases}
use Rattle.dropped.specs.Uses.{uses_s, uses_b, uses_c}
use Rattle.dropped.specs.Tidy.{let_over, tidy_s, tidy_b, tidy_c}
use Rattle.dropped.specs.Rule.{DropS, here, in_delay, in_definition, in_let, in_first, in_event, in_second, in_group, in_branches, in_until, in_cases, DropB, in_branch, later_branch, DropC, in_case, later_case, Some, none, one, DropsS, Tidy}

pub or_join : (a b c d : Bool) → (a ≡ true → c ≡ true) → (b ≡ true → d ≡ true) → (a or b) ≡ true → (c or d) ≡ true
or_join a b c d f g h = go (or_cases _ _ h)
  where
    go : (a ≡ true) ⊎ (b ≡ true) → (c or d) ≡ true
    go (inl e) = or_left _ _ (f e)
    go (inr e) = or_right _ _ (g e)

-- A let over parts that name no more names no more.
over_uses : (x n t : ℕ) (d b : Signal) (u v : Bool) → (uses_s x d ≡ true → u ≡ true) → (uses_s x b ≡ true → v ≡ true)
    → uses_s x (let_over n t d b) ≡ true → (u or v) ≡ true
unfolding let_over uses_s
over_uses x n t d b u v f g = go (uses_s n b)
  where
    go : (k : Bool) → uses_s x (if k then let_signal n t d b else b) ≡ true → (u or v) ≡ true
    go true h = or_join _ _ u v f g h
    go false h = or_right u v (g h)

-- What the tidied tree names, the tree names.
mutual
  unfolding uses_s tidy_s

  pub tidy_uses : (x : ℕ) (s : Signal) → uses_s x (tidy_s s) ≡ true → uses_s x s ≡ true
  tidy_uses x (input n c) h = h
  tidy_uses x (time n) h = h
  tidy_uses x (ext n e) h = h
  tidy_uses x (delay n k v s) h = tidy_uses x s h
  tidy_uses x (let_signal n t d b) h = over_uses x n t (tidy_s d) (tidy_s b) _ _ (λ z. tidy_uses x d z) (λ z. tidy_uses x b z) h
  tidy_uses x (switch n k t f e s) h =
      or_join _ _ _ _ (or_join _ _ _ _ (λ z. tidy_uses x f z) (λ z. tidy_uses x e z)) (λ z. tidy_uses x s z) h
  tidy_uses x (group n k body brs) h = or_join _ _ _ _ (λ z. tidy_uses x body z) (λ z. tidy_b_uses x brs z) h
  tidy_uses x (until n s cs) h = or_join _ _ _ _ (λ z. tidy_uses x s z) (λ z. tidy_c_uses x cs z) h

  tidy_b_uses : (x : ℕ) (brs : Branches) → uses_b x (tidy_b brs) ≡ true → uses_b x brs ≡ true
  tidy_b_uses x no_branch h = h
  tidy_b_uses x (branch n t body next) h = or_join _ _ _ _ (λ z. tidy_uses x body z) (λ z. tidy_b_uses x next z) h

  tidy_c_uses : (x : ℕ) (cs : Cases) → uses_c x (tidy_c cs) ≡ true → uses_c x cs ≡ true
  tidy_c_uses x no_case h = h
  tidy_c_uses x (case n event target t next) h = or_join _ _ _ _ (λ z. tidy_uses x event z) (λ z. tidy_c_uses x next z) h

pub to_false : (b c : Bool) → (b ≡ true → c ≡ true) → c ≡ false → b ≡ false
to_false true c f e = absurd (not_both (sym e ∙ f refl))
to_false false c f e = refl

-- A drop anywhere does not change what one pass gives.
mutual
  unfolding tidy_s let_over

  pub drop_tidy : {s s₁ : Signal} → DropS s s₁ → tidy_s s ≡ tidy_s s₁
  drop_tidy (here {n} {t} {d} {b} e) = rw (to_false (uses_s n (tidy_s b)) (uses_s n b) (tidy_uses n b) e) refl
  drop_tidy (in_delay {n} {k} {v} h) = ap (delay n k v) (drop_tidy h)
  drop_tidy (in_definition {n} {t} {b = b} h) = ap (λ d. let_over n t d (tidy_s b)) (drop_tidy h)
  drop_tidy (in_let {n} {t} {d} h) = ap (let_over n t (tidy_s d)) (drop_tidy h)
  drop_tidy (in_first {n} {k} {t} {e = e} {y = y} h) = ap (λ x. switch n k t x (tidy_s e) (tidy_s y)) (drop_tidy h)
  drop_tidy (in_event {n} {k} {t} {x = x} {y = y} h) = ap (λ e. switch n k t (tidy_s x) e (tidy_s y)) (drop_tidy h)
  drop_tidy (in_second {n} {k} {t} {x = x} {e = e} h) = ap (switch n k t (tidy_s x) (tidy_s e)) (drop_tidy h)
  drop_tidy (in_group {n} {k} {brs = brs} h) = ap (λ b. group n k b (tidy_b brs)) (drop_tidy h)
  drop_tidy (in_branches {n} {k} {b = b} h) = ap (group n k (tidy_s b)) (drop_b_tidy h)
  drop_tidy (in_until {n} {cs = cs} h) = ap (λ s. until n s (tidy_c cs)) (drop_tidy h)
  drop_tidy (in_cases {n} {s = s} h) = ap (until n (tidy_s s)) (drop_c_tidy h)

  drop_b_tidy : {s s₁ : Branches} → DropB s s₁ → tidy_b s ≡ tidy_b s₁
  drop_b_tidy (in_branch {n} {t} {brs = brs} h) = ap (λ b. branch n t b (tidy_b brs)) (drop_tidy h)
  drop_b_tidy (later_branch {n} {t} {b = b} h) = ap (branch n t (tidy_s b)) (drop_b_tidy h)

  drop_c_tidy : {s s₁ : Cases} → DropC s s₁ → tidy_c s ≡ tidy_c s₁
  drop_c_tidy (in_case {n} {target} {t} {cs = cs} h) = ap (λ e. case n e target t (tidy_c cs)) (drop_tidy h)
  drop_c_tidy (later_case {n} {target} {t} {e = e} h) = ap (case n (tidy_s e) target t) (drop_c_tidy h)

pub drops_tidy : {s s₁ : Signal} → DropsS s s₁ → tidy_s s ≡ tidy_s s₁
drops_tidy none = refl
drops_tidy (one h g) = drop_tidy h ∙ drops_tidy g

-- Every drop makes the tree smaller, so that dropping again ends.
mutual
  unfolding size_s

  pub drop_smaller : {s s₁ : Signal} → DropS s s₁ → size_s s₁ < size_s s
  drop_smaller (here e) = omega arith
  drop_smaller (in_delay h) = omega (arith, drop_smaller h)
  drop_smaller (in_definition h) = omega (arith, drop_smaller h)
  drop_smaller (in_let h) = omega (arith, drop_smaller h)
  drop_smaller (in_first h) = omega (arith, drop_smaller h)
  drop_smaller (in_event h) = omega (arith, drop_smaller h)
  drop_smaller (in_second h) = omega (arith, drop_smaller h)
  drop_smaller (in_group h) = omega (arith, drop_smaller h)
  drop_smaller (in_branches h) = omega (arith, drop_b_smaller h)
  drop_smaller (in_until h) = omega (arith, drop_smaller h)
  drop_smaller (in_cases h) = omega (arith, drop_c_smaller h)

  drop_b_smaller : {s s₁ : Branches} → DropB s s₁ → size_b s₁ < size_b s
  drop_b_smaller (in_branch h) = omega (arith, drop_smaller h)
  drop_b_smaller (later_branch h) = omega (arith, drop_b_smaller h)

  drop_c_smaller : {s s₁ : Cases} → DropC s s₁ → size_c s₁ < size_c s
  drop_c_smaller (in_case h) = omega (arith, drop_smaller h)
  drop_c_smaller (later_case h) = omega (arith, drop_c_smaller h)

pub drops_smaller : {s s₁ : Signal} → DropsS s s₁ → size_s s₁ ≤ size_s s
drops_smaller none = le_refl _
drops_smaller (one h g) = omega (arith, drop_smaller h, drops_smaller g)

-- Some drops in a part are some drops.
pub lift : {A B : Type 0} {R : A → A → Type 0} {Q : B → B → Type 0} (f : A → B) → ((a b : A) → R a b → Q (f a) (f b)) → {a b : A} → Some A R a b → Some B Q (f a) (f b)
lift f h none = none
lift f h (one {s} {s₁} x y) = one (h s s₁ x) (lift f h y)

pub join : {A : Type 0} {R : A → A → Type 0} {a b c : A} → Some A R a b → Some A R b c → Some A R a c
join none g = g
join (one x y) g = one x (join y g)

-- The pass is some drops.
over_drops : (n t : ℕ) (d b : Signal) → DropsS (let_signal n t d b) (let_over n t d b)
unfolding let_over
over_drops n t d b = go (uses_s n b) refl
  where
    go : (k : Bool) → uses_s n b ≡ k → DropsS (let_signal n t d b) (if k then let_signal n t d b else b)
    go true e = none
    go false e = one (here e) none

mutual
  unfolding tidy_s

  pub tidy_drops : (s : Signal) → DropsS s (tidy_s s)
  tidy_drops (input n c) = none
  tidy_drops (time n) = none
  tidy_drops (ext n e) = none
  tidy_drops (delay n k v s) = lift (delay n k v) (λ a b h. in_delay h) (tidy_drops s)
  tidy_drops (let_signal n t d b) =
      join (lift (λ x. let_signal n t x b) (λ a c h. in_definition h) (tidy_drops d))
      (join (lift (let_signal n t (tidy_s d)) (λ a c h. in_let h) (tidy_drops b)) (over_drops n t (tidy_s d) (tidy_s b)))
  tidy_drops (switch n k t x e y) =
      join (lift (λ z. switch n k t z e y) (λ a c h. in_first h) (tidy_drops x))
      (join (lift (λ z. switch n k t (tidy_s x) z y) (λ a c h. in_event h) (tidy_drops e))
      (lift (switch n k t (tidy_s x) (tidy_s e)) (λ a c h. in_second h) (tidy_drops y)))
  tidy_drops (group n k body brs) =
      join (lift (λ z. group n k z brs) (λ a c h. in_group h) (tidy_drops body))
      (lift (group n k (tidy_s body)) (λ a c h. in_branches h) (tidy_b_drops brs))
  tidy_drops (until n s cs) =
      join (lift (λ z. until n z cs) (λ a c h. in_until h) (tidy_drops s)) (lift (until n (tidy_s s)) (λ a c h. in_cases h) (tidy_c_drops cs))

  tidy_b_drops : (brs : Branches) → Some Branches DropB brs (tidy_b brs)
  tidy_b_drops no_branch = none
  tidy_b_drops (branch n t body next) =
      join (lift (λ z. branch n t z next) (λ a c h. in_branch h) (tidy_drops body)) (lift (branch n t (tidy_s body)) (λ a c h. later_branch h) (tidy_b_drops next))

  tidy_c_drops : (cs : Cases) → Some Cases DropC cs (tidy_c cs)
  tidy_c_drops no_case = none
  tidy_c_drops (case n event target t next) =
      join (lift (λ z. case n z target t next) (λ a c h. in_case h) (tidy_drops event)) (lift (case n (tidy_s event) target t) (λ a c h. later_case h) (tidy_c_drops next))

-- After the pass none is left,
pub tidy_left : (s : Signal) → Tidy (tidy_s s)
tidy_left s = record {
  none_left = λ s₁ h.
      let e : size_s (tidy_s s) ≡ size_s (tidy_s s₁) = ap size_s (drops_tidy (tidy_drops s) ∙ drop_tidy h) in
      let a : size_s (tidy_s s₁) ≤ size_s s₁ = drops_smaller (tidy_drops s₁) in
      let b : size_s s₁ < size_s (tidy_s s) = drop_smaller h in
      omega arith;
}

-- and whatever order of drops leaves none, it leaves what the pass does.
tidy_same : {s s₁ : Signal} → Tidy s → DropsS s s₁ → s ≡ s₁
tidy_same t none = refl
tidy_same t (one {s₁ = s₁} h g) = absurd (t.none_left s₁ h)

pub one_pass : {s s₁ : Signal} → DropsS s s₁ → Tidy s₁ → s₁ ≡ tidy_s s
one_pass {s} {s₁} h t = tidy_same t (tidy_drops s₁) ∙ sym (drops_tidy h)
