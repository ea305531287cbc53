-- The rule, and the relation by which trees are compared, are the same.
-- Assumes nothing.
use Rattle.std.specs.Prelude.{None}
use mathlib.Core.Path.{◌≡◌, refl, sym, ap, ◌∙◌}
use mathlib.Core.Logic.{◌≢◌}
use mathlib.Core.List.{[], ◌∷◌}
use mathlib.Core.Bool.{Bool, true, false}
use Prim.Native.Nat.{ℕ, suc, ◌-◌, ◌<◌, ◌≤◌}
use native.Mathlib.Decide.{ℕ_discrete}
use native.Mathlib.Omega.{arith}
use borrow.Author.Tests.{ne_eqb}
use Rattle.rules.specs.Bytes.{Bytes, ◌or◌}
use Rattle.rules.specs.Layout.{edition, nodes, most_nodes}
use Rattle.rules.specs.Tree.{Expr, Signal, input, time, ext, delay, let_signal, switch, group, until, Branches, no_branch, branch, Cases, no_case, case, root}
use Rattle.rules.specs.Scope.{Marks, mark, is_marked, Offers, unmarked, onward, scope_fault, scope_e, scope_s, scope_b, scope_c}
use Rattle.rules.specs.Accepted.{Accepted}
use Rattle.rules.proofs.Static.{both, holds}
use Rattle.promises.proofs.SoundE.{mark_other}
use Rattle.dropped.specs.Less.{LessE, LessS, LessB, LessC}
use Rattle.dropped.specs.Falls.{FallsE, FallsS, FallsB, FallsC}
use Rattle.dropped.specs.Uses.{uses_e, uses_s, uses_b, uses_c}
use Rattle.dropped.specs.Rule.{DropS, here, in_delay, in_definition, in_let, in_first, in_event, in_second, in_group, in_branches, in_until, in_cases, DropB, in_branch, later_branch, DropC, in_case, later_case, Some, none, one, DropsS, NamedE, NamedS, NamedB, NamedC, Rule}
use Rattle.dropped.proofs.SameSteps.{none_marked}
use Rattle.dropped.proofs.FallsTable.{root_falls}
use Rattle.dropped.proofs.OnePass.{lift, join}

-- A tree with other numbers only is one with no let dropped.
pub named_less_e : {π : ℕ → ℕ} {e e' : Expr} → NamedE π e e' → LessE π e e'
named_less_e (NamedE.variables a b) = LessE.variables a b
named_less_e (NamedE.constants a) = LessE.constants a
named_less_e (NamedE.operations a x y) = LessE.operations a (named_less_e x) (named_less_e y)
named_less_e (NamedE.negations a x) = LessE.negations a (named_less_e x)
named_less_e (NamedE.choices a c x y) = LessE.choices a (named_less_e c) (named_less_e x) (named_less_e y)
named_less_e (NamedE.justs a x) = LessE.justs a (named_less_e x)
named_less_e (NamedE.takings a m x y) = LessE.takings a (named_less_e m) (named_less_e x) (named_less_e y)

unfoldable mutual
  pub named_less : {π : ℕ → ℕ} {s s' : Signal} → NamedS π s s' → LessS π s s'
  named_less (NamedS.inputs a) = LessS.inputs a
  named_less (NamedS.times a) = LessS.times a
  named_less (NamedS.exts a e) = LessS.exts a (named_less_e e)
  named_less (NamedS.delays a s) = LessS.delays a (named_less s)
  named_less (NamedS.lets a d b) = LessS.lets a (named_less d) (named_less b)
  named_less (NamedS.switches a x e y) = LessS.switches a (named_less x) (named_less e) (named_less y)
  named_less (NamedS.groups a b bs) = LessS.groups a (named_less b) (named_less_b bs)
  named_less (NamedS.untils a s cs) = LessS.untils a (named_less s) (named_less_c cs)

  pub named_less_b : {π : ℕ → ℕ} {s s' : Branches} → NamedB π s s' → LessB π s s'
  named_less_b NamedB.no_branches = LessB.no_branches
  named_less_b (NamedB.branches a b bs) = LessB.branches a (named_less b) (named_less_b bs)

  pub named_less_c : {π : ℕ → ℕ} {s s' : Cases} → NamedC π s s' → LessC π s s'
  named_less_c NamedC.no_cases = LessC.no_cases
  named_less_c (NamedC.cases a t e cs) = LessC.cases a t (named_less e) (named_less_c cs)

-- One let more is dropped.
unfoldable mutual
  pub drop_less : {π : ℕ → ℕ} {s s₁ s' : Signal} → DropS s s₁ → LessS π s₁ s' → LessS π s s'
  drop_less (here e) h = LessS.dropped h
  drop_less (in_delay g) (LessS.delays a s) = LessS.delays a (drop_less g s)
  drop_less (in_definition g) (LessS.lets a d b) = LessS.lets a (drop_less g d) b
  drop_less (in_definition g) (LessS.dropped b) = LessS.dropped b
  drop_less (in_let g) (LessS.lets a d b) = LessS.lets a d (drop_less g b)
  drop_less (in_let g) (LessS.dropped b) = LessS.dropped (drop_less g b)
  drop_less (in_first g) (LessS.switches a x e y) = LessS.switches a (drop_less g x) e y
  drop_less (in_event g) (LessS.switches a x e y) = LessS.switches a x (drop_less g e) y
  drop_less (in_second g) (LessS.switches a x e y) = LessS.switches a x e (drop_less g y)
  drop_less (in_group g) (LessS.groups a b bs) = LessS.groups a (drop_less g b) bs
  drop_less (in_branches g) (LessS.groups a b bs) = LessS.groups a b (drop_b_less g bs)
  drop_less (in_until g) (LessS.untils a s cs) = LessS.untils a (drop_less g s) cs
  drop_less (in_cases g) (LessS.untils a s cs) = LessS.untils a s (drop_c_less g cs)

  pub drop_b_less : {π : ℕ → ℕ} {s s₁ s' : Branches} → DropB s s₁ → LessB π s₁ s' → LessB π s s'
  drop_b_less (in_branch g) (LessB.branches a b bs) = LessB.branches a (drop_less g b) bs
  drop_b_less (later_branch g) (LessB.branches a b bs) = LessB.branches a b (drop_b_less g bs)

  pub drop_c_less : {π : ℕ → ℕ} {s s₁ s' : Cases} → DropC s s₁ → LessC π s₁ s' → LessC π s s'
  drop_c_less (in_case g) (LessC.cases a t e cs) = LessC.cases a t (drop_less g e) cs
  drop_c_less (later_case g) (LessC.cases a t e cs) = LessC.cases a t e (drop_c_less g cs)

unfoldable pub drops_less : {π : ℕ → ℕ} {s s₁ s' : Signal} → DropsS s s₁ → LessS π s₁ s' → LessS π s s'
drops_less none h = h
drops_less (one x y) h = drop_less x (drops_less y h)

unfoldable pub rule_less : (p q : Bytes) (π : ℕ → ℕ) → Rule p q π → LessS π (root p) (root q)
rule_less p q π r = drops_less r.drops (named_less r.named)

-- No variable in scope has the old number m.
abbrev Away : (ℕ → ℕ) → Marks → ℕ → Type 0
Away π Γ m = (x : ℕ) → is_marked Γ x ≡ true → π x ≢ m

away_bind : {π : ℕ → ℕ} (Γ : Marks) (n n' m : ℕ) → n ≡ π n' → n < m → Away π Γ m → Away π (mark Γ n') m
away_bind {π} Γ n n' m e l h x i = go (ℕ_discrete x n')
  where
    go : Dec (x ≡ n') → π x ≢ m
    go (yes z) w = let a : π x ≡ n = ap π z ∙ sym e in omega arith
    go (no z) w = h x (sym (mark_other Γ n' x z) ∙ i) w

neither : {a b : Bool} → a ≡ false → b ≡ false → (a or b) ≡ false
unfolding ◌or◌
neither {a} {b} e f = rw (e, f) refl

-- So a tree that is in scope there names it nowhere.
module _ {π : ℕ → ℕ} (ed m : ℕ) where
  unused_e : {e e' : Expr} → NamedE π e e' → (k : ℕ) → k ≤ m → FallsE k e → (Γ : Marks) → scope_e Γ e' ≡ None → Away π Γ m → uses_e m e ≡ false
  unfolding uses_e scope_e
  unused_e (NamedE.variables {n' = n'} {b = b} {b' = b'} a g) k i f Γ sc h =
      ne_eqb b m λ z. h b' (holds _ n' sc) (sym g ∙ z)
  unused_e (NamedE.constants a) k i f Γ sc h = refl
  unused_e (NamedE.operations {n = n} a x y) k i f Γ sc h =
      let z = both _ _ sc in
      neither (unused_e x n (omega (arith, f.0)) f.1 Γ z.0 h) (unused_e y n (omega (arith, f.0)) f.2 Γ z.1 h)
  unused_e (NamedE.negations {n = n} a x) k i f Γ sc h = unused_e x n (omega (arith, f.0)) f.1 Γ sc h
  unused_e (NamedE.choices {n = n} a c x y) k i f Γ sc h =
      let z = both _ _ sc in
      let z₁ = both _ _ z.1 in
      neither (neither (unused_e c n (omega (arith, f.0)) f.1 Γ z.0 h) (unused_e x n (omega (arith, f.0)) f.2 Γ z₁.0 h))
      (unused_e y n (omega (arith, f.0)) f.3 Γ z₁.1 h)
  unused_e (NamedE.justs {n = n} a x) k i f Γ sc h = unused_e x n (omega (arith, f.0)) f.1 Γ sc h
  unused_e (NamedE.takings {n = n} {n' = n'} a c x y) k i f Γ sc h =
      let z = both _ _ sc in
      let z₁ = both _ _ z.1 in
      neither (neither (unused_e c n (omega (arith, f.0)) f.1 Γ z.0 h) (unused_e x n (omega (arith, f.0)) f.2 Γ z₁.0 h))
      (unused_e y n (omega (arith, f.0)) f.3 (mark Γ n') z₁.1 (away_bind Γ n n' m a (omega (arith, f.0)) h))

  mutual
    unfolding uses_s scope_s

    unused_s : {s s' : Signal} → NamedS π s s' → (k : ℕ) → k ≤ m → FallsS k s → (Γ : Marks) (Δ : Offers) → scope_s ed Γ Δ s' ≡ None → Away π Γ m → uses_s m s ≡ false
    unused_s (NamedS.inputs a) k i f Γ Δ sc h = refl
    unused_s (NamedS.times a) k i f Γ Δ sc h = refl
    unused_s (NamedS.exts {n = n} a e) k i f Γ Δ sc h = unused_e e n (omega (arith, f.0)) f.1 Γ sc h
    unused_s (NamedS.delays {n = n} a s) k i f Γ Δ sc h = unused_s s n (omega (arith, f.0)) f.1 Γ [] sc h
    unused_s (NamedS.lets {n = n} {n' = n'} a d b) k i f Γ Δ sc h =
        let z = both _ _ sc in
        let g = away_bind Γ n n' m a (omega (arith, f.0)) h in
        neither (unused_s d n (omega (arith, f.0)) f.1 (mark Γ n') [] z.0 g) (unused_s b n (omega (arith, f.0)) f.2 (mark Γ n') Δ z.1 g)
    unused_s (NamedS.switches {n = n} {n' = n'} a x e y) k i f Γ Δ sc h =
        let z = both _ _ sc in
        let z₁ = both _ _ z.1 in
        neither (neither (unused_s x n (omega (arith, f.0)) f.1 Γ [] z.0 h) (unused_s e n (omega (arith, f.0)) f.2 Γ [] z₁.0 h))
        (unused_s y n (omega (arith, f.0)) f.3 (mark Γ n') [] z₁.1 (away_bind Γ n n' m a (omega (arith, f.0)) h))
    unused_s (NamedS.groups {n = n} {brs' = brs'} a b bs) k i f Γ Δ sc h =
        let z = both _ _ sc in
        neither (unused_s b n (omega (arith, f.0)) f.1 Γ (brs' ∷ onward ed Δ) z.0 h) (unused_b bs n (omega (arith, f.0)) f.2 Γ (brs' ∷ onward ed Δ) z.1 h)
    unused_s (NamedS.untils {n = n} a s cs) k i f Γ Δ sc h =
        let z = both _ _ sc in
        neither (unused_s s n (omega (arith, f.0)) f.1 Γ [] z.0 h) (unused_c cs n (omega (arith, f.0)) f.2 Γ Δ z.1 h)

    unused_b : {s s' : Branches} → NamedB π s s' → (k : ℕ) → k ≤ m → FallsB k s → (Γ : Marks) (Δ : Offers) → scope_b ed Γ Δ s' ≡ None → Away π Γ m → uses_b m s ≡ false
    unused_b NamedB.no_branches k i f Γ Δ sc h = refl
    unused_b (NamedB.branches {n = n} {n' = n'} a b bs) k i f Γ Δ sc h =
        let z = both _ _ sc in
        neither (unused_s b n (omega (arith, f.0)) f.1 (mark Γ n') Δ z.0 (away_bind Γ n n' m a (omega (arith, f.0)) h))
        (unused_b bs n (omega (arith, f.0)) f.2 Γ Δ z.1 h)

    unused_c : {s s' : Cases} → NamedC π s s' → (k : ℕ) → k ≤ m → FallsC k s → (Γ : Marks) (Δ : Offers) → scope_c ed Γ Δ s' ≡ None → Away π Γ m → uses_c m s ≡ false
    unused_c NamedC.no_cases k i f Γ Δ sc h = refl
    unused_c (NamedC.cases {n = n} a t e cs) k i f Γ Δ sc h =
        let z = both _ _ (both _ _ sc).1 in
        neither (unused_s e n (omega (arith, f.0)) f.1 Γ [] z.0 h) (unused_c cs n (omega (arith, f.0)) f.2 Γ Δ z.1 h)

-- A tree with lets dropped is some drops away from a tree with other numbers only.
record Between (π : ℕ → ℕ) (m : ℕ) (s s' : Signal) : Type 0 where
  tree : Signal
  drops : DropsS s tree
  falls : FallsS m tree
  named : NamedS π tree s'

record BetweenB (π : ℕ → ℕ) (m : ℕ) (s s' : Branches) : Type 0 where
  tree : Branches
  drops : Some Branches DropB s tree
  falls : FallsB m tree
  named : NamedB π tree s'

record BetweenC (π : ℕ → ℕ) (m : ℕ) (s s' : Cases) : Type 0 where
  tree : Cases
  drops : Some Cases DropC s tree
  falls : FallsC m tree
  named : NamedC π tree s'

falls_up : (s : Signal) {n m : ℕ} → n < m → FallsS n s → FallsS m s
falls_up (input n c) l f = tt
falls_up (time n) l f = tt
falls_up (ext n e) l f = (omega (arith, f.0), f.1)
falls_up (delay n k v s) l f = (omega (arith, f.0), f.1)
falls_up (let_signal n t d b) l f = (omega (arith, f.0), f.1, f.2)
falls_up (switch n k t x e y) l f = (omega (arith, f.0), f.1, f.2, f.3)
falls_up (group n k body brs) l f = (omega (arith, f.0), f.1, f.2)
falls_up (until n s cs) l f = (omega (arith, f.0), f.1, f.2)

-- What is in scope of the new tree has its old binder from m on.
abbrev Above : (ℕ → ℕ) → Marks → ℕ → Type 0
Above π Γ m = (x : ℕ) → is_marked Γ x ≡ true → m ≤ π x

above_less : {π : ℕ → ℕ} (Γ : Marks) {m n : ℕ} → n < m → Above π Γ m → Above π Γ n
above_less Γ l h x i = omega (arith, h x i)

above_bind : {π : ℕ → ℕ} (Γ : Marks) (n n' : ℕ) {m : ℕ} → n ≡ π n' → n < m → Above π Γ m → Above π (mark Γ n') n
above_bind {π} Γ n n' e l h x i = go (ℕ_discrete x n')
  where
    go : Dec (x ≡ n') → n ≤ π x
    go (yes z) = let a : π x ≡ n = ap π z ∙ sym e in omega arith
    go (no z) = omega (arith, h x (sym (mark_other Γ n' x z) ∙ i))

-- Expressions have no lets.
less_named_e : {π : ℕ → ℕ} {e e' : Expr} → LessE π e e' → NamedE π e e'
less_named_e (LessE.variables a b) = NamedE.variables a b
less_named_e (LessE.constants a) = NamedE.constants a
less_named_e (LessE.operations a x y) = NamedE.operations a (less_named_e x) (less_named_e y)
less_named_e (LessE.negations a x) = NamedE.negations a (less_named_e x)
less_named_e (LessE.choices a c x y) = NamedE.choices a (less_named_e c) (less_named_e x) (less_named_e y)
less_named_e (LessE.justs a x) = NamedE.justs a (less_named_e x)
less_named_e (LessE.takings a m x y) = NamedE.takings a (less_named_e m) (less_named_e x) (less_named_e y)

module _ (ed : ℕ) where
  mutual
    unfolding scope_s

    between : {π : ℕ → ℕ} {s s' : Signal} → LessS π s s' → (m : ℕ) → FallsS m s → (Γ : Marks) (Δ : Offers) → scope_s ed Γ Δ s' ≡ None → Above π Γ m → Between π m s s'
    between (LessS.inputs {n = n} {c = c} a) m f Γ Δ sc h = record { tree = input n c; drops = none; falls = tt; named = NamedS.inputs a }
    between (LessS.times {n = n} a) m f Γ Δ sc h = record { tree = time n; drops = none; falls = tt; named = NamedS.times a }
    between (LessS.exts {n = n} {e = e} a x) m f Γ Δ sc h = record { tree = ext n e; drops = none; falls = f; named = NamedS.exts a (less_named_e x) }
    between (LessS.delays {n = n} {k = k} {v = v} a s) m f Γ Δ sc h =
        let r = between s n f.1 Γ [] sc (above_less Γ f.0 h) in
        record { tree = delay n k v r.tree; drops = lift (delay n k v) (λ x y g. in_delay g) r.drops; falls = (f.0, r.falls); named = NamedS.delays a r.named }
    between (LessS.lets {n = n} {n' = n'} {t = t} {b = body} a d b) m f Γ Δ sc h =
        let z = both _ _ sc in
        let g = above_bind Γ n n' a f.0 h in
        let r = between d n f.1 (mark Γ n') [] z.0 g in
        let q = between b n f.2 (mark Γ n') Δ z.1 g in
        record {
          tree = let_signal n t r.tree q.tree;
          drops = join (lift (λ x. let_signal n t x body) (λ x y w. in_definition w) r.drops) (lift (let_signal n t r.tree) (λ x y w. in_let w) q.drops);
          falls = (f.0, r.falls, q.falls);
          named = NamedS.lets a r.named q.named;
        }
    between {π} (LessS.dropped {n = n} {t = t} {d = d} b) m f Γ Δ sc h =
        let r = between b n f.2 Γ Δ sc (above_less Γ f.0 h) in
        let u = unused_s ed n r.named n (omega arith) r.falls Γ Δ sc (λ x i w. omega (arith, h x i, f.0)) in
        record {
          tree = r.tree;
          drops = join (lift (let_signal n t d) (λ x y w. in_let w) r.drops) (one (here u) none);
          falls = falls_up r.tree f.0 r.falls;
          named = r.named;
        }
    between (LessS.switches {n = n} {n' = n'} {k = k} {t = t} {e = pe} {y = py} a x e y) m f Γ Δ sc h =
        let z = both _ _ sc in
        let z₁ = both _ _ z.1 in
        let g = above_less Γ f.0 h in
        let r = between x n f.1 Γ [] z.0 g in
        let q = between e n f.2 Γ [] z₁.0 g in
        let o = between y n f.3 (mark Γ n') [] z₁.1 (above_bind Γ n n' a f.0 h) in
        record {
          tree = switch n k t r.tree q.tree o.tree;
          drops = join (lift (λ w. switch n k t w pe py) (λ b c w. in_first w) r.drops)
              (join (lift (λ w. switch n k t r.tree w py) (λ b c w. in_event w) q.drops) (lift (switch n k t r.tree q.tree) (λ b c w. in_second w) o.drops));
          falls = (f.0, r.falls, q.falls, o.falls);
          named = NamedS.switches a r.named q.named o.named;
        }
    between (LessS.groups {n = n} {k = k} {brs = brs} {brs' = brs'} a b bs) m f Γ Δ sc h =
        let z = both _ _ sc in
        let g = above_less Γ f.0 h in
        let r = between b n f.1 Γ (brs' ∷ onward ed Δ) z.0 g in
        let q = between_b bs n f.2 Γ (brs' ∷ onward ed Δ) z.1 g in
        record {
          tree = group n k r.tree q.tree;
          drops = join (lift (λ w. group n k w brs) (λ c d w. in_group w) r.drops) (lift (group n k r.tree) (λ c d w. in_branches w) q.drops);
          falls = (f.0, r.falls, q.falls);
          named = NamedS.groups a r.named q.named;
        }
    between (LessS.untils {n = n} {cs = pc} a s cs) m f Γ Δ sc h =
        let z = both _ _ sc in
        let g = above_less Γ f.0 h in
        let r = between s n f.1 Γ [] z.0 g in
        let q = between_c cs n f.2 Γ Δ z.1 g in
        record {
          tree = until n r.tree q.tree;
          drops = join (lift (λ w. until n w pc) (λ c d w. in_until w) r.drops) (lift (until n r.tree) (λ c d w. in_cases w) q.drops);
          falls = (f.0, r.falls, q.falls);
          named = NamedS.untils a r.named q.named;
        }

    between_b : {π : ℕ → ℕ} {s s' : Branches} → LessB π s s' → (m : ℕ) → FallsB m s → (Γ : Marks) (Δ : Offers) → scope_b ed Γ Δ s' ≡ None → Above π Γ m → BetweenB π m s s'
    between_b LessB.no_branches m f Γ Δ sc h = record { tree = no_branch; drops = none; falls = tt; named = NamedB.no_branches }
    between_b (LessB.branches {n = n} {n' = n'} {t = t} {next = next} a b bs) m f Γ Δ sc h =
        let z = both _ _ sc in
        let r = between b n f.1 (mark Γ n') Δ z.0 (above_bind Γ n n' a f.0 h) in
        let q = between_b bs n f.2 Γ Δ z.1 (above_less Γ f.0 h) in
        record {
          tree = branch n t r.tree q.tree;
          drops = join (lift (λ w. branch n t w next) (λ c d w. in_branch w) r.drops) (lift (branch n t r.tree) (λ c d w. later_branch w) q.drops);
          falls = (f.0, r.falls, q.falls);
          named = NamedB.branches a r.named q.named;
        }

    between_c : {π : ℕ → ℕ} {s s' : Cases} → LessC π s s' → (m : ℕ) → FallsC m s → (Γ : Marks) (Δ : Offers) → scope_c ed Γ Δ s' ≡ None → Above π Γ m → BetweenC π m s s'
    between_c LessC.no_cases m f Γ Δ sc h = record { tree = no_case; drops = none; falls = tt; named = NamedC.no_cases }
    between_c (LessC.cases {n = n} {target = target} {t = t} {next = next} a g e cs) m f Γ Δ sc h =
        let z = both _ _ (both _ _ sc).1 in
        let r = between e n f.1 Γ [] z.0 (above_less Γ f.0 h) in
        let q = between_c cs n f.2 Γ Δ z.1 (above_less Γ f.0 h) in
        record {
          tree = case n r.tree target t q.tree;
          drops = join (lift (λ w. case n w target t next) (λ c d w. in_case w) r.drops) (lift (case n r.tree target t) (λ c d w. later_case w) q.drops);
          falls = (f.0, r.falls, q.falls);
          named = NamedC.cases a g r.named q.named;
        }

pub less_rule : (p q : Bytes) (π : ℕ → ℕ) → Accepted p → Accepted q → LessS π (root p) (root q) → Rule p q π
unfolding scope_fault
less_rule p q π pa qa x =
    let r = between (edition q) x (suc (nodes p - 1)) (root_falls p pa) (unmarked most_nodes) [] qa.scope_right (λ y i. absurd (none_marked most_nodes y i)) in
    record { between = r.tree; drops = r.drops; named = r.named }
