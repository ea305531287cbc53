-- A tree with unused lets dropped is in scope where the old one is, if no two new nodes are paired with one old node.
-- Assumes nothing.
use Rattle.std.specs.Prelude.{Option, None, ℕ}
use mathlib.Core.Path.{◌≡◌, refl, sym, ap, ◌∙◌}
use mathlib.Core.Logic.{◌≢◌, ◌⊎◌, inl, inr}
use mathlib.Core.List.{[], ◌∷◌}
use mathlib.Core.Bool.{Bool, true}
use Prim.Native.Nat.{ℕ, zero, suc, ◌<◌, ◌≤◌}
use native.Mathlib.Decide.{ℕ_discrete}
use native.Mathlib.Omega.{arith}
use lib.Dec.{eqb}
use lib.ListN.{length, length-set}
use lib.Seq.{get_or-set_same}
use borrow.Author.Tests.{eqb-true, eq-eqb}
use Rattle.rules.specs.Bytes.{◌or◌}
use Rattle.rules.specs.Places.{sooner, wrong_unless}
use Rattle.rules.specs.Tree.{Expr, Signal, Branches, Cases}
use Rattle.rules.specs.Scope.{Marks, mark, is_marked, Offers, has_branch, is_offered, onward, scope_e, scope_s, scope_b, scope_c}
use Rattle.rules.proofs.Static.{both, holds, not_both, or_left, or_right}
use Rattle.promises.proofs.ValidLaws.{or_cases}
use Rattle.promises.proofs.SoundE.{mark_other}
use Rattle.dropped.specs.Uses.{uses_e, uses_s, uses_b, uses_c}
use Rattle.dropped.specs.Apart.{WithinE, WithinS, WithinB, WithinC, UnusedS, UnusedB, UnusedC}
use Rattle.dropped.specs.Less.{LessE, variables, constants, operations, negations, choices, justs, takings, LessS, inputs, times, exts, delays, lets, dropped, switches, groups, untils, LessB, no_branches, branches, LessC, no_cases, cases}

neither : {a b : Option ℕ} → a ≡ None → b ≡ None → sooner a b ≡ None
unfolding sooner
neither e f = rw (e, f) refl

right_at : (t : Bool) (n : ℕ) → t ≡ true → wrong_unless t n ≡ None
unfolding wrong_unless
right_at t n e = rw e refl

mark_own : (Γ : Marks) (n : ℕ) → n < length Γ → is_marked (mark Γ n) n ≡ true
unfolding is_marked mark
mark_own Γ n l = eq-eqb _ 1 (get_or-set_same Γ n 1 0 l)

mark_length : (Γ : Marks) (n : ℕ) → length (mark Γ n) ≡ length Γ
unfolding mark
mark_length Γ n = length-set Γ n 1

module _ {π : ℕ → ℕ} (ed c : ℕ) (inj : (i j : ℕ) → i < c → j < c → π i ≡ π j → i ≡ j) where
  -- What the new tree names and the old one has in scope is in scope of the new one.
  abbrev Marked : Marks → Marks → (ℕ → Bool) → Type 0
  Marked Γ Γ' uses = (y : ℕ) → y < c → uses y ≡ true → is_marked Γ (π y) ≡ true → is_marked Γ' y ≡ true

  -- Fewer names.
  fewer : (Γ Γ' : Marks) (uses less : ℕ → Bool) → ((y : ℕ) → less y ≡ true → uses y ≡ true) → Marked Γ Γ' uses → Marked Γ Γ' less
  fewer Γ Γ' uses less f h y l u i = h y l (f y u) i

  -- A binder that is kept.
  marked_bind : (Γ Γ' : Marks) (uses : ℕ → Bool) (n n' : ℕ) → n ≡ π n' → n' < c → n' < length Γ' → Marked Γ Γ' uses → Marked (mark Γ n) (mark Γ' n') uses
  marked_bind Γ Γ' uses n n' e w l h y ly u i = go (ℕ_discrete y n')
    where
      go : Dec (y ≡ n') → is_marked (mark Γ' n') y ≡ true
      go (yes z) = ap (is_marked (mark Γ' n')) z ∙ mark_own Γ' n' l
      go (no z) =
          let other : π y ≢ n = λ v. z (inj y n' ly w (v ∙ e)) in
          mark_other Γ' n' y z ∙ h y ly u (sym (mark_other Γ n (π y) other) ∙ i)

  -- A let that is dropped.
  marked_drop : (Γ Γ' : Marks) (uses : ℕ → Bool) (n : ℕ) → ((y : ℕ) → uses y ≡ true → π y ≢ n) → Marked Γ Γ' uses → Marked (mark Γ n) Γ' uses
  marked_drop Γ Γ' uses n f h y ly u i = h y ly u (sym (mark_other Γ n (π y) (f y u)) ∙ i)

  scope_e_still : {e e' : Expr} → LessE π e e' → WithinE c e' → (Γ Γ' : Marks) → c ≤ length Γ' → Marked Γ Γ' (λ y. uses_e y e') → scope_e Γ e ≡ None → scope_e Γ' e' ≡ None
  unfolding scope_e uses_e
  scope_e_still (variables {n = n} {n' = n'} {b = b} {b' = b'} a g) w Γ Γ' l h sc =
      right_at _ n' (h b' w (eq-eqb b' b' refl) (ap (is_marked Γ) (sym g) ∙ holds _ n sc))
  scope_e_still (constants a) w Γ Γ' l h sc = refl
  scope_e_still (operations a x y) w Γ Γ' l h sc =
      let z = both _ _ sc in
      neither (scope_e_still x w.0 Γ Γ' l (fewer Γ Γ' _ _ (λ v i. or_left _ _ i) h) z.0) (scope_e_still y w.1 Γ Γ' l (fewer Γ Γ' _ _ (λ v i. or_right _ _ i) h) z.1)
  scope_e_still (negations a x) w Γ Γ' l h sc = scope_e_still x w Γ Γ' l h sc
  scope_e_still (choices a t x y) w Γ Γ' l h sc =
      let z = both _ _ sc in
      let z₁ = both _ _ z.1 in
      neither (scope_e_still t w.0 Γ Γ' l (fewer Γ Γ' _ _ (λ v i. or_left _ _ (or_left _ _ i)) h) z.0)
      (neither (scope_e_still x w.1 Γ Γ' l (fewer Γ Γ' _ _ (λ v i. or_left _ _ (or_right _ _ i)) h) z₁.0)
      (scope_e_still y w.2 Γ Γ' l (fewer Γ Γ' _ _ (λ v i. or_right _ _ i) h) z₁.1))
  scope_e_still (justs a x) w Γ Γ' l h sc = scope_e_still x w Γ Γ' l h sc
  scope_e_still (takings {n = n} {n' = n'} a t x y) w Γ Γ' l h sc =
      let z = both _ _ sc in
      let z₁ = both _ _ z.1 in
      neither (scope_e_still t w.1 Γ Γ' l (fewer Γ Γ' _ _ (λ v i. or_left _ _ (or_left _ _ i)) h) z.0)
      (neither (scope_e_still x w.2 Γ Γ' l (fewer Γ Γ' _ _ (λ v i. or_left _ _ (or_right _ _ i)) h) z₁.0)
      (scope_e_still y w.3 (mark Γ n) (mark Γ' n') (rw (mark_length Γ' n') l)
      (marked_bind Γ Γ' _ n n' a w.0 (omega (arith, w.0)) (fewer Γ Γ' _ _ (λ v i. or_right _ _ i) h)) z₁.1))

  -- What the old groups offer, the new ones offer.
  abbrev Offered : Offers → Offers → Type 0
  Offered Δ Δ' = (k : ℕ) → k < c → is_offered (π k) Δ ≡ true → is_offered k Δ' ≡ true

  none_offered : (Δ' : Offers) → Offered [] Δ'
  unfolding is_offered
  none_offered Δ' k l i = absurd (not_both i)

  has_new : {s s' : Branches} → LessB π s s' → WithinB c s' → (k : ℕ) → k < c → has_branch (π k) s ≡ true → has_branch k s' ≡ true
  unfolding has_branch
  has_new no_branches w k l i = i
  has_new (branches {n = n} {n' = n'} {next = next} {next' = next'} a b bs) w k l i = go (or_cases _ _ i) (has_new bs w.2 k l)
    where
      go : (eqb n (π k) ≡ true) ⊎ (has_branch (π k) next ≡ true) → (has_branch (π k) next ≡ true → has_branch k next' ≡ true) → (eqb n' k or has_branch k next') ≡ true
      go (inl e) h = or_left _ _ (eq-eqb n' k (inj n' k w.0 l (sym a ∙ eqb-true n (π k) e)))
      go (inr e) h = or_right _ _ (h e)

  -- So they hand on, in either edition.
  handed_offered : (Δ Δ' : Offers) → Offered Δ Δ' → Offered (onward ed Δ) (onward ed Δ')
  unfolding onward
  handed_offered Δ Δ' o = go ed
    where
      go : (e : ℕ) → Offered (onward e Δ) (onward e Δ')
      go zero = none_offered []
      go (suc e) = o

  group_offered : {s s' : Branches} → LessB π s s' → WithinB c s' → (Δ Δ' : Offers) → Offered Δ Δ' → Offered (s ∷ Δ) (s' ∷ Δ')
  unfolding is_offered
  group_offered {s} {s'} bs w Δ Δ' o k l i = go (or_cases _ _ i)
    where
      go : (has_branch (π k) s ≡ true) ⊎ (is_offered (π k) Δ ≡ true) → (has_branch k s' or is_offered k Δ') ≡ true
      go (inl e) = or_left _ _ (has_new bs w k l e)
      go (inr e) = or_right _ _ (o k l e)

  mutual
    unfolding scope_s uses_s

    pub scope_still : {s s' : Signal} (x : LessS π s s') → UnusedS x → WithinS c s' → (Γ Γ' : Marks) → c ≤ length Γ' → (Δ Δ' : Offers)
        → Marked Γ Γ' (λ y. uses_s y s') → Offered Δ Δ' → scope_s ed Γ Δ s ≡ None → scope_s ed Γ' Δ' s' ≡ None
    scope_still (inputs a) u w Γ Γ' l Δ Δ' h o sc = refl
    scope_still (times a) u w Γ Γ' l Δ Δ' h o sc = refl
    scope_still (exts a e) u w Γ Γ' l Δ Δ' h o sc = scope_e_still e w Γ Γ' l h sc
    scope_still (delays a s) u w Γ Γ' l Δ Δ' h o sc = scope_still s u w Γ Γ' l [] [] h (none_offered []) sc
    scope_still (lets {n = n} {n' = n'} a d b) u w Γ Γ' l Δ Δ' h o sc =
        let z = both _ _ sc in
        let lm : c ≤ length (mark Γ' n') = rw (mark_length Γ' n') l in
        neither
        (scope_still d u.0 w.1 (mark Γ n) (mark Γ' n') lm [] []
        (marked_bind Γ Γ' _ n n' a w.0 (omega (arith, w.0)) (fewer Γ Γ' _ _ (λ v i. or_left _ _ i) h)) (none_offered []) z.0)
        (scope_still b u.1 w.2 (mark Γ n) (mark Γ' n') lm Δ Δ'
        (marked_bind Γ Γ' _ n n' a w.0 (omega (arith, w.0)) (fewer Γ Γ' _ _ (λ v i. or_right _ _ i) h)) o z.1)
    scope_still (dropped {n = n} b) u w Γ Γ' l Δ Δ' h o sc =
        scope_still b u.1 w (mark Γ n) Γ' l Δ Δ' (marked_drop Γ Γ' _ n u.0 h) o (both _ _ sc).1
    scope_still (switches {n = n} {n' = n'} a x e y) u w Γ Γ' l Δ Δ' h o sc =
        let z = both _ _ sc in
        let z₁ = both _ _ z.1 in
        neither (scope_still x u.0 w.1 Γ Γ' l [] [] (fewer Γ Γ' _ _ (λ v i. or_left _ _ (or_left _ _ i)) h) (none_offered []) z.0)
        (neither (scope_still e u.1 w.2 Γ Γ' l [] [] (fewer Γ Γ' _ _ (λ v i. or_left _ _ (or_right _ _ i)) h) (none_offered []) z₁.0)
        (scope_still y u.2 w.3 (mark Γ n) (mark Γ' n') (rw (mark_length Γ' n') l) [] []
        (marked_bind Γ Γ' _ n n' a w.0 (omega (arith, w.0)) (fewer Γ Γ' _ _ (λ v i. or_right _ _ i) h)) (none_offered []) z₁.1))
    scope_still (groups {brs = brs} {brs' = brs'} a b bs) u w Γ Γ' l Δ Δ' h o sc =
        let z = both _ _ sc in
        let g = group_offered bs w.1 (onward ed Δ) (onward ed Δ') (handed_offered Δ Δ' o) in
        neither (scope_still b u.0 w.0 Γ Γ' l (brs ∷ onward ed Δ) (brs' ∷ onward ed Δ') (fewer Γ Γ' _ _ (λ v i. or_left _ _ i) h) g z.0)
        (scope_b_still bs u.1 w.1 Γ Γ' l (brs ∷ onward ed Δ) (brs' ∷ onward ed Δ') (fewer Γ Γ' _ _ (λ v i. or_right _ _ i) h) g z.1)
    scope_still (untils a s cs) u w Γ Γ' l Δ Δ' h o sc =
        let z = both _ _ sc in
        neither (scope_still s u.0 w.0 Γ Γ' l [] [] (fewer Γ Γ' _ _ (λ v i. or_left _ _ i) h) (none_offered []) z.0)
        (scope_c_still cs u.1 w.1 Γ Γ' l Δ Δ' (fewer Γ Γ' _ _ (λ v i. or_right _ _ i) h) o z.1)

    scope_b_still : {s s' : Branches} (x : LessB π s s') → UnusedB x → WithinB c s' → (Γ Γ' : Marks) → c ≤ length Γ' → (Δ Δ' : Offers)
        → Marked Γ Γ' (λ y. uses_b y s') → Offered Δ Δ' → scope_b ed Γ Δ s ≡ None → scope_b ed Γ' Δ' s' ≡ None
    scope_b_still no_branches u w Γ Γ' l Δ Δ' h o sc = refl
    scope_b_still (branches {n = n} {n' = n'} a b bs) u w Γ Γ' l Δ Δ' h o sc =
        let z = both _ _ sc in
        neither (scope_still b u.0 w.1 (mark Γ n) (mark Γ' n') (rw (mark_length Γ' n') l) Δ Δ'
        (marked_bind Γ Γ' _ n n' a w.0 (omega (arith, w.0)) (fewer Γ Γ' _ _ (λ v i. or_left _ _ i) h)) o z.0)
        (scope_b_still bs u.1 w.2 Γ Γ' l Δ Δ' (fewer Γ Γ' _ _ (λ v i. or_right _ _ i) h) o z.1)

    scope_c_still : {s s' : Cases} (x : LessC π s s') → UnusedC x → WithinC c s' → (Γ Γ' : Marks) → c ≤ length Γ' → (Δ Δ' : Offers)
        → Marked Γ Γ' (λ y. uses_c y s') → Offered Δ Δ' → scope_c ed Γ Δ s ≡ None → scope_c ed Γ' Δ' s' ≡ None
    scope_c_still no_cases u w Γ Γ' l Δ Δ' h o sc = refl
    scope_c_still (cases {n = n} {n' = n'} {target = target} {target' = target'} a g e cs) u w Γ Γ' l Δ Δ' h o sc =
        let z = both _ _ sc in
        let z₁ = both _ _ z.1 in
        neither (right_at _ n' (o target' w.0 (ap (λ (k : ℕ). is_offered k Δ) (sym g) ∙ holds _ n z.0)))
        (neither (scope_still e u.0 w.1 Γ Γ' l [] [] (fewer Γ Γ' _ _ (λ v i. or_left _ _ i) h) (none_offered []) z₁.0)
        (scope_c_still cs u.1 w.2 Γ Γ' l Δ Δ' (fewer Γ Γ' _ _ (λ v i. or_right _ _ i) h) o z₁.1))
