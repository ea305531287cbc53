-- A sound tree without its unused lets is sound.
-- Assumes nothing.
use Rattle.std.specs.Prelude.{if◌then◌else◌, None}
use mathlib.Core.Path.{◌≡◌, refl, sym, ap, ◌∙◌, subst}
use mathlib.Core.List.{List, [], ◌∷◌, ◌++◌}
use mathlib.Core.Bool.{Bool, true, false}
use mathlib.Core.Logic.{◌⊎◌, inl, inr}
use Prim.Native.Nat.{ℕ, zero, suc, ◌+◌, ◌≤◌, ◌<◌}
use native.Mathlib.Decide.{ℕ_discrete}
use native.Mathlib.Omega.{arith}
use lib.Dec.{eqb}
use borrow.Author.Tests.{eqb-true, eq-eqb}
use Rattle.rules.specs.Bytes.{◌or◌}
use Rattle.rules.specs.Tree.{Expr, variable, constant, operation, negation, choice, just, taking, Signal, input, time, ext, delay, let_signal, switch, group, until, Branches, no_branch, branch, Cases, no_case, case}
use Rattle.rules.specs.Scope.{Marks, mark, is_marked, Offers, has_branch, is_offered, onward, scope_e, scope_s, scope_b, scope_c}
use Rattle.rules.proofs.Static.{both, holds, not_both, or_left, or_right}
use Rattle.promises.proofs.SoundE.{mark_other}
use Rattle.dropped.specs.Uses.{uses_e, uses_s, uses_b, uses_c}
use Rattle.dropped.specs.Tidy.{let_over, tidy_s, tidy_b, tidy_c}
use Rattle.written.specs.Order.{order_e, order_s, order_b, order_c, In}
use Rattle.written.specs.Right.{RightS, RightB, RightC, TypesS, TypesB, TypesC, KnowsS, KnowsB, KnowsC, SomeB, SomeC, EachE, EachS, EachB, EachC}
use Rattle.written.proofs.Places.{in_left, in_right, in_last}
use Rattle.written.proofs.Counted.{sum_s, sum_b, sum_c}

-- What holds of a let and of its body holds of what tidying leaves.
pub over : (P : Signal → Type 0) (n t : ℕ) (d b : Signal) → (uses_s n b ≡ true → P (let_signal n t d b)) → (uses_s n b ≡ false → P b) → P (let_over n t d b)
unfolding let_over
over P n t d b f g = go (uses_s n b) refl
  where
    go : (x : Bool) → uses_s n b ≡ x → P (if x then let_signal n t d b else b)
    go true e = f e
    go false e = g e

module _ (φ τ : ℕ → ℕ) where
  abbrev pub Got : Signal → Type 0
  Got s = RightS s φ × TypesS s τ × KnowsS s τ

  abbrev pub GotB : Branches → Type 0
  GotB s = RightB s φ × TypesB s τ × KnowsB s τ

  abbrev pub GotC : Cases → Type 0
  GotC s = RightC s φ × TypesC s τ × KnowsC s τ

  some_branch : (brs : Branches) → SomeB brs → SomeB (tidy_b brs)
  unfolding tidy_s
  some_branch no_branch z = z
  some_branch (branch n t x brs) z = tt

  some_case : (cs : Cases) → SomeC cs → SomeC (tidy_c cs)
  unfolding tidy_s
  some_case no_case z = z
  some_case (case n x target t cs) z = tt

  mutual
    unfolding tidy_s

    pub tidy_got : (s : Signal) → Got s → Got (tidy_s s)
    tidy_got (input n c) g = g
    tidy_got (time n) g = g
    tidy_got (ext n e) g = g
    tidy_got (delay n k v s) g = let x = tidy_got s (g.0.1, g.1.1, g.2) in ((g.0.0, x.0), (g.1.0, x.1), x.2)
    tidy_got (let_signal n t d b) g =
        let x = tidy_got d (g.0.1, g.1.1, g.2.0) in
        let y = tidy_got b (g.0.2, g.1.2, g.2.1) in
        over Got n t (tidy_s d) (tidy_s b) (λ e. ((g.0.0, x.0, y.0), (g.1.0, x.1, y.1), (x.2, y.2))) (λ e. y)
    tidy_got (switch n k t x₀ y₀ z₀) g =
        let x = tidy_got x₀ (g.0.1, g.1.1, g.2.0) in
        let y = tidy_got y₀ (g.0.2, g.1.2, g.2.1) in
        let z = tidy_got z₀ (g.0.3, g.1.3, g.2.2) in
        ((g.0.0, x.0, y.0, z.0), (g.1.0, x.1, y.1, z.1), (x.2, y.2, z.2))
    tidy_got (group n k x₀ brs) g =
        let x = tidy_got x₀ (g.0.1, g.1.1, g.2.0) in
        let y = tidy_got_b brs (g.0.2, g.1.2, g.2.1) in
        ((some_branch brs g.0.0, x.0, y.0), (g.1.0, x.1, y.1), (x.2, y.2))
    tidy_got (until n x₀ cs) g =
        let x = tidy_got x₀ (g.0.1, g.1.1, g.2.0) in
        let y = tidy_got_c cs (g.0.2, g.1.2, g.2.1) in
        ((some_case cs g.0.0, x.0, y.0), (g.1.0, x.1, y.1), (x.2, y.2))

    pub tidy_got_b : (s : Branches) → GotB s → GotB (tidy_b s)
    tidy_got_b no_branch g = g
    tidy_got_b (branch n t x₀ brs) g =
        let x = tidy_got x₀ (g.0.1, g.1.1, g.2.0) in
        let y = tidy_got_b brs (g.0.2, g.1.2, g.2.1) in
        ((g.0.0, x.0, y.0), (g.1.0, x.1, y.1), (x.2, y.2))

    pub tidy_got_c : (s : Cases) → GotC s → GotC (tidy_c s)
    tidy_got_c no_case g = g
    tidy_got_c (case n x₀ target t cs) g =
        let x = tidy_got x₀ (g.0.1, g.1.1, g.2.1) in
        let y = tidy_got_c cs (g.0.2, g.1.2, g.2.2) in
        ((g.0.0, x.0, y.0), (g.1.0, x.1, y.1), (g.2.0, x.2, y.2))

-- No number stands more often.
module _ (own : ℕ → ℕ) where
  sum_over : (n t a b : ℕ) (d s : Signal) → sum_s d own ≤ a → sum_s s own ≤ b → sum_s (let_over n t d s) own ≤ own n + a + b
  unfolding sum_s
  sum_over n t a b d s h g = over (λ r. sum_s r own ≤ own n + a + b) n t d s (λ e. omega arith) (λ e. omega arith)

  mutual
    unfolding tidy_s sum_s

    pub tidy_sum : (s : Signal) → sum_s (tidy_s s) own ≤ sum_s s own
    tidy_sum (input n c) = omega arith
    tidy_sum (time n) = omega arith
    tidy_sum (ext n e) = omega arith
    tidy_sum (delay n k v s) = let x = tidy_sum s in omega arith
    tidy_sum (let_signal n t d b) = sum_over n t _ _ (tidy_s d) (tidy_s b) (tidy_sum d) (tidy_sum b)
    tidy_sum (switch n k t x₀ y₀ z₀) = let x = tidy_sum x₀ in let y = tidy_sum y₀ in let z = tidy_sum z₀ in omega arith
    tidy_sum (group n k x₀ brs) = let x = tidy_sum x₀ in let y = tidy_sum_b brs in omega arith
    tidy_sum (until n x₀ cs) = let x = tidy_sum x₀ in let y = tidy_sum_c cs in omega arith

    pub tidy_sum_b : (s : Branches) → sum_b (tidy_b s) own ≤ sum_b s own
    tidy_sum_b no_branch = omega arith
    tidy_sum_b (branch n t x₀ brs) = let x = tidy_sum x₀ in let y = tidy_sum_b brs in omega arith

    pub tidy_sum_c : (s : Cases) → sum_c (tidy_c s) own ≤ sum_c s own
    tidy_sum_c no_case = omega arith
    tidy_sum_c (case n x₀ target t cs) = let x = tidy_sum x₀ in let y = tidy_sum_c cs in omega arith

-- What the tidied tree names is in it.
module _ (P : ℕ → Type 0) where
  abbrev All : List ℕ → Type 0
  All xs = (x : ℕ) → In x xs → P x

  abbrev Marked : Marks → (ℕ → Bool) → Type 0
  Marked Γ uses = (x : ℕ) → uses x ≡ true → is_marked Γ x ≡ true → P x

  abbrev Offered : Offers → Type 0
  Offered Δ = (x : ℕ) → is_offered x Δ ≡ true → P x

  l1 : (xs : List ℕ) (n : ℕ) → All (xs ++ n ∷ []) → All xs
  l1 xs n h x i = h x (in_left x xs (n ∷ []) i)

  top1 : (xs : List ℕ) (n : ℕ) → All (xs ++ n ∷ []) → P n
  top1 xs n h = h n (in_last n xs)

  l2 : (xs ys : List ℕ) → All (xs ++ ys) → All xs
  l2 xs ys h x i = h x (in_left x xs ys i)

  r2 : (xs ys : List ℕ) → All (xs ++ ys) → All ys
  r2 xs ys h x i = h x (in_right x xs ys i)

  bind : (Γ : Marks) (uses : ℕ → Bool) (n : ℕ) → P n → Marked Γ uses → Marked (mark Γ n) uses
  bind Γ uses n h g x u i = go (ℕ_discrete x n)
    where
      go : Dec (x ≡ n) → P x
      go (yes e) = subst P (sym e) h
      go (no d) = g x u (sym (mark_other Γ n x d) ∙ i)

  unbind : (Γ : Marks) (uses : ℕ → Bool) (n : ℕ) → uses n ≡ false → Marked Γ uses → Marked (mark Γ n) uses
  unbind Γ uses n h g x u i = go (ℕ_discrete x n)
    where
      go : Dec (x ≡ n) → P x
      go (yes e) = absurd (not_both (sym h ∙ ap uses (sym e) ∙ u))
      go (no d) = g x u (sym (mark_other Γ n x d) ∙ i)

  no_offer : Offered []
  unfolding is_offered
  no_offer x e = absurd (not_both e)

  or_either : (a b : Bool) → (a or b) ≡ true → (a ≡ true) ⊎ (b ≡ true)
  unfolding ◌or◌
  or_either true b e = inl refl
  or_either false b e = inr e

  has_in : (brs : Branches) (x : ℕ) → has_branch x brs ≡ true → In x (order_b (tidy_b brs))
  unfolding has_branch order_s tidy_s
  has_in no_branch x e = absurd (not_both e)
  has_in (branch n t body next) x e = go (or_either (eqb n x) (has_branch x next) e) (λ i. has_in next x i)
    where
      go : (eqb n x ≡ true) ⊎ (has_branch x next ≡ true) → (has_branch x next ≡ true → In x (order_b (tidy_b next))) → In x (order_s (tidy_s body) ++ order_b (tidy_b next) ++ n ∷ [])
      go (inl i) more = subst (λ (y : ℕ). In y (order_s (tidy_s body) ++ order_b (tidy_b next) ++ n ∷ [])) (eqb-true n x i) (in_last n (order_s (tidy_s body) ++ order_b (tidy_b next)))
      go (inr i) more = in_left x (order_s (tidy_s body) ++ order_b (tidy_b next)) (n ∷ []) (in_right x (order_s (tidy_s body)) (order_b (tidy_b next)) (more i))

  -- What a group offers its parts: its own branches, beside what it hands on.
  handed : (ed : ℕ) (Δ : Offers) → Offered Δ → Offered (onward ed Δ)
  unfolding onward
  handed zero Δ o = no_offer
  handed (suc ed) Δ o = o

  onwards : (ed : ℕ) (Δ : Offers) → Offered Δ → (brs : Branches) → All (order_b (tidy_b brs)) → Offered (brs ∷ onward ed Δ)
  unfolding is_offered
  onwards ed Δ o brs h x e = go (or_either (has_branch x brs) (is_offered x (onward ed Δ)) e)
    where
      go : (has_branch x brs ≡ true) ⊎ (is_offered x (onward ed Δ) ≡ true) → P x
      go (inl i) = h x (has_in brs x i)
      go (inr i) = handed ed Δ o x i

  each_e : (e : Expr) (Γ : Marks) → scope_e Γ e ≡ None → All (order_e e) → Marked Γ (λ x. uses_e x e) → EachE P e
  unfolding scope_e order_e uses_e
  each_e (variable n b t) Γ s h g = g b (eq-eqb b b refl) (holds _ n s)
  each_e (constant n v) Γ s h g = tt
  each_e (operation n k x y) Γ s h g =
      let z = both _ _ s in
      let a = l1 (order_e x ++ order_e y) n h in
      (each_e x Γ z.0 (l2 (order_e x) (order_e y) a) (λ v u. g v (or_left _ _ u)), each_e y Γ z.1 (r2 (order_e x) (order_e y) a) (λ v u. g v (or_right _ _ u)))
  each_e (negation n x) Γ s h g = each_e x Γ s (l1 (order_e x) n h) g
  each_e (choice n x y w) Γ s h g =
      let z = both _ _ s in
      let z₁ = both _ _ z.1 in
      let a = l1 (order_e x ++ order_e y ++ order_e w) n h in
      let b = l2 (order_e x ++ order_e y) (order_e w) a in (
        each_e x Γ z.0 (l2 (order_e x) (order_e y) b) (λ v u. g v (or_left _ _ (or_left _ _ u))),
        each_e y Γ z₁.0 (r2 (order_e x) (order_e y) b) (λ v u. g v (or_left _ _ (or_right _ _ u))),
        each_e w Γ z₁.1 (r2 (order_e x ++ order_e y) (order_e w) a) (λ v u. g v (or_right _ _ u)),
      )
  each_e (just n x) Γ s h g = each_e x Γ s (l1 (order_e x) n h) g
  each_e (taking n t x y w) Γ s h g =
      let z = both _ _ s in
      let z₁ = both _ _ z.1 in
      let a = l1 (order_e x ++ order_e y ++ order_e w) n h in
      let b = l2 (order_e x ++ order_e y) (order_e w) a in (
        each_e x Γ z.0 (l2 (order_e x) (order_e y) b) (λ v u. g v (or_left _ _ (or_left _ _ u))),
        each_e y Γ z₁.0 (r2 (order_e x) (order_e y) b) (λ v u. g v (or_left _ _ (or_right _ _ u))),
        each_e w (mark Γ n) z₁.1 (r2 (order_e x ++ order_e y) (order_e w) a)
            (bind Γ (λ v. uses_e v w) n (top1 (order_e x ++ order_e y ++ order_e w) n h) (λ v u. g v (or_right _ _ u))),
      )

  abbrev Goal : Marks → Signal → Type 0
  Goal Γ r = All (order_s r) → Marked Γ (λ x. uses_s x r) → EachS r P

  mutual
    unfolding scope_s order_s uses_s tidy_s

    pub tidy_each : (s : Signal) (ed : ℕ) (Γ : Marks) (Δ : Offers) → scope_s ed Γ Δ s ≡ None → Offered Δ → Goal Γ (tidy_s s)
    tidy_each (input n c) ed Γ Δ s o h g = tt
    tidy_each (time n) ed Γ Δ s o h g = tt
    tidy_each (ext n e) ed Γ Δ s o h g = each_e e Γ s (l1 (order_e e) n h) g
    tidy_each (delay n k v x) ed Γ Δ s o h g = tidy_each x ed Γ [] s no_offer (l1 (order_s (tidy_s x)) n h) g
    tidy_each (let_signal n t x y) ed Γ Δ s o h g =
        let z = both _ _ s in
        over (Goal Γ) n t (tidy_s x) (tidy_s y)
        (λ e h g.
        let a = l1 (order_s (tidy_s x) ++ order_s (tidy_s y)) n h in
        let m = top1 (order_s (tidy_s x) ++ order_s (tidy_s y)) n h in (
          tidy_each x ed (mark Γ n) [] z.0 no_offer (l2 (order_s (tidy_s x)) (order_s (tidy_s y)) a) (bind Γ (λ v. uses_s v (tidy_s x)) n m (λ v u. g v (or_left _ _ u))),
          tidy_each y ed (mark Γ n) Δ z.1 o (r2 (order_s (tidy_s x)) (order_s (tidy_s y)) a) (bind Γ (λ v. uses_s v (tidy_s y)) n m (λ v u. g v (or_right _ _ u))),
        ))
        (λ e h g. tidy_each y ed (mark Γ n) Δ z.1 o h (unbind Γ (λ v. uses_s v (tidy_s y)) n e g)) h g
    tidy_each (switch n k t x y w) ed Γ Δ s o h g =
        let z = both _ _ s in
        let z₁ = both _ _ z.1 in
        let a = l1 (order_s (tidy_s x) ++ order_s (tidy_s y) ++ order_s (tidy_s w)) n h in
        let b = l2 (order_s (tidy_s x) ++ order_s (tidy_s y)) (order_s (tidy_s w)) a in (
          tidy_each x ed Γ [] z.0 no_offer (l2 (order_s (tidy_s x)) (order_s (tidy_s y)) b) (λ v u. g v (or_left _ _ (or_left _ _ u))),
          tidy_each y ed Γ [] z₁.0 no_offer (r2 (order_s (tidy_s x)) (order_s (tidy_s y)) b) (λ v u. g v (or_left _ _ (or_right _ _ u))),
          tidy_each w ed (mark Γ n) [] z₁.1 no_offer (r2 (order_s (tidy_s x) ++ order_s (tidy_s y)) (order_s (tidy_s w)) a)
              (bind Γ (λ v. uses_s v (tidy_s w)) n (top1 (order_s (tidy_s x) ++ order_s (tidy_s y) ++ order_s (tidy_s w)) n h) (λ v u. g v (or_right _ _ u))),
        )
    tidy_each (group n k x brs) ed Γ Δ s o h g =
        let z = both _ _ s in
        let a = l1 (order_s (tidy_s x) ++ order_b (tidy_b brs)) n h in
        let r = r2 (order_s (tidy_s x)) (order_b (tidy_b brs)) a in (
          tidy_each x ed Γ (brs ∷ onward ed Δ) z.0 (onwards ed Δ o brs r) (l2 (order_s (tidy_s x)) (order_b (tidy_b brs)) a) (λ v u. g v (or_left _ _ u)),
          tidy_each_b brs ed Γ (brs ∷ onward ed Δ) z.1 (onwards ed Δ o brs r) r (λ v u. g v (or_right _ _ u)),
        )
    tidy_each (until n x cs) ed Γ Δ s o h g =
        let z = both _ _ s in
        let a = l1 (order_s (tidy_s x) ++ order_c (tidy_c cs)) n h in (
          tidy_each x ed Γ [] z.0 no_offer (l2 (order_s (tidy_s x)) (order_c (tidy_c cs)) a) (λ v u. g v (or_left _ _ u)),
          tidy_each_c cs ed Γ Δ z.1 o (r2 (order_s (tidy_s x)) (order_c (tidy_c cs)) a) (λ v u. g v (or_right _ _ u)),
        )

    pub tidy_each_b : (s : Branches) (ed : ℕ) (Γ : Marks) (Δ : Offers) → scope_b ed Γ Δ s ≡ None → Offered Δ → All (order_b (tidy_b s)) → Marked Γ (λ x. uses_b x (tidy_b s)) → EachB (tidy_b s) P
    tidy_each_b no_branch ed Γ Δ s o h g = tt
    tidy_each_b (branch n t x brs) ed Γ Δ s o h g =
        let z = both _ _ s in
        let a = l1 (order_s (tidy_s x) ++ order_b (tidy_b brs)) n h in (
          tidy_each x ed (mark Γ n) Δ z.0 o (l2 (order_s (tidy_s x)) (order_b (tidy_b brs)) a)
              (bind Γ (λ v. uses_s v (tidy_s x)) n (top1 (order_s (tidy_s x) ++ order_b (tidy_b brs)) n h) (λ v u. g v (or_left _ _ u))),
          tidy_each_b brs ed Γ Δ z.1 o (r2 (order_s (tidy_s x)) (order_b (tidy_b brs)) a) (λ v u. g v (or_right _ _ u)),
        )

    pub tidy_each_c : (s : Cases) (ed : ℕ) (Γ : Marks) (Δ : Offers) → scope_c ed Γ Δ s ≡ None → Offered Δ → All (order_c (tidy_c s)) → Marked Γ (λ x. uses_c x (tidy_c s)) → EachC (tidy_c s) P
    tidy_each_c no_case ed Γ Δ s o h g = tt
    tidy_each_c (case n x target t cs) ed Γ Δ s o h g =
        let z = both _ _ s in
        let z₁ = both _ _ z.1 in
        let a = l1 (order_s (tidy_s x) ++ order_c (tidy_c cs)) n h in (
          o target (holds _ n z.0),
          tidy_each x ed Γ [] z₁.0 no_offer (l2 (order_s (tidy_s x)) (order_c (tidy_c cs)) a) (λ v u. g v (or_left _ _ u)),
          tidy_each_c cs ed Γ Δ z₁.1 o (r2 (order_s (tidy_s x)) (order_c (tidy_c cs)) a) (λ v u. g v (or_right _ _ u)),
        )
