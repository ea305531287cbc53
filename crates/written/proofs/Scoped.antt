-- In a tree that is in scope each binder and target that is named is a node of the tree.
-- Assumes nothing.
use Rattle.std.specs.Prelude.{None}
use mathlib.Core.Path.{◌≡◌, refl, sym, ap, ◌∙◌, subst}
use mathlib.Core.List.{List, [], ◌∷◌, ◌++◌}
use mathlib.Core.Bool.{Bool, true, false}
use mathlib.Core.Logic.{◌⊎◌, inl, inr}
use Prim.Native.Nat.{ℕ, zero, suc}
use native.Mathlib.Decide.{ℕ_discrete}
use lib.Dec.{eqb}
use lib.ListN.{get_or, set, replicate}
use lib.Seq.{get_or-set_other}
use borrow.Author.Tests.{eqb-true}
use Rattle.rules.specs.Bytes.{◌or◌}
use Rattle.rules.specs.Layout.{most_nodes}
use Rattle.rules.specs.Tree.{Expr, variable, constant, operation, negation, choice, just, taking, Signal, input, time, ext, delay, let_signal, switch, group, until, Branches, no_branch, branch, Cases, no_case, case}
use Rattle.rules.specs.Scope.{Marks, mark, is_marked, unmarked, Offers, has_branch, is_offered, onward, scope_e, scope_s, scope_b, scope_c}
use Rattle.rules.proofs.Static.{both, holds, not_both}
use Rattle.written.specs.Order.{order_e, order_s, order_b, order_c, In}
use Rattle.written.specs.Right.{EachE, EachS, EachB, EachC}
use Rattle.written.proofs.Places.{in_left, in_right, in_last}

mark_other : (Γ : Marks) (n x : ℕ) → (x ≡ n → ⊥) → is_marked (mark Γ n) x ≡ is_marked Γ x
unfolding is_marked mark
mark_other Γ n x d = ap (λ (v : ℕ). eqb v 1) (get_or-set_other Γ n x 1 0 d)

none_there : (count b : ℕ) → ◌≡◌ {A = ℕ} (get_or (replicate count 0) b 0) 0
none_there ℕ.zero b = refl
none_there (ℕ.suc c) ℕ.zero = refl
none_there (ℕ.suc c) (ℕ.suc b) = none_there c b

pub none_marked : (count b : ℕ) → is_marked (unmarked count) b ≡ true → ⊥
unfolding is_marked unmarked
none_marked count b e = not_both (sym (ap (λ (m : ℕ). eqb m 1) (none_there count b)) ∙ e)

module _ (P : ℕ → Type 0) where
  abbrev All : List ℕ → Type 0
  All xs = (x : ℕ) → In x xs → P x

  abbrev Marked : Marks → Type 0
  Marked Γ = (x : ℕ) → is_marked Γ x ≡ true → P x

  abbrev Offered : Offers → Type 0
  Offered Δ = (x : ℕ) → is_offered x Δ ≡ true → P x

  -- Parts of a node's order.
  l1 : (xs : List ℕ) (n : ℕ) → All (xs ++ n ∷ []) → All xs
  l1 xs n h x i = h x (in_left x xs (n ∷ []) i)

  top1 : (xs : List ℕ) (n : ℕ) → All (xs ++ n ∷ []) → P n
  top1 xs n h = h n (in_last n xs)

  l2 : (xs ys : List ℕ) → All (xs ++ ys) → All xs
  l2 xs ys h x i = h x (in_left x xs ys i)

  r2 : (xs ys : List ℕ) → All (xs ++ ys) → All ys
  r2 xs ys h x i = h x (in_right x xs ys i)

  bind : (Γ : Marks) (n : ℕ) → P n → Marked Γ → Marked (mark Γ n)
  bind Γ n h g x i = go (ℕ_discrete x n)
    where
      go : Dec (x ≡ n) → P x
      go (yes e) = subst P (sym e) h
      go (no d) = g x (sym (mark_other Γ n x d) ∙ i)

  no_offer : Offered []
  unfolding is_offered
  no_offer x e = absurd (not_both e)

  or_either : (a b : Bool) → (a or b) ≡ true → (a ≡ true) ⊎ (b ≡ true)
  unfolding ◌or◌
  or_either true b e = inl refl
  or_either false b e = inr e

  has_in : (brs : Branches) (x : ℕ) → has_branch x brs ≡ true → In x (order_b brs)
  unfolding has_branch order_s
  has_in no_branch x e = absurd (not_both e)
  has_in (branch n t body next) x e = go (or_either (eqb n x) (has_branch x next) e) (λ i. has_in next x i)
    where
      go : (eqb n x ≡ true) ⊎ (has_branch x next ≡ true) → (has_branch x next ≡ true → In x (order_b next)) → In x (order_s body ++ order_b next ++ n ∷ [])
      go (inl i) more = subst (λ (y : ℕ). In y (order_s body ++ order_b next ++ n ∷ [])) (eqb-true n x i) (in_last n (order_s body ++ order_b next))
      go (inr i) more = in_left x (order_s body ++ order_b next) (n ∷ []) (in_right x (order_s body) (order_b next) (more i))

  -- What a group offers its parts: its own branches, beside what it hands on.
  handed : (ed : ℕ) (Δ : Offers) → Offered Δ → Offered (onward ed Δ)
  unfolding onward
  handed zero Δ o = no_offer
  handed (suc ed) Δ o = o

  onwards : (ed : ℕ) (Δ : Offers) → Offered Δ → (brs : Branches) → All (order_b brs) → Offered (brs ∷ onward ed Δ)
  unfolding is_offered
  onwards ed Δ o brs h x e = go (or_either (has_branch x brs) (is_offered x (onward ed Δ)) e)
    where
      go : (has_branch x brs ≡ true) ⊎ (is_offered x (onward ed Δ) ≡ true) → P x
      go (inl i) = h x (has_in brs x i)
      go (inr i) = handed ed Δ o x i

  each_e : (e : Expr) (Γ : Marks) → scope_e Γ e ≡ None → All (order_e e) → Marked Γ → EachE P e
  unfolding scope_e order_e
  each_e (variable n b t) Γ s h g = g b (holds _ n s)
  each_e (constant n v) Γ s h g = tt
  each_e (operation n k x y) Γ s h g =
      let z = both _ _ s in
      let a = l1 (order_e x ++ order_e y) n h in
      (each_e x Γ z.0 (l2 (order_e x) (order_e y) a) g, each_e y Γ z.1 (r2 (order_e x) (order_e y) a) g)
  each_e (negation n x) Γ s h g = each_e x Γ s (l1 (order_e x) n h) g
  each_e (choice n x y w) Γ s h g =
      let z = both _ _ s in
      let z₁ = both _ _ z.1 in
      let a = l1 (order_e x ++ order_e y ++ order_e w) n h in
      let b = l2 (order_e x ++ order_e y) (order_e w) a in
      (each_e x Γ z.0 (l2 (order_e x) (order_e y) b) g, each_e y Γ z₁.0 (r2 (order_e x) (order_e y) b) g, each_e w Γ z₁.1 (r2 (order_e x ++ order_e y) (order_e w) a) g)
  each_e (just n x) Γ s h g = each_e x Γ s (l1 (order_e x) n h) g
  each_e (taking n t x y w) Γ s h g =
      let z = both _ _ s in
      let z₁ = both _ _ z.1 in
      let a = l1 (order_e x ++ order_e y ++ order_e w) n h in
      let b = l2 (order_e x ++ order_e y) (order_e w) a in (
        each_e x Γ z.0 (l2 (order_e x) (order_e y) b) g,
        each_e y Γ z₁.0 (r2 (order_e x) (order_e y) b) g,
        each_e w (mark Γ n) z₁.1 (r2 (order_e x ++ order_e y) (order_e w) a) (bind Γ n (top1 (order_e x ++ order_e y ++ order_e w) n h) g),
      )

  mutual
    unfolding scope_s order_s

    pub each_s : (s : Signal) (ed : ℕ) (Γ : Marks) (Δ : Offers) → scope_s ed Γ Δ s ≡ None → All (order_s s) → Marked Γ → Offered Δ → EachS s P
    each_s (input n c) ed Γ Δ s h g o = tt
    each_s (time n) ed Γ Δ s h g o = tt
    each_s (ext n e) ed Γ Δ s h g o = each_e e Γ s (l1 (order_e e) n h) g
    each_s (delay n k v x) ed Γ Δ s h g o = each_s x ed Γ [] s (l1 (order_s x) n h) g no_offer
    each_s (let_signal n t x y) ed Γ Δ s h g o =
        let z = both _ _ s in
        let a = l1 (order_s x ++ order_s y) n h in
        let m = bind Γ n (top1 (order_s x ++ order_s y) n h) g in
        (each_s x ed (mark Γ n) [] z.0 (l2 (order_s x) (order_s y) a) m no_offer, each_s y ed (mark Γ n) Δ z.1 (r2 (order_s x) (order_s y) a) m o)
    each_s (switch n k t x y w) ed Γ Δ s h g o =
        let z = both _ _ s in
        let z₁ = both _ _ z.1 in
        let a = l1 (order_s x ++ order_s y ++ order_s w) n h in
        let b = l2 (order_s x ++ order_s y) (order_s w) a in (
          each_s x ed Γ [] z.0 (l2 (order_s x) (order_s y) b) g no_offer,
          each_s y ed Γ [] z₁.0 (r2 (order_s x) (order_s y) b) g no_offer,
          each_s w ed (mark Γ n) [] z₁.1 (r2 (order_s x ++ order_s y) (order_s w) a) (bind Γ n (top1 (order_s x ++ order_s y ++ order_s w) n h) g) no_offer,
        )
    each_s (group n k x brs) ed Γ Δ s h g o =
        let z = both _ _ s in
        let a = l1 (order_s x ++ order_b brs) n h in
        let r = r2 (order_s x) (order_b brs) a in
        (each_s x ed Γ (brs ∷ onward ed Δ) z.0 (l2 (order_s x) (order_b brs) a) g (onwards ed Δ o brs r), each_b brs ed Γ (brs ∷ onward ed Δ) z.1 r g (onwards ed Δ o brs r))
    each_s (until n x cs) ed Γ Δ s h g o =
        let z = both _ _ s in
        let a = l1 (order_s x ++ order_c cs) n h in
        (each_s x ed Γ [] z.0 (l2 (order_s x) (order_c cs) a) g no_offer, each_c cs ed Γ Δ z.1 (r2 (order_s x) (order_c cs) a) g o)

    pub each_b : (brs : Branches) (ed : ℕ) (Γ : Marks) (Δ : Offers) → scope_b ed Γ Δ brs ≡ None → All (order_b brs) → Marked Γ → Offered Δ → EachB brs P
    each_b no_branch ed Γ Δ s h g o = tt
    each_b (branch n t x brs) ed Γ Δ s h g o =
        let z = both _ _ s in
        let a = l1 (order_s x ++ order_b brs) n h in
        let m = bind Γ n (top1 (order_s x ++ order_b brs) n h) g in
        (each_s x ed (mark Γ n) Δ z.0 (l2 (order_s x) (order_b brs) a) m o, each_b brs ed Γ Δ z.1 (r2 (order_s x) (order_b brs) a) g o)

    pub each_c : (cs : Cases) (ed : ℕ) (Γ : Marks) (Δ : Offers) → scope_c ed Γ Δ cs ≡ None → All (order_c cs) → Marked Γ → Offered Δ → EachC cs P
    each_c no_case ed Γ Δ s h g o = tt
    each_c (case n x target t cs) ed Γ Δ s h g o =
        let z = both _ _ s in
        let z₁ = both _ _ z.1 in
        let a = l1 (order_s x ++ order_c cs) n h in
        (o target (holds _ n z.0), each_s x ed Γ [] z₁.0 (l2 (order_s x) (order_c cs) a) g no_offer, each_c cs ed Γ Δ z₁.1 (r2 (order_s x) (order_c cs) a) g o)

-- Every binder and target is in the tree's order.
pub named_inside : (e₀ : ℕ) (s : Signal) → scope_s e₀ (unmarked most_nodes) [] s ≡ None → EachS s (λ b. In b (order_s s))
named_inside e₀ s h = each_s (λ b. In b (order_s s)) s e₀ (unmarked most_nodes) [] h (λ x i. i) (λ x i. absurd (none_marked most_nodes x i)) (no_offer (λ b. In b (order_s s)))
