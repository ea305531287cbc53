-- Contexts of types beside the marks and the offered groups of the definitions: the same names, with the declared types.
-- Assumes nothing.
use mathlib.Core.Path.{◌≡◌, refl, sym, ap, subst, ◌∙◌}
use mathlib.Core.List.{[], ◌∷◌}
use mathlib.Core.Bool.{true}
use Prim.Native.Nat.{ℕ, zero, suc, ◌<◌}
use native.Mathlib.Omega.{arith}
use lib.Dec.{eqb}
use lib.ListN.{length, length-set}
use lib.Seq.{get_or-set_same, get_or-set_other}
use borrow.Author.Tests.{eqb-true, eq-eqb}
use Rattle.rules.specs.Bytes.{◌or◌}
use Rattle.rules.specs.Layout.{most_nodes}
use Rattle.rules.specs.Tree.{Branches, no_branch, branch}
use Rattle.rules.specs.Scope.{Marks, mark, is_marked, Offers, onward, is_offered, has_branch}
use Rattle.rules.proofs.Static.{not_both, or_left, or_right}
use Rattle.rules.proofs.ByKind.{choose}
use Rattle.declarative.specs.Contexts.{Context, none, with, Has, here, earlier, beyond, offered}
use Rattle.declarative.proofs.Joining.{by_either}
use Rattle.declarative.proofs.Declares.{Binder, DeclaresB}

-- What a mark does to the marks.
pub marked_own : (M : Marks) (n : ℕ) → n < length M → is_marked (mark M n) n ≡ true
unfolding is_marked mark
marked_own M n h = eq-eqb _ _ (get_or-set_same M n 1 0 h)

-- Every other place is as it was.
pub marked_other : (M : Marks) (n x : ℕ) → (x ≡ n → ⊥) → is_marked (mark M n) x ≡ is_marked M x
unfolding is_marked mark
marked_other M n x d = ap (λ (v : ℕ). eqb v 1) (get_or-set_other M n x 1 0 d)

-- What was marked stays marked.
pub marked_kept : (M : Marks) (n x : ℕ) → n < length M → is_marked M x ≡ true → is_marked (mark M n) x ≡ true
marked_kept M n x h e =
    choose x n (λ (q : x ≡ n). subst (λ (y : ℕ). is_marked (mark M n) y ≡ true) (sym q) (marked_own M n h)) (λ d. marked_other M n x d ∙ e)

-- The marks stay as long.
pub mark_long : (M : Marks) (n : ℕ) → length (mark M n) ≡ length M
unfolding mark
mark_long M n = length-set M n 1

-- The variables: Γ gives exactly the marked binders their declared types.
pub record Variables (τ : ℕ → ℕ) (M : Marks) (Γ : Context) : Type 0 where
  pub long : length M ≡ most_nodes
  pub marked : (x g : ℕ) → Has x g Γ → (is_marked M x ≡ true) × (g ≡ τ x)
  pub given₀ : (x : ℕ) → is_marked M x ≡ true → Has x (τ x) Γ

-- A binder more.
mark_has : (τ : ℕ → ℕ) (M : Marks) (Γ : Context) (n t x g : ℕ) → Binder τ n t → Variables τ M Γ → Has x g (with Γ n t)
    → (is_marked (mark M n) x ≡ true) × (g ≡ τ x)
mark_has τ M Γ n t x g b v here = (marked_own M n (omega (arith, b.inside, v.long)), b.declared)
mark_has τ M Γ n t x g b v (earlier h) =
    let k = v.marked x g h in
    (marked_kept M n x (omega (arith, b.inside, v.long)) k.0, k.1)

-- And each marked binder is in the context.
has_mark : (τ : ℕ → ℕ) (M : Marks) (Γ : Context) (n t x : ℕ) → Binder τ n t → Variables τ M Γ → is_marked (mark M n) x ≡ true
    → Has x (τ x) (with Γ n t)
has_mark τ M Γ n t x b v e =
    choose x n
    (λ (q : x ≡ n). subst (λ (g : ℕ). Has x g (with Γ n t)) (b.declared ∙ ap τ (sym q)) (subst (λ (y : ℕ). Has y t (with Γ n t)) (sym q) here))
    (λ d. earlier (v.given₀ x (sym (marked_other M n x d) ∙ e)))

-- So the two go on agreeing below a binder.
pub bound : (τ : ℕ → ℕ) (M : Marks) (Γ : Context) (n t : ℕ) → Binder τ n t → Variables τ M Γ → Variables τ (mark M n) (with Γ n t)
bound τ M Γ n t b v = record {
  long = mark_long M n ∙ v.long;
  marked = λ x g h. mark_has τ M Γ n t x g b v h;
  given₀ = λ x e. has_mark τ M Γ n t x b v e;
}

-- The continuations: Δ gives exactly the offered branches the types of their arguments.
pub record Continuations (τ : ℕ → ℕ) (O : Offers) (Δ : Context) : Type 0 where
  pub offers : (k g : ℕ) → Has k g Δ → (is_offered k O ≡ true) × (g ≡ τ k)
  pub given₀ : (k : ℕ) → is_offered k O ≡ true → Has k (τ k) Δ

-- Nothing is offered.
pub none_has : {x g : ℕ} {A : Type 0} → Has x g none → A
none_has = elim [ ]

-- So a part that no case leaves has the empty context.
pub no_continuation : (τ : ℕ → ℕ) → Continuations τ [] none
unfolding is_offered
no_continuation τ = record { offers = λ k g h. none_has h; given₀ = λ k e. absurd (not_both e) }

-- What a group hands on.
handed : (τ : ℕ → ℕ) (ed : ℕ) {O : Offers} {Δ : Context} → Continuations τ O Δ → Continuations τ (onward ed O) (beyond ed Δ)
unfolding onward beyond
handed τ zero c = no_continuation τ
handed τ (suc ed) c = c

-- One branch more.
branch_has : (τ : ℕ → ℕ) (n t k g : ℕ) (Δ : Context) (brs : Branches) (O : Offers) → Binder τ n t
    → (Has k g Δ → ((has_branch k brs or is_offered k O) ≡ true) × (g ≡ τ k)) → Has k g (with Δ n t)
    → (((eqb n k or has_branch k brs) or is_offered k O) ≡ true) × (g ≡ τ k)
branch_has τ n t k g Δ brs O b ih here = (or_left _ _ (or_left _ _ (eq-eqb n n refl)), b.declared)
branch_has τ n t k g Δ brs O b ih (earlier h) =
    let r = ih h in
    (by_either _ _ r.0 (λ q. or_left _ _ (or_right (eqb n k) _ q)) (λ q. or_right (eqb n k or has_branch k brs) _ q), r.1)

-- Each name that the list gives is one of its branches, with its argument's type, or is given beside it.
list_has : (τ : ℕ → ℕ) (Δ : Context) (O : Offers) (k g : ℕ) → (Has k g Δ → (is_offered k O ≡ true) × (g ≡ τ k))
    → (brs : Branches) → DeclaresB τ brs → Has k g (offered Δ brs) → ((has_branch k brs or is_offered k O) ≡ true) × (g ≡ τ k)
unfolding offered has_branch ◌or◌
list_has τ Δ O k g far no_branch d h = far h
list_has τ Δ O k g far (branch n t body next) d h =
    branch_has τ n t k g (offered Δ next) next O d.0 (λ i. list_has τ Δ O k g far next d.2 i) h

-- Each branch of the list is given,
has_list : (τ : ℕ → ℕ) (Δ : Context) (brs : Branches) → DeclaresB τ brs → (k : ℕ) → has_branch k brs ≡ true → Has k (τ k) (offered Δ brs)
unfolding offered has_branch
has_list τ Δ no_branch d k e = absurd (not_both e)
has_list τ Δ (branch n t body next) d k e =
    by_either _ _ e
    (λ q. let z : n ≡ k = eqb-true n k q in
    subst (λ (g : ℕ). Has k g (with (offered Δ next) n t)) (d.0.declared ∙ ap τ z) (subst (λ (y : ℕ). Has y t (with (offered Δ next) n t)) z here))
    (λ q. earlier (has_list τ Δ next d.2 k q))

-- and what is given beside it.
has_far : {k g : ℕ} {Δ : Context} (brs : Branches) → Has k g Δ → Has k g (offered Δ brs)
unfolding offered
has_far no_branch h = h
has_far (branch n t body next) h = earlier (has_far next h)

-- So the two agree in a group.
pub continuations : (τ : ℕ → ℕ) (ed : ℕ) (brs : Branches) → DeclaresB τ brs → {O : Offers} {Δ : Context} → Continuations τ O Δ
    → Continuations τ (brs ∷ onward ed O) (offered (beyond ed Δ) brs)
unfolding is_offered
continuations τ ed brs d {O} {Δ} c =
    let far = handed τ ed c in
    record {
      offers = λ k g h. list_has τ (beyond ed Δ) (onward ed O) k g (far.offers k g) brs d h;
      given₀ = λ k e. by_either _ _ e (λ q. has_list τ (beyond ed Δ) brs d k q) (λ q. has_far brs (far.given₀ k q));
    }
