-- In a tree that is in scope each variable's binder is open above it, and each case's target is a branch: as the text form needs it.
-- Assumes nothing.
use Rattle.std.specs.Prelude.{None}
use mathlib.Core.Path.{◌≡◌, refl, sym, ap, subst, ◌∙◌}
use mathlib.Core.Bool.{Bool, true, false}
use mathlib.Core.List.{[], ◌∷◌}
use Prim.Native.Nat.{ℕ, zero, suc, ◌+◌, ◌<◌, ◌≤◌}
use native.Mathlib.Omega.{arith}
use native.Mathlib.Decide.{ℕ_discrete}
use lib.Dec.{eqb}
use lib.Seq.{get_or-set_other}
use borrow.Author.Tests.{eqb-true, eq-eqb}
use Rattle.rules.specs.Bytes.{Bytes, ◌and◌, ◌or◌}
use Rattle.rules.specs.Layout.{kind_at, most_nodes}
use Rattle.rules.specs.Shape.{may_stop}
use Rattle.rules.specs.Kinds.{row, fields_of}
use Rattle.rules.specs.Size.{size_e, size_s, size_b}
use Rattle.rules.specs.Tree.{Expr, variable, constant, operation, negation, choice, just, taking, Signal, input, time, ext, delay, let_signal, switch, group, until, Branches, no_branch, branch, Cases, no_case, case}
use Rattle.rules.specs.Scope.{Marks, mark, is_marked, Offers, has_branch, is_offered, onward, scope_e, scope_s, scope_b, scope_c}
use Rattle.rules.specs.declared.Field.TheVariants.{FirstBranch, NextBranch, FirstCase, NextCase}
use Rattle.rules.proofs.Static.{both, holds, not_both}
use Rattle.written.specs.Parts.{Part, part, child, size_p, size_k, row_p}
use Rattle.written.specs.Parts as P
use Rattle.written.specs.Written.{part_e, part_s, slot_b, slot_c, placed_e, placed_s, placed_b, placed_c}
use Rattle.written.specs.Right.{Operates, RightE, RightS, RightB, RightC, HoldsP, HoldsK}
use Rattle.written.proofs.Parted.{operation_row, part_e_size, part_s_size, slot_b_size, slot_c_size}
use Rattle.texts.proofs.Decimals.{by_test}
use Rattle.texts.proofs.KindTests.{or_else}
use Rattle.texts.proofs.Laid.{Opens, opened_by}
use Rattle.texts.proofs.FromParts.{opens_for, OpenP, OpenK}

-- One binder more.
abbrev more : ℕ → Opens → Opens
more n opens m = eqb m n or opens m

-- What is marked is open.
abbrev pub Open : Marks → Opens → Type 0
Open Γ opens = (x : ℕ) → is_marked Γ x ≡ true → (opens x ≡ true) × (x < most_nodes)

mark_other : (Γ : Marks) (n x : ℕ) → (x ≡ n → ⊥) → is_marked (mark Γ n) x ≡ is_marked Γ x
unfolding is_marked mark
mark_other Γ n x d = ap (λ (v : ℕ). eqb v 1) (get_or-set_other Γ n x 1 0 d)

or_more : (a b : Bool) → b ≡ true → (a or b) ≡ true
unfolding ◌or◌
or_more true b e = refl
or_more false b e = e

open_more : (Γ : Marks) (opens : Opens) (n : ℕ) → Open Γ opens → Open Γ (more n opens)
open_more Γ opens n h x e = let o = h x e in (or_more (eqb x n) (opens x) o.0, o.1)

open_bind : (Γ : Marks) (opens : Opens) (n m : ℕ) → m ≡ n → n < 1008 → Open Γ opens → Open (mark Γ m) (more n opens)
unfolding ◌or◌
open_bind Γ opens n m z l h x e = go (ℕ_discrete x m)
  where
    go : Dec (x ≡ m) → (more n opens x ≡ true) × (x < most_nodes)
    go (yes d) = (rw (eq-eqb x n (d ∙ z)) refl, let y : x < 1008 = omega (arith, d, z) in y)
    go (no d) = let o = h x (sym (mark_other Γ m x d) ∙ e) in (or_more (eqb x n) (opens x) o.0, o.1)

module _ (q : Bytes) (targets : Opens) (N : ℕ) (few : N ≤ 1008) (hit : (m : ℕ) → m < N → kind_at q m ≡ 9 → targets m ≡ true) (e₀ : ℕ) (κ φ : ℕ → ℕ) where
  abbrev Offer : Offers → Type 0
  Offer Δ = (x : ℕ) → is_offered x Δ ≡ true → targets x ≡ true

  no_offer : Offer []
  unfolding is_offered
  no_offer x e = absurd (not_both e)

  -- Trees at equal places.
  moved_e : (Γ : Marks) (e : Expr) (l m : ℕ) → l ≡ m → scope_e Γ (placed_e φ e l) ≡ None → scope_e Γ (placed_e φ e m) ≡ None
  moved_e Γ e l m z h = subst (λ (x : ℕ). scope_e Γ (placed_e φ e x) ≡ None) z h

  moved : (Γ : Marks) (Δ : Offers) (s : Signal) (l m : ℕ) → l ≡ m → scope_s e₀ Γ Δ (placed_s s κ φ l) ≡ None → scope_s e₀ Γ Δ (placed_s s κ φ m) ≡ None
  moved Γ Δ s l m z h = subst (λ (x : ℕ). scope_s e₀ Γ Δ (placed_s s κ φ x) ≡ None) z h

  moved_b : (Γ : Marks) (Δ : Offers) (s : Branches) (l m : ℕ) → l ≡ m → scope_b e₀ Γ Δ (placed_b s κ φ l) ≡ None → scope_b e₀ Γ Δ (placed_b s κ φ m) ≡ None
  moved_b Γ Δ s l m z h = subst (λ (x : ℕ). scope_b e₀ Γ Δ (placed_b s κ φ x) ≡ None) z h

  moved_c : (Γ : Marks) (Δ : Offers) (s : Cases) (l m : ℕ) → l ≡ m → scope_c e₀ Γ Δ (placed_c s κ φ l) ≡ None → scope_c e₀ Γ Δ (placed_c s κ φ m) ≡ None
  moved_c Γ Δ s l m z h = subst (λ (x : ℕ). scope_c e₀ Γ Δ (placed_c s κ φ x) ≡ None) z h

  -- Expressions.
  two_open : (opens : Opens) (lo k : ℕ) (x y : Part) → Operates k → OpenP x targets opens lo → OpenP y targets opens (lo + size_p x)
      → OpenP (part k 0 0 (child x) (child y) (P.holds 0)) targets opens lo
  unfolding row opens_for opened_by may_stop size_p
  two_open opens lo k x y o a b = rw (operation_row k o) (a, b, tt)

  open_e : (e : Expr) (lo : ℕ) (Γ : Marks) (opens : Opens) → scope_e Γ (placed_e φ e lo) ≡ None → RightE φ e → lo + size_p (part_e φ e) ≤ N → Open Γ opens
      → OpenP (part_e φ e) targets opens lo
  unfolding part_e placed_e scope_e size_p fields_of row opens_for opened_by may_stop ◌and◌
  open_e (variable n b t) lo Γ opens s r l g = (g (φ b) (holds _ lo s), tt, tt)
  open_e (constant n v) lo Γ opens s r l g = (tt, tt, tt)
  open_e (operation n k x y) lo Γ opens s r l g =
      let z = both _ _ s in
      let u = part_e_size φ x in
      two_open opens lo k (part_e φ x) (part_e φ y) r.0 (open_e x lo Γ opens z.0 r.1 (omega arith) g)
      (open_e y (lo + size_p (part_e φ x)) Γ opens (moved_e Γ y _ (lo + size_p (part_e φ x)) (omega arith) z.1) r.2 (omega arith) g)
  open_e (negation n x) lo Γ opens s r l g = (open_e x lo Γ opens s r (omega arith) g, tt, tt)
  open_e (choice n x y w) lo Γ opens s r l g =
      let z = both _ _ s in
      let z₁ = both _ _ z.1 in
      let u = part_e_size φ x in
      let v = part_e_size φ y in (
        open_e x lo Γ opens z.0 r.0 (omega arith) g,
        open_e y (lo + size_p (part_e φ x)) Γ opens (moved_e Γ y _ (lo + size_p (part_e φ x)) (omega arith) z₁.0) r.1 (omega arith) g,
        open_e w (lo + size_p (part_e φ x) + size_p (part_e φ y)) Γ opens (moved_e Γ w _ (lo + size_p (part_e φ x) + size_p (part_e φ y)) (omega arith) z₁.1) r.2 (omega arith) g,
      )
  open_e (just n x) lo Γ opens s r l g = (open_e x lo Γ opens s r (omega arith) g, tt, tt)
  open_e (taking n t x y w) lo Γ opens s r l g =
      let z = both _ _ s in
      let z₁ = both _ _ z.1 in
      let u = part_e_size φ x in
      let v = part_e_size φ y in
      let v₁ = part_e_size φ w in
      let m = lo + (size_p (part_e φ x) + size_p (part_e φ y) + size_p (part_e φ w)) in
      let g₁ = open_more Γ opens m g in (
        open_e x lo Γ (more m opens) z.0 r.1 (omega arith) g₁,
        open_e y (lo + size_p (part_e φ x)) Γ (more m opens) (moved_e Γ y _ (lo + size_p (part_e φ x)) (omega arith) z₁.0) r.2 (omega arith) g₁,
        open_e w (lo + size_p (part_e φ x) + size_p (part_e φ y)) (mark Γ (lo + (size_e x + size_e y + size_e w))) (more m opens)
            (moved_e (mark Γ (lo + (size_e x + size_e y + size_e w))) w _ (lo + size_p (part_e φ x) + size_p (part_e φ y)) (omega arith) z₁.1) r.3 (omega arith)
            (open_bind Γ opens m (lo + (size_e x + size_e y + size_e w)) (omega arith) (omega arith) g),
      )

  -- A group's branches are targets.
  branch_target : (brs : Branches) (lo m x : ℕ) → lo ≡ m → HoldsK (slot_b brs φ) q m → m + size_k (slot_b brs φ) ≤ N → has_branch x (placed_b brs κ φ lo) ≡ true → targets x ≡ true
  unfolding placed_s part_s has_branch size_p row_p
  branch_target no_branch lo m x z h l e = absurd (not_both e)
  branch_target (branch n t body next) lo m x z h l e =
      let u = part_s_size body φ in
      let v = slot_b_size next φ in
      let here = lo + (size_s body + size_b next) in
      let there = m + (size_p (part_s body φ) + size_k (slot_b next φ) + 0) in
      by_test (eqb here x)
      (λ t. let y : x ≡ there = sym (eqb-true here x t) ∙ (let w : here ≡ there = omega arith in w) in
      hit x (omega arith) (ap (kind_at q) y ∙ sym h.3.kind_is))
      (λ t. branch_target next (lo + size_s body) (m + size_p (part_s body φ)) x (omega arith) h.1 (omega arith) (or_else (eqb here x) _ e t))

  handed : (Δ : Offers) → Offer Δ → (e : ℕ) → Offer (onward e Δ)
  unfolding onward
  handed Δ o zero = no_offer
  handed Δ o (suc e) = o

  offers : (Δ : Offers) → Offer Δ → (brs : Branches) → ((x : ℕ) → has_branch x brs ≡ true → targets x ≡ true) → Offer (brs ∷ onward e₀ Δ)
  unfolding is_offered
  offers Δ o brs h x e = by_test (has_branch x brs) (λ t. h x t) (λ t. handed Δ o e₀ x (or_else (has_branch x brs) _ e t))

  -- The first of a list is open as a next is.
  first_branch : (brs : Branches) (opens : Opens) (lo : ℕ) → OpenK (slot_b brs φ) targets opens NextBranch lo → OpenK (slot_b brs φ) targets opens FirstBranch lo
  unfolding part_s
  first_branch no_branch opens lo h = tt
  first_branch (branch n t body next) opens lo h = h

  first_case : (cs : Cases) (opens : Opens) (lo : ℕ) → OpenK (slot_c cs φ) targets opens NextCase lo → OpenK (slot_c cs φ) targets opens FirstCase lo
  unfolding part_s
  first_case no_case opens lo h = tt
  first_case (case n event target t next) opens lo h = h

  mutual
    unfolding part_s placed_s scope_s size_p fields_of row opens_for opened_by may_stop ◌and◌

    pub open_s : (s : Signal) (lo : ℕ) (Γ : Marks) (Δ : Offers) (opens : Opens) → scope_s e₀ Γ Δ (placed_s s κ φ lo) ≡ None → HoldsP (part_s s φ) q lo → RightS s φ
        → lo + size_p (part_s s φ) ≤ N → Open Γ opens → Offer Δ → OpenP (part_s s φ) targets opens lo
    open_s (input n c) lo Γ Δ opens s h r l g o = (tt, tt, tt)
    open_s (time n) lo Γ Δ opens s h r l g o = (tt, tt, tt)
    open_s (ext n e) lo Γ Δ opens s h r l g o = (open_e e lo Γ opens s r (omega arith) g, tt, tt)
    open_s (delay n k v x) lo Γ Δ opens s h r l g o = (open_s x lo Γ [] opens s h.0 r.1 (omega arith) g no_offer, tt, tt)
    open_s (let_signal n t x y) lo Γ Δ opens s h r l g o =
        let z = both _ _ s in
        let u = part_s_size x φ in
        let v = part_s_size y φ in
        let m = lo + (size_p (part_s x φ) + size_p (part_s y φ) + 0) in
        let Γ₁ = mark Γ (lo + (size_s x + size_s y)) in
        let g₁ = open_bind Γ opens m (lo + (size_s x + size_s y)) (omega arith) (omega arith) g in (
          open_s x lo Γ₁ [] (more m opens) z.0 h.0 r.1 (omega arith) g₁ no_offer,
          open_s y (lo + size_p (part_s x φ)) Γ₁ Δ (more m opens) (moved Γ₁ Δ y _ (lo + size_p (part_s x φ)) (omega arith) z.1) h.1 r.2 (omega arith) g₁ o,
          tt,
        )
    open_s (switch n k t x y w) lo Γ Δ opens s h r l g o =
        let z = both _ _ s in
        let z₁ = both _ _ z.1 in
        let u = part_s_size x φ in
        let v = part_s_size y φ in
        let v₁ = part_s_size w φ in
        let m = lo + (size_p (part_s x φ) + size_p (part_s y φ) + size_p (part_s w φ)) in
        let g₁ = open_more Γ opens m g in
        let Γ₁ = mark Γ (lo + (size_s x + size_s y + size_s w)) in (
          open_s x lo Γ [] (more m opens) z.0 h.0 r.1 (omega arith) g₁ no_offer,
          open_s y (lo + size_p (part_s x φ)) Γ [] (more m opens) (moved Γ [] y _ (lo + size_p (part_s x φ)) (omega arith) z₁.0) h.1 r.2 (omega arith) g₁ no_offer,
          open_s w (lo + size_p (part_s x φ) + size_p (part_s y φ)) Γ₁ [] (more m opens)
              (moved Γ₁ [] w _ (lo + size_p (part_s x φ) + size_p (part_s y φ)) (omega arith) z₁.1) h.2 r.3 (omega arith)
              (open_bind Γ opens m (lo + (size_s x + size_s y + size_s w)) (omega arith) (omega arith) g) no_offer,
        )
    open_s (group n k x brs) lo Γ Δ opens s h r l g o =
        let z = both _ _ s in
        let u = part_s_size x φ in
        let v = slot_b_size brs φ in
        let Δ₁ = placed_b brs κ φ (lo + size_s x) ∷ onward e₀ Δ in
        let o₁ = offers Δ o (placed_b brs κ φ (lo + size_s x)) (λ y e. branch_target brs (lo + size_s x) (lo + size_p (part_s x φ)) y (omega arith) h.1 (omega arith) e) in (
          open_s x lo Γ Δ₁ opens z.0 h.0 r.1 (omega arith) g o₁,
          first_branch brs opens (lo + size_p (part_s x φ))
              (open_b brs (lo + size_p (part_s x φ)) Γ Δ₁ opens (moved_b Γ Δ₁ brs _ (lo + size_p (part_s x φ)) (omega arith) z.1) h.1 r.2 (omega arith) g o₁),
          tt,
        )
    open_s (until n x cs) lo Γ Δ opens s h r l g o =
        let z = both _ _ s in
        let u = part_s_size x φ in
        let v = slot_c_size cs φ in (
          open_s x lo Γ [] opens z.0 h.0 r.1 (omega arith) g no_offer,
          first_case cs opens (lo + size_p (part_s x φ))
              (open_c cs (lo + size_p (part_s x φ)) Γ Δ opens (moved_c Γ Δ cs _ (lo + size_p (part_s x φ)) (omega arith) z.1) h.1 r.2 (omega arith) g o),
          tt,
        )

    open_b : (brs : Branches) (lo : ℕ) (Γ : Marks) (Δ : Offers) (opens : Opens) → scope_b e₀ Γ Δ (placed_b brs κ φ lo) ≡ None → HoldsK (slot_b brs φ) q lo → RightB brs φ
        → lo + size_k (slot_b brs φ) ≤ N → Open Γ opens → Offer Δ → OpenK (slot_b brs φ) targets opens NextBranch lo
    open_b no_branch lo Γ Δ opens s h r l g o = tt
    open_b (branch n t x brs) lo Γ Δ opens s h r l g o =
        let z = both _ _ s in
        let u = part_s_size x φ in
        let v = slot_b_size brs φ in
        let m = lo + (size_p (part_s x φ) + size_k (slot_b brs φ) + 0) in
        let Γ₁ = mark Γ (lo + (size_s x + size_b brs)) in (
          open_s x lo Γ₁ Δ (more m opens) z.0 h.0 r.1 (omega arith) (open_bind Γ opens m (lo + (size_s x + size_b brs)) (omega arith) (omega arith) g) o,
          open_b brs (lo + size_p (part_s x φ)) Γ Δ opens (moved_b Γ Δ brs _ (lo + size_p (part_s x φ)) (omega arith) z.1) h.1 r.2 (omega arith) g o,
          tt,
        )

    open_c : (cs : Cases) (lo : ℕ) (Γ : Marks) (Δ : Offers) (opens : Opens) → scope_c e₀ Γ Δ (placed_c cs κ φ lo) ≡ None → HoldsK (slot_c cs φ) q lo → RightC cs φ
        → lo + size_k (slot_c cs φ) ≤ N → Open Γ opens → Offer Δ → OpenK (slot_c cs φ) targets opens NextCase lo
    open_c no_case lo Γ Δ opens s h r l g o = tt
    open_c (case n x target t cs) lo Γ Δ opens s h r l g o =
        let z = both _ _ s in
        let z₁ = both _ _ z.1 in
        let u = part_s_size x φ in
        let v = slot_c_size cs φ in (
          open_s x lo Γ [] opens z₁.0 h.0 r.1 (omega arith) g no_offer,
          open_c cs (lo + size_p (part_s x φ)) Γ Δ opens (moved_c Γ Δ cs _ (lo + size_p (part_s x φ)) (omega arith) z₁.1) h.1 r.2 (omega arith) g o,
          o (φ target) (holds _ _ z.0),
        )
