-- What is in scope in edition one is in scope in edition two: there a group offers its parts no fewer branches.
-- Assumes nothing.
use Rattle.std.specs.Prelude.{Option, None, ℕ}
use mathlib.Core.Path.{◌≡◌, refl}
use mathlib.Core.Bool.{Bool, true, false}
use mathlib.Core.List.{List, [], ◌∷◌}
use Prim.Native.Nat.{ℕ}
use Rattle.rules.specs.Bytes.{◌or◌}
use Rattle.rules.specs.Places.{sooner, wrong_unless}
use Rattle.rules.specs.Tree.{Signal, input, time, ext, delay, let_signal, switch, group, until, Branches, no_branch, branch, Cases, no_case, case}
use Rattle.rules.specs.Scope.{Marks, mark, Offers, has_branch, is_offered, onward, scope_e, scope_s, scope_b, scope_c}
use Rattle.rules.proofs.Static.{both, holds, not_both, or_left}

-- Every branch that the first offers, the second offers too.
abbrev Wider : Offers → Offers → Type 0
Wider Δ₁ Δ₂ = (k : ℕ) → is_offered k Δ₁ ≡ true → is_offered k Δ₂ ≡ true

-- A group's own branches, alone and beside others.
own_wider : (brs : Branches) (Δ : Offers) → Wider (brs ∷ onward 0 Δ) (brs ∷ Δ)
unfolding is_offered onward ◌or◌
own_wider brs Δ k e = go (has_branch k brs) e
  where
    go : (b : Bool) → (b or false) ≡ true → (b or is_offered k Δ) ≡ true
    go true h = refl
    go false h = absurd (not_both h)

none : {x y : Option ℕ} → x ≡ None → y ≡ None → sooner x y ≡ None
unfolding sooner
none e f = rw (e, f)

fits : (b : Bool) (n : ℕ) → b ≡ true → wrong_unless b n ≡ None
unfolding wrong_unless
fits b n e = rw e

same : (Δ : Offers) → Wider Δ Δ
same Δ k e = e

mutual
  unfolding scope_s onward

  pub wider_s : (s : Signal) (Γ : Marks) (Δ₁ Δ₂ : Offers) → Wider Δ₁ Δ₂ → scope_s 0 Γ Δ₁ s ≡ None → scope_s 1 Γ Δ₂ s ≡ None
  wider_s (input n c) Γ Δ₁ Δ₂ w e = refl
  wider_s (time n) Γ Δ₁ Δ₂ w e = refl
  wider_s (ext n x) Γ Δ₁ Δ₂ w e = e
  wider_s (delay n k v s) Γ Δ₁ Δ₂ w e = wider_s s Γ [] [] (same []) e
  wider_s (let_signal n t d b) Γ Δ₁ Δ₂ w e =
      let h = both _ _ e in
      none (wider_s d (mark Γ n) [] [] (same []) h.0) (wider_s b (mark Γ n) Δ₁ Δ₂ w h.1)
  wider_s (switch n k t x event y) Γ Δ₁ Δ₂ w e =
      let h = both _ _ e in
      let g = both _ _ h.1 in
      none (wider_s x Γ [] [] (same []) h.0)
      (none (wider_s event Γ [] [] (same []) g.0) (wider_s y (mark Γ n) [] [] (same []) g.1))
  wider_s (group n k body brs) Γ Δ₁ Δ₂ w e =
      let h = both _ _ e in
      none (wider_s body Γ (brs ∷ []) (brs ∷ Δ₂) (own_wider brs Δ₂) h.0)
      (wider_b brs Γ (brs ∷ []) (brs ∷ Δ₂) (own_wider brs Δ₂) h.1)
  wider_s (until n s cs) Γ Δ₁ Δ₂ w e =
      let h = both _ _ e in
      none (wider_s s Γ [] [] (same []) h.0) (wider_c cs Γ Δ₁ Δ₂ w h.1)

  wider_b : (brs : Branches) (Γ : Marks) (Δ₁ Δ₂ : Offers) → Wider Δ₁ Δ₂ → scope_b 0 Γ Δ₁ brs ≡ None → scope_b 1 Γ Δ₂ brs ≡ None
  wider_b no_branch Γ Δ₁ Δ₂ w e = refl
  wider_b (branch n t body next) Γ Δ₁ Δ₂ w e =
      let h = both _ _ e in
      none (wider_s body (mark Γ n) Δ₁ Δ₂ w h.0) (wider_b next Γ Δ₁ Δ₂ w h.1)

  wider_c : (cs : Cases) (Γ : Marks) (Δ₁ Δ₂ : Offers) → Wider Δ₁ Δ₂ → scope_c 0 Γ Δ₁ cs ≡ None → scope_c 1 Γ Δ₂ cs ≡ None
  wider_c no_case Γ Δ₁ Δ₂ w e = refl
  wider_c (case n event target t next) Γ Δ₁ Δ₂ w e =
      let h = both _ _ e in
      let g = both _ _ h.1 in
      none (fits _ n (w target (holds _ n h.0)))
      (none (wider_s event Γ [] [] (same []) g.0) (wider_c next Γ Δ₁ Δ₂ w g.1))
