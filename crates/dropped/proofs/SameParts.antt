-- Whether states are alike on a pair of trees depends on the trees' own cells only; trees at rest are alike.
-- Assumes nothing.
use mathlib.Core.Path.{◌≡◌, sym, ap, ◌∙◌}
use mathlib.Core.Bool.{true}
use Prim.Native.Nat.{ℕ, ◌≤◌}
use native.Mathlib.Omega.{arith}
use lib.Dec.{eqb}
use borrow.Author.Tests.{eqb-true}
use Rattle.rules.specs.Bytes.{Bytes}
use Rattle.rules.specs.Values.{unpacked, middle_in}
use Rattle.rules.specs.Layout.{cell, held, is_clear, branch_in}
use Rattle.rules.specs.Tree.{Signal, Branches, Cases}
use Rattle.rules.specs.Scope.{has_branch}
use Rattle.rules.specs.Reset.{rests_s, rests_b, rests_c}
use Rattle.rules.specs.Size.{is_cell, times_s, times_b, times_c}
use Rattle.rules.proofs.Static.{and_both}
use Rattle.promises.specs.Kept.{Agree}
use Rattle.promises.proofs.Frames.{cell_itself, agree_part}
use Rattle.dropped.specs.Less.{LessS, inputs, times, exts, delays, lets, dropped, switches, groups, untils, LessB, no_branches, branches, LessC, no_cases, cases}
use Rattle.dropped.specs.Alike.{GroupCell, in_body, in_branch, AlikeS, AlikeB, AlikeC}

-- A group's cells that stayed.
pub group_agree : {π : ℕ → ℕ} {st st' : Bytes} {k k' : ℕ} {brs' : Branches} (st₁ st₁' : Bytes) → cell st₁ k ≡ cell st k → cell st₁' k' ≡ cell st' k'
    → GroupCell π st st' k k' brs' → GroupCell π st₁ st₁' k k' brs'
unfolding is_clear held branch_in
group_agree st₁ st₁' e f (in_body c c') = in_body (ap (λ (m : ℕ). eqb m 0) e ∙ c) (ap (λ (m : ℕ). eqb m 0) f ∙ c')
group_agree {π} {brs' = brs'} st₁ st₁' e f (in_branch c c' v b has) =
    in_branch (ap (λ (m : ℕ). eqb m 0) e ∙ c) (ap (λ (m : ℕ). eqb m 0) f ∙ c') (ap unpacked e ∙ v ∙ sym (ap unpacked f))
    (ap middle_in e ∙ b ∙ sym (ap (λ (m : ℕ). π (middle_in m)) f)) (ap (λ (m : ℕ). has_branch (middle_in m) brs') f ∙ has)

module _ (st st' st₁ st₁' : Bytes) where
  own_cell : {own : ℕ → ℕ} {st st₁ : Bytes} (k : ℕ) → ((j : ℕ) → is_cell j k ≤ own j) → Agree own st st₁ → cell st₁ k ≡ cell st k
  own_cell k h a = a.same k (omega (arith, cell_itself k, h k))

  mutual
    unfolding times_s

    pub alike_agree : {π : ℕ → ℕ} {s s' : Signal} (x : LessS π s s') → Agree (λ j. times_s j s) st st₁ → Agree (λ j. times_s j s') st' st₁'
        → AlikeS st st' x → AlikeS st₁ st₁' x
    alike_agree (inputs a) g h al = tt
    alike_agree (times a) g h al = tt
    alike_agree (exts a e) g h al = tt
    alike_agree (delays {k = k} {k' = k'} a s) g h al = (
      own_cell k (λ j. omega arith) g ∙ al.0 ∙ sym (own_cell k' (λ j. omega arith) h),
      alike_agree s (agree_part (λ j. omega arith) g) (agree_part (λ j. omega arith) h) al.1,
    )
    alike_agree (lets a d b) g h al = (
      alike_agree d (agree_part (λ j. omega arith) g) (agree_part (λ j. omega arith) h) al.0,
      alike_agree b (agree_part (λ j. omega arith) g) (agree_part (λ j. omega arith) h) al.1,
    )
    alike_agree (dropped b) g h al = alike_agree b (agree_part (λ j. omega arith) g) h al
    alike_agree (switches {k = k} {k' = k'} a x e y) g h al = (
      own_cell k (λ j. omega arith) g ∙ al.0 ∙ sym (own_cell k' (λ j. omega arith) h),
      alike_agree x (agree_part (λ j. omega arith) g) (agree_part (λ j. omega arith) h) al.1,
      alike_agree e (agree_part (λ j. omega arith) g) (agree_part (λ j. omega arith) h) al.2,
      alike_agree y (agree_part (λ j. omega arith) g) (agree_part (λ j. omega arith) h) al.3,
    )
    alike_agree (groups {k = k} {k' = k'} a b bs) g h al = (
      group_agree st₁ st₁' (own_cell k (λ j. omega arith) g) (own_cell k' (λ j. omega arith) h) al.0,
      alike_agree b (agree_part (λ j. omega arith) g) (agree_part (λ j. omega arith) h) al.1,
      alike_b_agree bs (agree_part (λ j. omega arith) g) (agree_part (λ j. omega arith) h) al.2,
    )
    alike_agree (untils a s cs) g h al = (
      alike_agree s (agree_part (λ j. omega arith) g) (agree_part (λ j. omega arith) h) al.0,
      alike_c_agree cs (agree_part (λ j. omega arith) g) (agree_part (λ j. omega arith) h) al.1,
    )

    pub alike_b_agree : {π : ℕ → ℕ} {s s' : Branches} (x : LessB π s s') → Agree (λ j. times_b j s) st st₁ → Agree (λ j. times_b j s') st' st₁'
        → AlikeB st st' x → AlikeB st₁ st₁' x
    alike_b_agree no_branches g h al = tt
    alike_b_agree (branches a b bs) g h al = (
      alike_agree b (agree_part (λ j. omega arith) g) (agree_part (λ j. omega arith) h) al.0,
      alike_b_agree bs (agree_part (λ j. omega arith) g) (agree_part (λ j. omega arith) h) al.1,
    )

    pub alike_c_agree : {π : ℕ → ℕ} {s s' : Cases} (x : LessC π s s') → Agree (λ j. times_c j s) st st₁ → Agree (λ j. times_c j s') st' st₁'
        → AlikeC st st' x → AlikeC st₁ st₁' x
    alike_c_agree no_cases g h al = tt
    alike_c_agree (cases a t e cs) g h al = (
      alike_agree e (agree_part (λ j. omega arith) g) (agree_part (λ j. omega arith) h) al.0,
      alike_c_agree cs (agree_part (λ j. omega arith) g) (agree_part (λ j. omega arith) h) al.1,
    )

-- Trees at rest.
clear_both : (st st' : Bytes) (k k' : ℕ) → is_clear st k ≡ true → is_clear st' k' ≡ true → cell st k ≡ cell st' k'
unfolding is_clear
clear_both st st' k k' e f = eqb-true _ _ e ∙ sym (eqb-true _ _ f)

module _ (st st' : Bytes) where
  mutual
    unfolding rests_s

    pub rests_alike : {π : ℕ → ℕ} {s s' : Signal} (x : LessS π s s') → rests_s st s ≡ true → rests_s st' s' ≡ true → AlikeS st st' x
    rests_alike (inputs a) g h = tt
    rests_alike (times a) g h = tt
    rests_alike (exts a e) g h = tt
    rests_alike (delays a s) g h =
        let p = and_both _ _ g in
        let q = and_both _ _ h in
        (eqb-true _ _ p.0 ∙ sym (eqb-true _ _ q.0), rests_alike s p.1 q.1)
    rests_alike (lets a d b) g h =
        let p = and_both _ _ g in
        let q = and_both _ _ h in
        (rests_alike d p.0 q.0, rests_alike b p.1 q.1)
    rests_alike (dropped b) g h = rests_alike b (and_both _ _ g).1 h
    rests_alike (switches {k = k} {k' = k'} a x e y) g h =
        let p = and_both _ _ g in
        let q = and_both _ _ h in
        let p₁ = and_both _ _ p.0 in
        let q₁ = and_both _ _ q.0 in
        let p₂ = and_both _ _ p₁.0 in
        let q₂ = and_both _ _ q₁.0 in
        (clear_both st st' k k' p₂.0 q₂.0, rests_alike x p₂.1 q₂.1, rests_alike e p₁.1 q₁.1, rests_alike y p.1 q.1)
    rests_alike (groups a b bs) g h =
        let p = and_both _ _ g in
        let q = and_both _ _ h in
        let p₁ = and_both _ _ p.0 in
        let q₁ = and_both _ _ q.0 in
        (in_body p₁.0 q₁.0, rests_alike b p₁.1 q₁.1, rests_b_alike bs p.1 q.1)
    rests_alike (untils a s cs) g h =
        let p = and_both _ _ g in
        let q = and_both _ _ h in
        (rests_alike s p.0 q.0, rests_c_alike cs p.1 q.1)

    pub rests_b_alike : {π : ℕ → ℕ} {s s' : Branches} (x : LessB π s s') → rests_b st s ≡ true → rests_b st' s' ≡ true → AlikeB st st' x
    rests_b_alike no_branches g h = tt
    rests_b_alike (branches a b bs) g h =
        let p = and_both _ _ g in
        let q = and_both _ _ h in
        (rests_alike b p.0 q.0, rests_b_alike bs p.1 q.1)

    rests_c_alike : {π : ℕ → ℕ} {s s' : Cases} (x : LessC π s s') → rests_c st s ≡ true → rests_c st' s' ≡ true → AlikeC st st' x
    rests_c_alike no_cases g h = tt
    rests_c_alike (cases a t e cs) g h =
        let p = and_both _ _ g in
        let q = and_both _ _ h in
        (rests_alike e p.0 q.0, rests_c_alike cs p.1 q.1)
