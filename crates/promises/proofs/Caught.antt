-- What is caught: a switch that switches and a group that takes a branch are well-formed after it, all cells below at start.
-- Assumes nothing.
use Rattle.std.specs.Prelude.{if◌then◌else◌}
use mathlib.Core.Path.{◌≡◌, refl, sym, ap, ◌∙◌}
use mathlib.Core.Logic.{◌⊎◌, inl, inr}
use mathlib.Core.List.{[], ◌∷◌}
use mathlib.Core.Bool.{Bool, true, false}
use Prim.Native.Nat.{ℕ, zero, suc, ◌+◌, ◌*◌, ◌<◌, ◌≤◌}
use native.Mathlib.Omega.{arith}
use lib.Dec.{eqb}
use lib.ListN.{length}
use borrow.Author.Tests.{eqb-true, ne_eqb}
use Rattle.rules.specs.Bytes.{Bytes, ◌and◌, ◌or◌}
use Rattle.rules.specs.Values.{type_of, packed, middle_in}
use Rattle.rules.specs.Layout.{cell, cell_at, hold, is_clear, hold_branch}
use Rattle.rules.specs.Work.{Updated, Next, Jump}
use Rattle.rules.specs.Tree.{Signal, group, switch, Branches, no_branch, branch}
use Rattle.rules.specs.Scope.{Offers, has_branch, is_offered, onward}
use Rattle.rules.specs.Reset.{reset_s, reset_b, rests_s, rests_b}
use Rattle.rules.specs.WellFormed.{content_fits, well_s, well_b}
use Rattle.rules.specs.Size.{is_cell, times_s}
use Rattle.rules.specs.Update.{caught}
use Rattle.rules.specs.declared.Value.{Value}
use Rattle.rules.proofs.Static.{and_both, not_both}
use Rattle.promises.specs.Small.{Small}
use Rattle.promises.specs.Valid.{Valid}
use Rattle.promises.specs.Sits.{SitsS, SitsB}
use Rattle.promises.specs.Kept.{Kept}
use Rattle.promises.proofs.ValidLaws.{and_join, or_cases, content_fits_lem, value_fits_lem, packed_some, packed_small, packed_middle}
use Rattle.promises.proofs.Frames.{kept_then, kept_more, apart_agree, rests_agree, well_agree}
use Rattle.promises.proofs.Rests.{Became, join, both_local, cell_set, cell_local, hold_set, reset_rests, reset_b_rests, rests_well}
use Rattle.promises.proofs.Goes.{Goes, next, jump}

-- The second of two tests.
pub if_no : (b p q : Bool) → b ≡ false → q ≡ true → (if b then p else q) ≡ true
if_no b p q e h = rw e h

-- A cell that holds a value is not clear.
filled : (st : Bytes) (k m : ℕ) → cell st k ≡ m → 1 ≤ m → is_clear st k ≡ false
unfolding is_clear
filled st k m e h = ne_eqb (cell st k) 0 λ (z : cell st k ≡ 0). omega arith

-- A switch that has switched: st is the state after its event's update.
module _ (count cells : ℕ) (τ : ℕ → ℕ) (n k t : ℕ) (x e y : Signal) (sits : SitsS count cells τ (switch n k t x e y))
    (once : (j : ℕ) → times_s j (switch n k t x e y) ≤ 1) (st : Bytes) (s : Small st) (l : length st ≡ cell_at cells) (v : Value) (valid : Valid v)
    (typed : type_of v ≡ t) where
  switched : Became (λ j. is_cell j k + times_s j x + times_s j y) (λ q. eqb (cell q k) (packed v) and rests_s q x and rests_s q y) st
      (reset_s y (reset_s x (hold st k v)))
  unfolding times_s
  switched =
      let a = hold_set st k cells v sits.0 s l valid in
      let b = reset_rests x count cells τ (hold st k v) sits.2 (λ j. omega (arith, once j)) a.kept.bytes (a.kept.long ∙ l) in
      let c = reset_rests y count cells τ (reset_s x (hold st k v)) sits.4 (λ j. omega (arith, once j)) b.kept.bytes (b.kept.long ∙ a.kept.long ∙ l) in
      join (both_local (cell_local k (packed v)) (rests_agree x)) (λ j. omega (arith, once j)) (join (cell_local k (packed v)) (λ j. omega (arith, once j)) a b) c

  -- A switch that switches changes its own cells only.
  pub switched_kept : Kept (λ j. times_s j (switch n k t x e y)) st (reset_s y (reset_s x (hold st k v)))
  unfolding times_s
  switched_kept = kept_more (λ j z. omega arith) switched.kept

  -- A switch that has switched is well-formed, where its event was.
  pub switched_well : well_s st e ≡ true → well_s (reset_s y (reset_s x (hold st k v))) (switch n k t x e y) ≡ true
  unfolding well_s times_s
  switched_well we =
      let st₁ : Bytes = reset_s y (reset_s x (hold st k v)) in
      let a = and_both _ _ switched.holds in
      let b = and_both _ _ a.0 in
      let c : cell st₁ k ≡ packed v = eqb-true _ _ b.0 in
      let fits : content_fits t 0 (cell st₁ k) ≡ true = ap (content_fits t 0) c ∙ ap (λ (u : ℕ). content_fits u 0 (packed v)) (sym typed) ∙ value_fits_lem v valid in
      and_join _ _ (well_agree e st st₁ (apart_agree (λ j. omega (arith, once j)) switched.kept) ∙ we)
      (if_no (is_clear st₁ k) _ _ (filled st₁ k (packed v) c (packed_some v valid))
      (and_join _ _ (and_join _ _ fits b.1) (rests_well y count cells τ st₁ sits.4 a.1)))

-- A branch's number is one of two bytes.
branch_small : (brs : Branches) (count cells : ℕ) (τ : ℕ → ℕ) → SitsB count cells τ brs → (target : ℕ) → has_branch target brs ≡ true → target < 65536
unfolding has_branch ◌or◌
branch_small no_branch count cells τ sits target h = absurd (not_both h)
branch_small (branch n t body more) count cells τ sits target h = go (eqb n target) refl h (branch_small more count cells τ sits.3 target)
  where
    go : (b : Bool) → eqb n target ≡ b → (b or has_branch target more) ≡ true → (has_branch target more ≡ true → target < 65536) → target < 65536
    go true e z ih = let q : n ≡ target = eqb-true n target e in omega (arith, sits.0.small)
    go false e z ih = ih z

-- The branch that a cell's content names is there, and takes the argument.
takes : (brs : Branches) (count cells : ℕ) (τ : ℕ → ℕ) → SitsB count cells τ brs → (target m : ℕ) (st : Bytes) → has_branch target brs ≡ true
    → rests_b st brs ≡ true → middle_in m ≡ target → content_fits (τ target) target m ≡ true → well_b st m brs ≡ true
unfolding has_branch rests_s well_s ◌or◌
takes no_branch count cells τ sits target m st h r e f = absurd (not_both h)
takes (branch n t body more) count cells τ sits target m st h r e f =
    go (eqb n (middle_in m)) refl λ z. takes more count cells τ sits.3 target m st z (and_both _ _ r).1 e f
  where
    other : (b : Bool) → (b or has_branch target more) ≡ true → b ≡ false → has_branch target more ≡ true
    other b z q = rw q at z

    go : (b : Bool) → eqb n (middle_in m) ≡ b → (has_branch target more ≡ true → well_b st m more ≡ true)
        → (if b then content_fits t n m and well_s st body and rests_b st more else rests_s st body and well_b st m more) ≡ true
    go true z ih =
        let q : n ≡ target = eqb-true n (middle_in m) z ∙ e in
        let u : t ≡ τ target = sits.1.binds.declared ∙ ap τ q in
        let a = and_both _ _ r in
        and_join _ _ (and_join _ _ (rw (u, q) f) (rests_well body count cells τ st sits.2 a.0)) a.1
    go false z ih =
        let q : eqb n target ≡ false = ap (eqb n) (sym e) ∙ z in
        and_join _ _ (and_both _ _ r).0 (ih (other (eqb n target) h q))

-- A group that takes a branch: st is the state of the jump.
module _ (count cells : ℕ) (τ : ℕ → ℕ) (n k : ℕ) (body : Signal) (brs : Branches) (sits : SitsS count cells τ (group n k body brs))
    (once : (j : ℕ) → times_s j (group n k body brs) ≤ 1) (st : Bytes) (s : Small st) (l : length st ≡ cell_at cells) (v : Value) (valid : Valid v)
    (target : ℕ) (typed : type_of v ≡ τ target) (has : has_branch target brs ≡ true) where
  small : target < 65536
  small = branch_small brs count cells τ sits.2 target has

  -- All cells below the group are at start, and its own holds the value with the branch.
  entered : Became (λ j. times_s j (group n k body brs)) (λ q. eqb (cell q k) (packed v + 65536 * target) and rests_s q body and rests_b q brs) st
      (reset_b brs (reset_s body (hold_branch st k target v)))
  unfolding times_s hold_branch
  entered =
      let m : ℕ = packed v + 65536 * target in
      let a = cell_set st k m cells sits.0 s l (packed_small v target valid small) in
      let b = reset_rests body count cells τ (hold_branch st k target v) sits.1 (λ j. omega (arith, once j)) a.kept.bytes (a.kept.long ∙ l) in
      let c = reset_b_rests brs count cells τ (reset_s body (hold_branch st k target v)) sits.2 (λ j. omega (arith, once j)) b.kept.bytes (b.kept.long ∙ a.kept.long ∙ l) in
      join (both_local (cell_local k m) (rests_agree body)) (λ j. once j) (join (cell_local k m) (λ j. omega (arith, once j)) a b) c

  -- A group that has taken a branch is well-formed.
  entered_well : well_s (reset_b brs (reset_s body (hold_branch st k target v))) (group n k body brs) ≡ true
  unfolding well_s
  entered_well =
      let st₁ : Bytes = reset_b brs (reset_s body (hold_branch st k target v)) in
      let m : ℕ = packed v + 65536 * target in
      let a = and_both _ _ entered.holds in
      let b = and_both _ _ a.0 in
      let c : cell st₁ k ≡ m = eqb-true _ _ b.0 in
      let fits : content_fits (τ target) target m ≡ true = ap (λ (u : ℕ). content_fits u target m) (sym typed) ∙ content_fits_lem v target valid small in
      if_no (is_clear st₁ k) _ _ (filled st₁ k m c (omega (arith, packed_some v valid)))
      (and_join _ _ b.1
      (ap (λ (q : ℕ). well_b st₁ q brs) c ∙ takes brs count cells τ sits.2 target m st₁ has a.1 (packed_middle v target valid small) fits))

-- What a group hands on is offered to it.
handed_on : (ed : ℕ) (Δ : Offers) (target : ℕ) → is_offered target (onward ed Δ) ≡ true → is_offered target Δ ≡ true
unfolding onward is_offered
handed_on zero Δ target o = absurd (not_both o)
handed_on (suc ed) Δ target o = o

-- A group catches every jump to one of its branches, and hands on every other, whose target is offered to it.
pub caught_goes : (ed : ℕ) {Δ : Offers} (count cells : ℕ) (τ : ℕ → ℕ) (n k : ℕ) (body : Signal) (brs : Branches) → SitsS count cells τ (group n k body brs)
    → ((j : ℕ) → times_s j (group n k body brs) ≤ 1) → {st : Bytes} → length st ≡ cell_at cells → {r : Updated}
    → Goes (brs ∷ onward ed Δ) τ (λ j. times_s j (group n k body brs)) (λ q. well_s q (group n k body brs)) st r
    → Goes Δ τ (λ j. times_s j (group n k body brs)) (λ q. well_s q (group n k body brs)) st (caught k body brs r)
unfolding caught is_offered
caught_goes ed count cells τ n k body brs sits once l (next a e) = next a e
caught_goes ed {Δ} count cells τ n k body brs sits once {st} l (jump {target} {v} {st₁} {w} o valid typed a) = go (has_branch target brs) refl (or_cases _ _ o)
  where
    go : (b : Bool) → has_branch target brs ≡ b → (has_branch target brs ≡ true) ⊎ (is_offered target (onward ed Δ) ≡ true)
        → Goes Δ τ (λ j. times_s j (group n k body brs)) (λ q. well_s q (group n k body brs)) st
        (if b then Next (reset_b brs (reset_s body (hold_branch st₁ k target v))) w else Jump target v st₁ w)
    go true has _ =
        let b = entered count cells τ n k body brs sits once st₁ a.bytes (a.long ∙ l) v valid target typed has in
        next (kept_then (λ j z. z) (λ j z. z) a b.kept)
        (entered_well count cells τ n k body brs sits once st₁ a.bytes (a.long ∙ l) v valid target typed has)
    go false other (inl has) = absurd (not_both (sym other ∙ has))
    go false other (inr far) = jump (handed_on ed Δ target far) valid typed a
