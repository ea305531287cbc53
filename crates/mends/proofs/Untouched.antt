-- A well-formed state is not touched.
-- Assumes nothing.
use Rattle.std.specs.Prelude.{if◌then◌else◌}
use mathlib.Core.Path.{◌≡◌, refl, sym, ap, ◌∙◌}
use mathlib.Core.Bool.{Bool, true, false}
use Prim.Native.Nat.{ℕ, ◌≤◌}
use native.Mathlib.Omega.{arith}
use lib.Dec.{eqb}
use borrow.Author.Tests.{eqb-true}
use Rattle.rules.specs.Bytes.{Bytes, ◌and◌}
use Rattle.rules.specs.Values.{type_of, middle_in}
use Rattle.rules.specs.Layout.{cell, clear, is_clear, hold}
use Rattle.rules.specs.Tree.{Signal, input, time, ext, delay, let_signal, switch, group, until, Branches, no_branch, branch, Cases, no_case, case}
use Rattle.rules.specs.Reset.{reset_s, reset_b, rests_s, rests_b}
use Rattle.rules.specs.WellFormed.{content_fits, well_s, well_b, well_c}
use Rattle.rules.proofs.Static.{and_both, not_both}
use Rattle.promises.specs.Small.{Small}
use Rattle.promises.specs.Sits.{SitsS, SitsB, SitsC}
use Rattle.promises.proofs.ValidLaws.{and_join}
use Rattle.current.proofs.Resting.{rests_reset, rests_b_reset}
use Rattle.current.proofs.Leaving.{either}
use Rattle.mends.specs.Mend.{names_branch, mend_s, mend_b, mend_c}
use Rattle.mends.proofs.WellMended.{zeros_unfit, zeros_no_branch}

-- A clear cell cleared: as the reset of a group that has nothing else.
clear_own : (st : Bytes) (k : ℕ) → Small st → is_clear st k ≡ true → clear st k ≡ st
unfolding reset_s rests_s ◌and◌
clear_own st k h e = rests_reset (group 0 k (time 0) no_branch) st h (and_join _ _ (and_join _ _ e refl) refl)

is_zero : (st : Bytes) (k : ℕ) → is_clear st k ≡ true → cell st k ≡ 0
unfolding is_clear
is_zero st k e = eqb-true _ _ e

module _ (count cells : ℕ) (τ : ℕ → ℕ) (st : Bytes) (h : Small st) where
  -- A switch, and a group, whose cell is clear or names its part.
  switch_same : (k t : ℕ) (x e y : Signal) → 1 ≤ t → (mend_s e st ≡ st) → (well_s st x ≡ true → mend_s x st ≡ st) → (well_s st y ≡ true → mend_s y st ≡ st)
      → (if is_clear st k then well_s st x and rests_s st y else content_fits t 0 (cell st k) and rests_s st x and well_s st y) ≡ true
      → (if content_fits t 0 (cell st k) then mend_s y (reset_s x (mend_s e st)) else reset_s y (mend_s x (mend_s e (clear st k)))) ≡ st
  switch_same k t x e y least me mx my w = go (is_clear st k) refl w
    where
      in_first : (c : Bool) → content_fits t 0 (cell st k) ≡ c → is_clear st k ≡ true → (well_s st x and rests_s st y) ≡ true
          → (if c then mend_s y (reset_s x (mend_s e st)) else reset_s y (mend_s x (mend_s e (clear st k)))) ≡ st
      in_first true f z p = absurd (not_both (sym (zeros_unfit t 0 least) ∙ ap (content_fits t 0) (sym (is_zero st k z)) ∙ f))
      in_first false f z p =
          let q = and_both _ _ p in
          ap (λ r. reset_s y (mend_s x (mend_s e r))) (clear_own st k h z) ∙ ap (λ r. reset_s y (mend_s x r)) me
          ∙ ap (reset_s y) (mx q.0) ∙ rests_reset y st h q.1

      in_second : (c : Bool) → content_fits t 0 (cell st k) ≡ c → (content_fits t 0 (cell st k) and rests_s st x and well_s st y) ≡ true
          → (if c then mend_s y (reset_s x (mend_s e st)) else reset_s y (mend_s x (mend_s e (clear st k)))) ≡ st
      in_second true f p =
          let q = and_both _ _ p in
          ap (λ r. mend_s y (reset_s x r)) me ∙ ap (mend_s y) (rests_reset x st h (and_both _ _ q.0).1) ∙ my q.1
      in_second false f p = absurd (not_both (sym f ∙ (and_both _ _ (and_both _ _ p).0).0))

      go : (b : Bool) → is_clear st k ≡ b → (if b then well_s st x and rests_s st y else content_fits t 0 (cell st k) and rests_s st x and well_s st y) ≡ true
          → (if content_fits t 0 (cell st k) then mend_s y (reset_s x (mend_s e st)) else reset_s y (mend_s x (mend_s e (clear st k)))) ≡ st
      go true z p = in_first _ refl z p
      go false z p = in_second _ refl p

  group_same : (k : ℕ) (body : Signal) (brs : Branches) → SitsB count cells τ brs → (well_s st body ≡ true → mend_s body st ≡ st)
      → ((m : ℕ) → well_b st m brs ≡ true → (names_branch m brs ≡ true) × (mend_b m brs st ≡ st))
      → (if is_clear st k then well_s st body and rests_b st brs else rests_s st body and well_b st (cell st k) brs) ≡ true
      → (if names_branch (cell st k) brs then mend_b (cell st k) brs (reset_s body st) else reset_b brs (mend_s body (clear st k))) ≡ st
  group_same k body brs sits mb ml w = go (is_clear st k) refl w
    where
      in_body : (c : Bool) → names_branch (cell st k) brs ≡ c → is_clear st k ≡ true → (well_s st body and rests_b st brs) ≡ true
          → (if c then mend_b (cell st k) brs (reset_s body st) else reset_b brs (mend_s body (clear st k))) ≡ st
      in_body true f z p =
          absurd (not_both (sym (zeros_no_branch count cells τ brs sits) ∙ ap (λ (m : ℕ). names_branch m brs) (sym (is_zero st k z)) ∙ f))
      in_body false f z p =
          let q = and_both _ _ p in
          ap (λ r. reset_b brs (mend_s body r)) (clear_own st k h z) ∙ ap (reset_b brs) (mb q.0) ∙ rests_b_reset brs st h q.1

      in_branch : (c : Bool) → names_branch (cell st k) brs ≡ c → (rests_s st body and well_b st (cell st k) brs) ≡ true
          → (if c then mend_b (cell st k) brs (reset_s body st) else reset_b brs (mend_s body (clear st k))) ≡ st
      in_branch true f p =
          let q = and_both _ _ p in
          ap (mend_b (cell st k) brs) (rests_reset body st h q.0) ∙ (ml (cell st k) q.1).1
      in_branch false f p = absurd (not_both (sym f ∙ (ml (cell st k) (and_both _ _ p).1).0))

      go : (b : Bool) → is_clear st k ≡ b → (if b then well_s st body and rests_b st brs else rests_s st body and well_b st (cell st k) brs) ≡ true
          → (if names_branch (cell st k) brs then mend_b (cell st k) brs (reset_s body st) else reset_b brs (mend_s body (clear st k))) ≡ st
      go true z p = in_body _ refl z p
      go false z p = in_branch _ refl p

  branch_same : (n t m : ℕ) (body : Signal) (next : Branches) → (well_s st body ≡ true → mend_s body st ≡ st)
      → (well_b st m next ≡ true → (names_branch m next ≡ true) × (mend_b m next st ≡ st)) → (b : Bool)
      → (if b then content_fits t n m and well_s st body and rests_b st next else rests_s st body and well_b st m next) ≡ true
      → ((if b then content_fits t n m else names_branch m next) ≡ true) × ((if b then reset_b next (mend_s body st) else mend_b m next (reset_s body st)) ≡ st)
  branch_same n t m body next mb ml true p =
      let q = and_both _ _ p in
      let r = and_both _ _ q.0 in
      (r.0, ap (reset_b next) (mb r.1) ∙ rests_b_reset next st h q.1)
  branch_same n t m body next mb ml false p =
      let q = and_both _ _ p in
      ((ml q.1).0, ap (mend_b m next) (rests_reset body st h q.0) ∙ (ml q.1).1)

  mutual
    unfolding mend_s well_s names_branch

    pub mend_same : (s : Signal) → SitsS count cells τ s → well_s st s ≡ true → mend_s s st ≡ st
    mend_same (input n c) sits w = refl
    mend_same (time n) sits w = refl
    mend_same (ext n e) sits w = refl
    mend_same (delay n k v s) sits w =
        let p = and_both _ _ w in
        ap (λ (b : Bool). mend_s s (if b then st else hold st k v)) p.0 ∙ mend_same s sits.2 p.1
    mend_same (let_signal n t d b) sits w =
        let p = and_both _ _ w in
        ap (mend_s b) (mend_same d sits.1 p.0) ∙ mend_same b sits.2 p.1
    mend_same (switch n k t x e y) sits w =
        let p = and_both _ _ w in
        switch_same k t x e y sits.1.least (mend_same e sits.3 p.0) (λ q. mend_same x sits.2 q) (λ q. mend_same y sits.4 q) p.1
    mend_same (group n k body brs) sits w = group_same k body brs sits.2 (λ q. mend_same body sits.1 q) (λ m q. mend_b_same brs sits.2 m q) w
    mend_same (until n s cs) sits w =
        let p = and_both _ _ w in
        ap (mend_c cs) (mend_same s sits.0 p.0) ∙ mend_c_same cs sits.1 p.1

    mend_b_same : (brs : Branches) → SitsB count cells τ brs → (m : ℕ) → well_b st m brs ≡ true → (names_branch m brs ≡ true) × (mend_b m brs st ≡ st)
    mend_b_same no_branch sits m w = absurd (not_both w)
    mend_b_same (branch n t body next) sits m w =
        branch_same n t m body next (λ q. mend_same body sits.2 q) (λ q. mend_b_same next sits.3 m q) (eqb n (middle_in m)) w

    mend_c_same : (cs : Cases) → SitsC count cells τ cs → well_c st cs ≡ true → mend_c cs st ≡ st
    mend_c_same no_case sits w = refl
    mend_c_same (case n event target t next) sits w =
        let p = and_both _ _ w in
        ap (mend_c next) (mend_same event sits.1 p.0) ∙ mend_c_same next sits.2 p.1
