-- What is brought back is well-formed, and nothing but a part's own cells is changed.
-- Assumes nothing.
use Rattle.std.specs.Prelude.{if◌then◌else◌}
use mathlib.Core.Path.{◌≡◌, refl, sym, ap, subst, ◌∙◌}
use mathlib.Core.Bool.{Bool, true, false}
use Prim.Native.Nat.{ℕ, ◌+◌, ◌<◌, ◌≤◌}
use native.Mathlib.Omega.{arith}
use lib.Dec.{eqb}
use lib.ListN.{length}
use borrow.Author.Tests.{eq-eqb, eqb-true, ne_eqb}
use Rattle.rules.specs.Bytes.{Bytes, ◌and◌}
use Rattle.rules.specs.Values.{type_of, type_in, middle_in}
use Rattle.rules.specs.Layout.{cell, cell_at, hold, clear, is_clear}
use Rattle.rules.specs.Tree.{Signal, input, time, ext, delay, let_signal, switch, group, until, Branches, no_branch, branch, Cases, no_case, case}
use Rattle.rules.specs.Reset.{reset_s, reset_b, rests_s, rests_b}
use Rattle.rules.specs.WellFormed.{content_fits, well_s, well_b, well_c}
use Rattle.rules.specs.Size.{is_cell, times_s, times_b, times_c}
use Rattle.rules.specs.declared.Value.{Value}
use Rattle.rules.proofs.Static.{and_both, not_both}
use Rattle.promises.specs.Small.{Small}
use Rattle.promises.specs.Valid.{Valid}
use Rattle.promises.specs.Sits.{SitsS, SitsB, SitsC}
use Rattle.promises.specs.Kept.{Kept, Agree}
use Rattle.promises.proofs.ValidLaws.{and_join, value_fits_lem}
use Rattle.promises.proofs.Frames.{cell_itself, kept_self, kept_then, kept_more, Apart, apart_agree, agree_part, rests_agree, rests_b_agree, well_agree, well_b_agree, well_c_agree}
use Rattle.promises.proofs.Rests.{Became, Local, join, both_local, nothing_set, cell_set, hold_set, reset_rests, reset_b_rests, if_yes}
use Rattle.mends.specs.Mend.{names_branch, mend_s, mend_b, mend_c}

-- Zeros are a value of no type.
pub zeros_unfit : (t n : ℕ) → 1 ≤ t → content_fits t n 0 ≡ false
unfolding content_fits type_in ◌and◌
zeros_unfit t n h = rw (ne_eqb 0 t (λ e. omega arith)) refl

-- A cell that fits is not clear.
pub fits_not_clear : (st : Bytes) (k t n : ℕ) → 1 ≤ t → content_fits t n (cell st k) ≡ true → is_clear st k ≡ false
unfolding is_clear
fits_not_clear st k t n h e =
    ne_eqb (cell st k) 0 (λ z. not_both (sym (zeros_unfit t n h) ∙ ap (content_fits t n) (sym z) ∙ e))

-- Zeros name no branch.
pub zeros_no_branch : (count cells : ℕ) (τ : ℕ → ℕ) (brs : Branches) → SitsB count cells τ brs → names_branch 0 brs ≡ false
unfolding names_branch middle_in
zeros_no_branch count cells τ no_branch sits = refl
zeros_no_branch count cells τ (branch n t body next) sits =
    rw (ne_eqb n 0 (λ e. omega (arith, sits.0.positive))) (zeros_no_branch count cells τ next sits.3)

pub branch_not_clear : (count cells : ℕ) (τ : ℕ → ℕ) (brs : Branches) → SitsB count cells τ brs → (st : Bytes) (k : ℕ)
    → names_branch (cell st k) brs ≡ true → is_clear st k ≡ false
unfolding is_clear
branch_not_clear count cells τ brs sits st k e =
    ne_eqb (cell st k) 0 (λ z. not_both (sym (zeros_no_branch count cells τ brs sits) ∙ ap (λ (m : ℕ). names_branch m brs) (sym z) ∙ e))

no_branch_lem : (m : ℕ) → names_branch m no_branch ≡ true → ⊥
unfolding names_branch
no_branch_lem m e = not_both e

if_no : (b p q : Bool) → b ≡ false → q ≡ true → (if b then p else q) ≡ true
if_no b p q e h = rw e h

-- A state after a part's change, of the same length.
module _ (count cells : ℕ) (τ : ℕ → ℕ) where
  -- The first value held where the content does not fit.
  pub delay_set : (st : Bytes) (k : ℕ) (v : Value) → k < cells → Small st → length st ≡ cell_at cells → Valid v
      → Became (λ j. is_cell j k) (λ q. content_fits (type_of v) 0 (cell q k)) st (if content_fits (type_of v) 0 (cell st k) then st else hold st k v)
  delay_set st k v h s l g = go (content_fits (type_of v) 0 (cell st k)) refl
    where
      go : (b : Bool) → content_fits (type_of v) 0 (cell st k) ≡ b
          → Became (λ j. is_cell j k) (λ q. content_fits (type_of v) 0 (cell q k)) st (if b then st else hold st k v)
      go true e = record { kept = kept_self _ st s; holds = e }
      go false e =
          let a = hold_set st k cells v h s l g in
          record { kept = a.kept; holds = ap (content_fits (type_of v) 0) (eqb-true _ _ a.holds) ∙ value_fits_lem v g }

  fits_local : (k t n : ℕ) → Local (λ j. is_cell j k) (λ q. content_fits t n (cell q k))
  fits_local k t n st st₁ a = ap (content_fits t n) (a.same k (omega (arith, cell_itself k)))

  -- A cell that is cleared.
  pub cleared : (st : Bytes) (k : ℕ) → k < cells → Small st → length st ≡ cell_at cells → Became (λ j. is_cell j k) (λ q. is_clear q k) st (clear st k)
  unfolding clear is_clear
  cleared st k h s l = cell_set st k 0 cells h s l (omega arith)

  clear_local : (k : ℕ) → Local (λ j. is_cell j k) (λ q. is_clear q k)
  unfolding is_clear
  clear_local k st st₁ a = ap (λ (c : ℕ). eqb c 0) (a.same k (omega (arith, cell_itself k)))

  -- What is said of a signal, and of a list of branches of which a content names one.
  abbrev Mends : Signal → Type 0
  Mends s = (st : Bytes) → Small st → length st ≡ cell_at cells → Became (λ j. times_s j s) (λ q. well_s q s) st (mend_s s st)

  abbrev MendsB : Branches → Type 0
  MendsB brs = (m : ℕ) → names_branch m brs ≡ true → (st : Bytes) → Small st → length st ≡ cell_at cells
      → Became (λ j. times_b j brs) (λ q. well_b q m brs) st (mend_b m brs st)

  -- A switch: switched with a valid content, or put to start.
  switch_mends : (n k t : ℕ) (x e y : Signal) → SitsS count cells τ (switch n k t x e y) → ((j : ℕ) → times_s j (switch n k t x e y) ≤ 1)
      → Mends x → Mends e → Mends y → Mends (switch n k t x e y)
  unfolding mend_s well_s times_s
  switch_mends n k t x e y sits once mx me my st h l = go (content_fits t 0 (cell st k)) refl
    where
      go : (b : Bool) → content_fits t 0 (cell st k) ≡ b
          → Became (λ j. is_cell j k + times_s j x + times_s j e + times_s j y)
          (λ q. well_s q e and (if is_clear q k then well_s q x and rests_s q y else content_fits t 0 (cell q k) and rests_s q x and well_s q y)) st
          (if b then mend_s y (reset_s x (mend_s e st)) else reset_s y (mend_s x (mend_s e (clear st k))))
      go true f =
          let a = me st h l in
          let b = reset_rests x count cells τ (mend_s e st) sits.2 (λ j. omega (arith, once j)) a.kept.bytes (a.kept.long ∙ l) in
          let c = my (reset_s x (mend_s e st)) b.kept.bytes (b.kept.long ∙ a.kept.long ∙ l) in
          let ab = join (well_agree e) (λ j. omega (arith, once j)) a b in
          let abc = join (both_local (well_agree e) (rests_agree x)) (λ j. omega (arith, once j)) ab c in
          let p = and_both _ _ abc.holds in
          let q = and_both _ _ p.0 in
          let same : cell (mend_s y (reset_s x (mend_s e st))) k ≡ cell st k = abc.kept.others k (omega (arith, once k, cell_itself k)) in
          let fits = ap (content_fits t 0) same ∙ f in
          record {
            kept = kept_more (λ j z. omega arith) abc.kept;
            holds = and_join _ _ q.0
                (if_no _ _ _ (fits_not_clear _ k t 0 sits.1.least fits) (and_join _ _ (and_join _ _ fits q.1) p.1));
          }
      go false f =
          let z = cleared st k sits.0 h l in
          let a = me (clear st k) z.kept.bytes (z.kept.long ∙ l) in
          let b = mx (mend_s e (clear st k)) a.kept.bytes (a.kept.long ∙ z.kept.long ∙ l) in
          let c = reset_rests y count cells τ (mend_s x (mend_s e (clear st k))) sits.4 (λ j. omega (arith, once j)) b.kept.bytes
          (b.kept.long ∙ a.kept.long ∙ z.kept.long ∙ l) in
          let za = join (clear_local k) (λ j. omega (arith, once j)) z a in
          let zab = join (both_local (clear_local k) (well_agree e)) (λ j. omega (arith, once j)) za b in
          let zabc = join (both_local (both_local (clear_local k) (well_agree e)) (well_agree x)) (λ j. omega (arith, once j)) zab c in
          let p = and_both _ _ zabc.holds in
          let q = and_both _ _ p.0 in
          let r = and_both _ _ q.0 in
          record {
            kept = kept_more (λ j z. omega arith) zabc.kept;
            holds = and_join _ _ r.1 (if_yes _ _ _ r.0 (and_join _ _ q.1 p.1));
          }

  -- A group: in a branch that it names with a valid content, or put to start.
  group_mends : (n k : ℕ) (body : Signal) (brs : Branches) → SitsS count cells τ (group n k body brs)
      → ((j : ℕ) → times_s j (group n k body brs) ≤ 1) → Mends body → MendsB brs → Mends (group n k body brs)
  unfolding mend_s well_s times_s
  group_mends n k body brs sits once mb ml st h l = go (names_branch (cell st k) brs) refl
    where
      go : (b : Bool) → names_branch (cell st k) brs ≡ b
          → Became (λ j. is_cell j k + times_s j body + times_b j brs)
          (λ q. if is_clear q k then well_s q body and rests_b q brs else rests_s q body and well_b q (cell q k) brs) st
          (if b then mend_b (cell st k) brs (reset_s body st) else reset_b brs (mend_s body (clear st k)))
      go true f =
          let a = reset_rests body count cells τ st sits.1 (λ j. omega (arith, once j)) h l in
          let b = ml (cell st k) f (reset_s body st) a.kept.bytes (a.kept.long ∙ l) in
          let ab = join (rests_agree body) (λ j. omega (arith, once j)) a b in
          let p = and_both _ _ ab.holds in
          let q : Bytes = mend_b (cell st k) brs (reset_s body st) in
          let same : cell q k ≡ cell st k = ab.kept.others k (omega (arith, once k, cell_itself k)) in
          record {
            kept = kept_more (λ j z. omega arith) ab.kept;
            holds = if_no _ _ _ (branch_not_clear count cells τ brs sits.2 q k (ap (λ (m : ℕ). names_branch m brs) same ∙ f))
                (and_join _ _ p.0 (ap (λ (m : ℕ). well_b q m brs) same ∙ p.1));
          }
      go false f =
          let z = cleared st k sits.0 h l in
          let a = mb (clear st k) z.kept.bytes (z.kept.long ∙ l) in
          let b = reset_b_rests brs count cells τ (mend_s body (clear st k)) sits.2 (λ j. omega (arith, once j)) a.kept.bytes
          (a.kept.long ∙ z.kept.long ∙ l) in
          let za = join (clear_local k) (λ j. omega (arith, once j)) z a in
          let zab = join (both_local (clear_local k) (well_agree body)) (λ j. omega (arith, once j)) za b in
          let p = and_both _ _ zab.holds in
          let q = and_both _ _ p.0 in
          record {
            kept = kept_more (λ j z. omega arith) zab.kept;
            holds = if_yes _ _ _ q.0 (and_join _ _ q.1 p.1);
          }

  -- A list of branches: the first is the one that is named, or one of the others is.
  branch_mends : (n t : ℕ) (body : Signal) (next : Branches) → SitsB count cells τ (branch n t body next)
      → ((j : ℕ) → times_b j (branch n t body next) ≤ 1) → Mends body → MendsB next → MendsB (branch n t body next)
  unfolding mend_s well_s times_s names_branch
  branch_mends n t body next sits once mb ml m names st h l = go (eqb n (middle_in m)) names
    where
      go : (b : Bool) → (if b then content_fits t n m else names_branch m next) ≡ true
          → Became (λ j. times_s j body + times_b j next)
          (λ q. if b then content_fits t n m and well_s q body and rests_b q next else rests_s q body and well_b q m next) st
          (if b then reset_b next (mend_s body st) else mend_b m next (reset_s body st))
      go true f =
          let a = mb st h l in
          let b = reset_b_rests next count cells τ (mend_s body st) sits.3 (λ j. omega (arith, once j)) a.kept.bytes (a.kept.long ∙ l) in
          let ab = join (well_agree body) (λ j. once j) a b in
          let p = and_both _ _ ab.holds in
          record { kept = ab.kept; holds = and_join _ _ (and_join _ _ f p.0) p.1 }
      go false f =
          let a = reset_rests body count cells τ st sits.2 (λ j. omega (arith, once j)) h l in
          let b = ml m f (reset_s body st) a.kept.bytes (a.kept.long ∙ l) in
          join (rests_agree body) (λ j. once j) a b

  mutual
    unfolding mend_s well_s times_s

    pub mend_well : (s : Signal) → SitsS count cells τ s → ((j : ℕ) → times_s j s ≤ 1) → Mends s
    mend_well (input n c) sits once st h l = nothing_set st h
    mend_well (time n) sits once st h l = nothing_set st h
    mend_well (ext n e) sits once st h l = nothing_set st h
    mend_well (delay n k v s) sits once st h l =
        let a = delay_set st k v sits.0 h l sits.1 in
        join (fits_local k (type_of v) 0) (λ j. once j) a
        (mend_well s sits.2 (λ j. omega (arith, once j)) _ a.kept.bytes (a.kept.long ∙ l))
    mend_well (let_signal n t d b) sits once st h l =
        let a = mend_well d sits.1 (λ j. omega (arith, once j)) st h l in
        join (well_agree d) (λ j. once j) a
        (mend_well b sits.2 (λ j. omega (arith, once j)) _ a.kept.bytes (a.kept.long ∙ l))
    mend_well (switch n k t x e y) sits once st h l =
        switch_mends n k t x e y sits once (λ q i m. mend_well x sits.2 (λ j. omega (arith, once j)) q i m)
        (λ q i m. mend_well e sits.3 (λ j. omega (arith, once j)) q i m) (λ q i m. mend_well y sits.4 (λ j. omega (arith, once j)) q i m) st h l
    mend_well (group n k body brs) sits once st h l =
        group_mends n k body brs sits once (λ q i m. mend_well body sits.1 (λ j. omega (arith, once j)) q i m)
        (λ c names q i m. mend_b_well brs sits.2 (λ j. omega (arith, once j)) c names q i m) st h l
    mend_well (until n s cs) sits once st h l =
        let a = mend_well s sits.0 (λ j. omega (arith, once j)) st h l in
        join (well_agree s) (λ j. once j) a
        (mend_c_well cs sits.1 (λ j. omega (arith, once j)) _ a.kept.bytes (a.kept.long ∙ l))

    pub mend_b_well : (brs : Branches) → SitsB count cells τ brs → ((j : ℕ) → times_b j brs ≤ 1) → MendsB brs
    mend_b_well no_branch sits once m names st h l = absurd (no_branch_lem m names)
    mend_b_well (branch n t body next) sits once c names st h l =
        branch_mends n t body next sits once (λ q i m. mend_well body sits.2 (λ j. omega (arith, once j)) q i m)
        (λ d called q i m. mend_b_well next sits.3 (λ j. omega (arith, once j)) d called q i m) c names st h l

    pub mend_c_well : (cs : Cases) → SitsC count cells τ cs → ((j : ℕ) → times_c j cs ≤ 1) → (st : Bytes) → Small st → length st ≡ cell_at cells
        → Became (λ j. times_c j cs) (λ q. well_c q cs) st (mend_c cs st)
    mend_c_well no_case sits once st h l = nothing_set st h
    mend_c_well (case n event target t next) sits once st h l =
        let a = mend_well event sits.1 (λ j. omega (arith, once j)) st h l in
        join (well_agree event) (λ j. once j) a
        (mend_c_well next sits.2 (λ j. omega (arith, once j)) _ a.kept.bytes (a.kept.long ∙ l))
