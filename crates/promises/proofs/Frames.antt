-- Whether a part rests or is well-formed depends on its own cells only.
-- Assumes nothing.
use Rattle.std.specs.Prelude.{if◌then◌else◌}
use mathlib.Core.Path.{◌≡◌, refl, sym, ap, ◌∙◌}
use mathlib.Core.Logic.{◌≢◌}
use Prim.Native.Nat.{ℕ, ◌+◌, ◌≤◌}
use native.Mathlib.Omega.{arith}
use lib.Dec.{eqb}
use borrow.Author.Tests.{eq-eqb}
use Rattle.rules.specs.Bytes.{Bytes, ◌and◌}
use Rattle.rules.specs.Values.{type_of, packed, middle_in}
use Rattle.rules.specs.Layout.{cell, is_clear}
use Rattle.rules.specs.Tree.{Signal, input, time, ext, delay, let_signal, switch, group, until, Branches, no_branch, branch, Cases, no_case, case}
use Rattle.rules.specs.Reset.{rests_s, rests_b, rests_c}
use Rattle.rules.specs.WellFormed.{content_fits, well_s, well_b, well_c}
use Rattle.rules.specs.Size.{is_cell, times_s, times_b, times_c}
use Rattle.promises.specs.Small.{Small}
use Rattle.promises.specs.Kept.{Kept, Agree}

-- A cell is itself, and no other.
pub cell_itself : (k : ℕ) → is_cell k k ≡ 1
unfolding is_cell
cell_itself k = simp (eq-eqb k k refl)

-- A cell that does not count is another.
pub cell_another : (k j : ℕ) → is_cell k j ≡ 0 → k ≢ j
unfolding is_cell
cell_another k j e h =
    let a : is_cell k j ≡ 1 = ap (is_cell k) (sym h) ∙ cell_itself k in
    omega arith

-- Keeping: nothing changed; one change after another; more cells than changed.
pub kept_self : (own : ℕ → ℕ) (st : Bytes) → Small st → Kept own st st
kept_self own st h = record { long = refl; bytes = h; moment = refl; stamp = refl; others = λ k e. refl }

-- One change after another.
pub kept_then : {f g own : ℕ → ℕ} {st st₁ st₂ : Bytes} → ((k : ℕ) → own k ≡ 0 → f k ≡ 0) → ((k : ℕ) → own k ≡ 0 → g k ≡ 0)
    → Kept f st st₁ → Kept g st₁ st₂ → Kept own st st₂
kept_then hf hg a b = record {
  long = b.long ∙ a.long;
  bytes = b.bytes;
  moment = b.moment ∙ a.moment;
  stamp = b.stamp ∙ a.stamp;
  others = λ k e. b.others k (hg k e) ∙ a.others k (hf k e);
}

-- A change of fewer cells.
pub kept_more : {f own : ℕ → ℕ} {st st₁ : Bytes} → ((k : ℕ) → own k ≡ 0 → f k ≡ 0) → Kept f st st₁ → Kept own st st₁
kept_more hf a = record { long = a.long; bytes = a.bytes; moment = a.moment; stamp = a.stamp; others = λ k e. a.others k (hf k e) }

-- Parts that share no cell.
abbrev pub Apart : (ℕ → ℕ) → (ℕ → ℕ) → Type 0
Apart f g = (k : ℕ) → f k + g k ≤ 1

-- A change of one part leaves another's cells.
pub apart_agree : {f g : ℕ → ℕ} {st st₁ : Bytes} → Apart f g → Kept f st st₁ → Agree g st st₁
apart_agree h a = record { same = λ k l. a.others k (omega (arith, h k)) }

-- States that agree on a part agree on a part of it.
pub agree_part : {f own : ℕ → ℕ} {st st₁ : Bytes} → ((k : ℕ) → f k ≤ own k) → Agree own st st₁ → Agree f st st₁
agree_part h a = record { same = λ k l. a.same k (omega (arith, h k)) }

-- Resting.
mutual
  unfolding rests_s times_s is_clear

  -- A signal rests in both of two states that agree on its cells, or in neither.
  pub rests_agree : (s : Signal) (st st₁ : Bytes) → Agree (λ k. times_s k s) st st₁ → rests_s st₁ s ≡ rests_s st s
  rests_agree (input n c) st st₁ a = refl
  rests_agree (time n) st st₁ a = refl
  rests_agree (ext n e) st st₁ a = refl
  rests_agree (delay n k v s) st st₁ a =
      let c : cell st₁ k ≡ cell st k = a.same k (omega (arith, cell_itself k)) in
      let h = rests_agree s st st₁ (agree_part (λ j. omega arith) a) in
      λ i. eqb (c i) (packed v) and h i
  rests_agree (let_signal n t d b) st st₁ a =
      let h = rests_agree d st st₁ (agree_part (λ j. omega arith) a) in
      let g = rests_agree b st st₁ (agree_part (λ j. omega arith) a) in
      λ i. h i and g i
  rests_agree (switch n k t x e y) st st₁ a =
      let c : cell st₁ k ≡ cell st k = a.same k (omega (arith, cell_itself k)) in
      let h = rests_agree x st st₁ (agree_part (λ j. omega arith) a) in
      let g = rests_agree e st st₁ (agree_part (λ j. omega arith) a) in
      let f = rests_agree y st st₁ (agree_part (λ j. omega arith) a) in
      λ i. eqb (c i) 0 and h i and g i and f i
  rests_agree (group n k body brs) st st₁ a =
      let c : cell st₁ k ≡ cell st k = a.same k (omega (arith, cell_itself k)) in
      let h = rests_agree body st st₁ (agree_part (λ j. omega arith) a) in
      let g = rests_b_agree brs st st₁ (agree_part (λ j. omega arith) a) in
      λ i. eqb (c i) 0 and h i and g i
  rests_agree (until n s cs) st st₁ a =
      let h = rests_agree s st st₁ (agree_part (λ j. omega arith) a) in
      let g = rests_c_agree cs st st₁ (agree_part (λ j. omega arith) a) in
      λ i. h i and g i

  -- The same of branches.
  pub rests_b_agree : (brs : Branches) (st st₁ : Bytes) → Agree (λ k. times_b k brs) st st₁ → rests_b st₁ brs ≡ rests_b st brs
  rests_b_agree no_branch st st₁ a = refl
  rests_b_agree (branch n t body next) st st₁ a =
      let h = rests_agree body st st₁ (agree_part (λ j. omega arith) a) in
      let g = rests_b_agree next st st₁ (agree_part (λ j. omega arith) a) in
      λ i. h i and g i

  -- The same of cases.
  pub rests_c_agree : (cs : Cases) (st st₁ : Bytes) → Agree (λ k. times_c k cs) st st₁ → rests_c st₁ cs ≡ rests_c st cs
  rests_c_agree no_case st st₁ a = refl
  rests_c_agree (case n event target t next) st st₁ a =
      let h = rests_agree event st st₁ (agree_part (λ j. omega arith) a) in
      let g = rests_c_agree next st st₁ (agree_part (λ j. omega arith) a) in
      λ i. h i and g i

-- Being well-formed.
mutual
  unfolding well_s times_s is_clear

  -- A signal is well-formed in both of two states that agree on its cells, or in neither.
  pub well_agree : (s : Signal) (st st₁ : Bytes) → Agree (λ k. times_s k s) st st₁ → well_s st₁ s ≡ well_s st s
  well_agree (input n c) st st₁ a = refl
  well_agree (time n) st st₁ a = refl
  well_agree (ext n e) st st₁ a = refl
  well_agree (delay n k v s) st st₁ a =
      let c : cell st₁ k ≡ cell st k = a.same k (omega (arith, cell_itself k)) in
      let h = well_agree s st st₁ (agree_part (λ j. omega arith) a) in
      λ i. content_fits (type_of v) 0 (c i) and h i
  well_agree (let_signal n t d b) st st₁ a =
      let h = well_agree d st st₁ (agree_part (λ j. omega arith) a) in
      let g = well_agree b st st₁ (agree_part (λ j. omega arith) a) in
      λ i. h i and g i
  well_agree (switch n k t x e y) st st₁ a =
      let c : cell st₁ k ≡ cell st k = a.same k (omega (arith, cell_itself k)) in
      let ax = agree_part {f = λ j. times_s j x} (λ j. omega arith) a in
      let ay = agree_part {f = λ j. times_s j y} (λ j. omega arith) a in
      let wx = well_agree x st st₁ ax in
      let we = well_agree e st st₁ (agree_part (λ j. omega arith) a) in
      let wy = well_agree y st st₁ ay in
      let rx = rests_agree x st st₁ ax in
      let ry = rests_agree y st st₁ ay in
      λ i. we i and (if eqb (c i) 0 then wx i and ry i else content_fits t 0 (c i) and rx i and wy i)
  well_agree (group n k body brs) st st₁ a =
      let c : cell st₁ k ≡ cell st k = a.same k (omega (arith, cell_itself k)) in
      let ab = agree_part {f = λ j. times_s j body} (λ j. omega arith) a in
      let al = agree_part {f = λ j. times_b j brs} (λ j. omega arith) a in
      let wb = well_agree body st st₁ ab in
      let rb = rests_agree body st st₁ ab in
      let rl = rests_b_agree brs st st₁ al in
      let wl : (m : ℕ) → well_b st₁ m brs ≡ well_b st m brs = λ m. well_b_agree brs m st st₁ al in
      let w : well_b st₁ (cell st₁ k) brs ≡ well_b st (cell st k) brs = wl (cell st₁ k) ∙ ap (λ (m : ℕ). well_b st m brs) c in
      λ i. if eqb (c i) 0 then wb i and rl i else rb i and w i
  well_agree (until n s cs) st st₁ a =
      let h = well_agree s st st₁ (agree_part (λ j. omega arith) a) in
      let g = well_c_agree cs st st₁ (agree_part (λ j. omega arith) a) in
      λ i. h i and g i

  -- The same of branches, for a cell content m.
  pub well_b_agree : (brs : Branches) (m : ℕ) (st st₁ : Bytes) → Agree (λ k. times_b k brs) st st₁ → well_b st₁ m brs ≡ well_b st m brs
  well_b_agree no_branch m st st₁ a = refl
  well_b_agree (branch n t body next) m st st₁ a =
      let ab = agree_part {f = λ j. times_s j body} (λ j. omega arith) a in
      let al = agree_part {f = λ j. times_b j next} (λ j. omega arith) a in
      let wb = well_agree body st st₁ ab in
      let rb = rests_agree body st st₁ ab in
      let rl = rests_b_agree next st st₁ al in
      let wl = well_b_agree next m st st₁ al in
      λ i. if eqb n (middle_in m) then content_fits t n m and wb i and rl i else rb i and wl i

  -- The same of cases.
  pub well_c_agree : (cs : Cases) (st st₁ : Bytes) → Agree (λ k. times_c k cs) st st₁ → well_c st₁ cs ≡ well_c st cs
  well_c_agree no_case st st₁ a = refl
  well_c_agree (case n event target t next) st st₁ a =
      let h = well_agree event st st₁ (agree_part (λ j. omega arith) a) in
      let g = well_c_agree next st st₁ (agree_part (λ j. omega arith) a) in
      λ i. h i and g i
