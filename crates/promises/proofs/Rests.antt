-- A reset puts a part to rest and changes nothing else; a part at rest is well-formed.
-- Assumes nothing.
use Rattle.std.specs.Prelude.{if◌then◌else◌}
use mathlib.Core.Path.{◌≡◌, refl, ap, ◌∙◌}
use mathlib.Core.Bool.{Bool, true}
use Prim.Native.Nat.{ℕ, ◌+◌, ◌<◌, ◌≤◌}
use native.Mathlib.Omega.{arith}
use lib.Dec.{eqb}
use lib.ListN.{length}
use borrow.Author.Tests.{eq-eqb, eqb-true}
use Rattle.rules.specs.Bytes.{Bytes, ◌and◌}
use Rattle.rules.specs.Values.{type_of, packed}
use Rattle.rules.specs.Layout.{cell, cell_at, set_cell, hold, clear, is_clear}
use Rattle.rules.specs.Tree.{Signal, input, time, ext, delay, let_signal, switch, group, until, Branches, no_branch, branch, Cases, no_case, case}
use Rattle.rules.specs.Reset.{reset_s, reset_b, reset_c, rests_s, rests_b, rests_c}
use Rattle.rules.specs.WellFormed.{content_fits, well_s, well_c}
use Rattle.rules.specs.Size.{is_cell, times_s, times_b, times_c}
use Rattle.rules.specs.declared.Value.{Value}
use Rattle.rules.proofs.Static.{and_both}
use Rattle.rules.proofs.Cells.{cell_same, cell_other, time_stays, sum_stays, length_set_cell}
use Rattle.promises.specs.Small.{Small}
use Rattle.promises.specs.Valid.{Valid}
use Rattle.promises.specs.Sits.{SitsS, SitsB, SitsC}
use Rattle.promises.specs.Kept.{Kept, Agree}
use Rattle.promises.proofs.SmallLaws.{small_set_cell}
use Rattle.promises.proofs.ValidLaws.{and_join, value_fits_lem, packed_small}
use Rattle.promises.proofs.Frames.{cell_itself, cell_another, kept_self, kept_then, Apart, apart_agree, agree_part, rests_agree}

-- A change of the own cells of a part after which a test holds.
pub record Became (own : ℕ → ℕ) (test : Bytes → Bool) (st st₁ : Bytes) : Type 0 where
  pub kept : Kept own st st₁
  pub holds : test st₁ ≡ true

-- A test that depends on a part's own cells only.
abbrev pub Local : (ℕ → ℕ) → (Bytes → Bool) → Type 0
Local own test = (st st₁ : Bytes) → Agree own st st₁ → test st₁ ≡ test st

-- One part after another, which shares no cell with it.
pub join : {f g : ℕ → ℕ} {P Q : Bytes → Bool} {st st₁ st₂ : Bytes} → Local f P → Apart f g
    → Became f P st st₁ → Became g Q st₁ st₂ → Became (λ k. f k + g k) (λ s. P s and Q s) st st₂
join {st₁ = st₁} {st₂} loc apart a b = record {
  kept = kept_then (λ k e. omega arith) (λ k e. omega arith) a.kept b.kept;
  holds = and_join _ _ (loc st₁ st₂ (apart_agree (λ k. omega (arith, apart k)) b.kept) ∙ a.holds) b.holds;
}

-- Two tests together.
pub both_local : {f g : ℕ → ℕ} {P Q : Bytes → Bool} → Local f P → Local g Q → Local (λ k. f k + g k) (λ s. P s and Q s)
both_local a b st st₁ h =
    let p = a st st₁ (agree_part (λ k. omega arith) h) in
    let q = b st st₁ (agree_part (λ k. omega arith) h) in
    λ i. p i and q i

-- A part that has no cell.
pub nothing_set : {own : ℕ → ℕ} (st : Bytes) → Small st → Became own (λ q. true) st st
nothing_set st h = record { kept = kept_self _ st h; holds = refl }

-- A cell is stored.
inside : (k cells : ℕ) → k < cells → cell_at k + 8 ≤ cell_at cells
unfolding cell_at
inside k cells h = omega arith

-- A cell holds the number that was stored.
pub cell_set : (st : Bytes) (k m cells : ℕ) → k < cells → Small st → length st ≡ cell_at cells → m < 18446744073709551616
    → Became (λ j. is_cell j k) (λ q. eqb (cell q k) m) st (set_cell st k m)
cell_set st k m cells h s l g = record {
  kept = record {
    long = length_set_cell st k m;
    bytes = small_set_cell st k m s;
    moment = time_stays st k m;
    stamp = sum_stays st k m;
    others = λ j e. cell_other st k j m (cell_another j k e);
  };
  holds = eq-eqb _ m (cell_same st k m (omega (arith, inside k cells h)) g);
}

-- What a cell holds depends on that cell only.
pub cell_local : (k m : ℕ) → Local (λ j. is_cell j k) (λ q. eqb (cell q k) m)
cell_local k m st st₁ a = ap (λ (c : ℕ). eqb c m) (a.same k (omega (arith, cell_itself k)))

-- A cell holds the value that was stored.
pub hold_set : (st : Bytes) (k cells : ℕ) (v : Value) → k < cells → Small st → length st ≡ cell_at cells → Valid v
    → Became (λ j. is_cell j k) (λ q. eqb (cell q k) (packed v)) st (hold st k v)
unfolding hold
hold_set st k cells v h s l g = cell_set st k (packed v) cells h s l (omega (arith, packed_small v 0 g (omega arith)))

-- A cell is clear once it was cleared.
clear_set : (st : Bytes) (k cells : ℕ) → k < cells → Small st → length st ≡ cell_at cells
    → Became (λ j. is_cell j k) (λ q. is_clear q k) st (clear st k)
unfolding clear is_clear
clear_set st k cells h s l = cell_set st k 0 cells h s l (omega arith)

-- Whether a cell is clear depends on that cell only.
clear_local : (k : ℕ) → Local (λ j. is_cell j k) (λ q. is_clear q k)
unfolding is_clear
clear_local k = cell_local k 0

-- A reset.
mutual
  unfolding reset_s rests_s times_s

  -- A signal rests after its reset, which changes its own cells only.
  pub reset_rests : (s : Signal) (count cells : ℕ) (τ : ℕ → ℕ) (st : Bytes) → SitsS count cells τ s → ((k : ℕ) → times_s k s ≤ 1)
      → Small st → length st ≡ cell_at cells → Became (λ k. times_s k s) (λ q. rests_s q s) st (reset_s s st)
  reset_rests (input n c) count cells τ st sits once h l = nothing_set st h
  reset_rests (time n) count cells τ st sits once h l = nothing_set st h
  reset_rests (ext n e) count cells τ st sits once h l = nothing_set st h
  reset_rests (delay n k v s) count cells τ st sits once h l =
      let a = hold_set st k cells v sits.0 h l sits.1 in
      join (cell_local k (packed v)) (λ j. once j) a
      (reset_rests s count cells τ (hold st k v) sits.2 (λ j. omega (arith, once j)) a.kept.bytes (a.kept.long ∙ l))
  reset_rests (let_signal n t d b) count cells τ st sits once h l =
      let a = reset_rests d count cells τ st sits.1 (λ j. omega (arith, once j)) h l in
      join (rests_agree d) (λ j. once j) a
      (reset_rests b count cells τ (reset_s d st) sits.2 (λ j. omega (arith, once j)) a.kept.bytes (a.kept.long ∙ l))
  reset_rests (switch n k t x e y) count cells τ st sits once h l =
      let a = clear_set st k cells sits.0 h l in
      let b = reset_rests x count cells τ (clear st k) sits.2 (λ j. omega (arith, once j)) a.kept.bytes (a.kept.long ∙ l) in
      let c = reset_rests e count cells τ (reset_s x (clear st k)) sits.3 (λ j. omega (arith, once j)) b.kept.bytes (b.kept.long ∙ a.kept.long ∙ l) in
      let d = reset_rests y count cells τ (reset_s e (reset_s x (clear st k))) sits.4 (λ j. omega (arith, once j)) c.kept.bytes (c.kept.long ∙ b.kept.long ∙ a.kept.long ∙ l) in
      let ab = join (clear_local k) (λ j. omega (arith, once j)) a b in
      let abc = join (both_local (clear_local k) (rests_agree x)) (λ j. omega (arith, once j)) ab c in
      join (both_local (both_local (clear_local k) (rests_agree x)) (rests_agree e)) (λ j. once j) abc d
  reset_rests (group n k body brs) count cells τ st sits once h l =
      let a = clear_set st k cells sits.0 h l in
      let b = reset_rests body count cells τ (clear st k) sits.1 (λ j. omega (arith, once j)) a.kept.bytes (a.kept.long ∙ l) in
      let c = reset_b_rests brs count cells τ (reset_s body (clear st k)) sits.2 (λ j. omega (arith, once j)) b.kept.bytes (b.kept.long ∙ a.kept.long ∙ l) in
      join (both_local (clear_local k) (rests_agree body)) (λ j. once j) (join (clear_local k) (λ j. omega (arith, once j)) a b) c
  reset_rests (until n s cs) count cells τ st sits once h l =
      let a = reset_rests s count cells τ st sits.0 (λ j. omega (arith, once j)) h l in
      join (rests_agree s) (λ j. once j) a
      (reset_c_rests cs count cells τ (reset_s s st) sits.1 (λ j. omega (arith, once j)) a.kept.bytes (a.kept.long ∙ l))

  -- The same of branches.
  pub reset_b_rests : (brs : Branches) (count cells : ℕ) (τ : ℕ → ℕ) (st : Bytes) → SitsB count cells τ brs → ((k : ℕ) → times_b k brs ≤ 1)
      → Small st → length st ≡ cell_at cells → Became (λ k. times_b k brs) (λ q. rests_b q brs) st (reset_b brs st)
  reset_b_rests no_branch count cells τ st sits once h l = nothing_set st h
  reset_b_rests (branch n t body next) count cells τ st sits once h l =
      let a = reset_rests body count cells τ st sits.2 (λ j. omega (arith, once j)) h l in
      join (rests_agree body) (λ j. once j) a
      (reset_b_rests next count cells τ (reset_s body st) sits.3 (λ j. omega (arith, once j)) a.kept.bytes (a.kept.long ∙ l))

  -- The same of cases.
  pub reset_c_rests : (cs : Cases) (count cells : ℕ) (τ : ℕ → ℕ) (st : Bytes) → SitsC count cells τ cs → ((k : ℕ) → times_c k cs ≤ 1)
      → Small st → length st ≡ cell_at cells → Became (λ k. times_c k cs) (λ q. rests_c q cs) st (reset_c cs st)
  reset_c_rests no_case count cells τ st sits once h l = nothing_set st h
  reset_c_rests (case n event target t next) count cells τ st sits once h l =
      let a = reset_rests event count cells τ st sits.1 (λ j. omega (arith, once j)) h l in
      join (rests_agree event) (λ j. once j) a
      (reset_c_rests next count cells τ (reset_s event st) sits.2 (λ j. omega (arith, once j)) a.kept.bytes (a.kept.long ∙ l))

-- At rest.
pub if_yes : (b p q : Bool) → b ≡ true → p ≡ true → (if b then p else q) ≡ true
if_yes b p q e h = rw e h

mutual
  unfolding rests_s well_s

  -- A signal at rest is well-formed.
  pub rests_well : (s : Signal) (count cells : ℕ) (τ : ℕ → ℕ) (st : Bytes) → SitsS count cells τ s → rests_s st s ≡ true → well_s st s ≡ true
  rests_well (input n c) count cells τ st sits e = refl
  rests_well (time n) count cells τ st sits e = refl
  rests_well (ext n x) count cells τ st sits e = refl
  rests_well (delay n k v s) count cells τ st sits e =
      let a = and_both _ _ e in
      and_join _ _ (ap (content_fits (type_of v) 0) (eqb-true _ _ a.0) ∙ value_fits_lem v sits.1) (rests_well s count cells τ st sits.2 a.1)
  rests_well (let_signal n t d b) count cells τ st sits e =
      let a = and_both _ _ e in
      and_join _ _ (rests_well d count cells τ st sits.1 a.0) (rests_well b count cells τ st sits.2 a.1)
  rests_well (switch n k t x e y) count cells τ st sits h =
      let a = and_both _ _ h in
      let b = and_both _ _ a.0 in
      let c = and_both _ _ b.0 in
      and_join _ _ (rests_well e count cells τ st sits.3 b.1)
      (if_yes (is_clear st k) _ _ c.0 (and_join _ _ (rests_well x count cells τ st sits.2 c.1) a.1))
  rests_well (group n k body brs) count cells τ st sits h =
      let a = and_both _ _ h in
      let b = and_both _ _ a.0 in
      if_yes (is_clear st k) _ _ b.0 (and_join _ _ (rests_well body count cells τ st sits.1 b.1) a.1)
  rests_well (until n s cs) count cells τ st sits h =
      let a = and_both _ _ h in
      and_join _ _ (rests_well s count cells τ st sits.0 a.0) (rests_c_well cs count cells τ st sits.1 a.1)

  -- The same of cases.
  rests_c_well : (cs : Cases) (count cells : ℕ) (τ : ℕ → ℕ) (st : Bytes) → SitsC count cells τ cs → rests_c st cs ≡ true → well_c st cs ≡ true
  rests_c_well no_case count cells τ st sits h = refl
  rests_c_well (case n event target t next) count cells τ st sits h =
      let a = and_both _ _ h in
      and_join _ _ (rests_well event count cells τ st sits.1 a.0) (rests_c_well next count cells τ st sits.2 a.1)
