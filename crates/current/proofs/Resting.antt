-- A part at rest is not changed by its reset: what the reset stores is there already.
-- Assumes nothing.
use mathlib.Core.Path.{◌≡◌, refl, sym, ap, ◌∙◌}
use mathlib.Core.Bool.{true}
use Prim.Native.Nat.{ℕ, zero, suc, ◌+◌, ◌*◌, ◌/◌, ◌%◌}
use native.Mathlib.Omega.{arith}
use lib.ListN.{set}
use lib.Seq.{set-get_or}
use borrow.Author.Tests.{eqb-true}
use Rattle.rules.specs.Bytes.{Bytes, byte_at, u16_at, u32_at, u64_at, bytes_of, write_at}
use Rattle.rules.specs.Values.{packed}
use Rattle.rules.specs.Layout.{cell, cell_at, set_cell, hold, clear, is_clear}
use Rattle.rules.specs.Tree.{Signal, input, time, ext, delay, let_signal, switch, group, until, Branches, no_branch, branch, Cases, no_case, case}
use Rattle.rules.specs.Reset.{reset_s, reset_b, reset_c, rests_s, rests_b, rests_c}
use Rattle.rules.proofs.Static.{and_both}
use Rattle.promises.specs.Small.{Small}

-- The number that so many bytes from a position on make.
abbrev number : ℕ → Bytes → ℕ → ℕ
number zero st i = 0
number (suc k) st i = byte_at st i + 256 * number k st (suc i)

-- A byte stored where it stands.
set_own : (st : Bytes) (i b : ℕ) → b ≡ byte_at st i → set st i b ≡ st
unfolding byte_at
set_own st i b e = ap (set st i) e ∙ set-get_or st i 0

-- Bytes written where they stand.
write_own : (k : ℕ) (st : Bytes) (i : ℕ) → Small st → write_at st i (bytes_of k (number k st i)) ≡ st
unfolding write_at bytes_of
write_own zero st i h = refl
write_own (suc k) st i h =
    let x : ℕ = number (suc k) st i in
    let low : x % 256 ≡ byte_at st i = omega (arith, h.small i) in
    let high : x / 256 ≡ number k st (suc i) = omega (arith, h.small i) in
    let same = set_own st i (x % 256) low in
    (λ j. write_at (same j) (suc i) (bytes_of k (high j))) ∙ write_own k st (suc i) h

-- The number of eight bytes.
eight_bytes : (st : Bytes) (i : ℕ) → u64_at st i ≡ number 8 st i
unfolding u64_at u32_at u16_at
eight_bytes st i =
    let e : (a b : ℕ) → a ≡ b → byte_at st a ≡ byte_at st b = λ a b p. ap (byte_at st) p in
    omega (
      arith,
      e (i + 1) (suc i) (omega arith),
      e (i + 2) (suc (suc i)) (omega arith),
      e (i + 2 + 1) (suc (suc (suc i))) (omega arith),
      e (i + 4) (suc (suc (suc (suc i)))) (omega arith),
      e (i + 4 + 1) (suc (suc (suc (suc (suc i))))) (omega arith),
      e (i + 4 + 2) (suc (suc (suc (suc (suc (suc i)))))) (omega arith),
      e (i + 4 + 2 + 1) (suc (suc (suc (suc (suc (suc (suc i))))))) (omega arith),
    )

-- A cell's own content stored in it.
cell_own : (st : Bytes) (k m : ℕ) → Small st → cell st k ≡ m → set_cell st k m ≡ st
unfolding cell set_cell
cell_own st k m h e =
    ap (λ (x : ℕ). write_at st (cell_at k) (bytes_of 8 x)) (sym e ∙ eight_bytes st (cell_at k)) ∙ write_own 8 st (cell_at k) h

-- A clear cell cleared.
clear_own : (st : Bytes) (k : ℕ) → Small st → is_clear st k ≡ true → clear st k ≡ st
unfolding clear is_clear
clear_own st k h e = cell_own st k 0 h (eqb-true _ _ e)

mutual
  unfolding reset_s rests_s hold

  -- A signal.
  pub rests_reset : (s : Signal) (st : Bytes) → Small st → rests_s st s ≡ true → reset_s s st ≡ st
  rests_reset (input n c) st h r = refl
  rests_reset (time n) st h r = refl
  rests_reset (ext n e) st h r = refl
  rests_reset (delay n k v s) st h r =
      let a = and_both _ _ r in
      ap (reset_s s) (cell_own st k (packed v) h (eqb-true _ _ a.0)) ∙ rests_reset s st h a.1
  rests_reset (let_signal n t d b) st h r =
      let a = and_both _ _ r in
      ap (reset_s b) (rests_reset d st h a.0) ∙ rests_reset b st h a.1
  rests_reset (switch n k t x e y) st h r =
      let a = and_both _ _ r in
      let b = and_both _ _ a.0 in
      let c = and_both _ _ b.0 in
      ap (λ q. reset_s y (reset_s e (reset_s x q))) (clear_own st k h c.0)
      ∙ ap (λ q. reset_s y (reset_s e q)) (rests_reset x st h c.1)
      ∙ ap (reset_s y) (rests_reset e st h b.1) ∙ rests_reset y st h a.1
  rests_reset (group n k body brs) st h r =
      let a = and_both _ _ r in
      let b = and_both _ _ a.0 in
      ap (λ q. reset_b brs (reset_s body q)) (clear_own st k h b.0)
      ∙ ap (reset_b brs) (rests_reset body st h b.1) ∙ rests_b_reset brs st h a.1
  rests_reset (until n s cs) st h r =
      let a = and_both _ _ r in
      ap (reset_c cs) (rests_reset s st h a.0) ∙ rests_c_reset cs st h a.1

  -- The same of branches.
  pub rests_b_reset : (brs : Branches) (st : Bytes) → Small st → rests_b st brs ≡ true → reset_b brs st ≡ st
  rests_b_reset no_branch st h r = refl
  rests_b_reset (branch n t body next) st h r =
      let a = and_both _ _ r in
      ap (reset_b next) (rests_reset body st h a.0) ∙ rests_b_reset next st h a.1

  -- The same of cases.
  pub rests_c_reset : (cs : Cases) (st : Bytes) → Small st → rests_c st cs ≡ true → reset_c cs st ≡ st
  rests_c_reset no_case st h r = refl
  rests_c_reset (case n event target t next) st h r =
      let a = and_both _ _ r in
      ap (reset_c next) (rests_reset event st h a.0) ∙ rests_c_reset next st h a.1
