-- Nodes on a way down: their cells stand in the signal; what is current depends on the signal's cells alone; a part at rest has them at start,
-- and in a well-formed state so has every part that is not current.
-- Assumes nothing.
use Rattle.std.specs.Prelude.{if◌then◌else◌}
use mathlib.Core.Path.{◌≡◌, refl, sym, ap, subst, ◌∙◌}
use mathlib.Core.Bool.{Bool, true, false}
use Prim.Native.Nat.{ℕ, ◌+◌, ◌≤◌}
use native.Mathlib.Omega.{arith}
use lib.Dec.{eqb}
use borrow.Author.Tests.{eqb-true, eqb-false, ne_eqb}
use Rattle.rules.specs.Bytes.{Bytes, ◌and◌}
use Rattle.rules.specs.Values.{middle_in}
use Rattle.rules.specs.Layout.{cell, is_clear, branch_in}
use Rattle.rules.specs.Tree.{Signal, input, time, ext, delay, let_signal, switch, group, until, Branches, no_branch, branch, Cases, no_case, case}
use Rattle.rules.specs.Reset.{rests_s, rests_b, rests_c}
use Rattle.rules.specs.WellFormed.{content_fits, well_s, well_b, well_c}
use Rattle.rules.specs.Size.{is_cell, times_s, times_b, times_c}
use Rattle.rules.proofs.Static.{and_both, not_both}
use Rattle.rules.proofs.ByKind.{choose}
use Rattle.promises.specs.Kept.{Agree}
use Rattle.promises.proofs.Frames.{cell_itself, agree_part}
use Rattle.mends.specs.Parts.{Inside, itself, delayed, definition, let_body, first_part, event_part, second_part, group_body, group_branch, until_signal, until_case, InsideB, this_branch, later_branch, InsideC, this_case, later_case, Current, CurrentB, CurrentC, HasCell, start_of, Standing}

pub by_test : {P : Type 0} (b : Bool) → (b ≡ true → P) → (b ≡ false → P) → P
by_test true yes₀ no₀ = yes₀ refl
by_test false yes₀ no₀ = no₀ refl

same_cell : (k j : ℕ) → k ≡ j → 1 ≤ is_cell k j
same_cell k j e = omega (arith, cell_itself j, ap (λ (i : ℕ). is_cell i j) e)

-- A node's own cell stands in it.
own_stands : (z : Signal) (k : ℕ) → HasCell z k → 1 ≤ times_s k z
unfolding times_s
own_stands (input n c) k h = absurd h
own_stands (time n) k h = absurd h
own_stands (ext n e) k h = absurd h
own_stands (delay n j v s) k h = omega (arith, same_cell k j h)
own_stands (let_signal n t d b) k h = absurd h
own_stands (switch n j t x e y) k h = omega (arith, same_cell k j h)
own_stands (group n j body brs) k h = omega (arith, same_cell k j h)
own_stands (until n s cs) k h = absurd h

mutual
  unfolding times_s

  pub stands : {z s : Signal} (w : Inside z s) (k : ℕ) → HasCell z k → 1 ≤ times_s k s
  stands {z} itself k h = own_stands z k h
  stands (delayed w) k h = omega (arith, stands w k h)
  stands (definition w) k h = omega (arith, stands w k h)
  stands (let_body w) k h = omega (arith, stands w k h)
  stands (first_part w) k h = omega (arith, stands w k h)
  stands (event_part w) k h = omega (arith, stands w k h)
  stands (second_part w) k h = omega (arith, stands w k h)
  stands (group_body w) k h = omega (arith, stands w k h)
  stands (group_branch w) k h = omega (arith, stands_b w k h)
  stands (until_signal w) k h = omega (arith, stands w k h)
  stands (until_case w) k h = omega (arith, stands_c w k h)

  pub stands_b : {z : Signal} {brs : Branches} (w : InsideB z brs) (k : ℕ) → HasCell z k → 1 ≤ times_b k brs
  stands_b (this_branch w) k h = omega (arith, stands w k h)
  stands_b (later_branch w) k h = omega (arith, stands_b w k h)

  pub stands_c : {z : Signal} {cs : Cases} (w : InsideC z cs) (k : ℕ) → HasCell z k → 1 ≤ times_c k cs
  stands_c (this_case w) k h = omega (arith, stands w k h)
  stands_c (later_case w) k h = omega (arith, stands_c w k h)

-- A cell that two states share.
clear_same : (st st₁ : Bytes) (k : ℕ) → cell st₁ k ≡ cell st k → is_clear st k ≡ is_clear st₁ k
unfolding is_clear
clear_same st st₁ k e = ap (λ (c : ℕ). eqb c 0) (sym e)

branch_same : (st st₁ : Bytes) (k : ℕ) → cell st₁ k ≡ cell st k → branch_in st₁ k ≡ branch_in st k
unfolding branch_in
branch_same st st₁ k e = ap middle_in e

-- What is current depends on the signal's own cells.
mutual
  unfolding times_s

  pub current_agree : {z s : Signal} (w : Inside z s) (st st₁ : Bytes) → Agree (λ k. times_s k s) st st₁ → Current st₁ w → Current st w
  current_agree itself st st₁ a h = tt
  current_agree (delayed w) st st₁ a h = current_agree w st st₁ (agree_part (λ j. omega arith) a) h
  current_agree (definition w) st st₁ a h = current_agree w st st₁ (agree_part (λ j. omega arith) a) h
  current_agree (let_body w) st st₁ a h = current_agree w st st₁ (agree_part (λ j. omega arith) a) h
  current_agree (first_part {k = k} w) st st₁ a h =
      (clear_same st st₁ k (a.same k (omega (arith, cell_itself k))) ∙ h.0, current_agree w st st₁ (agree_part (λ j. omega arith) a) h.1)
  current_agree (event_part w) st st₁ a h = current_agree w st st₁ (agree_part (λ j. omega arith) a) h
  current_agree (second_part {k = k} w) st st₁ a h =
      (clear_same st st₁ k (a.same k (omega (arith, cell_itself k))) ∙ h.0, current_agree w st st₁ (agree_part (λ j. omega arith) a) h.1)
  current_agree (group_body {k = k} w) st st₁ a h =
      (clear_same st st₁ k (a.same k (omega (arith, cell_itself k))) ∙ h.0, current_agree w st st₁ (agree_part (λ j. omega arith) a) h.1)
  current_agree (group_branch {k = k} w) st st₁ a h =
      let e = a.same k (omega (arith, cell_itself k)) in (
        clear_same st st₁ k e ∙ h.0,
        current_b_agree w (branch_in st k) st st₁ (agree_part (λ j. omega arith) a) (subst (λ (m : ℕ). CurrentB st₁ m w) (branch_same st st₁ k e) h.1),
      )
  current_agree (until_signal w) st st₁ a h = current_agree w st st₁ (agree_part (λ j. omega arith) a) h
  current_agree (until_case w) st st₁ a h = current_c_agree w st st₁ (agree_part (λ j. omega arith) a) h

  pub current_b_agree : {z : Signal} {brs : Branches} (w : InsideB z brs) (m : ℕ) (st st₁ : Bytes) → Agree (λ k. times_b k brs) st st₁
      → CurrentB st₁ m w → CurrentB st m w
  current_b_agree (this_branch w) m st st₁ a h = (h.0, current_agree w st st₁ (agree_part (λ j. omega arith) a) h.1)
  current_b_agree (later_branch w) m st st₁ a h = (h.0, current_b_agree w m st st₁ (agree_part (λ j. omega arith) a) h.1)

  pub current_c_agree : {z : Signal} {cs : Cases} (w : InsideC z cs) (st st₁ : Bytes) → Agree (λ k. times_c k cs) st st₁
      → CurrentC st₁ w → CurrentC st w
  current_c_agree (this_case w) st st₁ a h = current_agree w st st₁ (agree_part (λ j. omega arith) a) h
  current_c_agree (later_case w) st st₁ a h = current_c_agree w st st₁ (agree_part (λ j. omega arith) a) h

-- A part at rest: each of its cells holds its node's start content.
held_zero : (st : Bytes) (j k : ℕ) → is_clear st j ≡ true → k ≡ j → cell st k ≡ 0
unfolding is_clear
held_zero st j k c e = ap (cell st) e ∙ eqb-true _ _ c

own_rests : (z : Signal) (st : Bytes) (k : ℕ) → rests_s st z ≡ true → HasCell z k → cell st k ≡ start_of z
unfolding rests_s
own_rests (input n c) st k r h = absurd h
own_rests (time n) st k r h = absurd h
own_rests (ext n e) st k r h = absurd h
own_rests (delay n j v s) st k r h = ap (cell st) h ∙ eqb-true _ _ (and_both _ _ r).0
own_rests (let_signal n t d b) st k r h = absurd h
own_rests (switch n j t x e y) st k r h = held_zero st j k (and_both _ _ (and_both _ _ (and_both _ _ r).0).0).0 h
own_rests (group n j body brs) st k r h = held_zero st j k (and_both _ _ (and_both _ _ r).0).0 h
own_rests (until n s cs) st k r h = absurd h

mutual
  unfolding rests_s

  rests_at_start : {z s : Signal} (w : Inside z s) (st : Bytes) (k : ℕ) → rests_s st s ≡ true → HasCell z k → cell st k ≡ start_of z
  rests_at_start {z} itself st k r h = own_rests z st k r h
  rests_at_start (delayed w) st k r h = rests_at_start w st k (and_both _ _ r).1 h
  rests_at_start (definition w) st k r h = rests_at_start w st k (and_both _ _ r).0 h
  rests_at_start (let_body w) st k r h = rests_at_start w st k (and_both _ _ r).1 h
  rests_at_start (first_part w) st k r h = rests_at_start w st k (and_both _ _ (and_both _ _ (and_both _ _ r).0).0).1 h
  rests_at_start (event_part w) st k r h = rests_at_start w st k (and_both _ _ (and_both _ _ r).0).1 h
  rests_at_start (second_part w) st k r h = rests_at_start w st k (and_both _ _ r).1 h
  rests_at_start (group_body w) st k r h = rests_at_start w st k (and_both _ _ (and_both _ _ r).0).1 h
  rests_at_start (group_branch w) st k r h = rests_b_at_start w st k (and_both _ _ r).1 h
  rests_at_start (until_signal w) st k r h = rests_at_start w st k (and_both _ _ r).0 h
  rests_at_start (until_case w) st k r h = rests_c_at_start w st k (and_both _ _ r).1 h

  rests_b_at_start : {z : Signal} {brs : Branches} (w : InsideB z brs) (st : Bytes) (k : ℕ) → rests_b st brs ≡ true → HasCell z k → cell st k ≡ start_of z
  rests_b_at_start (this_branch w) st k r h = rests_at_start w st k (and_both _ _ r).0 h
  rests_b_at_start (later_branch w) st k r h = rests_b_at_start w st k (and_both _ _ r).1 h

  rests_c_at_start : {z : Signal} {cs : Cases} (w : InsideC z cs) (st : Bytes) (k : ℕ) → rests_c st cs ≡ true → HasCell z k → cell st k ≡ start_of z
  rests_c_at_start (this_case w) st k r h = rests_at_start w st k (and_both _ _ r).0 h
  rests_c_at_start (later_case w) st k r h = rests_c_at_start w st k (and_both _ _ r).1 h

-- One of two tests, by a third.
first_of : (b p q : Bool) → (if b then p else q) ≡ true → b ≡ true → p ≡ true
first_of b p q h e = ap (λ (a : Bool). if a then p else q) (sym e) ∙ h

second_of : (b p q : Bool) → (if b then p else q) ≡ true → b ≡ false → q ≡ true
second_of b p q h e = ap (λ (a : Bool). if a then p else q) (sym e) ∙ h

-- The branch that a group's cell names.
named : {z : Signal} {brs : Branches} (st : Bytes) (j : ℕ) (w : InsideB z brs) → CurrentB st (middle_in (cell st j)) w → CurrentB st (branch_in st j) w
unfolding branch_in
named st j w c = c

-- In a well-formed state every cell in a part that is not current holds its start content.
mutual
  unfolding well_s

  pub other_at_start : {z s : Signal} (w : Inside z s) (st : Bytes) (k : ℕ) → well_s st s ≡ true → HasCell z k → (Current st w → ⊥) → cell st k ≡ start_of z
  other_at_start itself st k r h d = absurd (d tt)
  other_at_start (delayed w) st k r h d = other_at_start w st k (and_both _ _ r).1 h d
  other_at_start (definition w) st k r h d = other_at_start w st k (and_both _ _ r).0 h d
  other_at_start (let_body w) st k r h d = other_at_start w st k (and_both _ _ r).1 h d
  other_at_start (first_part {k = j} w) st k r h d =
      by_test (is_clear st j)
      (λ e. other_at_start w st k (and_both _ _ (first_of _ _ _ (and_both _ _ r).1 e)).0 h (λ c. d (e, c)))
      (λ e. rests_at_start w st k (and_both _ _ (and_both _ _ (second_of _ _ _ (and_both _ _ r).1 e)).0).1 h)
  other_at_start (event_part w) st k r h d = other_at_start w st k (and_both _ _ r).0 h d
  other_at_start (second_part {k = j} w) st k r h d =
      by_test (is_clear st j)
      (λ e. rests_at_start w st k (and_both _ _ (first_of _ _ _ (and_both _ _ r).1 e)).1 h)
      (λ e. other_at_start w st k (and_both _ _ (second_of _ _ _ (and_both _ _ r).1 e)).1 h (λ c. d (e, c)))
  other_at_start (group_body {k = j} w) st k r h d =
      by_test (is_clear st j)
      (λ e. other_at_start w st k (and_both _ _ (first_of _ _ _ r e)).0 h (λ c. d (e, c)))
      (λ e. rests_at_start w st k (and_both _ _ (second_of _ _ _ r e)).0 h)
  other_at_start (group_branch {k = j} w) st k r h d =
      by_test (is_clear st j)
      (λ e. rests_b_at_start w st k (and_both _ _ (first_of _ _ _ r e)).1 h)
      (λ e. other_b_at_start w (cell st j) st k (and_both _ _ (second_of _ _ _ r e)).1 h (λ c. d (e, named st j w c)))
  other_at_start (until_signal w) st k r h d = other_at_start w st k (and_both _ _ r).0 h d
  other_at_start (until_case w) st k r h d = other_c_at_start w st k (and_both _ _ r).1 h d

  other_b_at_start : {z : Signal} {brs : Branches} (w : InsideB z brs) (m : ℕ) (st : Bytes) (k : ℕ) → well_b st m brs ≡ true → HasCell z k
      → (CurrentB st (middle_in m) w → ⊥) → cell st k ≡ start_of z
  other_b_at_start (this_branch {n = n} w) m st k r h d =
      by_test (eqb n (middle_in m))
      (λ e. other_at_start w st k (and_both _ _ (and_both _ _ (first_of _ _ _ r e)).0).1 h (λ c. d (eqb-true _ _ e, c)))
      (λ e. rests_at_start w st k (and_both _ _ (second_of _ _ _ r e)).0 h)
  other_b_at_start (later_branch {n = n} w) m st k r h d =
      by_test (eqb n (middle_in m))
      (λ e. rests_b_at_start w st k (and_both _ _ (first_of _ _ _ r e)).1 h)
      (λ e. other_b_at_start w m st k (and_both _ _ (second_of _ _ _ r e)).1 h (λ c. d (eqb-false _ _ e, c)))

  other_c_at_start : {z : Signal} {cs : Cases} (w : InsideC z cs) (st : Bytes) (k : ℕ) → well_c st cs ≡ true → HasCell z k
      → (CurrentC st w → ⊥) → cell st k ≡ start_of z
  other_c_at_start (this_case w) st k r h d = other_at_start w st k (and_both _ _ r).0 h d
  other_c_at_start (later_case w) st k r h d = other_c_at_start w st k (and_both _ _ r).1 h d

-- A cell that stands in a signal is a node's: its way down is found.
record StandingB (k : ℕ) (brs : Branches) : Type 0 where
  node : Signal
  own : HasCell node k
  way : InsideB node brs

record StandingC (k : ℕ) (cs : Cases) : Type 0 where
  node : Signal
  own : HasCell node k
  way : InsideC node cs

none_there : {P : Type 0} (k j m : ℕ) → (k ≡ j → P) → (is_cell k j + m ≡ 0 → ⊥) → ((m ≡ 0 → ⊥) → P) → P
unfolding is_cell
none_there k j m here d more = choose k j here (λ e. more (λ z. d (rw (ne_eqb j k (λ q. e (sym q))) (omega (arith, z)))))

one_of : {P : Type 0} (a b : ℕ) → (a + b ≡ 0 → ⊥) → ((a ≡ 0 → ⊥) → P) → ((b ≡ 0 → ⊥) → P) → P
one_of a b d left right = choose a 0 (λ e. right (λ z. d (omega (arith, e, z)))) left

mutual
  unfolding times_s

  pub way_found : (s : Signal) (k : ℕ) → (times_s k s ≡ 0 → ⊥) → Standing k s
  way_found (input n c) k d = absurd (d refl)
  way_found (time n) k d = absurd (d refl)
  way_found (ext n e) k d = absurd (d refl)
  way_found (delay n j v s) k d =
      none_there k j (times_s k s) (λ e. record { node = delay n j v s; own = e; way = itself }) d
      (λ z. let r = way_found s k z in record { node = r.node; own = r.own; way = delayed r.way })
  way_found (let_signal n t x b) k d =
      one_of (times_s k x) (times_s k b) d
      (λ z. let r = way_found x k z in record { node = r.node; own = r.own; way = definition r.way })
      (λ z. let r = way_found b k z in record { node = r.node; own = r.own; way = let_body r.way })
  way_found (switch n j t x e y) k d =
      one_of (is_cell k j + times_s k x + times_s k e) (times_s k y) d
      (λ z. one_of (is_cell k j + times_s k x) (times_s k e) z
      (λ u. none_there k j (times_s k x) (λ q. record { node = switch n j t x e y; own = q; way = itself }) u
      (λ a. let r = way_found x k a in record { node = r.node; own = r.own; way = first_part r.way }))
      (λ a. let r = way_found e k a in record { node = r.node; own = r.own; way = event_part r.way }))
      (λ z. let r = way_found y k z in record { node = r.node; own = r.own; way = second_part r.way })
  way_found (group n j body brs) k d =
      one_of (is_cell k j + times_s k body) (times_b k brs) d
      (λ z. none_there k j (times_s k body) (λ q. record { node = group n j body brs; own = q; way = itself }) z
      (λ a. let r = way_found body k a in record { node = r.node; own = r.own; way = group_body r.way }))
      (λ z. let r = way_b_found brs k z in record { node = r.node; own = r.own; way = group_branch r.way })
  way_found (until n s cs) k d =
      one_of (times_s k s) (times_c k cs) d
      (λ z. let r = way_found s k z in record { node = r.node; own = r.own; way = until_signal r.way })
      (λ z. let r = way_c_found cs k z in record { node = r.node; own = r.own; way = until_case r.way })

  way_b_found : (brs : Branches) (k : ℕ) → (times_b k brs ≡ 0 → ⊥) → StandingB k brs
  way_b_found no_branch k d = absurd (d refl)
  way_b_found (branch n t body next) k d =
      one_of (times_s k body) (times_b k next) d
      (λ z. let r = way_found body k z in record { node = r.node; own = r.own; way = this_branch r.way })
      (λ z. let r = way_b_found next k z in record { node = r.node; own = r.own; way = later_branch r.way })

  way_c_found : (cs : Cases) (k : ℕ) → (times_c k cs ≡ 0 → ⊥) → StandingC k cs
  way_c_found no_case k d = absurd (d refl)
  way_c_found (case n event target t next) k d =
      one_of (times_s k event) (times_c k next) d
      (λ z. let r = way_found event k z in record { node = r.node; own = r.own; way = this_case r.way })
      (λ z. let r = way_c_found next k z in record { node = r.node; own = r.own; way = later_case r.way })
