-- A state brought back, cell by cell: in a current part a cell is kept if it is valid for its node, and otherwise put to start.
-- Assumes nothing.
use Rattle.std.specs.Prelude.{if◌then◌else◌}
use mathlib.Core.Path.{◌≡◌, refl, sym, ap, subst, ◌∙◌}
use mathlib.Core.Bool.{Bool, true, false}
use Prim.Native.Nat.{ℕ, ◌+◌, ◌≤◌, ◌<◌}
use native.Mathlib.Omega.{arith}
use lib.Dec.{eqb}
use lib.ListN.{length}
use borrow.Author.Tests.{eqb-true, eq-eqb, ne_eqb, eqb-false}
use Rattle.rules.specs.Bytes.{Bytes, ◌or◌}
use Rattle.rules.specs.Values.{type_of, packed, middle_in}
use Rattle.rules.specs.Layout.{cell, cell_at, hold, clear, is_clear, branch_in}
use Rattle.rules.specs.Tree.{Signal, input, time, ext, delay, let_signal, switch, group, until, Branches, no_branch, branch, Cases, no_case, case}
use Rattle.rules.specs.Reset.{reset_s, reset_b}
use Rattle.rules.specs.WellFormed.{content_fits}
use Rattle.rules.specs.Size.{is_cell, times_s, times_b, times_c}
use Rattle.rules.specs.declared.Value.{Value}
use Rattle.rules.proofs.Static.{not_both}
use Rattle.promises.specs.Small.{Small}
use Rattle.promises.specs.Sits.{SitsS, SitsB, SitsC}
use Rattle.promises.specs.Kept.{Kept}
use Rattle.promises.proofs.Frames.{cell_itself, kept_self, kept_then, Apart, apart_agree}
use Rattle.promises.proofs.Rests.{hold_set, reset_rests, reset_b_rests}
use Rattle.mends.specs.Mend.{names_branch, mend_s, mend_b, mend_c}
use Rattle.mends.specs.Parts.{Inside, itself, delayed, definition, let_body, first_part, event_part, second_part, group_body, group_branch, until_signal, until_case, InsideB, this_branch, later_branch, InsideC, this_case, later_case, Current, CurrentB, CurrentC, HasCell, valid_for, start_of}
use Rattle.mends.proofs.WellMended.{fits_not_clear, branch_not_clear, delay_set, cleared, mend_well, mend_b_well, mend_c_well}
use Rattle.mends.proofs.Ways.{by_test, stands, stands_b, stands_c, current_agree, current_b_agree, current_c_agree}

-- Kept if valid for its node, otherwise put to start.
unfoldable pub kept_or_start : Signal → ℕ → ℕ
kept_or_start z m = if valid_for z m then m else start_of z

-- A part brought back between two changes that leave its cells.
through : {z s : Signal} (w : Inside z s) {f g : ℕ → ℕ} {st st₁ q₀ q : Bytes} (k : ℕ) → HasCell z k → Kept f st st₁ → Kept g q₀ q
    → Apart f (λ i. times_s i s) → Apart g (λ i. times_s i s) → (Current q₀ w → cell q₀ k ≡ kept_or_start z (cell st₁ k)) → Current q w
    → cell q k ≡ kept_or_start z (cell st k)
through {z} w {q₀ = q₀} {q} k own a b far apart ih now =
    b.others k (omega (arith, apart k, stands w k own)) ∙ ih (current_agree w q₀ q (apart_agree apart b) now)
    ∙ ap (kept_or_start z) (a.others k (omega (arith, far k, stands w k own)))

through_b : {z : Signal} {brs : Branches} (w : InsideB z brs) (m : ℕ) {f g : ℕ → ℕ} {st st₁ q₀ q : Bytes} (k : ℕ) → HasCell z k → Kept f st st₁
    → Kept g q₀ q → Apart f (λ i. times_b i brs) → Apart g (λ i. times_b i brs) → (CurrentB q₀ m w → cell q₀ k ≡ kept_or_start z (cell st₁ k))
    → CurrentB q m w → cell q k ≡ kept_or_start z (cell st k)
through_b {z} w m {q₀ = q₀} {q} k own a b far apart ih now =
    b.others k (omega (arith, apart k, stands_b w k own)) ∙ ih (current_b_agree w m q₀ q (apart_agree apart b) now)
    ∙ ap (kept_or_start z) (a.others k (omega (arith, far k, stands_b w k own)))

through_c : {z : Signal} {cs : Cases} (w : InsideC z cs) {f g : ℕ → ℕ} {st st₁ q₀ q : Bytes} (k : ℕ) → HasCell z k → Kept f st st₁
    → Kept g q₀ q → Apart f (λ i. times_c i cs) → Apart g (λ i. times_c i cs) → (CurrentC q₀ w → cell q₀ k ≡ kept_or_start z (cell st₁ k))
    → CurrentC q w → cell q k ≡ kept_or_start z (cell st k)
through_c {z} w {q₀ = q₀} {q} k own a b far apart ih now =
    b.others k (omega (arith, apart k, stands_c w k own)) ∙ ih (current_c_agree w q₀ q (apart_agree apart b) now)
    ∙ ap (kept_or_start z) (a.others k (omega (arith, far k, stands_c w k own)))

-- Nothing is changed.
none_changed : (st : Bytes) → Small st → Kept (λ i. 0) st st
none_changed st h = kept_self (λ i. 0) st h

-- Zeros or a value: what is kept of a switch's and of a group's cell.
kept_fits : (m : ℕ) (a : Bool) → m ≡ (if a or true then m else 0)
unfolding ◌or◌
kept_fits m true = refl
kept_fits m false = refl

kept_zeros : (m : ℕ) → 0 ≡ (if eqb m 0 or false then m else 0)
unfolding ◌or◌
kept_zeros m = go (eqb m 0) refl
  where
    go : (a : Bool) → eqb m 0 ≡ a → 0 ≡ (if a or false then m else 0)
    go true e = sym (eqb-true _ _ e)
    go false e = refl

-- Three changes, one after the other.
record Three (f g h : ℕ → ℕ) (st st₁ st₂ q : Bytes) : Type 0 where
  one : Kept f st st₁
  two : Kept g st₁ st₂
  three : Kept h st₂ q

module _ (count cells : ℕ) (τ : ℕ → ℕ) where
  part_kept : (s : Signal) → SitsS count cells τ s → ((i : ℕ) → times_s i s ≤ 1) → (st : Bytes) → Small st → length st ≡ cell_at cells
      → Kept (λ i. times_s i s) st (mend_s s st)
  part_kept s sits once st h l = (mend_well count cells τ s sits once st h l).kept

  reset_kept : (s : Signal) → SitsS count cells τ s → ((i : ℕ) → times_s i s ≤ 1) → (st : Bytes) → Small st → length st ≡ cell_at cells
      → Kept (λ i. times_s i s) st (reset_s s st)
  reset_kept s sits once st h l = (reset_rests s count cells τ st sits once h l).kept

  -- What is said of a way down into a signal.
  abbrev Kepts : {z s : Signal} → Inside z s → Type 0
  Kepts {z} {s} w = (st : Bytes) → Small st → length st ≡ cell_at cells → (k : ℕ) → HasCell z k → Current (mend_s s st) w
      → cell (mend_s s st) k ≡ kept_or_start z (cell st k)

  -- A delay.
  module _ (n j : ℕ) (v : Value) (s : Signal) (sits : SitsS count cells τ (delay n j v s)) (once : (i : ℕ) → times_s i (delay n j v s) ≤ 1) where
    delay_own : (st : Bytes) → Small st → length st ≡ cell_at cells → cell (mend_s (delay n j v s) st) j ≡ kept_or_start (delay n j v s) (cell st j)
    unfolding mend_s times_s kept_or_start
    delay_own st h l = go (content_fits (type_of v) 0 (cell st j)) refl
      where
        go : (b : Bool) → content_fits (type_of v) 0 (cell st j) ≡ b
            → cell (mend_s s (if b then st else hold st j v)) j ≡ (if b then cell st j else packed v)
        go true e = (part_kept s sits.2 (λ i. omega (arith, once i)) st h l).others j (omega (arith, once j, cell_itself j))
        go false e =
            let a = hold_set st j cells v sits.0 h l sits.1 in
            (part_kept s sits.2 (λ i. omega (arith, once i)) (hold st j v) a.kept.bytes (a.kept.long ∙ l)
            ).others j (omega (arith, once j, cell_itself j))
            ∙ eqb-true _ _ a.holds

    delay_inside : {z : Signal} (w : Inside z s) → Kepts w → Kepts (delayed {n = n} {k = j} {v = v} w)
    unfolding mend_s times_s
    delay_inside w ih st h l k own now =
        let a = (delay_set count cells τ st j v sits.0 h l sits.1).kept in
        let b = part_kept s sits.2 (λ i. omega (arith, once i)) _ a.bytes (a.long ∙ l) in
        through w k own a (none_changed _ b.bytes) (λ i. once i) (λ i. omega (arith, once i)) (ih _ a.bytes (a.long ∙ l) k own) now

  -- A switch: the changes of one that stays switched, and of one that is put to start.
  module _ (n j t : ℕ) (x e y : Signal) (sits : SitsS count cells τ (switch n j t x e y)) (once : (i : ℕ) → times_s i (switch n j t x e y) ≤ 1)
      (st : Bytes) (h : Small st) (l : length st ≡ cell_at cells) where
    stays : content_fits t 0 (cell st j) ≡ true → mend_s (switch n j t x e y) st ≡ mend_s y (reset_s x (mend_s e st))
    unfolding mend_s
    stays f = rw f refl

    begins : content_fits t 0 (cell st j) ≡ false → mend_s (switch n j t x e y) st ≡ reset_s y (mend_s x (mend_s e (clear st j)))
    unfolding mend_s
    begins f = rw f refl

    staying : Three (λ i. times_s i e) (λ i. times_s i x) (λ i. times_s i y) st (mend_s e st) (reset_s x (mend_s e st)) (mend_s y (reset_s x (mend_s e st)))
    unfolding times_s
    staying =
        let a = part_kept e sits.3 (λ i. omega (arith, once i)) st h l in
        let b = reset_kept x sits.2 (λ i. omega (arith, once i)) (mend_s e st) a.bytes (a.long ∙ l) in
        record { one = a; two = b; three = part_kept y sits.4 (λ i. omega (arith, once i)) _ b.bytes (b.long ∙ a.long ∙ l) }

    begun : Kept (λ i. is_cell i j) st (clear st j)
    begun = (cleared count cells τ st j sits.0 h l).kept

    beginning : Three (λ i. times_s i e) (λ i. times_s i x) (λ i. times_s i y) (clear st j) (mend_s e (clear st j)) (mend_s x (mend_s e (clear st j)))
        (reset_s y (mend_s x (mend_s e (clear st j))))
    unfolding times_s
    beginning =
        let m = begun.long ∙ l in
        let a = part_kept e sits.3 (λ i. omega (arith, once i)) (clear st j) begun.bytes m in
        let b = part_kept x sits.2 (λ i. omega (arith, once i)) (mend_s e (clear st j)) a.bytes (a.long ∙ m) in
        record { one = a; two = b; three = reset_kept y sits.4 (λ i. omega (arith, once i)) _ b.bytes (b.long ∙ a.long ∙ m) }

    -- Its own cell.
    stays_same : cell (mend_s y (reset_s x (mend_s e st))) j ≡ cell st j
    unfolding times_s
    stays_same =
        let o = once j in let c = cell_itself j in
        staying.three.others j (omega (arith, o, c)) ∙ staying.two.others j (omega (arith, o, c)) ∙ staying.one.others j (omega (arith, o, c))

    begins_clear : cell (reset_s y (mend_s x (mend_s e (clear st j)))) j ≡ 0
    unfolding times_s is_clear
    begins_clear =
        let o = once j in let c = cell_itself j in
        beginning.three.others j (omega (arith, o, c)) ∙ beginning.two.others j (omega (arith, o, c))
        ∙ beginning.one.others j (omega (arith, o, c)) ∙ eqb-true _ _ (cleared count cells τ st j sits.0 h l).holds

    switch_own : cell (mend_s (switch n j t x e y) st) j ≡ kept_or_start (switch n j t x e y) (cell st j)
    unfolding mend_s kept_or_start
    switch_own = go (content_fits t 0 (cell st j))
      where
        go : (b : Bool) → cell (if b then mend_s y (reset_s x (mend_s e st)) else reset_s y (mend_s x (mend_s e (clear st j)))) j
            ≡ (if eqb (cell st j) 0 or b then cell st j else 0)
        go true = stays_same ∙ kept_fits (cell st j) (eqb (cell st j) 0)
        go false = begins_clear ∙ kept_zeros (cell st j)

    -- Where it stays switched it is not clear; where it is put to start it is.
    not_first : {P : Type 0} → content_fits t 0 (cell st j) ≡ true → is_clear (mend_s y (reset_s x (mend_s e st))) j ≡ true → P
    not_first f c = absurd (not_both (sym (fits_not_clear _ j t 0 sits.1.least (ap (content_fits t 0) stays_same ∙ f)) ∙ c))

    not_second : {P : Type 0} → is_clear (reset_s y (mend_s x (mend_s e (clear st j)))) j ≡ false → P
    unfolding is_clear
    not_second c = absurd (not_both (sym c ∙ eq-eqb _ _ begins_clear))

    module _ {z : Signal} (k : ℕ) (own : HasCell z k) where
      switch_first : (w : Inside z x) → Kepts w → Current (mend_s (switch n j t x e y) st) (first_part {n = n} {k = j} {t = t} {e = e} {y = y} w)
          → cell (mend_s (switch n j t x e y) st) k ≡ kept_or_start z (cell st k)
      unfolding times_s
      switch_first w ih =
          by_test (content_fits t 0 (cell st j))
          (λ f. subst (λ (q : Bytes). (is_clear q j ≡ true) × Current q w → cell q k ≡ kept_or_start z (cell st k)) (sym (stays f)) (λ c. not_first f c.0))
          (λ f. subst (λ (q : Bytes). (is_clear q j ≡ true) × Current q w → cell q k ≡ kept_or_start z (cell st k)) (sym (begins f))
          (λ c. let a : Kept (λ i. is_cell i j + times_s i e) st (mend_s e (clear st j))
          = kept_then (λ i u. omega arith) (λ i u. omega arith) begun beginning.one in
          through w k own a beginning.three (λ i. omega (arith, once i)) (λ i. omega (arith, once i)) (ih _ a.bytes (a.long ∙ l) k own) c.1))

      switch_event : (w : Inside z e) → Kepts w → Current (mend_s (switch n j t x e y) st) (event_part {n = n} {k = j} {t = t} {x = x} {y = y} w)
          → cell (mend_s (switch n j t x e y) st) k ≡ kept_or_start z (cell st k)
      unfolding times_s
      switch_event w ih =
          by_test (content_fits t 0 (cell st j))
          (λ f. subst (λ (q : Bytes). Current q w → cell q k ≡ kept_or_start z (cell st k)) (sym (stays f))
          (λ c. let b : Kept (λ i. times_s i x + times_s i y) (mend_s e st) (mend_s y (reset_s x (mend_s e st)))
          = kept_then (λ i u. omega arith) (λ i u. omega arith) staying.two staying.three in
          through w k own (none_changed st h) b (λ i. omega (arith, once i)) (λ i. omega (arith, once i)) (ih st h l k own) c))
          (λ f. subst (λ (q : Bytes). Current q w → cell q k ≡ kept_or_start z (cell st k)) (sym (begins f))
          (λ c. let b : Kept (λ i. times_s i x + times_s i y) (mend_s e (clear st j)) (reset_s y (mend_s x (mend_s e (clear st j))))
          = kept_then (λ i u. omega arith) (λ i u. omega arith) beginning.two beginning.three in
          through w k own begun b (λ i. omega (arith, once i)) (λ i. omega (arith, once i)) (ih _ begun.bytes (begun.long ∙ l) k own) c))

      switch_second : (w : Inside z y) → Kepts w → Current (mend_s (switch n j t x e y) st) (second_part {n = n} {k = j} {t = t} {x = x} {e = e} w)
          → cell (mend_s (switch n j t x e y) st) k ≡ kept_or_start z (cell st k)
      unfolding times_s
      switch_second w ih =
          by_test (content_fits t 0 (cell st j))
          (λ f. subst (λ (q : Bytes). (is_clear q j ≡ false) × Current q w → cell q k ≡ kept_or_start z (cell st k)) (sym (stays f))
          (λ c. let a : Kept (λ i. times_s i e + times_s i x) st (reset_s x (mend_s e st))
          = kept_then (λ i u. omega arith) (λ i u. omega arith) staying.one staying.two in
          through w k own a (none_changed _ staying.three.bytes) (λ i. omega (arith, once i)) (λ i. omega (arith, once i))
          (ih _ a.bytes (a.long ∙ l) k own) c.1))
          (λ f. subst (λ (q : Bytes). (is_clear q j ≡ false) × Current q w → cell q k ≡ kept_or_start z (cell st k)) (sym (begins f)) (λ c. not_second c.0))

  -- A list of branches, one of which a content names.
  abbrev KeptsB : {z : Signal} {brs : Branches} → InsideB z brs → Type 0
  KeptsB {z} {brs} w = (m : ℕ) → names_branch m brs ≡ true → (st : Bytes) → Small st → length st ≡ cell_at cells → (k : ℕ) → HasCell z k
      → CurrentB (mend_b m brs st) (middle_in m) w → cell (mend_b m brs st) k ≡ kept_or_start z (cell st k)

  -- A group: the changes of one that stays in its branch, and of one that is put to start.
  module _ (n j : ℕ) (body : Signal) (brs : Branches) (sits : SitsS count cells τ (group n j body brs))
      (once : (i : ℕ) → times_s i (group n j body brs) ≤ 1) (st : Bytes) (h : Small st) (l : length st ≡ cell_at cells) where
    named : names_branch (cell st j) brs ≡ true → mend_s (group n j body brs) st ≡ mend_b (cell st j) brs (reset_s body st)
    unfolding mend_s
    named f = rw f refl

    unnamed : names_branch (cell st j) brs ≡ false → mend_s (group n j body brs) st ≡ reset_b brs (mend_s body (clear st j))
    unfolding mend_s
    unnamed f = rw f refl

    left : Kept (λ i. times_s i body) st (reset_s body st)
    unfolding times_s
    left = reset_kept body sits.1 (λ i. omega (arith, once i)) st h l

    inside : names_branch (cell st j) brs ≡ true → Kept (λ i. times_b i brs) (reset_s body st) (mend_b (cell st j) brs (reset_s body st))
    unfolding times_s
    inside f = (mend_b_well count cells τ brs sits.2 (λ i. omega (arith, once i)) (cell st j) f (reset_s body st) left.bytes (left.long ∙ l)).kept

    emptied : Kept (λ i. is_cell i j) st (clear st j)
    emptied = (cleared count cells τ st j sits.0 h l).kept

    at_body : Kept (λ i. times_s i body) (clear st j) (mend_s body (clear st j))
    unfolding times_s
    at_body = part_kept body sits.1 (λ i. omega (arith, once i)) (clear st j) emptied.bytes (emptied.long ∙ l)

    others_left : Kept (λ i. times_b i brs) (mend_s body (clear st j)) (reset_b brs (mend_s body (clear st j)))
    unfolding times_s
    others_left =
        (reset_b_rests brs count cells τ (mend_s body (clear st j)) sits.2 (λ i. omega (arith, once i)) at_body.bytes (at_body.long ∙ emptied.long ∙ l)).kept

    named_same : names_branch (cell st j) brs ≡ true → cell (mend_b (cell st j) brs (reset_s body st)) j ≡ cell st j
    unfolding times_s
    named_same f = (inside f).others j (omega (arith, once j, cell_itself j)) ∙ left.others j (omega (arith, once j, cell_itself j))

    unnamed_clear : cell (reset_b brs (mend_s body (clear st j))) j ≡ 0
    unfolding times_s is_clear
    unnamed_clear =
        others_left.others j (omega (arith, once j, cell_itself j)) ∙ at_body.others j (omega (arith, once j, cell_itself j))
        ∙ eqb-true _ _ (cleared count cells τ st j sits.0 h l).holds

    group_own : cell (mend_s (group n j body brs) st) j ≡ kept_or_start (group n j body brs) (cell st j)
    unfolding mend_s kept_or_start
    group_own = go (names_branch (cell st j) brs) refl
      where
        go : (b : Bool) → names_branch (cell st j) brs ≡ b
            → cell (if b then mend_b (cell st j) brs (reset_s body st) else reset_b brs (mend_s body (clear st j))) j
            ≡ (if eqb (cell st j) 0 or b then cell st j else 0)
        go true f = named_same f ∙ kept_fits (cell st j) (eqb (cell st j) 0)
        go false f = unnamed_clear ∙ kept_zeros (cell st j)

    not_clear : {P : Type 0} → is_clear (reset_b brs (mend_s body (clear st j))) j ≡ false → P
    unfolding is_clear
    not_clear c = absurd (not_both (sym c ∙ eq-eqb _ _ unnamed_clear))

    same_branch : names_branch (cell st j) brs ≡ true → branch_in (mend_b (cell st j) brs (reset_s body st)) j ≡ middle_in (cell st j)
    unfolding branch_in
    same_branch f = ap middle_in (named_same f)

    module _ {z : Signal} (k : ℕ) (own : HasCell z k) where
      group_at_body : (w : Inside z body) → Kepts w → Current (mend_s (group n j body brs) st) (group_body {n = n} {k = j} {brs = brs} w)
          → cell (mend_s (group n j body brs) st) k ≡ kept_or_start z (cell st k)
      unfolding times_s
      group_at_body w ih =
          by_test (names_branch (cell st j) brs)
          (λ f. subst (λ (q : Bytes). (is_clear q j ≡ true) × Current q w → cell q k ≡ kept_or_start z (cell st k)) (sym (named f))
          (λ c. absurd (not_both (sym (branch_not_clear count cells τ brs sits.2 _ j (ap (λ (m : ℕ). names_branch m brs) (named_same f) ∙ f)) ∙ c.0))))
          (λ f. subst (λ (q : Bytes). (is_clear q j ≡ true) × Current q w → cell q k ≡ kept_or_start z (cell st k)) (sym (unnamed f))
          (λ c. through w k own emptied others_left (λ i. omega (arith, once i)) (λ i. omega (arith, once i))
          (ih _ emptied.bytes (emptied.long ∙ l) k own) c.1))

      group_at_branch : (w : InsideB z brs) → KeptsB w → Current (mend_s (group n j body brs) st) (group_branch {n = n} {k = j} {body = body} w)
          → cell (mend_s (group n j body brs) st) k ≡ kept_or_start z (cell st k)
      unfolding times_s
      group_at_branch w ih =
          by_test (names_branch (cell st j) brs)
          (λ f. subst (λ (q : Bytes). (is_clear q j ≡ false) × CurrentB q (branch_in q j) w → cell q k ≡ kept_or_start z (cell st k)) (sym (named f))
          (λ c. through_b w (middle_in (cell st j)) k own left (none_changed _ (inside f).bytes) (λ i. omega (arith, once i)) (λ i. omega (arith, once i))
          (ih (cell st j) f _ left.bytes (left.long ∙ l) k own)
          (subst (λ (m : ℕ). CurrentB (mend_b (cell st j) brs (reset_s body st)) m w) (same_branch f) c.1)))
          (λ f. subst (λ (q : Bytes). (is_clear q j ≡ false) × CurrentB q (branch_in q j) w → cell q k ≡ kept_or_start z (cell st k)) (sym (unnamed f))
          (λ c. not_clear c.0))

  -- The first branch of a list, and the others.
  module _ (n t : ℕ) (body : Signal) (next : Branches) (sits : SitsB count cells τ (branch n t body next))
      (once : (i : ℕ) → times_b i (branch n t body next) ≤ 1) where
    branch_this : {z : Signal} (w : Inside z body) → Kepts w → KeptsB (this_branch {n = n} {t = t} {next = next} w)
    unfolding mend_b times_b
    branch_this {z} w ih m names st h l k own now =
        let a = part_kept body sits.2 (λ i. omega (arith, once i)) st h l in
        let b = (reset_b_rests next count cells τ (mend_s body st) sits.3 (λ i. omega (arith, once i)) a.bytes (a.long ∙ l)).kept in
        let e = eq-eqb n (middle_in m) now.0 in
        let q = subst (λ (c : Bool). Current (if c then reset_b next (mend_s body st) else mend_b m next (reset_s body st)) w) e now.1 in
        subst (λ (c : Bool). cell (if c then reset_b next (mend_s body st) else mend_b m next (reset_s body st)) k ≡ kept_or_start z (cell st k)) (sym e)
        (through w k own (none_changed st h) b (λ i. omega (arith, once i)) (λ i. omega (arith, once i)) (ih st h l k own) q)

    branch_later : {z : Signal} (w : InsideB z next) → KeptsB w → KeptsB (later_branch {n = n} {t = t} {body = body} w)
    unfolding mend_b times_b names_branch
    branch_later {z} w ih m names st h l k own now =
        let a = reset_kept body sits.2 (λ i. omega (arith, once i)) st h l in
        let e = ne_eqb n (middle_in m) now.0 in
        let f : names_branch m next ≡ true = ap (λ (c : Bool). if c then content_fits t n m else names_branch m next) (sym e) ∙ names in
        let b = (mend_b_well count cells τ next sits.3 (λ i. omega (arith, once i)) m f (reset_s body st) a.bytes (a.long ∙ l)).kept in
        let q = subst (λ (c : Bool). CurrentB (if c then reset_b next (mend_s body st) else mend_b m next (reset_s body st)) (middle_in m) w) e now.1 in
        subst (λ (c : Bool). cell (if c then reset_b next (mend_s body st) else mend_b m next (reset_s body st)) k ≡ kept_or_start z (cell st k)) (sym e)
        (through_b w (middle_in m) k own a (none_changed _ b.bytes) (λ i. omega (arith, once i)) (λ i. omega (arith, once i))
        (ih m f _ a.bytes (a.long ∙ l) k own) q)

  -- A node's own cell.
  own_kept : (s : Signal) → SitsS count cells τ s → ((i : ℕ) → times_s i s ≤ 1) → (st : Bytes) → Small st → length st ≡ cell_at cells → (k : ℕ)
      → HasCell s k → cell (mend_s s st) k ≡ kept_or_start s (cell st k)
  own_kept (input n c) sits once st h l k own = absurd own
  own_kept (time n) sits once st h l k own = absurd own
  own_kept (ext n e) sits once st h l k own = absurd own
  own_kept (delay n j v s) sits once st h l k own = rw own (delay_own n j v s sits once st h l)
  own_kept (let_signal n t d b) sits once st h l k own = absurd own
  own_kept (switch n j t x e y) sits once st h l k own = rw own (switch_own n j t x e y sits once st h l)
  own_kept (group n j body brs) sits once st h l k own = rw own (group_own n j body brs sits once st h l)
  own_kept (until n s cs) sits once st h l k own = absurd own

  abbrev KeptsC : {z : Signal} {cs : Cases} → InsideC z cs → Type 0
  KeptsC {z} {cs} w = (st : Bytes) → Small st → length st ≡ cell_at cells → (k : ℕ) → HasCell z k
      → CurrentC (mend_c cs st) w → cell (mend_c cs st) k ≡ kept_or_start z (cell st k)

  mutual
    unfolding mend_s times_s

    pub by_way : {z s : Signal} (w : Inside z s) → SitsS count cells τ s → ((i : ℕ) → times_s i s ≤ 1) → Kepts w
    by_way {z} itself sits once st h l k own now = own_kept z sits once st h l k own
    by_way (delayed {n} {k = j} {v} {s} w) sits once st h l k own now =
        delay_inside n j v s sits once w (λ q a m i o c. by_way w sits.2 (λ i. omega (arith, once i)) q a m i o c) st h l k own now
    by_way (definition {n} {t} {d} {b} w) sits once st h l k own now =
        let a = part_kept d sits.1 (λ i. omega (arith, once i)) st h l in
        let u = part_kept b sits.2 (λ i. omega (arith, once i)) (mend_s d st) a.bytes (a.long ∙ l) in
        through w k own (none_changed st h) u (λ i. omega (arith, once i)) (λ i. omega (arith, once i))
        (λ c. by_way w sits.1 (λ i. omega (arith, once i)) st h l k own c) now
    by_way (let_body {n} {t} {d} {b} w) sits once st h l k own now =
        let a = part_kept d sits.1 (λ i. omega (arith, once i)) st h l in
        let u = part_kept b sits.2 (λ i. omega (arith, once i)) (mend_s d st) a.bytes (a.long ∙ l) in
        through w k own a (none_changed _ u.bytes) (λ i. omega (arith, once i)) (λ i. omega (arith, once i))
        (λ c. by_way w sits.2 (λ i. omega (arith, once i)) _ a.bytes (a.long ∙ l) k own c) now
    by_way (first_part {n} {k = j} {t} {x} {e} {y} w) sits once st h l k own now =
        switch_first n j t x e y sits once st h l k own w (λ q a m i o c. by_way w sits.2 (λ i. omega (arith, once i)) q a m i o c) now
    by_way (event_part {n} {k = j} {t} {x} {e} {y} w) sits once st h l k own now =
        switch_event n j t x e y sits once st h l k own w (λ q a m i o c. by_way w sits.3 (λ i. omega (arith, once i)) q a m i o c) now
    by_way (second_part {n} {k = j} {t} {x} {e} {y} w) sits once st h l k own now =
        switch_second n j t x e y sits once st h l k own w (λ q a m i o c. by_way w sits.4 (λ i. omega (arith, once i)) q a m i o c) now
    by_way (group_body {n} {k = j} {body} {brs} w) sits once st h l k own now =
        group_at_body n j body brs sits once st h l k own w (λ q a m i o c. by_way w sits.1 (λ i. omega (arith, once i)) q a m i o c) now
    by_way (group_branch {n} {k = j} {body} {brs} w) sits once st h l k own now =
        group_at_branch n j body brs sits once st h l k own w (λ d f q a m i o c. by_b_way w sits.2 (λ i. omega (arith, once i)) d f q a m i o c) now
    by_way (until_signal {n} {s} {cs} w) sits once st h l k own now =
        let a = part_kept s sits.0 (λ i. omega (arith, once i)) st h l in
        let u = (mend_c_well count cells τ cs sits.1 (λ i. omega (arith, once i)) (mend_s s st) a.bytes (a.long ∙ l)).kept in
        through w k own (none_changed st h) u (λ i. omega (arith, once i)) (λ i. omega (arith, once i))
        (λ c. by_way w sits.0 (λ i. omega (arith, once i)) st h l k own c) now
    by_way (until_case {n} {s} {cs} w) sits once st h l k own now =
        let a = part_kept s sits.0 (λ i. omega (arith, once i)) st h l in
        let u = (mend_c_well count cells τ cs sits.1 (λ i. omega (arith, once i)) (mend_s s st) a.bytes (a.long ∙ l)).kept in
        through_c w k own a (none_changed _ u.bytes) (λ i. omega (arith, once i)) (λ i. omega (arith, once i))
        (λ c. by_c_way w sits.1 (λ i. omega (arith, once i)) _ a.bytes (a.long ∙ l) k own c) now

    by_b_way : {z : Signal} {brs : Branches} (w : InsideB z brs) → SitsB count cells τ brs → ((i : ℕ) → times_b i brs ≤ 1) → KeptsB w
    by_b_way (this_branch {n} {t} {body} {next} w) sits once d f st h l k own now =
        branch_this n t body next sits once w (λ q a m i o c. by_way w sits.2 (λ i. omega (arith, once i)) q a m i o c) d f st h l k own now
    by_b_way (later_branch {n} {t} {body} {next} w) sits once d f st h l k own now =
        branch_later n t body next sits once w (λ e g q a m i o c. by_b_way w sits.3 (λ i. omega (arith, once i)) e g q a m i o c) d f st h l k own now

    by_c_way : {z : Signal} {cs : Cases} (w : InsideC z cs) → SitsC count cells τ cs → ((i : ℕ) → times_c i cs ≤ 1) → KeptsC w
    by_c_way (this_case {n} {target} {t} {event} {next} w) sits once st h l k own now =
        let a = part_kept event sits.1 (λ i. omega (arith, once i)) st h l in
        let u = (mend_c_well count cells τ next sits.2 (λ i. omega (arith, once i)) (mend_s event st) a.bytes (a.long ∙ l)).kept in
        through w k own (none_changed st h) u (λ i. omega (arith, once i)) (λ i. omega (arith, once i))
        (λ c. by_way w sits.1 (λ i. omega (arith, once i)) st h l k own c) now
    by_c_way (later_case {n} {target} {t} {event} {next} w) sits once st h l k own now =
        let a = part_kept event sits.1 (λ i. omega (arith, once i)) st h l in
        let u = (mend_c_well count cells τ next sits.2 (λ i. omega (arith, once i)) (mend_s event st) a.bytes (a.long ∙ l)).kept in
        through_c w k own a (none_changed _ u.bytes) (λ i. omega (arith, once i)) (λ i. omega (arith, once i))
        (λ c. by_c_way w sits.2 (λ i. omega (arith, once i)) _ a.bytes (a.long ∙ l) k own c) now
