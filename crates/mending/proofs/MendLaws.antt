-- A signal of each kind, a list of branches and a list of cases brought back: one equation a kind, and the same from what the calls for the parts have left.
-- Assumes nothing.
use Rattle.std.specs.Prelude.{if◌then◌else◌}
use mathlib.Core.Path.{◌≡◌, refl, sym, ap, ◌∙◌}
use mathlib.Core.Bool.{Bool, true, false}
use mathlib.Core.List.{List}
use Prim.Native.Nat.{ℕ, ◌-◌, ◌≤◌, ◌<◌}
use native.Mathlib.Omega.{arith}
use lib.Dec.{eqb}
use lib.ListN.{get_or}
use borrow.Author.Tests.{eq-eqb, ne_eqb, le-leb, lt-leb}
use Rattle.rules.specs.Bytes.{Bytes, ◌or◌}
use Rattle.rules.specs.Values.{type_of, is_plain, packed, value_from, middle_in}
use Rattle.rules.specs.Layout.{nodes, kind_at, type_at, a_at, b_at, c_at, word_at, cell, set_cell, hold, clear, last_time, set_time}
use Rattle.rules.specs.Kinds.{is_signal, is_branch, is_case}
use Rattle.rules.specs.Reset.{reset_s, reset_b}
use Rattle.rules.specs.Tree.{root, Signal, Branches, Cases, no_branch, below, signal_at, branches_at, cases_at, value_at}
use Rattle.rules.specs.Shaped.{NodeOf}
use Rattle.rules.specs.Node.{IsNode}
use Rattle.rules.specs.declared.Node.{Node}
use Rattle.rules.specs.WellFormed.{content_fits}
use Rattle.rules.proofs.Signals.{delay_tree, let_tree, switch_tree, group_tree, until_tree, branch_law, branch_end, branch_on, case_end, case_on}
use Rattle.rules.specs.declared.Value.TheVariants.{Plain, Absent, Present}
use Rattle.state.specs.Stated.{Stated}
use Rattle.state.proofs.Carried.{number, quiet}
use Rattle.mends.specs.Mend.{names_branch, mend_s, mend_b, mend_c, time_fits, mend_time, mended}

-- The type of the value that a type, a present byte and a word stand for.
type_from : (t present w : ℕ) → type_of (value_from t present w) ≡ t
unfolding type_of value_from
type_from t present w = go (is_plain t) (eqb present 0)
  where
    go : (b d : Bool) → type_of (if b then Plain t w else if d then Absent t else Present t w) ≡ t
    go true d = refl
    go false true = refl
    go false false = refl

module _ (p : Bytes) (index : List ℕ) (size n : ℕ) (w : Stated is_signal p index size n) (st : Bytes) where
  delay_mend : kind_at p n ≡ 4
      → mend_s (signal_at p n) st
      ≡ mend_s (signal_at p (a_at p n))
      (if content_fits (type_at p n) 0 (cell st (get_or index n 0)) then st
      else set_cell st (get_or index n 0) (packed (value_from (type_at p n) (b_at p n) (word_at p n))))
  unfolding mend_s hold value_at
  delay_mend e =
      ap (λ (s : Signal). mend_s s st) (delay_tree p n w.node e)
      ∙ (λ i. mend_s (signal_at p (a_at p n))
      (if content_fits (type_from (type_at p n) (b_at p n) (word_at p n) i) 0 (cell st (sym (number p index size n w) i)) then st
      else set_cell st (sym (number p index size n w) i) (packed (value_from (type_at p n) (b_at p n) (word_at p n)))))

  let_mend : kind_at p n ≡ 5 → mend_s (signal_at p n) st ≡ mend_s (signal_at p (b_at p n)) (mend_s (signal_at p (a_at p n)) st)
  unfolding mend_s
  let_mend e = ap (λ (s : Signal). mend_s s st) (let_tree p n w.node e)

  switch_kept : kind_at p n ≡ 6 → content_fits (type_at p n) 0 (cell st (get_or index n 0)) ≡ true
      → mend_s (signal_at p n) st ≡ mend_s (signal_at p (c_at p n)) (reset_s (signal_at p (a_at p n)) (mend_s (signal_at p (b_at p n)) st))
  unfolding mend_s
  switch_kept e f = rw (switch_tree p n w.node e, sym (number p index size n w), f) refl

  switch_begun : kind_at p n ≡ 6 → content_fits (type_at p n) 0 (cell st (get_or index n 0)) ≡ false
      → mend_s (signal_at p n) st
      ≡ reset_s (signal_at p (c_at p n)) (mend_s (signal_at p (a_at p n)) (mend_s (signal_at p (b_at p n)) (set_cell st (get_or index n 0) 0)))
  unfolding mend_s clear
  switch_begun e f = rw (switch_tree p n w.node e, sym (number p index size n w), f) refl

  group_kept : kind_at p n ≡ 7 → names_branch (cell st (get_or index n 0)) (branches_at p (b_at p n)) ≡ true
      → mend_s (signal_at p n) st ≡ mend_b (cell st (get_or index n 0)) (branches_at p (b_at p n)) (reset_s (signal_at p (a_at p n)) st)
  unfolding mend_s
  group_kept e f = rw (group_tree p n w.node e, sym (number p index size n w), f) refl

  group_begun : kind_at p n ≡ 7 → names_branch (cell st (get_or index n 0)) (branches_at p (b_at p n)) ≡ false
      → mend_s (signal_at p n) st ≡ reset_b (branches_at p (b_at p n)) (mend_s (signal_at p (a_at p n)) (set_cell st (get_or index n 0) 0))
  unfolding mend_s clear
  group_begun e f = rw (group_tree p n w.node e, sym (number p index size n w), f) refl

  until_mend : kind_at p n ≡ 8 → mend_s (signal_at p n) st ≡ mend_c (cases_at p (b_at p n)) (mend_s (signal_at p (a_at p n)) st)
  unfolding mend_s
  until_mend e = ap (λ (s : Signal). mend_s s st) (until_tree p n w.node e)

  pub quiet_mend : {A : Type 0} {m : ℕ} → m ≡ kind_at p n
      → (((((A × (m ≡ 4 → ⊥)) × (m ≡ 5 → ⊥)) × (m ≡ 6 → ⊥)) × (m ≡ 7 → ⊥)) × (m ≡ 8 → ⊥))
      → st ≡ mend_s (signal_at p n) st
  unfolding mend_s
  quiet_mend e r = quiet p n w.node (λ s. st ≡ mend_s s st) (λ c. refl) refl (λ x. refl) e r

  module _ {x : Node} (e : IsNode p n x) where
    pub delay_mend_said : {q r : Bytes} → x.kind ≡ 4
        → q ≡ (if content_fits x.ty 0 (cell st (get_or index n 0)) then st else set_cell st (get_or index n 0) (packed (value_from x.ty x.b x.word)))
        → r ≡ mend_s (signal_at p x.a) q → r ≡ mend_s (signal_at p n) st
    delay_mend_said k hq hr =
        hr ∙ (λ i. mend_s (signal_at p (e.a_is i)) (hq i))
        ∙ (λ i. mend_s (signal_at p (a_at p n))
        (if content_fits (e.type_is i) 0 (cell st (get_or index n 0)) then st else set_cell st (get_or index n 0) (packed (value_from (e.type_is i) (e.b_is i) (e.word_is i)))))
        ∙ sym (delay_mend (sym e.kind_is ∙ k))

    pub let_mend_said : {q r : Bytes} → x.kind ≡ 5 → q ≡ mend_s (signal_at p x.a) st → r ≡ mend_s (signal_at p x.b) q → r ≡ mend_s (signal_at p n) st
    let_mend_said k hq hr = cc (let_mend (sym e.kind_is ∙ k), e.a_is, e.b_is)

    pub until_mend_said : {q r : Bytes} → x.kind ≡ 8 → q ≡ mend_s (signal_at p x.a) st → r ≡ mend_c (cases_at p x.b) q → r ≡ mend_s (signal_at p n) st
    until_mend_said k hq hr = cc (until_mend (sym e.kind_is ∙ k), e.a_is, e.b_is)

    pub switch_kept_said : {m : ℕ} {f : Bool} {q s r : Bytes} → kind_at p n ≡ 6 → m ≡ cell st (get_or index n 0) → f ≡ content_fits x.ty 0 m → f ≡ true
        → q ≡ mend_s (signal_at p x.b) st → s ≡ reset_s (signal_at p x.a) q → r ≡ mend_s (signal_at p x.c) s → r ≡ mend_s (signal_at p n) st
    switch_kept_said {m} {f} k hm hf h hq hs hr =
        let fits : content_fits (type_at p n) 0 (cell st (get_or index n 0)) ≡ true = cc e.type_is in
        cc (switch_kept k fits, e.a_is, e.b_is, e.c_is)

    pub switch_begun_said : {m : ℕ} {f : Bool} {o q s r : Bytes} → kind_at p n ≡ 6 → m ≡ cell st (get_or index n 0) → f ≡ content_fits x.ty 0 m → f ≡ false
        → o ≡ set_cell st (get_or index n 0) 0 → q ≡ mend_s (signal_at p x.b) o → s ≡ mend_s (signal_at p x.a) q → r ≡ reset_s (signal_at p x.c) s
        → r ≡ mend_s (signal_at p n) st
    switch_begun_said {m} {f} k hm hf h ho hq hs hr =
        let fits : content_fits (type_at p n) 0 (cell st (get_or index n 0)) ≡ false = cc e.type_is in
        cc (switch_begun k fits, e.a_is, e.b_is, e.c_is)

    pub group_kept_said : {m : ℕ} {f : Bool} {q r : Bytes} → kind_at p n ≡ 7 → m ≡ cell st (get_or index n 0) → f ≡ names_branch m (branches_at p x.b) → f ≡ true
        → q ≡ reset_s (signal_at p x.a) st → r ≡ mend_b m (branches_at p x.b) q → r ≡ mend_s (signal_at p n) st
    group_kept_said {m} {f} k hm hf h hq hr =
        let names : names_branch (cell st (get_or index n 0)) (branches_at p (b_at p n)) ≡ true = cc e.b_is in
        cc (group_kept k names, e.a_is, e.b_is)

    pub group_begun_said : {m : ℕ} {f : Bool} {o q r : Bytes} → kind_at p n ≡ 7 → m ≡ cell st (get_or index n 0) → f ≡ names_branch m (branches_at p x.b) → f ≡ false
        → o ≡ set_cell st (get_or index n 0) 0 → q ≡ mend_s (signal_at p x.a) o → r ≡ reset_b (branches_at p x.b) q → r ≡ mend_s (signal_at p n) st
    group_begun_said {m} {f} k hm hf h ho hq hr =
        let names : names_branch (cell st (get_or index n 0)) (branches_at p (b_at p n)) ≡ false = cc e.b_is in
        cc (group_begun k names, e.a_is, e.b_is)

module _ (p : Bytes) (n : ℕ) (w : NodeOf is_branch p n) (m : ℕ) where
  -- The content names this branch, whatever comes next.
  pub names_this : n ≡ middle_in m → names_branch m (branches_at p n) ≡ content_fits (type_at p n) n m
  unfolding names_branch
  names_this e = rw (branch_law p n w {next = below n no_branch (branches_at p) (b_at p n)} refl, eq-eqb n (middle_in m) e) refl

  pub names_none : (n ≡ middle_in m → ⊥) → b_at p n ≡ 65535 → names_branch m (branches_at p n) ≡ false
  unfolding names_branch
  names_none d e = rw (branch_end p n w e, ne_eqb n (middle_in m) d) refl

  pub names_on : (n ≡ middle_in m → ⊥) → (b_at p n ≡ 65535 → ⊥) → names_branch m (branches_at p n) ≡ names_branch m (branches_at p (b_at p n))
  unfolding names_branch
  names_on d e = rw (branch_on p n w e, ne_eqb n (middle_in m) d) refl

  module _ (st : Bytes) where
    this_end : n ≡ middle_in m → b_at p n ≡ 65535 → mend_b m (branches_at p n) st ≡ mend_s (signal_at p (a_at p n)) st
    unfolding mend_b reset_b
    this_end e f = rw (branch_end p n w f, eq-eqb n (middle_in m) e) refl

    this_on : n ≡ middle_in m → (b_at p n ≡ 65535 → ⊥)
        → mend_b m (branches_at p n) st ≡ reset_b (branches_at p (b_at p n)) (mend_s (signal_at p (a_at p n)) st)
    unfolding mend_b
    this_on e f = rw (branch_on p n w f, eq-eqb n (middle_in m) e) refl

    other_end : (n ≡ middle_in m → ⊥) → b_at p n ≡ 65535 → mend_b m (branches_at p n) st ≡ reset_s (signal_at p (a_at p n)) st
    unfolding mend_b
    other_end d f = rw (branch_end p n w f, ne_eqb n (middle_in m) d) refl

    other_on : (n ≡ middle_in m → ⊥) → (b_at p n ≡ 65535 → ⊥)
        → mend_b m (branches_at p n) st ≡ mend_b m (branches_at p (b_at p n)) (reset_s (signal_at p (a_at p n)) st)
    unfolding mend_b
    other_on d f = rw (branch_on p n w f, ne_eqb n (middle_in m) d) refl

    module _ {x : Node} (e : IsNode p n x) where
      pub this_end_said : {i : ℕ} {r : Bytes} → i ≡ middle_in m → n ≡ i → r ≡ mend_s (signal_at p x.a) st → x.b ≡ 65535 → r ≡ mend_b m (branches_at p n) st
      this_end_said hi h hr l = cc (this_end (h ∙ hi) (sym e.b_is ∙ l), e.a_is)

      pub this_on_said : {i : ℕ} {q r : Bytes} → i ≡ middle_in m → n ≡ i → q ≡ mend_s (signal_at p x.a) st → (x.b ≡ 65535 → ⊥)
          → r ≡ reset_b (branches_at p x.b) q → r ≡ mend_b m (branches_at p n) st
      this_on_said hi h hq l hr = cc (this_on (h ∙ hi) (λ g. l (e.b_is ∙ g)), e.a_is, e.b_is)

      pub other_end_said : {i : ℕ} {r : Bytes} → i ≡ middle_in m → (n ≡ i → ⊥) → r ≡ reset_s (signal_at p x.a) st → x.b ≡ 65535
          → r ≡ mend_b m (branches_at p n) st
      other_end_said hi h hr l = cc (other_end (λ g. h (g ∙ sym hi)) (sym e.b_is ∙ l), e.a_is)

      pub other_on_said : {i : ℕ} {q r : Bytes} → i ≡ middle_in m → (n ≡ i → ⊥) → q ≡ reset_s (signal_at p x.a) st → (x.b ≡ 65535 → ⊥)
          → r ≡ mend_b m (branches_at p x.b) q → r ≡ mend_b m (branches_at p n) st
      other_on_said hi h hq l hr = cc (other_on (λ g. h (g ∙ sym hi)) (λ g. l (e.b_is ∙ g)), e.a_is, e.b_is)

module _ (p : Bytes) (n : ℕ) (w : NodeOf is_case p n) (st : Bytes) where
  case_mend_end : b_at p n ≡ 65535 → mend_c (cases_at p n) st ≡ mend_s (signal_at p (a_at p n)) st
  unfolding mend_c
  case_mend_end e = ap (λ (b : Cases). mend_c b st) (case_end p n w e)

  case_mend_on : (b_at p n ≡ 65535 → ⊥) → mend_c (cases_at p n) st ≡ mend_c (cases_at p (b_at p n)) (mend_s (signal_at p (a_at p n)) st)
  unfolding mend_c
  case_mend_on d = ap (λ (b : Cases). mend_c b st) (case_on p n w d)

  module _ {x : Node} (e : IsNode p n x) where
    pub case_mend_end_said : {r : Bytes} → r ≡ mend_s (signal_at p x.a) st → x.b ≡ 65535 → r ≡ mend_c (cases_at p n) st
    case_mend_end_said hr l = cc (case_mend_end (sym e.b_is ∙ l), e.a_is)

    pub case_mend_on_said : {q r : Bytes} → q ≡ mend_s (signal_at p x.a) st → (x.b ≡ 65535 → ⊥) → r ≡ mend_c (cases_at p x.b) q → r ≡ mend_c (cases_at p n) st
    case_mend_on_said hq l hr = cc (case_mend_on (λ h. l (e.b_is ∙ h)), e.a_is, e.b_is)

-- One of two states, by a test.
pub one_kept : (b : Bool) (st q : Bytes) → b ≡ true → st ≡ (if b then st else q)
one_kept b st q e = rw e refl

pub one_begun : (b : Bool) (st q : Bytes) → b ≡ false → q ≡ (if b then st else q)
one_begun b st q e = rw e refl

-- The time.
pub time_none : (st : Bytes) → last_time st ≡ 4294967295 → st ≡ mend_time st
unfolding mend_time time_fits ◌or◌
time_none st e = rw (eq-eqb (last_time st) 4294967295 e) refl

pub time_fits_lem : (st : Bytes) → (last_time st ≡ 4294967295 → ⊥) → last_time st ≤ 2147483647 → st ≡ mend_time st
unfolding mend_time time_fits ◌or◌
time_fits_lem st d h = rw (ne_eqb (last_time st) 4294967295 d, le-leb (last_time st) 2147483647 h) refl

pub time_bad : (st : Bytes) → (last_time st ≡ 4294967295 → ⊥) → 2147483647 < last_time st → set_time st 4294967295 ≡ mend_time st
unfolding mend_time time_fits ◌or◌
time_bad st d h = rw (ne_eqb (last_time st) 4294967295 d, lt-leb (last_time st) 2147483647 h) refl

-- The whole state.
pub mended_is : (p : Bytes) (count : ℕ) (st : Bytes) → count ≡ nodes p → mend_s (signal_at p (count - 1)) (mend_time st) ≡ mended p st
unfolding mended root
mended_is p count st e = ap (λ (n : ℕ). mend_s (signal_at p (n - 1)) (mend_time st)) e
