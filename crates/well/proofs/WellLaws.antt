-- A signal of each kind, a list of branches and a list of cases: whether their cells are valid, and start where they are not current; and the same from what the calls for the parts have answered.
-- Assumes nothing.
use Rattle.std.specs.Prelude.{Ok, Err}
use Rattle.rules.specs.Verdicts.{Verdict}
use mathlib.Core.Path.{◌≡◌, refl, sym, ap, ◌∙◌}
use mathlib.Core.Bool.{Bool, true, false, not}
use mathlib.Core.List.{List}
use Prim.Native.Nat.{ℕ, ◌-◌, ◌%◌, ◌<◌}
use native.Mathlib.Omega.{arith}
use lib.Dec.{eqb, leb}
use lib.ListN.{length, get_or}
use borrow.Author.Tests.{eq-eqb, ne_eqb}
use Rattle.rules.specs.Bytes.{Bytes, ◌and◌, ◌or◌}
use Rattle.rules.specs.Values.{middle_in}
use Rattle.rules.specs.Layout.{kind_at, type_at, a_at, b_at, c_at, nodes, cell, is_clear, checks_of, state_length, last_time, sum_in, no_time}
use Rattle.rules.specs.Kinds.{is_signal, is_branch, is_case}
use Rattle.rules.specs.Reset.{rests_s, rests_b}
use Rattle.rules.specs.WellFormed.{content_fits, well_s, well_b, well_c, long_as_cells, knows_program, rest_well, last_moment}
use Rattle.rules.specs.Calls.{◌otherwise◌, refuse_if, state_verdict}
use Rattle.rules.specs.declared.Refusal.{Refusal}
use Rattle.rules.specs.declared.Refusal.TheVariants.{StateFault, OtherProgram}
use Rattle.rules.specs.Tree.{signal_at, branches_at, cases_at, root}
use Rattle.rules.specs.Shaped.{NodeOf}
use Rattle.rules.specs.Node.{IsNode}
use Rattle.rules.specs.declared.Node.{Node}
use Rattle.rules.proofs.Signals.{delay_tree, let_tree, switch_tree, group_tree, until_tree, branch_end, branch_on, case_end, case_on}
use Rattle.typing.proofs.ExprLaws.{value_type}
use Rattle.state.specs.Stated.{Stated}
use Rattle.state.proofs.Carried.{number, quiet}

module _ (p : Bytes) (index : List ℕ) (size n : ℕ) (w : Stated is_signal p index size n) (st : Bytes) where
  delay_well : kind_at p n ≡ 4
      → well_s st (signal_at p n) ≡ (content_fits (type_at p n) 0 (cell st (get_or index n 0)) and well_s st (signal_at p (a_at p n)))
  unfolding well_s
  delay_well e =
      ap (well_s st) (delay_tree p n w.node e)
      ∙ (λ i. content_fits (value_type p n i) 0 (cell st (sym (number p index size n w) i)) and well_s st (signal_at p (a_at p n)))

  let_well : kind_at p n ≡ 5 → well_s st (signal_at p n) ≡ (well_s st (signal_at p (a_at p n)) and well_s st (signal_at p (b_at p n)))
  unfolding well_s
  let_well e = ap (well_s st) (let_tree p n w.node e)

  -- a switch that has not switched, and one that has
  switch_first : kind_at p n ≡ 6 → cell st (get_or index n 0) ≡ 0
      → well_s st (signal_at p n) ≡ (well_s st (signal_at p (b_at p n)) and (well_s st (signal_at p (a_at p n)) and rests_s st (signal_at p (c_at p n))))
  unfolding well_s is_clear
  switch_first e z = rw (switch_tree p n w.node e, ← number p index size n w, z) refl

  switch_second : kind_at p n ≡ 6 → (cell st (get_or index n 0) ≡ 0 → ⊥)
      → well_s st (signal_at p n)
      ≡ (well_s st (signal_at p (b_at p n))
      and (content_fits (type_at p n) 0 (cell st (get_or index n 0)) and rests_s st (signal_at p (a_at p n)) and well_s st (signal_at p (c_at p n))))
  unfolding well_s is_clear
  switch_second e d = rw (switch_tree p n w.node e, ← number p index size n w, ne_eqb _ _ d) refl

  -- a group in its body, and one in a branch
  group_body : kind_at p n ≡ 7 → cell st (get_or index n 0) ≡ 0
      → well_s st (signal_at p n) ≡ (well_s st (signal_at p (a_at p n)) and rests_b st (branches_at p (b_at p n)))
  unfolding well_s is_clear
  group_body e z = rw (group_tree p n w.node e, ← number p index size n w, z) refl

  group_branch : kind_at p n ≡ 7 → (cell st (get_or index n 0) ≡ 0 → ⊥)
      → well_s st (signal_at p n) ≡ (rests_s st (signal_at p (a_at p n)) and well_b st (cell st (get_or index n 0)) (branches_at p (b_at p n)))
  unfolding well_s is_clear
  group_branch e d = rw (group_tree p n w.node e, ← number p index size n w, ne_eqb _ _ d) refl

  until_well : kind_at p n ≡ 8 → well_s st (signal_at p n) ≡ (well_s st (signal_at p (a_at p n)) and well_c st (cases_at p (b_at p n)))
  unfolding well_s
  until_well e = ap (well_s st) (until_tree p n w.node e)

  pub quiet_well : {A : Type 0} {m : ℕ} → m ≡ kind_at p n
      → (((((A × (m ≡ 4 → ⊥)) × (m ≡ 5 → ⊥)) × (m ≡ 6 → ⊥)) × (m ≡ 7 → ⊥)) × (m ≡ 8 → ⊥))
      → true ≡ well_s st (signal_at p n)
  unfolding well_s
  quiet_well e r = quiet p n w.node (λ s. true ≡ well_s st s) (λ c. refl) refl (λ x. refl) e r

  module _ {x : Node} (e : IsNode p n x) where
    pub delay_well_said : {m : ℕ} {s f r : Bool} → x.kind ≡ 4 → m ≡ cell st (get_or index n 0) → s ≡ well_s st (signal_at p x.a)
        → f ≡ content_fits x.ty 0 m → r ≡ (f and s) → r ≡ well_s st (signal_at p n)
    delay_well_said k hm hs hf hr = cc (delay_well (sym e.kind_is ∙ k), e.type_is, e.a_is)

    pub let_well_said : {s t r : Bool} → x.kind ≡ 5 → s ≡ well_s st (signal_at p x.a) → t ≡ well_s st (signal_at p x.b) → r ≡ (s and t)
        → r ≡ well_s st (signal_at p n)
    let_well_said k hs ht hr = cc (let_well (sym e.kind_is ∙ k), e.a_is, e.b_is)

    pub switch_first_said : {m : ℕ} {s t u v r : Bool} → x.kind ≡ 6 → m ≡ cell st (get_or index n 0) → s ≡ well_s st (signal_at p x.b) → m ≡ 0
        → t ≡ well_s st (signal_at p x.a) → u ≡ rests_s st (signal_at p x.c) → v ≡ (t and u) → r ≡ (s and v) → r ≡ well_s st (signal_at p n)
    switch_first_said k hm hs z ht hu hv hr = cc (switch_first (sym e.kind_is ∙ k) (sym hm ∙ z), e.a_is, e.b_is, e.c_is)

    pub switch_second_said : {m : ℕ} {s t u f v q r : Bool} → x.kind ≡ 6 → m ≡ cell st (get_or index n 0) → s ≡ well_s st (signal_at p x.b) → (m ≡ 0 → ⊥)
        → t ≡ rests_s st (signal_at p x.a) → u ≡ well_s st (signal_at p x.c) → f ≡ content_fits x.ty 0 m
        → v ≡ (f and t) → q ≡ (v and u) → r ≡ (s and q) → r ≡ well_s st (signal_at p n)
    switch_second_said k hm hs d ht hu hf hv hq hr = cc (switch_second (sym e.kind_is ∙ k) (λ h. d (hm ∙ h)), e.type_is, e.a_is, e.b_is, e.c_is)

    pub group_body_said : {m : ℕ} {s t r : Bool} → x.kind ≡ 7 → m ≡ cell st (get_or index n 0) → m ≡ 0
        → s ≡ well_s st (signal_at p x.a) → t ≡ rests_b st (branches_at p x.b) → r ≡ (s and t) → r ≡ well_s st (signal_at p n)
    group_body_said k hm z hs ht hr = cc (group_body (sym e.kind_is ∙ k) (sym hm ∙ z), e.a_is, e.b_is)

    pub group_branch_said : {m : ℕ} {s t r : Bool} → x.kind ≡ 7 → m ≡ cell st (get_or index n 0) → (m ≡ 0 → ⊥)
        → s ≡ rests_s st (signal_at p x.a) → t ≡ well_b st m (branches_at p x.b) → r ≡ (s and t) → r ≡ well_s st (signal_at p n)
    group_branch_said k hm d hs ht hr = cc (group_branch (sym e.kind_is ∙ k) (λ h. d (hm ∙ h)), e.a_is, e.b_is)

    pub until_well_said : {s t r : Bool} → x.kind ≡ 8 → s ≡ well_s st (signal_at p x.a) → t ≡ well_c st (cases_at p x.b) → r ≡ (s and t)
        → r ≡ well_s st (signal_at p n)
    until_well_said k hs ht hr = cc (until_well (sym e.kind_is ∙ k), e.a_is, e.b_is)

-- the branch that is named, and another; the last of the list, and not
module _ (p : Bytes) (n : ℕ) (w : NodeOf is_branch p n) (st : Bytes) (m : ℕ) where
  named_last : n ≡ middle_in m → b_at p n ≡ 65535
      → well_b st m (branches_at p n) ≡ (content_fits (type_at p n) n m and well_s st (signal_at p (a_at p n)) and true)
  unfolding well_b rests_b
  named_last h e = rw (branch_end p n w e, eq-eqb _ _ h) refl

  named_on : n ≡ middle_in m → (b_at p n ≡ 65535 → ⊥)
      → well_b st m (branches_at p n) ≡ (content_fits (type_at p n) n m and well_s st (signal_at p (a_at p n)) and rests_b st (branches_at p (b_at p n)))
  unfolding well_b
  named_on h d = rw (branch_on p n w d, eq-eqb _ _ h) refl

  other_last : (n ≡ middle_in m → ⊥) → b_at p n ≡ 65535 → well_b st m (branches_at p n) ≡ (rests_s st (signal_at p (a_at p n)) and false)
  unfolding well_b
  other_last h e = rw (branch_end p n w e, ne_eqb _ _ h) refl

  other_on : (n ≡ middle_in m → ⊥) → (b_at p n ≡ 65535 → ⊥)
      → well_b st m (branches_at p n) ≡ (rests_s st (signal_at p (a_at p n)) and well_b st m (branches_at p (b_at p n)))
  unfolding well_b
  other_on h d = rw (branch_on p n w d, ne_eqb _ _ h) refl

  module _ {x : Node} (e : IsNode p n x) where
    pub named_last_said : {i : ℕ} {s f v r : Bool} → i ≡ middle_in m → n ≡ i → s ≡ well_s st (signal_at p x.a) → f ≡ content_fits x.ty n m
        → v ≡ (f and s) → x.b ≡ 65535 → r ≡ (v and true) → r ≡ well_b st m (branches_at p n)
    named_last_said hi h hs hf hv l hr = cc (named_last (h ∙ hi) (sym e.b_is ∙ l), e.type_is, e.a_is)

    pub named_on_said : {i : ℕ} {s t f v r : Bool} → i ≡ middle_in m → n ≡ i → s ≡ well_s st (signal_at p x.a) → f ≡ content_fits x.ty n m
        → v ≡ (f and s) → (x.b ≡ 65535 → ⊥) → t ≡ rests_b st (branches_at p x.b) → r ≡ (v and t) → r ≡ well_b st m (branches_at p n)
    named_on_said hi h hs hf hv l ht hr = cc (named_on (h ∙ hi) (λ g. l (e.b_is ∙ g)), e.type_is, e.a_is, e.b_is)

    pub other_last_said : {i : ℕ} {s r : Bool} → i ≡ middle_in m → (n ≡ i → ⊥) → s ≡ rests_s st (signal_at p x.a)
        → x.b ≡ 65535 → r ≡ (s and false) → r ≡ well_b st m (branches_at p n)
    other_last_said hi h hs l hr = cc (other_last (λ g. h (g ∙ sym hi)) (sym e.b_is ∙ l), e.a_is)

    pub other_on_said : {i : ℕ} {s t r : Bool} → i ≡ middle_in m → (n ≡ i → ⊥) → s ≡ rests_s st (signal_at p x.a)
        → (x.b ≡ 65535 → ⊥) → t ≡ well_b st m (branches_at p x.b) → r ≡ (s and t) → r ≡ well_b st m (branches_at p n)
    other_on_said hi h hs l ht hr = cc (other_on (λ g. h (g ∙ sym hi)) (λ g. l (e.b_is ∙ g)), e.a_is, e.b_is)

module _ (p : Bytes) (n : ℕ) (w : NodeOf is_case p n) (st : Bytes) where
  case_well_end : b_at p n ≡ 65535 → well_c st (cases_at p n) ≡ (well_s st (signal_at p (a_at p n)) and true)
  unfolding well_c
  case_well_end e = ap (well_c st) (case_end p n w e)

  case_well_on : (b_at p n ≡ 65535 → ⊥) → well_c st (cases_at p n) ≡ (well_s st (signal_at p (a_at p n)) and well_c st (cases_at p (b_at p n)))
  unfolding well_c
  case_well_on d = ap (well_c st) (case_on p n w d)

  module _ {x : Node} (e : IsNode p n x) where
    pub case_well_end_said : {s r : Bool} → s ≡ well_s st (signal_at p x.a) → x.b ≡ 65535 → r ≡ (s and true) → r ≡ well_c st (cases_at p n)
    case_well_end_said hs l hr = cc (case_well_end (sym e.b_is ∙ l), e.a_is)

    pub case_well_on_said : {s t r : Bool} → s ≡ well_s st (signal_at p x.a) → (x.b ≡ 65535 → ⊥) → t ≡ well_c st (cases_at p x.b) → r ≡ (s and t)
        → r ≡ well_c st (cases_at p n)
    case_well_on_said hs l ht hr = cc (case_well_on (λ h. l (e.b_is ∙ h)), e.a_is, e.b_is)

-- a state of the wrong length, and of the right one
pub wrong_length : (p st : Bytes) → (length st ≡ state_length p → ⊥) → Err StateFault ≡ state_verdict p st
unfolding state_verdict long_as_cells ◌otherwise◌ refuse_if
wrong_length p st d = rw (ne_eqb _ _ d) refl

right_length : (p st : Bytes) → length st ≡ state_length p
    → state_verdict p st ≡ (refuse_if (not (knows_program p st)) OtherProgram otherwise refuse_if (not (rest_well p st)) StateFault)
unfolding state_verdict long_as_cells ◌otherwise◌ refuse_if
right_length p st e = rw (eq-eqb _ _ e) refl

-- the sum that a state carries against the program's, which 4 bytes hold
right_sum : (p st : Bytes) {x y : ℕ} → checks_of p < 4294967296 → x ≡ sum_in st → y ≡ checks_of p % 4294967296 → eqb x y ≡ knows_program p st
unfolding knows_program
right_sum p st {x} {y} h e f = let g : y ≡ checks_of p = omega arith in cc

-- in a state of the right length the sum comes before the rest
pub sum_then_rest : (p st : Bytes) {x y : ℕ} {w : Bool} {sum rest r : Verdict} → length st ≡ state_length p → checks_of p < 4294967296
    → x ≡ sum_in st → y ≡ checks_of p % 4294967296 → sum ≡ refuse_if (not (eqb x y)) OtherProgram
    → w ≡ rest_well p st → rest ≡ refuse_if (not w) StateFault → r ≡ (sum otherwise rest) → r ≡ state_verdict p st
sum_then_rest p st {x} {y} {w} l h e f s g t q =
    q ∙ (λ i. s i otherwise t i)
    ∙ (λ i. refuse_if (not (right_sum p st h e f i)) OtherProgram otherwise refuse_if (not (g i)) StateFault)
    ∙ sym (right_length p st l)

-- so a wrong sum is the fault, and after a right one the rest says which
pub sum_stops : (p st : Bytes) {x y : ℕ} {sum : Verdict} {r : Refusal} → length st ≡ state_length p → checks_of p < 4294967296
    → x ≡ sum_in st → y ≡ checks_of p % 4294967296 → sum ≡ refuse_if (not (eqb x y)) OtherProgram → sum ≡ Err r → Err r ≡ state_verdict p st
unfolding ◌otherwise◌
sum_stops p st l h e f s q = sum_then_rest p st l h e f s refl refl (rw q)

pub sum_passes : (p st : Bytes) {x y : ℕ} {w : Bool} {sum r : Verdict} → length st ≡ state_length p → checks_of p < 4294967296
    → x ≡ sum_in st → y ≡ checks_of p % 4294967296 → sum ≡ refuse_if (not (eqb x y)) OtherProgram → sum ≡ Ok tt
    → w ≡ rest_well p st → r ≡ refuse_if (not w) StateFault → r ≡ state_verdict p st
unfolding ◌otherwise◌
sum_passes p st l h e f s q g t = sum_then_rest p st l h e f s g t (rw q)

-- the rest: the time and the cells
right_rest : (p st : Bytes)
    → rest_well p st ≡ ((eqb (last_time st) no_time or leb (last_time st) last_moment) and well_s st (signal_at p (nodes p - 1)))
unfolding rest_well root
right_rest p st = refl

pub right_rest_said : (p st : Bytes) {count time : ℕ} {t w r : Bool} → count ≡ nodes p → time ≡ last_time st
    → t ≡ (eqb time 4294967295 or leb time 2147483647) → w ≡ well_s st (signal_at p (count - 1)) → r ≡ (t and w) → r ≡ rest_well p st
right_rest_said p st hc ht ho hw hr = cc (right_rest p st)
