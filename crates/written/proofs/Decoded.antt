-- The tree that is read off a table that holds a tree's records: that tree, with its numbers by place.
-- Assumes nothing.
use mathlib.Core.Path.{◌≡◌, refl, sym, ap, ◌∙◌}
use mathlib.Core.Bool.{Bool, true, false}
use Prim.Native.Nat.{ℕ, zero, suc, ◌+◌, ◌<◌, ◌≤◌}
use native.Mathlib.Omega.{arith}
use Rattle.rules.specs.Bytes.{Bytes}
use Rattle.rules.specs.Layout.{kind_at, type_at, a_at, b_at, c_at, word_at, cells_before, no_next}
use Rattle.rules.specs.Values.{type_of, value_from}
use Rattle.rules.specs.Node.{IsNode}
use Rattle.rules.specs.Size.{size_e, size_s, size_b, size_c}
use Rattle.rules.specs.Tree.{Expr, variable, constant, operation, negation, choice, just, taking, Signal, input, time, ext, delay, let_signal, switch, group, until, Branches, no_branch, branch, Cases, no_case, case, value_at, below, no_signal, expr_at, signal_at, branches_at, cases_at, branches_as, cases_as}
use Rattle.rules.specs.declared.Value.{Value}
use Rattle.rules.proofs.Laws.{branches_law, cases_law}
use Rattle.rules.proofs.Nodes.{below_lt, below_ge, expr_variable, expr_constant, expr_operation, expr_negation, expr_choice, expr_just, expr_taking, signal_input, signal_time, signal_ext, signal_delay, signal_let, signal_switch, signal_group, signal_until}
use Rattle.written.specs.Parts.{Part, part, Slot, holds, child, size_p, size_k, last_p, field_k, row_p}
use Rattle.written.specs.Written.{present_of, word_of, part_e, part_s, slot_b, slot_c, placed_e, placed_s, placed_b, placed_c}
use Rattle.written.specs.Right.{HoldsP, HoldsK, ValueRight, Operates, RightE, RightS, RightB, RightC, SomeB, SomeC, KnowsE, KnowsS, KnowsB, KnowsC}
use Rattle.written.proofs.Rows.{last_size}
use Rattle.written.proofs.Parted.{part_e_size, part_s_size, slot_b_size, slot_c_size}

-- The value at a record.
value_read : (q : Bytes) (n : ℕ) (v : Value) → type_of v ≡ type_at q n → present_of v ≡ b_at q n → word_of v ≡ word_at q n → ValueRight v → value_at q n ≡ v
unfolding value_at
value_read q n v e f g r = sym (λ i. value_from (e i) (f i) (g i)) ∙ r.again

module _ (q : Bytes) (φ : ℕ → ℕ) where
  -- A child's number is below its parent's.
  less : (p : Part) (lo n x : ℕ) → last_p lo p ≡ x → lo + size_p p ≤ n → x < n
  less p lo n x e h = omega (arith, last_size lo p)

  pub expr_read : (e : Expr) (lo : ℕ) → HoldsP (part_e φ e) q lo → RightE φ e → KnowsE (λ b. type_at q (φ b)) e
      → expr_at q (last_p lo (part_e φ e)) ≡ placed_e φ e lo
  unfolding part_e last_p row_p field_k size_p placed_e
  expr_read (variable n b t) lo h r k =
      let i = h.3 in
      let a = sym i.a_is in
      let m : lo + 0 ≡ lo = omega arith in
      expr_variable q (lo + 0) (sym i.kind_is) ∙ (λ j. variable (m j) (a j) ((ap (type_at q) a ∙ k) j))
  expr_read (constant n v) lo h r k =
      let i = h.3 in
      let m : lo + 0 ≡ lo = omega arith in
      expr_constant q (lo + 0) (sym i.kind_is) ∙ (λ j. constant (m j) (value_read q (lo + 0) v i.type_is i.b_is i.word_is r j))
  expr_read (operation n k x y) lo h r g =
      let i = h.3 in
      let o = r.0 in
      let sx = part_e_size φ x in
      let sy = part_e_size φ y in
      let m : lo + (size_p (part_e φ x) + size_p (part_e φ y) + 0) ≡ lo + (size_e x + size_e y) = omega arith in
      let l : lo + size_p (part_e φ x) ≡ lo + size_e x = omega arith in
      let e = i.kind_is in
      expr_operation q (lo + (size_p (part_e φ x) + size_p (part_e φ y) + 0))
      (λ z. o.no16 (e ∙ z)) (λ z. o.no17 (e ∙ z)) (λ z. o.no24 (e ∙ z)) (λ z. o.no27 (e ∙ z)) (λ z. o.no28 (e ∙ z)) (λ z. o.no29 (e ∙ z))
      (less (part_e φ x) lo _ _ i.a_is (omega arith)) (less (part_e φ y) (lo + size_p (part_e φ x)) _ _ i.b_is (omega arith))
      ∙ (λ j. operation (m j) (sym e j)
      ((ap (expr_at q) (sym i.a_is) ∙ expr_read x lo h.0 r.1 g.0) j)
      ((ap (expr_at q) (sym i.b_is) ∙ expr_read y (lo + size_p (part_e φ x)) h.1 r.2 g.1 ∙ ap (placed_e φ y) l) j))
  expr_read (negation n x) lo h r k =
      let i = h.3 in
      let sx = part_e_size φ x in
      let m : lo + (size_p (part_e φ x) + 0 + 0) ≡ lo + size_e x = omega arith in
      expr_negation q (lo + (size_p (part_e φ x) + 0 + 0)) (sym i.kind_is) (less (part_e φ x) lo _ _ i.a_is (omega arith))
      ∙ (λ j. negation (m j) ((ap (expr_at q) (sym i.a_is) ∙ expr_read x lo h.0 r k) j))
  expr_read (choice n x y z) lo h r g =
      let i = h.3 in
      let sx = part_e_size φ x in
      let sy = part_e_size φ y in
      let sz = part_e_size φ z in
      let m : lo + (size_p (part_e φ x) + size_p (part_e φ y) + size_p (part_e φ z)) ≡ lo + (size_e x + size_e y + size_e z) = omega arith in
      let l : lo + size_p (part_e φ x) ≡ lo + size_e x = omega arith in
      let l' : lo + size_p (part_e φ x) + size_p (part_e φ y) ≡ lo + size_e x + size_e y = omega arith in
      expr_choice q (lo + (size_p (part_e φ x) + size_p (part_e φ y) + size_p (part_e φ z))) (sym i.kind_is)
      (less (part_e φ x) lo _ _ i.a_is (omega arith)) (less (part_e φ y) (lo + size_p (part_e φ x)) _ _ i.b_is (omega arith))
      (less (part_e φ z) (lo + size_p (part_e φ x) + size_p (part_e φ y)) _ _ i.c_is (omega arith))
      ∙ (λ j. choice (m j)
      ((ap (expr_at q) (sym i.a_is) ∙ expr_read x lo h.0 r.0 g.0) j)
      ((ap (expr_at q) (sym i.b_is) ∙ expr_read y (lo + size_p (part_e φ x)) h.1 r.1 g.1 ∙ ap (placed_e φ y) l) j)
      ((ap (expr_at q) (sym i.c_is) ∙ expr_read z (lo + size_p (part_e φ x) + size_p (part_e φ y)) h.2 r.2 g.2 ∙ ap (placed_e φ z) l') j))
  expr_read (just n x) lo h r k =
      let i = h.3 in
      let sx = part_e_size φ x in
      let m : lo + (size_p (part_e φ x) + 0 + 0) ≡ lo + size_e x = omega arith in
      expr_just q (lo + (size_p (part_e φ x) + 0 + 0)) (sym i.kind_is) (less (part_e φ x) lo _ _ i.a_is (omega arith))
      ∙ (λ j. just (m j) ((ap (expr_at q) (sym i.a_is) ∙ expr_read x lo h.0 r k) j))
  expr_read (taking n t x y z) lo h r g =
      let i = h.3 in
      let sx = part_e_size φ x in
      let sy = part_e_size φ y in
      let sz = part_e_size φ z in
      let m : lo + (size_p (part_e φ x) + size_p (part_e φ y) + size_p (part_e φ z)) ≡ lo + (size_e x + size_e y + size_e z) = omega arith in
      let l : lo + size_p (part_e φ x) ≡ lo + size_e x = omega arith in
      let l' : lo + size_p (part_e φ x) + size_p (part_e φ y) ≡ lo + size_e x + size_e y = omega arith in
      expr_taking q (lo + (size_p (part_e φ x) + size_p (part_e φ y) + size_p (part_e φ z))) (sym i.kind_is)
      (less (part_e φ x) lo _ _ i.a_is (omega arith)) (less (part_e φ y) (lo + size_p (part_e φ x)) _ _ i.b_is (omega arith))
      (less (part_e φ z) (lo + size_p (part_e φ x) + size_p (part_e φ y)) _ _ i.c_is (omega arith))
      ∙ (λ j. taking (m j) (sym i.type_is j)
      ((ap (expr_at q) (sym i.a_is) ∙ expr_read x lo h.0 r.1 g.0) j)
      ((ap (expr_at q) (sym i.b_is) ∙ expr_read y (lo + size_p (part_e φ x)) h.1 r.2 g.1 ∙ ap (placed_e φ y) l) j)
      ((ap (expr_at q) (sym i.c_is) ∙ expr_read z (lo + size_p (part_e φ x) + size_p (part_e φ y)) h.2 r.3 g.2 ∙ ap (placed_e φ z) l') j))

  abbrev κ : ℕ → ℕ
  κ = cells_before q

  abbrev τ : ℕ → ℕ
  τ b = type_at q (φ b)

  -- The first branch or case, and a next one that may be none.
  some_branch : (brs : Branches) (lo n x : ℕ) → SomeB brs → field_k lo (slot_b brs φ) ≡ x → lo + size_k (slot_b brs φ) ≤ n → x < n
  unfolding slot_b field_k size_p
  some_branch no_branch lo n x z e h = absurd z
  some_branch (branch m t body next) lo n x z e h = less (part 9 t 0 (child (part_s body φ)) (slot_b next φ) (holds 0)) lo n x e h

  some_case : (cs : Cases) (lo n x : ℕ) → SomeC cs → field_k lo (slot_c cs φ) ≡ x → lo + size_k (slot_c cs φ) ≤ n → x < n
  unfolding slot_c field_k size_p
  some_case no_case lo n x z e h = absurd z
  some_case (case m event target t next) lo n x z e h = less (part 10 0 0 (child (part_s event φ)) (slot_c next φ) (holds (φ target))) lo n x e h

  branch_first : (brs : Branches) (lo n : ℕ) → SomeB brs → lo + size_k (slot_b brs φ) ≤ n → field_k lo (slot_b brs φ) ≡ b_at q n
      → below n no_branch (branches_at q) (field_k lo (slot_b brs φ)) ≡ placed_b brs κ φ lo → branches_at q (b_at q n) ≡ placed_b brs κ φ lo
  branch_first brs lo n z h e x =
      ap (branches_at q) (sym e) ∙ sym (below_lt n no_branch (branches_at q) (field_k lo (slot_b brs φ)) (some_branch brs lo n _ z refl h)) ∙ x

  case_first : (cs : Cases) (lo n : ℕ) → SomeC cs → lo + size_k (slot_c cs φ) ≤ n → field_k lo (slot_c cs φ) ≡ b_at q n
      → below n no_case (cases_at q) (field_k lo (slot_c cs φ)) ≡ placed_c cs κ φ lo → cases_at q (b_at q n) ≡ placed_c cs κ φ lo
  case_first cs lo n z h e x =
      ap (cases_at q) (sym e) ∙ sym (below_lt n no_case (cases_at q) (field_k lo (slot_c cs φ)) (some_case cs lo n _ z refl h)) ∙ x

  branch_law : (n a b : ℕ) → a_at q n ≡ a → b_at q n ≡ b → a < n
      → branches_at q n ≡ branch n (type_at q n) (signal_at q a) (below n no_branch (branches_at q) b)
  unfolding branches_as
  branch_law n a b e f h =
      branches_law q n ∙ (λ j. branch n (type_at q n) ((ap (below n no_signal (signal_at q)) e ∙ below_lt n no_signal (signal_at q) a h) j) (below n no_branch (branches_at q) (f j)))

  case_law : (n a b : ℕ) → a_at q n ≡ a → b_at q n ≡ b → a < n
      → cases_at q n ≡ case n (signal_at q a) (c_at q n) (type_at q (c_at q n)) (below n no_case (cases_at q) b)
  unfolding cases_as
  case_law n a b e f h =
      cases_law q n ∙ (λ j. case n ((ap (below n no_signal (signal_at q)) e ∙ below_lt n no_signal (signal_at q) a h) j) (c_at q n) (type_at q (c_at q n)) (below n no_case (cases_at q) (f j)))

  mutual
    unfolding part_s last_p row_p field_k size_p placed_s

    pub signal_read : (s : Signal) (lo : ℕ) → HoldsP (part_s s φ) q lo → RightS s φ → KnowsS s τ → lo + size_p (part_s s φ) ≤ 65535
        → signal_at q (last_p lo (part_s s φ)) ≡ placed_s s κ φ lo
    signal_read (input n c) lo h r g w =
        let i = h.3 in
        let m : lo + 0 ≡ lo = omega arith in
        signal_input q (lo + 0) (sym i.kind_is) ∙ (λ j. input (m j) (sym i.a_is j))
    signal_read (time n) lo h r g w =
        let i = h.3 in
        signal_time q (lo + 0) (sym i.kind_is) ∙ ap time (let m : lo + 0 ≡ lo = omega arith in m)
    signal_read (ext n e) lo h r g w =
        let i = h.3 in
        let sx = part_e_size φ e in
        let m : lo + (size_p (part_e φ e) + 0 + 0) ≡ lo + size_e e = omega arith in
        signal_ext q (lo + (size_p (part_e φ e) + 0 + 0)) (sym i.kind_is) (less (part_e φ e) lo _ _ i.a_is (omega arith))
        ∙ (λ j. ext (m j) ((ap (expr_at q) (sym i.a_is) ∙ expr_read e lo h.0 r g) j))
    signal_read (delay n k v s) lo h r g w =
        let i = h.3 in
        let sx = part_s_size s φ in
        let m : lo + (size_p (part_s s φ) + 0 + 0) ≡ lo + size_s s = omega arith in
        signal_delay q (lo + (size_p (part_s s φ) + 0 + 0)) (sym i.kind_is) (less (part_s s φ) lo _ _ i.a_is (omega arith))
        ∙ (λ j. delay (m j) (κ (m j)) (value_read q (lo + (size_p (part_s s φ) + 0 + 0)) v i.type_is i.b_is i.word_is r.0 j)
        ((ap (signal_at q) (sym i.a_is) ∙ signal_read s lo h.0 r.1 g (omega arith)) j))
    signal_read (let_signal n t x y) lo h r g w =
        let i = h.3 in
        let sx = part_s_size x φ in
        let sy = part_s_size y φ in
        let m : lo + (size_p (part_s x φ) + size_p (part_s y φ) + 0) ≡ lo + (size_s x + size_s y) = omega arith in
        let l : lo + size_p (part_s x φ) ≡ lo + size_s x = omega arith in
        signal_let q (lo + (size_p (part_s x φ) + size_p (part_s y φ) + 0)) (sym i.kind_is)
        (less (part_s x φ) lo _ _ i.a_is (omega arith)) (less (part_s y φ) (lo + size_p (part_s x φ)) _ _ i.b_is (omega arith))
        ∙ (λ j. let_signal (m j) (sym i.type_is j)
        ((ap (signal_at q) (sym i.a_is) ∙ signal_read x lo h.0 r.1 g.0 (omega arith)) j)
        ((ap (signal_at q) (sym i.b_is) ∙ signal_read y (lo + size_p (part_s x φ)) h.1 r.2 g.1 (omega arith) ∙ ap (placed_s y κ φ) l) j))
    signal_read (switch n k t x y z) lo h r g w =
        let i = h.3 in
        let sx = part_s_size x φ in
        let sy = part_s_size y φ in
        let sz = part_s_size z φ in
        let m : lo + (size_p (part_s x φ) + size_p (part_s y φ) + size_p (part_s z φ)) ≡ lo + (size_s x + size_s y + size_s z) = omega arith in
        let l : lo + size_p (part_s x φ) ≡ lo + size_s x = omega arith in
        let l' : lo + size_p (part_s x φ) + size_p (part_s y φ) ≡ lo + size_s x + size_s y = omega arith in
        signal_switch q (lo + (size_p (part_s x φ) + size_p (part_s y φ) + size_p (part_s z φ))) (sym i.kind_is)
        (less (part_s x φ) lo _ _ i.a_is (omega arith)) (less (part_s y φ) (lo + size_p (part_s x φ)) _ _ i.b_is (omega arith))
        (less (part_s z φ) (lo + size_p (part_s x φ) + size_p (part_s y φ)) _ _ i.c_is (omega arith))
        ∙ (λ j. switch (m j) (κ (m j)) (sym i.type_is j)
        ((ap (signal_at q) (sym i.a_is) ∙ signal_read x lo h.0 r.1 g.0 (omega arith)) j)
        ((ap (signal_at q) (sym i.b_is) ∙ signal_read y (lo + size_p (part_s x φ)) h.1 r.2 g.1 (omega arith) ∙ ap (placed_s y κ φ) l) j)
        ((ap (signal_at q) (sym i.c_is) ∙ signal_read z (lo + size_p (part_s x φ) + size_p (part_s y φ)) h.2 r.3 g.2 (omega arith) ∙ ap (placed_s z κ φ) l') j))
    signal_read (group n k x brs) lo h r g w =
        let i = h.3 in
        let sx = part_s_size x φ in
        let sy = slot_b_size brs φ in
        let top : ℕ = lo + (size_p (part_s x φ) + size_k (slot_b brs φ) + 0) in
        let m : lo + (size_p (part_s x φ) + size_k (slot_b brs φ) + 0) ≡ lo + (size_s x + size_b brs) = omega arith in
        let l : lo + size_p (part_s x φ) ≡ lo + size_s x = omega arith in
        signal_group q top (sym i.kind_is)
        (less (part_s x φ) lo _ _ i.a_is (omega arith)) (some_branch brs (lo + size_p (part_s x φ)) _ _ r.0 i.b_is (omega arith))
        ∙ (λ j. group (m j) (κ (m j))
        ((ap (signal_at q) (sym i.a_is) ∙ signal_read x lo h.0 r.1 g.0 (omega arith)) j)
        ((branch_first brs (lo + size_p (part_s x φ)) top r.0 (omega arith) i.b_is
        (branches_read brs (lo + size_p (part_s x φ)) h.1 r.2 g.1 top (omega arith) (omega arith)) ∙ ap (placed_b brs κ φ) l) j))
    signal_read (until n x cs) lo h r g w =
        let i = h.3 in
        let sx = part_s_size x φ in
        let sy = slot_c_size cs φ in
        let top : ℕ = lo + (size_p (part_s x φ) + size_k (slot_c cs φ) + 0) in
        let m : lo + (size_p (part_s x φ) + size_k (slot_c cs φ) + 0) ≡ lo + (size_s x + size_c cs) = omega arith in
        let l : lo + size_p (part_s x φ) ≡ lo + size_s x = omega arith in
        signal_until q top (sym i.kind_is)
        (less (part_s x φ) lo _ _ i.a_is (omega arith)) (some_case cs (lo + size_p (part_s x φ)) _ _ r.0 i.b_is (omega arith))
        ∙ (λ j. until (m j)
        ((ap (signal_at q) (sym i.a_is) ∙ signal_read x lo h.0 r.1 g.0 (omega arith)) j)
        ((case_first cs (lo + size_p (part_s x φ)) top r.0 (omega arith) i.b_is
        (cases_read cs (lo + size_p (part_s x φ)) h.1 r.2 g.1 top (omega arith) (omega arith)) ∙ ap (placed_c cs κ φ) l) j))

    pub branches_read : (brs : Branches) (lo : ℕ) → HoldsK (slot_b brs φ) q lo → RightB brs φ → KnowsB brs τ
        → (n : ℕ) → lo + size_k (slot_b brs φ) ≤ n → n ≤ 65535
        → below n no_branch (branches_at q) (field_k lo (slot_b brs φ)) ≡ placed_b brs κ φ lo
    branches_read no_branch lo h r g n w u = below_ge n no_branch (branches_at q) 65535 u
    branches_read (branch n₀ t x brs) lo h r g n w u =
        let i = h.3 in
        let sx = part_s_size x φ in
        let sy = slot_b_size brs φ in
        let top : ℕ = lo + (size_p (part_s x φ) + size_k (slot_b brs φ) + 0) in
        let m : lo + (size_p (part_s x φ) + size_k (slot_b brs φ) + 0) ≡ lo + (size_s x + size_b brs) = omega arith in
        let l : lo + size_p (part_s x φ) ≡ lo + size_s x = omega arith in
        below_lt n no_branch (branches_at q) top (omega arith)
        ∙ branch_law top (last_p lo (part_s x φ)) (field_k (lo + size_p (part_s x φ)) (slot_b brs φ)) (sym i.a_is) (sym i.b_is) (less (part_s x φ) lo _ _ refl (omega arith))
        ∙ (λ j. branch (m j) (sym i.type_is j)
        (signal_read x lo h.0 r.1 g.0 (omega arith) j)
        ((branches_read brs (lo + size_p (part_s x φ)) h.1 r.2 g.1 top (omega arith) (omega arith) ∙ ap (placed_b brs κ φ) l) j))

    pub cases_read : (cs : Cases) (lo : ℕ) → HoldsK (slot_c cs φ) q lo → RightC cs φ → KnowsC cs τ
        → (n : ℕ) → lo + size_k (slot_c cs φ) ≤ n → n ≤ 65535
        → below n no_case (cases_at q) (field_k lo (slot_c cs φ)) ≡ placed_c cs κ φ lo
    cases_read no_case lo h r g n w u = below_ge n no_case (cases_at q) 65535 u
    cases_read (case n₀ x target t cs) lo h r g n w u =
        let i = h.3 in
        let sx = part_s_size x φ in
        let sy = slot_c_size cs φ in
        let c = sym i.c_is in
        let top : ℕ = lo + (size_p (part_s x φ) + size_k (slot_c cs φ) + 0) in
        let m : lo + (size_p (part_s x φ) + size_k (slot_c cs φ) + 0) ≡ lo + (size_s x + size_c cs) = omega arith in
        let l : lo + size_p (part_s x φ) ≡ lo + size_s x = omega arith in
        below_lt n no_case (cases_at q) top (omega arith)
        ∙ case_law top (last_p lo (part_s x φ)) (field_k (lo + size_p (part_s x φ)) (slot_c cs φ)) (sym i.a_is) (sym i.b_is) (less (part_s x φ) lo _ _ refl (omega arith))
        ∙ (λ j. case (m j) (signal_read x lo h.0 r.1 g.1 (omega arith) j) (c j) ((ap (type_at q) c ∙ g.0) j)
        ((cases_read cs (lo + size_p (part_s x φ)) h.1 r.2 g.2 top (omega arith) (omega arith) ∙ ap (placed_c cs κ φ) l) j))
