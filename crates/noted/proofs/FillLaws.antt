-- What an evaluation notes, by the kind of a signal and the fields that were read.
-- Assumes nothing.
use Rattle.std.specs.Prelude.{if◌then◌else◌}
use mathlib.Core.Path.{◌≡◌, refl, sym, ap, ◌∙◌, subst}
use mathlib.Core.Bool.{Bool, true, false}
use mathlib.Core.List.{List}
use Prim.Native.Nat.{ℕ, zero, suc, ◌+◌, ◌≤◌, ◌<◌}
use native.Mathlib.Nat.{not-suc-le-zero}
use native.Mathlib.Decide.{ℕ_discrete}
use native.Mathlib.Omega.{arith}
use lib.Dec.{eqb}
use lib.ListN.{length, get_or, set, replicate, length-set, length-replicate}
use lib.Seq.{get_or-set_same, get_or-set_other}
use borrow.Author.Tests.{eq-eqb, ne_eqb, eqb-true, eqb-false}
use Rattle.rules.specs.Bytes.{Bytes}
use Rattle.rules.specs.Layout.{kind_at, a_at, b_at, c_at, cells_before, cell, held, is_clear, branch_in}
use Rattle.rules.specs.Values.{unpacked, middle_in}
use Rattle.rules.specs.Kinds.{is_signal, is_branch}
use Rattle.rules.specs.Tree.{Branches, no_branch, branch, signal_at, branches_at}
use Rattle.rules.specs.Bound.{bound_s}
use Rattle.rules.specs.Scope.{has_branch}
use Rattle.rules.specs.Evaluate.{Env, bind, eval_s}
use Rattle.rules.specs.Shaped.{NodeOf}
use Rattle.rules.specs.declared.Value.{Value}
use Rattle.rules.specs.declared.Tally.{Tally}
use Rattle.rules.specs.Evaluated.{Evaluated, Done, Stuck}
use Rattle.rules.proofs.Static.{not_both}
use Rattle.rules.proofs.ByKind.{SignalKind, is_input, is_time, is_ext, is_delay, is_let, is_switch, is_group, is_until, signal_kind}
use Rattle.rules.proofs.Kids.{or_none}
use Rattle.rules.proofs.Nodes.{signal_input, signal_time}
use Rattle.rules.proofs.Signals.{ext_tree, delay_tree, let_tree, switch_tree, group_kids, group_tree, until_tree, branch_next, branch_law, branch_on}
use Rattle.rules.proofs.Branches.{number_last, number_next}
use Rattle.rules.proofs.Within.{eval_s_within}
use Rattle.outcomes.specs.Combine.{work_of}
use Rattle.outcomes.specs.Outcome.{outcome_in, IsOutcome}
use Rattle.outcomes.proofs.Outcomes.{work_within}
use Rattle.outcomes.proofs.Counted.{gives_stuck}
use Rattle.recalled.proofs.RootRecall.{none_bound}
use Rattle.recalled.specs.Recall.{Memory, note, noted, fill_s, fill_b}
use Rattle.noted.specs.Noted.{memory_in, Noted, Notes}

-- A slot that is written.
memory_set : (l : List ℕ) (i x : ℕ) → i < length l → memory_in (set l i x) ≡ note (memory_in l) i (outcome_in x)
unfolding memory_in note
memory_set l i x h = λ z j. go j (ℕ_discrete i j) z
  where
    go : (j : ℕ) → Dec (i ≡ j) → outcome_in (get_or (set l i x) j 0) ≡ (if eqb i j then outcome_in x else outcome_in (get_or l j 0))
    go j (yes e) = rw (eq-eqb i j e) (ap (λ (k : ℕ). outcome_in (get_or (set l i x) k 0)) (sym e) ∙ ap outcome_in (get_or-set_same l i x 0 h))
    go j (no e) = rw (ne_eqb i j e) (ap outcome_in (get_or-set_other l i j x 0 (λ q. e (sym q))))

-- Nothing is noted; what a part notes; what comes after another.
pub notes_none : {p : Bytes} {l : List ℕ} {f : Memory → Memory} → Noted p l → ((m : Memory) → f m ≡ m) → Notes p l l f
notes_none {l = l} h e = record { filled = sym (e (memory_in l)); noted = h }

pub notes_part : {p : Bytes} {l l₁ : List ℕ} {f g : Memory → Memory} → Notes p l l₁ g → ((m : Memory) → f m ≡ g m) → Notes p l l₁ f
notes_part {l = l} h e = record { filled = h.filled ∙ sym (e (memory_in l)); noted = h.noted }

-- A fresh array holds no outcome.
pub noted_fresh : (p : Bytes) → Noted p (replicate 1008 0)
unfolding memory_in
noted_fresh p = record {
  room = length-replicate {A = ℕ} 1008 0;
  outcomes = λ j. subst IsOutcome (sym (none_bound 1008 j)) (gives_stuck {e = Stuck} refl).1;
  bounded = λ j n k. rw (none_bound 1008 j, (gives_stuck {e = Stuck} refl).0) (omega arith);
}

-- A let's definition is noted.
pub noted_set : {p : Bytes} {l : List ℕ} (i x : ℕ) (rec st : Bytes) (env : Env) → NodeOf is_signal p i → Noted p l → IsOutcome x
    → outcome_in x ≡ eval_s rec st env (signal_at p (a_at p i)) → i < 1008 → Noted p (set l i x)
unfolding memory_in
noted_set {p} {l} i x rec st env w h is e less = record {
  room = length-set l i x ∙ h.room;
  outcomes = λ j. own j (ℕ_discrete j i);
  bounded = λ j n k. most j n k (ℕ_discrete j i);
}
  where
    inside : i < length l
    inside = omega (arith, h.room)

    own : (j : ℕ) → Dec (j ≡ i) → IsOutcome (get_or (set l i x) j 0)
    own j (yes q) = subst IsOutcome (sym (ap (λ (k : ℕ). get_or (set l i x) k 0) q ∙ get_or-set_same l i x 0 inside)) is
    own j (no q) = subst IsOutcome (sym (get_or-set_other l i j x 0 q)) (h.outcomes j)

    most : (j : ℕ) → NodeOf is_signal p j → kind_at p j ≡ 5 → Dec (j ≡ i) → work_of (outcome_in (get_or (set l i x) j 0)) ≤ bound_s (signal_at p (a_at p j))
    most j n k (yes q) =
        let z : outcome_in (get_or (set l i x) j 0) ≡ eval_s rec st env (signal_at p (a_at p j)) =
        ap outcome_in (ap (λ (a : ℕ). get_or (set l i x) a 0) q ∙ get_or-set_same l i x 0 inside) ∙ e ∙ ap (λ (a : ℕ). eval_s rec st env (signal_at p (a_at p a))) (sym q) in
        rw z (work_within _ (eval_s_within rec st env (signal_at p (a_at p j))))
    most j n k (no q) = rw (get_or-set_other l i j x 0 q) (h.bounded j n k)

-- The branch that is found, and none.
found_fills : (f : ℕ) (p : Bytes) (n k : ℕ) → n < f → NodeOf is_branch p n → has_branch k (branches_at p n) ≡ true
    → (rec st : Bytes) (env : Env) (v : Value) (m : Memory) → fill_b rec st env k v (branches_at p n) m ≡ fill_s rec st (bind env k v) (signal_at p (a_at p k)) m
unfolding fill_b
found_fills zero p n k h w e rec st env v m = absurd (not-suc-le-zero h)
found_fills (suc f) p n k h w e rec st env v m =
    go (eqb n k) (eqb (b_at p n) 65535) refl refl λ d q. found_fills f p (b_at p n) k (omega (arith, (branch_next p n w d).less)) (branch_next p n w d).node q rec st env v m
  where
    go : (b d : Bool) → eqb n k ≡ b → eqb (b_at p n) 65535 ≡ d
        → ((b_at p n ≡ 65535 → ⊥) → has_branch k (branches_at p (b_at p n)) ≡ true
        → fill_b rec st env k v (branches_at p (b_at p n)) m ≡ fill_s rec st (bind env k v) (signal_at p (a_at p k)) m)
        → fill_b rec st env k v (branches_at p n) m ≡ fill_s rec st (bind env k v) (signal_at p (a_at p k)) m
    go true d q r more =
        let z = eqb-true n k q in
        ap (λ (brs : Branches). fill_b rec st env k v brs m) (branch_law p n w refl) ∙ rw (q, z)
    go false true q r more = absurd (not_both (sym (number_last p n w k (eqb-false n k q) (eqb-true _ _ r)) ∙ e))
    go false false q r more =
        let d = eqb-false n k q in
        let o = eqb-false _ _ r in
        ap (λ (brs : Branches). fill_b rec st env k v brs m) (branch_on p n w o) ∙ rw q (more o (sym (number_next p n w k d o) ∙ e))

missing_fills : (rec st : Bytes) (env : Env) (k : ℕ) (v : Value) (brs : Branches) (m : Memory) → has_branch k brs ≡ false → fill_b rec st env k v brs m ≡ m
unfolding fill_b has_branch
missing_fills rec st env k v no_branch m e = refl
missing_fills rec st env k v (branch n t body next) m e =
    let o = or_none _ _ e in
    simp o.0 (missing_fills rec st env k v next m o.1)

module _ (p : Bytes) (n : ℕ) (w : NodeOf is_signal p n) (rec st : Bytes) (env : Env) where
  abbrev fill : Memory → Memory
  fill m = fill_s rec st env (signal_at p n) m

  pub input_fills : kind_at p n ≡ 1 → (m : Memory) → fill m ≡ m
  unfolding fill_s
  input_fills e m = ap (λ s. fill_s rec st env s m) (signal_input p n e)

  pub time_fills : kind_at p n ≡ 2 → (m : Memory) → fill m ≡ m
  unfolding fill_s
  time_fills e m = ap (λ s. fill_s rec st env s m) (signal_time p n e)

  pub ext_fills : kind_at p n ≡ 3 → (m : Memory) → fill m ≡ m
  unfolding fill_s
  ext_fills e m = ap (λ s. fill_s rec st env s m) (ext_tree p n w e)

  pub delay_fills : kind_at p n ≡ 4 → (m : Memory) → fill m ≡ m
  unfolding fill_s
  delay_fills e m = ap (λ s. fill_s rec st env s m) (delay_tree p n w e)

  -- none of these four notes anything
  pub few_fills : kind_at p n ≤ 4 → (m : Memory) → fill m ≡ m
  few_fills few m = go (signal_kind (kind_at p n) w.sorted)
    where
      go : SignalKind (kind_at p n) → fill m ≡ m
      go (is_input e) = input_fills e m
      go (is_time e) = time_fills e m
      go (is_ext e) = ext_fills e m
      go (is_delay e) = delay_fills e m
      go (is_let e) = absurd (omega (arith, e))
      go (is_switch e) = absurd (omega (arith, e))
      go (is_group e) = absurd (omega (arith, e))
      go (is_until e) = absurd (omega (arith, e))

  pub until_fills : kind_at p n ≡ 8 → {a : ℕ} → a ≡ a_at p n → (m : Memory) → fill m ≡ fill_s rec st env (signal_at p a) m
  unfolding fill_s
  until_fills e ea m = ap (λ s. fill_s rec st env s m) (until_tree p n w e) ∙ rw (← ea)

  let_fill : kind_at p n ≡ 5 → (m : Memory)
      → fill m ≡ noted (eval_s rec st env (signal_at p (a_at p n))) (note (fill_s rec st env (signal_at p (a_at p n)) m) n (eval_s rec st env (signal_at p (a_at p n)))) λ v.
      fill_s rec st (bind env n v) (signal_at p (b_at p n)) (note (fill_s rec st env (signal_at p (a_at p n)) m) n (eval_s rec st env (signal_at p (a_at p n))))
  unfolding fill_s
  let_fill e m = ap (λ s. fill_s rec st env s m) (let_tree p n w e)

  -- A let: the slots after its definition, with the definition's outcome x, and after its body.
  pub let_notes : kind_at p n ≡ 5 → (x : ℕ) {a b : ℕ} {v : Value} {u : Tally} {env₁ : Env} {l l₁ l₂ : List ℕ} → a ≡ a_at p n → b ≡ b_at p n
      → outcome_in x ≡ eval_s rec st env (signal_at p a) → outcome_in x ≡ Done v u → env₁ ≡ env → n < 1008
      → Notes p l l₁ (λ m. fill_s rec st env (signal_at p a) m) → Notes p (set l₁ n x) l₂ (λ m. fill_s rec st (bind env₁ n v) (signal_at p b) m)
      → Notes p l l₂ fill
  unfolding noted
  let_notes e x {a} {b} {v} {u} {env₁} {l} {l₁} {l₂} ea eb er ev h less g k = record {
    filled = k.filled ∙ ap (λ m. fill_s rec st (bind env₁ n v) (signal_at p b) m) (memory_set l₁ n x (omega (arith, g.noted.room)) ∙ ap (λ m. note m n (outcome_in x)) g.filled)
        ∙ rw (h, eb) (sym (let_fill e (memory_in l) ∙ rw (← ea, ← er, ev)));
    noted = k.noted;
  }

  pub let_noted_stuck : kind_at p n ≡ 5 → (x : ℕ) {a : ℕ} {l l₁ : List ℕ} → a ≡ a_at p n → outcome_in x ≡ eval_s rec st env (signal_at p a) → outcome_in x ≡ Stuck
      → n < 1008 → IsOutcome x → Notes p l l₁ (λ m. fill_s rec st env (signal_at p a) m) → Notes p l (set l₁ n x) fill
  unfolding noted
  let_noted_stuck e x {a} {l} {l₁} ea er ev less is g = record {
    filled = memory_set l₁ n x (omega (arith, g.noted.room)) ∙ ap (λ m. note m n (outcome_in x)) g.filled
        ∙ sym (let_fill e (memory_in l) ∙ rw (← ea, ← er, ev));
    noted = noted_set n x rec st env w g.noted is (er ∙ rw ea) less;
  }

  module _ {k c : ℕ} (q : c ≡ cell st k) (at : k ≡ cells_before p n) where
    content_is : c ≡ cell st (cells_before p n)
    content_is = q ∙ ap (cell st) at

    pub switch_first_fills : kind_at p n ≡ 6 → c ≡ 0 → {a : ℕ} → a ≡ a_at p n → (m : Memory) → fill m ≡ fill_s rec st env (signal_at p a) m
    unfolding fill_s is_clear
    switch_first_fills e z ea m = ap (λ s. fill_s rec st env s m) (switch_tree p n w e) ∙ rw (← content_is, eq-eqb c 0 z, ← ea)

    pub switch_second_fills : kind_at p n ≡ 6 → (c ≡ 0 → ⊥) → {a : ℕ} {v : Value} → a ≡ c_at p n → v ≡ unpacked c → (m : Memory)
        → fill m ≡ fill_s rec st (bind env n v) (signal_at p a) m
    unfolding fill_s is_clear held
    switch_second_fills e z ea ev m = ap (λ s. fill_s rec st env s m) (switch_tree p n w e) ∙ rw (← content_is, ne_eqb c 0 z, ← ea, ev)

    pub group_body_fills : kind_at p n ≡ 7 → c ≡ 0 → {a : ℕ} → a ≡ a_at p n → (m : Memory) → fill m ≡ fill_s rec st env (signal_at p a) m
    unfolding fill_s is_clear
    group_body_fills e z ea m = ap (λ s. fill_s rec st env s m) (group_tree p n w e) ∙ rw (← content_is, eq-eqb c 0 z, ← ea)

    group_fill : kind_at p n ≡ 7 → (c ≡ 0 → ⊥) → (m : Memory) → fill m ≡ fill_b rec st env (middle_in c) (unpacked c) (branches_at p (b_at p n)) m
    unfolding fill_s is_clear held branch_in
    group_fill e z m = ap (λ s. fill_s rec st env s m) (group_tree p n w e) ∙ rw (← content_is, ne_eqb c 0 z)

    pub group_branch_fills : kind_at p n ≡ 7 → (c ≡ 0 → ⊥) → {b which a : ℕ} {t : Bool} {v : Value} → b ≡ b_at p n → which ≡ middle_in c
        → t ≡ has_branch which (branches_at p b) → t ≡ true → a ≡ a_at p which → v ≡ unpacked c → (m : Memory)
        → fill m ≡ fill_s rec st (bind env which v) (signal_at p a) m
    group_branch_fills e z {b} {which} eb ew h g ea ev m =
        let k₁ = (group_kids p n w e).1 in
        group_fill e z m
        ∙ rw (← ew, ea, ev) (found_fills (suc (b_at p n)) p (b_at p n) which (omega arith) k₁.node (rw eb at (sym h ∙ g)) rec st env (unpacked c) m)

    pub group_stuck_fills : kind_at p n ≡ 7 → (c ≡ 0 → ⊥) → {b which : ℕ} {t : Bool} → b ≡ b_at p n → which ≡ middle_in c
        → t ≡ has_branch which (branches_at p b) → t ≡ false → (m : Memory) → fill m ≡ m
    group_stuck_fills e z {b} {which} eb ew h g m =
        group_fill e z m ∙ rw (← ew) (missing_fills rec st env which (unpacked c) (branches_at p (b_at p n)) m (rw eb at (sym h ∙ g)))
