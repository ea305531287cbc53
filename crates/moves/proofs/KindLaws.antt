-- An update of each kind, by what its parts did.
-- Assumes nothing.
use Rattle.std.specs.Prelude.{if◌then◌else◌, Option, Some, None}
use mathlib.Core.Path.{◌≡◌, refl, sym, ap, ◌∙◌}
use mathlib.Core.Bool.{Bool, true, false}
use Prim.Native.Nat.{ℕ, ◌≤◌}
use native.Mathlib.Omega.{arith}
use lib.Dec.{eqb}
use Rattle.rules.proofs.Static.{and_both}
use borrow.Author.Tests.{leb-true, eqb-true, eqb-false, eq-eqb, ne_eqb}
use Rattle.rules.specs.Bytes.{Bytes, ◌or◌}
use Rattle.rules.specs.Layout.{kind_at, b_at, cells_before, cell, held, hold, is_clear, branch_in}
use Rattle.rules.specs.Values.{unpacked, middle_in}
use Rattle.rules.specs.Kinds.{is_signal}
use Rattle.rules.specs.Node.{IsNode}
use Rattle.rules.specs.Shaped.{NodeOf}
use Rattle.rules.specs.Tree.{Signal, signal_at, branches_at}
use Rattle.rules.specs.Scope.{has_branch}
use Rattle.rules.specs.Work.{nothing, one_rule, ◌plus◌, Updated, Next, Halted, moved, stays, leave, afterᵘ, ruleᵘ}
use Rattle.rules.specs.Evaluate.{Env, bind, opened, eval_s}
use Rattle.current.specs.Current.{leaves}
use Rattle.recalled.specs.Recall.{Memory, Recalled, fill_s, leaving, on_outcome, withᵐ, thenᵐ, eventᵐ, on_eventᵐ, recall_s, recall_b}
use Rattle.rules.specs.declared.Node.{Node}
use Rattle.rules.specs.declared.Tally.{Tally}
use Rattle.rules.specs.declared.Value.{Value}
use Rattle.rules.specs.Opened.{Opened, Here, Gone, Amiss}
use Rattle.rules.specs.Moved.{Moved}
use Rattle.rules.specs.Evaluated.{Evaluated, Done, Stuck}
use Rattle.rules.proofs.Nodes.{signal_input, signal_time}
use Rattle.rules.proofs.Signals.{less, ext_tree, delay_tree, let_tree, switch_tree, group_tree, group_kids}
use Rattle.outcomes.specs.Combine.{parts, parts_by, parts_of}
use Rattle.outcomes.proofs.Outcomes.{parts_here, parts_same, parts_apart}
use Rattle.noted.proofs.FillLaws.{few_fills}
use Rattle.moves.specs.Outcomes.{count_in, tally_in, moved_in, calm_of}
use Rattle.moves.specs.Parts.{in_switch, switched, in_group}
use Rattle.moves.proofs.OutcomeLaws.{then_still, then_broken}
use Rattle.moves.proofs.BranchLaws.{branch_goes, missing_goes}

-- An evaluation, then an update with its value, then what goes on from there: where the first is stuck, where the second does not stay, and
-- where both go on.
module _ {r E : Evaluated} (q : r ≡ E) (mem : Memory) where
  pub first_stuck : (f : Value → Recalled) → r ≡ Stuck → leaving Halted mem ≡ on_outcome ruleᵘ (withᵐ E mem f)
  unfolding withᵐ on_outcome ruleᵘ afterᵘ
  first_stuck f d = rw (← q, d)

  module _ {v : Value} {u : Tally} (d : r ≡ Done v u) (X : Value → Recalled) (f : Value → Bytes → Memory → Recalled) (m : Moved) (st : Bytes)
      {mem₁ : Memory} (x : leaving (moved m st) mem₁ ≡ X v) where
    pub second_broken : calm_of m ≡ None → leaving Halted mem₁ ≡ on_outcome ruleᵘ (withᵐ E mem λ a. thenᵐ (X a) (f a))
    unfolding withᵐ on_outcome ruleᵘ afterᵘ
    second_broken c = rw (← q, d, ← x, then_broken m st mem₁ (f v) c)

    pub both_go : {w : Tally} → calm_of m ≡ Some w
        → on_outcome ruleᵘ (on_outcome (afterᵘ u) (on_outcome (afterᵘ w) (f v st mem₁))) ≡ on_outcome ruleᵘ (withᵐ E mem λ a. thenᵐ (X a) (f a))
    unfolding withᵐ
    both_go c = rw (← q, d, ← x, then_still m st mem₁ (f v) c)

-- A switch's event: no maybe, present, or absent.
module _ (mem : Memory) (X : Recalled) (C : Bytes → Value → Updated) (Q : Bytes → Memory → Recalled) where
  on : Opened → Recalled
  on o = eventᵐ o mem (thenᵐ X λ st m. on_eventᵐ o m (λ v. C st v) (Q st m))

  wrong_by : (o : Opened) (u : Tally) → parts_by o u ≡ None → on_outcome (afterᵘ u) (on o) ≡ leaving Halted mem
  unfolding parts_by on eventᵐ on_outcome afterᵘ
  wrong_by (Here v) u e = cc
  wrong_by Gone u e = cc
  wrong_by Amiss u e = refl

  event_wrong : (r : Evaluated) → parts_of r ≡ None → withᵐ r mem (λ a. on (opened a)) ≡ leaving Halted mem
  unfolding parts_of withᵐ
  event_wrong (Done v u) e = wrong_by (opened v) u e
  event_wrong Stuck e = refl

  event_here : (r : Evaluated) {v : ℕ} {u : Tally} → parts_of r ≡ parts (Some v) u
      → withᵐ r mem (λ a. on (opened a)) ≡ on_outcome (afterᵘ u) (thenᵐ X λ st m. leaving (C st (unpacked v)) m)
  unfolding parts_of withᵐ on eventᵐ on_eventᵐ
  event_here (Done a u₀) e = let k = parts_here a u₀ e in rw (k.0, k.1)
  event_here Stuck e = cc

  gone_by : (o : Opened) (u₀ : Tally) {u : Tally} → parts_by o u₀ ≡ parts None u → on_outcome (afterᵘ u₀) (on o) ≡ on_outcome (afterᵘ u) (thenᵐ X λ st m. Q st m)
  unfolding parts_by on eventᵐ on_eventᵐ
  gone_by (Here v) u₀ e = absurd (parts_apart e)
  gone_by Gone u₀ {u} e = let b : u₀ ≡ u = (parts_same e).1 in λ i. on_outcome (afterᵘ (b i)) (thenᵐ X λ st m. Q st m)
  gone_by Amiss u₀ e = cc

  event_gone : (r : Evaluated) {u : Tally} → parts_of r ≡ parts None u → withᵐ r mem (λ a. on (opened a)) ≡ on_outcome (afterᵘ u) (thenᵐ X λ st m. Q st m)
  unfolding parts_of withᵐ
  event_gone (Done v u) e = gone_by (opened v) u e
  event_gone Stuck e = cc

  -- Where the event's update does not stay, nothing goes on.
  module _ (m : Moved) (st : Bytes) {mem₁ : Memory} (x : leaving (moved m st) mem₁ ≡ X) (c : calm_of m ≡ None) where
    breaks : (u : Tally) (f : Bytes → Memory → Recalled) → on_outcome (afterᵘ u) (thenᵐ X f) ≡ leaving Halted mem₁
    unfolding on_outcome afterᵘ
    breaks u f = ap (λ (y : Recalled). on_outcome (afterᵘ u) (thenᵐ y f)) (sym x) ∙ ap (on_outcome (afterᵘ u)) (then_broken m st mem₁ f c)

    broken_by : (o : Opened) (u₀ : Tally) {e : Option ℕ} {u : Tally} → parts_by o u₀ ≡ parts e u → on_outcome (afterᵘ u₀) (on o) ≡ leaving Halted mem₁
    unfolding parts_by on eventᵐ
    broken_by (Here v) u₀ e = breaks u₀ _
    broken_by Gone u₀ e = breaks u₀ _
    broken_by Amiss u₀ e = cc

    event_broken : (r : Evaluated) {e : Option ℕ} {u : Tally} → parts_of r ≡ parts e u → withᵐ r mem (λ a. on (opened a)) ≡ leaving Halted mem₁
    unfolding parts_of withᵐ
    event_broken (Done v u) e = broken_by (opened v) u e
    event_broken Stuck e = cc

-- By the content m of a cell: zeros, or not.
module _ {A : Type 0} (st : Bytes) {k k' m : ℕ} (c : m ≡ cell st k') (q : k' ≡ k) {x : A} (a b : A) where
  pub pick_clear : m ≡ 0 → x ≡ a → x ≡ (if is_clear st k then a else b)
  unfolding is_clear
  pick_clear z e = rw (← q, ← c, eq-eqb m 0 z) e

  pub pick_held : (m ≡ 0 → ⊥) → x ≡ b → x ≡ (if is_clear st k then a else b)
  unfolding is_clear
  pick_held z e = rw (← q, ← c, ne_eqb m 0 z) e

pub held_is : (st : Bytes) {k k' m : ℕ} → m ≡ cell st k' → k' ≡ k → unpacked m ≡ held st k
unfolding held
held_is st c q = rw (← q, ← c)

pub branch_is : (st : Bytes) {k k' m : ℕ} → m ≡ cell st k' → k' ≡ k → middle_in m ≡ branch_in st k
unfolding branch_in
branch_is st c q = rw (← q, ← c)

one_rule_lem : (st : Bytes) → Next st (record { work = 1; wrapped = false }) ≡ ruleᵘ (leave st)
unfolding ruleᵘ afterᵘ one_rule ◌plus◌ ◌or◌ leave nothing
one_rule_lem st = refl

module _ (p : Bytes) (i : ℕ) (w : NodeOf is_signal p i) {n : Node} (f : IsNode p i n) (rec : Bytes) (env : Env) (st : Bytes) (mem : Memory) where
  abbrev fill_of : ℕ → Memory
  fill_of x = fill_s rec st env (signal_at p x) mem

  delay_law : kind_at p i ≡ 4
      → recall_s rec env (signal_at p i) st mem
      ≡ on_outcome ruleᵘ (withᵐ (eval_s rec st env (signal_at p n.a)) (fill_of n.a) λ v.
      thenᵐ (recall_s rec env (signal_at p n.a) st (fill_of n.a)) λ st₁ m. leaving (leave (hold st₁ (cells_before p i) v)) m)
  unfolding recall_s
  delay_law e = rw f.a_is (ap (λ (s : Signal). recall_s rec env s st mem) (delay_tree p i w e))

  let_law : kind_at p i ≡ 5
      → recall_s rec env (signal_at p i) st mem
      ≡ on_outcome ruleᵘ (withᵐ (mem i) mem λ v.
      thenᵐ (recall_s rec (bind env i v) (signal_at p n.a) st mem) λ st₁ m. recall_s rec (bind env i v) (signal_at p n.b) st₁ m)
  unfolding recall_s
  let_law e = rw (f.a_is, f.b_is) (ap (λ (s : Signal). recall_s rec env s st mem) (let_tree p i w e))

  group_law : kind_at p i ≡ 7 → recall_s rec env (signal_at p i) st mem ≡ on_outcome ruleᵘ (in_group p i rec env st mem)
  unfolding recall_s
  group_law e = ap (λ (s : Signal). recall_s rec env s st mem) (group_tree p i w e)

  C : Bytes → Value → Updated
  C s v = leave (switched p i s v)

  Q : Bytes → Memory → Recalled
  Q s m = on_outcome stays (in_switch p i rec env s m)

  switch_law : kind_at p i ≡ 6
      → recall_s rec env (signal_at p i) st mem
      ≡ on_outcome ruleᵘ (withᵐ (eval_s rec st env (signal_at p n.b)) (fill_of n.b) λ a.
      on (fill_of n.b) (recall_s rec env (signal_at p n.b) st (fill_of n.b)) C Q (opened a))
  unfolding recall_s on C Q
  switch_law e = rw f.b_is (ap (λ (s : Signal). recall_s rec env s st mem) (switch_tree p i w e))

  -- Delay.
  module _ (k : kind_at p i ≡ 4) {r : Evaluated} (q : r ≡ eval_s rec st env (signal_at p n.a)) {mem₁ : Memory} (g : mem₁ ≡ fill_of n.a) where
    pub delay_stuck : r ≡ Stuck → leaving Halted mem₁ ≡ recall_s rec env (signal_at p i) st mem
    delay_stuck d = ap (leaving Halted) g ∙ first_stuck q _ _ d ∙ sym (delay_law k)

    module _ {v : Value} {u : Tally} (d : r ≡ Done v u) {env₁ : Env} (h : env₁ ≡ env) (m : Moved) (st₁ : Bytes) {mem₂ : Memory}
        (x : leaving (moved m st₁) mem₂ ≡ recall_s rec env₁ (signal_at p n.a) st mem₁) where
      delayed : leaving (moved m st₁) mem₂ ≡ recall_s rec env (signal_at p n.a) st (fill_of n.a)
      delayed = x ∙ λ j. recall_s rec (h j) (signal_at p n.a) st (g j)

      pub delay_broken : calm_of m ≡ None → leaving Halted mem₂ ≡ recall_s rec env (signal_at p i) st mem
      delay_broken c =
          second_broken q (fill_of n.a) d (λ a. recall_s rec env (signal_at p n.a) st (fill_of n.a))
          (λ a s y. leaving (leave (hold s (cells_before p i) a)) y) m st₁ delayed c
          ∙ sym (delay_law k)

      pub delay_done : {w : Tally} → calm_of m ≡ Some w → {c : ℕ} {st₂ : Bytes} → st₂ ≡ hold st₁ c v → c ≡ cells_before p i
          → {t : Updated} → t ≡ ruleᵘ (afterᵘ u (afterᵘ w (leave st₂))) → leaving t mem₂ ≡ recall_s rec env (signal_at p i) st mem
      unfolding on_outcome
      delay_done {w} c s e z =
          ap (λ (o : Updated). leaving o mem₂) (z ∙ ap (λ (b : Bytes). ruleᵘ (afterᵘ u (afterᵘ w (leave b)))) (s ∙ ap (λ (y : ℕ). hold st₁ y v) e))
          ∙ both_go q (fill_of n.a) d (λ a. recall_s rec env (signal_at p n.a) st (fill_of n.a))
          (λ a b y. leaving (leave (hold b (cells_before p i) a)) y) m st₁ delayed c
          ∙ sym (delay_law k)

  -- Let: its definition's outcome is the one in the memory.
  module _ (k : kind_at p i ≡ 5) where
    pub let_stuck : mem i ≡ Stuck → leaving Halted mem ≡ recall_s rec env (signal_at p i) st mem
    let_stuck d = first_stuck refl mem _ d ∙ sym (let_law k)

    module _ {v : Value} {u : Tally} (d : mem i ≡ Done v u) (m : Moved) (st₁ : Bytes) {mem₁ : Memory}
        (x : leaving (moved m st₁) mem₁ ≡ recall_s rec (bind env i v) (signal_at p n.a) st mem) where
      pub let_broken : calm_of m ≡ None → leaving Halted mem₁ ≡ recall_s rec env (signal_at p i) st mem
      let_broken c =
          second_broken refl mem d (λ a. recall_s rec (bind env i a) (signal_at p n.a) st mem)
          (λ a s y. recall_s rec (bind env i a) (signal_at p n.b) s y) m st₁ x c
          ∙ sym (let_law k)

      pub let_done : {w : Tally} → calm_of m ≡ Some w → {env₁ : Env} → env₁ ≡ env → {y : Updated} {mem₂ : Memory}
          → leaving y mem₂ ≡ recall_s rec (bind env₁ i v) (signal_at p n.b) st₁ mem₁
          → {t : Updated} → t ≡ ruleᵘ (afterᵘ u (afterᵘ w y)) → leaving t mem₂ ≡ recall_s rec env (signal_at p i) st mem
      unfolding on_outcome
      let_done {w} c g {mem₂ = mem₂} e z =
          ap (λ (o : Updated). leaving o mem₂) z
          ∙ ap (λ (o : Recalled). on_outcome ruleᵘ (on_outcome (afterᵘ u) (on_outcome (afterᵘ w) o)))
          (e ∙ ap (λ (y : Env). recall_s rec (bind y i v) (signal_at p n.b) st₁ mem₁) g)
          ∙ both_go refl mem d (λ a. recall_s rec (bind env i a) (signal_at p n.a) st mem)
          (λ a s y. recall_s rec (bind env i a) (signal_at p n.b) s y) m st₁ x c
          ∙ sym (let_law k)

  -- Switch.
  module _ (k : kind_at p i ≡ 6) {r : Evaluated} (q : r ≡ eval_s rec st env (signal_at p n.b)) {mem₁ : Memory} (g : mem₁ ≡ fill_of n.b) where
    E : Recalled
    E = recall_s rec env (signal_at p n.b) st mem₁

    by_event : recall_s rec env (signal_at p i) st mem ≡ on_outcome ruleᵘ (withᵐ r mem₁ λ a. on mem₁ E C Q (opened a))
    unfolding E
    by_event =
        switch_law k
        ∙ λ j. on_outcome ruleᵘ (withᵐ (sym q j) (sym g j) λ a. on (sym g j) (recall_s rec env (signal_at p n.b) st (sym g j)) C Q (opened a))

    pub switch_wrong : parts_of r ≡ None → leaving Halted mem₁ ≡ recall_s rec env (signal_at p i) st mem
    unfolding on_outcome ruleᵘ afterᵘ
    switch_wrong d = sym (by_event ∙ ap (on_outcome ruleᵘ) (event_wrong mem₁ E C Q r d))

    module _ {env₁ : Env} (h : env₁ ≡ env) (m : Moved) (st₁ : Bytes) {mem₂ : Memory}
        (x : leaving (moved m st₁) mem₂ ≡ recall_s rec env₁ (signal_at p n.b) st mem₁) where
      event_is : leaving (moved m st₁) mem₂ ≡ E
      unfolding E
      event_is = x ∙ ap (λ (y : Env). recall_s rec y (signal_at p n.b) st mem₁) h

      pub switch_broken : {e : Option ℕ} {u : Tally} → parts_of r ≡ parts e u → calm_of m ≡ None → leaving Halted mem₂ ≡ recall_s rec env (signal_at p i) st mem
      unfolding on_outcome ruleᵘ afterᵘ
      switch_broken d c = sym (by_event ∙ ap (on_outcome ruleᵘ) (event_broken mem₁ E C Q m st₁ event_is c r d))

      after_event : {w : Tally} → calm_of m ≡ Some w → (f : Bytes → Memory → Recalled) → thenᵐ E f ≡ on_outcome (afterᵘ w) (f st₁ mem₂)
      after_event c f = ap (λ (y : Recalled). thenᵐ y f) (sym event_is) ∙ then_still m st₁ mem₂ f c

      pub switch_caught : {v : ℕ} {u : Tally} → parts_of r ≡ parts (Some v) u → {w : Tally} → calm_of m ≡ Some w → {st₂ : Bytes} → st₂ ≡ switched p i st₁ (unpacked v)
          → {t : Updated} → t ≡ ruleᵘ (afterᵘ u (afterᵘ w (leave st₂))) → leaving t mem₂ ≡ recall_s rec env (signal_at p i) st mem
      unfolding C on_outcome
      switch_caught {v} {u} d {w} c s z =
          ap (λ (o : Updated). leaving o mem₂) (z ∙ ap (λ (b : Bytes). ruleᵘ (afterᵘ u (afterᵘ w (leave b)))) s)
          ∙ sym (by_event ∙ ap (on_outcome ruleᵘ) (event_here mem₁ E C Q r d ∙ ap (on_outcome (afterᵘ u)) (after_event c λ b y. leaving (C b (unpacked v)) y)))

      pub switch_quiet : {u : Tally} → parts_of r ≡ parts None u → {w : Tally} → calm_of m ≡ Some w → {env₂ : Env} → env₂ ≡ env
          → {o : Updated} {mem₃ : Memory} → leaving o mem₃ ≡ in_switch p i rec env₂ st₁ mem₂ → {y : Updated} → y ≡ stays o
          → {t : Updated} → t ≡ ruleᵘ (afterᵘ u (afterᵘ w y)) → leaving t mem₃ ≡ recall_s rec env (signal_at p i) st mem
      unfolding Q on_outcome
      switch_quiet {u} d {w} c g {mem₃ = mem₃} e y z =
          ap (λ (o : Updated). leaving o mem₃) (z ∙ ap (λ (b : Updated). ruleᵘ (afterᵘ u (afterᵘ w b))) y)
          ∙ ap (λ (o : Recalled). on_outcome ruleᵘ (on_outcome (afterᵘ u) (on_outcome (afterᵘ w) (on_outcome stays o)))) (e ∙ ap (λ (a : Env). in_switch p i rec a st₁ mem₂) g)
          ∙ sym (by_event ∙ ap (on_outcome ruleᵘ) (event_gone mem₁ E C Q r d ∙ ap (on_outcome (afterᵘ u)) (after_event c λ b y. Q b y)))

  -- The part of a switch or a group by the content of its cell.
  module _ {c m : ℕ} (a : m ≡ cell st c) (b : c ≡ cells_before p i) where
    pub switch_first : m ≡ 0 → {o : Recalled} → o ≡ recall_s rec env (signal_at p n.a) st mem → o ≡ in_switch p i rec env st mem
    switch_first z e = pick_clear st a b _ _ z (e ∙ ap (λ (x : ℕ). recall_s rec env (signal_at p x) st mem) f.a_is)

    pub switch_second : (m ≡ 0 → ⊥) → {v : Value} → v ≡ unpacked m → {o : Recalled} → o ≡ recall_s rec (bind env i v) (signal_at p n.c) st mem
        → o ≡ in_switch p i rec env st mem
    switch_second z g e =
        pick_held st a b _ _ z (e ∙ λ j. recall_s rec (bind env i ((g ∙ held_is st a b) j)) (signal_at p (f.c_is j)) st mem)

    -- Group: of its part's outcome a jump to one of its branches is caught.
    module _ (k : kind_at p i ≡ 7) where
      pub group_first : m ≡ 0 → {o : Updated} {mem₁ : Memory} → leaving o mem₁ ≡ recall_s rec env (signal_at p n.a) st mem
          → {t : Updated} → t ≡ ruleᵘ (leaves (cells_before p i) (signal_at p n.a) (branches_at p (b_at p i)) o)
          → leaving t mem₁ ≡ recall_s rec env (signal_at p i) st mem
      unfolding on_outcome
      group_first z {mem₁ = mem₁} e y =
          ap (λ (x : Updated). leaving x mem₁) y
          ∙ ap (on_outcome ruleᵘ) (pick_clear st a b _ _ z
          (λ j. on_outcome (leaves (cells_before p i) (signal_at p (f.a_is j)) (branches_at p (b_at p i))) ((e ∙ ap (λ (x : ℕ). recall_s rec env (signal_at p x) st mem) f.a_is) j)))
          ∙ sym (group_law k)

      module _ (z : m ≡ 0 → ⊥) {which : ℕ} {t : Bool} (g : which ≡ middle_in m) (e : t ≡ has_branch which (branches_at p n.b)) where
        in_list : (s : Bool) → t ≡ s → has_branch which (branches_at p (b_at p i)) ≡ s
        in_list s y = ap (λ (l : ℕ). has_branch which (branches_at p l)) (sym f.b_is) ∙ sym e ∙ y

        whole : (v : Value) → v ≡ unpacked m
            → on_outcome ruleᵘ (recall_b rec env (cells_before p i) which v (branches_at p (b_at p i)) (branches_at p (b_at p i)) st mem) ≡ recall_s rec env (signal_at p i) st mem
        whole v y =
            ap (on_outcome ruleᵘ) (pick_held st a b _ _ z
            (λ j. recall_b rec env (cells_before p i) ((g ∙ branch_is st a b) j) ((y ∙ held_is st a b) j) (branches_at p (b_at p i)) (branches_at p (b_at p i)) st mem))
            ∙ sym (group_law k)

        pub group_branch : t ≡ true → {v : Value} → v ≡ unpacked m → {x : Node} → IsNode p which x
            → {o : Updated} {mem₁ : Memory} → leaving o mem₁ ≡ recall_s rec (bind env which v) (signal_at p x.a) st mem
            → {u : Updated} → u ≡ ruleᵘ (leaves (cells_before p i) (signal_at p x.a) (branches_at p (b_at p i)) o)
            → leaving u mem₁ ≡ recall_s rec env (signal_at p i) st mem
        unfolding on_outcome
        group_branch y {v} l {x} nx {mem₁ = mem₁} q r =
            ap (λ (o : Updated). leaving o mem₁) r
            ∙ ap (λ (o : Recalled). on_outcome ruleᵘ (on_outcome (leaves (cells_before p i) (signal_at p x.a) (branches_at p (b_at p i))) o)) q
            ∙ ap (λ (s : ℕ). on_outcome ruleᵘ (on_outcome (leaves (cells_before p i) (signal_at p s) (branches_at p (b_at p i))) (recall_s rec (bind env which v) (signal_at p s) st mem)))
            nx.a_is
            ∙ ap (on_outcome ruleᵘ) (sym (branch_goes rec env (cells_before p i) v (branches_at p (b_at p i)) st mem p (b_at p i) which (group_kids p i w k).1.node (in_list true y)))
            ∙ whole v l

        pub group_missing : t ≡ false → leaving Halted mem ≡ recall_s rec env (signal_at p i) st mem
        unfolding on_outcome ruleᵘ afterᵘ
        group_missing y =
            ap (on_outcome ruleᵘ) (sym (missing_goes rec env (cells_before p i) which (unpacked m) (branches_at p (b_at p i)) (branches_at p (b_at p i)) st mem (in_list false y)))
            ∙ whole (unpacked m) refl

-- Input, time and ext are all that is left.
module _ (p : Bytes) (i : ℕ) (w : NodeOf is_signal p i) (rec : Bytes) (env : Env) (st : Bytes) (mem : Memory) where
  three : (b c : Bool) → eqb (kind_at p i) 1 ≡ b → eqb (kind_at p i) 3 ≡ c → 1 ≤ kind_at p i → kind_at p i ≤ 3
      → leaving (ruleᵘ (leave st)) mem ≡ recall_s rec env (signal_at p i) st mem
  unfolding recall_s
  three true c x y l u = sym (ap (λ (s : Signal). recall_s rec env s st mem) (signal_input p i (eqb-true _ _ x)))
  three false true x y l u = sym (ap (λ (s : Signal). recall_s rec env s st mem) (ext_tree p i w (eqb-true _ _ y)))
  three false false x y l u = sym (ap (λ (s : Signal). recall_s rec env s st mem) (signal_time p i (two (kind_at p i) (eqb-false _ _ x) (eqb-false _ _ y) l u)))
    where
      two : (m : ℕ) → (m ≡ 1 → ⊥) → (m ≡ 3 → ⊥) → 1 ≤ m → m ≤ 3 → m ≡ 2
      two m x y l u = omega (arith, x, y)

  -- their evaluation notes nothing
  pub low_fills : kind_at p i ≤ 3 → mem ≡ fill_s rec st env (signal_at p i) mem
  low_fills u = sym (few_fills p i w rec st env (omega arith) mem)

  -- a kind up to 3, and one up to 5 that is neither a let nor a delay
  pub low_updates : {m : ℕ} → m ≡ kind_at p i → m ≤ 3 → leaving (moved (moved_in 1) st) mem ≡ recall_s rec env (signal_at p i) st mem
  unfolding is_signal moved moved_in tally_in count_in
  low_updates e u =
      let l = leb-true 1 (kind_at p i) (and_both _ _ w.sorted).0 in
      ap (λ (o : Updated). leaving o mem) (one_rule_lem st) ∙ three (eqb (kind_at p i) 1) (eqb (kind_at p i) 3) refl refl l (omega (arith, e))

  pub leaf_updates : {m : ℕ} → m ≡ kind_at p i → m ≤ 5 → (m ≡ 5 → ⊥) → (m ≡ 4 → ⊥) → leaving (moved (moved_in 1) st) mem ≡ recall_s rec env (signal_at p i) st mem
  leaf_updates e u five four = low_updates e (less 3 (less 4 u five) four)
