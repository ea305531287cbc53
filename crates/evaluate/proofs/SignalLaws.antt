-- A signal of each kind: its parts are ready, its cell is in the state, and what it evaluates to by its parts.
-- Assumes nothing.
use mathlib.Core.Path.{◌≡◌, sym, ap, ◌∙◌, subst}
use mathlib.Core.Bool.{Bool, true, false}
use mathlib.Core.List.{List}
use Prim.Native.Nat.{ℕ, ◌+◌, ◌≤◌, ◌<◌}
use native.Mathlib.Omega.{arith}
use lib.ListN.{length, get_or}
use borrow.Author.Tests.{eq-eqb, ne_eqb, leb-true}
use Rattle.rules.specs.Bytes.{Bytes, ◌or◌}
use Rattle.rules.specs.Layout.{kind_at, a_at, b_at, c_at, has_cell, cells_before, cell_at, state_length, cell, held, is_clear, branch_in, channel_value, time_in}
use Rattle.rules.specs.Values.{int_t, unpacked, middle_in}
use Rattle.rules.specs.Kinds.{is_signal, is_branch}
use Rattle.rules.specs.Tree.{expr_at, signal_at, branches_at}
use Rattle.rules.specs.Work.{nothing, one_rule, ◌plus◌, give, after, rule, ◌then◌}
use Rattle.rules.specs.Bound.{bound_s}
use Rattle.rules.specs.Scope.{has_branch}
use Rattle.rules.specs.Evaluate.{Env, bind, eval_e, eval_s, eval_b}
use Rattle.rules.specs.Shaped.{NodeOf}
use Rattle.rules.specs.declared.Value.{Value}
use Rattle.rules.specs.declared.Value.TheVariants.{Plain}
use Rattle.rules.specs.declared.Tally.{Tally}
use Rattle.rules.specs.Evaluated.{Evaluated, Done, Stuck}
use Rattle.rules.proofs.Static.{and_both}
use Rattle.rules.proofs.Nodes.{signal_input, signal_time}
use Rattle.rules.proofs.Signals.{ext_kid, ext_tree, delay_tree, let_kids, let_tree, switch_kids, switch_tree, group_kids, group_tree, until_kids, until_tree, until_left, branch_kid}
use Rattle.rules.proofs.Within.{eval_s_within}
use Rattle.rules.proofs.CellNumbers.{cell_below}
use Rattle.rules.proofs.Branches.{found, missing_evaluates}
use Rattle.cells.specs.Indexed.{Indexed}
use Rattle.outcomes.specs.Combine.{work_of}
use Rattle.outcomes.proofs.Outcomes.{work_within}
use Rattle.evaluate.proofs.ExprLaws.{PartE}

-- Node x is a signal below node n, and its tree's bound is small.
pub record PartS (p : Bytes) (n x : ℕ) : Type 0 where
  pub less : x < n
  pub node : NodeOf is_signal p x
  pub small : bound_s (signal_at p x) < 32767

-- The same part, by the field that was read.
pub read_s : {p : Bytes} {n x y : ℕ} → x ≡ y → PartS p n y → PartS p n x
read_s {p} {n} e k = subst (PartS p n) (sym e) k

-- What a part's evaluation counts is small.
pub part_work_s : {p : Bytes} {n x : ℕ} {r : Evaluated} (rec st : Bytes) (env : Env) → PartS p n x → r ≡ eval_s rec st env (signal_at p x)
    → work_of r < 32767
part_work_s {p} {n} {x} rec st env k e = rw e (omega (arith, work_within _ (eval_s_within rec st env (signal_at p x)), k.small))

-- The work of a signal itself.
pub own_work : (p : Bytes) (n : ℕ) {r : Evaluated} (rec st : Bytes) (env : Env) → bound_s (signal_at p n) < 32767 → r ≡ eval_s rec st env (signal_at p n)
    → work_of r < 32767
own_work p n rec st env h e = rw e (omega (arith, work_within _ (eval_s_within rec st env (signal_at p n))))

-- A cell's content counts one rule, whatever node it is of.
pub held_work : {r : Evaluated} (m : ℕ) → r ≡ rule (give (unpacked m)) → work_of r < 32767
unfolding rule give after ◌plus◌ one_rule nothing
held_work m e = rw e (omega arith)

-- What a definition and a body count together is small.
pub let_work : (p : Bytes) (x y : ℕ) {r s : Evaluated} (rec st : Bytes) (env₁ env₂ : Env) → bound_s (signal_at p x) + bound_s (signal_at p y) < 32767
    → r ≡ eval_s rec st env₁ (signal_at p x) → s ≡ eval_s rec st env₂ (signal_at p y) → work_of r + work_of s < 32767
let_work p x y rec st env₁ env₂ k e f =
    rw (e, f) (omega (arith, work_within _ (eval_s_within rec st env₁ (signal_at p x)), work_within _ (eval_s_within rec st env₂ (signal_at p y)), k))

-- The branch of a group that its cell names: the branch's node, and its body.
pub record PartB (p : Bytes) (n which : ℕ) : Type 0 where
  pub less : which < n
  pub node : NodeOf is_branch p which
  pub body : PartS p n (a_at p which)

module _ (p : Bytes) (n : ℕ) (w : NodeOf is_signal p n) (s : bound_s (signal_at p n) < 32767) where
  pub ext_part : kind_at p n ≡ 3 → PartE p n (a_at p n)
  unfolding bound_s
  ext_part e =
      let k = ext_kid p n w e in
      record { less = k.less; node = k.node; small = omega (arith, ap bound_s (ext_tree p n w e)) }

  pub let_parts : kind_at p n ≡ 5 → PartS p n (a_at p n) × PartS p n (b_at p n)
  unfolding bound_s
  let_parts e =
      let k = let_kids p n w e in
      let b = ap bound_s (let_tree p n w e) in (
        record { less = k.0.less; node = k.0.node; small = omega arith },
        record { less = k.1.less; node = k.1.node; small = omega arith },
      )

  pub let_pair : kind_at p n ≡ 5 → {a b : ℕ} → a ≡ a_at p n → b ≡ b_at p n → bound_s (signal_at p a) + bound_s (signal_at p b) < 32767
  unfolding bound_s
  let_pair e ea eb = rw (ea, eb) (omega (arith, ap bound_s (let_tree p n w e), s))

  pub switch_parts : kind_at p n ≡ 6 → PartS p n (a_at p n) × PartS p n (c_at p n)
  unfolding bound_s
  switch_parts e =
      let k = switch_kids p n w e in
      let b = ap bound_s (switch_tree p n w e) in (
        record { less = k.0.less; node = k.0.node; small = omega arith },
        record { less = k.2.less; node = k.2.node; small = omega arith },
      )

  pub group_part : kind_at p n ≡ 7 → PartS p n (a_at p n)
  unfolding bound_s
  group_part e =
      let k = group_kids p n w e in
      record { less = k.0.less; node = k.0.node; small = omega (arith, ap bound_s (group_tree p n w e)) }

  pub branch_part : kind_at p n ≡ 7 → {b which : ℕ} {t : Bool} → b ≡ b_at p n → t ≡ has_branch which (branches_at p b) → t ≡ true → PartB p n which
  unfolding bound_s
  branch_part e {b} {which} eb h g =
      let k = group_kids p n w e in
      let f = found p (b_at p n) which k.1.node (rw eb at (sym h ∙ g)) in
      let q = branch_kid p which f.node in
      record {
        less = omega (arith, f.most, k.1.less);
        node = f.node;
        body = record {
          less = omega (arith, f.most, k.1.less, q.less);
          node = q.node;
          small = omega (arith, f.evaluation, ap bound_s (group_tree p n w e));
        };
      }

  pub until_part : kind_at p n ≡ 8 → PartS p n (a_at p n)
  unfolding bound_s
  until_part e =
      let k = until_kids p n w e in
      record { less = k.0.less; node = k.0.node; small = omega (arith, ap bound_s (until_tree p n w e)) }

-- Of input, time and ext no kind but time is left.
pub time_alone : (p : Bytes) (n : ℕ) (w : NodeOf is_signal p n) {m : ℕ} → m ≡ kind_at p n → kind_at p n ≤ 3 → (m ≡ 1 → ⊥) → (m ≡ 3 → ⊥) → kind_at p n ≡ 2
unfolding is_signal
time_alone p n w e low no-input no-ext =
    let l = leb-true 1 (kind_at p n) (and_both _ _ w.sorted).0 in
    let a : kind_at p n ≡ 1 → ⊥ = λ h. no-input (e ∙ h) in
    let b : kind_at p n ≡ 3 → ⊥ = λ h. no-ext (e ∙ h) in
    omega (arith, a, b)

-- Above the kinds that are read at once none but until is left where it is no let, switch or group.
pub until_alone : (p : Bytes) (n : ℕ) (w : NodeOf is_signal p n) {A : Type 0} {m : ℕ} → m ≡ kind_at p n → 4 < m
    → (((A × (m ≡ 5 → ⊥)) × (m ≡ 6 → ⊥)) × (m ≡ 7 → ⊥)) → kind_at p n ≡ 8
until_alone p n w e low rest = until_left p n w e (omega (arith, low, rest.0.0.1)) rest.0.1 rest.1

-- The cell of a node of kind 4, 6 or 7 is in the state.
module _ (p : Bytes) (n : ℕ) (w : NodeOf is_signal p n) (index : List ℕ) (x : Indexed p index) (st : Bytes) (h : state_length p ≤ length st) where
  pub cell_in : has_cell (kind_at p n) ≡ true → (n < length index) × (cell_at (get_or index n 0) + 8 ≤ length st)
  unfolding state_length cell_at
  cell_in e = (omega (arith, w.inside, x.room), omega (arith, x.numbers n w, cell_below p n w.inside e, h))

pub delay_cell : {k : ℕ} → k ≡ 4 → has_cell k ≡ true
unfolding has_cell ◌or◌
delay_cell e = ap has_cell e

pub switch_cell : {k : ℕ} → k ≡ 6 → has_cell k ≡ true
unfolding has_cell ◌or◌
switch_cell e = ap has_cell e

pub group_cell : {k : ℕ} → k ≡ 7 → has_cell k ≡ true
unfolding has_cell ◌or◌
group_cell e = ap has_cell e

-- One rule over a part, by the field that was read.
pub ruled_part : (p rec st : Bytes) (env : Env) {a k : ℕ} {x y : Evaluated} → a ≡ k → x ≡ eval_s rec st env (signal_at p a) → y ≡ rule x
    → y ≡ rule (eval_s rec st env (signal_at p k))
ruled_part p rec st env ea ex ey = ey ∙ ap rule (ex ∙ ap (λ (m : ℕ). eval_s rec st env (signal_at p m)) ea)

module _ (p : Bytes) (n : ℕ) (w : NodeOf is_signal p n) (rec st : Bytes) (env : Env) where
  pub input_eval : kind_at p n ≡ 1 → eval_s rec st env (signal_at p n) ≡ rule (give (channel_value rec (a_at p n)))
  unfolding eval_s
  input_eval e = ap (eval_s rec st env) (signal_input p n e)

  pub time_eval : kind_at p n ≡ 2 → eval_s rec st env (signal_at p n) ≡ rule (give (Plain int_t (time_in rec)))
  unfolding eval_s
  time_eval e = ap (eval_s rec st env) (signal_time p n e)

  pub ext_eval : kind_at p n ≡ 3 → eval_s rec st env (signal_at p n) ≡ rule (eval_e env (expr_at p (a_at p n)))
  unfolding eval_s
  ext_eval e = ap (eval_s rec st env) (ext_tree p n w e)

  pub until_eval : kind_at p n ≡ 8 → eval_s rec st env (signal_at p n) ≡ rule (eval_s rec st env (signal_at p (a_at p n)))
  unfolding eval_s
  until_eval e = ap (eval_s rec st env) (until_tree p n w e)

  -- The same, by the fields that were read and what is answered for the part.
  pub input_said : kind_at p n ≡ 1 → {a : ℕ} {v : Value} {y : Evaluated} → a ≡ a_at p n → v ≡ channel_value rec a → y ≡ rule (give v) → y ≡ eval_s rec st env (signal_at p n)
  input_said e ea ev ey = ey ∙ rw (ev, ea) (sym (input_eval e))

  pub time_said : kind_at p n ≡ 2 → {t : ℕ} {y : Evaluated} → t ≡ time_in rec → y ≡ rule (give (Plain int_t t)) → y ≡ eval_s rec st env (signal_at p n)
  time_said e et ey = ey ∙ rw et (sym (time_eval e))

  pub ext_said : kind_at p n ≡ 3 → {a : ℕ} {x y : Evaluated} → a ≡ a_at p n → x ≡ eval_e env (expr_at p a) → y ≡ rule x → y ≡ eval_s rec st env (signal_at p n)
  ext_said e ea ex ey = ey ∙ rw (ex, ea) (sym (ext_eval e))

  pub until_said : kind_at p n ≡ 8 → {a : ℕ} {y : Evaluated} → a ≡ a_at p n → y ≡ rule (eval_s rec st env (signal_at p a)) → y ≡ eval_s rec st env (signal_at p n)
  until_said e ea ey = ey ∙ rw ea (sym (until_eval e))

  -- One rule over a part that is evaluated with a value bound, by the fields that were read.
  pub bound_goes : (b : ℕ) {v u : Value} {a k : ℕ} {x y : Evaluated} → v ≡ u → a ≡ k → x ≡ eval_s rec st (bind env b v) (signal_at p a) → y ≡ rule x
      → y ≡ rule (eval_s rec st (bind env b u) (signal_at p k))
  bound_goes b e f g h = h ∙ rw (g, e, f)

  let_eval : kind_at p n ≡ 5
      → eval_s rec st env (signal_at p n)
      ≡ rule (eval_s rec st env (signal_at p (a_at p n)) then λ v. eval_s rec st (bind env n v) (signal_at p (b_at p n)))
  unfolding eval_s
  let_eval e = ap (eval_s rec st env) (let_tree p n w e)

  -- Let, by its definition's value, and of a stuck one.
  pub let_goes : kind_at p n ≡ 5 → {a b : ℕ} {r x y : Evaluated} {v : Value} {u : Tally} {env₁ : Env} → a ≡ a_at p n → b ≡ b_at p n
      → r ≡ eval_s rec st env (signal_at p a) → r ≡ Done v u → env₁ ≡ env → x ≡ eval_s rec st (bind env₁ n v) (signal_at p b) → y ≡ rule (after u x)
      → y ≡ eval_s rec st env (signal_at p n)
  unfolding ◌then◌
  let_goes e ea eb er g h ex ey = ey ∙ rw (ex, h, eb) (sym (let_eval e ∙ rw (← ea, ← er, g)))

  pub let_stuck : kind_at p n ≡ 5 → {a : ℕ} {r : Evaluated} → a ≡ a_at p n → r ≡ eval_s rec st env (signal_at p a) → r ≡ Stuck
      → eval_s rec st env (signal_at p n) ≡ Stuck
  unfolding ◌then◌ rule after
  let_stuck e ea er g = let_eval e ∙ rw (← ea, ← er, g)

  -- By the content m of the node's cell.
  module _ {k m : ℕ} (c : m ≡ cell st k) (q : k ≡ cells_before p n) where
    content_is : m ≡ cell st (cells_before p n)
    content_is = c ∙ ap (cell st) q

    pub delay_eval : kind_at p n ≡ 4 → eval_s rec st env (signal_at p n) ≡ rule (give (unpacked m))
    unfolding eval_s held
    delay_eval e = ap (eval_s rec st env) (delay_tree p n w e) ∙ rw (← content_is)

    pub switch_first : kind_at p n ≡ 6 → m ≡ 0 → eval_s rec st env (signal_at p n) ≡ rule (eval_s rec st env (signal_at p (a_at p n)))
    unfolding eval_s is_clear
    switch_first e z = ap (eval_s rec st env) (switch_tree p n w e) ∙ rw (← content_is, eq-eqb m 0 z)

    pub switch_second : kind_at p n ≡ 6 → (m ≡ 0 → ⊥)
        → eval_s rec st env (signal_at p n) ≡ rule (eval_s rec st (bind env n (unpacked m)) (signal_at p (c_at p n)))
    unfolding eval_s is_clear held
    switch_second e z = ap (eval_s rec st env) (switch_tree p n w e) ∙ rw (← content_is, ne_eqb m 0 z)

    pub group_body : kind_at p n ≡ 7 → m ≡ 0 → eval_s rec st env (signal_at p n) ≡ rule (eval_s rec st env (signal_at p (a_at p n)))
    unfolding eval_s is_clear
    group_body e z = ap (eval_s rec st env) (group_tree p n w e) ∙ rw (← content_is, eq-eqb m 0 z)

    group_eval : kind_at p n ≡ 7 → (m ≡ 0 → ⊥)
        → eval_s rec st env (signal_at p n) ≡ rule (eval_b rec st env (middle_in m) (unpacked m) (branches_at p (b_at p n)))
    unfolding eval_s is_clear held branch_in
    group_eval e z = ap (eval_s rec st env) (group_tree p n w e) ∙ rw (← content_is, ne_eqb m 0 z)

    pub group_branch : kind_at p n ≡ 7 → (m ≡ 0 → ⊥) → {b which : ℕ} {t : Bool} → b ≡ b_at p n → which ≡ middle_in m
        → t ≡ has_branch which (branches_at p b) → t ≡ true
        → eval_s rec st env (signal_at p n) ≡ rule (eval_s rec st (bind env which (unpacked m)) (signal_at p (a_at p which)))
    group_branch e z {b} {which} eb ew h g =
        group_eval e z
        ∙ rw (← ew) (ap rule ((found p (b_at p n) which (group_kids p n w e).1.node (rw eb at (sym h ∙ g))).evaluates rec st env (unpacked m)))

    pub group_stuck : kind_at p n ≡ 7 → (m ≡ 0 → ⊥) → {b which : ℕ} {t : Bool} → b ≡ b_at p n → which ≡ middle_in m
        → t ≡ has_branch which (branches_at p b) → t ≡ false → eval_s rec st env (signal_at p n) ≡ Stuck
    unfolding rule after
    group_stuck e z {b} {which} eb ew h g =
        group_eval e z
        ∙ rw (← ew) (ap rule (missing_evaluates rec st env which (unpacked m) (branches_at p (b_at p n)) (rw eb at (sym h ∙ g))))
