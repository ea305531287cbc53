-- A step by the memory uses at most two rules in earnest for each node of the table.
-- Assumes nothing.
use Rattle.std.specs.Prelude.{if◌then◌else◌}
use mathlib.Core.Path.{◌≡◌, refl}
use mathlib.Core.Bool.{Bool, true, false}
use Prim.Native.Nat.{ℕ, ◌+◌, ◌*◌, ◌≤◌, max}
use native.Mathlib.Omega.{arith}
use lib.Dec.{eqb}
use Rattle.rules.specs.Bytes.{Bytes}
use Rattle.rules.specs.Layout.{held, is_clear, branch_in, most_nodes, nodes}
use Rattle.rules.specs.Work.{Updated, Next, Jump, Halted}
use Rattle.rules.specs.Tree.{Signal, input, time, ext, delay, let_signal, switch, group, until, Branches, no_branch, branch, Cases, no_case, case, root}
use Rattle.rules.specs.Size.{size_e, size_s, size_b, size_c}
use Rattle.rules.specs.Bound.{bound_e, bound_s, bound_sb, bound_sc}
use Rattle.rules.specs.Evaluate.{Env, bind, unbound, eval_s}
use Rattle.rules.specs.Accepted.{Accepted}
use Rattle.rules.specs.declared.Value.{Value}
use Rattle.rules.specs.Evaluated.{Evaluated, Done, Stuck}
use Rattle.rules.proofs.Bounds.{bound_e≤}
use Rattle.rules.proofs.Within.{Within, eval_s_within}
use Rattle.rules.proofs.Once.{tree_size}
use Rattle.rules.proofs.Rooted.{some_node}
use Rattle.recalled.specs.Recall.{Memory, fill_s, fill_c, recall_s, recall_c}
use Rattle.recalled.specs.Spent.{count_of, on_value, on_next, count_c, spent_s, spent_b, spent_c, bound_r, bound_rb, bound_rc}

count≤ : (r : Evaluated) {b : ℕ} → Within r b → count_of r ≤ b
unfolding count_of
count≤ (Done v u) h = h.most
count≤ Stuck h = omega arith

value≤ : (r : Evaluated) (f : Value → ℕ) {b : ℕ} → ((v : Value) → f v ≤ b) → on_value r f ≤ b
unfolding on_value
value≤ (Done v u) f h = h v
value≤ Stuck f h = omega arith

next≤ : (r : Updated) (f : Bytes → ℕ) {b : ℕ} → ((st : Bytes) → f st ≤ b) → on_next r f ≤ b
unfolding on_next
next≤ (Next st u) f h = h st
next≤ (Jump target v st u) f h = omega arith
next≤ Halted f h = omega arith

if≤ : (t : Bool) (x y : ℕ) {b : ℕ} → x ≤ b → y ≤ b → (if t then x else y) ≤ b
if≤ true x y h g = h
if≤ false x y h g = g

module _ (rec : Bytes) where
  count_c≤ : (cs : Cases) (st : Bytes) (env : Env) → count_c rec st env cs ≤ bound_sc cs
  unfolding count_c bound_s
  count_c≤ no_case st env = omega arith
  count_c≤ (case n event target t next) st env = omega (arith, count≤ (eval_s rec st env event) (eval_s_within rec st env event), count_c≤ next st env)

  mutual
    unfolding spent_s bound_r

    pub spent≤ : (s : Signal) (env : Env) (st : Bytes) (m : Memory) → spent_s rec env s st m ≤ bound_r s
    spent≤ (input n c) env st m = omega arith
    spent≤ (time n) env st m = omega arith
    spent≤ (ext n e) env st m = omega arith
    spent≤ (delay n k v s) env st m = omega (arith, count≤ (eval_s rec st env s) (eval_s_within rec st env s), spent≤ s env st (fill_s rec st env s m))
    spent≤ (let_signal n t d b) env st m =
        let z = value≤ (m n) (λ v. spent_s rec (bind env n v) d st m
        + on_next (recall_s rec (bind env n v) d st m).outcome λ st₁. spent_s rec (bind env n v) b st₁ (recall_s rec (bind env n v) d st m).memory)
        {b = bound_r d + bound_r b} λ v.
        omega (
          arith,
          spent≤ d (bind env n v) st m,
          next≤ (recall_s rec (bind env n v) d st m).outcome (λ st₁. spent_s rec (bind env n v) b st₁ (recall_s rec (bind env n v) d st m).memory) {b = bound_r b}
              λ st₁. spent≤ b (bind env n v) st₁ (recall_s rec (bind env n v) d st m).memory,
        ) in
        omega (arith, z)
    spent≤ (switch n k t x e y) env st m =
        let r = recall_s rec env e st (fill_s rec st env e m) in
        let z = next≤ r.outcome (λ st₁. if is_clear st₁ k then spent_s rec env x st₁ r.memory else spent_s rec (bind env n (held st₁ k)) y st₁ r.memory)
        {b = max (bound_r x) (bound_r y)} λ st₁.
        if≤ (is_clear st₁ k) (spent_s rec env x st₁ r.memory) (spent_s rec (bind env n (held st₁ k)) y st₁ r.memory)
        (omega (arith, spent≤ x env st₁ r.memory)) (omega (arith, spent≤ y (bind env n (held st₁ k)) st₁ r.memory)) in
        omega (arith, z, count≤ (eval_s rec st env e) (eval_s_within rec st env e), spent≤ e env st (fill_s rec st env e m))
    spent≤ (group n k body brs) env st m =
        let z = if≤ (is_clear st k) (spent_s rec env body st m) (spent_b rec env (branch_in st k) (held st k) brs st m) {b = max (bound_r body) (bound_rb brs)}
        (omega (arith, spent≤ body env st m)) (omega (arith, spent_b≤ brs env (branch_in st k) (held st k) st m)) in
        omega (arith, z)
    spent≤ (until n s cs) env st m =
        let r = recall_c rec env cs st (fill_c rec st env cs m) in
        let z = next≤ r.outcome (λ st₁. spent_s rec env s st₁ r.memory) {b = bound_r s} λ st₁. spent≤ s env st₁ r.memory in
        omega (arith, z, count_c≤ cs st env, spent_c≤ cs env st (fill_c rec st env cs m))

    spent_b≤ : (brs : Branches) (env : Env) (which : ℕ) (v : Value) (st : Bytes) (m : Memory) → spent_b rec env which v brs st m ≤ bound_rb brs
    spent_b≤ no_branch env which v st m = omega arith
    spent_b≤ (branch n t body more) env which v st m =
        if≤ (eqb n which) (spent_s rec (bind env n v) body st m) (spent_b rec env which v more st m)
        (omega (arith, spent≤ body (bind env n v) st m)) (omega (arith, spent_b≤ more env which v st m))

    spent_c≤ : (cs : Cases) (env : Env) (st : Bytes) (m : Memory) → spent_c rec env cs st m ≤ bound_rc cs
    spent_c≤ no_case env st m = omega arith
    spent_c≤ (case n event target t more) env st m =
        let r = recall_c rec env more st m in
        let z = next≤ r.outcome (λ st₁. spent_s rec env event st₁ r.memory) {b = bound_r event} λ st₁. spent≤ event env st₁ r.memory in
        omega (arith, z, spent_c≤ more env st m)

-- Evaluation and update together: twice the nodes.
mutual
  unfolding bound_s bound_r size_s

  pub twice : (s : Signal) → bound_s s + bound_r s ≤ 2 * size_s s
  twice (input n c) = omega arith
  twice (time n) = omega arith
  twice (ext n e) = omega (arith, bound_e≤ e)
  twice (delay n k v s) = omega (arith, twice s)
  twice (let_signal n t d b) = omega (arith, twice d, twice b)
  twice (switch n k t x e y) = omega (arith, twice x, twice e, twice y)
  twice (group n k body brs) = omega (arith, twice body, twice_b brs)
  twice (until n s cs) = omega (arith, twice s, twice_c cs)

  twice_b : (brs : Branches) → bound_sb brs + bound_rb brs ≤ 2 * size_b brs
  twice_b no_branch = omega arith
  twice_b (branch n t body more) = omega (arith, twice body, twice_b more)

  twice_c : (cs : Cases) → bound_sc cs + bound_rc cs ≤ 2 * size_c cs
  twice_c no_case = omega arith
  twice_c (case n event target t more) = omega (arith, twice event, twice_c more)

-- A step of an accepted program: what the evaluation of the root counts, and what the update uses.
pub step_linear : (p rec st : Bytes) → Accepted p → (m : Memory)
    → count_of (eval_s rec st (unbound most_nodes) (root p)) + spent_s rec (unbound most_nodes) (root p) st (fill_s rec st (unbound most_nodes) (root p) m) ≤ 2 * nodes p
step_linear p rec st a m =
    let env : Env = unbound most_nodes in
    omega (
      arith,
      count≤ (eval_s rec st env (root p)) (eval_s_within rec st env (root p)),
      spent≤ rec (root p) env st (fill_s rec st env (root p) m),
      twice (root p),
      tree_size p a.formed.length_right a.shape_right (some_node p a.formed),
    )
