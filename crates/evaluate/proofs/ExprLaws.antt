-- An expression of each kind: its children are ready, and what it evaluates to by theirs.
-- Assumes nothing.
use Rattle.std.specs.Prelude.{Some, None}
use mathlib.Core.Path.{◌≡◌, sym, ap, ◌∙◌, subst}
use mathlib.Core.List.{List}
use Prim.Native.Nat.{ℕ, ◌+◌, ◌<◌, ◌≤◌}
use native.Mathlib.Omega.{arith}
use borrow.Author.Tests.{leb-true}
use Rattle.rules.specs.Bytes.{Bytes}
use Rattle.rules.specs.Layout.{kind_at, type_at, a_at, b_at, c_at, word_at}
use Rattle.rules.specs.Values.{value_from, packed, unpacked}
use Rattle.rules.specs.Kinds.{is_expression}
use Rattle.rules.specs.Tree.{expr_at, value_at}
use Rattle.rules.specs.Work.{give, after, rule}
use Rattle.rules.specs.Bound.{bound_e}
use Rattle.rules.specs.Evaluate.{Env, bind, look, operated, negated, chosen, lifted, taken, eval_e}
use Rattle.rules.specs.Shaped.{NodeOf}
use Rattle.rules.specs.declared.Tally.{Tally}
use Rattle.rules.specs.declared.Value.{Value}
use Rattle.rules.specs.Evaluated.{Evaluated, Stuck}
use Rattle.rules.proofs.Static.{and_both}
use Rattle.rules.proofs.Nodes.{expr_variable, expr_constant}
use Rattle.rules.proofs.Expressions.{IsOperation, negation_kid, negation_tree, just_kid, just_tree, choice_kids, choice_tree, taking_kids, taking_tree, operation_kids, operation_tree}
use Rattle.rules.proofs.Within.{eval_e_within}
use Rattle.outcomes.specs.Combine.{work_of, arm_in, parts_of}
use Rattle.outcomes.specs.declared.Arm.{Arm}
use Rattle.outcomes.specs.declared.Parts.{Parts}
use Rattle.outcomes.specs.Outcome.{IsValue, Slots}
use Rattle.evaluate.specs.Ready.{ReadyE}
use Rattle.outcomes.proofs.Numbers.{proper_from, proper_value}
use Rattle.outcomes.proofs.Outcomes.{work_within, arm_goes, arm_none, arm_one, parts_with, take_present, take_absent, take_wrong}

-- Kinds 18-23 are operations, and so are those above that are no other node's.
pub ints_operation : {k m : ℕ} → k ≡ m → 17 < k → k ≤ 23 → IsOperation m
ints_operation e h l = record {
  no16 = λ q. omega (arith, e, q, h);
  no17 = λ q. omega (arith, e, q, h);
  no24 = λ q. omega (arith, e, q, l);
  no27 = λ q. omega (arith, e, q, l);
  no28 = λ q. omega (arith, e, q, l);
  no29 = λ q. omega (arith, e, q, l);
}

pub bools_operation : {A : Type 0} {k m : ℕ} → k ≡ m → 23 < k → ((((A × (k ≡ 24 → ⊥)) × (k ≡ 27 → ⊥)) × (k ≡ 28 → ⊥)) × (k ≡ 29 → ⊥)) → IsOperation m
bools_operation e h rest = record {
  no16 = λ q. omega (arith, e, q, h);
  no17 = λ q. omega (arith, e, q, h);
  no24 = λ q. rest.0.0.0.1 (e ∙ q);
  no27 = λ q. rest.0.0.1 (e ∙ q);
  no28 = λ q. rest.0.1 (e ∙ q);
  no29 = λ q. rest.1 (e ∙ q);
}

-- An expression of a kind up to 17 that is no variable is a constant.
pub constant_left : (p : Bytes) (n : ℕ) → NodeOf is_expression p n → {k : ℕ} → k ≡ kind_at p n → k ≤ 17 → (k ≡ 16 → ⊥) → kind_at p n ≡ 17
unfolding is_expression
constant_left p n w e h other =
    let low : 16 ≤ kind_at p n = leb-true 16 (kind_at p n) (and_both _ _ w.sorted).0 in
    omega (arith, e, h, other, low)

-- The 8 bytes of a constant are a value's.
pub constant_value : (p : Bytes) (n : ℕ) {m : ℕ} → type_at p n < 256 → m ≡ packed (value_from (type_at p n) (b_at p n) (word_at p n)) → IsValue m
constant_value p n h e = rw e (proper_value (value_from (type_at p n) (b_at p n) (word_at p n)) (proper_from (type_at p n) h (b_at p n) (word_at p n)))

-- Node x is an expression below node n, and its tree's bound is small.
pub record PartE (p : Bytes) (n x : ℕ) : Type 0 where
  pub less : x < n
  pub node : NodeOf is_expression p x
  pub small : bound_e (expr_at p x) < 32767

-- Expressions x and y are both evaluated below one whose bound is small.
abbrev pub PairE : Bytes → ℕ → ℕ → Type 0
PairE p x y = bound_e (expr_at p x) + bound_e (expr_at p y) < 32767

-- What both count together is small.
pub pair_work : (p : Bytes) (x y : ℕ) {r s : Evaluated} (env₁ env₂ : Env) → PairE p x y → r ≡ eval_e env₁ (expr_at p x) → s ≡ eval_e env₂ (expr_at p y)
    → work_of r + work_of s < 32767
pair_work p x y env₁ env₂ k e f =
    rw (e, f) (omega (arith, work_within _ (eval_e_within env₁ (expr_at p x)), work_within _ (eval_e_within env₂ (expr_at p y)), k))

-- A part is ready where the slots are as they were.
pub next_e : {p : Bytes} {ix : List ℕ} {env env₁ : Env} {n x : ℕ} → ReadyE p ix env n → env₁ ≡ env → PartE p n x → ReadyE p ix env₁ x
next_e r e k = record { node = k.node; indexed = r.indexed; slots = subst Slots (sym e) r.slots; small = k.small }

-- The same part, by the field that was read.
pub read : {p : Bytes} {n x y : ℕ} → x ≡ y → PartE p n y → PartE p n x
read {p} {n} e k = subst (PartE p n) (sym e) k

-- What a part's evaluation counts is small.
pub part_work : {p : Bytes} {n x : ℕ} {r : Evaluated} (env : Env) → PartE p n x → r ≡ eval_e env (expr_at p x) → work_of r < 32767
part_work {p} {n} {x} env k e = rw e (omega (arith, work_within _ (eval_e_within env (expr_at p x)), k.small))

module _ (p : Bytes) (n : ℕ) (w : NodeOf is_expression p n) (s : bound_e (expr_at p n) < 32767) where
  pub negation_part : kind_at p n ≡ 24 → PartE p n (a_at p n)
  unfolding bound_e
  negation_part e =
      let k = negation_kid p n w e in
      record { less = k.less; node = k.node; small = omega (arith, ap bound_e (negation_tree p n w e)) }

  pub just_part : kind_at p n ≡ 28 → PartE p n (a_at p n)
  unfolding bound_e
  just_part e =
      let k = just_kid p n w e in
      record { less = k.less; node = k.node; small = omega (arith, ap bound_e (just_tree p n w e)) }

  pub choice_parts : kind_at p n ≡ 27 → PartE p n (a_at p n) × PartE p n (b_at p n) × PartE p n (c_at p n)
  unfolding bound_e
  choice_parts e =
      let k = choice_kids p n w e in
      let b = ap bound_e (choice_tree p n w e) in (
        record { less = k.0.less; node = k.0.node; small = omega arith },
        record { less = k.1.less; node = k.1.node; small = omega arith },
        record { less = k.2.less; node = k.2.node; small = omega arith },
      )

  pub taking_parts : kind_at p n ≡ 29 → PartE p n (a_at p n) × PartE p n (b_at p n) × PartE p n (c_at p n)
  unfolding bound_e
  taking_parts e =
      let k = taking_kids p n w e in
      let b = ap bound_e (taking_tree p n w e) in (
        record { less = k.0.less; node = k.0.node; small = omega arith },
        record { less = k.1.less; node = k.1.node; small = omega arith },
        record { less = k.2.less; node = k.2.node; small = omega arith },
      )

  pub operation_parts : IsOperation (kind_at p n) → PartE p n (a_at p n) × PartE p n (b_at p n)
  unfolding bound_e
  operation_parts o =
      let k = operation_kids p n w o in
      let b = ap bound_e (operation_tree p n w o) in (
        record { less = k.0.less; node = k.0.node; small = omega arith },
        record { less = k.1.less; node = k.1.node; small = omega arith },
      )

  -- what is evaluated together
  pub operation_pair : IsOperation (kind_at p n) → {a b : ℕ} → a ≡ a_at p n → b ≡ b_at p n → PairE p a b
  unfolding bound_e
  operation_pair o ea eb = rw (ea, eb) (omega (arith, ap bound_e (operation_tree p n w o), s))

  pub choice_pair : kind_at p n ≡ 27 → {a b c : ℕ} {m : Arm} (r : Evaluated) → a ≡ a_at p n → b ≡ b_at p n → c ≡ c_at p n → arm_in r b c ≡ Some m → PairE p a m.at
  unfolding bound_e
  choice_pair e {a} {b} {c} r ea eb ec g =
      let t = ap bound_e (choice_tree p n w e) in
      arm_one b c (PairE p a) r g (rw (ea, eb) (omega (arith, t, s))) (rw (ea, ec) (omega (arith, t, s)))

  pub taking_pairs : kind_at p n ≡ 29 → {a b c : ℕ} → a ≡ a_at p n → b ≡ b_at p n → c ≡ c_at p n → PairE p a b × PairE p a c
  unfolding bound_e
  taking_pairs e ea eb ec = let t = ap bound_e (taking_tree p n w e) in (rw (ea, eb) (omega (arith, t, s)), rw (ea, ec) (omega (arith, t, s)))

  -- the arm that is chosen
  pub chosen_part : kind_at p n ≡ 27 → {b c : ℕ} {m : Arm} (r : Evaluated) → b ≡ b_at p n → c ≡ c_at p n → arm_in r b c ≡ Some m → PartE p n m.at
  chosen_part e {b} {c} r eb ec g = let k = choice_parts e in arm_one b c (PartE p n) r g (read eb k.1) (read ec k.2)

module _ (p : Bytes) (n : ℕ) (w : NodeOf is_expression p n) (env : Env) where
  variable_eval : kind_at p n ≡ 16 → eval_e env (expr_at p n) ≡ rule (look env (a_at p n))
  unfolding eval_e
  variable_eval e = ap (eval_e env) (expr_variable p n e)

  pub constant_eval : kind_at p n ≡ 17 → eval_e env (expr_at p n) ≡ rule (give (value_from (type_at p n) (b_at p n) (word_at p n)))
  unfolding eval_e value_at
  constant_eval e = ap (eval_e env) (expr_constant p n e)

  pub constant_fixed : kind_at p n ≡ 17 → {m : ℕ} → type_at p n < 256 → m ≡ packed (value_from (type_at p n) (b_at p n) (word_at p n))
      → rule (give (unpacked m)) ≡ eval_e env (expr_at p n)
  constant_fixed e h q =
      ap (λ (v : Value). rule (give v)) (ap unpacked q ∙ proper_from (type_at p n) h (b_at p n) (word_at p n)) ∙ sym (constant_eval e)

  negation_eval : kind_at p n ≡ 24 → eval_e env (expr_at p n) ≡ rule (negated (eval_e env (expr_at p (a_at p n))))
  unfolding eval_e
  negation_eval e = ap (eval_e env) (negation_tree p n w e)

  just_eval : kind_at p n ≡ 28 → eval_e env (expr_at p n) ≡ rule (lifted (eval_e env (expr_at p (a_at p n))))
  unfolding eval_e
  just_eval e = ap (eval_e env) (just_tree p n w e)

  operation_eval : IsOperation (kind_at p n)
      → eval_e env (expr_at p n) ≡ rule (operated (kind_at p n) (eval_e env (expr_at p (a_at p n))) (eval_e env (expr_at p (b_at p n))))
  unfolding eval_e
  operation_eval o = ap (eval_e env) (operation_tree p n w o)

  -- By the fields that were read and what is answered for the parts.
  pub variable_said : kind_at p n ≡ 16 → {a : ℕ} {y : Evaluated} → a ≡ a_at p n → y ≡ rule (look env a) → y ≡ eval_e env (expr_at p n)
  variable_said e ea ey = ey ∙ rw ea (sym (variable_eval e))

  pub negation_said : kind_at p n ≡ 24 → {a : ℕ} {x y : Evaluated} → a ≡ a_at p n → x ≡ eval_e env (expr_at p a) → y ≡ rule (negated x) → y ≡ eval_e env (expr_at p n)
  negation_said e ea ex ey = ey ∙ rw (ex, ea) (sym (negation_eval e))

  pub just_said : kind_at p n ≡ 28 → {a : ℕ} {x y : Evaluated} → a ≡ a_at p n → x ≡ eval_e env (expr_at p a) → y ≡ rule (lifted x) → y ≡ eval_e env (expr_at p n)
  just_said e ea ex ey = ey ∙ rw (ex, ea) (sym (just_eval e))

  pub operation_said : IsOperation (kind_at p n) → {k a b : ℕ} {env₁ : Env} {x y z : Evaluated} → k ≡ kind_at p n → a ≡ a_at p n → b ≡ b_at p n → env₁ ≡ env
      → x ≡ eval_e env (expr_at p a) → y ≡ eval_e env₁ (expr_at p b) → z ≡ rule (operated k x y) → z ≡ eval_e env (expr_at p n)
  operation_said o ek ea eb h ex ey ez = ez ∙ rw (ex, ey, h, ek, ea, eb) (sym (operation_eval o))

  -- The arm that is evaluated after a count.
  pub later_said : (u : Tally) {m k : ℕ} {env₁ env₂ : Env} {x y : Evaluated} → eval_e env (expr_at p n) ≡ rule (after u (eval_e env₂ (expr_at p k))) → m ≡ k → env₁ ≡ env₂
      → x ≡ eval_e env₁ (expr_at p m) → y ≡ rule (after u x) → y ≡ eval_e env (expr_at p n)
  later_said u g e h ex ey = ey ∙ rw (ex, h, e) (sym g)

  choice_eval : kind_at p n ≡ 27
      → eval_e env (expr_at p n) ≡ rule (chosen (eval_e env (expr_at p (a_at p n))) (eval_e env (expr_at p (b_at p n))) (eval_e env (expr_at p (c_at p n))))
  unfolding eval_e
  choice_eval e = ap (eval_e env) (choice_tree p n w e)

  -- If, by the arm that its test chooses, and by none.
  pub choice_goes : kind_at p n ≡ 27 → {a b c : ℕ} {m : Arm} {r : Evaluated} → a ≡ a_at p n → b ≡ b_at p n → c ≡ c_at p n
      → r ≡ eval_e env (expr_at p a) → arm_in r b c ≡ Some m → eval_e env (expr_at p n) ≡ rule (after m.count (eval_e env (expr_at p m.at)))
  choice_goes e {a} {b} {c} {m} {r} ea eb ec er g =
      choice_eval e ∙ rw (← ea, ← eb, ← ec, ← er) (ap rule (arm_goes b c r (λ x. eval_e env (expr_at p x)) g))

  pub choice_stuck : kind_at p n ≡ 27 → {a : ℕ} {r : Evaluated} (b c : ℕ) → a ≡ a_at p n → r ≡ eval_e env (expr_at p a) → arm_in r b c ≡ None
      → eval_e env (expr_at p n) ≡ Stuck
  unfolding rule after
  choice_stuck e {a} {r} b c ea er g = choice_eval e ∙ rw (← ea, ← er) (ap rule (arm_none b c r _ _ g))

  taking_eval : kind_at p n ≡ 29
      → eval_e env (expr_at p n)
      ≡ rule (taken (eval_e env (expr_at p (a_at p n))) (eval_e env (expr_at p (b_at p n))) λ v. eval_e (bind env n v) (expr_at p (c_at p n)))
  unfolding eval_e
  taking_eval e = ap (eval_e env) (taking_tree p n w e)

  -- Take, by the value that its maybe holds, by none, and of no maybe.
  pub taking_present : kind_at p n ≡ 29 → {a : ℕ} {q : Parts} {v : ℕ} {r : Evaluated} → a ≡ a_at p n → r ≡ eval_e env (expr_at p a)
      → parts_of r ≡ Some q → q.event ≡ Some v → eval_e env (expr_at p n) ≡ rule (after q.count (eval_e (bind env n (unpacked v)) (expr_at p (c_at p n))))
  taking_present e {r = r} ea er g h = taking_eval e ∙ rw (← ea, ← er) (ap rule (take_present _ _ r (parts_with g h)))

  pub taking_absent : kind_at p n ≡ 29 → {a : ℕ} {q : Parts} {r : Evaluated} → a ≡ a_at p n → r ≡ eval_e env (expr_at p a)
      → parts_of r ≡ Some q → q.event ≡ None → eval_e env (expr_at p n) ≡ rule (after q.count (eval_e env (expr_at p (b_at p n))))
  taking_absent e {r = r} ea er g h = taking_eval e ∙ rw (← ea, ← er) (ap rule (take_absent _ _ r (parts_with g h)))

  pub taking_stuck : kind_at p n ≡ 29 → {a : ℕ} {r : Evaluated} → a ≡ a_at p n → r ≡ eval_e env (expr_at p a)
      → parts_of r ≡ None → eval_e env (expr_at p n) ≡ Stuck
  unfolding rule after
  taking_stuck e {a} {r} ea er g = taking_eval e ∙ rw (← ea, ← er) (ap rule (take_wrong _ _ r g))
