-- An expression of each kind: its children, its type and the smallest wrong place below it.
-- Assumes nothing.
use Rattle.std.specs.Prelude.{if◌then◌else◌, Option, None, ℕ}
use mathlib.Core.Path.{◌≡◌, refl, ap, ◌∙◌}
use mathlib.Core.Bool.{Bool, true, false}
use Prim.Native.Nat.{ℕ}
use lib.Dec.{eqb}
use Rattle.rules.specs.Bytes.{Bytes, ◌and◌}
use Rattle.rules.specs.Layout.{kind_at, type_at, a_at, b_at, c_at}
use Rattle.rules.specs.Values.{bool_t, maybe_of, is_plain, type_of, value_from}
use Rattle.rules.specs.Operations.{operand_type, result_type}
use Rattle.rules.specs.declared.Value.TheVariants.{Plain, Absent, Present}
use Rattle.rules.specs.Kinds.{is_expression}
use Rattle.rules.specs.Places.{sooner, wrong_unless}
use Rattle.rules.specs.Shaped.{NodeOf}
use Rattle.rules.specs.Tree.{expr_at, value_at}
use Rattle.rules.specs.Typing.{just_type, type_e, types_e}
use Rattle.rules.proofs.Nodes.{expr_variable, expr_constant}
use Rattle.rules.proofs.Expressions.{IsOperation, negation_tree, just_tree, choice_tree, taking_tree, operation_tree}

type_of_from : (t b w : ℕ) → type_of (value_from t b w) ≡ t
unfolding value_from type_of
type_of_from t b w = go (is_plain t) (eqb b 0)
  where
    go : (x y : Bool) → type_of (if x then Plain t w else if y then Absent t else Present t w) ≡ t
    go true y = refl
    go false true = refl
    go false false = refl

pub value_type : (p : Bytes) (n : ℕ) → type_of (value_at p n) ≡ type_at p n
unfolding value_at
value_type p n = type_of_from _ _ _

module _ (p : Bytes) (n : ℕ) (w : NodeOf is_expression p n) where
  abbrev ty : ℕ → ℕ
  ty m = type_e (expr_at p m)

  variable_typed : kind_at p n ≡ 16 → (type_e (expr_at p n) ≡ type_at p (a_at p n)) × (types_e (expr_at p n) ≡ None)
  unfolding type_e types_e
  variable_typed e = (ap type_e (expr_variable p n e), ap types_e (expr_variable p n e))

  constant_typed : kind_at p n ≡ 17 → (type_e (expr_at p n) ≡ type_at p n) × (types_e (expr_at p n) ≡ None)
  unfolding type_e types_e
  constant_typed e = (ap type_e (expr_constant p n e) ∙ value_type p n, ap types_e (expr_constant p n e))

  negation_typed : kind_at p n ≡ 24
      → (type_e (expr_at p n) ≡ bool_t)
      × (types_e (expr_at p n) ≡ sooner (wrong_unless (eqb (type_e (expr_at p (a_at p n))) bool_t) n) (types_e (expr_at p (a_at p n))))
  unfolding type_e types_e
  negation_typed e = let x = negation_tree p n w e in (ap type_e x, ap types_e x)

  just_typed : kind_at p n ≡ 28
      → (type_e (expr_at p n) ≡ just_type (type_e (expr_at p (a_at p n))))
      × (types_e (expr_at p n) ≡ sooner (wrong_unless (is_plain (type_e (expr_at p (a_at p n)))) n) (types_e (expr_at p (a_at p n))))
  unfolding type_e types_e
  just_typed e = let x = just_tree p n w e in (ap type_e x, ap types_e x)

  choice_typed : kind_at p n ≡ 27
      → (type_e (expr_at p n) ≡ type_e (expr_at p (b_at p n)))
      × (types_e (expr_at p n) ≡ sooner (wrong_unless (eqb (type_e (expr_at p (a_at p n))) bool_t and eqb (type_e (expr_at p (b_at p n))) (type_e (expr_at p (c_at p n)))) n)
      (sooner (types_e (expr_at p (a_at p n))) (sooner (types_e (expr_at p (b_at p n))) (types_e (expr_at p (c_at p n))))))
  unfolding type_e types_e
  choice_typed e = let x = choice_tree p n w e in (ap type_e x, ap types_e x)

  taking_typed : kind_at p n ≡ 29
      → (type_e (expr_at p n) ≡ type_e (expr_at p (b_at p n)))
      × (types_e (expr_at p n) ≡ sooner (wrong_unless (eqb (type_e (expr_at p (a_at p n))) (maybe_of (type_at p n)) and eqb (type_e (expr_at p (b_at p n))) (type_e (expr_at p (c_at p n)))) n)
      (sooner (types_e (expr_at p (a_at p n))) (sooner (types_e (expr_at p (b_at p n))) (types_e (expr_at p (c_at p n))))))
  unfolding type_e types_e
  taking_typed e = let x = taking_tree p n w e in (ap type_e x, ap types_e x)

  operation_typed : IsOperation (kind_at p n)
      → (type_e (expr_at p n) ≡ result_type (kind_at p n))
      × (types_e (expr_at p n) ≡ sooner (wrong_unless (eqb (type_e (expr_at p (a_at p n))) (operand_type (kind_at p n)) and eqb (type_e (expr_at p (b_at p n))) (operand_type (kind_at p n))) n)
      (sooner (types_e (expr_at p (a_at p n))) (types_e (expr_at p (b_at p n)))))
  unfolding type_e types_e
  operation_typed o = let x = operation_tree p n w o in (ap type_e x, ap types_e x)

  -- A type and a smallest wrong place that are those of expression m,
  abbrev Says : ℕ → Option ℕ → ℕ → Type 0
  Says t q m = (t ≡ type_e (expr_at p m)) × (q ≡ types_e (expr_at p m))

  -- and those of expression n of each kind, from what is answered for its children. (These stand here, over plain numbers: the same equations
  -- looked for among all that is known at a return take a second each.)
  pub variable_said : {a d t : ℕ} {none q : Option ℕ} → kind_at p n ≡ 16 → a ≡ a_at p n → d ≡ type_at p a → none ≡ None → (t ≡ d) × (q ≡ none) → Says t q n
  variable_said k ea ed en s = let e = variable_typed k in (cc (e.0, s.0, ed, ea), cc (e.1, s.1, en))

  pub constant_said : {d t : ℕ} {none q : Option ℕ} → kind_at p n ≡ 17 → d ≡ type_at p n → none ≡ None → (t ≡ d) × (q ≡ none) → Says t q n
  constant_said k ed en s = let e = constant_typed k in (cc (e.0, s.0, ed), cc (e.1, s.1, en))

  pub negation_said : {a tx t : ℕ} {x q : Option ℕ} → kind_at p n ≡ 24 → a ≡ a_at p n → Says tx x a
      → (t ≡ bool_t) × (q ≡ sooner (wrong_unless (eqb tx bool_t) n) x)
      → Says t q n
  negation_said k ea sx s = let e = negation_typed k in (cc (e.0, s.0), cc (e.1, s.1, sx.0, sx.1, ea))

  pub just_said : {a tx t : ℕ} {x q : Option ℕ} → kind_at p n ≡ 28 → a ≡ a_at p n → Says tx x a
      → (t ≡ just_type tx) × (q ≡ sooner (wrong_unless (is_plain tx) n) x)
      → Says t q n
  just_said k ea sx s = let e = just_typed k in (cc (e.0, s.0, sx.0, ea), cc (e.1, s.1, sx.0, sx.1, ea))

  pub choice_said : {a b c tx ty tz t : ℕ} {x y z q : Option ℕ} → kind_at p n ≡ 27 → a ≡ a_at p n → b ≡ b_at p n → c ≡ c_at p n → Says tx x a → Says ty y b → Says tz z c
      → (t ≡ ty) × (q ≡ sooner (wrong_unless (eqb tx bool_t and eqb ty tz) n) (sooner x (sooner y z)))
      → Says t q n
  choice_said k ea eb ec sx sy sz s = let e = choice_typed k in (cc (e.0, s.0, sy.0, eb), cc (e.1, s.1, sx.0, sy.0, sz.0, sx.1, sy.1, sz.1, ea, eb, ec))

  pub taking_said : {a b c d tx ty tz t : ℕ} {x y z q : Option ℕ} → kind_at p n ≡ 29 → d ≡ type_at p n → a ≡ a_at p n → b ≡ b_at p n → c ≡ c_at p n → Says tx x a → Says ty y b → Says tz z c
      → (t ≡ ty) × (q ≡ sooner (wrong_unless (eqb tx (maybe_of d) and eqb ty tz) n) (sooner x (sooner y z)))
      → Says t q n
  taking_said k ed ea eb ec sx sy sz s = let e = taking_typed k in (cc (e.0, s.0, sy.0, eb), cc (e.1, s.1, sx.0, sy.0, sz.0, sx.1, sy.1, sz.1, ed, ea, eb, ec))

  pub operation_said : {a b k tx ty t : ℕ} {x y q : Option ℕ} → IsOperation (kind_at p n) → k ≡ kind_at p n → a ≡ a_at p n → b ≡ b_at p n → Says tx x a → Says ty y b
      → (t ≡ result_type k) × (q ≡ sooner (wrong_unless (eqb tx (operand_type k) and eqb ty (operand_type k)) n) (sooner x y))
      → Says t q n
  operation_said o ek ea eb sx sy s = let e = operation_typed o in (cc (e.0, s.0, ek), cc (e.1, s.1, sx.0, sy.0, sx.1, sy.1, ek, ea, eb))
