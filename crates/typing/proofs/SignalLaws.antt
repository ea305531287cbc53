-- A signal of each kind, a list of branches and a list of cases: children, type and smallest wrong place.
-- Assumes nothing.
use Rattle.std.specs.Prelude.{Option, None, ℕ}
use mathlib.Core.Path.{◌≡◌, ap, ◌∙◌}
use mathlib.Core.Bool.{Bool, true}
use Prim.Native.Nat.{ℕ}
use lib.Dec.{eqb}
use Rattle.rules.specs.Bytes.{Bytes, ◌and◌}
use Rattle.rules.specs.Layout.{kind_at, type_at, a_at, b_at, c_at, channel_type}
use Rattle.rules.specs.Values.{int_t, maybe_of}
use Rattle.rules.specs.Kinds.{is_signal, is_branch, is_case}
use Rattle.rules.specs.Places.{sooner, wrong_unless}
use Rattle.rules.specs.Shaped.{NodeOf}
use Rattle.rules.specs.Tree.{expr_at, signal_at, branches_at, cases_at}
use Rattle.rules.specs.Typing.{type_e, types_e, type_s, types_s, types_b, types_c, bodies_have}
use Rattle.rules.proofs.Nodes.{signal_input, signal_time}
use Rattle.rules.proofs.Signals.{ext_tree, delay_tree, let_tree, switch_tree, group_tree, until_tree, branch_end, branch_on, case_end, case_on}
use Rattle.typing.proofs.ExprLaws.{value_type}

-- A type and a smallest wrong place that are those of signal m.
abbrev Says : Bytes → ℕ → Option ℕ → ℕ → Type 0
Says p t q m = (t ≡ type_s (signal_at p m)) × (q ≡ types_s (signal_at p m))

module _ (p : Bytes) (n : ℕ) (w : NodeOf is_signal p n) where
  input_typed : kind_at p n ≡ 1 → (type_s (signal_at p n) ≡ channel_type (a_at p n)) × (types_s (signal_at p n) ≡ None)
  unfolding type_s types_s
  input_typed e = let x = signal_input p n e in (ap type_s x, ap types_s x)

  ext_typed : kind_at p n ≡ 3
      → (type_s (signal_at p n) ≡ type_e (expr_at p (a_at p n))) × (types_s (signal_at p n) ≡ types_e (expr_at p (a_at p n)))
  unfolding type_s types_s
  ext_typed e = let x = ext_tree p n w e in (ap type_s x, ap types_s x)

  delay_typed : kind_at p n ≡ 4
      → (type_s (signal_at p n) ≡ type_s (signal_at p (a_at p n)))
      × (types_s (signal_at p n) ≡ sooner (wrong_unless (eqb (type_s (signal_at p (a_at p n))) (type_at p n)) n) (types_s (signal_at p (a_at p n))))
  unfolding type_s types_s
  delay_typed e =
      let x = delay_tree p n w e in
      (ap type_s x, ap types_s x ∙ ap (λ (t : ℕ). sooner (wrong_unless (eqb (type_s (signal_at p (a_at p n))) t) n) (types_s (signal_at p (a_at p n)))) (value_type p n))

  let_typed : kind_at p n ≡ 5
      → (type_s (signal_at p n) ≡ type_s (signal_at p (b_at p n)))
      × (types_s (signal_at p n) ≡ sooner (wrong_unless (eqb (type_s (signal_at p (a_at p n))) (type_at p n)) n) (sooner (types_s (signal_at p (a_at p n))) (types_s (signal_at p (b_at p n)))))
  unfolding type_s types_s
  let_typed e = let x = let_tree p n w e in (ap type_s x, ap types_s x)

  switch_typed : kind_at p n ≡ 6
      → (type_s (signal_at p n) ≡ type_s (signal_at p (a_at p n)))
      × (types_s (signal_at p n) ≡ sooner (wrong_unless (eqb (type_s (signal_at p (b_at p n))) (maybe_of (type_at p n)) and eqb (type_s (signal_at p (a_at p n))) (type_s (signal_at p (c_at p n)))) n)
      (sooner (types_s (signal_at p (a_at p n))) (sooner (types_s (signal_at p (b_at p n))) (types_s (signal_at p (c_at p n))))))
  unfolding type_s types_s
  switch_typed e = let x = switch_tree p n w e in (ap type_s x, ap types_s x)

  group_typed : kind_at p n ≡ 7
      → (type_s (signal_at p n) ≡ type_s (signal_at p (a_at p n)))
      × (types_s (signal_at p n) ≡ sooner (wrong_unless (bodies_have (type_s (signal_at p (a_at p n))) (branches_at p (b_at p n))) n) (sooner (types_s (signal_at p (a_at p n))) (types_b (branches_at p (b_at p n)))))
  unfolding type_s types_s
  group_typed e = let x = group_tree p n w e in (ap type_s x, ap types_s x)

  until_typed : kind_at p n ≡ 8
      → (type_s (signal_at p n) ≡ type_s (signal_at p (a_at p n)))
      × (types_s (signal_at p n) ≡ sooner (types_s (signal_at p (a_at p n))) (types_c (cases_at p (b_at p n))))
  unfolding type_s types_s
  until_typed e = let x = until_tree p n w e in (ap type_s x, ap types_s x)

  time_typed : kind_at p n ≡ 2 → (type_s (signal_at p n) ≡ int_t) × (types_s (signal_at p n) ≡ None)
  unfolding type_s types_s
  time_typed e = let x = signal_time p n e in (ap type_s x, ap types_s x)

  -- The type and the smallest wrong place of signal n of each kind, from what is answered for its children.
  pub input_said : {a d t : ℕ} {none q : Option ℕ} → kind_at p n ≡ 1 → a ≡ a_at p n → d ≡ channel_type a → none ≡ None → (t ≡ d) × (q ≡ none) → Says p t q n
  input_said k ea ed en s = let e = input_typed k in (cc (e.0, s.0, ed, ea), cc (e.1, s.1, en))

  pub ext_said : {a t : ℕ} {q : Option ℕ} → kind_at p n ≡ 3 → a ≡ a_at p n → (t ≡ type_e (expr_at p a)) × (q ≡ types_e (expr_at p a)) → Says p t q n
  ext_said k ea s = let e = ext_typed k in (cc (e.0, s.0, ea), cc (e.1, s.1, ea))

  pub delay_said : {a d tx t : ℕ} {x q : Option ℕ} → kind_at p n ≡ 4 → d ≡ type_at p n → a ≡ a_at p n → Says p tx x a
      → (t ≡ tx) × (q ≡ sooner (wrong_unless (eqb tx d) n) x)
      → Says p t q n
  delay_said k ed ea sx s = let e = delay_typed k in (cc (e.0, s.0, sx.0, ea), cc (e.1, s.1, sx.0, sx.1, ed, ea))

  pub let_said : {a b d tx ty t : ℕ} {x y q : Option ℕ} → kind_at p n ≡ 5 → d ≡ type_at p n → a ≡ a_at p n → b ≡ b_at p n → Says p tx x a → Says p ty y b
      → (t ≡ ty) × (q ≡ sooner (wrong_unless (eqb tx d) n) (sooner x y))
      → Says p t q n
  let_said k ed ea eb sx sy s = let e = let_typed k in (cc (e.0, s.0, sy.0, eb), cc (e.1, s.1, sx.0, sx.1, sy.1, ed, ea, eb))

  pub switch_said : {a b c d tx ty tz t : ℕ} {x y z q : Option ℕ} → kind_at p n ≡ 6 → d ≡ type_at p n → a ≡ a_at p n → b ≡ b_at p n → c ≡ c_at p n → Says p tx x a → Says p ty y b → Says p tz z c
      → (t ≡ tx) × (q ≡ sooner (wrong_unless (eqb ty (maybe_of d) and eqb tx tz) n) (sooner x (sooner y z)))
      → Says p t q n
  switch_said k ed ea eb ec sx sy sz s = let e = switch_typed k in (cc (e.0, s.0, sx.0, ea), cc (e.1, s.1, sx.0, sy.0, sz.0, sx.1, sy.1, sz.1, ed, ea, eb, ec))

  pub group_said : {a b u tx t : ℕ} {same : Bool} {x y q : Option ℕ} → kind_at p n ≡ 7 → a ≡ a_at p n → b ≡ b_at p n → Says p tx x a → u ≡ tx
      → (same ≡ bodies_have u (branches_at p b)) × (y ≡ types_b (branches_at p b))
      → (t ≡ tx) × (q ≡ sooner (wrong_unless same n) (sooner x y))
      → Says p t q n
  group_said k ea eb sx eu sy s = let e = group_typed k in (cc (e.0, s.0, sx.0, ea), cc (e.1, s.1, sx.0, sx.1, sy.0, sy.1, eu, ea, eb))

  pub until_said : {a b u tx t : ℕ} {x at y least q : Option ℕ} → kind_at p n ≡ 8 → a ≡ a_at p n → b ≡ b_at p n → Says p tx x a → u ≡ tx → at ≡ x
      → y ≡ types_c (cases_at p b) → least ≡ sooner at y → (t ≡ u) × (q ≡ least)
      → Says p t q n
  until_said k ea eb sx eu ex sy el s = let e = until_typed k in (cc (e.0, s.0, sx.0, eu, ea), cc (e.1, s.1, sx.1, sy, el, ex, ea, eb))

  pub time_said : {t : ℕ} {none q : Option ℕ} → kind_at p n ≡ 2 → none ≡ None → (t ≡ int_t) × (q ≡ none) → Says p t q n
  time_said k en s = let e = time_typed k in (cc (e.0, s.0), cc (e.1, s.1, en))

module _ (p : Bytes) (n : ℕ) (w : NodeOf is_branch p n) where
  branch_last : (t : ℕ) → b_at p n ≡ 65535
      → (bodies_have t (branches_at p n) ≡ (eqb (type_s (signal_at p (a_at p n))) t and true))
      × (types_b (branches_at p n) ≡ sooner (types_s (signal_at p (a_at p n))) None)
  unfolding bodies_have types_b
  branch_last t e =
      let x = branch_end p n w e in
      (ap (bodies_have t) x, ap types_b x)

  branch_more : (t : ℕ) → (b_at p n ≡ 65535 → ⊥)
      → (bodies_have t (branches_at p n) ≡ (eqb (type_s (signal_at p (a_at p n))) t and bodies_have t (branches_at p (b_at p n))))
      × (types_b (branches_at p n) ≡ sooner (types_s (signal_at p (a_at p n))) (types_b (branches_at p (b_at p n))))
  unfolding bodies_have types_b
  branch_more t d =
      let x = branch_on p n w d in
      (ap (bodies_have t) x, ap types_b x)

  -- What is asked of a list of branches, from what is answered for the body of its first and for the list behind it.
  abbrev Lists : ℕ → Bool → Option ℕ → ℕ → Type 0
  Lists t same q m = (same ≡ bodies_have t (branches_at p m)) × (q ≡ types_b (branches_at p m))

  pub last_said : (t : ℕ) {a u tx : ℕ} {both same : Bool} {x at none least q : Option ℕ} → b_at p n ≡ 65535 → a ≡ a_at p n → Says p tx x a → at ≡ x → u ≡ tx
      → both ≡ (eqb u t and true) → none ≡ None → least ≡ sooner at none → (same ≡ both) × (q ≡ least)
      → Lists t same q n
  last_said t z ea sx ex eu eb en el s = let e = branch_last t z in (cc (e.0, s.0, eb, eu, sx.0, ea), cc (e.1, s.1, el, en, ex, sx.1, ea))

  pub more_said : (t : ℕ) {a b u tx : ℕ} {rest held both same : Bool} {x at y behind least q : Option ℕ} → (b_at p n ≡ 65535 → ⊥) → a ≡ a_at p n → b ≡ b_at p n → Says p tx x a → Lists t rest y b
      → at ≡ x → u ≡ tx → held ≡ rest → behind ≡ y → both ≡ (eqb u t and held) → least ≡ sooner at behind → (same ≡ both) × (q ≡ least)
      → Lists t same q n
  more_said t z ea eb sx sy ex eu eh ey ed el s = let e = branch_more t z in (cc (e.0, s.0, ed, eu, eh, sx.0, sy.0, ea, eb), cc (e.1, s.1, el, ex, ey, sx.1, sy.1, ea, eb))

module _ (p : Bytes) (n : ℕ) (w : NodeOf is_case p n) where
  case_last : b_at p n ≡ 65535
      → types_c (cases_at p n) ≡ sooner (wrong_unless (eqb (type_s (signal_at p (a_at p n))) (maybe_of (type_at p (c_at p n)))) n) (sooner (types_s (signal_at p (a_at p n))) None)
  unfolding types_c
  case_last e = ap types_c (case_end p n w e)

  case_more : (b_at p n ≡ 65535 → ⊥)
      → types_c (cases_at p n) ≡ sooner (wrong_unless (eqb (type_s (signal_at p (a_at p n))) (maybe_of (type_at p (c_at p n)))) n) (sooner (types_s (signal_at p (a_at p n))) (types_c (cases_at p (b_at p n))))
  unfolding types_c
  case_more d = ap types_c (case_on p n w d)

  -- The smallest wrong place of a list of cases, from what is answered for its first event and for the list behind it.
  pub last_case_said : {a c d u tx : ℕ} {right : Bool} {x at none q : Option ℕ} → b_at p n ≡ 65535 → a ≡ a_at p n → c ≡ c_at p n → Says p tx x a → u ≡ tx → d ≡ type_at p c
      → right ≡ eqb u (maybe_of d) → at ≡ x → none ≡ None → q ≡ sooner (wrong_unless right n) (sooner at none)
      → q ≡ types_c (cases_at p n)
  last_case_said z ea ec sx eu ed er ex en s = cc (case_last z, s, er, eu, ed, ex, en, sx.0, sx.1, ea, ec)

  pub more_case_said : {a b c d u tx : ℕ} {right : Bool} {x at y q : Option ℕ} → (b_at p n ≡ 65535 → ⊥) → a ≡ a_at p n → b ≡ b_at p n → c ≡ c_at p n → Says p tx x a → u ≡ tx → d ≡ type_at p c
      → right ≡ eqb u (maybe_of d) → at ≡ x → y ≡ types_c (cases_at p b) → q ≡ sooner (wrong_unless right n) (sooner at y)
      → q ≡ types_c (cases_at p n)
  more_case_said z ea eb ec sx eu ed er ex sy s = cc (case_more z, s, er, eu, ed, ex, sx.0, sx.1, sy, ea, eb, ec)
