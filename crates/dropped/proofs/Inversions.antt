-- Trees of a table with lets dropped, taken apart: what a node and its old one have in common, and the let bodies that are passed.
-- Assumes nothing.
use Rattle.std.specs.Prelude.{if◌then◌else◌}
use mathlib.Core.Path.{◌≡◌, refl, sym, ap, ◌∙◌, subst}
use mathlib.Core.Logic.{◌⊎◌, inl, inr}
use mathlib.Core.Bool.{Bool, true, false, not}
use Prim.Native.Nat.{ℕ, zero, suc, ◌-◌, ◌<◌}
use native.Mathlib.Nat.{not-suc-le-zero}
use native.Mathlib.Omega.{arith}
use lib.Dec.{eqb, leb}
use borrow.Author.Tests.{eqb-true, eq-eqb, leb-true}
use Rattle.rules.specs.Bytes.{Bytes, ◌and◌, ◌or◌}
use Rattle.rules.specs.Values.{is_plain, is_maybe, is_type, type_of, value_from, value_fits}
use Rattle.rules.specs.Layout.{nodes, kind_at, type_at, a_at, b_at, c_at, word_at}
use Rattle.rules.specs.Kinds.{is_signal, is_expression, fields_of}
use Rattle.rules.specs.Format.{field_wrong, type_field_wrong, node_wrong}
use Rattle.rules.specs.Shaped.{NodeOf}
use Rattle.rules.specs.Accepted.{Formed}
use Rattle.rules.specs.Tree.{Expr, variable, constant, operation, negation, choice, just, taking, Signal, input, time, ext, delay, let_signal, switch, group, until, Branches, no_branch, branch, Cases, no_case, case, expr_at, signal_at}
use Rattle.rules.specs.declared.Value.{Value}
use Rattle.rules.specs.declared.Value.TheVariants.{Plain, Absent, Present}
use Rattle.rules.proofs.Static.{and_both, not_both, or_left, or_right}
use Rattle.rules.proofs.Kids.{or_none, not_not}
use Rattle.rules.proofs.Nodes.{expr_variable, expr_constant, signal_input, signal_time}
use Rattle.rules.proofs.Expressions.{negation_tree, just_tree, choice_tree, taking_tree, operation_tree}
use Rattle.rules.proofs.Signals.{less, ext_tree, delay_tree, let_kids, let_tree, switch_tree, group_tree, until_tree}
use Rattle.rules.proofs.ByKind.{ExpressionKind, is_variable, is_constant, is_negation, is_choice, is_just, is_taking, is_operation, SignalKind, is_input, is_time, is_ext, is_delay, is_let, is_switch, is_group, is_until, signal_kind, choose}
use Rattle.rules.proofs.Recorded.{node_right}
use Rattle.promises.proofs.ValidLaws.{and_join, or_cases}
use Rattle.dropped.specs.Less.{LessE, variables, constants, operations, negations, choices, justs, takings, LessS, inputs, times, exts, delays, lets, dropped, switches, groups, untils, LessB, no_branches, branches, LessC, no_cases, cases}
use Rattle.dropped.specs.Pairing.{reaches_f}

-- A signal that is kept.
pub data KeptS (π : ℕ → ℕ) : Signal → Signal → Type 0 where
  input_kept : {n n' c : ℕ} → n ≡ π n' → KeptS π (input n c) (input n' c)
  time_kept : {n n' : ℕ} → n ≡ π n' → KeptS π (time n) (time n')
  ext_kept : {n n' : ℕ} {e e' : Expr} → n ≡ π n' → LessE π e e' → KeptS π (ext n e) (ext n' e')
  delay_kept : {n n' k k' : ℕ} {v : Value} {s s' : Signal} → n ≡ π n' → LessS π s s' → KeptS π (delay n k v s) (delay n' k' v s')
  let_kept : {n n' t : ℕ} {d b d' b' : Signal} → n ≡ π n' → LessS π d d' → LessS π b b' → KeptS π (let_signal n t d b) (let_signal n' t d' b')
  switch_kept : {n n' k k' t : ℕ} {x e y x' e' y' : Signal} → n ≡ π n' → LessS π x x' → LessS π e e' → LessS π y y'
      → KeptS π (switch n k t x e y) (switch n' k' t x' e' y')
  group_kept : {n n' k k' : ℕ} {body body' : Signal} {brs brs' : Branches} → n ≡ π n' → LessS π body body' → LessB π brs brs'
      → KeptS π (group n k body brs) (group n' k' body' brs')
  until_kept : {n n' : ℕ} {s s' : Signal} {cs cs' : Cases} → n ≡ π n' → LessS π s s' → LessC π cs cs' → KeptS π (until n s cs) (until n' s' cs')

-- Kind and number of a tree's top.
unfoldable pub tag_s : Signal → ℕ
tag_s (input n c) = 1
tag_s (time n) = 2
tag_s (ext n e) = 3
tag_s (delay n k v s) = 4
tag_s (let_signal n t d b) = 5
tag_s (switch n k t x e y) = 6
tag_s (group n k body brs) = 7
tag_s (until n s cs) = 8

unfoldable pub num_s : Signal → ℕ
num_s (input n c) = n
num_s (time n) = n
num_s (ext n e) = n
num_s (delay n k v s) = n
num_s (let_signal n t d b) = n
num_s (switch n k t x e y) = n
num_s (group n k body brs) = n
num_s (until n s cs) = n

pub kept_of : {π : ℕ → ℕ} {s s' : Signal} → LessS π s s' → (tag_s s ≡ 5 → ⊥) → KeptS π s s'
unfolding tag_s
kept_of (inputs a) h = input_kept a
kept_of (times a) h = time_kept a
kept_of (exts a e) h = ext_kept a e
kept_of (delays a s) h = delay_kept a s
kept_of (lets a d b) h = let_kept a d b
kept_of (dropped b) h = absurd (h refl)
kept_of (switches a x e y) h = switch_kept a x e y
kept_of (groups a b bs) h = group_kept a b bs
kept_of (untils a s cs) h = until_kept a s cs

pub let_or : {π : ℕ → ℕ} {n t : ℕ} {d b s' : Signal} → LessS π (let_signal n t d b) s' → KeptS π (let_signal n t d b) s' ⊎ LessS π b s'
let_or (lets a d b) = inl (let_kept a d b)
let_or (dropped b) = inr b

pub kept_tag : {π : ℕ → ℕ} {s s' : Signal} → KeptS π s s' → tag_s s ≡ tag_s s'
unfolding tag_s
kept_tag (input_kept a) = refl
kept_tag (time_kept a) = refl
kept_tag (ext_kept a e) = refl
kept_tag (delay_kept a s) = refl
kept_tag (let_kept a d b) = refl
kept_tag (switch_kept a x e y) = refl
kept_tag (group_kept a b bs) = refl
kept_tag (until_kept a s cs) = refl

pub kept_num : {π : ℕ → ℕ} {s s' : Signal} → KeptS π s s' → num_s s ≡ π (num_s s')
unfolding num_s
kept_num (input_kept a) = a
kept_num (time_kept a) = a
kept_num (ext_kept a e) = a
kept_num (delay_kept a s) = a
kept_num (let_kept a d b) = a
kept_num (switch_kept a x e y) = a
kept_num (group_kept a b bs) = a
kept_num (until_kept a s cs) = a

module _ (p : Bytes) (n : ℕ) (w : NodeOf is_signal p n) where
  tag_by : SignalKind (kind_at p n) → tag_s (signal_at p n) ≡ kind_at p n
  unfolding tag_s
  tag_by (is_input e) = ap tag_s (signal_input p n e) ∙ sym e
  tag_by (is_time e) = ap tag_s (signal_time p n e) ∙ sym e
  tag_by (is_ext e) = ap tag_s (ext_tree p n w e) ∙ sym e
  tag_by (is_delay e) = ap tag_s (delay_tree p n w e) ∙ sym e
  tag_by (is_let e) = ap tag_s (let_tree p n w e) ∙ sym e
  tag_by (is_switch e) = ap tag_s (switch_tree p n w e) ∙ sym e
  tag_by (is_group e) = ap tag_s (group_tree p n w e) ∙ sym e
  tag_by (is_until e) = ap tag_s (until_tree p n w e) ∙ sym e

  pub tag_at : tag_s (signal_at p n) ≡ kind_at p n
  tag_at = tag_by (signal_kind (kind_at p n) w.sorted)

  num_by : SignalKind (kind_at p n) → num_s (signal_at p n) ≡ n
  unfolding num_s
  num_by (is_input e) = ap num_s (signal_input p n e)
  num_by (is_time e) = ap num_s (signal_time p n e)
  num_by (is_ext e) = ap num_s (ext_tree p n w e)
  num_by (is_delay e) = ap num_s (delay_tree p n w e)
  num_by (is_let e) = ap num_s (let_tree p n w e)
  num_by (is_switch e) = ap num_s (switch_tree p n w e)
  num_by (is_group e) = ap num_s (group_tree p n w e)
  num_by (is_until e) = ap num_s (until_tree p n w e)

  pub num_at : num_s (signal_at p n) ≡ n
  num_at = num_by (signal_kind (kind_at p n) w.sorted)

-- A node reaches itself, and what its body reaches if it is a let.
pub reach_self : (p : Bytes) (f y : ℕ) → reaches_f (suc f) p y y ≡ true
unfolding reaches_f
reach_self p f y = or_left _ _ (eq-eqb y y refl)

pub reach_on : (p : Bytes) (f y z : ℕ) → kind_at p y ≡ 5 → reaches_f f p (b_at p y) z ≡ true → reaches_f (suc f) p y z ≡ true
unfolding reaches_f
reach_on p f y z e h = or_right _ _ (and_join _ _ (eq-eqb (kind_at p y) 5 e) h)

-- The first kept node on the way down through dropped lets.
pub record Stripped (π : ℕ → ℕ) (p : Bytes) (f y : ℕ) (s' : Signal) : Type 0 where
  pub z : ℕ
  pub node : NodeOf is_signal p z
  pub reach : reaches_f f p y z ≡ true
  pub kept : KeptS π (signal_at p z) s'

pub strip : {π : ℕ → ℕ} (p : Bytes) (f y : ℕ) (s' : Signal) → y < f → NodeOf is_signal p y → LessS π (signal_at p y) s' → Stripped π p f y s'
strip p zero y s' h w x = absurd (not-suc-le-zero h)
strip {π} p (suc f) y s' h w x =
    choose (kind_at p y) 5
    (λ e. go e (let_or (subst (λ (s : Signal). LessS π s s') (let_tree p y w e) x)) (λ v g. strip p f (b_at p y) s' (omega (arith, (let_kids p y w e).1.less)) v g))
    (λ d. record { z = y; node = w; reach = reach_self p f y; kept = kept_of x (λ t. d (sym (tag_at p y w) ∙ t)) })
  where
    go : (e : kind_at p y ≡ 5)
        → KeptS π (let_signal y (type_at p y) (signal_at p (a_at p y)) (signal_at p (b_at p y))) s' ⊎ LessS π (signal_at p (b_at p y)) s'
        → (NodeOf is_signal p (b_at p y) → LessS π (signal_at p (b_at p y)) s' → Stripped π p f (b_at p y) s') → Stripped π p (suc f) y s'
    go e (inl k) more = record { z = y; node = w; reach = reach_self p f y; kept = subst (λ (s : Signal). KeptS π s s') (sym (let_tree p y w e)) k }
    go e (inr g) more =
        let r = more (let_kids p y w e).1.node g in
        record { z = r.z; node = r.node; reach = reach_on p f y r.z e r.reach; kept = r.kept }

-- What code 4 says of the fields of a node of kind k.
pub record Named (p : Bytes) (n k : ℕ) : Type 0 where
  pub of_type : type_field_wrong (fields_of k).ty (type_at p n) (b_at p n) (word_at p n) ≡ false
  pub of_a : field_wrong (fields_of k).a (a_at p n) ≡ false
  pub of_b : field_wrong (fields_of k).b (b_at p n) ≡ false
  pub of_c : field_wrong (fields_of k).c (c_at p n) ≡ false

pub named_at : (p : Bytes) → Formed p → (n k : ℕ) → n < nodes p → kind_at p n ≡ k → Named p n k
unfolding node_wrong
named_at p f n k l e =
    let c = or_none _ _ (node_right p f n l) in
    let b = or_none _ _ c.0 in
    let a = or_none _ _ b.0 in
    let t = or_none _ _ a.0 in
    record { of_type = rw (← e) t.1; of_a = rw (← e) a.1; of_b = rw (← e) b.1; of_c = rw (← e) c.1 }

-- Fields that are not named are zero in both.
pub zero_field : (x : ℕ) → not (eqb x 0) ≡ false → x ≡ 0
zero_field x h = eqb-true x 0 (not_not _ h)

pub zeros_right : (x y : ℕ) → not (eqb x 0) ≡ false → not (eqb y 0) ≡ false → eqb x y ≡ true
zeros_right x y h g = eq-eqb x y (zero_field x h ∙ sym (zero_field y g))

pub no_type : (t w : ℕ) → not (eqb t 0 and eqb w 0) ≡ false → (t ≡ 0) × (w ≡ 0)
no_type t w h = let a = and_both _ _ (not_not _ h) in (eqb-true t 0 a.0, eqb-true w 0 a.1)

pub zero_word : (a : Bool) (w : ℕ) → not (a and eqb w 0) ≡ false → w ≡ 0
zero_word a w h = eqb-true w 0 (and_both _ _ (not_not _ h)).1

-- Present byte and word of a value.
unfoldable pub present_of : Value → ℕ
present_of (Plain t w) = 1
present_of (Absent t) = 0
present_of (Present t w) = 1

unfoldable pub word_of : Value → ℕ
word_of (Plain t w) = w
word_of (Absent t) = 0
word_of (Present t w) = w

pub record Parts (v : Value) (t b w : ℕ) : Type 0 where
  pub type_of_lem : type_of v ≡ t
  pub present_of_lem : present_of v ≡ b
  pub word_of_lem : word_of v ≡ w

pub parts : (t b w : ℕ) → value_fits t b w ≡ true → Parts (value_from t b w) t b w
unfolding value_from value_fits type_of present_of word_of is_plain is_maybe
parts t b w g =
    let a = and_both _ _ (and_both _ _ (and_both _ _ g).0).0 in
    go (leb 1 t and leb t 3) (eqb b 0) refl refl (or_cases _ _ a.0) (or_cases _ _ a.1)
  where
    go : (m z : Bool) → (leb 1 t and leb t 3) ≡ m → eqb b 0 ≡ z → (eqb b 1 ≡ true) ⊎ ((eqb b 0 and (leb 5 t and leb t 7)) ≡ true)
        → (eqb w 0 ≡ true) ⊎ (eqb b 1 ≡ true)
        → Parts (if m then Plain t w else if z then Absent t else Present t w) t b w
    go true z e f (inl x) y = record { type_of_lem = refl; present_of_lem = sym (eqb-true b 1 x); word_of_lem = refl }
    go true z e f (inr x) y =
        let lo = leb-true t 3 (and_both _ _ e).1 in
        let hi = leb-true 5 t (and_both _ _ (and_both _ _ x).1).0 in
        absurd (omega arith)
    go false true e f x (inl y) = record { type_of_lem = refl; present_of_lem = sym (eqb-true b 0 f); word_of_lem = sym (eqb-true w 0 y) }
    go false true e f x (inr y) =
        let n = eqb-true b 0 f in
        let o = eqb-true b 1 y in
        absurd (omega arith)
    go false false e f (inl x) y = record { type_of_lem = refl; present_of_lem = sym (eqb-true b 1 x); word_of_lem = refl }
    go false false e f (inr x) y = absurd (not_both (sym f ∙ (and_both _ _ x).0))

-- Equal values have equal fields.
pub record SameFields (t b w t' b' w' : ℕ) : Type 0 where
  pub types : t ≡ t'
  pub presents : b ≡ b'
  pub words : w ≡ w'

pub same_fields : (t b w t' b' w' : ℕ) → not (is_type t and value_fits t b w) ≡ false → not (is_type t' and value_fits t' b' w') ≡ false
    → value_from t b w ≡ value_from t' b' w' → SameFields t b w t' b' w'
same_fields t b w t' b' w' h g e =
    let x = parts t b w (and_both _ _ (not_not _ h)).1 in
    let y = parts t' b' w' (and_both _ _ (not_not _ g)).1 in
    record {
      types = sym x.type_of_lem ∙ ap type_of e ∙ y.type_of_lem;
      presents = sym x.present_of_lem ∙ ap present_of e ∙ y.present_of_lem;
      words = sym x.word_of_lem ∙ ap word_of e ∙ y.word_of_lem;
    }

-- What pairs of kept trees say of their parts.
pub inv_input : {π : ℕ → ℕ} {n n' c c' : ℕ} → KeptS π (input n c) (input n' c') → c ≡ c'
inv_input (input_kept a) = refl

pub inv_ext : {π : ℕ → ℕ} {n n' : ℕ} {e e' : Expr} → KeptS π (ext n e) (ext n' e') → LessE π e e'
inv_ext (ext_kept a e) = e

pub inv_delay : {π : ℕ → ℕ} {n n' k k' : ℕ} {v v' : Value} {s s' : Signal} → KeptS π (delay n k v s) (delay n' k' v' s') → (v ≡ v') × LessS π s s'
inv_delay (delay_kept a s) = (refl, s)

pub inv_let : {π : ℕ → ℕ} {n n' t t' : ℕ} {d b d' b' : Signal} → KeptS π (let_signal n t d b) (let_signal n' t' d' b') → (t ≡ t') × LessS π d d' × LessS π b b'
inv_let (let_kept a d b) = (refl, d, b)

pub inv_switch : {π : ℕ → ℕ} {n n' k k' t t' : ℕ} {x e y x' e' y' : Signal} → KeptS π (switch n k t x e y) (switch n' k' t' x' e' y')
    → (t ≡ t') × LessS π x x' × LessS π e e' × LessS π y y'
inv_switch (switch_kept a x e y) = (refl, x, e, y)

pub inv_group : {π : ℕ → ℕ} {n n' k k' : ℕ} {b b' : Signal} {bs bs' : Branches} → KeptS π (group n k b bs) (group n' k' b' bs') → LessS π b b' × LessB π bs bs'
inv_group (group_kept a b bs) = (b, bs)

pub inv_until : {π : ℕ → ℕ} {n n' : ℕ} {s s' : Signal} {cs cs' : Cases} → KeptS π (until n s cs) (until n' s' cs') → LessS π s s' × LessC π cs cs'
inv_until (until_kept a s cs) = (s, cs)

pub inv_branch : {π : ℕ → ℕ} {n n' t t' : ℕ} {b b' : Signal} {bs bs' : Branches} → LessB π (branch n t b bs) (branch n' t' b' bs')
    → (n ≡ π n') × (t ≡ t') × LessS π b b' × LessB π bs bs'
inv_branch (branches a b bs) = (a, refl, b, bs)

-- A list that is empty goes with an empty one.
unfoldable pub some_b : Branches → ℕ
some_b no_branch = 0
some_b (branch n t b bs) = 1

pub some_branch : {π : ℕ → ℕ} {s s' : Branches} → LessB π s s' → some_b s ≡ some_b s'
unfolding some_b
some_branch no_branches = refl
some_branch (branches a b bs) = refl

unfoldable pub some_c : Cases → ℕ
some_c no_case = 0
some_c (case n e g t cs) = 1

pub some_case : {π : ℕ → ℕ} {s s' : Cases} → LessC π s s' → some_c s ≡ some_c s'
unfolding some_c
some_case no_cases = refl
some_case (cases a g e cs) = refl

pub inv_case : {π : ℕ → ℕ} {n n' g g' t t' : ℕ} {e e' : Signal} {cs cs' : Cases} → LessC π (case n e g t cs) (case n' e' g' t' cs')
    → (n ≡ π n') × (g ≡ π g') × LessS π e e' × LessC π cs cs'
inv_case (cases a g e cs) = (a, g, e, cs)

-- Expressions: kind and number.
unfoldable pub tag_e : Expr → ℕ
tag_e (variable n b t) = 16
tag_e (constant n v) = 17
tag_e (operation n k x y) = k
tag_e (negation n x) = 24
tag_e (choice n c x y) = 27
tag_e (just n x) = 28
tag_e (taking n t m x y) = 29

unfoldable pub num_e : Expr → ℕ
num_e (variable n b t) = n
num_e (constant n v) = n
num_e (operation n k x y) = n
num_e (negation n x) = n
num_e (choice n c x y) = n
num_e (just n x) = n
num_e (taking n t m x y) = n

pub less_tag_e : {π : ℕ → ℕ} {e e' : Expr} → LessE π e e' → tag_e e ≡ tag_e e'
unfolding tag_e
less_tag_e (variables a b) = refl
less_tag_e (constants a) = refl
less_tag_e (operations a x y) = refl
less_tag_e (negations a x) = refl
less_tag_e (choices a c x y) = refl
less_tag_e (justs a x) = refl
less_tag_e (takings a m x y) = refl

pub less_num_e : {π : ℕ → ℕ} {e e' : Expr} → LessE π e e' → num_e e ≡ π (num_e e')
unfolding num_e
less_num_e (variables a b) = a
less_num_e (constants a) = a
less_num_e (operations a x y) = a
less_num_e (negations a x) = a
less_num_e (choices a c x y) = a
less_num_e (justs a x) = a
less_num_e (takings a m x y) = a

module _ (p : Bytes) (n : ℕ) (w : NodeOf is_expression p n) where
  pub tag_e_by : ExpressionKind (kind_at p n) → tag_e (expr_at p n) ≡ kind_at p n
  unfolding tag_e
  tag_e_by (is_variable e) = ap tag_e (expr_variable p n e) ∙ sym e
  tag_e_by (is_constant e) = ap tag_e (expr_constant p n e) ∙ sym e
  tag_e_by (is_negation e) = ap tag_e (negation_tree p n w e) ∙ sym e
  tag_e_by (is_choice e) = ap tag_e (choice_tree p n w e) ∙ sym e
  tag_e_by (is_just e) = ap tag_e (just_tree p n w e) ∙ sym e
  tag_e_by (is_taking e) = ap tag_e (taking_tree p n w e) ∙ sym e
  tag_e_by (is_operation o) = ap tag_e (operation_tree p n w o)

  pub num_e_by : ExpressionKind (kind_at p n) → num_e (expr_at p n) ≡ n
  unfolding num_e
  num_e_by (is_variable e) = ap num_e (expr_variable p n e)
  num_e_by (is_constant e) = ap num_e (expr_constant p n e)
  num_e_by (is_negation e) = ap num_e (negation_tree p n w e)
  num_e_by (is_choice e) = ap num_e (choice_tree p n w e)
  num_e_by (is_just e) = ap num_e (just_tree p n w e)
  num_e_by (is_taking e) = ap num_e (taking_tree p n w e)
  num_e_by (is_operation o) = ap num_e (operation_tree p n w o)

pub inv_variable : {π : ℕ → ℕ} {n n' b b' t t' : ℕ} → LessE π (variable n b t) (variable n' b' t') → b ≡ π b'
inv_variable (variables a b) = b

pub inv_constant : {π : ℕ → ℕ} {n n' : ℕ} {v v' : Value} → LessE π (constant n v) (constant n' v') → v ≡ v'
inv_constant (constants a) = refl

pub inv_operation : {π : ℕ → ℕ} {n n' k k' : ℕ} {x y x' y' : Expr} → LessE π (operation n k x y) (operation n' k' x' y') → LessE π x x' × LessE π y y'
inv_operation (operations a x y) = (x, y)

pub inv_negation : {π : ℕ → ℕ} {n n' : ℕ} {x x' : Expr} → LessE π (negation n x) (negation n' x') → LessE π x x'
inv_negation (negations a x) = x

pub inv_choice : {π : ℕ → ℕ} {n n' : ℕ} {c x y c' x' y' : Expr} → LessE π (choice n c x y) (choice n' c' x' y') → LessE π c c' × LessE π x x' × LessE π y y'
inv_choice (choices a c x y) = (c, x, y)

pub inv_just : {π : ℕ → ℕ} {n n' : ℕ} {x x' : Expr} → LessE π (just n x) (just n' x') → LessE π x x'
inv_just (justs a x) = x

pub inv_taking : {π : ℕ → ℕ} {n n' t t' : ℕ} {c x y c' x' y' : Expr} → LessE π (taking n t c x y) (taking n' t' c' x' y')
    → (t ≡ t') × LessE π c c' × LessE π x x' × LessE π y y'
inv_taking (takings a c x y) = (refl, c, x, y)
