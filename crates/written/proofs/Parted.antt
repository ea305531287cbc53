-- A tree whose records are right gives a right part.
-- Assumes nothing.
use Rattle.std.specs.Prelude.{if◌then◌else◌}
use mathlib.Core.Path.{◌≡◌, refl, sym, ap, ◌∙◌}
use mathlib.Core.Bool.{Bool, true, false, not}
use Prim.Native.Nat.{ℕ, zero, suc, ◌+◌, ◌<◌, ◌≤◌}
use native.Mathlib.Omega.{arith}
use lib.Dec.{eqb, leb, ltb}
use borrow.Author.Tests.{leb-true, leb-false, le-leb, lt-leb, le-ltb, ne_eqb}
use Rattle.rules.specs.Bytes.{◌and◌, ◌or◌}
use Rattle.rules.specs.Layout.{no_next}
use Rattle.rules.specs.Values.{is_type, is_plain, is_maybe, type_of, value_fits}
use Rattle.rules.specs.Kinds.{row, is_signal, is_expression, is_branch, is_case, is_kind, fields_of}
use Rattle.rules.specs.Format.{field_wrong, type_field_wrong}
use Rattle.rules.specs.Shape.{is_child, may_be, may_stop}
use Rattle.rules.specs.Size.{size_e, size_s, size_b, size_c}
use Rattle.rules.specs.Tree.{Expr, variable, constant, operation, negation, choice, just, taking, Signal, input, time, ext, delay, let_signal, switch, group, until, Branches, no_branch, branch, Cases, no_case, case}
use Rattle.rules.specs.declared.Value.{Value}
use Rattle.rules.specs.declared.Fields.{Fields}
use Rattle.rules.specs.declared.TypeField.TheVariants.{NoType, AnyType, PlainType, ValueType}
use Rattle.rules.specs.declared.Field.{Field}
use Rattle.rules.specs.declared.Field.TheVariants.{Unused, Channel, PresentByte, Expression, FirstBranch, NextBranch, FirstCase, NextCase, Binder, Target}
use Rattle.rules.proofs.Static.{and_both, not_both}
use Rattle.written.specs.Parts.{Part, part, Slot, holds, child, size_p, size_k, field_k}
use Rattle.written.specs.Written.{present_of, word_of, part_e, part_s, slot_b, slot_c}
use Rattle.written.specs.Right.{kind_p, Fits, plain, stops, HeadRight, RightP, RightK, ValueRight, Operates, RightE, RightS, RightB, RightC, SomeB, SomeC}

-- Types are small.
type_cases : (t : ℕ) (b c : Bool) → leb t 3 ≡ b → leb t 7 ≡ c → is_type t ≡ true → t < 256
unfolding is_type is_plain is_maybe ◌and◌ ◌or◌
type_cases t true c h g e = omega (arith, leb-true t 3 h)
type_cases t false true h g e = omega (arith, leb-true t 7 g)
type_cases t false false h g e = absurd (no (leb 1 t) (leb 5 t) (rw (h, g) at e))
  where
    no : (a b : Bool) → ((a and false) or (b and false)) ≡ true → ⊥
    no true true z = not_both z
    no true false z = not_both z
    no false true z = not_both z
    no false false z = not_both z

type_small : (t : ℕ) → is_type t ≡ true → t < 256
type_small t e = type_cases t (leb t 3) (leb t 7) refl refl e

plain_type_lem : (t : ℕ) → is_plain t ≡ true → is_type t ≡ true
unfolding is_type ◌or◌
plain_type_lem t e = simp e

-- The fields of an operation.
not_less : (k m : ℕ) → m < k → eqb k m ≡ false
not_less k m h = ne_eqb k m λ e. omega arith

pub operation_row : (k : ℕ) → Operates k → fields_of k ≡ row NoType Expression Expression Unused
unfolding is_expression fields_of ◌and◌
operation_row k o =
    let b = and_both _ _ o.expression in
    split (leb-true 16 k b.0) (leb-true k 29 b.1) (leb k 23) refl
  where
    low : 16 ≤ k → k ≤ 23 → fields_of k ≡ row NoType Expression Expression Unused
    low l u =
        let m : 18 ≤ k = omega (arith, o.no16, o.no17) in
        simp (
          not_less k 1 (omega arith),
          not_less k 3 (omega arith),
          not_less k 4 (omega arith),
          not_less k 5 (omega arith),
          not_less k 6 (omega arith),
          not_less k 7 (omega arith),
          not_less k 8 (omega arith),
          not_less k 9 (omega arith),
          not_less k 10 (omega arith),
          not_less k 16 (omega arith),
          not_less k 17 (omega arith),
          le-leb 18 k m,
          le-leb k 23 u,
        )

    high : k ≤ 29 → 23 < k → fields_of k ≡ row NoType Expression Expression Unused
    high g u =
        let m : k ≤ 26 = omega (arith, o.no27, o.no28, o.no29) in
        let m' : 25 ≤ k = omega (arith, o.no24) in
        simp (
          not_less k 1 (omega arith),
          not_less k 3 (omega arith),
          not_less k 4 (omega arith),
          not_less k 5 (omega arith),
          not_less k 6 (omega arith),
          not_less k 7 (omega arith),
          not_less k 8 (omega arith),
          not_less k 9 (omega arith),
          not_less k 10 (omega arith),
          not_less k 16 (omega arith),
          not_less k 17 (omega arith),
          not_less k 24 (omega arith),
          le-leb 18 k (omega arith),
          lt-leb k 23 u,
          le-leb 25 k m',
          le-leb k 26 m,
        )

    split : 16 ≤ k → k ≤ 29 → (b : Bool) → leb k 23 ≡ b → fields_of k ≡ row NoType Expression Expression Unused
    split l g true e = low l (leb-true k 23 e)
    split l g false e = high g (leb-false k 23 e)

-- Heads, by what the type field is.
no_type : (k : ℕ) (b : Slot) → is_kind k ≡ true → k < 256 → (fields_of k).ty ≡ NoType → HeadRight k 0 0 b
unfolding type_field_wrong ◌and◌
no_type k b h g e = record { kind_right = h; kind_small = g; type_right = λ lo. rw e refl; type_small = omega arith; word_small = omega arith }

any_type : (k t : ℕ) (b : Slot) → is_kind k ≡ true → k < 256 → (fields_of k).ty ≡ AnyType → is_type t ≡ true → HeadRight k t 0 b
unfolding type_field_wrong ◌and◌
any_type k t b h g e i = record { kind_right = h; kind_small = g; type_right = λ lo. rw (e, i) refl; type_small = type_small t i; word_small = omega arith }

plain_head : (k t : ℕ) (b : Slot) → is_kind k ≡ true → k < 256 → (fields_of k).ty ≡ PlainType → is_plain t ≡ true → HeadRight k t 0 b
unfolding type_field_wrong ◌and◌
plain_head k t b h g e i =
    record { kind_right = h; kind_small = g; type_right = λ lo. rw (e, i) refl; type_small = type_small t (plain_type_lem t i); word_small = omega arith }

value_head : (k : ℕ) (v : Value) → is_kind k ≡ true → k < 256 → (fields_of k).ty ≡ ValueType → ValueRight v → HeadRight k (type_of v) (word_of v) (holds (present_of v))
unfolding type_field_wrong ◌and◌ field_k
value_head k v h g e r =
    record { kind_right = h; kind_small = g; type_right = λ lo. rw (e, r.is_a_type, r.fits) refl; type_small = type_small (type_of v) r.is_a_type; word_small = r.word_fits }

unused : Fits Unused 0
unfolding is_child field_wrong
unused = plain refl refl (omega arith)

present : (v : Value) → Fits PresentByte (present_of v)
unfolding is_child field_wrong present_of
present (Value.Plain t w) = plain refl refl (omega arith)
present (Value.Absent t) = plain refl refl (omega arith)
present (Value.Present t w) = plain refl refl (omega arith)

channel : (c : ℕ) → c < 8 → Fits Channel c
unfolding is_child field_wrong
channel c h = plain refl (le-ltb 7 c (omega arith)) (omega arith)

binder : (x : ℕ) → x < 65536 → Fits Binder x
unfolding is_child field_wrong
binder x h = plain refl refl h

target : (x : ℕ) → x < 65536 → Fits Target x
unfolding is_child field_wrong
target x h = plain refl refl h

-- An expression, a signal in a field.
pub record PartOf (sort : ℕ → Bool) (p : Part) : Type 0 where
  pub sorted : sort (kind_p p) ≡ true
  pub right : RightP p

expression : (p : Part) → PartOf is_expression p → RightK (child p) Expression
unfolding is_child may_be
expression p r = (refl, r.sorted, r.right)

signal : (p : Part) → PartOf is_signal p → RightK (child p) Field.Signal
unfolding is_child may_be
signal p r = (refl, r.sorted, r.right)

operation_kind : (k : ℕ) → is_expression k ≡ true → is_kind k ≡ true
unfolding is_kind ◌or◌
operation_kind k e = simp e (or_true (is_signal k or is_branch k or is_case k))
  where
    or_true : (a : Bool) → (a or true) ≡ true
    or_true true = refl
    or_true false = refl

operation_small : (k : ℕ) → is_expression k ≡ true → k < 256
unfolding is_expression
operation_small k e = omega (arith, leb-true k 29 (and_both _ _ e).1)

operation_part : (k : ℕ) (x y : Part) → Operates k → PartOf is_expression x → PartOf is_expression y → PartOf is_expression (part k 0 0 (child x) (child y) (holds 0))
unfolding kind_p row
operation_part k x y o a b =
    let f = operation_row k o in
    record {
      sorted = o.expression;
      right = (
        no_type k (child y) (operation_kind k o.expression) (operation_small k o.expression) (ap (λ (z : Fields). z.ty) f),
        rw f (expression x a),
        rw f (expression y b),
        rw f unused,
      );
    }

pub part_e_right : (φ : ℕ → ℕ) (e : Expr) → RightE φ e → PartOf is_expression (part_e φ e)
unfolding part_e kind_p is_expression is_kind is_signal is_branch is_case ◌and◌ ◌or◌ fields_of row
part_e_right φ (variable n b t) r = record { sorted = refl; right = (no_type 16 (holds 0) refl (omega arith) refl, binder (φ b) r, unused, unused) }
part_e_right φ (constant n v) r = record { sorted = refl; right = (value_head 17 v refl (omega arith) refl r, unused, present v, unused) }
part_e_right φ (operation n k x y) r = operation_part k (part_e φ x) (part_e φ y) r.0 (part_e_right φ x r.1) (part_e_right φ y r.2)
part_e_right φ (negation n x) r =
    record { sorted = refl; right = (no_type 24 (holds 0) refl (omega arith) refl, expression (part_e φ x) (part_e_right φ x r), unused, unused) }
part_e_right φ (choice n test x y) r =
    record {
      sorted = refl;
      right = (
        no_type 27 (child (part_e φ x)) refl (omega arith) refl,
        expression (part_e φ test) (part_e_right φ test r.0),
        expression (part_e φ x) (part_e_right φ x r.1),
        expression (part_e φ y) (part_e_right φ y r.2),
      );
    }
part_e_right φ (just n x) r =
    record { sorted = refl; right = (no_type 28 (holds 0) refl (omega arith) refl, expression (part_e φ x) (part_e_right φ x r), unused, unused) }
part_e_right φ (taking n t m x y) r =
    record {
      sorted = refl;
      right = (
        plain_head 29 t (child (part_e φ x)) refl (omega arith) refl r.0,
        expression (part_e φ m) (part_e_right φ m r.1),
        expression (part_e φ x) (part_e_right φ x r.2),
        expression (part_e φ y) (part_e_right φ y r.3),
      );
    }

first_branch : (φ : ℕ → ℕ) (brs : Branches) → SomeB brs → RightK (slot_b brs φ) NextBranch → RightK (slot_b brs φ) FirstBranch
unfolding slot_b is_child may_be
first_branch φ no_branch z r = absurd z
first_branch φ (branch n t body next) z r = r

first_case : (φ : ℕ → ℕ) (cs : Cases) → SomeC cs → RightK (slot_c cs φ) NextCase → RightK (slot_c cs φ) FirstCase
unfolding slot_c is_child may_be
first_case φ no_case z r = absurd z
first_case φ (case n event target t next) z r = r

mutual
  unfolding part_s kind_p is_expression is_kind is_signal is_branch is_case ◌and◌ ◌or◌ fields_of row is_child may_be may_stop

  pub part_s_right : (s : Signal) (φ : ℕ → ℕ) → RightS s φ → PartOf is_signal (part_s s φ)
  part_s_right (input n c) φ r = record { sorted = refl; right = (no_type 1 (holds 0) refl (omega arith) refl, channel c r, unused, unused) }
  part_s_right (time n) φ r = record { sorted = refl; right = (no_type 2 (holds 0) refl (omega arith) refl, unused, unused, unused) }
  part_s_right (ext n e) φ r =
      record { sorted = refl; right = (no_type 3 (holds 0) refl (omega arith) refl, expression (part_e φ e) (part_e_right φ e r), unused, unused) }
  part_s_right (delay n k v s) φ r =
      record { sorted = refl; right = (value_head 4 v refl (omega arith) refl r.0, signal (part_s s φ) (part_s_right s φ r.1), present v, unused) }
  part_s_right (let_signal n t d b) φ r =
      record {
        sorted = refl;
        right = (
          any_type 5 t (child (part_s b φ)) refl (omega arith) refl r.0,
          signal (part_s d φ) (part_s_right d φ r.1),
          signal (part_s b φ) (part_s_right b φ r.2),
          unused,
        );
      }
  part_s_right (switch n k t x e y) φ r =
      record {
        sorted = refl;
        right = (
          plain_head 6 t (child (part_s e φ)) refl (omega arith) refl r.0,
          signal (part_s x φ) (part_s_right x φ r.1),
          signal (part_s e φ) (part_s_right e φ r.2),
          signal (part_s y φ) (part_s_right y φ r.3),
        );
      }
  part_s_right (group n k body brs) φ r =
      record {
        sorted = refl;
        right = (
          no_type 7 (slot_b brs φ) refl (omega arith) refl,
          signal (part_s body φ) (part_s_right body φ r.1),
          first_branch φ brs r.0 (slot_b_right brs φ r.2),
          unused,
        );
      }
  part_s_right (until n s cs) φ r =
      record {
        sorted = refl;
        right = (
          no_type 8 (slot_c cs φ) refl (omega arith) refl,
          signal (part_s s φ) (part_s_right s φ r.1),
          first_case φ cs r.0 (slot_c_right cs φ r.2),
          unused,
        );
      }

  pub slot_b_right : (brs : Branches) (φ : ℕ → ℕ) → RightB brs φ → RightK (slot_b brs φ) NextBranch
  slot_b_right no_branch φ r = stops refl refl refl
  slot_b_right (branch n t body next) φ r =
      (refl, refl, (plain_head 9 t (slot_b next φ) refl (omega arith) refl r.0, signal (part_s body φ) (part_s_right body φ r.1), slot_b_right next φ r.2, unused))

  pub slot_c_right : (cs : Cases) (φ : ℕ → ℕ) → RightC cs φ → RightK (slot_c cs φ) NextCase
  slot_c_right no_case φ r = stops refl refl refl
  slot_c_right (case n event x t next) φ r =
      (refl, refl, (no_type 10 (slot_c next φ) refl (omega arith) refl, signal (part_s event φ) (part_s_right event φ r.1), slot_c_right next φ r.2, target (φ x) r.0))

-- The part has as many records as the tree has nodes.
pub part_e_size : (φ : ℕ → ℕ) (e : Expr) → size_p (part_e φ e) ≡ size_e e
unfolding part_e size_p size_e
part_e_size φ (variable n b t) = refl
part_e_size φ (constant n v) = refl
part_e_size φ (operation n k x y) = omega (arith, part_e_size φ x, part_e_size φ y)
part_e_size φ (negation n x) = omega (arith, part_e_size φ x)
part_e_size φ (choice n test x y) = omega (arith, part_e_size φ test, part_e_size φ x, part_e_size φ y)
part_e_size φ (just n x) = omega (arith, part_e_size φ x)
part_e_size φ (taking n t m x y) = omega (arith, part_e_size φ m, part_e_size φ x, part_e_size φ y)

mutual
  unfolding part_s size_p size_s

  pub part_s_size : (s : Signal) (φ : ℕ → ℕ) → size_p (part_s s φ) ≡ size_s s
  part_s_size (input n c) φ = refl
  part_s_size (time n) φ = refl
  part_s_size (ext n e) φ = omega (arith, part_e_size φ e)
  part_s_size (delay n k v s) φ = let x = part_s_size s φ in omega arith
  part_s_size (let_signal n t d b) φ = let x = part_s_size d φ in let y = part_s_size b φ in omega arith
  part_s_size (switch n k t x e y) φ = let u = part_s_size x φ in let v = part_s_size e φ in let w = part_s_size y φ in omega arith
  part_s_size (group n k body brs) φ = let x = part_s_size body φ in let y = slot_b_size brs φ in omega arith
  part_s_size (until n s cs) φ = let x = part_s_size s φ in let y = slot_c_size cs φ in omega arith

  pub slot_b_size : (brs : Branches) (φ : ℕ → ℕ) → size_k (slot_b brs φ) ≡ size_b brs
  slot_b_size no_branch φ = refl
  slot_b_size (branch n t body next) φ = let x = part_s_size body φ in let y = slot_b_size next φ in omega arith

  pub slot_c_size : (cs : Cases) (φ : ℕ → ℕ) → size_k (slot_c cs φ) ≡ size_c cs
  slot_c_size no_case φ = refl
  slot_c_size (case n event target t next) φ = let x = part_s_size event φ in let y = slot_c_size next φ in omega arith
