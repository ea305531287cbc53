-- What is needed of the table of kinds and of the words: one computed test each, over all kinds and types.
-- Assumes nothing.
use Rattle.std.specs.Prelude.{Option, Some, None, ℕ}
use mathlib.Core.Path.{◌≡◌, refl, sym, ap, ◌∙◌}
use mathlib.Core.Bool.{Bool, true, false, not}
use mathlib.Core.List.{[]}
use mathlib.Core.Logic.{◌⊎◌, inl, inr}
use Prim.Native.Nat.{ℕ, zero, suc, ◌<◌}
use native.Mathlib.Omega.{arith}
use lib.Dec.{eqb, leb}
use borrow.Author.Tests.{eqb-true, eqb-false, ne_eqb, leb-true}
use Rattle.rules.specs.Bytes.{first, first_from, ◌and◌, ◌or◌}
use Rattle.rules.specs.Kinds.{row, is_signal, is_expression, is_branch, is_case, is_kind, fields_of}
use Rattle.rules.specs.Shape.{is_child, may_be, may_stop}
use Rattle.rules.specs.declared.Field.{Field}
use Rattle.rules.specs.declared.Field.TheVariants.{Unused, Channel, PresentByte, Signal, Expression, FirstBranch, NextBranch, FirstCase, NextCase, Binder, Target}
use Rattle.rules.specs.declared.TypeField.{TypeField}
use Rattle.rules.specs.declared.TypeField.TheVariants.{NoType, AnyType, PlainType, ValueType}
use Rattle.rules.proofs.Static.{and_both}
use Rattle.texts.specs.Tokens.{is_plain_word, are_parts, is_part, is_white, ends_line, is_comment, is_mark}
use Rattle.texts.specs.Spelled.{spelled, same}
use Rattle.texts.specs.Spelling.{kind_word, kind_named}
use Rattle.texts.specs.Printer.{Pieces, field_pieces}
use Rattle.texts.proofs.Gives.{false≢true}
use Rattle.texts.proofs.Decimals.{by_test}
use Rattle.texts.proofs.Laid.{is_list, ListsLast}

-- A test that all numbers below a count pass.
unfoldable pub all_below : (ℕ → Bool) → ℕ → Bool
all_below test zero = true
all_below test (suc n) = elim (test n) [ true ↦ all_below test n | false ↦ false ]

below_last : (k n : ℕ) → k < suc n → (k ≡ n → ⊥) → k < n
below_last k n l d = omega arith

pub passes : (test : ℕ → Bool) (n : ℕ) → all_below test n ≡ true → (k : ℕ) → k < n → test k ≡ true
unfolding all_below
passes test zero e k l = absurd (omega arith)
passes test (suc n) e k l =
    by_test (test n)
    (λ t. by_test (eqb k n)
    (λ u. ap test (eqb-true k n u) ∙ t)
    (λ u. passes test n (rw (t, all_below) at e) k (below_last k n l (eqb-false k n u))))
    (λ t. absurd (false≢true (rw (t, all_below) at e)))

-- Kinds are below 30.
pub kind_below : (k : ℕ) → is_kind k ≡ true → k < 30
unfolding is_kind is_signal is_branch is_case is_expression ◌or◌
kind_below k e =
    by_test (leb 1 k and leb k 8) (λ t. omega (arith, leb-true k 8 (and_both _ _ t).1)) (λ t.
    by_test (eqb k 9) (λ u. omega (arith, eqb-true k 9 u)) (λ u.
    by_test (eqb k 10) (λ v. omega (arith, eqb-true k 10 v)) (λ v.
    omega (arith, leb-true k 29 (and_both (leb 16 k) (leb k 29) (rw (t, u, v) at e)).1))))

-- What a field is.
unfoldable pub is_binder : Field → Bool
is_binder Unused = false
is_binder Channel = false
is_binder PresentByte = false
is_binder Signal = false
is_binder Expression = false
is_binder FirstBranch = false
is_binder NextBranch = false
is_binder FirstCase = false
is_binder NextCase = false
is_binder Binder = true
is_binder Target = false

unfoldable pub is_target : Field → Bool
is_target Unused = false
is_target Channel = false
is_target PresentByte = false
is_target Signal = false
is_target Expression = false
is_target FirstBranch = false
is_target NextBranch = false
is_target FirstCase = false
is_target NextCase = false
is_target Binder = false
is_target Target = true

unfoldable pub is_present : Field → Bool
is_present Unused = false
is_present Channel = false
is_present PresentByte = true
is_present Signal = false
is_present Expression = false
is_present FirstBranch = false
is_present NextBranch = false
is_present FirstCase = false
is_present NextCase = false
is_present Binder = false
is_present Target = false

unfoldable is_unused : Field → Bool
is_unused Unused = true
is_unused Channel = false
is_unused PresentByte = false
is_unused Signal = false
is_unused Expression = false
is_unused FirstBranch = false
is_unused NextBranch = false
is_unused FirstCase = false
is_unused NextCase = false
is_unused Binder = false
is_unused Target = false

unfoldable pub is_value : TypeField → Bool
is_value NoType = false
is_value AnyType = false
is_value PlainType = false
is_value ValueType = true

-- The tests over kinds: a list stands last in its form; binders, targets and present bytes stand where their kinds have them; behind a next no child.
unfoldable lists_test : ℕ → Bool
lists_test k =
    not (is_list (fields_of k).a) and not (is_list (fields_of k).c) and (not (is_list (fields_of k).b) or may_stop (fields_of k).b or is_unused (fields_of k).c)

unfoldable binders_test : ℕ → Bool
binders_test k = (eqb k 16 or not (is_binder (fields_of k).a)) and not (is_binder (fields_of k).b) and not (is_binder (fields_of k).c)

unfoldable targets_test : ℕ → Bool
targets_test k = not (is_target (fields_of k).a) and not (is_target (fields_of k).b) and (eqb k 10 or not (is_target (fields_of k).c))

unfoldable presents_test : ℕ → Bool
presents_test k =
    not (is_present (fields_of k).a) and (not (is_present (fields_of k).b) or is_value (fields_of k).ty) and not (is_present (fields_of k).c)

unfoldable values_test : ℕ → Bool
values_test k = not (is_value (fields_of k).ty) or is_present (fields_of k).b

unfoldable nexts_test : ℕ → Bool
nexts_test k = not (may_stop (fields_of k).b) or not (is_child (fields_of k).c)

unfoldable words_test : ℕ → Bool
words_test k = not (is_kind k) or (eqb k 16 or (eqb k 17 or is_plain_word (kind_word k)))

lists_pass : all_below lists_test 30 ≡ true
unfolding all_below lists_test is_list may_stop is_unused fields_of row ◌and◌ ◌or◌
lists_pass = refl

binders_pass : all_below binders_test 30 ≡ true
unfolding all_below binders_test is_binder fields_of row ◌and◌ ◌or◌
binders_pass = refl

targets_pass : all_below targets_test 30 ≡ true
unfolding all_below targets_test is_target fields_of row ◌and◌ ◌or◌
targets_pass = refl

presents_pass : all_below presents_test 30 ≡ true
unfolding all_below presents_test is_present is_value fields_of row ◌and◌ ◌or◌
presents_pass = refl

values_pass : all_below values_test 30 ≡ true
unfolding all_below values_test is_present is_value fields_of row ◌and◌ ◌or◌
values_pass = refl

nexts_pass : all_below nexts_test 30 ≡ true
unfolding all_below nexts_test may_stop is_child fields_of row ◌and◌ ◌or◌
nexts_pass = refl

words_pass : all_below words_test 30 ≡ true
unfolding all_below words_test is_kind is_signal is_branch is_case is_expression kind_word spelled is_plain_word are_parts is_part is_white ends_line is_comment is_mark ◌and◌ ◌or◌
words_pass = refl

-- From the tests.
pub or_else : (a b : Bool) → (a or b) ≡ true → a ≡ false → b ≡ true
unfolding ◌or◌
or_else true b e f = absurd (false≢true (sym f))
or_else false b e f = e

is_not : (a : Bool) → not a ≡ true → a ≡ false
is_not true e = absurd (false≢true e)
is_not false e = refl

no_unused : (f : Field) → is_unused f ≡ true → (kid : Pieces) (x : ℕ) → field_pieces kid f x ≡ []
unfolding is_unused field_pieces
no_unused Unused e kid x = refl
no_unused Channel e kid x = absurd (false≢true e)
no_unused PresentByte e kid x = refl
no_unused Signal e kid x = absurd (false≢true e)
no_unused Expression e kid x = absurd (false≢true e)
no_unused FirstBranch e kid x = absurd (false≢true e)
no_unused NextBranch e kid x = refl
no_unused FirstCase e kid x = absurd (false≢true e)
no_unused NextCase e kid x = refl
no_unused Binder e kid x = refl
no_unused Target e kid x = absurd (false≢true e)

flip_not : (a : Bool) → a ≡ true → not a ≡ false
flip_not true e = refl
flip_not false e = absurd (false≢true e)

module _ (k : ℕ) (l : k < 30) where
  pub lists_last : ListsLast k
  unfolding lists_test ◌or◌
  lists_last =
      let t = and_both (not (is_list (fields_of k).a) and not (is_list (fields_of k).c)) _ (passes lists_test 30 lists_pass k l) in
      let u = and_both (not (is_list (fields_of k).a)) (not (is_list (fields_of k).c)) t.0 in
      record {
        a_none = is_not _ u.0;
        c_none = is_not _ u.1;
        b_last = λ no-next list kid x.
            no_unused (fields_of k).c
            (or_else (not (is_list (fields_of k).b) or may_stop (fields_of k).b) _ t.1 (or_none₂ (not (is_list (fields_of k).b)) _ (flip_not _ list) no-next)) kid x;
      }
    where
      or_none₂ : (a b : Bool) → a ≡ false → b ≡ false → (a or b) ≡ false
      or_none₂ true b e f = e
      or_none₂ false b e f = f

  pub no_binder : ((k ≡ 16 → ⊥) → is_binder (fields_of k).a ≡ false) × (is_binder (fields_of k).b ≡ false) × (is_binder (fields_of k).c ≡ false)
  unfolding binders_test
  no_binder =
      let t = and_both (_ and not (is_binder (fields_of k).b)) _ (passes binders_test 30 binders_pass k l) in
      let u = and_both (eqb k 16 or not (is_binder (fields_of k).a)) (not (is_binder (fields_of k).b)) t.0 in
      ((λ d. is_not _ (or_else (eqb k 16) _ u.0 (ne_eqb k 16 d))), is_not _ u.1, is_not _ t.1)

  pub no_target : (is_target (fields_of k).a ≡ false) × (is_target (fields_of k).b ≡ false) × ((k ≡ 10 → ⊥) → is_target (fields_of k).c ≡ false)
  unfolding targets_test
  no_target =
      let t = and_both (not (is_target (fields_of k).a) and not (is_target (fields_of k).b)) _ (passes targets_test 30 targets_pass k l) in
      let u = and_both (not (is_target (fields_of k).a)) (not (is_target (fields_of k).b)) t.0 in
      (is_not _ u.0, is_not _ u.1, (λ d. is_not _ (or_else (eqb k 10) _ t.1 (ne_eqb k 10 d))))

  pub no_present : (is_present (fields_of k).a ≡ false) × (is_present (fields_of k).b ≡ true → is_value (fields_of k).ty ≡ true) × (is_present (fields_of k).c ≡ false)
  unfolding presents_test
  no_present =
      let t = and_both (not (is_present (fields_of k).a) and (not (is_present (fields_of k).b) or is_value (fields_of k).ty)) _ (passes presents_test 30 presents_pass k l) in
      let u = and_both (not (is_present (fields_of k).a)) _ t.0 in
      (is_not _ u.0, (λ p. or_else (not (is_present (fields_of k).b)) _ u.1 (flip_not _ p)), is_not _ t.1)

  pub value_present : is_value (fields_of k).ty ≡ true → is_present (fields_of k).b ≡ true
  unfolding values_test
  value_present e = or_else (not (is_value (fields_of k).ty)) _ (passes values_test 30 values_pass k l) (flip_not _ e)

  pub no_child : may_stop (fields_of k).b ≡ true → is_child (fields_of k).c ≡ false
  unfolding nexts_test
  no_child e = is_not _ (or_else (not (may_stop (fields_of k).b)) _ (passes nexts_test 30 nexts_pass k l) (flip_not _ e))

  pub one_word : is_kind k ≡ true → eqb k 16 ≡ false → eqb k 17 ≡ false → is_plain_word (kind_word k) ≡ true
  unfolding words_test
  one_word e e₁ e₂ = or_else (eqb k 17) _ (or_else (eqb k 16) _ (or_else (not (is_kind k)) _ (passes words_test 30 words_pass k l) (flip_not _ e)) e₁) e₂

-- The tests over kinds for each sort of child: the kind's word stands for it; only in a list has it a next.
unfoldable is_at : Option ℕ → ℕ → Bool
is_at (Some j) k = eqb j k
is_at None k = false

is_at_lem : (x : Option ℕ) (k : ℕ) → is_at x k ≡ true → x ≡ Some k
unfolding is_at
is_at_lem (Some j) k e = ap Some (eqb-true j k e)
is_at_lem None k e = absurd (false≢true e)

unfoldable named_test : Field → ℕ → Bool
named_test f k = not (may_be f k) or (eqb k 16 or (eqb k 17 or is_at (kind_named f (kind_word k)) k))

unfoldable list_test : Field → ℕ → Bool
list_test f k = not (may_be f k) or (not (may_stop (fields_of k).b) or is_list f)

named_pass : (f : Field) → is_child f ≡ true → all_below (named_test f) 30 ≡ true
unfolding all_below named_test is_at is_child may_be kind_named first first_from is_signal is_expression is_branch is_case kind_word spelled same ◌and◌ ◌or◌
named_pass Unused e = absurd (false≢true e)
named_pass Channel e = absurd (false≢true e)
named_pass PresentByte e = absurd (false≢true e)
named_pass Signal e = refl
named_pass Expression e = refl
named_pass FirstBranch e = refl
named_pass NextBranch e = refl
named_pass FirstCase e = refl
named_pass NextCase e = refl
named_pass Binder e = absurd (false≢true e)
named_pass Target e = absurd (false≢true e)

list_pass : (f : Field) → is_child f ≡ true → all_below (list_test f) 30 ≡ true
unfolding all_below list_test is_child may_be may_stop is_list fields_of row is_signal is_expression is_branch is_case ◌and◌ ◌or◌
list_pass Unused e = absurd (false≢true e)
list_pass Channel e = absurd (false≢true e)
list_pass PresentByte e = absurd (false≢true e)
list_pass Signal e = refl
list_pass Expression e = refl
list_pass FirstBranch e = refl
list_pass NextBranch e = refl
list_pass FirstCase e = refl
list_pass NextCase e = refl
list_pass Binder e = absurd (false≢true e)
list_pass Target e = absurd (false≢true e)

module _ (f : Field) (is_child_lem : is_child f ≡ true) (k : ℕ) (l : k < 30) (may : may_be f k ≡ true) where
  pub word_named : eqb k 16 ≡ false → eqb k 17 ≡ false → kind_named f (kind_word k) ≡ Some k
  unfolding named_test
  word_named e₁ e₂ =
      is_at_lem _ k (or_else (eqb k 17) _ (or_else (eqb k 16) _ (or_else (not (may_be f k)) _ (passes (named_test f) 30 (named_pass f is_child_lem) k l) (flip_not _ may)) e₁) e₂)

  pub in_list : may_stop (fields_of k).b ≡ true → is_list f ≡ true
  unfolding list_test
  in_list e = or_else (not (may_stop (fields_of k).b)) _ (or_else (not (may_be f k)) _ (passes (list_test f) 30 (list_pass f is_child_lem) k l) (flip_not _ may)) (flip_not _ e)

-- Variables and constants are expressions.
pub expression_only : (f : Field) → is_child f ≡ true → (k : ℕ) → (k ≡ 16) ⊎ (k ≡ 17) → may_be f k ≡ true → f ≡ Expression
unfolding is_child may_be is_signal is_branch is_case ◌and◌
expression_only Unused e k h m = absurd (false≢true e)
expression_only Channel e k h m = absurd (false≢true e)
expression_only PresentByte e k h m = absurd (false≢true e)
expression_only Signal e k (inl h) m = absurd (false≢true (sym (ap is_signal h) ∙ m))
expression_only Signal e k (inr h) m = absurd (false≢true (sym (ap is_signal h) ∙ m))
expression_only Expression e k h m = refl
expression_only FirstBranch e k (inl h) m = absurd (false≢true (sym (ap is_branch h) ∙ m))
expression_only FirstBranch e k (inr h) m = absurd (false≢true (sym (ap is_branch h) ∙ m))
expression_only NextBranch e k (inl h) m = absurd (false≢true (sym (ap is_branch h) ∙ m))
expression_only NextBranch e k (inr h) m = absurd (false≢true (sym (ap is_branch h) ∙ m))
expression_only FirstCase e k (inl h) m = absurd (false≢true (sym (ap is_case h) ∙ m))
expression_only FirstCase e k (inr h) m = absurd (false≢true (sym (ap is_case h) ∙ m))
expression_only NextCase e k (inl h) m = absurd (false≢true (sym (ap is_case h) ∙ m))
expression_only NextCase e k (inr h) m = absurd (false≢true (sym (ap is_case h) ∙ m))
expression_only Binder e k h m = absurd (false≢true e)
expression_only Target e k h m = absurd (false≢true e)
