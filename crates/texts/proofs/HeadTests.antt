-- What stands between a kind's word and its children fits, where the record's type field is right.
-- Assumes nothing.
use mathlib.Core.Path.{◌≡◌, refl, sym, subst, ◌∙◌}
use mathlib.Core.Bool.{Bool, true, false, not}
use Prim.Native.Nat.{ℕ, zero, suc, ◌<◌, ◌≤◌}
use native.Mathlib.Omega.{arith}
use lib.Dec.{eqb, leb}
use borrow.Author.Tests.{eqb-true, leb-true}
use Rattle.rules.specs.Bytes.{first, first_from, ◌and◌, ◌or◌}
use Rattle.rules.specs.Values.{is_plain, is_maybe, is_type, maybe_of, value_fits, unit_t, bool_t}
use Rattle.rules.specs.Format.{type_field_wrong}
use Rattle.rules.specs.declared.TypeField.{TypeField}
use Rattle.rules.specs.declared.TypeField.TheVariants.{NoType, AnyType, PlainType, ValueType}
use Rattle.rules.proofs.Static.{and_both}
use Rattle.rules.proofs.Kids.{not_not}
use Rattle.texts.specs.Tokens.{is_plain_word, are_parts, is_part, is_white, ends_line, is_comment, is_mark}
use Rattle.texts.specs.Spelled.{spelled, same}
use Rattle.texts.specs.Spelling.{type_word, type_named}
use Rattle.texts.proofs.Gives.{false≢true}
use Rattle.texts.proofs.Decimals.{by_test}
use Rattle.texts.proofs.Laid.{PlainFits, an_int, a_truth, a_falsehood, a_unit, PlainType₀, unit_type, bool_type, int_type, Fits, plain_fits, some_fits, none_fits, HeadFits, no_head, any_head, plain_head, value_head}
use Rattle.texts.proofs.KindTests.{or_else}

-- Types one by one.
data TypeIs : ℕ → Type 0 where
  plain_is : {t : ℕ} → PlainType₀ t → TypeIs t
  maybe_is : {t : ℕ} → PlainType₀ t → TypeIs (maybe_of t)

pub type_most : (t : ℕ) → is_type t ≡ true → t ≤ 7
unfolding is_type is_plain is_maybe
type_most t e =
    by_test (leb 1 t and leb t 3)
    (λ u. omega (arith, leb-true t 3 (and_both _ _ u).1))
    (λ u. leb-true t 7 (and_both (leb 5 t) (leb t 7) (or_else (leb 1 t and leb t 3) _ e u)).1)

type_is : (t : ℕ) → is_type t ≡ true → TypeIs t
unfolding is_type is_plain is_maybe maybe_of ◌and◌ ◌or◌
type_is zero e = absurd (false≢true e)
type_is (suc zero) e = plain_is unit_type
type_is (suc (suc zero)) e = plain_is bool_type
type_is (suc (suc (suc zero))) e = plain_is int_type
type_is (suc (suc (suc (suc zero)))) e = absurd (false≢true e)
type_is (suc (suc (suc (suc (suc zero))))) e = maybe_is unit_type
type_is (suc (suc (suc (suc (suc (suc zero)))))) e = maybe_is bool_type
type_is (suc (suc (suc (suc (suc (suc (suc zero))))))) e = maybe_is int_type
type_is (suc (suc (suc (suc (suc (suc (suc (suc t)))))))) e = absurd (let l = type_most (suc (suc (suc (suc (suc (suc (suc (suc t)))))))) e in omega arith)

any_is : {t b : ℕ} → TypeIs t → HeadFits AnyType t b 0
unfolding type_named first first_from is_type is_plain is_maybe maybe_of type_word spelled same is_plain_word are_parts is_part is_white ends_line is_comment is_mark ◌and◌ ◌or◌
any_is (plain_is unit_type) = any_head refl refl
any_is (plain_is bool_type) = any_head refl refl
any_is (plain_is int_type) = any_head refl refl
any_is (maybe_is unit_type) = any_head refl refl
any_is (maybe_is bool_type) = any_head refl refl
any_is (maybe_is int_type) = any_head refl refl

plain_one : {t b : ℕ} → TypeIs t → is_plain t ≡ true → HeadFits PlainType t b 0
unfolding type_named first first_from is_plain maybe_of type_word spelled same is_plain_word are_parts is_part is_white ends_line is_comment is_mark ◌and◌ ◌or◌
plain_one (plain_is unit_type) e = plain_head refl refl
plain_one (plain_is bool_type) e = plain_head refl refl
plain_one (plain_is int_type) e = plain_head refl refl
plain_one (maybe_is unit_type) e = absurd (false≢true e)
plain_one (maybe_is bool_type) e = absurd (false≢true e)
plain_one (maybe_is int_type) e = absurd (false≢true e)

-- A value: its present byte and its word.
pub record Shown (t b w : ℕ) : Type 0 where
  pub present : (eqb b 1 or (eqb b 0 and is_maybe t)) ≡ true
  pub absent : (eqb w 0 or eqb b 1) ≡ true
  pub of_unit : (eqb w 0 or not (eqb t unit_t or eqb t (maybe_of unit_t))) ≡ true
  pub of_bool : (leb w 1 or not (eqb t bool_t or eqb t (maybe_of bool_t))) ≡ true

shown : (t b w : ℕ) → value_fits t b w ≡ true → Shown t b w
unfolding value_fits
shown t b w e =
    let x = and_both _ _ e in
    let y = and_both _ _ x.0 in
    let z = and_both _ _ y.0 in
    record { present = z.0; absent = z.1; of_unit = y.1; of_bool = x.1 }

zero_word : (w : ℕ) → (eqb w 0 or false) ≡ true → w ≡ 0
unfolding ◌or◌
zero_word w e = by_test (eqb w 0) (λ t. eqb-true w 0 t) (λ t. absurd (false≢true (rw t at e)))

small_word : (w : ℕ) → (leb w 1 or false) ≡ true → w ≤ 1
unfolding ◌or◌
small_word w e = by_test (leb w 1) (λ t. leb-true w 1 t) (λ t. absurd (false≢true (rw t at e)))

truth : (w : ℕ) → w ≤ 1 → PlainFits 2 w
truth zero h = a_falsehood
truth (suc zero) h = a_truth
truth (suc (suc w)) h = absurd (omega arith)

no_unit : (w : ℕ) → w ≡ 0 → PlainFits 1 w
no_unit w e = subst (PlainFits 1) (sym e) a_unit

plain_word_lem : {t : ℕ} → PlainType₀ t → (w : ℕ) → w < 4294967296 → (eqb w 0 or not (eqb t unit_t or eqb t (maybe_of unit_t))) ≡ true → (leb w 1 or not (eqb t bool_t or eqb t (maybe_of bool_t))) ≡ true → PlainFits t w
unfolding maybe_of ◌or◌
plain_word_lem unit_type w l u v = no_unit w (zero_word w u)
plain_word_lem bool_type w l u v = truth w (small_word w v)
plain_word_lem int_type w l u v = an_int l

maybe_word : {t : ℕ} → PlainType₀ t → (w : ℕ) → w < 4294967296 → (eqb w 0 or not (eqb (maybe_of t) unit_t or eqb (maybe_of t) (maybe_of unit_t))) ≡ true
    → (leb w 1 or not (eqb (maybe_of t) bool_t or eqb (maybe_of t) (maybe_of bool_t))) ≡ true → PlainFits t w
unfolding maybe_of ◌or◌
maybe_word unit_type w l u v = no_unit w (zero_word w u)
maybe_word bool_type w l u v = truth w (small_word w v)
maybe_word int_type w l u v = an_int l

not_maybe : {t : ℕ} → PlainType₀ t → is_maybe t ≡ false
unfolding is_maybe ◌and◌
not_maybe unit_type = refl
not_maybe bool_type = refl
not_maybe int_type = refl

present_one : (b : ℕ) (m : Bool) → (eqb b 1 or (eqb b 0 and m)) ≡ true → m ≡ false → b ≡ 1
unfolding ◌or◌ ◌and◌
present_one b m e f =
    by_test (eqb b 1) (λ t. eqb-true b 1 t) (λ t. by_test (eqb b 0) (λ u. absurd (false≢true (sym f ∙ rw (t, u) at e))) (λ u. absurd (false≢true (rw (t, u) at e))))

absent_none : (b : ℕ) (m : Bool) → (eqb b 1 or (eqb b 0 and m)) ≡ true → eqb b 1 ≡ false → b ≡ 0
unfolding ◌or◌ ◌and◌
absent_none b m e f = by_test (eqb b 0) (λ u. eqb-true b 0 u) (λ u. absurd (false≢true (rw (f, u) at e)))

value_is : {t : ℕ} → TypeIs t → (b w : ℕ) → w < 4294967296 → Shown t b w → Fits t b w
unfolding ◌or◌
value_is (plain_is {t = t} p) b w l s =
    subst (λ (x : ℕ). Fits t x w) (sym (present_one b (is_maybe t) s.present (not_maybe p))) (plain_fits (plain_word_lem p w l s.of_unit s.of_bool))
value_is (maybe_is {t = t} p) b w l s =
    by_test (eqb b 1)
    (λ u. subst (λ (x : ℕ). Fits (maybe_of t) x w) (sym (eqb-true b 1 u)) (some_fits (maybe_word p w l s.of_unit s.of_bool)))
    (λ u.
    let no : w ≡ 0 = zero_word w (rw u at s.absent) in
    subst (λ (x : ℕ). Fits (maybe_of t) x w) (sym (absent_none b (is_maybe (maybe_of t)) s.present u))
    (subst (λ (x : ℕ). Fits (maybe_of t) 0 x) (sym no) (none_fits p)))

-- By what the type field is.
zero_head : (t b w : ℕ) → t ≡ 0 → w ≡ 0 → HeadFits NoType t b w
zero_head t b w e f = subst (λ (x : ℕ). HeadFits NoType x b w) (sym e) (subst (λ (x : ℕ). HeadFits NoType 0 b x) (sym f) no_head)

pub head_fits : (ty : TypeField) (t b w : ℕ) → type_field_wrong ty t b w ≡ false → w < 4294967296 → HeadFits ty t b w
unfolding type_field_wrong is_type ◌or◌
head_fits NoType t b w e l = let x = and_both (eqb t 0) (eqb w 0) (not_not _ e) in zero_head t b w (eqb-true t 0 x.0) (eqb-true w 0 x.1)
head_fits AnyType t b w e l =
    let x = and_both (is_type t) (eqb w 0) (not_not _ e) in
    subst (HeadFits AnyType t b) (sym (eqb-true w 0 x.1)) (any_is (type_is t x.0))
head_fits PlainType t b w e l =
    let x = and_both (is_plain t) (eqb w 0) (not_not _ e) in
    subst (HeadFits PlainType t b) (sym (eqb-true w 0 x.1)) (plain_one (type_is t (rw x.0 refl)) x.0)
head_fits ValueType t b w e l =
    let x = and_both (is_type t) (value_fits t b w) (not_not _ e) in
    value_head (value_is (type_is t x.0) b w l (shown t b w x.1))
