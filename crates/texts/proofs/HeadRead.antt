-- What is read between a kind's word and its children is right for the kind.
-- Assumes nothing.
use mathlib.Core.Path.{◌≡◌, refl, sym, ap, subst, ◌∙◌}
use mathlib.Core.Bool.{Bool, true, false}
use mathlib.Core.List.{List, []}
use Prim.Native.Nat.{ℕ, ◌<◌, ◌≤◌}
use native.Mathlib.Omega.{arith}
use lib.Dec.{eqb, leb}
use borrow.Author.Tests.{leb-true}
use Rattle.rules.specs.Bytes.{Bytes, ◌and◌, ◌or◌}
use Rattle.rules.specs.Values.{is_plain, is_maybe, is_type, maybe_of, value_fits}
use Rattle.rules.specs.Kinds.{fields_of}
use Rattle.rules.specs.Format.{type_field_wrong}
use Rattle.rules.specs.declared.TypeField.{TypeField}
use Rattle.rules.specs.declared.TypeField.TheVariants.{NoType, AnyType, PlainType, ValueType}
use Rattle.rules.proofs.Static.{and_both}
use Rattle.texts.specs.Tokens.{Token}
use Rattle.texts.specs.Rows.{Sofar}
use Rattle.texts.specs.Steps.{Written}
use Rattle.texts.specs.Reader.{Heading, labelled, binding, typed, heading}
use Rattle.texts.proofs.Gives.{Claim}
use Rattle.texts.proofs.Decimals.{by_test}
use Rattle.texts.proofs.Laid.{an_int, a_truth, a_falsehood, a_unit, unit_type, bool_type, int_type, Fits, plain_fits, some_fits, none_fits}
use Rattle.texts.proofs.KindTests.{is_value}
use Rattle.texts.proofs.HeadTests.{type_most}
use Rattle.texts.proofs.Yields.{Yields, yields, then_yields, weaker, Quiet, quiet_on, variable_yields, label_yields, type_yields, value_yields}

-- A value that fits is right.
pub record Good (t b w : ℕ) : Type 0 where
  pub is_a_type : is_type t ≡ true
  pub fits : value_fits t b w ≡ true
  pub type_small : t < 256
  pub word_small : w < 4294967296
  pub present_small : b ≤ 1

or_yes : (a : Bool) → (a or true) ≡ true
unfolding ◌or◌
or_yes true = refl
or_yes false = refl

int_good : (w : ℕ) → w < 4294967296 → Good 3 1 w × Good 7 1 w
unfolding is_type is_plain is_maybe maybe_of value_fits ◌and◌ ◌or◌
int_good w l = (
  record { is_a_type = refl; fits = rw (or_yes (eqb w 0), or_yes (leb w 1)) refl; type_small = omega arith; word_small = l; present_small = omega arith },
  record { is_a_type = refl; fits = rw (or_yes (eqb w 0), or_yes (leb w 1)) refl; type_small = omega arith; word_small = l; present_small = omega arith },
)

pub fits_good : {t b w : ℕ} → Fits t b w → Good t b w
unfolding is_type is_plain is_maybe maybe_of value_fits ◌and◌ ◌or◌
fits_good (plain_fits (an_int {w = w} l)) = (int_good w l).0
fits_good (plain_fits a_truth) = record { is_a_type = refl; fits = refl; type_small = omega arith; word_small = omega arith; present_small = omega arith }
fits_good (plain_fits a_falsehood) = record { is_a_type = refl; fits = refl; type_small = omega arith; word_small = omega arith; present_small = omega arith }
fits_good (plain_fits a_unit) = record { is_a_type = refl; fits = refl; type_small = omega arith; word_small = omega arith; present_small = omega arith }
fits_good (some_fits (an_int {w = w} l)) = (int_good w l).1
fits_good (some_fits a_truth) = record { is_a_type = refl; fits = refl; type_small = omega arith; word_small = omega arith; present_small = omega arith }
fits_good (some_fits a_falsehood) = record { is_a_type = refl; fits = refl; type_small = omega arith; word_small = omega arith; present_small = omega arith }
fits_good (some_fits a_unit) = record { is_a_type = refl; fits = refl; type_small = omega arith; word_small = omega arith; present_small = omega arith }
fits_good (none_fits unit_type) = record { is_a_type = refl; fits = refl; type_small = omega arith; word_small = omega arith; present_small = omega arith }
fits_good (none_fits bool_type) = record { is_a_type = refl; fits = refl; type_small = omega arith; word_small = omega arith; present_small = omega arith }
fits_good (none_fits int_type) = record { is_a_type = refl; fits = refl; type_small = omega arith; word_small = omega arith; present_small = omega arith }

-- A heading that is right for a type field, where a value's present byte stands in field b.
pub record HeadOk (ty : TypeField) (h : Heading) : Type 0 where
  pub right : (b : ℕ) → (is_value ty ≡ true → b ≡ h.present) → type_field_wrong ty h.type b h.word ≡ false
  pub type_small : h.type < 256
  pub word_small : h.word < 4294967296
  pub present_small : h.present ≤ 1

plain_most : (t : ℕ) → is_plain t ≡ true → t ≤ 3
unfolding is_plain
plain_most t e = leb-true t 3 (and_both (leb 1 t) (leb t 3) e).1

abbrev Headed : TypeField → Sofar → Claim Heading
Headed ty so h rest so₁ = HeadOk ty h × Quiet so so₁

binding_yields : (ty : TypeField) (allowed : ℕ → Bool) (own : Bytes) (finish : ℕ) (ts : List Token) (so : Sofar)
    → ((x : Bytes) (t : ℕ) → allowed t ≡ true → HeadOk ty (record { label = own; binds = x; type = t; present = 0; word = 0 }))
    → Yields (Headed ty so) (binding allowed own finish ts so)
unfolding binding
binding_yields ty allowed own finish ts so ok =
    then_yields _ (variable_yields finish ts so) (λ x ts₁ so₁ q.
    then_yields _ (type_yields allowed finish ts₁ so₁) (λ t ts₂ so₂ e.
    yields (ok x t e.0, subst (λ (z : Sofar). Quiet so z) (sym e.1) q)))

no_heading : (own : Bytes) → HeadOk NoType (record { label = own; binds = []; type = 0; present = 0; word = 0 })
unfolding type_field_wrong ◌and◌
no_heading own = record { right = λ b e. refl; type_small = omega arith; word_small = omega arith; present_small = omega arith }

value_heading : (own : Bytes) (v : Written) → Fits v.type v.present v.word
    → HeadOk ValueType (record { label = own; binds = []; type = v.type; present = v.present; word = v.word })
unfolding type_field_wrong is_value ◌and◌
value_heading own v fits =
    let g = fits_good fits in
    record {
      right = λ b u. rw (g.is_a_type, ap (λ (x : ℕ). value_fits v.type x v.word) (u refl) ∙ g.fits) refl;
      type_small = g.type_small;
      word_small = g.word_small;
      present_small = g.present_small;
    }

typed_yields : (ty : TypeField) (own : Bytes) (finish : ℕ) (ts : List Token) (so : Sofar) → Yields (Headed ty so) (typed ty own finish ts so)
unfolding typed type_field_wrong is_value is_type ◌and◌ ◌or◌
typed_yields NoType own finish ts so = yields (no_heading own, record { rows_same = refl; begun_same = refl; places_same = refl })
typed_yields AnyType own finish ts so =
    binding_yields AnyType is_type own finish ts so
    (λ x t e. record { right = λ b u. rw e refl; type_small = omega (arith, type_most t e); word_small = omega arith; present_small = omega arith })
typed_yields PlainType own finish ts so =
    binding_yields PlainType is_plain own finish ts so
    (λ x t e. record { right = λ b u. rw e refl; type_small = omega (arith, plain_most t e); word_small = omega arith; present_small = omega arith })
typed_yields ValueType own finish ts so =
    then_yields _ (value_yields finish ts so) (λ v ts₁ so₁ p.
    yields (value_heading own v p.0, subst (λ (z : Sofar). Quiet so z) (sym p.1) (record { rows_same = refl; begun_same = refl; places_same = refl })))

labelled_yields : (k finish : ℕ) (ts : List Token) (so : Sofar) → Yields (λ (w : Bytes) rest so₁. Quiet so so₁) (labelled k finish ts so)
unfolding labelled
labelled_yields k finish ts so =
    by_test (eqb k 9) (λ t. rw (t, labelled) (label_yields finish ts so)) (λ t. rw (t, labelled) (yields (record { rows_same = refl; begun_same = refl; places_same = refl })))

pub heading_yields : (k finish : ℕ) (ts : List Token) (so : Sofar) → Yields (Headed (fields_of k).ty so) (heading k finish ts so)
unfolding heading
heading_yields k finish ts so =
    then_yields _ (labelled_yields k finish ts so) (λ own ts₁ so₁ q.
    weaker (typed_yields (fields_of k).ty own finish ts₁ so₁) (λ h ts₂ so₂ p. (p.0, quiet_on so so₁ so₂ q p.1)))
