-- A value that is printed is read.
-- Assumes nothing.
use Rattle.std.specs.Prelude.{Some}
use mathlib.Core.Path.{◌≡◌, refl, sym, ap, subst, ◌∙◌}
use mathlib.Core.Bool.{true, false}
use mathlib.Core.List.{List, [], ◌∷◌, ◌++◌}
use Prim.Native.Nat.{ℕ}
use lib.Dec.{eqb}
use borrow.Author.Tests.{eqb-true}
use Rattle.rules.specs.Bytes.{Bytes, first, first_from, ◌and◌, ◌or◌}
use Rattle.rules.specs.Values.{maybe_of, is_plain}
use Rattle.texts.specs.Tokens.{Token}
use Rattle.texts.specs.Spelled.{spelled, same}
use Rattle.texts.specs.Spelling.{open₀, close₀, some_word, none_word, type_word, type_named, is_digit}
use Rattle.texts.specs.Numerals.{is_number, is_natural, are_digits, magnitude_of, in_range, word_of, signed_decimal}
use Rattle.texts.specs.Rows.{Sofar, Got, ◌onward◌}
use Rattle.texts.specs.Steps.{given, Written, plain, plain_value, maybe_value, value}
use Rattle.texts.specs.Printer.{Piece, spaced, tight, plain_word, value_pieces}
use Rattle.texts.proofs.Gives.{false≢true, same_refl, words, Claim, Gives, after_next, after_given, after_got, after_expect, after_type, regroup}
use Rattle.texts.proofs.Decimals.{by_test, numeral}
use Rattle.texts.proofs.Laid.{PlainFits, an_int, a_truth, a_falsehood, a_unit, PlainType₀, unit_type, bool_type, int_type, Fits, plain_fits, some_fits, none_fits}

-- The spellings of pieces.
abbrev pub spellings : List Piece → List Bytes
spellings [] = []
spellings (x ∷ xs) = x.word ∷ spellings xs

abbrev written : ℕ → ℕ → ℕ → Written
written t p w = record { type = t; present = p; word = w }

-- A number is no parenthesis.
pub number_not_open : (v : Bytes) → is_number v ≡ true → same v open₀ ≡ false
unfolding is_number is_natural are_digits magnitude_of is_digit same ◌and◌
number_not_open [] e = refl
number_not_open (b ∷ bs) e =
    by_test (eqb b 40)
    (λ t. absurd (false≢true (subst (λ (c : ℕ). is_number (c ∷ bs) ≡ true) (eqb-true b 40 t) e)))
    (λ t. rw t refl)

-- How values are spelled.
pub plain_spelled : {t w : ℕ} → PlainFits t w → spellings (value_pieces t 1 w) ≡ plain_word t w ∷ []
unfolding value_pieces is_plain ◌and◌ spaced
plain_spelled (an_int l) = refl
plain_spelled a_truth = refl
plain_spelled a_falsehood = refl
plain_spelled a_unit = refl

pub some_spelled : {t w : ℕ} → PlainFits t w → spellings (value_pieces (maybe_of t) 1 w) ≡ open₀ ∷ some_word ∷ plain_word t w ∷ close₀ ∷ []
unfolding value_pieces maybe_of is_plain ◌and◌ spaced tight
some_spelled (an_int l) = refl
some_spelled a_truth = refl
some_spelled a_falsehood = refl
some_spelled a_unit = refl

pub none_spelled : {t : ℕ} → PlainType₀ t → spellings (value_pieces (maybe_of t) 0 0) ≡ open₀ ∷ none_word ∷ type_word t ∷ close₀ ∷ []
unfolding value_pieces maybe_of is_plain ◌and◌ spaced tight
none_spelled unit_type = refl
none_spelled bool_type = refl
none_spelled int_type = refl

pub plain_type_lem : {t : ℕ} → PlainType₀ t → type_named is_plain (type_word t) ≡ Some t
unfolding type_named first first_from is_plain type_word spelled same ◌and◌
plain_type_lem unit_type = refl
plain_type_lem bool_type = refl
plain_type_lem int_type = refl

pub plain_not_open : {t w : ℕ} → PlainFits t w → same (plain_word t w) open₀ ≡ false
unfolding plain_word spelled same ◌and◌
plain_not_open (an_int {w = w} l) = number_not_open (signed_decimal w) (numeral w l).number
plain_not_open a_truth = refl
plain_not_open a_falsehood = refl
plain_not_open a_unit = refl

module _ {B : Type 0} {Q : Claim B} where
  number_value : (k : Written → List Token → Sofar → Got B) (u : Token) (w finish : ℕ) (ts : List Token) (so : Sofar)
      → is_number u.word ≡ true → in_range u.word ≡ true → word_of u.word ≡ w
      → Gives Q (k (written 3 1 w) ts so) → Gives Q (plain_value u finish ts so onward k)
  unfolding plain_value plain
  number_value k u w finish ts so n r e h =
      rw (n, plain_value) (regroup _ _ k (after_given _ _ _ ts so r (after_got k _ ts so (rw e h))))

  pub after_plain : (k : Written → List Token → Sofar → Got B) {t w : ℕ} → PlainFits t w → (u : Token) (finish : ℕ) (ts : List Token) (so : Sofar)
      → u.word ≡ plain_word t w → Gives Q (k (written t 1 w) ts so) → Gives Q (plain_value u finish ts so onward k)
  unfolding plain_word plain_value plain is_number is_natural are_digits magnitude_of is_digit spelled same ◌and◌ ◌or◌ ◌onward◌ given
  after_plain k (an_int {w = w} l) u finish ts so is h =
      let m = numeral w l in
      number_value k u w finish ts so (ap is_number is ∙ m.number) (ap in_range is ∙ m.range) (ap word_of is ∙ m.word) h
  after_plain k a_truth u finish ts so is h = subst (λ (v : Bytes). Gives Q (plain_value (record { at = u.at; word = v }) finish ts so onward k)) (sym is) h
  after_plain k a_falsehood u finish ts so is h = subst (λ (v : Bytes). Gives Q (plain_value (record { at = u.at; word = v }) finish ts so onward k)) (sym is) h
  after_plain k a_unit u finish ts so is h = subst (λ (v : Bytes). Gives Q (plain_value (record { at = u.at; word = v }) finish ts so onward k)) (sym is) h

  -- Behind an open parenthesis.
  pub after_some : (k : Written → List Token → Sofar → Got B) {t w : ℕ} → PlainFits t w → (u : Token) (W : List Bytes) (finish : ℕ) (ts : List Token) (so : Sofar)
      → u.word ≡ some_word → words ts ≡ plain_word t w ∷ close₀ ∷ W
      → ((rest : List Token) → words rest ≡ W → Gives Q (k (written (maybe_of t) 1 w) rest so)) → Gives Q (maybe_value u finish ts so onward k)
  unfolding maybe_value
  after_some k p u W finish ts so is e h =
      rw (ap (λ (v : Bytes). same v some_word) is ∙ same_refl some_word, maybe_value)
      (regroup _ _ k (after_next _ _ _ finish ts so e (λ x rest here left. regroup _ _ k (after_plain _ p x finish rest so here
      (regroup _ _ k (after_expect _ close₀ W finish rest so left (λ rest₁ left₁. after_got k _ rest₁ so (h rest₁ left₁))))))))

  pub after_none : (k : Written → List Token → Sofar → Got B) (t : ℕ) (v : Bytes) (u : Token) (W : List Bytes) (finish : ℕ) (ts : List Token) (so : Sofar)
      → type_named is_plain v ≡ Some t → u.word ≡ none_word → words ts ≡ v ∷ close₀ ∷ W
      → ((rest : List Token) → words rest ≡ W → Gives Q (k (written (maybe_of t) 0 0) rest so)) → Gives Q (maybe_value u finish ts so onward k)
  unfolding maybe_value same spelled ◌and◌
  after_none k t v u W finish ts so is_a_type is e h =
      rw (ap (λ (x : Bytes). same x some_word) is, maybe_value)
      (regroup _ _ k (after_given _ _ _ ts so (ap (λ (x : Bytes). same x none_word) is) (regroup _ _ k (after_type _ is_plain v t _ finish ts so e is_a_type (λ rest left.
      regroup _ _ k (after_expect _ close₀ W finish rest so left (λ rest₁ left₁. after_got k _ rest₁ so (h rest₁ left₁))))))))

  -- A value, as a delay has it.
  pub after_value : (k : Written → List Token → Sofar → Got B) {t p w : ℕ} → Fits t p w → (W : List Bytes) (finish : ℕ) (ts : List Token) (so : Sofar)
      → words ts ≡ spellings (value_pieces t p w) ++ W
      → ((rest : List Token) → words rest ≡ W → Gives Q (k (written t p w) rest so)) → Gives Q (value finish ts so onward k)
  unfolding value same ◌and◌
  after_value k (plain_fits {t = t} {w = w} f) W finish ts so e h =
      regroup _ _ k (after_next _ _ _ finish ts so (e ∙ ap (λ (x : List Bytes). x ++ W) (plain_spelled f)) (λ x rest here left.
      rw (ap (λ (v : Bytes). same v open₀) here ∙ plain_not_open f) (after_plain k f x finish rest so here (h rest left))))
  after_value k (some_fits {t = t} {w = w} f) W finish ts so e h =
      regroup _ _ k (after_next _ _ _ finish ts so (e ∙ ap (λ (x : List Bytes). x ++ W) (some_spelled f)) (λ x rest here left.
      rw (ap (λ (v : Bytes). same v open₀) here) (regroup _ _ k (after_next _ _ _ finish rest so left (λ u rest₁ here₁ left₁.
      after_some k f u W finish rest₁ so here₁ left₁ h)))))
  after_value k (none_fits {t = t} f) W finish ts so e h =
      regroup _ _ k (after_next _ _ _ finish ts so (e ∙ ap (λ (x : List Bytes). x ++ W) (none_spelled f)) (λ x rest here left.
      rw (ap (λ (v : Bytes). same v open₀) here) (regroup _ _ k (after_next _ _ _ finish rest so left (λ u rest₁ here₁ left₁.
      after_none k t _ u W finish rest₁ so (plain_type_lem f) here₁ left₁ h)))))
