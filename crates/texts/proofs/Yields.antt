-- What a step of the reader gives, where it is not stopped: names, types, channels and values that fit; rows and how many nodes have begun stay.
-- Assumes nothing.
use Rattle.std.specs.Prelude.{Option, Some, None, ℕ}
use mathlib.Core.Path.{◌≡◌, refl, sym, ap, subst, ◌∙◌}
use mathlib.Core.Bool.{Bool, true, false}
use mathlib.Core.List.{List, [], ◌∷◌}
use Prim.Native.Nat.{ℕ, zero, suc, ◌+◌, ◌<◌, ◌≤◌}
use native.Mathlib.Omega.{arith}
use lib.Dec.{ltb, leb}
use borrow.Author.Tests.{ltb-true, leb-true}
use Rattle.rules.specs.Bytes.{Bytes, first, first_from, ◌and◌}
use Rattle.rules.specs.Values.{is_plain}
use Rattle.rules.proofs.Static.{and_both, not_both}
use Rattle.texts.specs.Tokens.{Token}
use Rattle.texts.specs.Spelled.{same}
use Rattle.texts.specs.Spelling.{close₀, open₀, type_named, type_word, true_word, false_word, some_word}
use Rattle.texts.specs.Numerals.{is_number, is_negative, in_range, size_of, word_of}
use Rattle.texts.specs.Rows.{Sofar, Got, got, stopped, ◌onward◌}
use Rattle.texts.specs.Steps.{next, given, expect, name, is_bound, fresh, variable, label, target, type, channel, Written, plain, plain_value, maybe_value, value}
use Rattle.texts.specs.declared.Unread.{Unread}
use Rattle.texts.specs.declared.Unread.TheVariants.{Word}
use Rattle.texts.proofs.Gives.{Claim}
use Rattle.texts.proofs.Decimals.{by_test}
use Rattle.texts.proofs.Laid.{PlainFits, an_int, a_truth, a_falsehood, a_unit, PlainType₀, unit_type, bool_type, int_type, Fits, plain_fits, some_fits, none_fits}

-- Of what a part of the reader gives something holds, if it gives something.
pub data Yields {A : Type 0} (Q : Claim A) : Got A → Type 0 where
  yields : {x : A} {ts : List Token} {so : Sofar} → Q x ts so → Yields Q (got x ts so)
  halts : {why : Unread} → Yields Q (stopped why)

pub then_yields : {A B : Type 0} {P : Claim A} {Q : Claim B} (k : A → List Token → Sofar → Got B) {r : Got A}
    → Yields P r → ((x : A) (ts : List Token) (so : Sofar) → P x ts so → Yields Q (k x ts so)) → Yields Q (r onward k)
unfolding ◌onward◌
then_yields k (yields {x = x} {ts = ts} {so = so} p) h = h x ts so p
then_yields k halts h = halts

pub weaker : {A : Type 0} {P Q : Claim A} {r : Got A} → Yields P r → ((x : A) (ts : List Token) (so : Sofar) → P x ts so → Q x ts so) → Yields Q r
weaker (yields {x = x} {ts = ts} {so = so} p) h = yields (h x ts so p)
weaker halts h = halts

-- The first place of a test passes it.
abbrev IsAt : Option ℕ → ℕ → Type 0
IsAt (Some i) j = i ≡ j
IsAt None j = ⊥

is_at_lem : {x : Option ℕ} {j : ℕ} → x ≡ Some j → IsAt x j
is_at_lem {x} {j} e = subst (λ (y : Option ℕ). IsAt y j) (sym e) refl

first_yes : (test : ℕ → Bool) (k left : ℕ) → test k ≡ true → first_from test k (suc left) ≡ Some k
unfolding first_from
first_yes test k left t = rw (t, first_from) refl

first_no : (test : ℕ → Bool) (k left : ℕ) → test k ≡ false → first_from test k (suc left) ≡ first_from test (suc k) left
unfolding first_from
first_no test k left t = rw (t, first_from) refl

first_from_lem : (test : ℕ → Bool) (k left j : ℕ) → first_from test k left ≡ Some j → (test j ≡ true) × (j < k + left)
unfolding first_from
first_from_lem test k zero j e = absurd (is_at_lem e)
first_from_lem test k (suc left) j e =
    by_test (test k)
    (λ t. let z = is_at_lem (sym (first_yes test k left t) ∙ e) in (ap test (sym z) ∙ t, omega (arith, z)))
    (λ t. let r = first_from_lem test (suc k) left j (sym (first_no test k left t) ∙ e) in (r.0, omega (arith, r.1)))

pub first_passes : (test : ℕ → Bool) (n j : ℕ) → first test n ≡ Some j → (test j ≡ true) × (j < n)
unfolding first
first_passes test n j e = let r = first_from_lem test 0 n j e in (r.0, omega (arith, r.1))

-- Rows, their places, and how many nodes have begun, are as before.
pub record Quiet (so so₁ : Sofar) : Type 0 where
  pub rows_same : so₁.rows ≡ so.rows
  pub begun_same : so₁.begun ≡ so.begun
  pub places_same : so₁.places ≡ so.places

quiet : {so : Sofar} → Quiet so so
quiet = record { rows_same = refl; begun_same = refl; places_same = refl }

pub quiet_on : (so so₁ so₂ : Sofar) → Quiet so so₁ → Quiet so₁ so₂ → Quiet so so₂
quiet_on so so₁ so₂ p q = record { rows_same = q.rows_same ∙ p.rows_same; begun_same = q.begun_same ∙ p.begun_same; places_same = q.places_same ∙ p.places_same }

-- Single words.
pub next_yields : (finish : ℕ) (ts : List Token) (so : Sofar) → Yields (λ (t : Token) rest so₁. so₁ ≡ so) (next finish ts so)
unfolding next
next_yields finish [] so = halts
next_yields finish (t ∷ ts) so = yields refl

pub given_yields : (b : Bool) (why : Unread) (ts : List Token) (so : Sofar) → Yields (λ u rest so₁. (b ≡ true) × (so₁ ≡ so)) (given b why ts so)
unfolding given
given_yields true why ts so = yields (refl, refl)
given_yields false why ts so = halts

pub expect_yields : (w : Bytes) (finish : ℕ) (ts : List Token) (so : Sofar) → Yields (λ u rest so₁. so₁ ≡ so) (expect w finish ts so)
unfolding expect
expect_yields w finish ts so =
    then_yields _ (next_yields finish ts so) (λ t ts₁ so₁ e. weaker (given_yields _ _ ts₁ so₁) (λ u ts₂ so₂ g. g.1 ∙ e))

name_yields : (finish : ℕ) (ts : List Token) (so : Sofar) → Yields (λ (t : Token) rest so₁. so₁ ≡ so) (name finish ts so)
unfolding name
name_yields finish ts so =
    then_yields _ (next_yields finish ts so) (λ t ts₁ so₁ e. then_yields _ (given_yields _ _ ts₁ so₁) (λ u ts₂ so₂ g. yields (g.1 ∙ e)))

fresh_yields : (finish : ℕ) (ts : List Token) (so : Sofar) → Yields (λ (w : Bytes) rest so₁. so₁ ≡ so) (fresh finish ts so)
unfolding fresh
fresh_yields finish ts so =
    then_yields _ (name_yields finish ts so) (λ t ts₁ so₁ e.
    by_test (is_bound t.word so₁) (λ u. rw u halts) (λ u. rw u (yields e)))

pub variable_yields : (finish : ℕ) (ts : List Token) (so : Sofar) → Yields (λ (w : Bytes) rest so₁. Quiet so so₁) (variable finish ts so)
unfolding variable
variable_yields finish ts so =
    then_yields _ (fresh_yields finish ts so) (λ w ts₁ so₁ e. yields (record { rows_same = ap (λ (z : Sofar). z.rows) e; begun_same = ap (λ (z : Sofar). z.begun) e; places_same = ap (λ (z : Sofar). z.places) e }))

pub label_yields : (finish : ℕ) (ts : List Token) (so : Sofar) → Yields (λ (w : Bytes) rest so₁. Quiet so so₁) (label finish ts so)
unfolding label
label_yields finish ts so =
    then_yields _ (fresh_yields finish ts so) (λ w ts₁ so₁ e. yields (record { rows_same = ap (λ (z : Sofar). z.rows) e; begun_same = ap (λ (z : Sofar). z.begun) e; places_same = ap (λ (z : Sofar). z.places) e }))

pub target_yields : (names : List Bytes) (finish : ℕ) (ts : List Token) (so : Sofar) → Yields (λ (w : Bytes) rest so₁. so₁ ≡ so) (target names finish ts so)
unfolding target
target_yields names finish ts so =
    then_yields _ (name_yields finish ts so) (λ t ts₁ so₁ e. then_yields _ (given_yields _ _ ts₁ so₁) (λ u ts₂ so₂ g. yields (g.1 ∙ e)))

type_passes : (allowed : ℕ → Bool) (w : Bytes) (k : ℕ) → type_named allowed w ≡ Some k → allowed k ≡ true
unfolding type_named
type_passes allowed w k is = (and_both (allowed k) (same w (type_word k)) (first_passes (λ t. allowed t and same w (type_word t)) 8 k is).0).0

by_type : (allowed : ℕ → Bool) (so : Sofar) (at : ℕ) (w : Bytes) (x : Option ℕ) → type_named allowed w ≡ x → (ts₁ : List Token) (so₁ : Sofar) → so₁ ≡ so
    → Yields (λ (k : ℕ) rest so₂. (allowed k ≡ true) × (so₂ ≡ so)) (elim x [ Some k ↦ got k ts₁ so₁ | None ↦ stopped (Word at) ])
by_type allowed so at w (Some k) is ts₁ so₁ e = yields (type_passes allowed w k is, e)
by_type allowed so at w None is ts₁ so₁ e = halts

pub type_yields : (allowed : ℕ → Bool) (finish : ℕ) (ts : List Token) (so : Sofar) → Yields (λ (k : ℕ) rest so₁. (allowed k ≡ true) × (so₁ ≡ so)) (type allowed finish ts so)
unfolding type
type_yields allowed finish ts so =
    then_yields _ (next_yields finish ts so) (λ t ts₁ so₁ e. by_type allowed so t.at t.word (type_named allowed t.word) refl ts₁ so₁ e)

pub channel_yields : (finish : ℕ) (ts : List Token) (so : Sofar) → Yields (λ (x : ℕ) rest so₁. (x < 8) × (so₁ ≡ so)) (channel finish ts so)
unfolding channel
channel_yields finish ts so =
    then_yields _ (next_yields finish ts so) (λ t ts₁ so₁ e.
    then_yields _ (given_yields _ _ ts₁ so₁) (λ u ts₂ so₂ g.
    then_yields _ (given_yields _ _ ts₂ so₂) (λ u₁ ts₃ so₃ h.
    yields (ltb-true _ 8 (and_both (ltb (word_of t.word) 8) (in_range t.word) h.0).0, h.1 ∙ g.1 ∙ e))))

-- Values.
word_small : (w : Bytes) → in_range w ≡ true → word_of w < 4294967296
unfolding in_range word_of
word_small w e =
    by_test (is_negative w)
    (λ t. rw (t, word_of) (omega arith))
    (λ t. let l : size_of w ≤ 2147483647 = leb-true (size_of w) 2147483647 (rw t at e) in rw (t, word_of) (omega arith))

abbrev PlainShown : Sofar → Claim Written
PlainShown so v rest so₁ = (v.present ≡ 1) × PlainFits v.type v.word × (so₁ ≡ so)

pub plain_yields : (t : Token) (finish : ℕ) (ts : List Token) (so : Sofar) → Yields (PlainShown so) (plain_value t finish ts so)
unfolding plain_value plain
plain_yields t finish ts so =
    by_test (is_number t.word)
    (λ u. rw (u, plain_value) (then_yields _ (given_yields _ _ ts so) (λ x ts₁ so₁ g. yields (refl, an_int (word_small t.word g.0), g.1))))
    (λ u. by_test (same t.word true_word)
    (λ v. rw (u, v, plain_value) (yields (refl, a_truth, refl)))
    (λ v. by_test (same t.word false_word)
    (λ w. rw (u, v, w, plain_value) (yields (refl, a_falsehood, refl)))
    (λ w. rw (u, v, w, plain_value) (then_yields _ (given_yields _ _ ts so) (λ x ts₁ so₁ g. yields (refl, a_unit, g.1))))))

plain_type_lem : (k : ℕ) → is_plain k ≡ true → PlainType₀ k
unfolding is_plain ◌and◌
plain_type_lem zero e = absurd (not_both e)
plain_type_lem (suc zero) e = unit_type
plain_type_lem (suc (suc zero)) e = bool_type
plain_type_lem (suc (suc (suc zero))) e = int_type
plain_type_lem (suc (suc (suc (suc k)))) e =
    let l = leb-true (suc (suc (suc (suc k)))) 3 (and_both (leb 1 (suc (suc (suc (suc k))))) _ e).1 in absurd (omega arith)

abbrev pub Shows : Sofar → Claim Written
Shows so v rest so₁ = Fits v.type v.present v.word × (so₁ ≡ so)

pub maybe_yields : (t : Token) (finish : ℕ) (ts : List Token) (so : Sofar) → Yields (Shows so) (maybe_value t finish ts so)
unfolding maybe_value
maybe_yields t finish ts so =
    by_test (same t.word some_word)
    (λ u. rw (u, maybe_value)
    (then_yields _ (next_yields finish ts so) (λ x ts₁ so₁ e.
    then_yields _ (plain_yields x finish ts₁ so₁) (λ v ts₂ so₂ p.
    then_yields _ (expect_yields close₀ finish ts₂ so₂) (λ y ts₃ so₃ g. yields (some_fits p.1, g ∙ p.2 ∙ e))))))
    (λ u. rw (u, maybe_value)
    (then_yields _ (given_yields _ _ ts so) (λ x ts₁ so₁ e.
    then_yields _ (type_yields is_plain finish ts₁ so₁) (λ k ts₂ so₂ p.
    then_yields _ (expect_yields close₀ finish ts₂ so₂) (λ y ts₃ so₃ g. yields (none_fits (plain_type_lem k p.0), g ∙ p.1 ∙ e.1))))))

fits_as : (v : Written) → v.present ≡ 1 → PlainFits v.type v.word → Fits v.type v.present v.word
fits_as v e p = subst (λ (b : ℕ). Fits v.type b v.word) (sym e) (plain_fits p)

pub plain_shows : (t : Token) (finish : ℕ) (ts : List Token) (so : Sofar) → Yields (Shows so) (plain_value t finish ts so)
plain_shows t finish ts so = weaker (plain_yields t finish ts so) (λ v ts₁ so₁ p. (fits_as v p.0 p.1, p.2))

pub value_yields : (finish : ℕ) (ts : List Token) (so : Sofar) → Yields (Shows so) (value finish ts so)
unfolding value
value_yields finish ts so =
    then_yields _ (next_yields finish ts so) (λ t ts₁ so₁ e.
    by_test (same t.word open₀)
    (λ u. rw u (then_yields _ (next_yields finish ts₁ so₁) (λ x ts₂ so₂ g. weaker (maybe_yields x finish ts₂ so₂) (λ v ts₃ so₃ p. (p.0, p.1 ∙ g ∙ e)))))
    (λ u. rw u (weaker (plain_shows t finish ts₁ so₁) (λ v ts₂ so₂ p. (p.0, p.1 ∙ e)))))
