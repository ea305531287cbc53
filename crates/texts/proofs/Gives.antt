-- What a part of the reader gives, step by step: it is not stopped, and of what it gives something holds. A step's law says what the steps
-- behind it may take for granted, so that a proof reads like the reader.
-- Assumes nothing.
use Rattle.std.specs.Prelude.{Some}
use mathlib.Core.Path.{◌≡◌, refl, sym, ap, subst, ◌∙◌}
use mathlib.Core.Bool.{Bool, true, false}
use mathlib.Core.List.{List, [], ◌∷◌, nil≢cons, head-eq_of_cons-eq, tail-eq_of_cons-eq}
use Prim.Native.Nat.{ℕ}
use lib.Dec.{T}
use borrow.Author.Tests.{eq-eqb}
use Rattle.rules.specs.Bytes.{Bytes, ◌and◌}
use Rattle.texts.specs.Tokens.{Token}
use Rattle.texts.specs.Spelled.{same, is_among}
use Rattle.texts.specs.Spelling.{type_named, is_name}
use Rattle.texts.specs.Rows.{Sofar, Got, got, stopped, ◌onward◌}
use Rattle.texts.specs.Steps.{next, given, expect, name, is_bound, fresh, variable, label, target, type}
use Rattle.texts.specs.declared.Unread.{Unread}
use Rattle.texts.specs.declared.Unread.TheVariants.{Name}

pub false≢true : false ≡ true → ⊥
false≢true e = subst T (sym e) tt

pub same_refl : (w : Bytes) → same w w ≡ true
unfolding same ◌and◌
same_refl [] = refl
same_refl (x ∷ xs) = rw (eq-eqb x x refl) (same_refl xs)

-- "A name is bound once in a text": where a name that is bound already is to be bound, the reader stops at it, with 22.
name_is : (t : Token) (ts : List Token) (finish : ℕ) (so : Sofar) → is_name t.word ≡ true → name finish (t ∷ ts) so ≡ got t ts so
unfolding name next given ◌onward◌
name_is t ts finish so e = rw (e, given) refl

onward_got : {A B : Type 0} (r : Got A) (k : A → List Token → Sofar → Got B) (x : A) (ts : List Token) (so : Sofar) → r ≡ got x ts so → (r onward k) ≡ k x ts so
unfolding ◌onward◌
onward_got r k x ts so e = ap (λ (z : Got _). z onward k) e

pub bound_stops : (t : Token) (ts : List Token) (finish : ℕ) (so : Sofar) → is_name t.word ≡ true → is_bound t.word so ≡ true → fresh finish (t ∷ ts) so ≡ stopped (Name t.at)
unfolding fresh
bound_stops t ts finish so is_name is_bound = onward_got _ _ t ts so (name_is t ts finish so is_name) ∙ rw is_bound refl

-- The spellings of words.
abbrev pub words : List Token → List Bytes
words [] = []
words (t ∷ ts) = t.word ∷ words ts

abbrev pub Claim : Type 0 → Type 1
Claim A = A → List Token → Sofar → Type 0

pub data Gives {A : Type 0} (Q : Claim A) : Got A → Type 0 where
  gives : {x : A} {ts : List Token} {so : Sofar} → Q x ts so → Gives Q (got x ts so)

-- One part after another.
pub then_gives : {A B : Type 0} {P : Claim A} {Q : Claim B} (k : A → List Token → Sofar → Got B) {r : Got A}
    → Gives P r → ((x : A) (ts : List Token) (so : Sofar) → P x ts so → Gives Q (k x ts so)) → Gives Q (r onward k)
unfolding ◌onward◌
then_gives k (gives {x = x} {ts = ts} {so = so} p) h = h x ts so p

module _ {B : Type 0} {Q : Claim B} where
  pub after_next : (k : Token → List Token → Sofar → Got B) (w : Bytes) (W : List Bytes) (finish : ℕ) (ts : List Token) (so : Sofar)
      → words ts ≡ w ∷ W → ((t : Token) (rest : List Token) → t.word ≡ w → words rest ≡ W → Gives Q (k t rest so))
      → Gives Q (next finish ts so onward k)
  unfolding next ◌onward◌
  after_next k w W finish [] so e h = absurd (nil≢cons e)
  after_next k w W finish (t ∷ ts) so e h = h t ts (head-eq_of_cons-eq e) (tail-eq_of_cons-eq e)

  pub after_given : (k : Unit {0} → List Token → Sofar → Got B) (b : Bool) (why : Unread) (ts : List Token) (so : Sofar)
      → b ≡ true → Gives Q (k tt ts so) → Gives Q (given b why ts so onward k)
  unfolding given ◌onward◌
  after_given k true why ts so e h = h
  after_given k false why ts so e h = absurd (false≢true e)

  -- A chain of parts is a part and then the rest.
  pub regroup : {A C : Type 0} (r : Got A) (j : A → List Token → Sofar → Got C) (k : C → List Token → Sofar → Got B)
      → Gives Q (r onward (λ x ts so. j x ts so onward k)) → Gives Q (r onward j onward k)
  unfolding ◌onward◌
  regroup (got x ts so) j k h = h
  regroup (stopped why) j k h = h

  pub after_got : {A : Type 0} (k : A → List Token → Sofar → Got B) (x : A) (ts : List Token) (so : Sofar) → Gives Q (k x ts so) → Gives Q (got x ts so onward k)
  unfolding ◌onward◌
  after_got k x ts so h = h

  pub after_is : {A : Type 0} (k : A → List Token → Sofar → Got B) (r : Got A) (x : A) (ts : List Token) (so : Sofar) → r ≡ got x ts so → Gives Q (k x ts so) → Gives Q (r onward k)
  unfolding ◌onward◌
  after_is k r x ts so e h = rw e h

  pub after_expect : (k : Unit {0} → List Token → Sofar → Got B) (w : Bytes) (W : List Bytes) (finish : ℕ) (ts : List Token) (so : Sofar)
      → words ts ≡ w ∷ W → ((rest : List Token) → words rest ≡ W → Gives Q (k tt rest so)) → Gives Q (expect w finish ts so onward k)
  unfolding expect
  after_expect k w W finish ts so e h =
      regroup _ _ k (after_next _ w W finish ts so e (λ t rest is left. after_given k _ _ rest so (ap (λ (v : Bytes). same v w) is ∙ same_refl w) (h rest left)))

  -- A name that is not bound yet is bound.
  pub after_variable : (k : Bytes → List Token → Sofar → Got B) (w : Bytes) (W : List Bytes) (finish : ℕ) (ts : List Token) (so : Sofar)
      → words ts ≡ w ∷ W → is_name w ≡ true → is_bound w so ≡ false
      → ((rest : List Token) → words rest ≡ W → Gives Q (k w rest (record { begun = so.begun; rows = so.rows; places = so.places; variables = w ∷ so.variables; labels = so.labels })))
      → Gives Q (variable finish ts so onward k)
  unfolding variable fresh name
  after_variable k w W finish ts so e named is-new h =
      regroup _ _ k (regroup _ _ _ (regroup _ _ _ (after_next _ w W finish ts so e (λ t rest is left.
      regroup _ _ _ (after_given _ _ _ rest so (ap is_name is ∙ named) (after_got _ t rest so
      (rw (ap (λ (v : Bytes). is_bound v so) is ∙ is-new) (after_got _ t.word rest so (after_got _ _ rest _ (rw is (h rest left)))))))))))

  -- A type's word.
  pub after_type : (k : ℕ → List Token → Sofar → Got B) (allowed : ℕ → Bool) (w : Bytes) (t : ℕ) (W : List Bytes) (finish : ℕ) (ts : List Token) (so : Sofar)
      → words ts ≡ w ∷ W → type_named allowed w ≡ Some t → ((rest : List Token) → words rest ≡ W → Gives Q (k t rest so))
      → Gives Q (type allowed finish ts so onward k)
  unfolding type
  after_type k allowed w t W finish ts so e is_a_type h =
      regroup _ _ k (after_next _ w W finish ts so e (λ u rest is left. rw (ap (type_named allowed) is ∙ is_a_type) (after_got k t rest so (h rest left))))

  pub after_label : (k : Bytes → List Token → Sofar → Got B) (w : Bytes) (W : List Bytes) (finish : ℕ) (ts : List Token) (so : Sofar)
      → words ts ≡ w ∷ W → is_name w ≡ true → is_bound w so ≡ false
      → ((rest : List Token) → words rest ≡ W → Gives Q (k w rest (record { begun = so.begun; rows = so.rows; places = so.places; variables = so.variables; labels = w ∷ so.labels })))
      → Gives Q (label finish ts so onward k)
  unfolding label fresh name
  after_label k w W finish ts so e named is-new h =
      regroup _ _ k (regroup _ _ _ (regroup _ _ _ (after_next _ w W finish ts so e (λ t rest is left.
      regroup _ _ _ (after_given _ _ _ rest so (ap is_name is ∙ named) (after_got _ t rest so
      (rw (ap (λ (v : Bytes). is_bound v so) is ∙ is-new) (after_got _ t.word rest so (after_got _ _ rest _ (rw is (h rest left)))))))))))

  -- A target that is among the names.
  pub after_target : (k : Bytes → List Token → Sofar → Got B) (names : List Bytes) (w : Bytes) (W : List Bytes) (finish : ℕ) (ts : List Token) (so : Sofar)
      → words ts ≡ w ∷ W → is_name w ≡ true → is_among w names ≡ true → ((rest : List Token) → words rest ≡ W → Gives Q (k w rest so))
      → Gives Q (target names finish ts so onward k)
  unfolding target name
  after_target k names w W finish ts so e named among h =
      regroup _ _ k (regroup _ _ _ (after_next _ w W finish ts so e (λ t rest is left.
      regroup _ _ _ (after_given _ _ _ rest so (ap is_name is ∙ named) (after_got _ t rest so
      (regroup _ _ k (after_given _ _ _ rest so (ap (λ (v : Bytes). is_among v names) is ∙ among) (after_got k _ rest so (rw is (h rest left))))))))))
