-- The steps one behind the other: what a step that stopped, or gave something, makes of what follows it.
-- Assumes nothing.
use Rattle.std.specs.Prelude.{if◌then◌else◌, Option, Some, None, Result, Ok, Err, IsErrAnd}
use mathlib.Core.Path.{◌≡◌, refl, sym, ap, ap₂, subst, ◌∙◌}
use mathlib.Core.Bool.{Bool, true, false}
use mathlib.Core.List.{List, [], ◌∷◌}
use Prim.Native.Nat.{ℕ, zero, suc, ◌+◌, ◌≤◌, ◌<◌}
use native.Mathlib.Omega.{arith}
use lib.Dec.{ltb}
use lib.ListN.{length, get_or}
use borrow.Author.Tests.{lt-ltb, le-ltb, eq-eqb, ne_eqb}
use Rattle.rules.specs.Bytes.{Bytes, ◌and◌, ◌or◌, first, first_from}
use Rattle.texts.specs.Tokens.{Token, token, from, part}
use Rattle.texts.specs.Spelled.{same, is_among}
use Rattle.texts.specs.Spelling.{open₀, type_named, true_word, false_word, unit_word, some_word, none_word}
use Rattle.texts.specs.Numerals.{is_number, in_range, word_of}
use Rattle.texts.specs.Rows.{Sofar, Got, got, stopped, ◌onward◌}
use Rattle.texts.specs.Steps as S
use Rattle.texts.specs.Reader as R
use Rattle.rules.specs.Kinds.{fields_of}
use Rattle.rules.specs.declared.TypeField.{TypeField}
use Rattle.texts.specs.declared.Unread.{Unread}
use Rattle.texts.specs.declared.Unread.TheVariants.{Word, Name, Range}
use Rattle.tokens.specs.Ahead.{Ahead}
use Rattle.tokens.specs.declared.Span.{Span}
use Rattle.spell.specs.Vocabulary.{number_in, allowed}
use Rattle.rules.specs.Values.{is_plain, is_type}
use Rattle.spell.specs.declared.NumberFault.TheVariants.{Outside, Other}
use Rattle.labels.specs.Noted.{named_by, names_in, noted}
use Rattle.labels.proofs.NoteLaws.{named_part, noted_names_lem, noted_after, noted_before', noted_other, noted_count, noted_length}
use Rattle.phrases.specs.declared.Read.{Read}
use Rattle.phrases.specs.declared.Constant.{Constant}
use Rattle.phrases.specs.Gave.{Past, with_names, Tables, gave, gave_word, NamePart, Below, PlainTyped, head_of, gave_head, some_value, none_value}

-- The next word.
module _ (text : Bytes) (at : ℕ) (r : Option Span) (a : Ahead text at r) where
  pub at_end : r ≡ None → from text at ≡ []
  at_end e = subst (Ahead text at) e a

  pub at_word : (w : Span) → r ≡ Some w → (at ≤ w.first) × (w.first < w.end) × (w.end ≤ length text) × (from text at ≡ token w.first (part text w.first w.end) ∷ from text w.end)
  at_word w q = subst (Ahead text at) q a

  pub word_part : (w : Span) → r ≡ Some w → (w.first < w.end) × (w.end ≤ length text)
  word_part w q = let x = at_word w q in (x.1, x.2)

  pub next_none : r ≡ None → (finish : ℕ) (so : Sofar) → stopped (Word finish) ≡ S.next finish (from text at) so
  unfolding S.next
  next_none e finish so = rw (at_end e) refl

  pub next_some : (w : Span) → r ≡ Some w → (finish : ℕ) (so : Sofar) → got (token w.first (part text w.first w.end)) (from text w.end) so ≡ S.next finish (from text at) so
  unfolding S.next
  next_some w q finish so = rw (at_word w q).3 refl

  module _ {A : Type 0} (finish : ℕ) (so : Sofar) (k : Token → List Token → Sofar → Got A) where
    pub none_next : r ≡ None → stopped (Word finish) ≡ (S.next finish (from text at) so onward k)
    unfolding ◌onward◌
    none_next e = ap (λ (m : Got Token). m onward k) (next_none e finish so)

    pub some_next : (w : Span) → r ≡ Some w → k (token w.first (part text w.first w.end)) (from text w.end) so ≡ (S.next finish (from text at) so onward k)
    unfolding ◌onward◌
    some_next w q = ap (λ (m : Got Token). m onward k) (next_some w q finish so)

  pub position_none : r ≡ None → (finish : ℕ) → finish ≡ S.position finish (from text at)
  unfolding S.position
  position_none e finish = rw (at_end e) refl

  pub position_some : (w : Span) → r ≡ Some w → (finish : ℕ) → w.first ≡ S.position finish (from text at)
  unfolding S.position token
  position_some w q finish = rw (at_word w q).3 refl

-- A test that holds, or does not.
module _ {A : Type 0} (b : Bool) (why : Unread) (ts : List Token) (so : Sofar) (k : Unit {0} → List Token → Sofar → Got A) where
  pub given_on : b ≡ true → k tt ts so ≡ (S.given b why ts so onward k)
  unfolding S.given ◌onward◌
  given_on e = rw e refl

  pub given_off : b ≡ false → stopped why ≡ (S.given b why ts so onward k)
  unfolding S.given ◌onward◌
  given_off e = rw e refl

module _ (b : Bool) (why : Unread) (ts : List Token) (so : Sofar) where
  pub given_true : b ≡ true → got tt ts so ≡ S.given b why ts so
  unfolding S.given
  given_true e = rw e refl

  pub given_false : b ≡ false → stopped why ≡ S.given b why ts so
  unfolding S.given
  given_false e = rw e refl

-- A step of the code before others: one that reads a word, and any other.
module _ {A B : Type 0} (f : ℕ → ℕ → A) (text : Bytes) (so : Sofar) (r : Result Span Unread) (m : Got A) (e : gave_word f text so r ≡ m) (k : A → List Token → Sofar → Got B) where
  pub word_stop : (why : Unread) → r ≡ Err why → stopped why ≡ (m onward k)
  unfolding gave_word ◌onward◌
  word_stop why q = ap (λ (x : Got A). x onward k) (ap (gave_word f text so) (sym q) ∙ e)

  pub word_read : (w : Span) → r ≡ Ok w → k (f w.first w.end) (from text w.end) so ≡ (m onward k)
  unfolding gave_word ◌onward◌
  word_read w q = ap (λ (x : Got A). x onward k) (ap (gave_word f text so) (sym q) ∙ e)

module _ {A B V : Type 0} (f : V → ℕ → A) (text : Bytes) (so : Sofar) (r : Result (Read V) Unread) (m : Got A) (e : gave f text so r ≡ m) (k : A → List Token → Sofar → Got B) where
  pub step_stop : (why : Unread) → r ≡ Err why → stopped why ≡ (m onward k)
  unfolding gave ◌onward◌
  step_stop why q = ap (λ (x : Got A). x onward k) (ap (gave f text so) (sym q) ∙ e)

  pub step_read : (v : Read V) → r ≡ Ok v → k (f v.value v.behind) (from text v.behind) so ≡ (m onward k)
  unfolding gave ◌onward◌
  step_read v q = ap (λ (x : Got A). x onward k) (ap (gave f text so) (sym q) ∙ e)

-- What `?` hands on is the reason that it was given.
pub err_is : {T E : Type 0} (r : Result T E) (e : E) → IsErrAnd r (λ x. x ≡ e) → r ≡ Err e
err_is (Ok x) e h = absurd h
err_is (Err x) e h = ap Err h

pub word_err : {A : Type 0} (f : ℕ → ℕ → A) (text : Bytes) (so : Sofar) (r : Result Span Unread) (why : Unread) → r ≡ Err why → gave_word f text so r ≡ stopped why
unfolding gave_word
word_err f text so r why q = ap (gave_word f text so) q

pub step_err : {A V : Type 0} (f : V → ℕ → A) (text : Bytes) (so : Sofar) (r : Result (Read V) Unread) (why : Unread) → r ≡ Err why → gave f text so r ≡ stopped why
unfolding gave
step_err f text so r why q = ap (gave f text so) q

pub part_err : (text : Bytes) (r : Result Span Unread) (why : Unread) → r ≡ Err why → NamePart text r
part_err text r why q = subst (NamePart text) (sym q) tt

pub below_err : (n : ℕ) (r : Result (Read ℕ) Unread) (why : Unread) → r ≡ Err why → Below n r
below_err n r why q = subst (Below n) (sym q) tt

pub part_of : (text : Bytes) (r : Result Span Unread) → NamePart text r → (w : Span) → r ≡ Ok w → (w.first < w.end) × (w.end ≤ length text)
part_of text r p w q = subst (NamePart text) q p

pub below_of : (n : ℕ) (r : Result (Read ℕ) Unread) → Below n r → (v : Read ℕ) → r ≡ Ok v → v.value < n
below_of n r p v q = subst (Below n) q p

pub typed_of : (r : Result (Read Constant) Unread) → PlainTyped r → (v : Read Constant) → r ≡ Ok v → v.value.ty < 4
typed_of r p v q = subst PlainTyped q p

-- A word as a number.
pub number_other : (w : Bytes) → number_in w ≡ Err Other → is_number w ≡ false
unfolding number_in
number_other w e = go (is_number w) (in_range w) refl e
  where
    go : (b c : Bool) → is_number w ≡ b → (if b then if c then Ok (word_of w) else Err Outside else Err Other) ≡ Err Other → is_number w ≡ false
    go true true q z = absurd (let y : ◌≡◌ {A = ℕ} 0 1 = cc in omega arith)
    go true false q z = absurd (let y : ◌≡◌ {A = ℕ} 0 1 = cc in omega arith)
    go false c q z = q

pub number_outside : (w : Bytes) → number_in w ≡ Err Outside → (is_number w ≡ true) × (in_range w ≡ false)
unfolding number_in
number_outside w e = go (is_number w) (in_range w) refl refl e
  where
    go : (b c : Bool) → is_number w ≡ b → in_range w ≡ c → (if b then if c then Ok (word_of w) else Err Outside else Err Other) ≡ Err Outside → (is_number w ≡ true) × (in_range w ≡ false)
    go true true q p z = absurd (let y : ◌≡◌ {A = ℕ} 0 1 = cc in omega arith)
    go true false q p z = (q, p)
    go false c q p z = absurd (let y : ◌≡◌ {A = ℕ} 0 1 = cc in omega arith)

pub number_inside : (w : Bytes) (n : ℕ) → number_in w ≡ Ok n → (is_number w ≡ true) × (in_range w ≡ true) × (word_of w ≡ n)
unfolding number_in
number_inside w n e = go (is_number w) (in_range w) refl refl e
  where
    go : (b c : Bool) → is_number w ≡ b → in_range w ≡ c → (if b then if c then Ok (word_of w) else Err Outside else Err Other) ≡ Ok n → (is_number w ≡ true) × (in_range w ≡ true) × (word_of w ≡ n)
    go true true q p z = (q, p, (cc))
    go true false q p z = absurd (let y : ◌≡◌ {A = ℕ} 0 1 = cc in omega arith)
    go false c q p z = absurd (let y : ◌≡◌ {A = ℕ} 0 1 = cc in omega arith)

-- A channel.
module _ (w : Bytes) (at : ℕ) (ts : List Token) (so : Sofar) where
  abbrev behind_channel : Got ℕ
  behind_channel =
      S.given (is_number w) (Word at) ts so onward λ _ ts so.
      S.given (ltb (word_of w) 8 and in_range w) (Range at) ts so onward λ _ ts so.
      got (word_of w) ts so

  pub channel_other : number_in w ≡ Err Other → stopped (Word at) ≡ behind_channel
  channel_other e = given_off (is_number w) (Word at) ts so _ (number_other w e)

  pub channel_outside : number_in w ≡ Err Outside → stopped (Range at) ≡ behind_channel
  unfolding ◌and◌
  channel_outside e =
      given_off (ltb (word_of w) 8 and in_range w) (Range at) ts so _ (and_false (ltb (word_of w) 8) (in_range w) (number_outside w e).1)
      ∙ given_on (is_number w) (Word at) ts so _ (number_outside w e).0
    where
      and_false : (b c : Bool) → c ≡ false → (b and c) ≡ false
      and_false true c q = q
      and_false false c q = refl

  pub channel_inside : (n : ℕ) → number_in w ≡ Ok n → n < 8 → got n ts so ≡ behind_channel
  unfolding ◌and◌
  channel_inside n e l =
      ap (λ (x : ℕ). got x ts so) (sym (number_inside w n e).2)
      ∙ given_on (ltb (word_of w) 8 and in_range w) (Range at) ts so _ (rw (lt-ltb (word_of w) 8 (subst (λ (x : ℕ). x < 8) (sym (number_inside w n e).2) l), (number_inside w n e).1) refl)
      ∙ given_on (is_number w) (Word at) ts so _ (number_inside w n e).0

  pub channel_above : (n : ℕ) → number_in w ≡ Ok n → 8 ≤ n → stopped (Range at) ≡ behind_channel
  unfolding ◌and◌
  channel_above n e l =
      given_off (ltb (word_of w) 8 and in_range w) (Range at) ts so _ (rw (le-ltb (word_of w) 8 (subst (λ (x : ℕ). 8 ≤ x) (sym (number_inside w n e).2) l)) refl)
      ∙ given_on (is_number w) (Word at) ts so _ (number_inside w n e).0

-- A type.
module _ (test : ℕ → Bool) (w : Bytes) (at : ℕ) (ts : List Token) (so : Sofar) where
  abbrev behind_type : Got ℕ
  behind_type = elim (type_named test w) [ Some k ↦ got k ts so | None ↦ stopped (Word at) ]

  pub type_none : (q : Option ℕ) → q ≡ type_named test w → q ≡ None → stopped (Word at) ≡ behind_type
  type_none q e z = ap (λ (x : Option ℕ). elim x [ Some k ↦ got k ts so | None ↦ stopped (Word at) ]) (sym z ∙ e)

  pub type_some : (q : Option ℕ) (k : ℕ) → q ≡ type_named test w → q ≡ Some k → got k ts so ≡ behind_type
  type_some q k e z = ap (λ (x : Option ℕ). elim x [ Some k ↦ got k ts so | None ↦ stopped (Word at) ]) (sym z ∙ e)

-- A name that is bound, or is not.
abbrev pub fresh_by : Bool → Bytes → ℕ → List Token → Sofar → Got Bytes
fresh_by b w at ts so = elim b [ true ↦ stopped (Name at) | false ↦ got w ts so ]

module _ (w : Bytes) (at : ℕ) (ts : List Token) (so : Sofar) where
  pub bound_variable : is_among w so.variables ≡ true → stopped (Name at) ≡ fresh_by (S.is_bound w so) w at ts so
  unfolding S.is_bound ◌or◌
  bound_variable e = ap (λ (b : Bool). fresh_by (b or is_among w so.labels) w at ts so) (sym e)

  pub bound_branch : is_among w so.variables ≡ false → is_among w so.labels ≡ true → stopped (Name at) ≡ fresh_by (S.is_bound w so) w at ts so
  unfolding S.is_bound ◌or◌
  bound_branch e d = ap (λ (b : Bool). fresh_by b w at ts so) (sym d) ∙ ap (λ (b : Bool). fresh_by (b or is_among w so.labels) w at ts so) (sym e)

  pub bound_none : is_among w so.variables ≡ false → is_among w so.labels ≡ false → got w ts so ≡ fresh_by (S.is_bound w so) w at ts so
  unfolding S.is_bound ◌or◌
  bound_none e d = ap (λ (b : Bool). fresh_by b w at ts so) (sym d) ∙ ap (λ (b : Bool). fresh_by (b or is_among w so.labels) w at ts so) (sym e)

-- A name noted.
module _ (p : Past) (text : Bytes) (names : List ℕ) (t : Tables names 1008) (s e : ℕ) (h : s < e) (k : e ≤ length text) where
  pub with_variable : get_or names 0 0 < 1008 → with_names p text (noted names 0 s e)
      ≡ record { begun = p.begun; rows = p.rows; places = p.places; variables = part text s e ∷ names_in text names 0; labels = names_in text names 2017 }
  unfolding with_names
  with_variable room =
      ap₂ (λ (vs : List Bytes) (ls : List Bytes). record { begun = p.begun; rows = p.rows; places = p.places; variables = vs; labels = ls })
      (noted_names_lem names 0 s e room (omega (arith, t.long)) text ∙ ap (λ (w : Bytes). w ∷ names_in text names 0) (named_part text s e (omega arith) k))
      (noted_after names 0 s e room (omega (arith, t.long)) text 2017 t.branches (omega arith))

  pub with_branch : get_or names 2017 0 < 1008 → with_names p text (noted names 2017 s e)
      ≡ record { begun = p.begun; rows = p.rows; places = p.places; variables = names_in text names 0; labels = part text s e ∷ names_in text names 2017 }
  unfolding with_names
  with_branch room =
      ap₂ (λ (vs : List Bytes) (ls : List Bytes). record { begun = p.begun; rows = p.rows; places = p.places; variables = vs; labels = ls })
      (noted_before' names 2017 s e room (omega (arith, t.long)) text 0 t.variables (omega arith))
      (noted_names_lem names 2017 s e room (omega (arith, t.long)) text ∙ ap (λ (w : Bytes). w ∷ names_in text names 2017) (named_part text s e (omega arith) k))

-- What noting leaves of the table.
module _ (names : List ℕ) (t : Tables names 1008) (s e : ℕ) (names' : List ℕ) where
  pub kept_variable : get_or names 0 0 < 1008 → names' ≡ noted names 0 s e → (length names' ≡ 4034) × (get_or names' 0 0 ≤ get_or names 0 0 + 1) × (get_or names' 2017 0 ≡ get_or names 2017 0)
  kept_variable room z = (
    ap length z ∙ noted_length names 0 s e room (omega (arith, t.long)) ∙ t.long,
    omega (arith, ap (λ (x : List ℕ). get_or x 0 0) z, noted_count names 0 s e room (omega (arith, t.long))),
    ap (λ (x : List ℕ). get_or x 2017 0) z ∙ noted_other names 0 s e room (omega (arith, t.long)) 2017 (λ a b. omega arith),
  )

  pub kept_branch : get_or names 2017 0 < 1008 → names' ≡ noted names 2017 s e → (length names' ≡ 4034) × (get_or names' 2017 0 ≤ get_or names 2017 0 + 1) × (get_or names' 0 0 ≡ get_or names 0 0)
  kept_branch room z = (
    ap length z ∙ noted_length names 2017 s e room (omega (arith, t.long)) ∙ t.long,
    omega (arith, ap (λ (x : List ℕ). get_or x 2017 0) z, noted_count names 2017 s e room (omega (arith, t.long))),
    ap (λ (x : List ℕ). get_or x 0 0) z ∙ noted_other names 2017 s e room (omega (arith, t.long)) 0 (λ a b. omega arith),
  )

pub kept_all : (names : List ℕ) → Tables names 1008 → (length names ≡ 4034) × (get_or names 0 0 ≤ get_or names 0 0 + 1) × (get_or names 2017 0 ≡ get_or names 2017 0)
kept_all names t = (t.long, omega arith, refl)

-- A plain value that is a word.
abbrev plain_by : Bool → Bool → Bool → Bool → Bool → Bytes → ℕ → List Token → Sofar → Got S.Written
plain_by n r t f u w at ts so =
    elim n [
      | true ↦ S.given r (Range at) ts so onward λ _ ts so. got (S.plain 3 (word_of w)) ts so
      | false ↦
          elim t [
            | true ↦ got (S.plain 2 1) ts so
            | false ↦
                elim f [
                  | true ↦ got (S.plain 2 0) ts so
                  | false ↦ S.given u (Word at) ts so onward λ _ ts so. got (S.plain 1 0) ts so
                ]
          ]
    ]

-- Tests of which the results are known.
module _ (w : Bytes) (at : ℕ) (finish : ℕ) (ts : List Token) (so : Sofar) where
  plain_by_lem : (n r t f u : Bool) → is_number w ≡ n → in_range w ≡ r → same w true_word ≡ t → same w false_word ≡ f → same w unit_word ≡ u
      → plain_by n r t f u w at ts so ≡ S.plain_value (token at w) finish ts so
  unfolding S.plain_value token
  plain_by_lem n r t f u a b c d e =
      ap (λ (x : Bool). plain_by x r t f u w at ts so) (sym a) ∙ ap (λ (x : Bool). plain_by (is_number w) x t f u w at ts so) (sym b)
      ∙ ap (λ (x : Bool). plain_by (is_number w) (in_range w) x f u w at ts so) (sym c) ∙ ap (λ (x : Bool). plain_by (is_number w) (in_range w) (same w true_word) x u w at ts so) (sym d)
      ∙ ap (λ (x : Bool). plain_by (is_number w) (in_range w) (same w true_word) (same w false_word) x w at ts so) (sym e)

  pub plain_inside : (n : ℕ) → number_in w ≡ Ok n → got (S.plain 3 n) ts so ≡ S.plain_value (token at w) finish ts so
  unfolding S.given ◌onward◌
  plain_inside n e =
      ap (λ (x : ℕ). got (S.plain 3 x) ts so) (sym (number_inside w n e).2) ∙ plain_by_lem true true _ _ _ (number_inside w n e).0 (number_inside w n e).1 refl refl refl

  pub plain_outside : number_in w ≡ Err Outside → stopped (Range at) ≡ S.plain_value (token at w) finish ts so
  unfolding S.given ◌onward◌
  plain_outside e = plain_by_lem true false _ _ _ (number_outside w e).0 (number_outside w e).1 refl refl refl

  module _ (no_number : is_number w ≡ false) where
    pub plain_true : same w true_word ≡ true → got (S.plain 2 1) ts so ≡ S.plain_value (token at w) finish ts so
    plain_true e = plain_by_lem false _ true _ _ no_number refl e refl refl

    pub plain_false : same w true_word ≡ false → same w false_word ≡ true → got (S.plain 2 0) ts so ≡ S.plain_value (token at w) finish ts so
    plain_false e d = plain_by_lem false _ false true _ no_number refl e d refl

    pub plain_unit : same w true_word ≡ false → same w false_word ≡ false → same w unit_word ≡ true → got (S.plain 1 0) ts so ≡ S.plain_value (token at w) finish ts so
    unfolding S.given ◌onward◌
    plain_unit e d b = plain_by_lem false _ false false true no_number refl e d b

    pub plain_none : same w true_word ≡ false → same w false_word ≡ false → same w unit_word ≡ false → stopped (Word at) ≡ S.plain_value (token at w) finish ts so
    unfolding S.given ◌onward◌
    plain_none e d b = plain_by_lem false _ false false false no_number refl e d b

-- A type's number is small.
below_step : (test : ℕ → Bool) (k left n : ℕ) → (first_from test (suc k) left ≡ Some n → n < suc k + left) → (b : Bool)
    → elim b [ true ↦ Some k | false ↦ first_from test (suc k) left ] ≡ Some n → n < k + suc left
below_step test k left n h true q = let z : k ≡ n = cc in omega arith
below_step test k left n h false q = let z : n < suc k + left = h q in omega arith

pub from_below : (test : ℕ → Bool) (k left n : ℕ) → first_from test k left ≡ Some n → n < k + left
unfolding first_from
from_below test k zero n e = absurd (let y : ◌≡◌ {A = ℕ} 0 1 = cc in omega arith)
from_below test k (suc left) n e = below_step test k left n (λ q. from_below test (suc k) left n q) (test k) e

pub type_small : (test : ℕ → Bool) (w : Bytes) (q : Option ℕ) (k : ℕ) → q ≡ type_named test w → q ≡ Some k → k < 8
unfolding type_named first
type_small test w q k e z = from_below _ 0 8 k (sym e ∙ z)

-- A number is a plain value; a word that is none is, if it is true, false or unit.
pub is_number_true : (w : Bytes) → is_number w ≡ true → true ≡ S.is_plain_value w
unfolding ◌or◌ S.is_plain_value
is_number_true w e = ap (λ (b : Bool). b or same w true_word or same w false_word or same w unit_word) (sym e)

pub is_word_value : (w : Bytes) → is_number w ≡ false → S.is_plain_value w ≡ (same w true_word or same w false_word or same w unit_word)
unfolding ◌or◌ S.is_plain_value
is_word_value w e = rw e refl

-- Some, none, and what is neither.
module _ (w : Bytes) (at : ℕ) (finish : ℕ) (ts : List Token) (so : Sofar) where
  abbrev maybe_by : Bool → Bool → Got S.Written
  maybe_by s n = elim s [ true ↦ some_value finish ts so | false ↦ S.given n (Word at) ts so onward λ _ ts so. none_value finish ts so ]

  maybe_by_lem : (s n : Bool) → same w some_word ≡ s → same w none_word ≡ n → maybe_by s n ≡ S.maybe_value (token at w) finish ts so
  unfolding S.maybe_value token some_value none_value
  maybe_by_lem s n a b = ap (λ (x : Bool). maybe_by x n) (sym a) ∙ ap (λ (x : Bool). maybe_by (same w some_word) x) (sym b)

  pub maybe_some : same w some_word ≡ true → some_value finish ts so ≡ S.maybe_value (token at w) finish ts so
  maybe_some e = maybe_by_lem true _ e refl

  pub maybe_none : same w some_word ≡ false → same w none_word ≡ true → none_value finish ts so ≡ S.maybe_value (token at w) finish ts so
  unfolding S.given ◌onward◌
  maybe_none e d = maybe_by_lem false true e d

  pub maybe_other : same w some_word ≡ false → same w none_word ≡ false → stopped (Word at) ≡ S.maybe_value (token at w) finish ts so
  unfolding S.given ◌onward◌
  maybe_other e d = maybe_by_lem false false e d

-- A value: behind a parenthesis, or a word.
abbrev pub value_by : Bool → Bytes → ℕ → ℕ → List Token → Sofar → Got S.Written
value_by b w at finish ts so =
    elim b [ true ↦ S.next finish ts so onward (λ u ts so. S.maybe_value u finish ts so) | false ↦ S.plain_value (token at w) finish ts so ]

module _ (w : Bytes) (at : ℕ) (finish : ℕ) (ts : List Token) (so : Sofar) where
  pub value_opened : same w open₀ ≡ true → (S.next finish ts so onward λ u ts so. S.maybe_value u finish ts so) ≡ value_by (same w open₀) w at finish ts so
  value_opened e = ap (λ (b : Bool). value_by b w at finish ts so) (sym e)

  pub value_plain : same w open₀ ≡ false → S.plain_value (token at w) finish ts so ≡ value_by (same w open₀) w at finish ts so
  value_plain e = ap (λ (b : Bool). value_by b w at finish ts so) (sym e)

-- A name noted, behind the step that read it.
module _ (p : Past) (text : Bytes) (names : List ℕ) (t : Tables names 1008) (s e : ℕ) (h : s < e) (k : e ≤ length text) (names' : List ℕ) where
  pub got_variable : get_or names 0 0 < 1008 → names' ≡ noted names 0 s e → got (part text s e) (from text e) (with_names p text names')
      ≡ got (part text s e) (from text e) (record { begun = p.begun; rows = p.rows; places = p.places; variables = part text s e ∷ names_in text names 0; labels = names_in text names 2017 })
  got_variable room z = ap (λ (so : Sofar). got (part text s e) (from text e) so) (ap (with_names p text) z ∙ with_variable p text names t s e h k room)

  pub got_branch : get_or names 2017 0 < 1008 → names' ≡ noted names 2017 s e → got (part text s e) (from text e) (with_names p text names')
      ≡ got (part text s e) (from text e) (record { begun = p.begun; rows = p.rows; places = p.places; variables = names_in text names 0; labels = part text s e ∷ names_in text names 2017 })
  got_branch room z = ap (λ (so : Sofar). got (part text s e) (from text e) so) (ap (with_names p text) z ∙ with_branch p text names t s e h k room)

-- Plain types, and all.
pub allowed_plain : allowed true ≡ is_plain
unfolding allowed
allowed_plain = λ i t. is_plain t

pub allowed_any : allowed false ≡ is_type
unfolding allowed
allowed_any = λ i t. is_type t

pub type_plain : (finish : ℕ) (ts : List Token) (so : Sofar) → S.type (allowed true) finish ts so ≡ S.type is_plain finish ts so
type_plain finish ts so = ap (λ (f : ℕ → Bool). S.type f finish ts so) allowed_plain

-- No name.
pub no_name : (text : Bytes) → named_by text 0 0 ≡ []
unfolding part
no_name text = named_part text 0 0 (omega arith) (omega arith)

-- A heading before other steps, and headings of no name.
module _ (text : Bytes) (own : Span) where
  pub head_none : (ty present word : ℕ) (at : ℕ) (so : Sofar)
      → gave_head text so (Ok (record { value = record { label = own; binds = record { first = 0; end = 0 }; ty = ty; present = present; word = word }; behind = at }))
      ≡ got (record { label = named_by text own.first own.end; binds = []; type = ty; present = present; word = word }) (from text at) so
  unfolding head_of gave
  head_none ty present word at so =
      ap (λ (n : Bytes). got (record { label = named_by text own.first own.end; binds = n; type = ty; present = present; word = word }) (from text at) so) (no_name text)

  pub head_binds : (w : Span) (ty : ℕ) (at : ℕ) (so : Sofar) → w.first < w.end → w.end ≤ length text
      → gave_head text so (Ok (record { value = record { label = own; binds = w; ty = ty; present = 0; word = 0 }; behind = at }))
      ≡ got (record { label = named_by text own.first own.end; binds = part text w.first w.end; type = ty; present = 0; word = 0 }) (from text at) so
  unfolding head_of gave
  head_binds w ty at so h k =
      ap (λ (n : Bytes). got (record { label = named_by text own.first own.end; binds = n; type = ty; present = 0; word = 0 }) (from text at) so) (named_part text w.first w.end (omega arith) k)

-- What a type field asks for.
module _ (f : TypeField) (own : Bytes) (finish : ℕ) (ts : List Token) (so : Sofar) where
  pub typed_none : f ≡ TypeField.NoType → got (record { label = own; binds = []; type = 0; present = 0; word = 0 }) ts so ≡ R.typed f own finish ts so
  unfolding R.typed
  typed_none e = ap (λ (g : TypeField). R.typed g own finish ts so) (sym e)

  pub typed_any : f ≡ TypeField.AnyType → R.binding (allowed false) own finish ts so ≡ R.typed f own finish ts so
  unfolding R.typed
  typed_any e = ap (λ (g : ℕ → Bool). R.binding g own finish ts so) allowed_any ∙ ap (λ (g : TypeField). R.typed g own finish ts so) (sym e)

  pub typed_plain : f ≡ TypeField.PlainType → R.binding (allowed true) own finish ts so ≡ R.typed f own finish ts so
  unfolding R.typed
  typed_plain e = ap (λ (g : ℕ → Bool). R.binding g own finish ts so) allowed_plain ∙ ap (λ (g : TypeField). R.typed g own finish ts so) (sym e)

  pub typed_value : f ≡ TypeField.ValueType → R.typed TypeField.ValueType own finish ts so ≡ R.typed f own finish ts so
  typed_value e = ap (λ (g : TypeField). R.typed g own finish ts so) (sym e)

-- A heading: a branch's begins with its own name.
module _ (text : Bytes) (f : TypeField) (k finish : ℕ) (ts : List Token) (so : Sofar) where
  abbrev labelled_by : Bool → Got Bytes
  labelled_by b = elim b [ true ↦ S.label finish ts so | false ↦ got [] ts so ]

  pub heading_other : (k ≡ 9 → ⊥) → f ≡ (fields_of k).ty → R.typed f (named_by text 0 0) finish ts so ≡ R.heading k finish ts so
  unfolding R.heading R.labelled ◌onward◌
  heading_other d e =
      ap (λ (n : Bytes). R.typed f n finish ts so) (no_name text) ∙ ap (λ (g : TypeField). R.typed g [] finish ts so) e
      ∙ ap (λ (b : Bool). labelled_by b onward λ own ts so. R.typed (fields_of k).ty own finish ts so) (sym (ne_eqb k 9 d))

  pub typed_named : (s e : ℕ) → s < e → e ≤ length text → f ≡ (fields_of k).ty → R.typed f (named_by text s e) finish ts so ≡ R.typed (fields_of k).ty (part text s e) finish ts so
  typed_named s e h l q =
      ap (λ (n : Bytes). R.typed f n finish ts so) (named_part text s e (omega arith) l) ∙ ap (λ (g : TypeField). R.typed g (part text s e) finish ts so) q

module _ (k finish : ℕ) (ts : List Token) (so : Sofar) where
  abbrev labelled_by' : Bool → Got Bytes
  labelled_by' b = elim b [ true ↦ S.label finish ts so | false ↦ got [] ts so ]

  pub heading_branch : k ≡ 9 → (S.label finish ts so onward λ own ts so. R.typed (fields_of k).ty own finish ts so) ≡ R.heading k finish ts so
  unfolding R.heading R.labelled ◌onward◌
  heading_branch e = ap (λ (b : Bool). labelled_by' b onward λ own ts so. R.typed (fields_of k).ty own finish ts so) (sym (eq-eqb k 9 e))
