-- The pieces that are printed of a laid out node stay apart, whatever stands before them.
-- Assumes nothing.
use mathlib.Core.Path.{◌≡◌, refl, sym, subst, ◌∙◌}
use mathlib.Core.Bool.{Bool, true, false, not}
use mathlib.Core.List.{List, [], ◌∷◌, ◌++◌, append_assoc}
use Prim.Native.Nat.{ℕ, zero, suc, ◌*◌, ◌-◌, ◌<◌, ◌≤◌, min}
use native.Mathlib.Omega.{arith}
use lib.Dec.{eqb, ltb, leb}
use lib.ListN.{replicate}
use borrow.Author.Tests.{ne_eqb, leb-true}
use Rattle.rules.specs.Bytes.{Bytes, ◌and◌, ◌or◌}
use Rattle.rules.specs.Layout.{kind_at, type_at, a_at, b_at, c_at, word_at, no_next}
use Rattle.rules.specs.Values.{maybe_of, is_plain}
use Rattle.rules.specs.Kinds.{fields_of}
use Rattle.rules.specs.Shape.{may_be, may_stop}
use Rattle.rules.specs.declared.Field.{Field}
use Rattle.rules.specs.declared.TypeField.{TypeField}
use Rattle.texts.specs.Tokens.{is_white, ends_line, is_comment, is_mark, is_part, are_parts, is_plain_word}
use Rattle.texts.specs.Spelled.{spelled}
use Rattle.texts.specs.Spelling.{open₀, close₀, kind_word, type_word, true_word, false_word, unit_word, some_word, none_word, is_digit}
use Rattle.texts.specs.Numerals.{are_digits, is_natural, decimal, signed_decimal}
use Rattle.texts.specs.Printer.{Piece, spaced, tight, lined, variable_name, branch_name, plain_word, value_pieces, label_pieces, type_pieces, field_pieces, behind_pieces, opening, Pieces, form_pieces, pieces_as, pieces_f}
use Rattle.texts.proofs.Gives.{false≢true}
use Rattle.texts.proofs.Decimals.{by_test, decimal_natural}
use Rattle.texts.proofs.Apart.{White, no_white, white_more, Part, Parts, no_part, part_more, Mark, Apart, apart_mark, apart_spaced, apart_tight}
use Rattle.texts.proofs.Laid.{Opens, PlainFits, an_int, a_truth, a_falsehood, a_unit, PlainType₀, unit_type, bool_type, int_type, Fits, plain_fits, some_fits, none_fits, HeadFits, no_head, any_head, plain_head, value_head, Laid, variable_laid, constant_laid, form_laid, Kid, unused_kid, channel_kid, present_kid, signal_kid, expression_kid, first_branch_kid, first_case_kid, next_branch_kid, next_case_kid, target_kid, After, none_after, last_after, next_after}
use Rattle.texts.proofs.NodeLaws.{pieces_at, as_form, no_pieces, own_pieces}
use Rattle.texts.proofs.Whole.{plain_pieces, last_pieces, some_pieces}

-- A word that is no parenthesis, from the test.
pub data IsWord : Bytes → Type 0 where
  is_word_lem : {b : ℕ} {bs : Bytes} → Part b → Parts bs → IsWord (b ∷ bs)

or_false : (x y : Bool) → (x or y) ≡ false → (x ≡ false) × (y ≡ false)
unfolding ◌or◌
or_false true y e = absurd (false≢true (sym e))
or_false false y e = (refl, e)

not_true₁ : (x : Bool) → not x ≡ true → x ≡ false
not_true₁ true e = absurd (false≢true e)
not_true₁ false e = refl

and_true : (x y : Bool) → (x and y) ≡ true → (x ≡ true) × (y ≡ true)
unfolding ◌and◌
and_true true y e = (refl, e)
and_true false y e = absurd (false≢true e)

part_from : (b : ℕ) → is_part b ≡ true → Part b
unfolding is_part
part_from b e =
    let p = or_false (is_white b or is_comment b) (is_mark b) (not_true₁ _ e) in
    let q = or_false (is_white b) (is_comment b) p.0 in
    record { not_white = q.0; not_comment = q.1; not_mark = p.1 }

parts_from : (w : Bytes) → are_parts w ≡ true → Parts w
unfolding are_parts
parts_from [] e = no_part
parts_from (b ∷ bs) e = let p = and_true (is_part b) (are_parts bs) e in part_more (part_from b p.0) (parts_from bs p.1)

pub word_from : (w : Bytes) → is_plain_word w ≡ true → IsWord w
unfolding is_plain_word
word_from [] e = absurd (false≢true e)
word_from (b ∷ bs) e = let p = and_true (is_part b) (are_parts bs) e in is_word_lem (part_from b p.0) (parts_from bs p.1)

-- Digits are parts of a word.
digit_part : (b : ℕ) → is_digit b ≡ true → Part b
unfolding is_digit is_white ends_line is_comment is_mark ◌or◌
digit_part b e =
    let p = and_true (leb 48 b) (leb b 57) e in
    let l = leb-true 48 b p.0 in
    let h = leb-true b 57 p.1 in
    record {
      not_white = rw (ne_eqb b 32 (λ q. omega arith), ne_eqb b 9 (λ q. omega arith), ne_eqb b 10 (λ q. omega arith)) (ne_eqb b 13 (λ q. omega arith));
      not_comment = ne_eqb b 59 (λ q. omega arith);
      not_mark = rw (ne_eqb b 40 (λ q. omega arith)) (ne_eqb b 41 (λ q. omega arith));
    }

digits_parts : (w : Bytes) → are_digits w ≡ true → Parts w
unfolding are_digits
digits_parts [] e = no_part
digits_parts (b ∷ bs) e = let p = and_true (is_digit b) (are_digits bs) e in part_more (digit_part b p.0) (digits_parts bs p.1)

natural_word : (w : Bytes) → is_natural w ≡ true → IsWord w
unfolding is_natural are_digits
natural_word [] e = absurd (false≢true e)
natural_word (b ∷ bs) e = let p = and_true (is_digit b) (are_digits bs) e in is_word_lem (digit_part b p.0) (digits_parts bs p.1)

all_parts : {w : Bytes} → IsWord w → Parts w
all_parts (is_word_lem p ps) = part_more p ps

decimal_word : (n : ℕ) → IsWord (decimal n)
decimal_word n = natural_word (decimal n) (decimal_natural n)

x_part : Part 120
unfolding is_white ends_line is_comment is_mark ◌or◌
x_part = record { not_white = refl; not_comment = refl; not_mark = refl }

minus_part : Part 45
unfolding is_white ends_line is_comment is_mark ◌or◌
minus_part = record { not_white = refl; not_comment = refl; not_mark = refl }

variable_word : (n : ℕ) → IsWord (variable_name n)
unfolding variable_name
variable_word n = is_word_lem x_part (all_parts (decimal_word n))

signed_word : (w : ℕ) → IsWord (signed_decimal w)
unfolding signed_decimal
signed_word w = by_test (ltb w 2147483648) (λ t. rw (t, signed_decimal) (decimal_word w)) (λ t. rw (t, signed_decimal) (is_word_lem minus_part (all_parts (decimal_word (4294967296 - w)))))

plain_word_lem : {t w : ℕ} → PlainFits t w → IsWord (plain_word t w)
unfolding plain_word is_plain_word are_parts is_part is_white ends_line is_comment is_mark spelled ◌and◌ ◌or◌
plain_word_lem (an_int {w = w} l) = signed_word w
plain_word_lem a_truth = word_from true_word refl
plain_word_lem a_falsehood = word_from false_word refl
plain_word_lem a_unit = word_from unit_word refl

type_word_lem : {t : ℕ} → PlainType₀ t → IsWord (type_word t)
unfolding type_word is_plain_word are_parts is_part is_white ends_line is_comment is_mark spelled ◌and◌ ◌or◌
type_word_lem unit_type = word_from (type_word 1) refl
type_word_lem bool_type = word_from (type_word 2) refl
type_word_lem int_type = word_from (type_word 3) refl

-- Pieces that stay apart whatever stands before them.
abbrev pub Loose : List Piece → Type 0
Loose ys = (after : Bool) → Apart after ys

open_mark : Mark 40
unfolding is_white ends_line is_comment is_mark ◌or◌
open_mark = record { not_white = refl; not_comment = refl; is_mark_lem = refl }

close_mark : Mark 41
unfolding is_white ends_line is_comment is_mark ◌or◌
close_mark = record { not_white = refl; not_comment = refl; is_mark_lem = refl }

spaces : (n : ℕ) → White (replicate n 32)
unfolding is_white ◌or◌
spaces zero = no_white
spaces (suc n) = white_more refl (spaces n)

spaced_loose : (w : Bytes) (ys : List Piece) → IsWord w → Loose ys → Loose (spaced w ∷ ys)
unfolding spaced is_white ◌or◌
spaced_loose (b ∷ bs) ys (is_word_lem p ps) h after = apart_spaced refl no_white p ps (h true)
spaced_loose [] ys x'' h after = elim x'' [ ]

pub tight_word : (w : Bytes) (ys : List Piece) → IsWord w → Loose ys → Apart false (tight w ∷ ys)
unfolding tight
tight_word (b ∷ bs) ys (is_word_lem p ps) h = apart_tight p ps (h true)
tight_word [] ys x'' h = elim x'' [ ]

close_loose : (ys : List Piece) → Loose ys → Loose (tight close₀ ∷ ys)
unfolding tight
close_loose ys h after = apart_mark no_white close_mark (h false)

spaced_open : (ys : List Piece) → Apart false ys → Loose (spaced open₀ ∷ ys)
unfolding spaced is_white ◌or◌
spaced_open ys h after = apart_mark (white_more refl no_white) open_mark h

lined_open : (depth : ℕ) (ys : List Piece) → Apart false ys → Loose (lined depth open₀ ∷ ys)
unfolding lined is_white ends_line ◌or◌
lined_open depth ys h after = apart_mark (white_more refl (spaces (2 * min depth 40))) open_mark h

opening_loose : (f : Field) (isFirst : Bool) (k depth : ℕ) (ys : List Piece) → Apart false ys → Loose (opening f isFirst k depth ∷ ys)
unfolding opening
opening_loose f isFirst k depth ys h after =
    by_test (may_be f 17 or isFirst and ltb k 4)
    (λ t. rw (t, opening) (spaced_open ys h after))
    (λ t. rw (t, opening) (lined_open depth ys h after))

value_loose : {t p w : ℕ} → Fits t p w → (ys : List Piece) → Loose ys → Loose (value_pieces t p w ++ ys)
unfolding value_pieces maybe_of is_plain is_plain_word are_parts is_part is_white ends_line is_comment is_mark spelled ◌and◌ ◌or◌
value_loose (plain_fits (an_int {w = w} l)) ys h = spaced_loose _ ys (plain_word_lem (an_int l)) h
value_loose (plain_fits a_truth) ys h = spaced_loose _ ys (plain_word_lem a_truth) h
value_loose (plain_fits a_falsehood) ys h = spaced_loose _ ys (plain_word_lem a_falsehood) h
value_loose (plain_fits a_unit) ys h = spaced_loose _ ys (plain_word_lem a_unit) h
value_loose (some_fits (an_int {w = w} l)) ys h = spaced_open _ (tight_word some_word _ (word_from some_word refl) (spaced_loose _ _ (plain_word_lem (an_int l)) (close_loose ys h)))
value_loose (some_fits a_truth) ys h = spaced_open _ (tight_word some_word _ (word_from some_word refl) (spaced_loose _ _ (plain_word_lem a_truth) (close_loose ys h)))
value_loose (some_fits a_falsehood) ys h = spaced_open _ (tight_word some_word _ (word_from some_word refl) (spaced_loose _ _ (plain_word_lem a_falsehood) (close_loose ys h)))
value_loose (some_fits a_unit) ys h = spaced_open _ (tight_word some_word _ (word_from some_word refl) (spaced_loose _ _ (plain_word_lem a_unit) (close_loose ys h)))
value_loose (none_fits unit_type) ys h = spaced_open _ (tight_word none_word _ (word_from none_word refl) (spaced_loose _ _ (type_word_lem unit_type) (close_loose ys h)))
value_loose (none_fits bool_type) ys h = spaced_open _ (tight_word none_word _ (word_from none_word refl) (spaced_loose _ _ (type_word_lem bool_type) (close_loose ys h)))
value_loose (none_fits int_type) ys h = spaced_open _ (tight_word none_word _ (word_from none_word refl) (spaced_loose _ _ (type_word_lem int_type) (close_loose ys h)))

type_loose : {ty : TypeField} {t b w : ℕ} → HeadFits ty t b w → (n : ℕ) (ys : List Piece) → Loose ys → Loose (type_pieces ty n t b w ++ ys)
unfolding type_pieces
type_loose no_head n ys h = h
type_loose (any_head {t = t} is p) n ys h = spaced_loose _ _ (variable_word n) (spaced_loose _ ys (word_from (type_word t) p) h)
type_loose (plain_head {t = t} is p) n ys h = spaced_loose _ _ (variable_word n) (spaced_loose _ ys (word_from (type_word t) p) h)
type_loose (value_head fits) n ys h = value_loose fits ys h

-- A kind with a word.
abbrev NodeLoose : Bytes → Field → ℕ → Type 0
NodeLoose q f n = (g depth : ℕ) (isFirst : Bool) (ys : List Piece) → n < g → Loose ys → Loose (pieces_f g q depth isFirst f n ++ ys)

abbrev KidLoose : Bytes → Field → ℕ → ℕ → Type 0
KidLoose q f n x = (g depth : ℕ) (isFirst : Bool) (ys : List Piece) → n ≤ g → Loose ys → Loose (field_pieces (pieces_f g q depth isFirst) f x ++ ys)

abbrev AfterLoose : Bytes → Field → ℕ → ℕ → Type 0
AfterLoose q f n x = (g depth : ℕ) (ys : List Piece) → n ≤ g → Loose ys → Loose (behind_pieces (pieces_f g q depth false) f x ++ ys)

form_list : (kid : Bool → Pieces) (sibling : Pieces) (q : Bytes) (k n : ℕ) (ys : List Piece)
    → form_pieces kid sibling q k n ++ ys
    ≡ label_pieces k n ++ (type_pieces (fields_of k).ty n (type_at q n) (b_at q n) (word_at q n)
    ++ (field_pieces (kid true) (fields_of k).a (a_at q n) ++ (field_pieces (kid false) (fields_of k).b (b_at q n) ++ (field_pieces (kid false) (fields_of k).c (c_at q n)
    ++ (tight close₀ ∷ (behind_pieces sibling (fields_of k).b (b_at q n) ++ ys))))))
unfolding form_pieces
form_list kid sibling q k n ys =
    let L = label_pieces k n in
    let T = type_pieces (fields_of k).ty n (type_at q n) (b_at q n) (word_at q n) in
    let A = field_pieces (kid true) (fields_of k).a (a_at q n) in
    let B = field_pieces (kid false) (fields_of k).b (b_at q n) in
    let C = field_pieces (kid false) (fields_of k).c (c_at q n) in
    let R = tight close₀ ∷ behind_pieces sibling (fields_of k).b (b_at q n) in
    append_assoc (L ++ T ++ A ++ B ++ C) R ys ∙ append_assoc (L ++ T ++ A ++ B) C (R ++ ys) ∙ append_assoc (L ++ T ++ A) B (C ++ (R ++ ys))
    ∙ append_assoc (L ++ T) A (B ++ (C ++ (R ++ ys))) ∙ append_assoc L T (A ++ (B ++ (C ++ (R ++ ys))))

k_part : Part 107
unfolding is_white ends_line is_comment is_mark ◌or◌
k_part = record { not_white = refl; not_comment = refl; not_mark = refl }

branch_word : (n : ℕ) → IsWord (branch_name n)
unfolding branch_name
branch_word n = is_word_lem k_part (all_parts (decimal_word n))

label_loose : (k n : ℕ) (ys : List Piece) → Loose ys → Loose (label_pieces k n ++ ys)
label_loose k n ys h =
    by_test (eqb k 9)
    (λ t. subst (λ (xs : List Piece). Loose (xs ++ ys)) (sym (own_pieces k n t)) (spaced_loose _ ys (branch_word n) h))
    (λ t. subst (λ (xs : List Piece). Loose (xs ++ ys)) (sym (no_pieces k n t)) h)

form_loose : (q : Bytes) (f : Field) (n k : ℕ) → kind_at q n ≡ k → eqb k 16 ≡ false → eqb k 17 ≡ false → is_plain_word (kind_word k) ≡ true
    → HeadFits (fields_of k).ty (type_at q n) (b_at q n) (word_at q n)
    → KidLoose q (fields_of k).a n (a_at q n) → KidLoose q (fields_of k).b n (b_at q n) → KidLoose q (fields_of k).c n (c_at q n) → AfterLoose q (fields_of k).b n (b_at q n) → NodeLoose q f n
form_loose q f n k is e₁ e₂ w head ka kb kc kd zero depth isFirst ys l h = absurd (omega arith)
form_loose q f n k is e₁ e₂ w head ka kb kc kd (suc g) depth isFirst ys l h =
    subst (λ (xs : List Piece). Loose (xs ++ ys)) (sym (pieces_at g q depth isFirst f n k is ∙ as_form _ _ q depth isFirst f n k e₁ e₂))
    (opening_loose f isFirst k depth _ (tight_word (kind_word k) _ (word_from (kind_word k) w) body))
  where
    body : Loose (form_pieces (pieces_f g q (suc depth)) (pieces_f g q depth false) q k n ++ ys)
    body =
        subst Loose (sym (form_list (pieces_f g q (suc depth)) (pieces_f g q depth false) q k n ys))
        (label_loose k n _ (type_loose head n _ (ka g (suc depth) true _ (omega arith) (kb g (suc depth) false _ (omega arith) (kc g (suc depth) false _ (omega arith) (close_loose _ (kd g depth ys (omega arith) h)))))))

-- A laid out node.
channel_loose : (q : Bytes) (n x : ℕ) → KidLoose q Field.Channel n x
unfolding field_pieces
channel_loose q n x g depth isFirst ys l h = spaced_loose _ ys (decimal_word x) h

target_loose : (q : Bytes) (n x : ℕ) → KidLoose q Field.Target n x
unfolding field_pieces
target_loose q n x g depth isFirst ys l h = spaced_loose _ ys (branch_word x) h

none_loose : (q : Bytes) (f : Field) (n x : ℕ) → ((kid : Pieces) → field_pieces kid f x ≡ []) → KidLoose q f n x
none_loose q f n x none g depth isFirst ys l h = subst (λ (xs : List Piece). Loose (xs ++ ys)) (sym (none (pieces_f g q depth isFirst))) h

child_loose : (q : Bytes) (f : Field) (n x : ℕ) → ((kid : Pieces) → field_pieces kid f x ≡ kid f x) → x < n → NodeLoose q f x → KidLoose q f n x
child_loose q f n x one l₀ node g depth isFirst ys l h =
    subst (λ (xs : List Piece). Loose (xs ++ ys)) (sym (one (pieces_f g q depth isFirst))) (node g depth isFirst ys (omega arith) h)

variable_loose : (q : Bytes) (n : ℕ) → kind_at q n ≡ 16 → NodeLoose q Field.Expression n
unfolding pieces_as
variable_loose q n is zero depth isFirst ys l h = absurd (omega arith)
variable_loose q n is (suc g) depth isFirst ys l h =
    subst (λ (xs : List Piece). Loose (xs ++ ys)) (sym (pieces_at g q depth isFirst Field.Expression n 16 is)) (spaced_loose _ ys (variable_word (a_at q n)) h)

constant_loose : (q : Bytes) (n : ℕ) → kind_at q n ≡ 17 → Fits (type_at q n) (b_at q n) (word_at q n) → NodeLoose q Field.Expression n
unfolding pieces_as
constant_loose q n is fits zero depth isFirst ys l h = absurd (omega arith)
constant_loose q n is fits (suc g) depth isFirst ys l h =
    subst (λ (xs : List Piece). Loose (xs ++ ys)) (sym (pieces_at g q depth isFirst Field.Expression n 17 is)) (value_loose fits ys h)

none_after_loose : (q : Bytes) (f : Field) (n x : ℕ) → may_stop f ≡ false → AfterLoose q f n x
none_after_loose q f n x e g depth ys l h = subst (λ (xs : List Piece). Loose (xs ++ ys)) (sym (plain_pieces f e (pieces_f g q depth false) x)) h

last_after_loose : (q : Bytes) (f : Field) (n x : ℕ) → may_stop f ≡ true → x ≡ no_next → AfterLoose q f n x
last_after_loose q f n x e u g depth ys l h =
    subst (λ (xs : List Piece). Loose (xs ++ ys)) (sym (last_pieces f x e u (pieces_f g q depth false))) h

next_after_loose : (q : Bytes) (f : Field) (n x : ℕ) → may_stop f ≡ true → x < n → n < 1008 → NodeLoose q f x → AfterLoose q f n x
next_after_loose q f n x e l₀ r node g depth ys l h =
    subst (λ (xs : List Piece). Loose (xs ++ ys)) (sym (some_pieces f x e (omega arith) (pieces_f g q depth false))) (node g depth false ys (omega arith) h)

mutual
  unfolding field_pieces

  pub node_loose : {q : Bytes} {targets opens : Opens} {f : Field} {i n : ℕ} → Laid q targets opens f i n → n < 1008 → NodeLoose q f n
  node_loose {q} {targets} {opens} {f} {i} {n} (variable_laid is o l e₁ e₂ e₃ e₄) r = variable_loose q n is
  node_loose {q} {targets} {opens} {f} {i} {n} (constant_laid is fits e₁ e₂) r = constant_loose q n is fits
  node_loose {q} {targets} {opens} {f} {i} {n} (form_laid k is e₁ e₂ named w lists in_List head ka kb kc kd) r =
      form_loose q f n k is e₁ e₂ w head (kid_loose ka r) (kid_loose kb r) (kid_loose kc r) (after_loose kd r)

  kid_loose : {q : Bytes} {targets opens : Opens} {f : Field} {n x p i j : ℕ} → Kid q targets opens f n x p i j → n < 1008 → KidLoose q f n x
  kid_loose {q} {targets} {opens} {f} {n} {x} {p} {i} {j} (unused_kid e₀) r = none_loose q Field.Unused n x (λ kid. refl)
  kid_loose {q} {targets} {opens} {f} {n} {x} {p} {i} {j} (channel_kid l₀) r = channel_loose q n x
  kid_loose {q} {targets} {opens} {f} {n} {x} {p} {i} {j} (present_kid e₀) r = none_loose q Field.PresentByte n x (λ kid. refl)
  kid_loose {q} {targets} {opens} {f} {n} {x} {p} {i} {j} (signal_kid l₀ t) r = child_loose q Field.Signal n x (λ kid. refl) l₀ (node_loose t (omega arith))
  kid_loose {q} {targets} {opens} {f} {n} {x} {p} {i} {j} (expression_kid l₀ t) r = child_loose q Field.Expression n x (λ kid. refl) l₀ (node_loose t (omega arith))
  kid_loose {q} {targets} {opens} {f} {n} {x} {p} {i} {j} (first_branch_kid l₀ t) r = child_loose q Field.FirstBranch n x (λ kid. refl) l₀ (node_loose t (omega arith))
  kid_loose {q} {targets} {opens} {f} {n} {x} {p} {i} {j} (first_case_kid l₀ t) r = child_loose q Field.FirstCase n x (λ kid. refl) l₀ (node_loose t (omega arith))
  kid_loose {q} {targets} {opens} {f} {n} {x} {p} {i} {j} next_branch_kid r = none_loose q Field.NextBranch n x (λ kid. refl)
  kid_loose {q} {targets} {opens} {f} {n} {x} {p} {i} {j} next_case_kid r = none_loose q Field.NextCase n x (λ kid. refl)
  kid_loose {q} {targets} {opens} {f} {n} {x} {p} {i} {j} (target_kid e₀) r = target_loose q n x

  after_loose : {q : Bytes} {targets opens : Opens} {f : Field} {n x i j : ℕ} → After q targets opens f n x i j → n < 1008 → AfterLoose q f n x
  after_loose {q} {targets} {opens} {f} {n} {x} {i} {j} (none_after e₀ u) r = none_after_loose q f n x e₀
  after_loose {q} {targets} {opens} {f} {n} {x} {i} {j} (last_after e₀ u) r = last_after_loose q f n x e₀ u
  after_loose {q} {targets} {opens} {f} {n} {x} {i} {j} (next_after e₀ l₀ t) r = next_after_loose q f n x e₀ l₀ r (node_loose t (omega arith))
