-- A table that is laid out well is read from the words that are printed of it: node by node, with the same numbers.
-- Assumes nothing.
use mathlib.Core.Path.{◌≡◌, refl, sym, ap, ◌∙◌}
use mathlib.Core.Bool.{Bool, true, false}
use mathlib.Core.List.{List, [], ◌∷◌, ◌++◌}
use Prim.Native.Nat.{ℕ, zero, suc, ◌+◌, ◌<◌, ◌≤◌}
use native.Mathlib.Omega.{arith}
use lib.Dec.{eqb, ltb}
use lib.ListN.{length, length-append}
use borrow.Author.Tests.{lt-ltb, eqb-true, eqb-false}
use Rattle.rules.specs.Bytes.{Bytes, ◌or◌, ◌and◌}
use Rattle.rules.specs.Layout.{kind_at, type_at, a_at, b_at, c_at, word_at}
use Rattle.rules.specs.Values.{is_plain, is_type}
use Rattle.rules.specs.Kinds.{fields_of}
use Rattle.rules.specs.Shape.{may_be, may_stop}
use Rattle.rules.specs.declared.Field.{Field}
use Rattle.rules.specs.declared.TypeField.{TypeField}
use Rattle.rules.specs.declared.TypeField.TheVariants.{NoType, AnyType, PlainType, ValueType}
use Rattle.texts.specs.Tokens.{Token}
use Rattle.texts.specs.Spelled.{same, is_among}
use Rattle.texts.specs.Spelling.{open₀, close₀, kind_word, type_word}
use Rattle.texts.specs.Rows.{Row, Sofar, Got, got, ◌onward◌}
use Rattle.texts.specs.Steps.{is_bound, label}
use Rattle.texts.specs.Reader.{begins, ends, Heading, Held, labelled, binding, typed, heading, field, behind, form, node_f}
use Rattle.texts.specs.Printer.{Piece, spaced, tight, lined, variable_name, branch_name, label_pieces, type_pieces, field_pieces, behind_pieces, opening, Pieces, form_pieces, pieces_as, pieces_f}
use Rattle.texts.proofs.Gives.{false≢true, same_refl, words, Claim, Gives, gives, then_gives, after_got, after_is, after_expect, after_variable, after_label, after_type, regroup}
use Rattle.texts.proofs.Decimals.{by_test}
use Rattle.texts.proofs.NameLaws.{names_differ, branches_differ, variable_is_name, branch_is_name, sorts_differ}
use Rattle.texts.proofs.ValueLaws.{spellings, after_value}
use Rattle.texts.proofs.Laid.{Opens, opened_by, present_of, is_list, inner_of, name_of, ListsLast, HeadFits, no_head, any_head, plain_head, value_head}

-- The row of a node, with the names that are printed for it.
unfoldable pub binds_of : TypeField → ℕ → Bytes
binds_of NoType n = []
binds_of AnyType n = variable_name n
binds_of PlainType n = variable_name n
binds_of ValueType n = []

abbrev pub own_of : Bool → ℕ → Bytes
own_of true n = branch_name n
own_of false n = []

unfoldable pub row_as : ℕ → Bytes → ℕ → Row
row_as k q n =
    record {
      kind = k;
      type = type_at q n;
      a = elim (eqb k 16) [ true ↦ 0 | false ↦ inner_of (fields_of k).a (a_at q n) ];
      b = b_at q n;
      c = inner_of (fields_of k).c (c_at q n);
      word = word_at q n;
      binds = elim (eqb k 17) [ true ↦ [] | false ↦ binds_of (fields_of k).ty n ];
      label = own_of (eqb k 9) n;
      uses = elim (eqb k 16) [ true ↦ variable_name (a_at q n) | false ↦ name_of (fields_of k).c (c_at q n) ];
    }

unfoldable pub row_of : Bytes → ℕ → Row
row_of q n = row_as (kind_at q n) q n

unfoldable pub first_rows : Bytes → ℕ → List Row
first_rows q zero = []
first_rows q (suc i) = first_rows q i ++ row_of q i ∷ []

pub rows_length : (q : Bytes) (i : ℕ) → length (first_rows q i) ≡ i
unfolding first_rows
rows_length q zero = refl
rows_length q (suc i) = length-append (first_rows q i) (row_of q i ∷ []) ∙ omega (arith, rows_length q i)

-- i rows are there and d nodes have begun that have not ended; names of variables and of branches are kept apart.
pub record State (q : Bytes) (i d : ℕ) (so : Sofar) : Type 0 where
  pub rows_are : so.rows ≡ first_rows q i
  pub begun_is : so.begun ≡ i + d
  pub x_apart : (m : ℕ) → is_among (variable_name m) so.labels ≡ false
  pub k_apart : (m : ℕ) → is_among (branch_name m) so.variables ≡ false

-- A node's name is taken: its variable's, or its own as a branch.
abbrev pub is_taken : Bool → ℕ → Sofar → Bool
is_taken false m so = is_among (variable_name m) so.variables
is_taken true m so = is_among (branch_name m) so.labels

-- Binders above are bound; the names of nodes from i on up to j are free; names from j on are as before.
abbrev pub Known : Opens → Sofar → Type 0
Known opens so = (m : ℕ) → opens m ≡ true → is_taken false m so ≡ true

abbrev pub Above : Opens → ℕ → Type 0
Above opens n = (m : ℕ) → opens m ≡ true → (n ≤ m) × (m < 1008)

abbrev pub Free : ℕ → ℕ → Sofar → Type 0
Free i j so = (s : Bool) (m : ℕ) → i ≤ m → m < j → is_taken s m so ≡ false

abbrev pub Frame : ℕ → Sofar → Sofar → Type 0
Frame j so so₁ = (s : Bool) (m : ℕ) → m < 1008 → j ≤ m → is_taken s m so₁ ≡ is_taken s m so

frame_more : (i j l : ℕ) (so so₁ so₂ : Sofar) → Frame i so so₁ → Frame j so₁ so₂ → i ≤ l → j ≤ l → Frame l so so₂
frame_more i j l so so₁ so₂ p r h k s m b c = r s m b (omega arith) ∙ p s m b (omega arith)

known_on : (opens : Opens) (n j : ℕ) (so so₁ : Sofar) → Known opens so → Above opens n → j ≤ n → Frame j so so₁ → Known opens so₁
known_on opens n j so so₁ known above h frame m e = frame false m (above m e).1 (omega (arith, (above m e).0)) ∙ known m e

free_on : (i j n : ℕ) (so so₁ : Sofar) → Free i n so → i ≤ j → n < 1008 → Frame j so so₁ → Free j n so₁
free_on i j n so so₁ free h l frame s m c e = frame s m (omega arith) c ∙ free s m (omega arith) e

-- Names are as before where both lists are.
pub taken_same : (s : Bool) (m : ℕ) (so so₁ : Sofar) → so₁.variables ≡ so.variables → so₁.labels ≡ so.labels → is_taken s m so₁ ≡ is_taken s m so
taken_same false m so so₁ e f = ap (is_among (variable_name m)) e
taken_same true m so so₁ e f = ap (is_among (branch_name m)) f

-- A list ends before a closing parenthesis.
abbrev pub Closing : Field → List Bytes → Type 0
Closing f W = is_list f ≡ true → (W₁ : List Bytes) × (W ≡ close₀ ∷ W₁)

abbrev pub Aims : Opens → List Bytes → Type 0
Aims targets names = (m : ℕ) → targets m ≡ true → is_among (branch_name m) names ≡ true

-- What is to be shown of a node, and of a field.
abbrev pub Done : Bytes → ℕ → ℕ → Sofar → List Bytes → Claim ℕ
Done q n d so W x rest so₁ = (x ≡ n) × (words rest ≡ W) × State q (suc n) d so₁ × Frame (suc n) so so₁

abbrev pub NodeReads : Bytes → List Bytes → ℕ → Opens → Field → ℕ → ℕ → Type 0
NodeReads q names finish opens f i n =
    (g G depth d : ℕ) (isFirst : Bool) (ts : List Token) (so : Sofar) (W : List Bytes) → n < g → g ≤ G
    → words ts ≡ spellings (pieces_f g q depth isFirst f n) ++ W
    → Closing f W → State q i d so → Known opens so → Above opens (suc n) → Free i (suc n) so → n + d < 1008
    → Gives (Done q n d so W) (node_f G names finish f ts so)

abbrev pub Passed : Bytes → Field → ℕ → ℕ → ℕ → Sofar → List Bytes → Claim Held
Passed q f x j d so W v rest so₁ = (v ≡ record { number = inner_of f x; name = name_of f x }) × (words rest ≡ W) × State q j d so₁ × Frame j so so₁

abbrev pub KidReads : Bytes → List Bytes → ℕ → Opens → Field → ℕ → ℕ → ℕ → ℕ → ℕ → Type 0
KidReads q names finish opens f n x p i j =
    (g G depth d : ℕ) (isFirst : Bool) (ts : List Token) (so : Sofar) (W : List Bytes) → n ≤ g → g ≤ G
    → words ts ≡ spellings (field_pieces (pieces_f g q depth isFirst) f x) ++ W
    → (may_stop f ≡ false → Closing f W) → State q i d so → Known opens so → Above opens n → Free i n so → n + d ≤ 1008
    → Gives (Passed q f x j d so W) (field (node_f G names finish) names f p finish ts so)

-- A node ends.
pub node_ends : (q : Bytes) (n d : ℕ) (so so₁ : Sofar) (W : List Bytes) (rest : List Token) (at : ℕ) (r : Row)
    → r ≡ row_of q n → words rest ≡ W → State q n (suc d) so₁ → Frame (suc n) so so₁ → Gives (Done q n d so W) (ends at r rest so₁)
unfolding ends first_rows
node_ends q n d so so₁ W rest at r is left state frame =
    gives (
      ap length state.rows_are ∙ rows_length q n,
      left,
      record {
        rows_are = ap (λ (x : Row). so₁.rows ++ x ∷ []) is ∙ ap (λ (xs : List Row). xs ++ row_of q n ∷ []) state.rows_are;
        begun_is = state.begun_is ∙ omega arith;
        x_apart = state.x_apart;
        k_apart = state.k_apart;
      },
      (λ s m b c. taken_same s m so₁ _ refl refl ∙ frame s m b c),
    )

-- Pieces one after another.
pub spell_more : (xs ys : List Piece) (W : List Bytes) → spellings (xs ++ ys) ++ W ≡ spellings xs ++ (spellings ys ++ W)
spell_more [] ys W = refl
spell_more (x ∷ xs) ys W = ap {B = List Bytes} (λ r. x.word ∷ r) (spell_more xs ys W)

pub opening_word : (f : Field) (isFirst : Bool) (k depth : ℕ) → (opening f isFirst k depth).word ≡ open₀
unfolding opening spaced lined
opening_word f isFirst k depth = by_test (may_be f 17 or isFirst and ltb k 4) (λ t. rw (t, opening) refl) (λ t. rw (t, opening) refl)

-- A kind's fields, spelled.
abbrev pub behind_words : ℕ → Bytes → ℕ → ℕ → ℕ → List Bytes → List Bytes
behind_words g q depth k n W = spellings (behind_pieces (pieces_f g q depth false) (fields_of k).b (b_at q n)) ++ W

abbrev pub field_words : ℕ → Bytes → ℕ → Bool → Field → ℕ → List Bytes → List Bytes
field_words g q depth isFirst f x W = spellings (field_pieces (pieces_f g q depth isFirst) f x) ++ W

pub form_spelled : (g : ℕ) (q : Bytes) (depth k n : ℕ) (W : List Bytes)
    → spellings (form_pieces (pieces_f g q (suc depth)) (pieces_f g q depth false) q k n) ++ W
    ≡ spellings (label_pieces k n) ++ (spellings (type_pieces (fields_of k).ty n (type_at q n) (b_at q n) (word_at q n))
    ++ field_words g q (suc depth) true (fields_of k).a (a_at q n) (field_words g q (suc depth) false (fields_of k).b (b_at q n)
    (field_words g q (suc depth) false (fields_of k).c (c_at q n) (close₀ ∷ behind_words g q depth k n W))))
unfolding form_pieces tight
form_spelled g q depth k n W =
    let L = label_pieces k n in
    let T = type_pieces (fields_of k).ty n (type_at q n) (b_at q n) (word_at q n) in
    let A = field_pieces (pieces_f g q (suc depth) true) (fields_of k).a (a_at q n) in
    let B = field_pieces (pieces_f g q (suc depth) false) (fields_of k).b (b_at q n) in
    let C = field_pieces (pieces_f g q (suc depth) false) (fields_of k).c (c_at q n) in
    let R = tight close₀ ∷ behind_pieces (pieces_f g q depth false) (fields_of k).b (b_at q n) in
    spell_more (L ++ T ++ A ++ B ++ C) R W ∙ spell_more (L ++ T ++ A ++ B) C (spellings R ++ W) ∙ spell_more (L ++ T ++ A) B (spellings C ++ (spellings R ++ W))
    ∙ spell_more (L ++ T) A (spellings B ++ (spellings C ++ (spellings R ++ W))) ∙ spell_more L T (spellings A ++ (spellings B ++ (spellings C ++ (spellings R ++ W))))

pub as_form : (kid : Bool → Pieces) (sibling : Pieces) (q : Bytes) (depth : ℕ) (isFirst : Bool) (f : Field) (n k : ℕ) → eqb k 16 ≡ false → eqb k 17 ≡ false
    → pieces_as kid sibling q depth isFirst f k n ≡ opening f isFirst k depth ∷ tight (kind_word k) ∷ form_pieces kid sibling q k n
unfolding pieces_as
as_form kid sibling q depth isFirst f n k e₁ e₂ = rw (e₁, e₂, pieces_as) refl

pub pieces_at : (g : ℕ) (q : Bytes) (depth : ℕ) (isFirst : Bool) (f : Field) (n k : ℕ) → kind_at q n ≡ k
    → pieces_f (suc g) q depth isFirst f n ≡ pieces_as (pieces_f g q (suc depth)) (pieces_f g q depth false) q depth isFirst f k n
unfolding pieces_f
pieces_at g q depth isFirst f n k is = ap (λ (x : ℕ). pieces_as (pieces_f g q (suc depth)) (pieces_f g q depth false) q depth isFirst f x n) is

-- What stands between a kind's word and its children.
abbrev headed : TypeField → ℕ → Sofar → Sofar
headed NoType n so = so
headed AnyType n so = record { begun = so.begun; rows = so.rows; places = so.places; variables = variable_name n ∷ so.variables; labels = so.labels }
headed PlainType n so = record { begun = so.begun; rows = so.rows; places = so.places; variables = variable_name n ∷ so.variables; labels = so.labels }
headed ValueType n so = so

unbound : (n : ℕ) (so : Sofar) → ((m : ℕ) → is_among (variable_name m) so.labels ≡ false) → is_taken false n so ≡ false → is_bound (variable_name n) so ≡ false
unfolding is_bound ◌or◌
unbound n so e free = rw (free, e n) refl

unbound₁ : (n : ℕ) (so : Sofar) → ((m : ℕ) → is_among (branch_name m) so.variables ≡ false) → is_taken true n so ≡ false → is_bound (branch_name n) so ≡ false
unfolding is_bound ◌or◌
unbound₁ n so e free = rw (e n, free) refl

-- A node begins.
module _ {B : Type 0} {Q : Claim B} where
  pub after_begins : (k : Unit {0} → List Token → Sofar → Got B) (finish : ℕ) (ts : List Token) (so : Sofar) → so.begun < 1008
      → Gives Q (k tt ts (record { begun = suc so.begun; rows = so.rows; places = so.places; variables = so.variables; labels = so.labels })) → Gives Q (begins finish ts so onward k)
  unfolding begins ◌onward◌
  after_begins k finish ts so l h = rw (lt-ltb so.begun 1008 l, begins) h

  after_typed : (k : Heading → List Token → Sofar → Got B) {ty : TypeField} {t b w : ℕ} → HeadFits ty t b w
      → (own : Bytes) (n finish : ℕ) (W : List Bytes) (ts : List Token) (so : Sofar) → words ts ≡ spellings (type_pieces ty n t b w) ++ W
      → ((m : ℕ) → is_among (variable_name m) so.labels ≡ false) → is_taken false n so ≡ false
      → ((rest : List Token) → words rest ≡ W → Gives Q (k (record { label = own; binds = binds_of ty n; type = t; present = present_of ty b; word = w }) rest (headed ty n so)))
      → Gives Q (typed ty own finish ts so onward k)
  unfolding typed binding type_pieces spaced binds_of present_of
  after_typed k no_head own n finish W ts so e l free h = after_got k _ ts so (h ts e)
  after_typed k (any_head {t = t} is p) own n finish W ts so e l free h =
      regroup _ _ k (after_variable _ (variable_name n) _ finish ts so e (variable_is_name n) (unbound n so l free) (λ rest left.
      regroup _ _ k (after_type _ is_type (type_word t) t W finish rest _ left is (λ rest₁ left₁. after_got k _ rest₁ _ (h rest₁ left₁)))))
  after_typed k (plain_head {t = t} is p) own n finish W ts so e l free h =
      regroup _ _ k (after_variable _ (variable_name n) _ finish ts so e (variable_is_name n) (unbound n so l free) (λ rest left.
      regroup _ _ k (after_type _ is_plain (type_word t) t W finish rest _ left is (λ rest₁ left₁. after_got k _ rest₁ _ (h rest₁ left₁)))))
  after_typed k (value_head fits) own n finish W ts so e l free h =
      regroup _ _ k (after_value _ fits W finish ts so e (λ rest left. after_got k _ rest so (h rest left)))

-- A name more.
among_here : (m n : ℕ) (vs : List Bytes) → m ≡ n → is_among (variable_name m) (variable_name n ∷ vs) ≡ true
unfolding is_among
among_here m n vs e = rw (ap (λ (x : ℕ). same (variable_name m) (variable_name x)) (sym e) ∙ same_refl (variable_name m), is_among) refl

among_more : (v w : Bytes) (vs : List Bytes) → same v w ≡ false → is_among v (w ∷ vs) ≡ is_among v vs
unfolding is_among
among_more v w vs e = rw (e, is_among) refl

-- A branch's own name.
abbrev label_more : ℕ → Sofar → Sofar
label_more n so = record { begun = so.begun; rows = so.rows; places = so.places; variables = so.variables; labels = branch_name n ∷ so.labels }

abbrev label_if : Bool → ℕ → Sofar → Sofar
label_if true n so = label_more n so
label_if false n so = so

label_state : (b : Bool) (q : Bytes) (i d n : ℕ) (so : Sofar) → State q i d so → State q i d (label_if b n so)
label_state true q i d n so s =
    record { rows_are = s.rows_are; begun_is = s.begun_is; x_apart = λ m. among_more (variable_name m) (branch_name n) so.labels (sorts_differ m n).0 ∙ s.x_apart m; k_apart = s.k_apart }
label_state false q i d n so s = s

label_frame : (b s : Bool) (n : ℕ) (so : Sofar) (m : ℕ) → m < 1008 → n < 1008 → (m ≡ n → ⊥) → is_taken s m (label_if b n so) ≡ is_taken s m so
label_frame true true n so m h l d = among_more (branch_name m) (branch_name n) so.labels (branches_differ m n h l d)
label_frame true false n so m h l d = refl
label_frame false true n so m h l d = refl
label_frame false false n so m h l d = refl

label_known : (b : Bool) (opens : Opens) (n : ℕ) (so : Sofar) → Known opens so → Known opens (label_if b n so)
label_known true opens n so known m o = known m o
label_known false opens n so known m o = known m o

label_variable : (b : Bool) (n m : ℕ) (so : Sofar) → is_taken false m (label_if b n so) ≡ is_taken false m so
label_variable true n m so = refl
label_variable false n m so = refl

-- The variable's.
headed_state : (ty : TypeField) (q : Bytes) (i d n : ℕ) (so : Sofar) → State q i d so → State q i d (headed ty n so)
headed_state NoType q i d n so s = s
headed_state AnyType q i d n so s =
    record { rows_are = s.rows_are; begun_is = s.begun_is; x_apart = s.x_apart; k_apart = λ m. among_more (branch_name m) (variable_name n) so.variables (sorts_differ m n).1 ∙ s.k_apart m }
headed_state PlainType q i d n so s =
    record { rows_are = s.rows_are; begun_is = s.begun_is; x_apart = s.x_apart; k_apart = λ m. among_more (branch_name m) (variable_name n) so.variables (sorts_differ m n).1 ∙ s.k_apart m }
headed_state ValueType q i d n so s = s

headed_frame : (ty : TypeField) (s : Bool) (n : ℕ) (so : Sofar) (m : ℕ) → m < 1008 → n < 1008 → (m ≡ n → ⊥) → is_taken s m (headed ty n so) ≡ is_taken s m so
headed_frame NoType s n so m h l d = refl
headed_frame AnyType true n so m h l d = refl
headed_frame AnyType false n so m h l d = among_more (variable_name m) (variable_name n) so.variables (names_differ m n h l d)
headed_frame PlainType true n so m h l d = refl
headed_frame PlainType false n so m h l d = among_more (variable_name m) (variable_name n) so.variables (names_differ m n h l d)
headed_frame ValueType s n so m h l d = refl

more_known : (opens : Opens) (n : ℕ) (so : Sofar) → n < 1008 → Known opens so → Above opens (suc n) → (m : ℕ) → (eqb m n or opens m) ≡ true
    → is_among (variable_name m) (variable_name n ∷ so.variables) ≡ true
unfolding ◌or◌
more_known opens n so l known above m e =
    by_test (eqb m n)
    (λ t. among_here m n so.variables (eqb-true m n t))
    (λ t. let o : opens m ≡ true = rw t at e in among_more (variable_name m) (variable_name n) so.variables (names_differ m n (above m o).1 l (λ q. eqb-false m n t q)) ∙ known m o)

headed_known : (ty : TypeField) (opens : Opens) (n : ℕ) (so : Sofar) → n < 1008 → Known opens so → Above opens (suc n) → Known (opened_by ty n opens) (headed ty n so)
unfolding opened_by
headed_known NoType opens n so l known above m e = known m e
headed_known AnyType opens n so l known above m e = more_known opens n so l known above m e
headed_known PlainType opens n so l known above m e = more_known opens n so l known above m e
headed_known ValueType opens n so l known above m e = known m e

above_more : (opens : Opens) (n m : ℕ) → n < 1008 → Above opens (suc n) → (eqb m n or opens m) ≡ true → (n ≤ m) × (m < 1008)
unfolding ◌or◌
above_more opens n m l above e =
    by_test (eqb m n)
    (λ t. (omega (arith, eqb-true m n t), omega (arith, eqb-true m n t)))
    (λ t. let o : opens m ≡ true = rw t at e in (omega (arith, (above m o).0), (above m o).1))

headed_above : (ty : TypeField) (opens : Opens) (n : ℕ) → n < 1008 → Above opens (suc n) → Above (opened_by ty n opens) n
unfolding opened_by
headed_above NoType opens n l above m e = (omega (arith, (above m e).0), (above m e).1)
headed_above AnyType opens n l above m e = above_more opens n m l above e
headed_above PlainType opens n l above m e = above_more opens n m l above e
headed_above ValueType opens n l above m e = (omega (arith, (above m e).0), (above m e).1)

-- Reading a branch's own name, or none.
labelled_is : (k finish : ℕ) (ts : List Token) (so : Sofar) → eqb k 9 ≡ false → labelled k finish ts so ≡ got [] ts so
unfolding labelled
labelled_is k finish ts so e = rw (e, labelled) refl

labels_is : (k finish : ℕ) (ts : List Token) (so : Sofar) → eqb k 9 ≡ true → labelled k finish ts so ≡ label finish ts so
unfolding labelled
labels_is k finish ts so e = rw (e, labelled) refl

pub no_pieces : (k n : ℕ) → eqb k 9 ≡ false → label_pieces k n ≡ []
unfolding label_pieces
no_pieces k n e = rw (e, label_pieces) refl

pub own_pieces : (k n : ℕ) → eqb k 9 ≡ true → label_pieces k n ≡ spaced (branch_name n) ∷ []
unfolding label_pieces
own_pieces k n e = rw (e, label_pieces) refl

module _ {B : Type 0} {Q : Claim B} where
  after_labelled : (j : Bytes → List Token → Sofar → Got B) (k n finish : ℕ) (W : List Bytes) (ts : List Token) (so : Sofar) (b : Bool) → eqb k 9 ≡ b
      → words ts ≡ spellings (label_pieces k n) ++ W → ((m : ℕ) → is_among (branch_name m) so.variables ≡ false) → is_taken true n so ≡ false
      → ((rest : List Token) → words rest ≡ W → Gives Q (j (own_of b n) rest (label_if b n so))) → Gives Q (labelled k finish ts so onward j)
  unfolding spaced
  after_labelled j k n finish W ts so false is e a free h =
      after_is j _ [] ts so (labelled_is k finish ts so is) (h ts (e ∙ ap (λ (x : List Piece). spellings x ++ W) (no_pieces k n is)))
  after_labelled j k n finish W ts so true is e a free h =
      rw (labels_is k finish ts so is)
      (after_label j (branch_name n) W finish ts so (e ∙ ap (λ (x : List Piece). spellings x ++ W) (own_pieces k n is)) (branch_is_name n) (unbound₁ n so a free) h)

-- The row that is read of a kind with a word.
form_row : (q : Bytes) (n k b : ℕ) (u v : Held) → kind_at q n ≡ k → eqb k 16 ≡ false → eqb k 17 ≡ false
    → u ≡ record { number = inner_of (fields_of k).a (a_at q n); name = name_of (fields_of k).a (a_at q n) } → b ≡ b_at q n
    → v ≡ record { number = inner_of (fields_of k).c (c_at q n); name = name_of (fields_of k).c (c_at q n) }
    → record { kind = k; type = type_at q n; a = u.number; b = b; c = v.number; word = word_at q n; binds = binds_of (fields_of k).ty n; label = own_of (eqb k 9) n; uses = v.name } ≡ row_of q n
unfolding row_of row_as
form_row q n k b u v is e₁ e₂ eu eb ev =
    sym (ap (λ (x : ℕ). row_as x q n) is
    ∙ rw (e₁, e₂) (λ j. record { kind = k; type = type_at q n; a = (sym eu j).number; b = sym eb j; c = (sym ev j).number; word = word_at q n; binds = binds_of (fields_of k).ty n; label = own_of (eqb k 9) n; uses = (sym ev j).name }))

-- What stands behind the parentheses.
abbrev pub AfterReads : Bytes → List Bytes → ℕ → Opens → Field → ℕ → ℕ → ℕ → ℕ → Type 0
AfterReads q names finish opens f n x i j =
    (g G depth d : ℕ) (ts : List Token) (so : Sofar) (W : List Bytes) → n ≤ g → g ≤ G
    → words ts ≡ spellings (behind_pieces (pieces_f g q depth false) f x) ++ W
    → (may_stop f ≡ true → (W₁ : List Bytes) × (W ≡ close₀ ∷ W₁)) → State q i d so → Known opens so → Above opens (suc n) → Free i n so → n + d ≤ 1008
    → Gives (λ v rest so₁. (v ≡ x) × (words rest ≡ W) × State q j d so₁ × Frame j so so₁) (behind (node_f G names finish) f (inner_of f x) ts so)

-- A kind with a word, from its fields.
module _ (q : Bytes) (names : List Bytes) (finish : ℕ) (opens : Opens) (f : Field) (i i₁ i₂ i₃ n k : ℕ)
    (is : kind_at q n ≡ k) (e₁ : eqb k 16 ≡ false) (e₂ : eqb k 17 ≡ false)
    (lists : ListsLast k) (in_List : may_stop (fields_of k).b ≡ true → is_list f ≡ true)
    (head : HeadFits (fields_of k).ty (type_at q n) (b_at q n) (word_at q n))
    (h₀ : i ≤ i₁) (h₁ : i₁ ≤ i₂) (h₂ : i₂ ≤ i₃) (h₃ : i₃ ≤ n)
    (kid_a : KidReads q names finish (opened_by (fields_of k).ty n opens) (fields_of k).a n (a_at q n) (present_of (fields_of k).ty (b_at q n)) i i₁)
    (kid_b : KidReads q names finish (opened_by (fields_of k).ty n opens) (fields_of k).b n (b_at q n) (present_of (fields_of k).ty (b_at q n)) i₁ i₂)
    (kid_c : KidReads q names finish (opened_by (fields_of k).ty n opens) (fields_of k).c n (c_at q n) (present_of (fields_of k).ty (b_at q n)) i₂ i₃)
    (after_b : AfterReads q names finish opens (fields_of k).b n (b_at q n) i₃ n) where
  pub form_reads : (g G depth d at : ℕ) (ts : List Token) (so so₀ : Sofar) (W : List Bytes) → n ≤ g → g ≤ G
      → words ts ≡ spellings (form_pieces (pieces_f g q (suc depth)) (pieces_f g q depth false) q k n) ++ W → Closing f W
      → State q i (suc d) so → Known opens so → Above opens (suc n) → Free i (suc n) so → n + d < 1008 → Frame (suc n) so₀ so
      → Gives (Done q n d so₀ W) (form (node_f G names finish) names finish at k ts so)
  unfolding form heading
  form_reads g G depth d at ts so so₀ W l l₁ e closing state known above free room frame =
      let bit = eqb k 9 in
      let ty = (fields_of k).ty in
      let so' : Sofar = label_if bit n so in
      let so₁ : Sofar = headed ty n so' in
      let state' = label_state bit q i (suc d) n so state in
      let free-n : is_taken false n so' ≡ false = label_variable bit n n so ∙ free false n (omega arith) (omega arith) in
      let same₁ : (s : Bool) (m : ℕ) → m < 1008 → (m ≡ n → ⊥) → is_taken s m so₁ ≡ is_taken s m so = λ s m b c. headed_frame ty s n so' m b (omega arith) c ∙ label_frame bit s n so m b (omega arith) c in
      let known₁ = headed_known ty opens n so' (omega arith) (label_known bit opens n so known) above in
      let above₁ = headed_above ty opens n (omega arith) above in
      let free₁ : Free i n so₁ = λ s m b c. same₁ s m (omega arith) (λ u. omega arith) ∙ free s m b (omega arith) in
      regroup _ _ _ (after_labelled _ k n finish _ ts so bit refl (e ∙ form_spelled g q depth k n W) state.k_apart (free true n (omega arith) (omega arith)) (λ ts₁ left₁.
      after_typed _ head (own_of bit n) n finish _ ts₁ so' left₁ state'.x_apart free-n (λ rest left.
      then_gives _ (kid_a g G (suc depth) (suc d) true rest so₁ _ l l₁ left (λ _ u. absurd (false≢true (sym lists.a_none ∙ u))) (headed_state ty q i (suc d) n so' state') known₁ above₁ free₁ (omega arith)) (λ a ts₂ so₂ p.
      then_gives _ (kid_b g G (suc depth) (suc d) false ts₂ so₂ _ l l₁ p.1
      (λ v u. (_, ap (λ (x : List Piece). spellings x ++ (close₀ ∷ behind_words g q depth k n W)) (lists.b_last v u _ (c_at q n)))) p.2 (known_on _ n i₁ so₁ so₂ known₁ above₁ (omega arith) p.3) above₁ (free_on i i₁ n so₁ so₂ free₁ h₀ (omega arith) p.3) (omega arith)) (λ b ts₃ so₃ r.
      let frame₃ = frame_more i₁ i₂ i₂ so₁ so₂ so₃ p.3 r.3 h₁ (omega arith) in
      then_gives _ (kid_c g G (suc depth) (suc d) false ts₃ so₃ _ l l₁ r.1 (λ _ u. absurd (false≢true (sym lists.c_none ∙ u))) r.2 (known_on _ n i₂ so₁ so₃ known₁ above₁ (omega arith) frame₃) above₁ (free_on i i₂ n so₁ so₃ free₁ (omega arith) (omega arith) frame₃) (omega arith)) (λ c ts₄ so₄ s.
      let frame₄ = frame_more i₂ i₃ i₃ so₁ so₃ so₄ frame₃ s.3 h₂ (omega arith) in
      after_expect _ close₀ _ finish ts₄ so₄ s.1 (λ ts₅ left₅.
      let known₄ : Known opens so₄ = λ m o. frame₄ false m (above m o).1 (omega (arith, (above m o).0)) ∙ same₁ false m (above m o).1 (λ u. omega (arith, (above m o).0)) ∙ known m o in
      let go = after_b g G depth (suc d) ts₅ so₄ W l l₁ left₅ (λ u. closing (in_List u)) s.2 known₄ above (free_on i i₃ n so₁ so₄ free₁ (omega arith) (omega arith) frame₄) (omega arith) in
      rw (ap (λ (x : Held). x.number) r.0)
      (then_gives _ go (λ v ts₆ so₆ z.
      node_ends q n d so₀ so₆ W ts₆ at _ (form_row q n k v a c is e₁ e₂ p.0 z.0 s.0) z.1 z.2
      (λ t m x y. z.3 t m x (omega arith) ∙ frame₄ t m x (omega arith) ∙ same₁ t m x (λ u. omega arith) ∙ frame t m x y))))))))))
