-- The printed text has the name of each branch behind (branch: so each target is known, wherever its branch stands.
-- Assumes nothing.
use mathlib.Core.Path.{◌≡◌, refl, sym, ap, subst, ◌∙◌}
use mathlib.Core.Bool.{Bool, true, false}
use mathlib.Core.List.{List, [], ◌∷◌, ◌++◌, nil≢cons, head-eq_of_cons-eq, tail-eq_of_cons-eq}
use Prim.Native.Nat.{ℕ, zero, suc, ◌<◌, ◌≤◌}
use native.Mathlib.Omega.{arith}
use lib.Dec.{eqb, ltb}
use borrow.Author.Tests.{ltb-true, ltb-false, eqb-true, eqb-false}
use Rattle.rules.specs.Bytes.{Bytes, ◌and◌}
use Rattle.rules.specs.Layout.{nodes, edition, kind_at, type_at, a_at, b_at, c_at, word_at}
use Rattle.rules.specs.Shape.{may_stop}
use Rattle.rules.specs.Kinds.{fields_of}
use Rattle.rules.specs.declared.Field.{Field}
use Rattle.texts.specs.Tokens.{Token, tokens}
use Rattle.texts.specs.Spelled.{spelled, same, is_among}
use Rattle.texts.specs.Spelling.{open₀, close₀, edition_word, kind_word}
use Rattle.texts.specs.Reader.{branch_names, opened, named}
use Rattle.texts.specs.Printer.{Piece, spaced, tight, branch_name, label_pieces, type_pieces, field_pieces, behind_pieces, form_pieces, pieces_f, printed}
use Rattle.texts.proofs.Gives.{false≢true, same_refl, words}
use Rattle.texts.proofs.Decimals.{by_test}
use Rattle.texts.proofs.ValueLaws.{spellings}
use Rattle.texts.proofs.Laid.{Opens, Laid, variable_laid, constant_laid, form_laid, Kid, unused_kid, channel_kid, present_kid, signal_kid, expression_kid, first_branch_kid, first_case_kid, next_branch_kid, next_case_kid, target_kid, After, none_after, last_after, next_after}
use Rattle.texts.proofs.NodeLaws.{Aims, pieces_at, as_form, opening_word, own_pieces, behind_words, field_words, form_spelled}
use Rattle.texts.proofs.Whole.{some_pieces}
use Rattle.texts.proofs.Core.{printed_words}

-- Words that are the same are one word.
pub same_is : (v w : Bytes) → same v w ≡ true → v ≡ w
unfolding same ◌and◌
same_is [] [] e = refl
same_is [] (y ∷ ys) e = absurd (false≢true e)
same_is (x ∷ xs) [] e = absurd (false≢true e)
same_is (x ∷ xs) (y ∷ ys) e =
    by_test (eqb x y)
    (λ t. let u : same xs ys ≡ true = rw t at e in (λ j. eqb-true x y t j ∷ same_is xs ys u j))
    (λ t. absurd (false≢true (rw t at e)))

-- A name stays among names.
pub among_tail : (w v : Bytes) (vs : List Bytes) → is_among w vs ≡ true → is_among w (v ∷ vs) ≡ true
unfolding is_among
among_tail w v vs e = by_test (same w v) (λ t. rw (t, is_among) refl) (λ t. rw (t, is_among) e)

among_head : (w : Bytes) (vs : List Bytes) → is_among w (w ∷ vs) ≡ true
unfolding is_among
among_head w vs = rw (same_refl w, is_among) refl

-- Whatever stands before, the names behind stay known.
keeps_named : (w : Bytes) (ts : List Token) → is_among w (branch_names ts) ≡ true → is_among w (named ts) ≡ true
unfolding branch_names is_among
keeps_named w [] e = e
keeps_named w (t ∷ ts) e = among_tail w t.word (branch_names (t ∷ ts)) e

keeps_opened : (w : Bytes) (ts : List Token) → is_among w (branch_names ts) ≡ true → is_among w (opened ts) ≡ true
unfolding branch_names is_among kind_word spelled same ◌and◌
keeps_opened w [] e = e
keeps_opened w (t ∷ ts) e =
    by_test (same t.word (kind_word 9))
    (λ u. let no-open : same t.word open₀ ≡ false = ap (λ (v : Bytes). same v open₀) (same_is t.word (kind_word 9) u) in
    let left : is_among w (branch_names ts) ≡ true = rw (no-open, branch_names) at e in
    rw (u, opened) (keeps_named w ts left))
    (λ u. rw (u, opened) e)

keeps_more : (w : Bytes) (t : Token) (ts : List Token) → is_among w (branch_names ts) ≡ true → is_among w (branch_names (t ∷ ts)) ≡ true
unfolding branch_names
keeps_more w t ts e =
    by_test (same t.word open₀)
    (λ u. rw (u, branch_names) (keeps_opened w ts e))
    (λ u. rw (u, branch_names) e)

-- Words of which a branch's name is known.
abbrev Said : ℕ → List Bytes → Type 0
Said m W = (ts : List Token) → words ts ≡ W → is_among (branch_name m) (branch_names ts) ≡ true

said_more : (m : ℕ) (v : Bytes) (W : List Bytes) → Said m W → Said m (v ∷ W)
said_more m v W h [] e = absurd (nil≢cons e)
said_more m v W h (t ∷ ts) e = keeps_more (branch_name m) t ts (h ts (tail-eq_of_cons-eq e))

said_behind : (m : ℕ) (U W : List Bytes) → Said m W → Said m (U ++ W)
said_behind m [] W h = h
said_behind m (v ∷ U) W h = said_more m v (U ++ W) (said_behind m U W h)

open_step : (t : Token) (ts : List Token) → t.word ≡ open₀ → branch_names (t ∷ ts) ≡ opened ts
unfolding branch_names same ◌and◌
open_step t ts e = rw (ap (λ (v : Bytes). same v open₀) e, branch_names) refl

branch_step : (t : Token) (ts : List Token) → t.word ≡ kind_word 9 → opened (t ∷ ts) ≡ named ts
unfolding branch_names
branch_step t ts e = rw (ap (λ (v : Bytes). same v (kind_word 9)) e ∙ same_refl (kind_word 9), opened) refl

name_step : (t : Token) (ts : List Token) → named (t ∷ ts) ≡ t.word ∷ branch_names (t ∷ ts)
unfolding branch_names
name_step t ts = refl

said_here : (m : ℕ) (W : List Bytes) → Said m (open₀ ∷ kind_word 9 ∷ branch_name m ∷ W)
said_here m W [] e = absurd (nil≢cons e)
said_here m W (t ∷ []) e = absurd (nil≢cons (tail-eq_of_cons-eq e))
said_here m W (t ∷ u ∷ []) e = absurd (nil≢cons (tail-eq_of_cons-eq (tail-eq_of_cons-eq e)))
said_here m W (t ∷ u ∷ x ∷ ts) e =
    let e₁ = tail-eq_of_cons-eq e in
    let is_name = head-eq_of_cons-eq (tail-eq_of_cons-eq e₁) in
    ap (is_among (branch_name m)) (open_step t (u ∷ x ∷ ts) (head-eq_of_cons-eq e) ∙ branch_step u (x ∷ ts) (head-eq_of_cons-eq e₁) ∙ name_step x ts
    ∙ ap {B = List Bytes} (λ (v : Bytes). v ∷ branch_names (x ∷ ts)) is_name)
    ∙ among_head (branch_name m) (branch_names (x ∷ ts))

said_branch : (m k : ℕ) (W : List Bytes) → k ≡ 9 → Said m (open₀ ∷ kind_word k ∷ branch_name m ∷ W)
said_branch m k W e = subst (λ (x : ℕ). Said m (open₀ ∷ kind_word x ∷ branch_name m ∷ W)) (sym e) (said_here m W)

-- What is shown of a node, a field, and what stands behind: each branch from i on up to the node is said.
abbrev NodeSaid : Bytes → Field → ℕ → ℕ → Type 0
NodeSaid q f i n = (m g depth : ℕ) (isFirst : Bool) (W : List Bytes) → n < g → i ≤ m → m ≤ n → eqb (kind_at q m) 9 ≡ true → Said m (spellings (pieces_f g q depth isFirst f n) ++ W)

abbrev KidSaid : Bytes → Field → ℕ → ℕ → ℕ → ℕ → Type 0
KidSaid q f n x i j =
    (m g depth : ℕ) (isFirst : Bool) (W : List Bytes) → n ≤ g → i ≤ m → m < j → eqb (kind_at q m) 9 ≡ true → Said m (spellings (field_pieces (pieces_f g q depth isFirst) f x) ++ W)

abbrev AfterSaid : Bytes → Field → ℕ → ℕ → ℕ → ℕ → Type 0
AfterSaid q f n x i j =
    (m g depth : ℕ) (W : List Bytes) → n ≤ g → i ≤ m → m < j → eqb (kind_at q m) 9 ≡ true → Said m (spellings (behind_pieces (pieces_f g q depth false) f x) ++ W)

-- The words of a node with a word.
form_words : (g : ℕ) (q : Bytes) (depth : ℕ) (isFirst : Bool) (f : Field) (n k : ℕ) (W : List Bytes) → kind_at q n ≡ k → eqb k 16 ≡ false → eqb k 17 ≡ false
    → spellings (pieces_f (suc g) q depth isFirst f n) ++ W
    ≡ open₀ ∷ kind_word k ∷ (spellings (label_pieces k n) ++ (spellings (type_pieces (fields_of k).ty n (type_at q n) (b_at q n) (word_at q n))
    ++ field_words g q (suc depth) true (fields_of k).a (a_at q n) (field_words g q (suc depth) false (fields_of k).b (b_at q n)
    (field_words g q (suc depth) false (fields_of k).c (c_at q n) (close₀ ∷ behind_words g q depth k n W)))))
unfolding tight
form_words g q depth isFirst f n k W is e₁ e₂ =
    ap (λ (x : List Piece). spellings x ++ W) (pieces_at g q depth isFirst f n k is ∙ as_form _ _ q depth isFirst f n k e₁ e₂)
    ∙ ap {B = List Bytes} (λ (w : Bytes). w ∷ kind_word k ∷ (spellings (form_pieces (pieces_f g q (suc depth)) (pieces_f g q depth false) q k n) ++ W)) (opening_word f isFirst k depth)
    ∙ ap {B = List Bytes} (λ (U : List Bytes). open₀ ∷ kind_word k ∷ U) (form_spelled g q depth k n W)

last_one : (m n : ℕ) → m ≤ n → (m ≡ n → ⊥) → m < n
last_one m n h d = omega arith

module _ (q : Bytes) (f : Field) (i i₁ i₂ i₃ n k : ℕ) (is : kind_at q n ≡ k) (e₁ : eqb k 16 ≡ false) (e₂ : eqb k 17 ≡ false)
    (ka : KidSaid q (fields_of k).a n (a_at q n) i i₁) (kb : KidSaid q (fields_of k).b n (b_at q n) i₁ i₂) (kc : KidSaid q (fields_of k).c n (c_at q n) i₂ i₃)
    (kd : AfterSaid q (fields_of k).b n (b_at q n) i₃ n) where
  own_said : (g depth : ℕ) (isFirst : Bool) (W : List Bytes) → eqb k 9 ≡ true → Said n (spellings (pieces_f (suc g) q depth isFirst f n) ++ W)
  unfolding spaced
  own_said g depth isFirst W branch =
      subst (Said n) (sym (form_words g q depth isFirst f n k W is e₁ e₂
      ∙ ap {B = List Bytes} (λ (xs : List Piece). open₀ ∷ kind_word k ∷ (spellings xs ++ (spellings (type_pieces (fields_of k).ty n (type_at q n) (b_at q n) (word_at q n))
      ++ field_words g q (suc depth) true (fields_of k).a (a_at q n) (field_words g q (suc depth) false (fields_of k).b (b_at q n)
      (field_words g q (suc depth) false (fields_of k).c (c_at q n) (close₀ ∷ behind_words g q depth k n W)))))) (own_pieces k n branch)))
      (said_branch n k _ (eqb-true k 9 branch))

  below_said : (m g depth : ℕ) (isFirst : Bool) (W : List Bytes) → n ≤ g → i ≤ m → m < n → eqb (kind_at q m) 9 ≡ true → Said m (spellings (pieces_f (suc g) q depth isFirst f n) ++ W)
  below_said m g depth isFirst W l h b branch =
      let words_of : Bool → Field → ℕ → List Bytes = λ first f x. spellings (field_pieces (pieces_f g q (suc depth) first) f x) in
      let D = behind_words g q depth k n W in
      let C = field_words g q (suc depth) false (fields_of k).c (c_at q n) (close₀ ∷ D) in
      let B = field_words g q (suc depth) false (fields_of k).b (b_at q n) C in
      let A = field_words g q (suc depth) true (fields_of k).a (a_at q n) B in
      subst (Said m) (sym (form_words g q depth isFirst f n k W is e₁ e₂))
      (said_more m open₀ _ (said_more m (kind_word k) _ (said_behind m (spellings (label_pieces k n)) _ (said_behind m (spellings (type_pieces (fields_of k).ty n (type_at q n) (b_at q n) (word_at q n))) A
      (by_test (ltb m i₁) (λ t. ka m g (suc depth) true B l h (ltb-true m i₁ t) branch) (λ t.
      said_behind m (words_of true (fields_of k).a (a_at q n)) B (by_test (ltb m i₂) (λ u. kb m g (suc depth) false C l (ltb-false m i₁ t) (ltb-true m i₂ u) branch) (λ u.
      said_behind m (words_of false (fields_of k).b (b_at q n)) C (by_test (ltb m i₃) (λ v. kc m g (suc depth) false (close₀ ∷ D) l (ltb-false m i₂ u) (ltb-true m i₃ v) branch) (λ v.
      said_behind m (words_of false (fields_of k).c (c_at q n)) (close₀ ∷ D) (said_more m close₀ D (kd m g depth W l (ltb-false m i₃ v) b branch))))))))))))

  form_said : NodeSaid q f i n
  form_said m zero depth isFirst W l h b branch = absurd (omega arith)
  form_said m (suc g) depth isFirst W l h b branch =
      by_test (eqb m n)
      (λ t. let z = eqb-true m n t in
      subst (λ (x : ℕ). Said x (spellings (pieces_f (suc g) q depth isFirst f n) ++ W)) (sym z)
      (own_said g depth isFirst W (ap (λ (x : ℕ). eqb x 9) (sym is) ∙ ap (λ (x : ℕ). eqb (kind_at q x) 9) (sym z) ∙ branch)))
      (λ t. below_said m g depth isFirst W (omega arith) h (last_one m n b (eqb-false m n t)) branch)

-- A node that is one word, or none.
no_branch_lem : (q : Bytes) (m n k : ℕ) → kind_at q n ≡ k → eqb k 9 ≡ false → n ≤ m → m ≤ n → eqb (kind_at q m) 9 ≡ true → ⊥
no_branch_lem q m n k is e h l branch =
    let z : m ≡ n = omega arith in
    false≢true (sym (ap (λ (x : ℕ). eqb x 9) is ∙ e) ∙ ap (λ (x : ℕ). eqb (kind_at q x) 9) (sym z) ∙ branch)

none_said : (q : Bytes) (f : Field) (n x i : ℕ) → KidSaid q f n x i i
none_said q f n x i m g depth isFirst W l h b branch = absurd (omega arith)

child_said : (q : Bytes) (f : Field) (n x i : ℕ) → ((kid : Field → ℕ → List Piece) → field_pieces kid f x ≡ kid f x) → x < n → NodeSaid q f i x → KidSaid q f n x i (suc x)
child_said q f n x i one l₀ node m g depth isFirst W l h b branch =
    subst (λ (xs : List Piece). Said m (spellings xs ++ W)) (sym (one (pieces_f g q depth isFirst))) (node m g depth isFirst W (omega arith) h (omega arith) branch)

next_said : (q : Bytes) (f : Field) (n x i : ℕ) → may_stop f ≡ true → x < n → n < 1008 → NodeSaid q f i x → AfterSaid q f n x i (suc x)
next_said q f n x i e l₀ r node m g depth W l h b branch =
    subst (λ (xs : List Piece). Said m (spellings xs ++ W)) (sym (some_pieces f x e (omega arith) (pieces_f g q depth false))) (node m g depth false W (omega arith) h (omega arith) branch)

mutual
  unfolding field_pieces

  pub node_said : {q : Bytes} {targets opens : Opens} {f : Field} {i n : ℕ} → Laid q targets opens f i n → n < 1008 → NodeSaid q f i n
  node_said {q} {targets} {opens} {f} {i} {n} (variable_laid is o l e₁ e₂ e₃ e₄) r = λ m g depth isFirst W l₁ h b branch. absurd (no_branch_lem q m n 16 is refl h b branch)
  node_said {q} {targets} {opens} {f} {i} {n} (constant_laid is fits e₁ e₂) r = λ m g depth isFirst W l₁ h b branch. absurd (no_branch_lem q m n 17 is refl h b branch)
  node_said {q} {targets} {opens} {f} {i} {n} (form_laid k is e₁ e₂ named w lists in_List head ka kb kc kd) r =
      form_said q f i _ _ _ n k is e₁ e₂ (kid_said ka r) (kid_said kb r) (kid_said kc r) (after_said kd r)

  kid_said : {q : Bytes} {targets opens : Opens} {f : Field} {n x p i j : ℕ} → Kid q targets opens f n x p i j → n < 1008 → KidSaid q f n x i j
  kid_said {q} {targets} {opens} {f} {n} {x} {p} {i} {j} (unused_kid e₀) r = none_said q Field.Unused n x i
  kid_said {q} {targets} {opens} {f} {n} {x} {p} {i} {j} (channel_kid l₀) r = none_said q Field.Channel n x i
  kid_said {q} {targets} {opens} {f} {n} {x} {p} {i} {j} (present_kid e₀) r = none_said q Field.PresentByte n x i
  kid_said {q} {targets} {opens} {f} {n} {x} {p} {i} {j} (signal_kid l₀ t) r = child_said q Field.Signal n x i (λ kid. refl) l₀ (node_said t (omega arith))
  kid_said {q} {targets} {opens} {f} {n} {x} {p} {i} {j} (expression_kid l₀ t) r = child_said q Field.Expression n x i (λ kid. refl) l₀ (node_said t (omega arith))
  kid_said {q} {targets} {opens} {f} {n} {x} {p} {i} {j} (first_branch_kid l₀ t) r = child_said q Field.FirstBranch n x i (λ kid. refl) l₀ (node_said t (omega arith))
  kid_said {q} {targets} {opens} {f} {n} {x} {p} {i} {j} (first_case_kid l₀ t) r = child_said q Field.FirstCase n x i (λ kid. refl) l₀ (node_said t (omega arith))
  kid_said {q} {targets} {opens} {f} {n} {x} {p} {i} {j} next_branch_kid r = none_said q Field.NextBranch n x i
  kid_said {q} {targets} {opens} {f} {n} {x} {p} {i} {j} next_case_kid r = none_said q Field.NextCase n x i
  kid_said {q} {targets} {opens} {f} {n} {x} {p} {i} {j} (target_kid e₀) r = none_said q Field.Target n x i

  after_said : {q : Bytes} {targets opens : Opens} {f : Field} {n x i j : ℕ} → After q targets opens f n x i j → n < 1008 → AfterSaid q f n x i j
  after_said {q} {targets} {opens} {f} {n} {x} {i} {j} (none_after e₀ u) r = λ m g depth W l h b branch. absurd (omega arith)
  after_said {q} {targets} {opens} {f} {n} {x} {i} {j} (last_after e₀ u) r = λ m g depth W l h b branch. absurd (omega arith)
  after_said {q} {targets} {opens} {f} {n} {x} {i} {j} (next_after e₀ l₀ t) r = next_said q f n x i e₀ l₀ r (node_said t (omega arith))

-- So all targets are known.
pub all_aimed : (q : Bytes) (targets : Opens) (n : ℕ) → nodes q ≡ suc n → n < 1008 → edition q ≤ 1
    → ((m : ℕ) → targets m ≡ true → (m ≤ n) × (eqb (kind_at q m) 9 ≡ true)) → Laid q targets (λ m. false) Field.Signal 0 n → Aims targets (branch_names (tokens (printed q)))
all_aimed q targets n e l one are laid₀ m t =
    said_more m (edition_word (edition q)) (spellings (pieces_f (nodes q) q 0 false Field.Signal n) ++ [])
    (node_said laid₀ l m (nodes q) 0 false [] (omega arith) (omega arith) (are m t).0 (are m t).1)
    (tokens (printed q)) (printed_words q targets n e l one laid₀)
