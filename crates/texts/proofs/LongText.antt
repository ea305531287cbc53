-- No printed text is longer than 107,868 bytes.
-- Assumes nothing.
use Rattle.std.specs.Prelude.{Some}
use mathlib.Core.Path.{◌≡◌, refl, ap, ◌∙◌}
use mathlib.Core.Bool.{Bool, true, false}
use mathlib.Core.List.{[], ◌∷◌, ◌++◌}
use Prim.Native.Nat.{ℕ, zero, suc, ◌+◌, ◌*◌, ◌-◌, ◌<◌, ◌≤◌}
use native.Mathlib.Omega.{arith}
use lib.Dec.{eqb, ltb}
use lib.ListN.{length}
use borrow.Author.Tests.{ltb-false}
use Rattle.rules.specs.Bytes.{Bytes, ◌and◌}
use Rattle.rules.specs.Layout.{nodes, edition, kind_at, type_at, a_at, b_at, c_at, word_at}
use Rattle.rules.specs.Kinds.{fields_of}
use Rattle.rules.specs.Shape.{may_be, may_stop}
use Rattle.rules.specs.declared.Field.{Field}
use Rattle.texts.specs.Spelled.{spelled, same}
use Rattle.texts.specs.Spelling.{close₀, edition_word, kind_word, kind_named}
use Rattle.texts.specs.Numerals.{decimal}
use Rattle.texts.specs.Printer.{tight, spaced, variable_name, value_pieces, label_pieces, type_pieces, field_pieces, behind_pieces, opening, Pieces, form_pieces, pieces_as, pieces_f, pieces, printed}
use Rattle.texts.proofs.Decimals.{by_test, one_digit}
use Rattle.texts.proofs.Laid.{Opens, Fits, HeadFits, Laid, variable_laid, constant_laid, form_laid, Kid, unused_kid, channel_kid, present_kid, signal_kid, expression_kid, first_branch_kid, first_case_kid, next_branch_kid, next_case_kid, target_kid, After, none_after, last_after, next_after}
use Rattle.texts.proofs.NodeLaws.{pieces_at, as_form}
use Rattle.texts.proofs.Whole.{plain_pieces, last_pieces, some_pieces}
use Rattle.texts.proofs.Yields.{first_passes}
use Rattle.texts.proofs.Lengths.{long, long_join, laid_long, value_long, variable_long, branch_long, field_most, kind_long, head_long, label_long, opening_long}

-- 107 bytes for each node from i on up to n; a field has its own bytes beside.
abbrev NodeLong : Bytes → Field → ℕ → ℕ → Type 0
NodeLong q f i n = (g depth : ℕ) (isFirst : Bool) → n < g → long (pieces_f g q depth isFirst f n) + 107 * i ≤ 107 * suc n

abbrev KidLong : Bytes → Field → ℕ → ℕ → ℕ → ℕ → Type 0
KidLong q f n x i j = (g depth : ℕ) (isFirst : Bool) → n ≤ g → long (field_pieces (pieces_f g q depth isFirst) f x) + 107 * i ≤ field_most f + 107 * j

abbrev AfterLong : Bytes → Field → ℕ → ℕ → ℕ → ℕ → Type 0
AfterLong q f n x i j = (g depth : ℕ) → n ≤ g → long (behind_pieces (pieces_f g q depth false) f x) + 107 * i ≤ 107 * j

-- A kind with a word.
form_sum : (kid : Bool → Pieces) (sibling : Pieces) (q : Bytes) (k n : ℕ)
    → long (form_pieces kid sibling q k n)
    ≡ long (label_pieces k n) + long (type_pieces (fields_of k).ty n (type_at q n) (b_at q n) (word_at q n)) + long (field_pieces (kid true) (fields_of k).a (a_at q n))
    + long (field_pieces (kid false) (fields_of k).b (b_at q n)) + long (field_pieces (kid false) (fields_of k).c (c_at q n)) + (1 + long (behind_pieces sibling (fields_of k).b (b_at q n)))
unfolding form_pieces tight
form_sum kid sibling q k n =
    let L = label_pieces k n in
    let T = type_pieces (fields_of k).ty n (type_at q n) (b_at q n) (word_at q n) in
    let A = field_pieces (kid true) (fields_of k).a (a_at q n) in
    let B = field_pieces (kid false) (fields_of k).b (b_at q n) in
    let C = field_pieces (kid false) (fields_of k).c (c_at q n) in
    let R = tight close₀ ∷ behind_pieces sibling (fields_of k).b (b_at q n) in
    let e₁ = long_join (L ++ T ++ A ++ B ++ C) R in
    let e₂ = long_join (L ++ T ++ A ++ B) C in
    let e₃ = long_join (L ++ T ++ A) B in
    let e₄ = long_join (L ++ T) A in
    let e₅ = long_join L T in
    omega arith

named_below_lem : (f : Field) (k : ℕ) → kind_named f (kind_word k) ≡ Some k → k < 30
unfolding kind_named
named_below_lem f k e = (first_passes (λ j. may_be f j and same (kind_word k) (kind_word j)) 30 k e).1

form_long : (q : Bytes) (f : Field) (i i₁ i₂ i₃ n k : ℕ) → n < 1008 → kind_at q n ≡ k → eqb k 16 ≡ false → eqb k 17 ≡ false → k < 30
    → HeadFits (fields_of k).ty (type_at q n) (b_at q n) (word_at q n)
    → KidLong q (fields_of k).a n (a_at q n) i i₁ → KidLong q (fields_of k).b n (b_at q n) i₁ i₂ → KidLong q (fields_of k).c n (c_at q n) i₂ i₃ → AfterLong q (fields_of k).b n (b_at q n) i₃ n
    → NodeLong q f i n
unfolding tight
form_long q f i i₁ i₂ i₃ n k l is e₁ e₂ below head ka kb kc kd zero depth isFirst h = absurd (omega arith)
form_long q f i i₁ i₂ i₃ n k l is e₁ e₂ below head ka kb kc kd (suc g) depth isFirst h =
    let a = ka g (suc depth) true (omega arith) in
    let b = kb g (suc depth) false (omega arith) in
    let c = kc g (suc depth) false (omega arith) in
    let d = kd g depth (omega arith) in
    let o = opening_long f isFirst k depth in
    let t = head_long head n l in
    let m = label_long k n l in
    let w = kind_long k below in
    let s = form_sum (pieces_f g q (suc depth)) (pieces_f g q depth false) q k n in
    let z : long (pieces_f (suc g) q depth isFirst f n)
    ≡ length (opening f isFirst k depth).before + length (opening f isFirst k depth).word + (length (kind_word k) + long (form_pieces (pieces_f g q (suc depth)) (pieces_f g q depth false) q k n))
    = ap long (pieces_at g q depth isFirst f n k is ∙ as_form _ _ q depth isFirst f n k e₁ e₂) ∙ omega arith in
    omega arith

-- Nodes that are one word, and fields.
variable_node : (q : Bytes) (n : ℕ) → kind_at q n ≡ 16 → a_at q n < 1008 → NodeLong q Field.Expression n n
unfolding pieces_as
variable_node q n is l zero depth isFirst h = absurd (omega arith)
variable_node q n is l (suc g) depth isFirst h =
    let v = variable_long (a_at q n) l in
    let z : long (pieces_f (suc g) q depth isFirst Field.Expression n) ≡ long (spaced (variable_name (a_at q n)) ∷ []) = ap long (pieces_at g q depth isFirst Field.Expression n 16 is) in
    omega arith

constant_node : (q : Bytes) (n : ℕ) → kind_at q n ≡ 17 → Fits (type_at q n) (b_at q n) (word_at q n) → NodeLong q Field.Expression n n
unfolding pieces_as
constant_node q n is fits zero depth isFirst h = absurd (omega arith)
constant_node q n is fits (suc g) depth isFirst h =
    let v = value_long fits in
    let z : long (pieces_f (suc g) q depth isFirst Field.Expression n) ≡ long (value_pieces (type_at q n) (b_at q n) (word_at q n)) = ap long (pieces_at g q depth isFirst Field.Expression n 17 is) in
    omega arith

none_kid : (q : Bytes) (f : Field) (n x i : ℕ) → ((kid : Pieces) → field_pieces kid f x ≡ []) → KidLong q f n x i i
none_kid q f n x i none g depth isFirst l = let z = ap long (none (pieces_f g q depth isFirst)) in omega arith

child_kid : (q : Bytes) (f : Field) (n x i : ℕ) → ((kid : Pieces) → field_pieces kid f x ≡ kid f x) → x < n → NodeLong q f i x → KidLong q f n x i (suc x)
child_kid q f n x i one l₀ node g depth isFirst l =
    let z = ap long (one (pieces_f g q depth isFirst)) in let m = node g depth isFirst (omega arith) in omega arith

channel_digit : (x : ℕ) → x < 8 → length (decimal x) ≤ 1
unfolding decimal
channel_digit x l = by_test (ltb x 10) (λ t. rw (one_digit 9 x [] t) (omega arith)) (λ t. absurd (let g = ltb-false x 10 t in omega arith))

channel_long : (q : Bytes) (n x i : ℕ) → x < 8 → KidLong q Field.Channel n x i i
unfolding field_pieces field_most spaced
channel_long q n x i l₀ g depth isFirst l = let m = channel_digit x l₀ in omega arith

target_long : (q : Bytes) (n x i : ℕ) → x < 1008 → KidLong q Field.Target n x i i
unfolding field_pieces field_most
target_long q n x i l₀ g depth isFirst l = let m = branch_long x l₀ in omega arith

none_after_long : (q : Bytes) (f : Field) (n x i : ℕ) → ((sibling : Pieces) → behind_pieces sibling f x ≡ []) → AfterLong q f n x i i
none_after_long q f n x i none g depth l = let z = ap long (none (pieces_f g q depth false)) in omega arith

next_after_long : (q : Bytes) (f : Field) (n x i : ℕ) → may_stop f ≡ true → x < n → n < 1008 → NodeLong q f i x → AfterLong q f n x i (suc x)
next_after_long q f n x i e l₀ r node g depth l =
    let z = ap long (some_pieces f x e (omega arith) (pieces_f g q depth false)) in let m = node g depth false (omega arith) in omega arith

-- A laid out node.
module _ (q : Bytes) (targets : Opens) (small : (m : ℕ) → targets m ≡ true → m < 1008) where
  mutual
    unfolding field_pieces field_most

    pub node_long : {opens : Opens} {f : Field} {i n : ℕ} → Laid q targets opens f i n → n < 1008 → NodeLong q f i n
    node_long {opens} {f} {i} {n} (variable_laid is o l e₁ e₂ e₃ e₄) r = variable_node q n is l
    node_long {opens} {f} {i} {n} (constant_laid is fits e₁ e₂) r = constant_node q n is fits
    node_long {opens} {f} {i} {n} (form_laid k is e₁ e₂ named w lists in_List head ka kb kc kd) r =
        form_long q f i _ _ _ n k r is e₁ e₂ (named_below_lem f k named) head (kid_long ka r) (kid_long kb r) (kid_long kc r) (after_long kd r)

    kid_long : {opens : Opens} {f : Field} {n x p i j : ℕ} → Kid q targets opens f n x p i j → n < 1008 → KidLong q f n x i j
    kid_long {opens} {f} {n} {x} {p} {i} {j} (unused_kid e₀) r = none_kid q Field.Unused n x i (λ kid. refl)
    kid_long {opens} {f} {n} {x} {p} {i} {j} (channel_kid l₀) r = channel_long q n x i l₀
    kid_long {opens} {f} {n} {x} {p} {i} {j} (present_kid e₀) r = none_kid q Field.PresentByte n x i (λ kid. refl)
    kid_long {opens} {f} {n} {x} {p} {i} {j} (signal_kid l₀ t) r = child_kid q Field.Signal n x i (λ kid. refl) l₀ (node_long t (omega arith))
    kid_long {opens} {f} {n} {x} {p} {i} {j} (expression_kid l₀ t) r = child_kid q Field.Expression n x i (λ kid. refl) l₀ (node_long t (omega arith))
    kid_long {opens} {f} {n} {x} {p} {i} {j} (first_branch_kid l₀ t) r = child_kid q Field.FirstBranch n x i (λ kid. refl) l₀ (node_long t (omega arith))
    kid_long {opens} {f} {n} {x} {p} {i} {j} (first_case_kid l₀ t) r = child_kid q Field.FirstCase n x i (λ kid. refl) l₀ (node_long t (omega arith))
    kid_long {opens} {f} {n} {x} {p} {i} {j} next_branch_kid r = none_kid q Field.NextBranch n x i (λ kid. refl)
    kid_long {opens} {f} {n} {x} {p} {i} {j} next_case_kid r = none_kid q Field.NextCase n x i (λ kid. refl)
    kid_long {opens} {f} {n} {x} {p} {i} {j} (target_kid e₀) r = target_long q n x i (small x e₀)

    after_long : {opens : Opens} {f : Field} {n x i j : ℕ} → After q targets opens f n x i j → n < 1008 → AfterLong q f n x i j
    after_long {opens} {f} {n} {x} {i} {j} (none_after e₀ u) r = none_after_long q f n x i (λ sibling. plain_pieces f e₀ sibling x)
    after_long {opens} {f} {n} {x} {i} {j} (last_after e₀ u) r = none_after_long q f n x i (λ sibling. last_pieces f x e₀ u sibling)
    after_long {opens} {f} {n} {x} {i} {j} (next_after e₀ l₀ t) r = next_after_long q f n x i e₀ l₀ r (node_long t (omega arith))

  title_long : (e : ℕ) → e ≤ 1 → length (edition_word e) ≤ 11
  unfolding edition_word spelled
  title_long zero l = omega arith
  title_long (suc zero) l = omega arith
  title_long (suc (suc e)) l = absurd (omega arith)

  pub text_long : (n : ℕ) → nodes q ≡ suc n → n < 1008 → edition q ≤ 1 → Laid q targets (λ m. false) Field.Signal 0 n → length (printed q) ≤ 12 + 107 * nodes q
  unfolding printed pieces tight
  text_long n e l one laid₀ =
      let xs = pieces_f (nodes q) q 0 false Field.Signal (nodes q - 1) in
      let a = laid_long (tight (edition_word (edition q)) ∷ xs) in
      let b = title_long (edition q) one in
      let z : nodes q - 1 ≡ n = omega arith in
      let c = node_long laid₀ l (nodes q) 0 false (omega arith) in
      let d : long xs ≡ long (pieces_f (nodes q) q 0 false Field.Signal n) = ap (λ (k : ℕ). long (pieces_f (nodes q) q 0 false Field.Signal k)) z in
      omega arith
