-- The words ahead, byte by byte.
-- Assumes nothing.
use mathlib.Core.Path.{◌≡◌, refl, sym, ap, ◌∙◌}
use mathlib.Core.Bool.{Bool, true, false, not}
use mathlib.Core.List.{[], ◌∷◌, ◌++◌, append_assoc, append-nil}
use Prim.Native.Nat.{ℕ, suc, ◌+◌, ◌-◌, ◌≤◌, ◌<◌}
use native.Mathlib.Omega.{arith}
use native.Mathlib.Numerals.{add-one}
use lib.Dec.{eqb}
use borrow.Author.Tests.{ne_eqb, eq-eqb}
use Rattle.tokens.specs.Ahead.{RestOfWord, Shown, Still, Blank}
use lib.ListN.{length, get_or, take, drop, drop_of_length-le}
use lib.Seq.{drop-cons, drop-drop, take-add}
use Rattle.rules.specs.Bytes.{Bytes, ◌or◌}
use Rattle.texts.specs.Tokens.{Token, token, ends_line, is_white, is_comment, is_mark, is_part, between, from, part}
use Rattle.texts.specs.Tokens as Tokens
use Rattle.texts.proofs.Gives.{false≢true}

-- A line end is white.
ends_white : (b : ℕ) → ends_line b ≡ true → is_white b ≡ true
unfolding is_white ◌or◌
ends_white b e = go (eqb b 32) (eqb b 9)
  where
    go : (x y : Bool) → (x or y or ends_line b) ≡ true
    go true y = refl
    go false true = refl
    go false false = e

module _ (s : Bytes) (i : ℕ) where
  pub ahead : i < length s → drop i s ≡ get_or s i 0 ∷ drop (suc i) s
  ahead h = drop-cons s i 0 h

  pub comment_on : i < length s → ends_line (get_or s i 0) ≡ false → Tokens.comment i (drop i s) ≡ Tokens.comment (suc i) (drop (suc i) s)
  unfolding Tokens.comment
  comment_on h e = ap (Tokens.comment i) (ahead h) ∙ rw (e, Tokens.comment) refl

  from_white : i < length s → is_white (get_or s i 0) ≡ true → from s i ≡ between (suc i) (drop (suc i) s)
  unfolding from between
  from_white h e = ap (between i) (ahead h) ∙ rw (e, between) refl

  pub comment_ends : i < length s → ends_line (get_or s i 0) ≡ true → Tokens.comment i (drop i s) ≡ from s i
  unfolding Tokens.comment
  comment_ends h e = ap (Tokens.comment i) (ahead h) ∙ rw (e, Tokens.comment) (sym (from_white h (ends_white (get_or s i 0) e)))

  pub comment_past : length s ≤ i → Tokens.comment i (drop i s) ≡ from s i
  unfolding Tokens.comment from between
  comment_past h = rw (drop_of_length-le s h) refl

-- A word goes on, or ends.
module _ (s : Bytes) (i start : ℕ) (w : Bytes) (h : i < length s) where
  pub inside_on : is_white (get_or s i 0) ≡ false → is_comment (get_or s i 0) ≡ false → is_mark (get_or s i 0) ≡ false
      → Tokens.inside start w i (drop i s) ≡ Tokens.inside start (w ++ get_or s i 0 ∷ []) (suc i) (drop (suc i) s)
  unfolding Tokens.inside
  inside_on e₁ e₂ e₃ = ap (Tokens.inside start w i) (ahead s i h) ∙ rw (e₁, e₂, e₃, Tokens.inside) refl

  pub ends_white_word : is_white (get_or s i 0) ≡ true → Tokens.inside start w i (drop i s) ≡ token start w ∷ from s i
  unfolding Tokens.inside from between
  ends_white_word e₁ =
      ap (Tokens.inside start w i) (ahead s i h) ∙ rw (e₁, Tokens.inside) (sym (ap (λ (r : Bytes). token start w ∷ between i r) (ahead s i h) ∙ rw (e₁, between) refl))

  pub ends_comment_word : is_white (get_or s i 0) ≡ false → is_comment (get_or s i 0) ≡ true → Tokens.inside start w i (drop i s) ≡ token start w ∷ from s i
  unfolding Tokens.inside from between
  ends_comment_word e₁ e₂ =
      ap (Tokens.inside start w i) (ahead s i h) ∙ rw (e₁, e₂, Tokens.inside) (sym (ap (λ (r : Bytes). token start w ∷ between i r) (ahead s i h) ∙ rw (e₁, e₂, between) refl))

  pub ends_mark_word : is_white (get_or s i 0) ≡ false → is_comment (get_or s i 0) ≡ false → is_mark (get_or s i 0) ≡ true → Tokens.inside start w i (drop i s) ≡ token start w ∷ from s i
  unfolding Tokens.inside from between
  ends_mark_word e₁ e₂ e₃ =
      ap (Tokens.inside start w i) (ahead s i h) ∙ rw (e₁, e₂, e₃, Tokens.inside) (sym (ap (λ (r : Bytes). token start w ∷ between i r) (ahead s i h) ∙ rw (e₁, e₂, e₃, between) refl))

  -- Any byte that is no part of a word ends it, and one that is goes on.
  pub ends_word : is_part (get_or s i 0) ≡ false → Tokens.inside start w i (drop i s) ≡ token start w ∷ from s i
  unfolding is_part ◌or◌
  ends_word e = go (is_white (get_or s i 0)) (is_comment (get_or s i 0)) (is_mark (get_or s i 0)) refl refl refl e
    where
      go : (x y z : Bool) → is_white (get_or s i 0) ≡ x → is_comment (get_or s i 0) ≡ y → is_mark (get_or s i 0) ≡ z → not (x or y or z) ≡ false
          → Tokens.inside start w i (drop i s) ≡ token start w ∷ from s i
      go true y z a b c d = ends_white_word a
      go false true z a b c d = ends_comment_word a b
      go false false true a b c d = ends_mark_word a b c
      go false false false a b c d = absurd (false≢true (sym d))

  pub goes_on : is_part (get_or s i 0) ≡ true → Tokens.inside start w i (drop i s) ≡ Tokens.inside start (w ++ get_or s i 0 ∷ []) (suc i) (drop (suc i) s)
  unfolding is_part ◌or◌
  goes_on e = go (is_white (get_or s i 0)) (is_comment (get_or s i 0)) (is_mark (get_or s i 0)) refl refl refl e
    where
      go : (x y z : Bool) → is_white (get_or s i 0) ≡ x → is_comment (get_or s i 0) ≡ y → is_mark (get_or s i 0) ≡ z → not (x or y or z) ≡ true
          → Tokens.inside start w i (drop i s) ≡ Tokens.inside start (w ++ get_or s i 0 ∷ []) (suc i) (drop (suc i) s)
      go true y z a b c d = absurd (false≢true d)
      go false true z a b c d = absurd (false≢true d)
      go false false true a b c d = absurd (false≢true d)
      go false false false a b c d = inside_on a b c

pub ends_text_word : (s : Bytes) (i start : ℕ) (w : Bytes) → length s ≤ i → Tokens.inside start w i (drop i s) ≡ token start w ∷ from s i
unfolding Tokens.inside from between
ends_text_word s i start w h = rw (drop_of_length-le s h) refl

-- A part of a text, one byte longer; of none.
pub part_none : (s : Bytes) (at : ℕ) (w : Bytes) → w ++ part s at at ≡ w
unfolding part
part_none s at w = ap (λ (k : ℕ). w ++ take k (drop at s)) (let z : at - at ≡ 0 = omega arith in z) ∙ append-nil w

pub part_more : (s : Bytes) (at i : ℕ) → at ≤ i → i < length s → part s at (suc i) ≡ part s at i ++ get_or s i 0 ∷ []
unfolding part
part_more s at i h l =
    ap (λ (k : ℕ). take k (drop at s)) (let z : suc i - at ≡ (i - at) + 1 = omega arith in z)
    ∙ take-add (i - at) 1 (drop at s)
    ∙ ap (λ (r : Bytes). take (i - at) (drop at s) ++ r)
    (ap (take 1) (drop-drop (i - at) at s ∙ ap (λ (k : ℕ). drop k s) (let z : at + (i - at) ≡ i = omega arith in z) ∙ drop-cons s i 0 l))

-- What the loops need. (x, y, z are what the tests of byte b, at i, answered.)
abbrev Within : Bytes → ℕ → ℕ → Type 0
Within s at i = (at ≤ i) × (i ≤ length s)

module _ (s : Bytes) (at i : ℕ) where
  pub line_returns : (x : Bool) → at ≤ i → i < length s → Tokens.comment at (drop at s) ≡ Tokens.comment i (drop i s)
      → x ≡ ends_line (get_or s i 0) → x ≡ true → Within s at i × (Tokens.comment at (drop at s) ≡ from s i)
  line_returns x h l e t u = ((h, omega arith), e ∙ comment_ends s i l (sym t ∙ u))

  pub line_again : (x : Bool) → at ≤ i → i < length s → Tokens.comment at (drop at s) ≡ Tokens.comment i (drop i s)
      → x ≡ ends_line (get_or s i 0) → x ≡ false → (at ≤ i + 1) × (i + 1 ≤ length s) × (Tokens.comment at (drop at s) ≡ Tokens.comment (i + 1) (drop (i + 1) s))
  line_again x h l e t u = (omega arith, omega arith, rw add-one (e ∙ comment_on s i l (sym t ∙ u)))

  pub line_done : at ≤ i → i ≤ length s → length s ≤ i → Tokens.comment at (drop at s) ≡ Tokens.comment i (drop i s)
      → Within s at i × (Tokens.comment at (drop at s) ≡ from s i)
  line_done h k l e = ((h, k), e ∙ comment_past s i l)

  abbrev Gone : Type 0
  Gone = (start : ℕ) (w : Bytes) → Tokens.inside start w at (drop at s) ≡ Tokens.inside start (w ++ part s at i) i (drop i s)

  pub word_returns : at ≤ i → i ≤ length s → Gone → ((start : ℕ) (w : Bytes) → Tokens.inside start w i (drop i s) ≡ token start w ∷ from s i)
      → Within s at i × RestOfWord s at i
  word_returns h l gone e = ((h, l), record { rest = λ start w. gone start w ∙ e start (w ++ part s at i) })

  pub word_again : at ≤ i → i < length s → Gone → is_part (get_or s i 0) ≡ true
      → (at ≤ i + 1) × (i + 1 ≤ length s)
      × ((start : ℕ) (w : Bytes) → Tokens.inside start w at (drop at s) ≡ Tokens.inside start (w ++ part s at (i + 1)) (i + 1) (drop (i + 1) s))
  word_again h l gone e = (
    omega arith,
    omega arith,
    λ start w. rw add-one (gone start w ∙ goes_on s i start (w ++ part s at i) l e
        ∙ ap (λ (v : Bytes). Tokens.inside start v (suc i) (drop (suc i) s)) (append_assoc w (part s at i) (get_or s i 0 ∷ []) ∙ ap (λ (r : Bytes). w ++ r) (sym (part_more s at i h l)))),
  )

pub word_starts : (s : Bytes) (at : ℕ) → Gone s at at
word_starts s at start w = ap (λ (v : Bytes). Tokens.inside start v at (drop at s)) (sym (part_none s at w))

part_first : (s : Bytes) (i r : ℕ) → i < length s → i < r → part s i r ≡ get_or s i 0 ∷ part s (suc i) r
unfolding part
part_first s i r l h =
    ap (λ (k : ℕ). take k (drop i s)) (let z : r - i ≡ suc (r - suc i) = omega arith in z) ∙ ap (take (suc (r - suc i))) (drop-cons s i 0 l)

-- White space and comments are passed.
module _ (s : Bytes) (i : ℕ) (l : i < length s) where
  pub past_white : (x : Bool) → x ≡ is_white (get_or s i 0) → x ≡ true → Within s i (i + 1) × Still s i (i + 1)
  unfolding from
  past_white x t u = ((omega arith, omega arith), record { words_same = rw add-one (from_white s i l (sym t ∙ u)); moved = λ e. absurd (omega arith) })

  from_comment : is_white (get_or s i 0) ≡ false → get_or s i 0 ≡ 59 → from s i ≡ Tokens.comment (i + 1) (drop (i + 1) s)
  unfolding from between is_comment
  from_comment e d = ap (between i) (ahead s i l) ∙ rw (e, eq-eqb (get_or s i 0) 59 d, add-one, between) refl

  pub past_comment : (x : Bool) (r : ℕ) → x ≡ is_white (get_or s i 0) → x ≡ false → get_or s i 0 ≡ 59 → Within s (i + 1) r → Tokens.comment (i + 1) (drop (i + 1) s) ≡ from s r
      → Within s i r × Still s i r
  past_comment x r t u d h e = ((omega (arith, h.0), h.1), record { words_same = from_comment (sym t ∙ u) d ∙ e; moved = λ q. absurd (omega (arith, h.0, q)) })

  pub past_none : (x : Bool) → x ≡ is_white (get_or s i 0) → x ≡ false → (get_or s i 0 ≡ 59 → ⊥) → Within s i i × Still s i i
  unfolding is_comment
  past_none x t u d = ((omega arith, omega arith), record { words_same = refl; moved = λ e. record { no_white = sym t ∙ u; no_comment = ne_eqb _ 59 d } })

  -- A parenthesis, and a word.
  pub mark_ahead : Shown s i → is_mark (get_or s i 0) ≡ true → from s i ≡ token i (part s i (suc i)) ∷ from s (suc i)
  unfolding from between
  mark_ahead sh e =
      ap (between i) (ahead s i l) ∙ rw (sh.no_white, sh.no_comment, e, between) (ap (λ (w : Bytes). token i w ∷ between (suc i) (drop (suc i) s)) (sym (part_more s i i (omega arith) l ∙ ap (λ (w : Bytes). w ++ get_or s i 0 ∷ []) (part_none s i []))))

  pub word_ahead : (r : ℕ) → Shown s i → is_mark (get_or s i 0) ≡ false → i < r → RestOfWord s (suc i) r → from s i ≡ token i (part s i r) ∷ from s r
  unfolding from between
  word_ahead r sh e h rest =
      ap (between i) (ahead s i l) ∙ rw (sh.no_white, sh.no_comment, e, between)
      (rest.rest i (get_or s i 0 ∷ []) ∙ ap (λ (w : Bytes). token i w ∷ from s r) (sym (part_first s i r l h)))

-- The loop over them.
module _ (s : Bytes) (at i : ℕ) where
  pub blank_returns : (j : ℕ) → at ≤ i → i < length s → from s at ≡ from s i → Still s i j → j ≡ i → Within s at i × Blank s at i
  blank_returns j h l e still d = ((h, omega arith), record { words_same = e; shown = λ _. still.moved d })

  pub blank_again : (j : ℕ) → at ≤ i → from s at ≡ from s i → Within s i j × Still s i j → (at ≤ j) × (j ≤ length s) × (from s at ≡ from s j)
  blank_again j h e p = (omega (arith, p.0.0), p.0.1, e ∙ p.1.words_same)

  pub blank_done : at ≤ i → i ≤ length s → length s ≤ i → from s at ≡ from s i → Within s at i × Blank s at i
  blank_done h k l e = ((h, k), record { words_same = e; shown = λ x. absurd (omega arith) })

-- The next word.
module _ (s : Bytes) (at i : ℕ) (h : Within s at i × Blank s at i) where
  pub next_none : length s ≤ i → from s at ≡ []
  unfolding from between
  next_none l = h.1.words_same ∙ ap (between i) (drop_of_length-le s l)

  pub next_mark : (x : Bool) → i < length s → x ≡ is_mark (get_or s i 0) → x ≡ true
      → (at ≤ i) × (i < i + 1) × (i + 1 ≤ length s) × (from s at ≡ token i (part s i (i + 1)) ∷ from s (i + 1))
  next_mark x l t u = (h.0.0, omega arith, omega arith, rw add-one (h.1.words_same ∙ mark_ahead s i l (h.1.shown l) (sym t ∙ u)))

  pub next_plain : (x : Bool) (r : ℕ) → i < length s → x ≡ is_mark (get_or s i 0) → x ≡ false → Within s (i + 1) r × RestOfWord s (i + 1) r
      → (at ≤ i) × (i < r) × (r ≤ length s) × (from s at ≡ token i (part s i r) ∷ from s r)
  next_plain x r l t u p = (
    h.0.0,
    omega (arith, p.0.0),
    p.0.1,
    h.1.words_same ∙ word_ahead s i l r (h.1.shown l) (sym t ∙ u) (omega (arith, p.0.0)) (rw add-one at p.1),
  )

pub past_end : (s : Bytes) (at : ℕ) → length s ≤ at → from s at ≡ []
unfolding from between
past_end s at l = ap (between at) (drop_of_length-le s l)
