-- The words of a text that is laid out in pieces are the pieces' words.
-- Assumes nothing.
use mathlib.Core.Path.{◌≡◌, refl, sym, ap, ◌∙◌}
use mathlib.Core.Bool.{Bool, true, false}
use mathlib.Core.List.{List, [], ◌∷◌, ◌++◌, append_assoc, append-nil}
use Prim.Native.Nat.{ℕ, suc}
use Rattle.rules.specs.Bytes.{Bytes, ◌or◌}
use Rattle.texts.specs.Tokens as Tokens
use Rattle.texts.specs.Tokens.{token, is_white, ends_line, is_comment, is_mark}
use Rattle.texts.specs.Printer.{Piece, laid}
use Rattle.texts.proofs.Gives.{words}
use Rattle.texts.proofs.ValueLaws.{spellings}

-- White bytes; and bytes of a word.
pub data White : Bytes → Type 0 where
  no_white : White []
  white_more : {b : ℕ} {bs : Bytes} → is_white b ≡ true → White bs → White (b ∷ bs)

pub record Part (b : ℕ) : Type 0 where
  pub not_white : is_white b ≡ false
  pub not_comment : is_comment b ≡ false
  pub not_mark : is_mark b ≡ false

pub data Parts : Bytes → Type 0 where
  no_part : Parts []
  part_more : {b : ℕ} {bs : Bytes} → Part b → Parts bs → Parts (b ∷ bs)

pub record Mark (b : ℕ) : Type 0 where
  pub not_white : is_white b ≡ false
  pub not_comment : is_comment b ≡ false
  pub is_mark_lem : is_mark b ≡ true

-- Pieces that stay apart; the flag says that a word stands right before them.
pub data Apart : Bool → List Piece → Type 0 where
  apart_end : {after : Bool} → Apart after []
  apart_mark : {after : Bool} {before : Bytes} {b : ℕ} {xs : List Piece} → White before → Mark b → Apart false xs
      → Apart after (record { before = before; word = b ∷ [] } ∷ xs)
  apart_spaced : {after : Bool} {c b : ℕ} {cs bs : Bytes} {xs : List Piece} → is_white c ≡ true → White cs → Part b → Parts bs → Apart true xs
      → Apart after (record { before = c ∷ cs; word = b ∷ bs } ∷ xs)
  apart_tight : {b : ℕ} {bs : Bytes} {xs : List Piece} → Part b → Parts bs → Apart true xs → Apart false (record { before = []; word = b ∷ bs } ∷ xs)

-- Between words white space is passed; in a word its bytes are.
pass_white : (cs : Bytes) → White cs → (i : ℕ) (rest : Bytes) → (j : ℕ) × (Tokens.between i (cs ++ rest) ≡ Tokens.between j rest)
unfolding Tokens.between
pass_white [] no_white i rest = (i, refl)
pass_white (c ∷ cs) (white_more e w) i rest =
    let p = pass_white cs w (suc i) rest in
    (p.0, rw (e, Tokens.between) p.1)

pass_word : (bs : Bytes) → Parts bs → (start i : ℕ) (w rest : Bytes) → (j : ℕ) × (Tokens.inside start w i (bs ++ rest) ≡ Tokens.inside start (w ++ bs) j rest)
unfolding Tokens.between
pass_word [] no_part start i w rest = (i, ap (λ (v : Bytes). Tokens.inside start v i rest) (sym (append-nil w)))
pass_word (b ∷ bs) (part_more p ps) start i w rest =
    let r = pass_word bs ps start (suc i) (w ++ b ∷ []) rest in
    (r.0, rw (p.not_white, p.not_comment, p.not_mark, Tokens.inside) r.1 ∙ ap (λ (v : Bytes). Tokens.inside start v r.0 rest) (append_assoc w (b ∷ []) bs))

-- What is shown of pieces: between words, and in a word.
abbrev pub Says : Bool → List Piece → Type 0
Says false xs = (i : ℕ) → words (Tokens.between i (laid xs)) ≡ spellings xs
Says true xs = (start i : ℕ) (w : Bytes) → words (Tokens.inside start w i (laid xs)) ≡ w ∷ spellings xs

end_says : (after : Bool) → Says after []
unfolding Tokens.between laid is_white ends_line ◌or◌ token
end_says false = λ i. refl
end_says true = λ start i w. refl

abbrev piece : Bytes → Bytes → Piece
piece before w = record { before = before; word = w }

-- Behind the white space before a piece.
piece_white : (before w : Bytes) (xs : List Piece) → White before → (i : ℕ) → (j : ℕ) × (Tokens.between i (laid (piece before w ∷ xs)) ≡ Tokens.between j (w ++ laid xs))
unfolding laid
piece_white before w xs e i =
    let p = pass_white before e i (w ++ laid xs) in
    (p.0, ap (Tokens.between i) (append_assoc before w (laid xs)) ∙ p.1)

mark_between : (before : Bytes) (b : ℕ) (xs : List Piece) → White before → Mark b → Says false xs → Says false (piece before (b ∷ []) ∷ xs)
unfolding Tokens.between token
mark_between before b xs e m says i =
    let p = piece_white before (b ∷ []) xs e i in
    ap words p.1 ∙ rw (m.not_white, m.not_comment, m.is_mark_lem, Tokens.between) (ap {B = List Bytes} (λ r. (b ∷ []) ∷ r) (says (suc p.0)))

mark_says : (after : Bool) (before : Bytes) (b : ℕ) (xs : List Piece) → White before → Mark b → Says false xs → Says after (piece before (b ∷ []) ∷ xs)
unfolding Tokens.between laid token
mark_says false before b xs e m says = λ i. mark_between before b xs e m says i
mark_says true [] b xs no_white m says = λ start i w.
    rw (m.not_white, m.not_comment, m.is_mark_lem, Tokens.inside) (ap {B = List Bytes} (λ r. w ∷ (b ∷ []) ∷ r) (says (suc i)))
mark_says true (c ∷ cs) b xs (white_more e es) m says = λ start i w.
    rw (e, Tokens.inside) (ap {B = List Bytes} (λ r. w ∷ r) (mark_between cs b xs es m says (suc i)))

word_between : (before : Bytes) (b : ℕ) (bs : Bytes) (xs : List Piece) → White before → Part b → Parts bs → Says true xs → Says false (piece before (b ∷ bs) ∷ xs)
unfolding Tokens.between
word_between before b bs xs e p ps says i =
    let r = piece_white before (b ∷ bs) xs e i in
    let v = pass_word bs ps r.0 (suc r.0) (b ∷ []) (laid xs) in
    ap words r.1 ∙ rw (p.not_white, p.not_comment, p.not_mark, Tokens.between) (ap words v.1 ∙ says r.0 v.0 (b ∷ bs))

spaced_says : (after : Bool) (c b : ℕ) (cs bs : Bytes) (xs : List Piece) → is_white c ≡ true → White cs → Part b → Parts bs → Says true xs → Says after (piece (c ∷ cs) (b ∷ bs) ∷ xs)
unfolding Tokens.between laid token
spaced_says false c b cs bs xs e es p ps says = λ i. word_between (c ∷ cs) b bs xs (white_more e es) p ps says i
spaced_says true c b cs bs xs e es p ps says = λ start i w.
    rw (e, Tokens.inside) (ap {B = List Bytes} (λ r. w ∷ r) (word_between cs b bs xs es p ps says (suc i)))

pub says : {after : Bool} {xs : List Piece} → Apart after xs → Says after xs
says (apart_end {after = a}) = end_says a
says (apart_mark {after = a} {before = cs} {b = b} {xs = xs} w m rest) = mark_says a cs b xs w m (says rest)
says (apart_spaced {after = a} {c = c} {b = b} {cs = cs} {bs = bs} {xs = xs} e w p ps rest) = spaced_says a c b cs bs xs e w p ps (says rest)
says (apart_tight {b = b} {bs = bs} {xs = xs} p ps rest) = word_between [] b bs xs no_white p ps (says rest)
