-- Names noted, and branch names ahead.
-- Assumes nothing.
use Rattle.std.specs.Prelude.{if◌then◌else◌, Option, Some, None, ◌⊎◌}
use Rattle.std.proofs.Common.{inl, inr}
use mathlib.Core.Path.{◌≡◌, refl, sym, ap, ap₂, subst, ◌∙◌}
use mathlib.Core.Bool.{Bool, true, false}
use mathlib.Core.List.{List, [], ◌∷◌}
use Prim.Native.Nat.{ℕ, zero, suc, ◌+◌, ◌-◌, ◌*◌, ◌≤◌, ◌<◌}
use native.Mathlib.Omega.{arith}
use lib.Dec.{eqb, ltb, leb}
use lib.ListN.{length, get_or, set, length-set}
use lib.Seq.{get_or-set_same, get_or-set_other}
use borrow.Author.Tests.{ne_eqb, eqb-true, eqb-false, ltb-true, lt-ltb, le-ltb, le-leb, lt-leb}
use Rattle.rules.specs.Bytes.{Bytes, ◌and◌, ◌or◌}
use Rattle.texts.specs.Tokens.{Token, token, from, part, tokens}
use Rattle.texts.specs.Spelled.{same, is_among}
use Rattle.texts.specs.Spelling.{open₀, kind_word}
use Rattle.texts.specs.Reader.{branch_names, opened, named}
use Rattle.tokens.specs.Ahead.{Ahead}
use Rattle.tokens.specs.declared.Span.{Span}
use Rattle.spell.specs.Vocabulary.{listed}
use Rattle.labels.specs.Noted.{named_by, name_at, noted_names, names_in, put_name, noted, noted_if, Known}
use Rattle.labels.specs.Awaited.{awaited, names_ahead}

-- The name between two numbers.
module _ (text : Bytes) (s e : ℕ) where
  pub named_part : s ≤ e → e ≤ length text → named_by text s e ≡ part text s e
  unfolding named_by ◌and◌
  named_part h k = rw (le-leb s e h, le-leb e (length text) k) refl

  pub named_back : e < s → named_by text s e ≡ []
  unfolding named_by ◌and◌
  named_back h = rw (lt-leb s e h) refl

  pub named_none : (e < s) ⊎ (length text < e) → named_by text s e ≡ []
  unfolding named_by ◌and◌
  named_none (inl h) = named_back h
  named_none (inr k) = go (leb s e) (leb e (length text)) (lt-leb e (length text) k)
    where
      go : (x y : Bool) → y ≡ false → (if x and y then part text s e else []) ≡ []
      go true y q = rw q refl
      go false y q = refl

-- Among the names noted: name i, or those before it.
module _ (text w : Bytes) (t : List ℕ) (base i : ℕ) where
  noted_here : same w (name_at text t base i) ≡ true → is_among w (noted_names text t base (suc i)) ≡ true
  unfolding noted_names is_among
  noted_here e = rw (e, is_among) refl

  noted_before : same w (name_at text t base i) ≡ false → is_among w (noted_names text t base (suc i)) ≡ is_among w (noted_names text t base i)
  unfolding noted_names is_among
  noted_before e = rw (e, is_among) refl

module _ (text w : Bytes) (t : List ℕ) (base i : ℕ) (h : 0 < i) where
  one_less : suc (i - 1) ≡ i
  one_less = omega arith

  pub noted_at : same w (name_at text t base (i - 1)) ≡ true → is_among w (noted_names text t base i) ≡ true
  noted_at e = ap (λ (k : ℕ). is_among w (noted_names text t base k)) (sym one_less) ∙ noted_here text w t base (i - 1) e

  pub noted_on : same w (name_at text t base (i - 1)) ≡ false → is_among w (noted_names text t base i) ≡ is_among w (noted_names text t base (i - 1))
  noted_on e = ap (λ (k : ℕ). is_among w (noted_names text t base k)) (sym one_less) ∙ noted_before text w t base (i - 1) e

pub none_noted : (text w : Bytes) (t : List ℕ) (base : ℕ) → is_among w (noted_names text t base 0) ≡ false
unfolding noted_names is_among
none_noted text w t base = refl

-- Tables that agree have the same names.
names_agree : (text : Bytes) (t t' : List ℕ) (base n : ℕ) → ((j : ℕ) → j ≤ 2 * n → 0 < j → get_or t' (base + j) 0 ≡ get_or t (base + j) 0)
    → noted_names text t' base n ≡ noted_names text t base n
unfolding noted_names name_at
names_agree text t t' base zero h = refl
names_agree text t t' base (suc n) h =
    ap₂ (λ (x : ℕ) (y : ℕ). named_by text x y ∷ noted_names text t' base n) (at (2 * n + 1) (base + 2 * n + 1) (omega arith) (omega arith) (omega arith)) (at (2 * n + 2) (base + 2 * n + 2) (omega arith) (omega arith) (omega arith))
    ∙ ap (λ (ns : List Bytes). named_by text (get_or t (base + 2 * n + 1) 0) (get_or t (base + 2 * n + 2) 0) ∷ ns) (names_agree text t t' base n (λ j l p. h j (omega arith) p))
  where
    at : (j k : ℕ) → base + j ≡ k → j ≤ 2 * suc n → 0 < j → get_or t' k 0 ≡ get_or t k 0
    at j k e l p = ap (λ (i : ℕ). get_or t' i 0) (sym e) ∙ h j l p ∙ ap (λ (i : ℕ). get_or t i 0) e

pub names_same : (text : Bytes) (t t' : List ℕ) (base : ℕ) → ((j : ℕ) → j ≤ 2 * get_or t base 0 → get_or t' (base + j) 0 ≡ get_or t (base + j) 0)
    → names_in text t' base ≡ names_in text t base
unfolding names_in
names_same text t t' base h =
    ap (noted_names text t' base) (ap (λ (i : ℕ). get_or t' i 0) (let z : base ≡ base + 0 = omega arith in z) ∙ h 0 (omega arith) ∙ ap (λ (i : ℕ). get_or t i 0) (let z : base + 0 ≡ base = omega arith in z))
    ∙ names_agree text t t' base (get_or t base 0) (λ j l p. h j l)

-- One name more.
module _ (t : List ℕ) (base n s e : ℕ) where
  put_other : (k : ℕ) → (k ≡ base → ⊥) → (k ≡ base + 2 * n + 1 → ⊥) → (k ≡ base + 2 * n + 2 → ⊥) → get_or (put_name t base n s e) k 0 ≡ get_or t k 0
  unfolding put_name
  put_other k f g h = get_or-set_other (set (set t (base + 2 * n + 1) s) (base + 2 * n + 2) e) base k (n + 1) 0 f ∙ get_or-set_other (set t (base + 2 * n + 1) s) (base + 2 * n + 2) k e 0 h ∙ get_or-set_other t (base + 2 * n + 1) k s 0 g

  pub length_put_name : length (put_name t base n s e) ≡ length t
  unfolding put_name
  length_put_name = length-set (set (set t (base + 2 * n + 1) s) (base + 2 * n + 2) e) base (n + 1) ∙ length-set (set t (base + 2 * n + 1) s) (base + 2 * n + 2) e ∙ length-set t (base + 2 * n + 1) s

  module _ (room : n < 1008) (fits : base + 2017 ≤ length t) where
    put_count : get_or (put_name t base n s e) base 0 ≡ n + 1
    unfolding put_name
    put_count = get_or-set_same (set (set t (base + 2 * n + 1) s) (base + 2 * n + 2) e) base (n + 1) 0 (omega (arith, length-set (set t (base + 2 * n + 1) s) (base + 2 * n + 2) e, length-set t (base + 2 * n + 1) s))

    put_start : get_or (put_name t base n s e) (base + 2 * n + 1) 0 ≡ s
    unfolding put_name
    put_start = get_or-set_other (set (set t (base + 2 * n + 1) s) (base + 2 * n + 2) e) base (base + 2 * n + 1) (n + 1) 0 (omega arith) ∙ get_or-set_other (set t (base + 2 * n + 1) s) (base + 2 * n + 2) (base + 2 * n + 1) e 0 (omega arith) ∙ get_or-set_same t (base + 2 * n + 1) s 0 (omega arith)

    put_end : get_or (put_name t base n s e) (base + 2 * n + 2) 0 ≡ e
    unfolding put_name
    put_end = get_or-set_other (set (set t (base + 2 * n + 1) s) (base + 2 * n + 2) e) base (base + 2 * n + 2) (n + 1) 0 (omega arith) ∙ get_or-set_same (set t (base + 2 * n + 1) s) (base + 2 * n + 2) e 0 (omega (arith, length-set t (base + 2 * n + 1) s))

    put_names : (text : Bytes) → noted_names text (put_name t base n s e) base (suc n) ≡ named_by text s e ∷ noted_names text t base n
    unfolding noted_names name_at
    put_names text =
        ap₂ (λ (x : ℕ) (y : ℕ). named_by text x y ∷ noted_names text (put_name t base n s e) base n) put_start put_end
        ∙ ap (λ (ns : List Bytes). named_by text s e ∷ ns) (names_agree text t (put_name t base n s e) base n (λ j l p. put_other (base + j) (omega arith) (omega arith) (omega arith)))

-- What note leaves: the name before the others; the count; every other table; the length.
module _ (t : List ℕ) (base s e : ℕ) (room : get_or t base 0 < 1008) (fits : base + 2017 ≤ length t) where
  pub noted_names_lem : (text : Bytes) → names_in text (noted t base s e) base ≡ named_by text s e ∷ names_in text t base
  unfolding names_in noted
  noted_names_lem text =
      ap (noted_names text (put_name t base (get_or t base 0) s e) base) (put_count t base (get_or t base 0) s e room fits ∙ (let z : get_or t base 0 + 1 ≡ suc (get_or t base 0) = omega arith in z))
      ∙ put_names t base (get_or t base 0) s e room fits text

  pub noted_count : get_or (noted t base s e) base 0 ≡ get_or t base 0 + 1
  unfolding noted
  noted_count = put_count t base (get_or t base 0) s e room fits

  pub noted_length : length (noted t base s e) ≡ length t
  unfolding noted
  noted_length = length_put_name t base (get_or t base 0) s e

  pub noted_other : (k : ℕ) → (base ≤ k → k < base + 2017 → ⊥) → get_or (noted t base s e) k 0 ≡ get_or t k 0
  unfolding noted
  noted_other k f =
      put_other t base (get_or t base 0) s e k (λ q. f (omega arith) (omega arith)) (λ q. f (omega arith) (omega arith)) (λ q. f (omega arith) (omega arith))

  pub noted_after : (text : Bytes) (base' : ℕ) → get_or t base' 0 ≤ 1008 → base + 2017 ≤ base' → names_in text (noted t base s e) base' ≡ names_in text t base'
  noted_after text base' small h = names_same text t (noted t base s e) base' (λ j l. noted_other (base' + j) (λ a b. omega arith))

  pub noted_before' : (text : Bytes) (base' : ℕ) → get_or t base' 0 ≤ 1008 → base' + 2017 ≤ base → names_in text (noted t base s e) base' ≡ names_in text t base'
  noted_before' text base' small h = names_same text t (noted t base s e) base' (λ j l. noted_other (base' + j) (λ a b. omega arith))

-- Word by word: the names ahead are those behind the next word, and that word itself where a name was awaited.
module _ (state at : ℕ) (w : Bytes) (ts : List Token) where
  awaits_name : state ≡ 2 → names_ahead state (token at w ∷ ts) ≡ w ∷ names_ahead (awaited state w) ts
  unfolding names_ahead awaited named ◌and◌ token
  awaits_name e = rw e (go (same w open₀))
    where
      go : (b : Bool) → w ∷ elim b [ true ↦ opened ts | false ↦ branch_names ts ] ≡ w ∷ names_ahead (if b then 1 else 0) ts
      go true = refl
      go false = refl

  awaits_none : (state ≡ 2 → ⊥) → names_ahead state (token at w ∷ ts) ≡ names_ahead (awaited state w) ts
  unfolding names_ahead awaited opened branch_names ◌and◌ token
  awaits_none d = rw (ne_eqb state 2 d) (go (eqb state 1) (same w (kind_word 9)) (same w open₀))
    where
      go : (a b c : Bool)
          → (if a
          then elim b [ true ↦ named ts | false ↦ elim c [ true ↦ opened ts | false ↦ branch_names ts ] ]
          else elim c [ true ↦ opened ts | false ↦ branch_names ts ])
          ≡ names_ahead (if a and b then 2 else if c then 1 else 0) ts
      go true true c = refl
      go true false true = refl
      go true false false = refl
      go false b true = refl
      go false b false = refl

-- A loop over the words: none is left, the next is the word, or it is not.
module _ (text w : Bytes) (state at : ℕ) where
  pub ahead_none : (r : Option Span) → Ahead text at r → r ≡ None → is_among w (names_ahead state (from text at)) ≡ false
  unfolding names_ahead opened named branch_names is_among
  ahead_none r a e = ap (λ (ts : List Token). is_among w (names_ahead state ts)) (subst (Ahead text at) e a) ∙ go (eqb state 1) (eqb state 2)
    where
      go : (x y : Bool) → is_among w (if x then opened [] else if y then named [] else branch_names []) ≡ false
      go true y = refl
      go false true = refl
      go false false = refl

  module _ (r : Option Span) (a : Ahead text at r) (v : Span) (e : r ≡ Some v) where
    pub word_ahead : (at ≤ v.first) × (v.first < v.end) × (v.end ≤ length text) × (from text at ≡ token v.first (part text v.first v.end) ∷ from text v.end)
    word_ahead = subst (Ahead text at) e a

    pub ahead_here : state ≡ 2 → same w (part text v.first v.end) ≡ true → is_among w (names_ahead state (from text at)) ≡ true
    unfolding is_among
    ahead_here d t =
        ap (λ (ts : List Token). is_among w (names_ahead state ts)) word_ahead.3
        ∙ ap (is_among w) (awaits_name state v.first (part text v.first v.end) (from text v.end) d)
        ∙ rw (t, is_among) refl

    pub ahead_other : (state ≡ 2 → ⊥) → is_among w (names_ahead state (from text at)) ≡ is_among w (names_ahead (awaited state (part text v.first v.end)) (from text v.end))
    ahead_other d =
        ap (λ (ts : List Token). is_among w (names_ahead state ts)) word_ahead.3
        ∙ ap (is_among w) (awaits_none state v.first (part text v.first v.end) (from text v.end) d)

    pub ahead_next : state ≡ 2 → same w (part text v.first v.end) ≡ false → is_among w (names_ahead state (from text at)) ≡ is_among w (names_ahead (awaited state (part text v.first v.end)) (from text v.end))
    unfolding is_among
    ahead_next d f =
        ap (λ (ts : List Token). is_among w (names_ahead state ts)) word_ahead.3
        ∙ ap (is_among w) (awaits_name state v.first (part text v.first v.end) (from text v.end) d)
        ∙ rw (f, is_among) refl

pub names_ahead_lem : (text : Bytes) → branch_names (tokens text) ≡ names_ahead 0 (from text 0)
unfolding names_ahead from tokens
names_ahead_lem text = refl

-- What is awaited next.
module _ (state : ℕ) (w : Bytes) where
  pub awaits_two : state ≡ 1 → same w (listed 9) ≡ true → awaited state w ≡ 2
  unfolding awaited listed ◌and◌
  awaits_two d e = rw (d, e) refl

  pub awaits_mark : (state ≡ 1 → ⊥) ⊎ (same w (listed 9) ≡ false) → awaited state w ≡ (if same w (40 ∷ []) then 1 else 0)
  unfolding awaited listed ◌and◌
  awaits_mark (inl d) = rw (ne_eqb state 1 d) refl
  awaits_mark (inr e) = go (eqb state 1) (same w (kind_word 9)) e
    where
      go : (x y : Bool) → y ≡ false → ◌≡◌ {A = ℕ} (if x and y then 2 else if same w open₀ then 1 else 0) (if same w open₀ then 1 else 0)
      go true y q = rw q refl
      go false y q = refl

-- Noting all branch names: what is noted, and what is ahead.
pub record Noting (text : Bytes) (t : List ℕ) (state at : ℕ) : Type 0 where
  pub long : 2017 ≤ length t
  pub so_far : get_or t 0 0 < 1009 → (w : Bytes) → (is_among w (names_in text t 0) or is_among w (names_ahead state (from text at))) ≡ is_among w (branch_names (tokens text))

pub noting_starts : (text t : Bytes) → length t ≡ 2017 → Noting text (set t 0 0) 0 0
unfolding names_in noted_names is_among ◌or◌
noting_starts text t l = record {
  long = omega (arith, length-set t 0 0);
  so_far = λ h w. ap (λ (n : ℕ). is_among w (noted_names text (set t 0 0) 0 n) or is_among w (names_ahead 0 (from text 0))) none ∙ ap (is_among w) (sym (names_ahead_lem text));
}
  where
    none : get_or (set t 0 0) 0 0 ≡ 0
    none = get_or-set_same t 0 0 0 (omega arith)

or_none : (x y : Bool) → y ≡ false → (x or y) ≡ x
unfolding ◌or◌
or_none true y q = refl
or_none false y q = q

pub noting_ends : (text : Bytes) (t : List ℕ) (state at : ℕ) (r : Option Span) → Ahead text at r → r ≡ None → Noting text t state at → Known text t
noting_ends text t state at r a e n = record {
  long = n.long;
  known = λ h w. sym (or_none (is_among w (names_in text t 0)) (is_among w (names_ahead state (from text at))) (ahead_none text w state at r a e)) ∙ n.so_far h w;
}

-- One word more.
swap : (w v : Bytes) (ns rest : List Bytes) → (is_among w (v ∷ ns) or is_among w rest) ≡ (is_among w ns or is_among w (v ∷ rest))
unfolding is_among ◌or◌
swap w v ns rest = go (same w v) (is_among w ns) (is_among w rest)
  where
    go : (x y z : Bool) → ((elim x [ true ↦ true | false ↦ y ]) or z) ≡ (y or (elim x [ true ↦ true | false ↦ z ]))
    go true true z = refl
    go true false z = refl
    go false y z = refl

module _ (text : Bytes) (t : List ℕ) (state at : ℕ) (r : Option Span) (a : Ahead text at r) (v : Span) (e : r ≡ Some v) (n : Noting text t state at) where
  ahead : (at ≤ v.first) × (v.first < v.end) × (v.end ≤ length text) × (from text at ≡ token v.first (part text v.first v.end) ∷ from text v.end)
  ahead = word_ahead text [] state at r a v e

  passed : (state ≡ 2 → ⊥) → Noting text t (awaited state (part text v.first v.end)) v.end
  passed d = record {
    long = n.long;
    so_far = λ h w. ap (λ (ts : List Bytes). is_among w (names_in text t 0) or is_among w ts) (sym (awaits_none state v.first (part text v.first v.end) (from text v.end) d) ∙ ap (names_ahead state) (sym ahead.3)) ∙ n.so_far h w;
  }

  added : state ≡ 2 → get_or t 0 0 < 1008 → Noting text (noted t 0 v.first v.end) (awaited state (part text v.first v.end)) v.end
  added d l = record {
    long = omega (arith, n.long, noted_length t 0 v.first v.end l (omega (arith, n.long)));
    so_far = λ h w.
        ap (λ (ns : List Bytes). is_among w ns or is_among w (names_ahead (awaited state (part text v.first v.end)) (from text v.end)))
        (noted_names_lem t 0 v.first v.end l (omega (arith, n.long)) text ∙ ap (λ (x : Bytes). x ∷ names_in text t 0) (named_part text v.first v.end (omega (arith, ahead.1)) ahead.2))
        ∙ swap w (part text v.first v.end) (names_in text t 0) (names_ahead (awaited state (part text v.first v.end)) (from text v.end))
        ∙ ap (λ (ts : List Bytes). is_among w (names_in text t 0) or is_among w ts) (sym (awaits_name state v.first (part text v.first v.end) (from text v.end) d) ∙ ap (names_ahead state) (sym ahead.3))
        ∙ n.so_far (omega arith) w;
  }

  full : Noting text (set t 0 1009) (awaited state (part text v.first v.end)) v.end
  full = let z : get_or (set t 0 1009) 0 0 ≡ 1009 = get_or-set_same t 0 1009 0 (omega (arith, n.long)) in record {
    long = omega (arith, n.long, length-set t 0 1009);
    so_far = λ h w. absurd (omega (arith, z, h));
  }

  inner : (y : Bool) → ltb (get_or t 0 0) 1008 ≡ y → state ≡ 2 → Noting text (if y then noted t 0 v.first v.end else set t 0 1009) (awaited state (part text v.first v.end)) v.end
  inner true q d = added d (ltb-true (get_or t 0 0) 1008 q)
  inner false q d = full

  by_flag : (x : Bool) → eqb state 2 ≡ x → Noting text (noted_if x t v.first v.end) (awaited state (part text v.first v.end)) v.end
  unfolding noted_if
  by_flag true q = inner (ltb (get_or t 0 0) 1008) refl (eqb-true state 2 q)
  by_flag false q = passed (eqb-false state 2 q)

  pub noting_on : Noting text (noted_if (eqb state 2) t v.first v.end) (awaited state (part text v.first v.end)) v.end
  noting_on = by_flag (eqb state 2) refl

-- The three ways of noting, if it is wanted.
module _ (b : Bool) (t : List ℕ) (s e : ℕ) where
  pub if_unwanted : b ≡ false → t ≡ noted_if b t s e
  unfolding noted_if
  if_unwanted q = rw q refl

  pub if_room : b ≡ true → get_or t 0 0 < 1008 → noted t 0 s e ≡ noted_if b t s e
  unfolding noted_if
  if_room q l = rw (q, lt-ltb (get_or t 0 0) 1008 l) refl

  pub if_full : b ≡ true → 1008 ≤ get_or t 0 0 → set t 0 1009 ≡ noted_if b t s e
  unfolding noted_if
  if_full q l = rw (q, le-ltb (get_or t 0 0) 1008 l) refl

pub noted_none : (text w : Bytes) (t : List ℕ) (base i : ℕ) → i ≤ 0 → is_among w (noted_names text t base i) ≡ false
noted_none text w t base i l = ap (λ (k : ℕ). is_among w (noted_names text t base k)) (let z : i ≡ 0 = omega arith in z) ∙ none_noted text w t base

pub state_is : (text w v : Bytes) (state state' at : ℕ) → state' ≡ awaited state v → is_among w (names_ahead (awaited state v) (from text at)) ≡ is_among w (names_ahead state' (from text at))
state_is text w v state state' at e = ap (λ (k : ℕ). is_among w (names_ahead k (from text at))) (sym e)

pub noting_next : (text : Bytes) (t : List ℕ) (state at : ℕ) (r : Option Span) → Ahead text at r → (v : Span) → r ≡ Some v → Noting text t state at
    → (t' : List ℕ) → t' ≡ noted_if (eqb state 2) t v.first v.end → (state' : ℕ) → state' ≡ awaited state (part text v.first v.end) → Noting text t' state' v.end
noting_next text t state at r a v e n t' z state' y =
    subst (λ (k : ℕ). Noting text t' k v.end) (sym y) (subst (λ (u : List ℕ). Noting text u (awaited state (part text v.first v.end)) v.end) (sym z) (noting_on text t state at r a v e n))
