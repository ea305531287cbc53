-- A text's edition, its node and its end, put together.
-- Assumes nothing.
use Rattle.std.specs.Prelude.{Option, Some, None, ℕ}
use mathlib.Core.Path.{◌≡◌, refl, sym, ap, subst, ◌∙◌}
use mathlib.Core.List.{List, [], ◌∷◌}
use Prim.Native.Nat.{ℕ, zero, suc, ◌-◌, ◌<◌}
use native.Mathlib.Omega.{arith}
use lib.ListN.{length, get_or, set, replicate, length-set, length-replicate}
use lib.Seq.{get_or-set_same, get_or-set_other}
use Rattle.rules.specs.Bytes.{Bytes}
use Rattle.rules.specs.declared.Field.TheVariants.{Signal}
use Rattle.texts.specs.Spelled.{same}
use Rattle.texts.specs.Spelling.{edition_named, edition_word}
use Rattle.texts.specs.Tokens.{Token, token, tokens, from, part}
use Rattle.texts.specs.Rows.{Sofar, at_start, Got, got, stopped, ◌onward◌}
use Rattle.texts.specs.Steps.{next}
use Rattle.texts.specs.Reader.{branch_names, node_f, title, ended, reading, read_text}
use Rattle.texts.proofs.Yields.{first_passes}
use Rattle.texts.specs.declared.Unread.{Unread}
use Rattle.texts.specs.declared.Unread.TheVariants.{Word}
use Rattle.std.specs.Prelude.{Result, Ok, Err}
use Rattle.phrases.specs.declared.Read.{Read}
use Rattle.phrases.specs.Gave.{gave, number, Below, with_names}
use Rattle.labels.specs.Noted.{noted_names, names_in}
use Rattle.reader.specs.Held.{past_in, sofar_in, why_in, gave_in, Ready}
use Rattle.reader.specs.Held.{rows_in as rowsHeld, places_in as placesHeld}
use Rattle.reading.specs.Given.{Fresh, Rowed, RowsOf}
use Rattle.reading.proofs.RowsLaws.{rows_held, starts_held}

-- The first word.
module _ (text : Bytes) where
  here : from text 0 ≡ tokens text
  unfolding from tokens
  here = refl

  abbrev first_title : List Token → Got ℕ
  first_title ts = title (length text) ts at_start

  pub title_none : from text 0 ≡ [] → stopped (Word (length text)) ≡ title (length text) (tokens text) at_start
  unfolding title next ◌onward◌ tokens
  title_none e = sym (ap first_title (sym here ∙ e))

  abbrev word_title : Token → List Token → Option ℕ → Got ℕ
  word_title t ts p = elim p [ Some e ↦ got e ts at_start | None ↦ stopped (Word t.at) ]

  module _ (start end : ℕ) (e : from text 0 ≡ token start (part text start end) ∷ from text end) {p : Option ℕ} (q : p ≡ edition_named (part text start end)) where
    title_by : word_title (token start (part text start end)) (from text end) p ≡ title (length text) (tokens text) at_start
    unfolding title next ◌onward◌ token
    title_by = ap (word_title (token start (part text start end)) (from text end)) q ∙ sym (ap first_title (sym here ∙ e))

    pub title_at : {k : ℕ} → p ≡ Some k → got k (from text end) at_start ≡ title (length text) (tokens text) at_start
    title_at f = sym (ap (word_title (token start (part text start end)) (from text end)) f) ∙ title_by

    pub title_nowhere : p ≡ None → stopped (Word start) ≡ title (length text) (tokens text) at_start
    unfolding token
    title_nowhere f = sym (ap (word_title (token start (part text start end)) (from text end)) f) ∙ title_by

-- An edition is 0 or 1.
pub edition_small : (w : Bytes) {p : Option ℕ} {k : ℕ} → p ≡ edition_named w → p ≡ Some k → k < 256
unfolding edition_named
edition_small w {k = k} q f = omega (arith, (first_passes (λ e. same w (edition_word e)) 2 k (sym q ∙ f)).1)

-- The end.
pub ended_none : (text : Bytes) (e at : ℕ) → from text at ≡ [] → (so : Sofar) → got e (from text at) so ≡ ended e (from text at) so
unfolding ended
ended_none text e at q so = ap (λ (ts : List Token). got e ts so) q ∙ sym (ap (λ (ts : List Token). ended e ts so) q)

pub ended_more : (text : Bytes) (e at start end : ℕ) → from text at ≡ token start (part text start end) ∷ from text end → (so : Sofar)
    → stopped (Word start) ≡ ended e (from text at) so
unfolding ended token
ended_more text e at start end q so = sym (ap (λ (ts : List Token). ended e ts so) q)

-- Edition, node, end.
module _ (text : Bytes) where
  abbrev behind_node : ℕ → ℕ → List Token → Sofar → Got ℕ
  behind_node e n rest so = ended e rest so

  abbrev behind_title : ℕ → List Token → Sofar → Got ℕ
  behind_title e rest so = node_f 1009 (branch_names (tokens text)) (length text) Signal rest so onward behind_node e

  whole : read_text text ≡ (title (length text) (tokens text) at_start onward behind_title)
  unfolding read_text reading
  whole = refl

  pub stopped_first : {why : Unread} → stopped why ≡ title (length text) (tokens text) at_start → read_text text ≡ stopped why
  unfolding ◌onward◌
  stopped_first e = whole ∙ sym (ap (λ (g : Got ℕ). g onward behind_title) e)

  module _ (e at : ℕ) (t : got e (from text at) at_start ≡ title (length text) (tokens text) at_start) where
    from_title : read_text text ≡ (node_f 1009 (branch_names (tokens text)) (length text) Signal (from text at) at_start onward behind_node e)
    unfolding ◌onward◌
    from_title = whole ∙ sym (ap (λ (g : Got ℕ). g onward behind_title) t)

    module _ (xs names : List ℕ) (r : ℕ) (so₀ : Sofar) (n : gave_in number text xs names r ≡ node_f 1009 (branch_names (tokens text)) (length text) Signal (from text at) so₀) (z : so₀ ≡ at_start) where
      to_node : read_text text ≡ (gave_in number text xs names r onward behind_node e)
      to_node =
          from_title ∙ sym (ap (λ (g : Got ℕ). g onward behind_node e) (n ∙ ap (node_f 1009 (branch_names (tokens text)) (length text) Signal (from text at)) z))

      pub stopped_node : {why : Unread} → r ≡ 0 → why ≡ why_in xs → read_text text ≡ stopped why
      unfolding gave_in ◌onward◌
      stopped_node f w = to_node ∙ ap (λ (k : ℕ). gave_in number text xs names k onward behind_node e) f ∙ ap stopped (sym w)

      read_node : (r ≡ 0 → ⊥) → read_text text ≡ ended e (from text (get_or xs 2 0)) (sofar_in text xs names)
      unfolding gave_in ◌onward◌
      read_node f = to_node ∙ ap (λ (k : ℕ). gave_in number text xs names k onward behind_node e) (let y : r ≡ suc (r - 1) = omega (arith, f) in y)

      pub rows_read : (s : Result (Read ℕ) Unread) → (r ≡ 0 → ⊥) → Ready xs names
          → ((so : Sofar) → gave number text so s ≡ ended e (from text (get_or xs 2 0)) so) → Below 256 s → RowsOf text xs s
      unfolding gave sofar_in past_in with_names
      rows_read (Ok v) f y h b = record {
        rest = from text v.behind;
        so = sofar_in text xs names;
        is_read = read_node f ∙ sym (h (sofar_in text xs names));
        rows = rows_held text xs;
        places = starts_held xs;
        few = omega (arith, y.few, y.rows);
        edition = b;
      }
      rows_read (Err why) f y h b = read_node f ∙ sym (h (sofar_in text xs names))

-- A scratch that holds nothing yet is ready, and nothing is so far; also with a position noted.
zeros : (n i : ℕ) → ◌≡◌ {A = ℕ} (get_or (replicate n 0) i 0) 0
zeros zero i = refl
zeros (suc n) zero = refl
zeros (suc n) (suc i) = zeros n i

module _ (text : Bytes) (xs : List ℕ) (at : ℕ) (h : Fresh xs) where
  noted_at : List ℕ
  noted_at = set xs 2 at

  still : (i : ℕ) → (i ≡ 2 → ⊥) → get_or (set xs 2 at) i 0 ≡ get_or xs i 0
  still i f = get_or-set_other xs 2 i at 0 f

  pub at_noted : get_or (set xs 2 at) 2 0 ≡ at
  at_noted = get_or-set_same xs 2 at 0 (omega (arith, h.long))

  pub fresh_ready : Ready (set xs 2 at) (replicate 4034 0)
  fresh_ready = record {
    long = length-set xs 2 at ∙ h.long;
    few = omega (arith, still 0 (λ e. omega arith), h.begun);
    rows = omega (arith, still 1 (λ e. omega arith), h.ended);
    tables = record {
      long = length-replicate {A = ℕ} 4034 0;
      variables = omega (arith, zeros 4034 0);
      branches = omega (arith, zeros 4034 2017);
    };
  }

  none_yet : (base : ℕ) → names_in text (replicate 4034 0) base ≡ []
  unfolding names_in noted_names
  none_yet base = ap (noted_names text (replicate 4034 0) base) (zeros 4034 base)

  pub fresh_so : sofar_in text (set xs 2 at) (replicate 4034 0) ≡ at_start
  unfolding sofar_in past_in with_names at_start rowsHeld placesHeld
  fresh_so = λ i. record {
    begun = (still 0 (λ e. omega arith) ∙ h.begun) i;
    rows = rowsHeld text (set xs 2 at) ((still 1 (λ e. omega arith) ∙ h.ended) i);
    places = placesHeld (set xs 2 at) ((still 1 (λ e. omega arith) ∙ h.ended) i);
    variables = none_yet 0 i;
    labels = none_yet 2017 i;
  }

-- What a step gave.
module _ (text : Bytes) (so : Sofar) (r : Result (Read ℕ) Unread) {m : Got ℕ} (e : gave number text so r ≡ m) where
  pub given_read : (v : Read ℕ) → r ≡ Ok v → got v.value (from text v.behind) so ≡ m
  unfolding gave
  given_read v q = sym (ap (gave number text so) q) ∙ e

  pub given_stop : (why : Unread) → r ≡ Err why → stopped why ≡ m
  unfolding gave
  given_stop why q = sym (ap (gave number text so) q) ∙ e

pub rowed_of : (text : Bytes) (s : List ℕ) (r : Result (Read ℕ) Unread) → RowsOf text s r → (v : Read ℕ) → r ≡ Ok v → Rowed text s v.value
rowed_of text s r h v q = subst (RowsOf text s) q h

pub rows_err : (text : Bytes) (s : List ℕ) (r : Result (Read ℕ) Unread) (why : Unread) → r ≡ Err why → read_text text ≡ stopped why → RowsOf text s r
rows_err text s r why q h = subst (RowsOf text s) (sym q) h

pub stopped_of : (text : Bytes) (s : List ℕ) (r : Result (Read ℕ) Unread) → RowsOf text s r → (why : Unread) → r ≡ Err why → read_text text ≡ stopped why
stopped_of text s r h why q = subst (RowsOf text s) q h

-- From the edition on, in a scratch that held nothing.
module _ (text : Bytes) (v : Read ℕ) (s : Result (Read ℕ) Unread) (t : gave number text at_start s ≡ title (length text) (tokens text) at_start) (q : s ≡ Ok v) (xs₀ : List ℕ) (h : Fresh xs₀) (xs names : List ℕ) (r : ℕ) (n : gave_in number text xs names r ≡ node_f 1009 (branch_names (tokens text)) (length text) Signal (from text (get_or (set xs₀ 2 v.behind) 2 0)) (sofar_in text (set xs₀ 2 v.behind) (replicate 4034 0))) where
  node_is : gave_in number text xs names r ≡ node_f 1009 (branch_names (tokens text)) (length text) Signal (from text v.behind) (sofar_in text (set xs₀ 2 v.behind) (replicate 4034 0))
  node_is =
      n ∙ ap (λ (i : ℕ). node_f 1009 (branch_names (tokens text)) (length text) Signal (from text i) (sofar_in text (set xs₀ 2 v.behind) (replicate 4034 0))) (at_noted text xs₀ v.behind h)

  pub rows_stopped : {why : Unread} → r ≡ 0 → why ≡ why_in xs → read_text text ≡ stopped why
  rows_stopped f w =
      stopped_node text v.value v.behind (given_read text at_start s t v q) xs names r (sofar_in text (set xs₀ 2 v.behind) (replicate 4034 0)) node_is (fresh_so text xs₀ v.behind h) f w

  pub rows_given : (s' : Result (Read ℕ) Unread) → (r ≡ 0 → ⊥) → Ready xs names
      → ((so : Sofar) → gave number text so s' ≡ ended v.value (from text (get_or xs 2 0)) so) → Below 256 s' → RowsOf text xs s'
  rows_given s' f y k b =
      rows_read text v.value v.behind (given_read text at_start s t v q) xs names r (sofar_in text (set xs₀ 2 v.behind) (replicate 4034 0)) node_is (fresh_so text xs₀ v.behind h) s' f y k b
