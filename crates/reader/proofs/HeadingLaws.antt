-- A heading in the scratch says what the heading says.
-- Assumes nothing.
use mathlib.Core.Path.{◌≡◌, sym, ap, ap₂, subst, ◌∙◌}
use mathlib.Core.List.{List}
use Prim.Native.Nat.{ℕ, ◌<◌}
use native.Mathlib.Omega.{arith}
use lib.ListN.{length, get_or, set, length-set}
use lib.Seq.{get_or-set_same, get_or-set_other}
use Rattle.rules.specs.Bytes.{Bytes}
use Rattle.texts.specs.Tokens.{from}
use Rattle.texts.specs.Rows.{Got, got, stopped}
use Rattle.texts.specs.Reader.{Heading}
use Rattle.texts.specs.declared.Unread.{Unread}
use Rattle.labels.specs.Noted.{named_by}
use Rattle.phrases.specs.declared.Head.{Head}
use Rattle.std.specs.Prelude.{Result, Ok, Err}
use Rattle.phrases.specs.declared.Read.{Read}
use Rattle.phrases.specs.Gave.{head_of, gave, gave_head}
use Rattle.reader.specs.Held.{sofar_in, heading_in, gave_head_in, stop_put, Same}
use Rattle.reader.proofs.SofarLaws.{note_sofar}
use Rattle.reader.proofs.StepIn.{stop_why, stop_same}

module _ (xs : List ℕ) (h : Head) (at : ℕ) where
  -- The position behind it, and its seven numbers, one behind the other.
  abbrev put1 : List ℕ
  put1 = set xs 2 at

  abbrev put2 : List ℕ
  put2 = set put1 7 h.label.first

  abbrev put3 : List ℕ
  put3 = set put2 8 h.label.end

  abbrev put4 : List ℕ
  put4 = set put3 9 h.binds.first

  abbrev put5 : List ℕ
  put5 = set put4 10 h.binds.end

  abbrev put6 : List ℕ
  put6 = set put5 11 h.ty

  abbrev put7 : List ℕ
  put7 = set put6 12 h.present

  abbrev put8 : List ℕ
  put8 = set put7 13 h.word

  module _ (long : length xs ≡ 13118) where
    long0 : length xs ≡ 13118
    long0 = long

    long1 : length put1 ≡ 13118
    long1 = length-set xs 2 at ∙ long0

    long2 : length put2 ≡ 13118
    long2 = length-set put1 7 h.label.first ∙ long1

    long3 : length put3 ≡ 13118
    long3 = length-set put2 8 h.label.end ∙ long2

    long4 : length put4 ≡ 13118
    long4 = length-set put3 9 h.binds.first ∙ long3

    long5 : length put5 ≡ 13118
    long5 = length-set put4 10 h.binds.end ∙ long4

    long6 : length put6 ≡ 13118
    long6 = length-set put5 11 h.ty ∙ long5

    long7 : length put7 ≡ 13118
    long7 = length-set put6 12 h.present ∙ long6

    long8 : length put8 ≡ 13118
    long8 = length-set put7 13 h.word ∙ long7

    at2 : get_or put8 2 0 ≡ at
    at2 = get_or-set_other put7 13 2 h.word 0 (omega arith)
        ∙ get_or-set_other put6 12 2 h.present 0 (omega arith)
        ∙ get_or-set_other put5 11 2 h.ty 0 (omega arith)
        ∙ get_or-set_other put4 10 2 h.binds.end 0 (omega arith)
        ∙ get_or-set_other put3 9 2 h.binds.first 0 (omega arith)
        ∙ get_or-set_other put2 8 2 h.label.end 0 (omega arith)
        ∙ get_or-set_other put1 7 2 h.label.first 0 (omega arith)
        ∙ get_or-set_same xs 2 at 0 (omega (arith, long0))

    at7 : get_or put8 7 0 ≡ h.label.first
    at7 = get_or-set_other put7 13 7 h.word 0 (omega arith)
        ∙ get_or-set_other put6 12 7 h.present 0 (omega arith)
        ∙ get_or-set_other put5 11 7 h.ty 0 (omega arith)
        ∙ get_or-set_other put4 10 7 h.binds.end 0 (omega arith)
        ∙ get_or-set_other put3 9 7 h.binds.first 0 (omega arith)
        ∙ get_or-set_other put2 8 7 h.label.end 0 (omega arith)
        ∙ get_or-set_same put1 7 h.label.first 0 (omega (arith, long1))

    at8 : get_or put8 8 0 ≡ h.label.end
    at8 = get_or-set_other put7 13 8 h.word 0 (omega arith)
        ∙ get_or-set_other put6 12 8 h.present 0 (omega arith)
        ∙ get_or-set_other put5 11 8 h.ty 0 (omega arith)
        ∙ get_or-set_other put4 10 8 h.binds.end 0 (omega arith)
        ∙ get_or-set_other put3 9 8 h.binds.first 0 (omega arith)
        ∙ get_or-set_same put2 8 h.label.end 0 (omega (arith, long2))

    at9 : get_or put8 9 0 ≡ h.binds.first
    at9 = get_or-set_other put7 13 9 h.word 0 (omega arith)
        ∙ get_or-set_other put6 12 9 h.present 0 (omega arith)
        ∙ get_or-set_other put5 11 9 h.ty 0 (omega arith)
        ∙ get_or-set_other put4 10 9 h.binds.end 0 (omega arith)
        ∙ get_or-set_same put3 9 h.binds.first 0 (omega (arith, long3))

    at10 : get_or put8 10 0 ≡ h.binds.end
    at10 = get_or-set_other put7 13 10 h.word 0 (omega arith)
        ∙ get_or-set_other put6 12 10 h.present 0 (omega arith)
        ∙ get_or-set_other put5 11 10 h.ty 0 (omega arith)
        ∙ get_or-set_same put4 10 h.binds.end 0 (omega (arith, long4))

    at11 : get_or put8 11 0 ≡ h.ty
    at11 = get_or-set_other put7 13 11 h.word 0 (omega arith)
        ∙ get_or-set_other put6 12 11 h.present 0 (omega arith)
        ∙ get_or-set_same put5 11 h.ty 0 (omega (arith, long5))

    at12 : get_or put8 12 0 ≡ h.present
    at12 = get_or-set_other put7 13 12 h.word 0 (omega arith)
        ∙ get_or-set_same put6 12 h.present 0 (omega (arith, long6))

    at13 : get_or put8 13 0 ≡ h.word
    at13 = get_or-set_same put7 13 h.word 0 (omega (arith, long7))

    pub put_same : (r : Result (Read Head) Unread) → r ≡ Ok (record { value = h; behind = at }) → Same xs put8
    put_same r e = record {
      long = long8 ∙ sym long;
      begun = get_or-set_other put7 13 0 h.word 0 (omega arith)
          ∙ get_or-set_other put6 12 0 h.present 0 (omega arith)
          ∙ get_or-set_other put5 11 0 h.ty 0 (omega arith)
          ∙ get_or-set_other put4 10 0 h.binds.end 0 (omega arith)
          ∙ get_or-set_other put3 9 0 h.binds.first 0 (omega arith)
          ∙ get_or-set_other put2 8 0 h.label.end 0 (omega arith)
          ∙ get_or-set_other put1 7 0 h.label.first 0 (omega arith)
          ∙ get_or-set_other xs 2 0 at 0 (omega arith);
      rows = get_or-set_other put7 13 1 h.word 0 (omega arith)
          ∙ get_or-set_other put6 12 1 h.present 0 (omega arith)
          ∙ get_or-set_other put5 11 1 h.ty 0 (omega arith)
          ∙ get_or-set_other put4 10 1 h.binds.end 0 (omega arith)
          ∙ get_or-set_other put3 9 1 h.binds.first 0 (omega arith)
          ∙ get_or-set_other put2 8 1 h.label.end 0 (omega arith)
          ∙ get_or-set_other put1 7 1 h.label.first 0 (omega arith)
          ∙ get_or-set_other xs 2 1 at 0 (omega arith);
    }

    sofar_put : (text : Bytes) (names : List ℕ) → sofar_in text put8 names ≡ sofar_in text xs names
    sofar_put text names = note_sofar put7 13 h.word (omega arith) (omega arith) text names
        ∙ note_sofar put6 12 h.present (omega arith) (omega arith) text names
        ∙ note_sofar put5 11 h.ty (omega arith) (omega arith) text names
        ∙ note_sofar put4 10 h.binds.end (omega arith) (omega arith) text names
        ∙ note_sofar put3 9 h.binds.first (omega arith) (omega arith) text names
        ∙ note_sofar put2 8 h.label.end (omega arith) (omega arith) text names
        ∙ note_sofar put1 7 h.label.first (omega arith) (omega arith) text names
        ∙ note_sofar xs 2 at (omega arith) (omega arith) text names

    head_put : (text : Bytes) → heading_in text put8 ≡ head_of text h
    unfolding heading_in head_of
    head_put text = λ i. record {
      label = named_by text (at7 i) (at8 i);
      binds = named_by text (at9 i) (at10 i);
      type = at11 i;
      present = at12 i;
      word = at13 i;
    }

    gave_put : (text : Bytes) (names : List ℕ) → gave_head_in text put8 names 1 ≡ gave_head text (sofar_in text xs names) (Ok (record { value = h; behind = at }))
    unfolding gave_head_in gave
    gave_put text names = λ i. got (head_put text i) (from text (at2 i)) (sofar_put text names i)

    -- So a heading that was read is in the scratch,
    pub heading_read : (text : Bytes) (names : List ℕ) (r : Result (Read Head) Unread) (m : Got Heading) → r ≡ Ok (record { value = h; behind = at }) → gave_head text (sofar_in text xs names) r ≡ m
        → gave_head_in text put8 names 1 ≡ m
    heading_read text names r m e q = gave_put text names ∙ ap (gave_head text (sofar_in text xs names)) (sym e) ∙ q

    -- with a type and a word that fit their bytes.
    pub heading_fits : (r : Result (Read Head) Unread) → r ≡ Ok (record { value = h; behind = at }) → h.ty < 256 → h.word < 4294967296 → (get_or put8 11 0 < 256) × (get_or put8 13 0 < 4294967296)
    heading_fits r e t w = (omega (arith, at11, t), omega (arith, at13, w))

-- Why there is none is there too.
module _ (xs : List ℕ) (long : length xs ≡ 13118) (why : Unread) (xs' : List ℕ) (put : xs' ≡ stop_put xs why) where
  pub heading_stop : (text : Bytes) (names : List ℕ) (n : ℕ) (r : Result (Read Head) Unread) (m : Got Heading) → n ≡ 0 → r ≡ Err why → gave_head text (sofar_in text xs names) r ≡ m
      → gave_head_in text xs' names n ≡ m
  unfolding gave_head_in gave
  heading_stop text names n r m z e q =
      ap₂ (λ (ys : List ℕ) (k : ℕ). gave_head_in text ys names k) put z ∙ ap (λ (w : Unread). stopped w) (stop_why xs long why)
      ∙ ap (gave_head text (sofar_in text xs names)) (sym e) ∙ q

  pub heading_stop_same : Same xs xs'
  heading_stop_same = subst (Same xs) (sym put) (stop_same xs long why)
