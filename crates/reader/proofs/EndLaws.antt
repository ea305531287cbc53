-- A node ends: its row stands behind the others in the scratch.
-- Assumes nothing.
use mathlib.Core.Path.{◌≡◌, refl, sym, ap, ap₂, subst, ◌∙◌}
use mathlib.Core.List.{List, [], ◌∷◌, ◌++◌}
use Prim.Native.Nat.{ℕ, suc, ◌+◌, ◌*◌, ◌%◌, ◌≤◌, ◌<◌}
use native.Mathlib.Omega.{arith}
use lib.ListN.{length, get_or, length-set}
use lib.Seq.{get_or-set_same, get_or-set_other}
use Rattle.rules.specs.Bytes.{Bytes, byte_at, write_at}
use Rattle.rules.proofs.Cells.{length_write_at, before_write_at, in_write_at}
use Rattle.texts.specs.Tokens.{Token, from, part}
use Rattle.texts.specs.Rows.{Row, got}
use Rattle.texts.specs.Reader as R
use Rattle.labels.specs.Noted.{named_by}
use Rattle.labels.proofs.NoteLaws.{named_part}
use Rattle.phrases.proofs.StepLaws.{no_name}
use Rattle.phrases.specs.declared.Constant.{Constant}
use Rattle.std.specs.Prelude.{Result, Ok}
use Rattle.phrases.specs.declared.Read.{Read}
use Rattle.texts.specs.declared.Unread.{Unread}
use Rattle.phrases.specs.Gave.{with_names, gave, number, written}
use Rattle.reader.specs.Held.{entry, row_at, rows_in, places_in, past_in, sofar_in, row_put, Ended}
use Rattle.reader.proofs.SofarLaws.{rows_same, places_same, rows_many}

-- The row that was put.
module _ (text : Bytes) (xs : List ℕ) (kind ty a b c word p q r s u v z : ℕ) (long : length xs ≡ 13118) (room : get_or xs 1 0 < 1008) where
  abbrev L : List ℕ
  L = kind ∷ ty ∷ a ∷ b ∷ c ∷ word ∷ p ∷ q ∷ r ∷ s ∷ u ∷ v ∷ z ∷ []

  abbrev ys : List ℕ
  ys = row_put xs kind ty a b c word p q r s u v z

  entry_put : (j : ℕ) → j < 13 → entry ys (get_or xs 1 0) j ≡ get_or L j 0
  unfolding row_put entry byte_at
  entry_put j l =
      get_or-set_other (write_at xs (13 * get_or xs 1 0 + 14) L) 1 (13 * get_or xs 1 0 + 14 + j) (get_or xs 1 0 + 1) 0 (omega arith)
      ∙ in_write_at L xs (13 * get_or xs 1 0 + 14) j l (omega arith)

  put_before : (i : ℕ) → 14 ≤ i → i < 13 * get_or xs 1 0 + 14 → get_or ys i 0 ≡ get_or xs i 0
  unfolding row_put byte_at
  put_before i l m =
      get_or-set_other (write_at xs (13 * get_or xs 1 0 + 14) L) 1 i (get_or xs 1 0 + 1) 0 (omega arith) ∙ before_write_at L xs (13 * get_or xs 1 0 + 14) i m

  pub put_count : get_or ys 1 0 ≡ get_or xs 1 0 + 1
  unfolding row_put
  put_count = get_or-set_same (write_at xs (13 * get_or xs 1 0 + 14) L) 1 (get_or xs 1 0 + 1) 0 (omega (arith, length_write_at L xs (13 * get_or xs 1 0 + 14)))

  pub put_begun : get_or ys 0 0 ≡ get_or xs 0 0
  unfolding row_put byte_at
  put_begun = get_or-set_other (write_at xs (13 * get_or xs 1 0 + 14) L) 1 0 (get_or xs 1 0 + 1) 0 (omega arith) ∙ before_write_at L xs (13 * get_or xs 1 0 + 14) 0 (omega arith)

  pub put_length : length ys ≡ length xs
  unfolding row_put
  put_length = length-set (write_at xs (13 * get_or xs 1 0 + 14) L) 1 (get_or xs 1 0 + 1) ∙ length_write_at L xs (13 * get_or xs 1 0 + 14)

  pub put_ended : Ended xs ys
  put_ended = record { long = put_length; begun = put_begun; rows = omega (arith, put_count) }

  put_row : row_at text ys (get_or xs 1 0)
      ≡ record { kind = kind % 256; type = ty % 256; a = a; b = b; c = c; word = word % 4294967296; binds = named_by text p q; label = named_by text r s; uses = named_by text u v }
  unfolding row_at
  put_row =
      rw (entry_put 0 (omega arith), entry_put 1 (omega arith), entry_put 2 (omega arith), entry_put 3 (omega arith), entry_put 4 (omega arith), entry_put 5 (omega arith), entry_put 6 (omega arith), entry_put 7 (omega arith), entry_put 8 (omega arith), entry_put 9 (omega arith), entry_put 10 (omega arith), entry_put 11 (omega arith)) refl

  count_suc : get_or ys 1 0 ≡ suc (get_or xs 1 0)
  count_suc = put_count ∙ (let y : get_or xs 1 0 + 1 ≡ suc (get_or xs 1 0) = omega arith in y)

  put_rows : rows_in text ys (get_or ys 1 0)
      ≡ rows_in text xs (get_or xs 1 0) ++ record { kind = kind % 256; type = ty % 256; a = a; b = b; c = c; word = word % 4294967296; binds = named_by text p q; label = named_by text r s; uses = named_by text u v } ∷ []
  unfolding rows_in
  put_rows =
      ap (rows_in text ys) count_suc
      ∙ ap₂ (λ (rs : List Row) (r : Row). rs ++ r ∷ []) (rows_same text ys xs (get_or xs 1 0) put_before) put_row

  put_places : places_in ys (get_or ys 1 0) ≡ places_in xs (get_or xs 1 0) ++ z ∷ []
  unfolding places_in
  put_places = ap (places_in ys) count_suc ∙ ap₂ (λ (ps : List ℕ) (k : ℕ). ps ++ k ∷ []) (places_same ys xs (get_or xs 1 0) put_before) (entry_put 12 (omega arith))

  pub ends_put : (names : List ℕ) (ts : List Token) → got (get_or xs 1 0) ts (sofar_in text ys names)
      ≡ R.ends z (record { kind = kind % 256; type = ty % 256; a = a; b = b; c = c; word = word % 4294967296; binds = named_by text p q; label = named_by text r s; uses = named_by text u v }) ts (sofar_in text xs names)
  unfolding R.ends sofar_in past_in with_names
  ends_put names ts =
      rw (put_begun, put_rows, put_places, rows_many text xs (get_or xs 1 0)) refl

-- A constant's row, and a variable's.
module _ (text : Bytes) (xs xs' names : List ℕ) (at : ℕ) (r : Result (Read ℕ) Unread) (long : length xs ≡ 13118) (room : get_or xs 1 0 < 1008) (e : r ≡ Ok (record { value = get_or xs 1 0; behind = at })) where
  pub constant_ends : (v : Constant) (place : ℕ) → xs' ≡ row_put xs 17 v.ty 0 v.present 0 v.word 0 0 0 0 0 0 place → v.ty < 256 → v.word < 4294967296
      → gave number text (sofar_in text xs' names) r ≡ R.ends place (R.constant_row (written v)) (from text at) (sofar_in text xs names)
  unfolding gave R.constant_row written
  constant_ends v place f t w =
      let x : v.ty % 256 ≡ v.ty = omega arith in
      let y : v.word % 4294967296 ≡ v.word = omega arith in
      ap₂ (λ (ys : List ℕ) (q : Result (Read ℕ) Unread). gave number text (sofar_in text ys names) q) f e
      ∙ ends_put text xs 17 v.ty 0 v.present 0 v.word 0 0 0 0 0 0 place long room names (from text at)
      ∙ rw (x, y, no_name text) refl

  pub variable_ends : (s : ℕ) → xs' ≡ row_put xs 16 0 0 0 0 0 0 0 0 0 s at s → s < at → at ≤ length text
      → gave number text (sofar_in text xs' names) r ≡ R.ends s (R.variable_row (part text s at)) (from text at) (sofar_in text xs names)
  unfolding gave R.variable_row
  variable_ends s f h k =
      ap₂ (λ (ys : List ℕ) (q : Result (Read ℕ) Unread). gave number text (sofar_in text ys names) q) f e
      ∙ ends_put text xs 16 0 0 0 0 0 0 0 0 0 s at s long room names (from text at)
      ∙ rw (no_name text, named_part text s at (omega arith) k) refl

pub ended_put : (xs xs' : List ℕ) (kind ty a b c word p q r s u v z : ℕ) → length xs ≡ 13118 → get_or xs 1 0 < 1008 → xs' ≡ row_put xs kind ty a b c word p q r s u v z → Ended xs xs'
ended_put xs xs' kind ty a b c word p q r s u v z long room e = subst (Ended xs) (sym e) (put_ended [] xs kind ty a b c word p q r s u v z long room)

pub ended_same : (xs : List ℕ) → Ended xs xs
ended_same xs = record { long = refl; begun = refl; rows = omega arith }
