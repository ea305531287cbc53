-- The record of a row, among the records of all; and the length of their blocks.
-- Assumes nothing.
use mathlib.Core.Path.{◌≡◌, refl, sym, ap, ◌∙◌}
use mathlib.Core.Bool.{Bool, true, false}
use mathlib.Core.List.{List, [], ◌∷◌, map}
use Prim.Native.Nat.{ℕ, zero, suc, ◌+◌, ◌*◌, ◌/◌, ◌%◌, ◌≤◌, ◌<◌}
use native.Mathlib.Omega.{arith}
use lib.Dec.{eqb}
use lib.ListN.{length, get_or}
use Rattle.rules.specs.Bytes.{Bytes, write_at}
use Rattle.rules.specs.declared.Node.{Node}
use Rattle.written.specs.Table.{rows_bytes, block_of, blocks_from, blocks_for}
use Rattle.written.proofs.Blocks.{blocks_length}
use Rattle.texts.specs.Rows.{Row}
use Rattle.texts.specs.Resolved.{binder_of, branch_of, record_of, table_from, blocks_of}
use Rattle.tidy.specs.Record.{row_from, zero_row}
use Rattle.sealing.specs.Scratch.{count_in, column_of, name_in, row_in, rows_of, rows_in}
use Rattle.sealing.specs.Found.{settled_in, records_in}
use Rattle.sealing.proofs.NameLaws.{first_column, binder_is, branch_is}

-- Rows, by number.
row_of : (text : Bytes) (s : List ℕ) (f : Row → Node) (n i j : ℕ) → j < n → row_from (map f (rows_of text s n i)) j ≡ f (row_in text s (i + j))
unfolding rows_of row_from
row_of text s f zero i j h = absurd (omega arith)
row_of text s f (suc n) i zero h = ap (λ (m : ℕ). f (row_in text s m)) (let z : i ≡ i + 0 = omega arith in z)
row_of text s f (suc n) i (suc j) h =
    row_of text s f n (i + 1) j (omega arith) ∙ ap (λ (m : ℕ). f (row_in text s m)) (let z : (i + 1) + j ≡ i + suc j = omega arith in z)

pub rows_count : (text : Bytes) (s : List ℕ) (n i : ℕ) → length (rows_of text s n i) ≡ n
unfolding rows_of
rows_count text s zero i = refl
rows_count text s (suc n) i = ap suc (rows_count text s n (i + 1))

map_count : (f : Row → Node) (rs : List Row) → length (map f rs) ≡ length rs
map_count f [] = refl
map_count f (r ∷ rs) = ap suc (map_count f rs)

row_none : (ns : List Node) (k : ℕ) → length ns ≤ k → zero_row ≡ row_from ns k
unfolding row_from
row_none [] k h = refl
row_none (n ∷ ns) zero h = absurd (omega arith)
row_none (n ∷ ns) (suc k) h = row_none ns k (omega arith)

picked : (b : Bool) {x y : ℕ} (z : ℕ) → x ≡ y → ◌≡◌ {A = ℕ} (elim b [ true ↦ x | false ↦ z ]) (elim b [ true ↦ y | false ↦ z ])
picked true z e = e
picked false z e = refl

module _ (text : Bytes) (s : List ℕ) where
  pub records_count : length (records_in text s) ≡ count_in s
  unfolding records_in rows_in
  records_count = map_count (record_of (rows_in text s)) (rows_in text s) ∙ rows_count text s (count_in s) 0

  module _ (j : ℕ) where
    field_a : ◌≡◌ {A = ℕ} (elim (eqb (column_of s j 0 % 256) 16) [ true ↦ binder_of (rows_in text s) (name_in text s j 10) | false ↦ column_of s j 2 ]) (settled_in text s j 16 6 (column_of s j 2))
    unfolding settled_in
    field_a = picked (eqb (column_of s j 0 % 256) 16) (column_of s j 2) (binder_is (name_in text s j 10) text s)

    field_c : ◌≡◌ {A = ℕ} (elim (eqb (column_of s j 0 % 256) 10) [ true ↦ branch_of (rows_in text s) (name_in text s j 10) | false ↦ column_of s j 4 ]) (settled_in text s j 10 8 (column_of s j 4))
    unfolding settled_in
    field_c = picked (eqb (column_of s j 0 % 256) 10) (column_of s j 4) (branch_is (name_in text s j 10) text s)

    pub record_inside : (kind ty a c word : ℕ) → j < count_in s → kind ≡ get_or s (13 * j + 14) 0 % 256 → ty ≡ column_of s j 1 % 256 → a ≡ settled_in text s j 16 6 (column_of s j 2)
        → c ≡ settled_in text s j 10 8 (column_of s j 4) → word ≡ column_of s j 5 % 4294967296
        → record { kind = kind; ty = ty; a = a; b = column_of s j 3; c = c; word = word } ≡ row_from (records_in text s) j
    unfolding records_in rows_in record_of row_in
    record_inside kind ty a c word h ek et ea ec ew =
        (λ i. record { kind = (ek ∙ ap (λ (n : ℕ). n % 256) (first_column s j)) i; ty = et i; a = (ea ∙ sym field_a) i; b = column_of s j 3; c = (ec ∙ sym field_c) i; word = ew i })
        ∙ sym (row_of text s (record_of (rows_in text s)) (count_in s) 0 j h ∙ ap (λ (m : ℕ). record_of (rows_in text s) (row_in text s m)) (let z : 0 + j ≡ j = omega arith in z))

    pub record_behind : count_in s ≤ j → record { kind = 0; ty = 0; a = 0; b = 0; c = 0; word = 0 } ≡ row_from (records_in text s) j
    unfolding zero_row
    record_behind h = row_none (records_in text s) j (omega (arith, records_count))

  pub blocks_are : (e : ℕ) → blocks_of e (rows_in text s) ≡ blocks_from (blocks_for (count_in s)) e (blocks_for (count_in s)) 0 (rows_bytes (records_in text s))
  unfolding blocks_of table_from records_in
  blocks_are e = ap (λ (n : ℕ). blocks_from (blocks_for n) e (blocks_for n) 0 (rows_bytes (records_in text s))) records_count

-- An edition that fits a byte.
pub edition_kept : (room : Bytes) (at blocks j : ℕ) (s : Bytes) {r : Bytes} {x e : ℕ} → r ≡ write_at room at (block_of x blocks j s) → x ≡ e % 256 → e < 256
    → r ≡ write_at room at (block_of e blocks j s)
edition_kept room at blocks j s {x = x} {e = e} q f h = q ∙ ap (λ (n : ℕ). write_at room at (block_of n blocks j s)) (let z : x ≡ e = omega arith in z)

-- All blocks: their bytes, and how many.
module _ (text : Bytes) (s : List ℕ) (e : ℕ) where
  pub sealed_long : 512 * ((count_in s + 41) / 42) ≡ length (blocks_of e (rows_in text s))
  unfolding blocks_for
  sealed_long = sym (ap length (blocks_are text s e) ∙ blocks_length e (blocks_for (count_in s)) (blocks_for (count_in s)) 0 (rows_bytes (records_in text s)))

  pub sealed_is : (room : Bytes) {r : Bytes} → r ≡ write_at room 0 (blocks_from ((count_in s + 41) / 42) e ((count_in s + 41) / 42) 0 (rows_bytes (records_in text s)))
      → r ≡ write_at room 0 (blocks_of e (rows_in text s))
  unfolding blocks_for
  sealed_is room q = q ∙ ap (write_at room 0) (sym (blocks_are text s e))
