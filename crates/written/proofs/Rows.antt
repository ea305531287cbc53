-- The table of a part holds its records: each where its place says.
-- Assumes nothing.
use mathlib.Core.Path.{◌≡◌, refl, sym, ap, ◌∙◌}
use mathlib.Core.List.{List, [], ◌∷◌, ◌++◌}
use mathlib.Core.Bool.{Bool, true, false, not}
use Prim.Native.Nat.{ℕ, zero, suc, ◌+◌, ◌-◌, ◌*◌, ◌/◌, ◌%◌, ◌<◌, ◌≤◌}
use native.Mathlib.Decide.{dec_lt}
use native.Mathlib.Omega.{arith}
use lib.ListN.{length, get_or}
use Rattle.rules.specs.Bytes.{Bytes, byte_at, u16_at, u32_at, bytes_of}
use Rattle.rules.specs.Layout.{record_at, kind_at, type_at, a_at, b_at, c_at, word_at}
use Rattle.rules.specs.Node.{IsNode}
use Rattle.rules.specs.Kinds.{fields_of}
use Rattle.rules.specs.declared.Node.{Node}
use Rattle.rules.specs.declared.Field.{Field}
use Rattle.written.specs.Parts.{Part, part, Slot, holds, child, size_p, size_k, last_p, field_k, row_p, rows_p, rows_k}
use Rattle.written.specs.Table.{row_bytes, rows_bytes, blocks_from}
use Rattle.written.specs.Right.{Fits, plain, stops, HeadRight, RightP, RightK, HoldsP, HoldsK}
use Rattle.written.proofs.ListLaws.{app_left, app_right, app_at, app_length, beyond, app_assoc, two_reads, four_reads, Small, small_nil, small_cons, small_app, small_number}
use Rattle.written.proofs.Blocks.{record_byte}

abbrev pub none : Node
none = record { kind = 0; ty = 0; a = 0; b = 0; c = 0; word = 0 }

pub nth : List Node → ℕ → Node
nth l i = get_or l i none

pub nth_left : (s t : List Node) (k : ℕ) → k < length s → nth (s ++ t) k ≡ nth s k
unfolding nth
nth_left [] t k h = absurd (omega arith)
nth_left (b ∷ s) t zero h = refl
nth_left (b ∷ s) t (suc k) h = nth_left s t k (omega arith)

pub nth_right : (s t : List Node) (k : ℕ) → nth (s ++ t) (length s + k) ≡ nth t k
unfolding nth
nth_right [] t k = ap (nth t) (let e : 0 + k ≡ k = omega arith in e)
nth_right (b ∷ s) t k = ap (nth (b ∷ (s ++ t))) (let e : suc (length s) + k ≡ suc (length s + k) = omega arith in e) ∙ nth_right s t k

pub rows_length : (s t : List Node) → length (s ++ t) ≡ length s + length t
rows_length [] t = omega arith
rows_length (b ∷ s) t = let e = rows_length s t in omega arith

-- A record is 12 bytes.
pub row_length : (n : Node) → length (row_bytes n) ≡ 12
unfolding row_bytes bytes_of
row_length n = refl

pub bytes_length : (l : List Node) → length (rows_bytes l) ≡ 12 * length l
unfolding rows_bytes
bytes_length [] = refl
bytes_length (n ∷ l) = omega (arith, app_length (row_bytes n) (rows_bytes l), row_length n, bytes_length l)

pub row_byte : (l : List Node) (r i : ℕ) → r < length l → i < 12 → byte_at (rows_bytes l) (12 * r + i) ≡ byte_at (row_bytes (nth l r)) i
unfolding rows_bytes nth
row_byte [] r i h g = absurd (omega arith)
row_byte (n ∷ l) zero i h g =
    ap (byte_at (row_bytes n ++ rows_bytes l)) (let z : 12 * 0 + i ≡ i = omega arith in z) ∙ app_left (row_bytes n) (rows_bytes l) i (omega (arith, row_length n))
row_byte (n ∷ l) (suc r) i h g =
    app_at (row_bytes n) (rows_bytes l) (12 * suc r + i) (12 * r + i) (omega (arith, row_length n)) ∙ row_byte l r i (omega arith) g

-- What a record's fields may be.
pub record Wide (n : Node) : Type 0 where
  pub a_fits : n.a < 65536
  pub b_fits : n.b < 65536
  pub c_fits : n.c < 65536
  pub word_fits : n.word < 4294967296

module _ (e₀ count left : ℕ) (l : List Node) (r : ℕ) (h : r < length l) (g : length l ≤ 42 * left) where
  abbrev q : Bytes
  q = blocks_from left e₀ count 0 (rows_bytes l)

  at : (i k : ℕ) → i < 12 → k ≡ record_at r + i → byte_at q k ≡ byte_at (row_bytes (nth l r)) i
  at i k j e = ap (byte_at q) e ∙ record_byte e₀ count left (rows_bytes l) r i (omega arith) j ∙ row_byte l r i h j

  pub row_reads : Wide (nth l r) → IsNode q r (nth l r)
  unfolding kind_at type_at a_at b_at c_at word_at u32_at u16_at row_bytes bytes_of byte_at
  row_reads w =
      let n = nth l r in
      let a = two_reads n.a w.a_fits in
      let b = two_reads n.b w.b_fits in
      let c = two_reads n.c w.c_fits in
      let d = four_reads n.word w.word_fits in
      let b2 = at 2 (record_at r + 2) (omega arith) refl in
      let b3 = at 3 (record_at r + 2 + 1) (omega arith) (omega arith) in
      let b4 = at 4 (record_at r + 4) (omega arith) refl in
      let b5 = at 5 (record_at r + 4 + 1) (omega arith) (omega arith) in
      let b6 = at 6 (record_at r + 6) (omega arith) refl in
      let b7 = at 7 (record_at r + 6 + 1) (omega arith) (omega arith) in
      let b8 = at 8 (record_at r + 8) (omega arith) refl in
      let b9 = at 9 (record_at r + 8 + 1) (omega arith) (omega arith) in
      let b10 = at 10 (record_at r + 8 + 2) (omega arith) (omega arith) in
      let b11 = at 11 (record_at r + 8 + 2 + 1) (omega arith) (omega arith) in
      record {
        kind_is = sym (at 0 (record_at r) (omega arith) (omega arith));
        type_is = sym (at 1 (record_at r + 1) (omega arith) refl);
        a_is = sym ((λ i. b2 i + 256 * b3 i) ∙ a);
        b_is = sym ((λ i. b4 i + 256 * b5 i) ∙ b);
        c_is = sym ((λ i. b6 i + 256 * b7 i) ∙ c);
        word_is = sym ((λ i. b8 i + 256 * b9 i + 65536 * (b10 i + 256 * b11 i)) ∙ d);
      }

-- Rows xs stand in l from lo on.
unfoldable pub Stands : List Node → ℕ → List Node → Type 0
Stands l lo xs = (i : ℕ) → i < length xs → nth l (lo + i) ≡ nth xs i

stands_left : (l : List Node) (lo : ℕ) (s t : List Node) → Stands l lo (s ++ t) → Stands l lo s
unfolding Stands
stands_left l lo s t h i g = h i (omega (arith, rows_length s t)) ∙ nth_left s t i g

stands_right : (l : List Node) (lo : ℕ) (s t : List Node) (n : ℕ) → length s ≡ n → Stands l lo (s ++ t) → Stands l (lo + n) t
unfolding Stands
stands_right l lo s t n e h i g =
    ap (nth l) (let z : lo + n + i ≡ lo + (length s + i) = omega arith in z) ∙ h (length s + i) (omega (arith, rows_length s t)) ∙ nth_right s t i

-- So many rows as its size.
mutual
  unfolding size_p rows_p

  pub rows_p_length : (p : Part) (lo : ℕ) → length (rows_p p lo) ≡ size_p p
  rows_p_length (part k t w a b c) lo =
      let x = rows_k_length a lo in
      let y = rows_k_length b (lo + size_k a) in
      let z = rows_k_length c (lo + size_k a + size_k b) in
      let e = rows_length (rows_k a lo) (rows_k b (lo + size_k a) ++ (rows_k c (lo + size_k a + size_k b) ++ (row_p lo (part k t w a b c) ∷ []))) in
      let f = rows_length (rows_k b (lo + size_k a)) (rows_k c (lo + size_k a + size_k b) ++ (row_p lo (part k t w a b c) ∷ [])) in
      let g = rows_length (rows_k c (lo + size_k a + size_k b)) (row_p lo (part k t w a b c) ∷ []) in
      omega arith

  pub rows_k_length : (s : Slot) (lo : ℕ) → length (rows_k s lo) ≡ size_k s
  rows_k_length (holds x) lo = refl
  rows_k_length (child p) lo = rows_p_length p lo

-- The field of a slot fits two bytes.
pub last_size : (lo : ℕ) (p : Part) → lo + size_p p ≡ suc (last_p lo p)
unfolding last_p size_p
last_size lo (part k t w a b c) = omega arith

slot_fits : (s : Slot) (f : Field) (lo : ℕ) → RightK s f → lo + size_k s ≤ 65535 → field_k lo s < 65536
unfolding field_k size_p
slot_fits (holds x) f lo (plain e g h) l = h
slot_fits (holds x) f lo (stops e g h) l = omega arith
slot_fits (child p) f lo r l = omega (arith, last_size lo p)

wide : (lo k t w : ℕ) (a b c : Slot) → RightP (part k t w a b c) → lo + size_p (part k t w a b c) ≤ 65535 → Wide (row_p lo (part k t w a b c))
unfolding row_p size_p
wide lo k t w a b c r h =
    record {
      a_fits = slot_fits a (fields_of k).a lo r.1 (omega arith);
      b_fits = slot_fits b (fields_of k).b (lo + size_k a) r.2 (omega arith);
      c_fits = slot_fits c (fields_of k).c (lo + size_k a + size_k b) r.3 (omega arith);
      word_fits = r.0.word_small;
    }

own : (l : List Node) (lo k t w : ℕ) (a b c : Slot) → Stands l (lo + size_k a + size_k b + size_k c) (row_p lo (part k t w a b c) ∷ [])
    → nth l (lo + (size_k a + size_k b + size_k c)) ≡ row_p lo (part k t w a b c)
unfolding Stands nth
own l lo k t w a b c s =
    ap (nth l) (let z : lo + (size_k a + size_k b + size_k c) ≡ lo + size_k a + size_k b + size_k c + 0 = omega arith in z) ∙ s 0 (omega arith)

-- A table that gives each of l's rows back, and a part whose rows stand in l.
module _ (l : List Node) (q : Bytes) (reads : (r : ℕ) → r < length l → Wide (nth l r) → IsNode q r (nth l r)) (few : length l ≤ 65535) where
  here : (r : ℕ) (n : Node) → r < length l → nth l r ≡ n → Wide n → IsNode q r n
  here r n h e w = rw (← e) (reads r h (rw e w))

  mutual
    unfolding size_p rows_p

    pub part_held : (p : Part) (lo : ℕ) → Stands l lo (rows_p p lo) → RightP p → lo + size_p p ≤ length l → HoldsP p q lo
    part_held (part k t w a b c) lo s r h =
        let n = row_p lo (part k t w a b c) in
        let s1 = stands_right l lo (rows_k a lo) _ (size_k a) (rows_k_length a lo) s in
        let s2 = stands_right l (lo + size_k a) (rows_k b (lo + size_k a)) _ (size_k b) (rows_k_length b (lo + size_k a)) s1 in
        let s3 = stands_right l (lo + size_k a + size_k b) (rows_k c (lo + size_k a + size_k b)) (n ∷ []) (size_k c) (rows_k_length c (lo + size_k a + size_k b)) s2 in (
          slot_held a lo (fields_of k).a (stands_left l lo (rows_k a lo) _ s) r.1 (omega arith),
          slot_held b (lo + size_k a) (fields_of k).b (stands_left l (lo + size_k a) (rows_k b (lo + size_k a)) _ s1) r.2 (omega arith),
          slot_held c (lo + size_k a + size_k b) (fields_of k).c (stands_left l (lo + size_k a + size_k b) (rows_k c (lo + size_k a + size_k b)) _ s2) r.3 (omega arith),
          here (lo + (size_k a + size_k b + size_k c)) n (omega arith) (own l lo k t w a b c s3) (wide lo k t w a b c r (omega arith)),
        )

    pub slot_held : (x : Slot) (lo : ℕ) (f : Field) → Stands l lo (rows_k x lo) → RightK x f → lo + size_k x ≤ length l → HoldsK x q lo
    slot_held (holds x) lo f s r h = tt
    slot_held (child p) lo f s r h = part_held p lo s r.2 h
