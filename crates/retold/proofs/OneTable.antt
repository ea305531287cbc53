-- A program of right format is known by its edition and its records: two that have the same are the same bytes.
-- Assumes nothing.
use Rattle.std.specs.Prelude.{Option, Some, None, ℕ}
use mathlib.Core.Path.{◌≡◌, refl, sym, ap, subst, ◌∙◌}
use mathlib.Core.List.{[], ◌∷◌}
use Prim.Native.Nat.{ℕ, zero, suc, ◌+◌, ◌-◌, ◌*◌, ◌/◌, ◌%◌, ◌<◌, ◌≤◌}
use native.Mathlib.Decide.{dec_lt}
use native.Mathlib.Omega.{arith}
use lib.Dec.{eqb}
use lib.ListN.{length}
use borrow.Author.Tests.{eqb-true}
use Rattle.rules.specs.Bytes.{Bytes, byte_at, u16_at, u32_at, first}
use Rattle.rules.specs.Layout.{blocks, block_at, number_in, count_in, edition_in, edition, check_in, records, record_at, kind_at, type_at, a_at, b_at, c_at, word_at, nodes, place_or}
use Rattle.declarative.specs.Formats.{Formatted, sum_from}
use Rattle.texts.proofs.Yields.{first_passes}

-- Lists with equal entries are equal.
pub same_list : (s t : Bytes) → length s ≡ length t → ((i : ℕ) → i < length s → byte_at s i ≡ byte_at t i) → s ≡ t
unfolding byte_at
same_list [] [] l h = refl
same_list [] (y ∷ t) l h = absurd (omega arith)
same_list (x ∷ s) [] l h = absurd (omega arith)
same_list (x ∷ s) (y ∷ t) l h = λ j. h 0 (omega arith) j ∷ same_list s t (omega arith) (λ i g. h (suc i) (omega arith)) j

-- Two bytes, four bytes.
pair_same : (a b c d : ℕ) → a < 256 → b < 256 → c < 256 → d < 256 → a + 256 * b ≡ c + 256 * d → (a ≡ c) × (b ≡ d)
pair_same a b c d h i j k e = (omega arith, omega arith)

halves_same : (a b c d : ℕ) → a < 65536 → c < 65536 → a + 65536 * b ≡ c + 65536 * d → (a ≡ c) × (b ≡ d)
halves_same a b c d h j e = (omega arith, omega arith)

abbrev Small : Bytes → Type 0
Small s = (i : ℕ) → byte_at s i < 256

two_same : (s t : Bytes) → Small s → Small t → (i : ℕ) → u16_at s i ≡ u16_at t i → (byte_at s i ≡ byte_at t i) × (byte_at s (i + 1) ≡ byte_at t (i + 1))
unfolding u16_at
two_same s t h g i e = pair_same (byte_at s i) (byte_at s (i + 1)) (byte_at t i) (byte_at t (i + 1)) (h i) (h (i + 1)) (g i) (g (i + 1)) e

two_small : (s : Bytes) → Small s → (i : ℕ) → u16_at s i < 65536
unfolding u16_at
two_small s h i = omega (arith, h i, h (i + 1))

four_same : (s t : Bytes) → Small s → Small t → (i : ℕ) → u32_at s i ≡ u32_at t i
    → (byte_at s i ≡ byte_at t i) × (byte_at s (i + 1) ≡ byte_at t (i + 1)) × (byte_at s (i + 2) ≡ byte_at t (i + 2)) × (byte_at s (i + 2 + 1) ≡ byte_at t (i + 2 + 1))
unfolding u32_at
four_same s t h g i e =
    let p = halves_same (u16_at s i) (u16_at s (i + 2)) (u16_at t i) (u16_at t (i + 2)) (two_small s h i) (two_small t g i) e in
    let x = two_same s t h g i p.0 in
    let y = two_same s t h g (i + 2) p.1 in
    (x.0, x.1, y.0, y.1)

-- Where the nodes end.
after_nodes : (p : Bytes) → nodes p < records p → kind_at p (nodes p) ≡ 0
unfolding nodes place_or
after_nodes p l = go (first (λ r. eqb (kind_at p r) 0) (records p)) refl l
  where
    go : (x : Option ℕ) → first (λ r. eqb (kind_at p r) 0) (records p) ≡ x → place_or x (records p) < records p → kind_at p (place_or x (records p)) ≡ 0
    go (Some k) e l = eqb-true _ 0 (first_passes (λ r. eqb (kind_at p r) 0) (records p) k e).0
    go None e l = absurd (omega arith)

-- Records of two programs that are the same.
pub record Same (p q : Bytes) (r : ℕ) : Type 0 where
  pub kind : kind_at p r ≡ kind_at q r
  pub type : type_at p r ≡ type_at q r
  pub a : a_at p r ≡ a_at q r
  pub b : b_at p r ≡ b_at q r
  pub c : c_at p r ≡ c_at q r
  pub word : word_at p r ≡ word_at q r

not_zero : (n : ℕ) → (n % 42 ≡ 0 → ⊥) → 0 < n % 42
not_zero n d = omega arith

module _ (p : Bytes) (f : Formatted p) (within : nodes p ≤ records p) where
  blocks_are : length p ≡ 512 * blocks p
  unfolding blocks
  blocks_are = let w = f.whole.long in omega arith

  -- The last block has a node.
  ends_last : 42 * blocks p < nodes p + 42
  unfolding records
  ends_last = go (dec_lt (nodes p) (records p))
    where
      go : Dec (nodes p < records p) → 42 * blocks p < nodes p + 42
      go (yes l) = let e = (f.each_record (nodes p) l).end (after_nodes p l) in let b = e.last_block in let d = not_zero (nodes p) e.not_first in omega arith
      go (no l) = omega (arith, within)

module _ (p q : Bytes) (fp : Formatted p) (fq : Formatted q) (wp : nodes p ≤ records p) (wq : nodes q ≤ records q) (hp : Small p) (hq : Small q)
    (editions : edition p ≡ edition q) (counts : nodes p ≡ nodes q) (same : (r : ℕ) → r < nodes p → Same p q r) where
  blocks_same : blocks p ≡ blocks q
  unfolding records
  blocks_same = let x = ends_last p fp wp in let y = ends_last q fq wq in omega arith

  lengths_same : length p ≡ length q
  lengths_same = blocks_are p fp wp ∙ ap (λ (x : ℕ). 512 * x) blocks_same ∙ sym (blocks_are q fq wq)

  moved : (i j : ℕ) → i ≡ j → byte_at p j ≡ byte_at q j → byte_at p i ≡ byte_at q i
  moved i j e h = subst (λ (x : ℕ). byte_at p x ≡ byte_at q x) (sym e) h

  -- The bytes of a node's record.
  node_byte : (r : ℕ) → Same p q r → (k : ℕ) → k < 12 → byte_at p (record_at r + k) ≡ byte_at q (record_at r + k)
  unfolding kind_at type_at a_at b_at c_at word_at
  node_byte r s zero l = moved (record_at r + 0) (record_at r) (omega arith) s.kind
  node_byte r s (suc zero) l = s.type
  node_byte r s (suc (suc zero)) l = (two_same p q hp hq (record_at r + 2) s.a).0
  node_byte r s (suc (suc (suc zero))) l = moved (record_at r + 3) (record_at r + 2 + 1) (omega arith) (two_same p q hp hq (record_at r + 2) s.a).1
  node_byte r s (suc (suc (suc (suc zero)))) l = (two_same p q hp hq (record_at r + 4) s.b).0
  node_byte r s (suc (suc (suc (suc (suc zero))))) l = moved (record_at r + 5) (record_at r + 4 + 1) (omega arith) (two_same p q hp hq (record_at r + 4) s.b).1
  node_byte r s (suc (suc (suc (suc (suc (suc zero)))))) l = (two_same p q hp hq (record_at r + 6) s.c).0
  node_byte r s (suc (suc (suc (suc (suc (suc (suc zero))))))) l = moved (record_at r + 7) (record_at r + 6 + 1) (omega arith) (two_same p q hp hq (record_at r + 6) s.c).1
  node_byte r s (suc (suc (suc (suc (suc (suc (suc (suc k)))))))) l = word_byte k (omega arith)
    where
      four : (byte_at p (record_at r + 8) ≡ byte_at q (record_at r + 8)) × (byte_at p (record_at r + 8 + 1) ≡ byte_at q (record_at r + 8 + 1))
          × (byte_at p (record_at r + 8 + 2) ≡ byte_at q (record_at r + 8 + 2)) × (byte_at p (record_at r + 8 + 2 + 1) ≡ byte_at q (record_at r + 8 + 2 + 1))
      four = four_same p q hp hq (record_at r + 8) s.word

      word_byte : (k : ℕ) → k < 4 → byte_at p (record_at r + suc (suc (suc (suc (suc (suc (suc (suc k)))))))) ≡ byte_at q (record_at r + suc (suc (suc (suc (suc (suc (suc (suc k))))))))
      word_byte zero l = four.0
      word_byte (suc zero) l = moved _ (record_at r + 8 + 1) (omega arith) four.1
      word_byte (suc (suc zero)) l = moved _ (record_at r + 8 + 2) (omega arith) four.2
      word_byte (suc (suc (suc zero))) l = moved _ (record_at r + 8 + 2 + 1) (omega arith) four.3
      word_byte (suc (suc (suc (suc k)))) l = absurd (omega arith)

  -- Behind the nodes all is zero.
  record_byte : (r k : ℕ) → r < records p → k < 12 → byte_at p (record_at r + k) ≡ byte_at q (record_at r + k)
  unfolding records
  record_byte r k l h = go (dec_lt r (nodes p))
    where
      go : Dec (r < nodes p) → byte_at p (record_at r + k) ≡ byte_at q (record_at r + k)
      go (yes i) = node_byte r (same r i) k h
      go (no i) =
          let b = blocks_same in
          (fp.each_record r l).zeros (nodes p) (omega arith) (after_nodes p (omega arith)) (record_at r + k) (omega arith) (omega arith)
          ∙ sym ((fq.each_record r (omega arith)).zeros (nodes q) (omega arith) (after_nodes q (omega arith)) (record_at r + k) (omega arith) (omega arith))

  -- The bytes of a block before its check.
  inner_byte : (j o : ℕ) → j < blocks p → o < 504 → byte_at p (512 * j + (4 + o)) ≡ byte_at q (512 * j + (4 + o))
  unfolding records record_at block_at
  inner_byte j o l h =
      let r = 42 * j + o / 12 in
      let z : 512 * j + (4 + o) ≡ 512 * (r / 42) + 4 + 12 * (r % 42) + o % 12 = omega arith in
      moved (512 * j + (4 + o)) (512 * (r / 42) + 4 + 12 * (r % 42) + o % 12) z (record_byte r (o % 12) (omega arith) (omega arith))

  low_byte : (j o : ℕ) → j < blocks p → o < 508 → byte_at p (512 * j + o) ≡ byte_at q (512 * j + o)
  unfolding number_in count_in edition_in block_at
  low_byte j zero l h =
      let m = fp.each_number j l in
      let n = fq.each_number j (omega (arith, blocks_same)) in
      moved (512 * j + 0) (512 * j) (omega arith) (two_same p q hp hq (512 * j) (m.number ∙ sym n.number)).0
  low_byte j (suc zero) l h =
      let m = fp.each_number j l in
      let n = fq.each_number j (omega (arith, blocks_same)) in
      (two_same p q hp hq (512 * j) (m.number ∙ sym n.number)).1
  low_byte j (suc (suc zero)) l h = (fp.each_number j l).count ∙ blocks_same ∙ sym (fq.each_number j (omega (arith, blocks_same))).count
  low_byte j (suc (suc (suc zero))) l h = (fp.each_number j l).one_edition ∙ editions ∙ sym (fq.each_number j (omega (arith, blocks_same))).one_edition
  low_byte j (suc (suc (suc (suc o)))) l h = moved _ (512 * j + (4 + o)) (omega arith) (inner_byte j o l (omega arith))

  -- And so its check.
  sums_same : (g k : ℕ → ℕ) (i count : ℕ) → ((m : ℕ) → i ≤ m → m < i + count → g m ≡ k m) → sum_from g i count ≡ sum_from k i count
  unfolding sum_from
  sums_same g k i zero h = refl
  sums_same g k i (suc count) h = λ j. h i (omega arith) (omega arith) j + sums_same g k (suc i) count (λ m l u. h m (omega arith) (omega arith)) j

  check_same : (j : ℕ) → j < blocks p → check_in p j ≡ check_in q j
  unfolding block_at
  check_same j l =
      (fp.each_sum j l).check
      ∙ sums_same (λ i. (i + 1) * byte_at p (512 * j + i)) (λ i. (i + 1) * byte_at q (512 * j + i)) 0 508 (λ m h u. ap (λ (x : ℕ). (m + 1) * x) (low_byte j m l u))
      ∙ sym (fq.each_sum j (omega (arith, blocks_same))).check

  check_byte : (j o : ℕ) → j < blocks p → o < 4 → byte_at p (512 * j + (508 + o)) ≡ byte_at q (512 * j + (508 + o))
  unfolding check_in block_at
  check_byte j zero l h = moved _ (512 * j + 508) (omega arith) (four_same p q hp hq (512 * j + 508) (check_same j l)).0
  check_byte j (suc zero) l h = moved _ (512 * j + 508 + 1) (omega arith) (four_same p q hp hq (512 * j + 508) (check_same j l)).1
  check_byte j (suc (suc zero)) l h = moved _ (512 * j + 508 + 2) (omega arith) (four_same p q hp hq (512 * j + 508) (check_same j l)).2
  check_byte j (suc (suc (suc zero))) l h = moved _ (512 * j + 508 + 2 + 1) (omega arith) (four_same p q hp hq (512 * j + 508) (check_same j l)).3
  check_byte j (suc (suc (suc (suc o)))) l h = absurd (omega arith)

  pub one_table : p ≡ q
  one_table = same_list p q lengths_same (λ i l. go i l (dec_lt (i % 512) 508))
    where
      go : (i : ℕ) → i < length p → Dec (i % 512 < 508) → byte_at p i ≡ byte_at q i
      go i l (yes h) = let b = blocks_are p fp wp in moved i (512 * (i / 512) + i % 512) (omega arith) (low_byte (i / 512) (i % 512) (omega arith) h)
      go i l (no h) =
          let b = blocks_are p fp wp in
          moved i (512 * (i / 512) + (508 + (i % 512 - 508))) (omega arith) (check_byte (i / 512) (i % 512 - 508) (omega arith) (omega arith))
