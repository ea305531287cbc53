-- The table of a part has the right format and shape: codes 1-5 do not occur.
-- Assumes nothing.
use Rattle.std.specs.Prelude.{if◌then◌else◌, Option, Some, None, ℕ}
use mathlib.Core.Path.{◌≡◌, refl, sym, ap, ◌∙◌}
use mathlib.Core.List.{List, [], ◌∷◌, ◌++◌}
use mathlib.Core.Bool.{Bool, true, false, not}
use Prim.Native.Nat.{ℕ, zero, suc, ◌+◌, ◌-◌, ◌*◌, ◌/◌, ◌%◌, ◌<◌, ◌≤◌}
use native.Mathlib.Decide.{dec_lt}
use native.Mathlib.Omega.{arith}
use lib.Dec.{eqb, ltb, leb}
use lib.ListN.{length, take, drop}
use borrow.Author.Tests.{lt-ltb, le-ltb, le-leb, eq-eqb, ne_eqb}
use Rattle.rules.specs.Bytes.{Bytes, byte_at, u16_at, u32_at, u64_at, first_from, first, ◌and◌, ◌or◌}
use Rattle.rules.specs.Layout.{blocks, block_at, records, record_at, kind_at, nodes, place_or, number_in, count_in, edition_in, edition, check_in}
use Rattle.rules.specs.Kinds.{is_kind, is_signal, is_branch, is_case, is_expression, fields_of}
use Rattle.rules.specs.Format.{length_wrong, sum_wrong, number_wrong, record_wrong, node_wrong, may_end, is_zero, after_end, check_of}
use Rattle.rules.specs.Shape.{shape_wrong, children_wrong, named, named_below}
use Rattle.rules.specs.Accepted.{Formed}
use Rattle.rules.specs.Node.{IsNode}
use Rattle.rules.specs.declared.Node.{Node}
use Rattle.rules.specs.declared.Field.{Field}
use Rattle.rules.proofs.Static.{not_both}
use Rattle.written.specs.Parts.{Part, part, Slot, holds, child, size_p, size_k, last_p, row_p, rows_p, rows_k}
use Rattle.written.specs.Table.{row_bytes, rows_bytes, blocks_from, blocks_for, table_of}
use Rattle.written.specs.Right.{kind_p, Fits, HeadRight, RightP, RightK, HoldsP, HoldsK}
use Rattle.written.proofs.ListLaws.{app_length, app_assoc, beyond, Small, small_nil, small_cons, small_app, small_number}
use Rattle.written.proofs.Blocks.{blocks_length, record_byte, number_reads, count_reads, edition_reads, check_reads}
use Rattle.written.proofs.Rows.{nth, Stands, Wide, row_reads, bytes_length, rows_p_length, last_size, part_held}
use Rattle.written.proofs.Shaping.{Fine, part_fine, part_named, among, among_in, kind_of}

-- Places of tests that all fail, and the first that does not.
step_no : (test : ℕ → Bool) (left k : ℕ) → test k ≡ false → first_from test k (suc left) ≡ first_from test (suc k) left
unfolding first_from
step_no test left k e = rw (e, first_from)

step_yes : (test : ℕ → Bool) (left k : ℕ) → test k ≡ true → first_from test k (suc left) ≡ Some k
unfolding first_from
step_yes test left k e = rw (e, first_from)

step_none : (test : ℕ → Bool) (k : ℕ) → first_from test k 0 ≡ None
unfolding first_from
step_none test k = refl

nowhere : (test : ℕ → Bool) (left k : ℕ) → ((m : ℕ) → k ≤ m → m < k + left → test m ≡ false) → first_from test k left ≡ None
nowhere test zero k h = step_none test k
nowhere test (suc left) k h = step_no test left k (h k (omega arith) (omega arith)) ∙ nowhere test left (suc k) λ m l g. h m (omega arith) (omega arith)

pub all_nowhere : (test : ℕ → Bool) (count : ℕ) → ((m : ℕ) → m < count → test m ≡ false) → first test count ≡ None
unfolding first
all_nowhere test count h = nowhere test count 0 λ m l g. h m (omega arith)

stop_here : (test : ℕ → Bool) (left k d : ℕ) → test k ≡ true → place_or (first_from test k (suc left)) d ≡ k
unfolding place_or
stop_here test left k d e = ap (λ (x : Option ℕ). place_or x d) (step_yes test left k e)

stops_at : (test : ℕ → Bool) (left k n d : ℕ) → d ≡ k + left → k ≤ n → n ≤ d → ((m : ℕ) → m < n → test m ≡ false) → (n < d → test n ≡ true)
    → place_or (first_from test k left) d ≡ n
unfolding first_from place_or
stops_at test zero k n d e l g h j = omega arith
stops_at test (suc left) k n d e l g h j = go (dec_lt k n) (λ i. stops_at test left (suc k) n d (omega arith) i g h j)
  where
    go : Dec (k < n) → (k < n → place_or (first_from test (suc k) left) d ≡ n) → place_or (first_from test k (suc left)) d ≡ n
    go (yes i) more = ap (λ (x : Option ℕ). place_or x d) (step_no test left k (h k i)) ∙ more i
    go (no i) more =
        let z : n ≡ k = omega arith in
        stop_here test left k d (ap test (sym z) ∙ j (omega arith)) ∙ sym z

pub nodes_are : (q : Bytes) (n : ℕ) → n ≤ records q → ((m : ℕ) → m < n → eqb (kind_at q m) 0 ≡ false) → (n < records q → eqb (kind_at q n) 0 ≡ true) → nodes q ≡ n
unfolding nodes first
nodes_are q n l h j = stops_at (λ r. eqb (kind_at q r) 0) (records q) 0 n (records q) (omega arith) (omega arith) l h j

-- A kind is not 0.
some_kind : (k : ℕ) → is_kind k ≡ true → eqb k 0 ≡ false
unfolding is_kind is_signal is_branch is_case is_expression ◌and◌ ◌or◌
some_kind k e = ne_eqb k 0 λ z. not_both (ap is_kind (sym z) ∙ e)

-- Each byte of the records is one.
rows_join : (l m : List Node) → rows_bytes (l ++ m) ≡ rows_bytes l ++ rows_bytes m
unfolding rows_bytes
rows_join [] m = refl
rows_join (n ∷ l) m = ap (λ (x : Bytes). row_bytes n ++ x) (rows_join l m) ∙ sym (app_assoc (row_bytes n) (rows_bytes l) (rows_bytes m))

small_join : (l m : List Node) → Small (rows_bytes l) → Small (rows_bytes m) → Small (rows_bytes (l ++ m))
small_join l m h g = rw (rows_join l m) (small_app (rows_bytes l) (rows_bytes m) h g)

small_row : (n : Node) → n.kind < 256 → n.ty < 256 → Small (rows_bytes (n ∷ []))
unfolding rows_bytes row_bytes
small_row n h g =
    small_cons n.kind _ h (small_cons n.ty _ g (small_app _ [] (small_app _ _ (small_number 2 n.a)
    (small_app _ _ (small_number 2 n.b) (small_app _ _ (small_number 2 n.c) (small_number 4 n.word)))) small_nil))

none_small : Small (rows_bytes [])
unfolding rows_bytes
none_small = small_nil

mutual
  unfolding rows_p row_p

  pub part_small : (p : Part) (lo : ℕ) → RightP p → Small (rows_bytes (rows_p p lo))
  part_small (part k t w a b c) lo r =
      small_join (rows_k a lo) _ (slot_small a lo (fields_of k).a r.1)
      (small_join (rows_k b (lo + size_k a)) _ (slot_small b (lo + size_k a) (fields_of k).b r.2)
      (small_join (rows_k c (lo + size_k a + size_k b)) _ (slot_small c (lo + size_k a + size_k b) (fields_of k).c r.3)
      (small_row (row_p lo (part k t w a b c)) r.0.kind_small r.0.type_small)))

  pub slot_small : (s : Slot) (lo : ℕ) (f : Field) → RightK s f → Small (rows_bytes (rows_k s lo))
  slot_small (holds x) lo f r = none_small
  slot_small (child p) lo f r = part_small p lo r.2

module _ (e₀ : ℕ) (p : Part) (right : RightP p) (few : size_p p ≤ 1008) where
  abbrev n : ℕ
  n = size_p p

  abbrev count : ℕ
  count = blocks_for (size_p p)

  abbrev s : Bytes
  s = rows_bytes (rows_p p 0)

  abbrev q : Bytes
  q = table_of e₀ p

  one_least : 1 ≤ n
  one_least = omega (arith, last_size 0 p)

  count_is : (42 * count < n + 42) × (n ≤ 42 * count)
  unfolding blocks_for
  count_is = (omega arith, omega arith)

  pub length_is : length q ≡ 512 * count
  unfolding table_of
  length_is = blocks_length e₀ count count 0 s

  pub blocks_is : blocks q ≡ count
  unfolding blocks
  blocks_is = omega (arith, length_is)

  pub records_is : records q ≡ 42 * count
  unfolding records
  records_is = omega (arith, blocks_is)

  s_length : length s ≡ 12 * n
  s_length = omega (arith, bytes_length (rows_p p 0), rows_p_length p 0)

  -- The table holds the records.
  pub table_held : HoldsP p q 0
  unfolding table_of Stands
  table_held =
      let l = rows_p_length p 0 in
      part_held (rows_p p 0) q (λ r h w. row_reads e₀ count count (rows_p p 0) r h (omega (arith, count_is.1)) w) (omega arith)
      p 0 (λ i h. ap (nth (rows_p p 0)) (let z : 0 + i ≡ i = omega arith in z)) right (omega arith)

  pub table_fine : (r : ℕ) → r < n → Fine q r
  table_fine r h = part_fine p q 0 table_held right r (omega arith) (omega arith)

  -- After the last record all is zero.
  rest : (r i k : ℕ) → n ≤ r → r < 42 * count → i < 12 → k ≡ record_at r + i → byte_at q k ≡ 0
  unfolding table_of
  rest r i k h g j e = ap (byte_at q) e ∙ record_byte e₀ count count s r i g j ∙ beyond s (12 * r + i) (omega (arith, s_length))

  no_kind : (r : ℕ) → n ≤ r → r < 42 * count → kind_at q r ≡ 0
  unfolding kind_at
  no_kind r h g = rest r 0 (record_at r) h g (omega arith) (omega arith)

  kinded : (r : ℕ) → r < n → eqb (kind_at q r) 0 ≡ false
  kinded r h = some_kind (kind_at q r) (table_fine r h).is_kind_lem

  pub nodes_is : nodes q ≡ n
  nodes_is = nodes_are q n (omega (arith, records_is, count_is.1)) kinded (λ h. eq-eqb _ 0 (no_kind n (omega arith) (omega (arith, records_is))))

  -- Code 1.
  length_ok : length_wrong q ≡ false
  unfolding length_wrong ◌or◌
  length_ok =
      let l = length_is in
      let c = count_is in
      let o = one_least in
      let x : 1 ≤ count = omega arith in
      let y : length q ≤ 12288 = omega arith in
      let z : length q % 512 ≡ 0 = omega arith in
      simp (ne_eqb (length q) 0 (λ h. omega arith), le-ltb 12288 (length q) y, eq-eqb (length q % 512) 0 z)

  -- Code 4.
  after : (r : ℕ) → r < n → after_end q r ≡ false
  unfolding after_end
  after zero h = refl
  after (suc r) h = kinded r (omega arith)

  record_node : (r : ℕ) → r < n → record_wrong q r ≡ false
  unfolding record_wrong ◌or◌
  record_node r h = simp (kinded r h, after r h, (table_fine r h).record_right)

  zero_rest : (r : ℕ) → n ≤ r → r < 42 * count → is_zero q r ≡ true
  unfolding is_zero u64_at u32_at u16_at ◌and◌
  zero_rest r h g = simp (
    rest r 0 (record_at r) h g (omega arith) (omega arith),
    rest r 1 (record_at r + 1) h g (omega arith) (omega arith),
    rest r 2 (record_at r + 2) h g (omega arith) (omega arith),
    rest r 3 (record_at r + 2 + 1) h g (omega arith) (omega arith),
    rest r 4 (record_at r + 4) h g (omega arith) (omega arith),
    rest r 5 (record_at r + 4 + 1) h g (omega arith) (omega arith),
    rest r 6 (record_at r + 4 + 2) h g (omega arith) (omega arith),
    rest r 7 (record_at r + 4 + 2 + 1) h g (omega arith) (omega arith),
    rest r 8 (record_at r + 8) h g (omega arith) (omega arith),
    rest r 9 (record_at r + 8 + 1) h g (omega arith) (omega arith),
    rest r 10 (record_at r + 8 + 2) h g (omega arith) (omega arith),
    rest r 11 (record_at r + 8 + 2 + 1) h g (omega arith) (omega arith),
  )

  may_end_lem : (r : ℕ) → n ≤ r → r < 42 * count → may_end q r ≡ true
  unfolding may_end ◌and◌
  may_end_lem r h g =
      let c = count_is in
      let x : suc (r / 42) ≡ blocks q = omega (arith, blocks_is) in
      simp (eq-eqb (suc (r / 42)) (blocks q) x, ne_eqb (r % 42) 0 (λ z. omega (arith, one_least)))

  record_rest : (r : ℕ) → n ≤ r → r < 42 * count → record_wrong q r ≡ false
  unfolding record_wrong ◌and◌
  record_rest r h g = simp (eq-eqb (kind_at q r) 0 (no_kind r h g), may_end_lem r h g, zero_rest r h g)

  record_ok : (r : ℕ) → r < records q → record_wrong q r ≡ false
  record_ok r h = go (dec_lt r n)
    where
      go : Dec (r < n) → record_wrong q r ≡ false
      go (yes i) = record_node r i
      go (no i) = record_rest r (omega arith) (omega (arith, records_is))

  -- Codes 2 and 3.
  sum_ok : e₀ < 256 → (j : ℕ) → j < blocks q → sum_wrong q j ≡ false
  unfolding sum_wrong table_of
  sum_ok h j g = simp (eq-eqb _ _ (check_reads e₀ count count s j (omega (arith, blocks_is)) h (omega (arith, count_is.0)) (part_small p 0 right)))

  number : (j : ℕ) → j < count → number_in q j ≡ j
  unfolding table_of
  number j l = number_reads e₀ count count s j l (omega (arith, count_is.0))

  counted : (j : ℕ) → j < count → count_in q j ≡ count
  unfolding table_of
  counted j l = count_reads e₀ count count s j l

  editioned : (j : ℕ) → j < count → edition_in q j ≡ e₀
  unfolding table_of
  editioned j l = edition_reads e₀ count count s j l

  pub edition_is : edition q ≡ e₀
  unfolding edition
  edition_is = editioned 0 (omega (arith, one_least, count_is.1))

  number_ok : e₀ ≤ 1 → (j : ℕ) → j < blocks q → number_wrong q j ≡ false
  unfolding number_wrong ◌and◌
  number_ok h j g =
      let l : j < count = omega (arith, blocks_is) in
      simp (
        eq-eqb (number_in q j) j (number j l),
        eq-eqb (count_in q j) (blocks q) (counted j l ∙ sym blocks_is),
        eq-eqb (edition_in q j) (edition q) (editioned j l ∙ sym edition_is),
        le-leb (edition_in q j) 1 (omega (arith, editioned j l)),
      )

  -- Codes 1-4, in either edition.
  pub table_formed : e₀ ≤ 1 → Formed q
  table_formed h = record {
    length_right = length_ok;
    sums_right = all_nowhere (sum_wrong q) (blocks q) (sum_ok (omega arith));
    numbers_right = all_nowhere (number_wrong q) (blocks q) (number_ok h);
    records_right = all_nowhere (record_wrong q) (records q) record_ok;
  }

  -- Code 5.
  once : (r : ℕ) → suc r < n → named q r ≡ 1
  unfolding named named_below
  once r g =
      ap (named_below q r) (nodes_is ∙ (let z : n ≡ 0 + n = omega arith in z)) ∙ part_named p q 0 r table_held right (omega arith)
      ∙ (let z : 0 + among 0 (last_p 0 p) r ≡ 1 = omega (arith, among_in 0 (last_p 0 p) r (omega arith) (omega (arith, last_size 0 p))) in z)

  inner : (r : ℕ) → suc r < n → shape_wrong q r ≡ false
  unfolding shape_wrong ◌or◌
  inner r g = simp ((table_fine r (omega arith)).children_right, ne_eqb (suc r) (nodes q) (λ z. omega (arith, nodes_is)), once r g)

  outer : is_signal (kind_p p) ≡ true → (r : ℕ) → suc r ≡ n → shape_wrong q r ≡ false
  unfolding shape_wrong ◌or◌
  outer h r g =
      let z : r ≡ last_p 0 p = omega (arith, last_size 0 p) in
      let k : is_signal (kind_at q r) ≡ true = ap (λ (x : ℕ). is_signal (kind_at q x)) z ∙ ap is_signal (kind_of p q 0 table_held) ∙ h in
      simp ((table_fine r (omega arith)).children_right, eq-eqb (suc r) (nodes q) (omega (arith, nodes_is)), k)

  pub table_shaped : is_signal (kind_p p) ≡ true → first (shape_wrong q) (nodes q) ≡ None
  table_shaped h = all_nowhere (shape_wrong q) (nodes q) λ r g. go r (omega (arith, nodes_is)) (dec_lt (suc r) n)
    where
      go : (r : ℕ) → r < n → Dec (suc r < n) → shape_wrong q r ≡ false
      go r l (yes i) = inner r i
      go r l (no i) = outer h r (omega arith)
