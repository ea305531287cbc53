-- Format, as document 01 says it ("Blocks and nodes"): codes 1-4, at every place.
-- Assumes nothing: these are definitions.
use Rattle.std.specs.Prelude.{◌≡◌, ◌⊎◌, ℕ, zero, suc, ◌+◌, ◌*◌, ◌/◌, ◌%◌, ◌≤◌, ◌<◌, length}
use Rattle.rules.specs.Bytes.{Bytes, byte_at}
use Rattle.rules.specs.Layout.{blocks, block_at, number_in, count_in, edition_in, edition, check_in, records, record_at, kind_at, type_at, a_at, b_at, c_at, word_at}
use Rattle.rules.specs.Kinds.{fields_of}
use Rattle.rules.specs.declared.Field.{Field}
use Rattle.rules.specs.declared.Field.TheVariants.{Unused, Channel, PresentByte, Signal, Expression, FirstBranch, NextBranch, FirstCase, NextCase, Binder, Target}
use Rattle.rules.specs.declared.TypeField.{TypeField}
use Rattle.rules.specs.declared.TypeField.TheVariants.{NoType, AnyType, PlainType, ValueType}

-- "A program file is 1 to 24 blocks of 512 bytes."
pub record WholeBlocks (p : Bytes) : Type 0 where
  pub count : ℕ
  pub least : 1 ≤ count
  pub most : count ≤ 24
  pub long : length p ≡ 512 * count

-- The sum of f i for so many numbers i, from one on.
unfoldable pub sum_from : (ℕ → ℕ) → ℕ → ℕ → ℕ
sum_from f i zero = 0
sum_from f i (suc left) = f i + sum_from f (suc i) left

-- "Bytes 508-511: the check, the sum of (i+1) times byte i for i = 0..507."
pub record SumRight (p : Bytes) (j : ℕ) : Type 0 where
  pub check : check_in p j ≡ sum_from (λ i. (i + 1) * byte_at p (block_at j + i)) 0 508

-- "Bytes 0-1: block number from 0." "Byte 3 of every block is 1 for [edition two], and the block count is byte 2 alone; edition one files keep byte
-- 3 zero."
pub record NumberRight (p : Bytes) (j : ℕ) : Type 0 where
  pub number : number_in p j ≡ j
  pub count : count_in p j ≡ blocks p
  pub one_edition : edition_in p j ≡ edition p
  pub known_edition : edition_in p j ≤ 1

-- "Types: 1 unit, 2 bool, 3 int; 5, 6, 7 are maybe of these. Types 1-3 are plain."
abbrev pub IsPlain : ℕ → Type 0
IsPlain t = (1 ≤ t) × (t ≤ 3)

abbrev pub IsMaybe : ℕ → Type 0
IsMaybe t = (5 ≤ t) × (t ≤ 7)

abbrev pub IsType : ℕ → Type 0
IsType t = IsPlain t ⊎ IsMaybe t

-- "Present (1; for types 5-7 also 0). The word is 0 for unit and for an absent value, 0 or 1 for bool."
pub record ValueRight (t present₀ word : ℕ) : Type 0 where
  pub present : (present₀ ≡ 1) ⊎ ((present₀ ≡ 0) × IsMaybe t)
  pub absent : present₀ ≡ 0 → word ≡ 0
  pub unit : (t ≡ 1) ⊎ (t ≡ 5) → word ≡ 0
  pub bool : (t ≡ 2) ⊎ (t ≡ 6) → word ≤ 1

-- The type and the word, where the table of kinds names no type, a type, a plain type or a value.
abbrev pub TypeRight : TypeField → ℕ → ℕ → ℕ → Type 0
TypeRight NoType t b w = (t ≡ 0) × (w ≡ 0)
TypeRight AnyType t b w = IsType t × (w ≡ 0)
TypeRight PlainType t b w = IsPlain t × (w ≡ 0)
TypeRight ValueType t b w = IsType t × ValueRight t b w

-- "A field not named for its kind is zero." "a: channel 0-7."
abbrev pub FieldRight : Field → ℕ → Type 0
FieldRight Unused x = x ≡ 0
FieldRight Channel x = x ≤ 7
FieldRight PresentByte x = Unit {0}
FieldRight Signal x = Unit {0}
FieldRight Expression x = Unit {0}
FieldRight FirstBranch x = Unit {0}
FieldRight NextBranch x = Unit {0}
FieldRight FirstCase x = Unit {0}
FieldRight NextCase x = Unit {0}
FieldRight Binder x = Unit {0}
FieldRight Target x = Unit {0}

-- The kinds of the table: 1-10 and 16-29.
abbrev pub IsKind : ℕ → Type 0
IsKind k = ((1 ≤ k) × (k ≤ 10)) ⊎ ((16 ≤ k) × (k ≤ 29))

-- A record of a node is as the table of kinds says.
pub record NodeRight (p : Bytes) (r : ℕ) : Type 0 where
  pub kind : IsKind (kind_at p r)
  pub type : TypeRight (fields_of (kind_at p r)).ty (type_at p r) (b_at p r) (word_at p r)
  pub a : FieldRight (fields_of (kind_at p r)).a (a_at p r)
  pub b : FieldRight (fields_of (kind_at p r)).b (b_at p r)
  pub c : FieldRight (fields_of (kind_at p r)).c (c_at p r)

-- All 12 bytes of a record are zero.
abbrev pub AllZero : Bytes → ℕ → Type 0
AllZero p r = (i : ℕ) → record_at r ≤ i → i < record_at r + 12 → byte_at p i ≡ 0

-- "Kind 0 stands only in the last block, not as its first record,
pub record EndRight (p : Bytes) (r : ℕ) : Type 0 where
  pub last_block : suc (r / 42) ≡ blocks p
  pub not_first : r % 42 ≡ 0 → ⊥

-- and it and every later record are all zero." Record r's own rule.
pub record RecordRight (p : Bytes) (r : ℕ) : Type 0 where
  pub end : kind_at p r ≡ 0 → EndRight p r
  pub zeros : (q : ℕ) → q ≤ r → kind_at p q ≡ 0 → AllZero p r
  pub node : (kind_at p r ≡ 0 → ⊥) → NodeRight p r

-- Codes 1-4: every block and every record.
pub record Formatted (p : Bytes) : Type 0 where
  pub whole : WholeBlocks p
  pub each_sum : (j : ℕ) → j < blocks p → SumRight p j
  pub each_number : (j : ℕ) → j < blocks p → NumberRight p j
  pub each_record : (r : ℕ) → r < records p → RecordRight p r
