-- What code 4 establishes of a node: its type, its word and its channel are as the table of kinds says.
-- Assumes nothing.
use Rattle.std.specs.Prelude.{Some}
use mathlib.Core.Path.{◌≡◌, refl, sym, ap, ◌∙◌}
use mathlib.Core.Bool.{Bool, true, false}
use Prim.Native.Nat.{ℕ, zero, suc, ◌+◌, ◌≤◌, ◌<◌}
use native.Mathlib.Omega.{arith}
use lib.Dec.{eqb}
use borrow.Author.Tests.{eqb-true, eqb-false, ltb-false}
use Rattle.rules.specs.Bytes.{Bytes, first_from, first, ◌and◌}
use Rattle.rules.specs.Values.{is_type, is_plain, value_fits}
use Rattle.rules.specs.Layout.{records, nodes, place_or, kind_at, type_at, a_at, b_at, word_at}
use Rattle.rules.specs.Format.{field_wrong, type_field_wrong, node_wrong, record_wrong}
use Rattle.rules.specs.Kinds.{row, fields_of}
use Rattle.rules.specs.Accepted.{Formed}
use Rattle.rules.specs.declared.TypeField.TheVariants.{PlainType, ValueType}
use Rattle.rules.proofs.Static.{and_both}
use Rattle.rules.proofs.Kids.{or_none, not_not}
use Rattle.rules.proofs.Established.{nowhere_from, nodes_within}

-- Before the first place where a test holds it fails.
before_step : (test : ℕ → Bool) (left k n count : ℕ) (b d : Bool) → test k ≡ b → eqb k n ≡ d → k ≤ n
    → n < place_or (elim b [ true ↦ Some k | false ↦ first_from test (suc k) left ]) count
    → (n < place_or (first_from test (suc k) left) count → (k ≡ n → ⊥) → test n ≡ false) → test n ≡ false
unfolding place_or
before_step test left k n count true d q r l h more = absurd (omega arith)
before_step test left k n count false true q r l h more = ap test (sym (eqb-true k n r)) ∙ q
before_step test left k n count false false q r l h more = more h (eqb-false k n r)

before_first : (test : ℕ → Bool) (left k n count : ℕ) → k ≤ n → n < k + left → n < place_or (first_from test k left) count → test n ≡ false
unfolding first_from
before_first test zero k n count l g h = absurd (omega arith)
before_first test (suc left) k n count l g h =
    before_step test left k n count (test k) (eqb k n) refl refl l h
    λ f d. before_first test left (suc k) n count (omega (arith, d)) (omega arith) f

-- A node's kind is not 0.
pub some_kind : (p : Bytes) (n : ℕ) → n < nodes p → eqb (kind_at p n) 0 ≡ false
unfolding nodes first
some_kind p n h = before_first (λ r. eqb (kind_at p r) 0) (records p) 0 n (records p) (omega arith) (omega (arith, nodes_within p)) h

-- So its record is that of a node.
pub node_right : (p : Bytes) → Formed p → (n : ℕ) → n < nodes p → node_wrong p n ≡ false
unfolding first record_wrong
node_right p f n h =
    let r = nowhere_from (record_wrong p) (records p) 0 n f.records_right (omega arith) (omega (arith, nodes_within p)) in
    (or_none _ _ (simp (some_kind p n h) at r)).1

module _ (p : Bytes) (f : Formed p) (n : ℕ) (h : n < nodes p) where
  -- The type field, with the word, and the first field of a node of kind k.
  type_right : (k : ℕ) → kind_at p n ≡ k → type_field_wrong (fields_of k).ty (type_at p n) (b_at p n) (word_at p n) ≡ false
  unfolding node_wrong
  type_right k e = rw (← e) (or_none _ _ (or_none _ _ (or_none _ _ (or_none _ _ (node_right p f n h)).0).0).0).1

  a_right : (k : ℕ) → kind_at p n ≡ k → field_wrong (fields_of k).a (a_at p n) ≡ false
  unfolding node_wrong
  a_right k e = rw (← e) (or_none _ _ (or_none _ _ (or_none _ _ (node_right p f n h)).0).0).1

  -- A channel is 0-7.
  pub input_channel : kind_at p n ≡ 1 → a_at p n < 8
  unfolding fields_of row field_wrong
  input_channel e = omega (arith, ltb-false 7 (a_at p n) (a_right 1 e))

  -- A delay's and a constant's value is one.
  value_right : (k : ℕ) → kind_at p n ≡ k → (fields_of k).ty ≡ ValueType
      → (is_type (type_at p n) ≡ true) × (value_fits (type_at p n) (b_at p n) (word_at p n) ≡ true)
  unfolding type_field_wrong
  value_right k e q = and_both _ _ (not_not _ (rw q at (type_right k e)))

  pub delay_value : kind_at p n ≡ 4 → (is_type (type_at p n) ≡ true) × (value_fits (type_at p n) (b_at p n) (word_at p n) ≡ true)
  unfolding fields_of row
  delay_value e = value_right 4 e refl

  pub constant_value : kind_at p n ≡ 17 → (is_type (type_at p n) ≡ true) × (value_fits (type_at p n) (b_at p n) (word_at p n) ≡ true)
  unfolding fields_of row
  constant_value e = value_right 17 e refl

  -- A switch, a branch and a take declare a plain type.
  plain_right : (k : ℕ) → kind_at p n ≡ k → (fields_of k).ty ≡ PlainType → is_plain (type_at p n) ≡ true
  unfolding type_field_wrong
  plain_right k e q = (and_both _ _ (not_not _ (rw q at (type_right k e)))).0

  pub switch_type : kind_at p n ≡ 6 → is_plain (type_at p n) ≡ true
  unfolding fields_of row
  switch_type e = plain_right 6 e refl

  pub branch_type : kind_at p n ≡ 9 → is_plain (type_at p n) ≡ true
  unfolding fields_of row
  branch_type e = plain_right 9 e refl

  pub taking_type : kind_at p n ≡ 29 → is_plain (type_at p n) ≡ true
  unfolding fields_of row ◌and◌
  taking_type e = plain_right 29 e refl
