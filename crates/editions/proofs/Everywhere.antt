-- Records that are the same in two files of whole blocks and one length are the same past the end too, where every byte reads as zero.
-- Assumes nothing.
use mathlib.Core.Path.{◌≡◌, refl, sym, ◌∙◌}
use mathlib.Core.Bool.{Bool, true, false, not}
use Prim.Native.Nat.{ℕ, ◌+◌, ◌*◌, ◌/◌, ◌%◌, ◌<◌, ◌≤◌}
use native.Mathlib.Omega.{arith}
use lib.Dec.{eqb, ltb}
use lib.ListN.{length, get_or, get_or-eq_default}
use borrow.Author.Tests.{eqb-true, ltb-true, ltb-false}
use Rattle.rules.specs.Bytes.{Bytes, byte_at, u16_at, u32_at, ◌or◌}
use Rattle.rules.specs.Layout.{blocks, block_at, records, record_at, kind_at, type_at, a_at, b_at, c_at, word_at}
use Rattle.rules.specs.Format.{length_wrong}
use Rattle.rules.proofs.Kids.{or_none, not_not}
use Rattle.editions.specs.Twins.{SameRecord, Twins}
use Rattle.editions.proofs.SameTree.{Everywhere}

module _ (p q : Bytes) (long : length p ≡ length q) where
  -- Past the end a byte reads as zero, and so do numbers of two and four.
  byte_past : (x : ℕ) → length p ≤ x → byte_at p x ≡ byte_at q x
  unfolding byte_at
  byte_past x h = get_or-eq_default p 0 {n = x} h ∙ sym (get_or-eq_default q 0 {n = x} (omega arith))

  two_past : (x : ℕ) → length p ≤ x → u16_at p x ≡ u16_at q x
  unfolding u16_at
  two_past x h = let a = byte_past x h in let b = byte_past (x + 1) (omega arith) in λ i. a i + 256 * b i

  four_past : (x : ℕ) → length p ≤ x → u32_at p x ≡ u32_at q x
  unfolding u32_at
  four_past x h = let a = two_past x h in let b = two_past (x + 2) (omega arith) in λ i. a i + 65536 * b i

  -- A record behind the last.
  record_past : (r : ℕ) → length p ≤ record_at r → SameRecord p q r
  unfolding kind_at type_at a_at b_at c_at word_at
  record_past r h =
      record {
        kinds = byte_past (record_at r) h;
        types = byte_past (record_at r + 1) (omega arith);
        firsts = two_past (record_at r + 2) (omega arith);
        seconds = two_past (record_at r + 4) (omega arith);
        thirds = two_past (record_at r + 6) (omega arith);
        words = four_past (record_at r + 8) (omega arith);
      }

-- A file of whole blocks ends with its last record's block.
ends : (p : Bytes) → length_wrong p ≡ false → (r : ℕ) → records p ≤ r → length p ≤ record_at r
unfolding length_wrong records blocks record_at block_at
ends p l r h = let e = eqb-true (length p % 512) 0 (not_not _ (or_none _ _ l).1) in omega arith

pub everywhere : (p q : Bytes) → Twins p q → length_wrong p ≡ false → Everywhere p q
everywhere p q t l =
    record {
      long = t.as_long;
      kind = λ r. (same r).kinds;
      ty = λ r. (same r).types;
      a = λ r. (same r).firsts;
      b = λ r. (same r).seconds;
      c = λ r. (same r).thirds;
      word = λ r. (same r).words;
    }
  where
    go : (r : ℕ) (b : Bool) → ltb r (records p) ≡ b → SameRecord p q r
    go r true e = t.table r (ltb-true r (records p) e)
    go r false e = record_past p q t.as_long r (ends p l r (ltb-false r (records p) e))

    same : (r : ℕ) → SameRecord p q r
    same r = go r (ltb r (records p)) refl
