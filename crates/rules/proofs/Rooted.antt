-- What codes 1-5 establish together: an accepted program has a node, is shaped, and its root is a signal.
-- Assumes nothing.
use Rattle.std.specs.Prelude.{if◌then◌else◌, Some}
use mathlib.Core.Path.{◌≡◌, refl, sym}
use mathlib.Core.Bool.{Bool, true, false, not}
use Prim.Native.Nat.{ℕ, zero, suc, ◌-◌, ◌%◌, ◌<◌}
use native.Mathlib.Omega.{arith}
use lib.Dec.{eqb}
use lib.ListN.{length}
use borrow.Author.Tests.{eqb-true, eqb-false}
use Rattle.rules.specs.Bytes.{Bytes, ◌and◌, ◌or◌, first_from, first}
use Rattle.rules.specs.Layout.{blocks, records, nodes, kind_at, place_or}
use Rattle.rules.specs.Format.{length_wrong, record_wrong, may_end, is_zero, after_end, node_wrong}
use Rattle.rules.specs.Kinds.{is_signal}
use Rattle.rules.specs.Shaped.{Shaped, NodeOf}
use Rattle.rules.specs.Accepted.{Formed, Accepted}
use Rattle.rules.proofs.Static.{and_both, not_both}
use Rattle.rules.proofs.Kids.{or_none, not_not}
use Rattle.rules.proofs.Established.{shaped, root_signal, nowhere_from}

-- A program of the right length has at least one block of records.
pub some_record : (p : Bytes) → length_wrong p ≡ false → 0 < records p
unfolding length_wrong records blocks
some_record p l =
    let o = or_none _ _ l in
    let some = eqb-false (length p) 0 (or_none _ _ o.0).0 in
    let whole = eqb-true (length p % 512) 0 (not_not _ o.1) in
    omega (arith, some)

-- Record 0 is the first of its block, so that it cannot be of kind 0.
kind_0 : (p : Bytes) → record_wrong p 0 ≡ false → eqb (kind_at p 0) 0 ≡ false
unfolding record_wrong may_end
kind_0 p e = go (eqb (kind_at p 0) 0) e
  where
    go : (b : Bool) → (if b then not (may_end p 0 and is_zero p 0) else (after_end p 0 or node_wrong p 0)) ≡ false → b ≡ false
    go true h = absurd (not_both (and_both _ _ (and_both _ _ (not_not _ h)).0).1)
    go false h = refl

-- A first place from k on is not before k.
after_step : (test : ℕ → Bool) (left k count : ℕ) (b : Bool) → 0 < k → 0 < place_or (first_from test (suc k) left) count
    → 0 < place_or (elim b [ true ↦ Some k | false ↦ first_from test (suc k) left ]) count
unfolding place_or
after_step test left k count true l h = l
after_step test left k count false l h = h

after_start : (test : ℕ → Bool) (left k count : ℕ) → 0 < k → 0 < count → 0 < place_or (first_from test k left) count
unfolding first_from place_or
after_start test zero k count l h = h
after_start test (suc left) k count l h = after_step test left k count (test k) l (after_start test left (suc k) count (omega arith) h)

-- A place that is not 0, where the test fails at 0.
after_0 : (test : ℕ → Bool) (count : ℕ) → 0 < count → test 0 ≡ false → 0 < place_or (first test count) count
unfolding first first_from
after_0 test zero h e = absurd (omega arith)
after_0 test (suc m) h e = go (test 0) e
  where
    go : (b : Bool) → b ≡ false → 0 < place_or (elim b [ true ↦ Some 0 | false ↦ first_from test 1 m ]) (suc m)
    go true q = absurd (not_both (sym q))
    go false q = after_start test m 1 (suc m) (omega arith) h

-- A program that is formed has a node.
pub some_node : (p : Bytes) → Formed p → 0 < nodes p
unfolding nodes first
some_node p f =
    let some = some_record p f.length_right in
    let right = nowhere_from (record_wrong p) (records p) 0 0 f.records_right (omega arith) (omega arith) in
    after_0 (λ r. eqb (kind_at p r) 0) (records p) some (kind_0 p right)

-- An accepted program is shaped.
pub shaped_of : (p : Bytes) → Accepted p → Shaped p
shaped_of p a = shaped p a.formed.length_right a.shape_right

-- And its last node, the root, is a signal.
pub root_of : (p : Bytes) → Accepted p → NodeOf is_signal p (nodes p - 1)
root_of p a = root_signal p a.formed.length_right a.shape_right (some_node p a.formed)
