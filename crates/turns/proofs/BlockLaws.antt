-- How many blocks are taken, by block 0's bytes.
-- Assumes nothing.
use mathlib.Core.Path.{◌≡◌}
use Prim.Native.Nat.{ℕ, ◌≤◌, ◌<◌}
use native.Mathlib.Omega.{arith}
use borrow.Author.Tests.{le-leb, lt-leb}
use Rattle.rules.specs.Bytes.{Bytes, byte_at, ◌and◌}
use Rattle.rules.specs.Layout.{block_at, edition, edition_in, count_in}
use Rattle.turns.specs.Decided.{blocks_taken}

-- One if block 0 is of no edition, or says none or too many, else so many
pub no_edition : (p : Bytes) {e : ℕ} → e ≡ byte_at p 3 → 1 < e → 1 ≡ blocks_taken p
unfolding blocks_taken edition edition_in block_at ◌and◌
no_edition p {e} f h = rw (← f, lt-leb e 1 h)

module _ (p : Bytes) {e n : ℕ} (f : e ≡ byte_at p 3) (g : n ≡ byte_at p 2) (k : e ≤ 1) where
  pub few : n < 1 → 1 ≡ blocks_taken p
  unfolding blocks_taken edition edition_in count_in block_at ◌and◌
  few h = rw (← f, ← g, le-leb e 1 k, lt-leb 1 n h)

  pub many : 24 < n → 1 ≡ blocks_taken p
  unfolding blocks_taken edition edition_in count_in block_at ◌and◌
  many h = rw (← f, ← g, le-leb e 1 k, le-leb 1 n (omega arith), lt-leb n 24 h)

  pub said : 1 ≤ n → n ≤ 24 → n ≡ blocks_taken p
  unfolding blocks_taken edition edition_in count_in block_at ◌and◌
  said h l = rw (← f, ← g, le-leb e 1 k, le-leb 1 n h, le-leb n 24 l)
