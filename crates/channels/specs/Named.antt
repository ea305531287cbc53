-- The channels that a program names, a bit a channel. Assumes nothing: these are definitions.
use Rattle.std.specs.Prelude.{ℕ, zero, suc, ◌+◌, ◌*◌, ◌/◌, ◌%◌, ◌^◌, Bool, true, false, eqb, if◌then◌else◌}
use Rattle.rules.specs.Bytes.{Bytes, ◌and◌, ◌or◌}
use Rattle.rules.specs.Layout.{nodes, kind_at, a_at}

-- Node i is an input node (kind 1) that names channel k.
unfoldable pub input_of : Bytes → ℕ → ℕ → Bool
input_of p k i = eqb (kind_at p i) 1 and eqb (a_at p i) k

-- A test holds of some place below a count.
unfoldable pub some_below : (ℕ → Bool) → ℕ → Bool
some_below test zero = false
some_below test (suc i) = test i or some_below test i

-- Some input node names channel k.
unfoldable pub named : Bytes → ℕ → Bool
named p k = some_below (input_of p k) (nodes p)

-- A bit: 1 for true.
unfoldable pub bit_of : Bool → ℕ
bit_of b = if b then 1 else 0

-- A bit a channel: that of channel k counts 2 to the k.
unfoldable pub named_channels : Bytes → ℕ
named_channels p =
    bit_of (named p 0) + 2 * bit_of (named p 1) + 4 * bit_of (named p 2) + 8 * bit_of (named p 3)
    + 16 * bit_of (named p 4) + 32 * bit_of (named p 5) + 64 * bit_of (named p 6) + 128 * bit_of (named p 7)

-- Bit k of a number is 1.
unfoldable pub bit_in : ℕ → ℕ → Bool
bit_in n k = eqb (n / 2 ^ k % 2) 1
