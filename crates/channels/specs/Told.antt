-- Records that agree on the channels that a number of bits tells. Assumes nothing: these are definitions.
use Rattle.std.specs.Prelude.{◌≡◌, true, false, ℕ, ◌/◌, ◌<◌, length}
use Rattle.rules.specs.Bytes.{Bytes}
use Rattle.rules.specs.Layout.{input_length, input_at, time_in, channel_value}
use Rattle.rules.specs.Calls.{input_wrong}
use Rattle.channels.specs.Named.{bit_in}

-- Both records are well-formed, their times are equal, and each of the eight channels whose bit is 1 gives the same value in both.
pub record Agree (bits : ℕ) (rec₁ rec₂ : Bytes) : Type 0 where
  pub well₁ : input_wrong rec₁ ≡ false
  pub well₂ : input_wrong rec₂ ≡ false
  pub moment : time_in rec₁ ≡ time_in rec₂
  pub channels : (k : ℕ) → k < 8 → bit_in bits k ≡ true → channel_value rec₁ k ≡ channel_value rec₂ k

-- Equally many records, agreeing one by one.
pub record AllAgree (bits : ℕ) (recs₁ recs₂ : Bytes) : Type 0 where
  pub as_many : length recs₁ ≡ length recs₂
  pub each : (k : ℕ) → k < length recs₁ / input_length → Agree bits (input_at recs₁ k) (input_at recs₂ k)
