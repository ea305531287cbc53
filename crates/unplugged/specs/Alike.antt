-- Records that agree where a program looks, and runs that cannot be told apart.
-- Assumes nothing: these are definitions.
use Rattle.std.specs.Prelude.{◌≡◌, false, ℕ, suc, ◌/◌, ◌<◌, length}
use Rattle.rules.specs.Verdicts.{finished_with}
use Rattle.rules.specs.Bytes.{Bytes, write_at}
use Rattle.rules.specs.Layout.{nodes, kind_at, a_at, input_length, input_at, time_in, channel_value}
use Rattle.rules.specs.Calls.{input_wrong, RunOutcome}

-- Some input node (kind 1) names channel k.
pub record Names (p : Bytes) (k : ℕ) : Type 0 where
  pub node : ℕ
  pub within : node < nodes p
  pub input : kind_at p node ≡ 1
  pub channel : a_at p node ≡ k

-- Both records are well-formed, their times are equal, and they agree on every channel that some input node names: such a channel gives the
-- same value in both.
pub record Alike (p rec₁ rec₂ : Bytes) : Type 0 where
  pub well₁ : input_wrong rec₁ ≡ false
  pub well₂ : input_wrong rec₂ ≡ false
  pub moment : time_in rec₁ ≡ time_in rec₂
  pub channels : (k : ℕ) → Names p k → channel_value rec₁ k ≡ channel_value rec₂ k

-- Equally many records, alike one by one.
pub record AllAlike (p recs₁ recs₂ : Bytes) : Type 0 where
  pub as_many : length recs₁ ≡ length recs₂
  pub each : (k : ℕ) → k < length recs₁ / input_length → Alike p (input_at recs₁ k) (input_at recs₂ k)

-- Two runs give equal answers (with them the work and the first wrapped step), equal final states, and write the same bytes into their rooms; of a run that is not
-- refused, or in equal rooms, all of the output is the same.
pub record SameRuns (out₁ out₂ : Bytes) (o₁ o₂ : RunOutcome) : Type 0 where
  pub answers : o₁.answer ≡ o₂.answer
  pub states : o₁.state ≡ o₂.state
  pub written : Bytes
  pub into₁ : o₁.output ≡ write_at out₁ 0 written
  pub into₂ : o₂.output ≡ write_at out₂ 0 written
  pub whole : (steps work mark : ℕ) → o₁.answer ≡ finished_with steps work mark → o₁.output ≡ o₂.output
  pub equal_rooms : out₁ ≡ out₂ → o₁.output ≡ o₂.output
