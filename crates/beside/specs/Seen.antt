-- Two watched runs that cannot be told apart.
-- Assumes nothing: these are definitions.
use Rattle.std.specs.Prelude.{◌≡◌, ℕ, Ok}
use Rattle.rules.specs.Verdicts.{finished_with}
use Rattle.rules.specs.Bytes.{Bytes, write_at}
use Rattle.rules.specs.Calls.{RunOutcome}
use Rattle.watched.specs.Watch.{WatchOutcome}

-- A watched run's answer (with it steps, work and mark), state and output are a plain run's.
pub record Plainly (o : WatchOutcome) (r : RunOutcome) : Type 0 where
  pub answers : o.answer ≡ Ok r.answer
  pub states : o.state ≡ r.state
  pub outputs : o.output ≡ r.output

-- Two watched runs give equal answers (with them the work and the first wrapped step), equal final states, and write the same bytes into each of
-- their rooms; of a run that is not refused, or in equal rooms, all of output and second room is the same.
pub record SameWatched (out₁ out₂ room₁ room₂ : Bytes) (o₁ o₂ : WatchOutcome) : Type 0 where
  pub answers : o₁.answer ≡ o₂.answer
  pub states : o₁.state ≡ o₂.state
  pub written : Bytes
  pub into₁ : o₁.output ≡ write_at out₁ 0 written
  pub into₂ : o₂.output ≡ write_at out₂ 0 written
  pub noted : Bytes
  pub noted₁ : o₁.room ≡ write_at room₁ 0 noted
  pub noted₂ : o₂.room ≡ write_at room₂ 0 noted
  pub whole : (steps work mark : ℕ) → o₁.answer ≡ Ok (finished_with steps work mark) → (o₁.output ≡ o₂.output) × (o₁.room ≡ o₂.room)
  pub equal_rooms : out₁ ≡ out₂ → room₁ ≡ room₂ → (o₁.output ≡ o₂.output) × (o₁.room ≡ o₂.room)
