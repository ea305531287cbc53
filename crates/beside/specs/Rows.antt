-- A watched run's second room without the room: the bytes that its finished steps write, one after the other.
-- Assumes nothing: these are definitions.
use Rattle.std.specs.Prelude.{ℕ, zero, suc, [], ◌++◌, Ok, Err}
use Rattle.rules.specs.Bytes.{Bytes}
use Rattle.rules.specs.Layout.{input_at}
use Rattle.rules.specs.Update.{Made, NotMade, step_of}
use Rattle.rules.specs.Calls.{record_verdict}
use Rattle.watched.specs.Watch.{List16, shown}

unfoldable pub rows : Bytes → Bytes → List16 → ℕ → ℕ → Bytes → Bytes
rows p recs l zero done st = []
rows p recs l (suc left) done st =
    elim (record_verdict done st (input_at recs done)) [
      | Err r ↦ []
      | Ok _ ↦
          elim (step_of p (input_at recs done) st) [
            | Made v st₁ w ↦ shown p (input_at recs done) st l ++ rows p recs l left (suc done) st₁
            | NotMade ↦ []
          ]
    ]
