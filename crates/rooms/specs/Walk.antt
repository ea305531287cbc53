-- A run without its room: the answer, the state, and the bytes that its finished steps write, one after the other.
-- Assumes nothing: these are definitions.
use Rattle.std.specs.Prelude.{ℕ, zero, suc, ◌+◌, ◌*◌, [], ◌++◌, Ok, Err}
use Rattle.rules.specs.Verdicts.{RunAnswer, finished_with, refused_after}
use Rattle.rules.specs.Bytes.{Bytes, write_at}
use Rattle.rules.specs.Values.{value_bytes}
use Rattle.rules.specs.Layout.{input_at}
use Rattle.rules.specs.Update.{Made, NotMade, step_of}
use Rattle.rules.specs.Calls.{RunOutcome, record_verdict, first_wrapped}
use Rattle.rules.specs.declared.Value.{Value}
use Rattle.rules.specs.declared.Refusal.TheVariants.{StateFault}

pub record Walk : Type 0 where
  pub answer : RunAnswer
  pub state : Bytes
  pub written : Bytes

-- One step's value before what the rest writes.
unfoldable pub showing : Value → Walk → Walk
showing v r = record { answer = r.answer; state = r.state; written = value_bytes v ++ r.written }

unfoldable pub walk : Bytes → Bytes → ℕ → ℕ → ℕ → ℕ → Bytes → Walk
walk p recs zero done work mark st = record { answer = finished_with done work mark; state = st; written = [] }
walk p recs (suc left) done work mark st =
    elim (record_verdict done st (input_at recs done)) [
      | Err r ↦ record { answer = refused_after r work mark; state = st; written = [] }
      | Ok _ ↦
          elim (step_of p (input_at recs done) st) [
            | Made v st₁ w ↦ showing v (walk p recs left (suc done) (work + w.work) (first_wrapped mark done w) st₁)
            | NotMade ↦ record { answer = refused_after StateFault work mark; state = st; written = [] }
          ]
    ]

-- What it wrote, in a room, from the steps done before on.
unfoldable pub in_room : ℕ → Bytes → Walk → RunOutcome
in_room done out r = record { answer = r.answer; state = r.state; output = write_at out (8 * done) r.written }
