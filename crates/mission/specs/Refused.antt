-- What a refused run leaves.
-- Assumes nothing: these are definitions.
use Rattle.std.specs.Prelude.{◌≡◌, ℕ, ◌*◌, ◌/◌, ◌<◌, length, take, drop, Ok, Err}
use Rattle.rules.specs.Verdicts.{finished_with}
use Rattle.rules.specs.Bytes.{Bytes}
use Rattle.rules.specs.Layout.{input_length, input_at}
use Rattle.rules.specs.Calls.{record_verdict, run_call, no_step}
use Rattle.rules.specs.declared.Refusal.{Refusal}
use Rattle.promises.specs.Run.{run_verdict}

-- Refused for what it is lent (codes 1-11): the refusal is the verdict's, and nothing is written. Refused for the record numbered k: the refusal
-- is the verdict's on that record after k steps; state, work and mark are those of a run of the first k records alone, all of them done, and the room
-- holds that run's output and behind it what it held before.
pub data RefusedRun (p st recs out : Bytes) (r : Refusal) (work mark : ℕ) (st₁ out₁ : Bytes) : Type 0 where
  for_lent : run_verdict p st recs out ≡ Err r → work ≡ 0 → mark ≡ no_step → st₁ ≡ st → out₁ ≡ out
      → RefusedRun p st recs out r work mark st₁ out₁
  for_record : (k : ℕ) → run_verdict p st recs out ≡ Ok tt → k < length recs / input_length
      → record_verdict k st₁ (input_at recs k) ≡ Err r
      → run_call p st (take (input_length * k) recs) (take (8 * k) out)
      ≡ record { answer = finished_with k work mark; state = st₁; output = take (8 * k) out₁ }
      → drop (8 * k) out₁ ≡ drop (8 * k) out → RefusedRun p st recs out r work mark st₁ out₁
