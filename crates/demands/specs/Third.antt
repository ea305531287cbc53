-- Demand 3 of the calls: with the bound and the type that check answered, of what run answers and leaves.
-- Assumes nothing: these are definitions.
use Rattle.std.specs.Prelude.{◌≡◌, ℕ}
use Rattle.rules.specs.Verdicts.{CheckAnswer, RunAnswer, accepted_with}
use Rattle.rules.specs.Bytes.{Bytes}
use Rattle.mission.specs.Lent.{StepLent, RunLent}
use Rattle.mission.specs.Mission.{Answers, Finishes}

-- Where check accepts: one well-formed record whose time does not go back, with a room of 8 bytes, is answered; and a list of them is finished.
pub record ThirdDemand (p st recs out : Bytes) (checked : CheckAnswer) (answer : RunAnswer) (st₁ out₁ : Bytes) : Type 0 where
  pub answers : (count cells most type : ℕ) → checked ≡ accepted_with count cells most type → StepLent p st recs out
      → Answers p st recs answer st₁ out₁ count most type
  pub finishes : (count cells most type n : ℕ) → checked ≡ accepted_with count cells most type → RunLent p st recs out n
      → Finishes p st recs n answer st₁ out₁ count most type
