-- j) of the call: the two parts of a list of records are run one after the other, and the whole from a copy of the state.
-- Assumes nothing: these are definitions.
use Rattle.std.specs.Prelude.{◌≡◌, ◌++◌, ℕ}
use Rattle.rules.specs.Verdicts.{RunAnswer}
use Rattle.rules.specs.Bytes.{Bytes}
use Rattle.rules.specs.Calls.{RunOutcome}
use Rattle.cut.specs.Parts.{CutAt, SameParts}

-- What one run answers and leaves.
abbrev pub left : RunAnswer → Bytes → Bytes → RunOutcome
left answer st out = record { answer = answer; state = st; output = out }

-- "Cutting a list of records at any record and running the two parts one after the other gives the same outputs, final state and summed work,
-- provided that the first part is not refused, each of the three output rooms fits its records and the whole has at most 4,096. Places and
-- wrapped-step numbers in the second part count from the cut." The parts' state and its copy, the two parts and the whole, the three rooms; then the three answers, the
-- states and the rooms after. (The state between the parts is not lent any more at the end, whatever it was.)
abbrev pub PartsDemand : Bytes → Bytes → Bytes → Bytes → Bytes → Bytes → Bytes → Bytes → RunAnswer → RunAnswer → RunAnswer → Bytes → Bytes → Bytes → Bytes → Bytes → Type 0
PartsDemand st copy recs₁ recs₂ recs out₁ out₂ out first second whole st' copy' out₁' out₂' out' =
    copy ≡ st → recs ≡ recs₁ ++ recs₂ → (steps work mark : ℕ) → CutAt recs₁ recs₂ out₁ out₂ out first steps work mark
    → (between : Bytes) → SameParts out₁ out₂ out steps work mark (left first between out₁') (left second st' out₂') (left whole copy' out')
