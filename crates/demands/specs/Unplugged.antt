-- h) of the call: a run is called twice, on two copies of a state.
-- Assumes nothing: these are definitions.
use Rattle.std.specs.Prelude.{◌≡◌, length}
use Rattle.rules.specs.Verdicts.{RunAnswer}
use Rattle.rules.specs.Bytes.{Bytes}
use Rattle.unplugged.specs.Alike.{AllAlike, SameRuns}

-- "Two runs of one program, from one state, with equal output lengths, over equally many well-formed records with equal times, which agree on
-- every channel that some input node names, give equal outputs, work, marks, answers and final states." First what each run is lent, then what it
-- answers and leaves.
abbrev pub UnpluggedDemand : Bytes → Bytes → Bytes → Bytes → Bytes → Bytes → Bytes → RunAnswer → Bytes → Bytes → RunAnswer → Bytes → Bytes → Type 0
UnpluggedDemand p st recs out st' recs' out' answer st₁ out₁ answer' st₁' out₁' =
    st ≡ st' → length out ≡ length out' → AllAlike p recs recs'
    → SameRuns out out' (record { answer = answer; state = st₁; output = out₁ }) (record { answer = answer'; state = st₁'; output = out₁' })
