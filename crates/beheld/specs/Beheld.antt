-- l) at the calls: the watched run beside the plain one, and twice on copies of a state.
-- Assumes nothing: these are definitions.
use Rattle.rules.specs.Verdicts.{RunAnswer}
use Rattle.std.specs.Prelude.{◌≡◌, false, ◌*◌, ◌/◌, length, Result, None}
use Rattle.rules.specs.Bytes.{Bytes}
use Rattle.rules.specs.Layout.{input_length}
use Rattle.unplugged.specs.Alike.{AllAlike}
use Rattle.watched.specs.declared.ListFault.{ListFault}
use Rattle.watched.specs.Watch.{List16, list_wrong, list_fault}
use Rattle.beside.specs.Seen.{Plainly, SameWatched}
use Rattle.beside.specs.Says.{Says}

-- All that the request says of a watched run; it leaves one answer and one content of all lent memory (beside, one-watch). First what is lent, then
-- what the call answers and leaves.
abbrev pub SaysDemand : Bytes → Bytes → Bytes → List16 → Bytes → Bytes → Result RunAnswer ListFault → Bytes → Bytes → Bytes → Type 0
SaysDemand p st recs l out room watched st₁ out₁ room₁ =
    Says p st recs l out room (record { answer = watched; state = st₁; output = out₁; room = room₁ })

-- "Outputs, state, work, marks and answers are those of the plain run": of a list that is right and a second room of 8 bytes for each step and
-- listed node, from one state and with one content of the output. First what is lent, then what the watched run and the plain run leave.
abbrev pub PlainDemand : Bytes → Bytes → List16 → Bytes → Bytes → Bytes → Bytes → Bytes → Result RunAnswer ListFault → Bytes → Bytes → RunAnswer → Bytes → Bytes → Type 0
PlainDemand p recs l room st out st' out' watched st₁ out₁ ran st₁' out₁' =
    st ≡ st' → out ≡ out' → list_wrong l ≡ false → list_fault p l ≡ None → length room ≡ 8 * length l * (length recs / input_length)
    → Plainly (record { answer = watched; state = st₁; output = out₁; room = room }) (record { answer = ran; state = st₁'; output = out₁' })

-- "h) covers the second room as well."
abbrev pub LooseDemand : Bytes → List16 → Bytes → Bytes → Bytes → Bytes → Bytes → Bytes → Bytes → Bytes → Result RunAnswer ListFault → Bytes → Bytes → Bytes → Result RunAnswer ListFault → Bytes
    → Bytes → Bytes → Type 0
LooseDemand p l st recs out room st' recs' out' room' one st₁ out₁ room₁ other st₁' out₁' room₁' =
    st ≡ st' → length out ≡ length out' → length room ≡ length room' → AllAlike p recs recs'
    → SameWatched out out' room room' (record { answer = one; state = st₁; output = out₁; room = room₁ })
    (record { answer = other; state = st₁'; output = out₁'; room = room₁' })
