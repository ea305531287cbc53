-- What the functions below the call say of a state that is kept, of an entry, and of what a call leaves.
-- Assumes nothing: these are definitions.
use Rattle.std.specs.Prelude.{◌≡◌, Bool, true, false, List, [], ◌∷◌, ℕ, ◌<◌, length, Result}
use Rattle.rules.specs.Bytes.{Bytes, byte_at}
use Rattle.mends.specs.declared.Unmended.{Unmended}
use Rattle.mends.specs.MendCall.{MendOutcome}

-- Bytes stand at the front of a room.
pub record StandsIn (s room : Bytes) : Type 0 where
  pub same : (i : ℕ) → i < length s → byte_at room i ≡ byte_at s i

-- An entry where something changed, none where not.
unfoldable pub entry_if : Bool → ℕ → List ℕ
entry_if true n = n ∷ []
entry_if false n = []

-- An answer, a state and a list are those of an outcome.
pub record Leaves (o : MendOutcome) (answer : Result ℕ Unmended) (st : Bytes) (list : List ℕ) : Type 0 where
  pub answer_is : answer ≡ o.answer
  pub state_is : st ≡ o.state
  pub list_is : list ≡ o.list
