-- The theorems' statements, by the sentences of request k: what mending leaves of a state, what it lists, and that the state runs on.
-- Assumes nothing: these are definitions.
use Rattle.std.specs.Prelude.{◌≡◌, true, false, List, [], ◌∷◌, ◌⊎◌, ℕ, suc, ◌*◌, ◌≤◌, ◌<◌, length, if◌then◌else◌, Ok, Err}
use Rattle.rules.specs.Verdicts.{accepted_with}
use Rattle.rules.specs.Bytes.{Bytes, write_at}
use Rattle.rules.specs.Layout.{no_next, no_time, cells, cell, last_time, sum_in, checks_of, state_length, input_length, input_at, time_in}
use Rattle.rules.specs.Tree.{Signal, root}
use Rattle.rules.specs.WellFormed.{well_formed}
use Rattle.rules.specs.Calls.{check_call, run_call}
use Rattle.rules.specs.declared.Refusal.{Refusal}
use Rattle.rules.specs.declared.Refusal.TheVariants.{StateFault, OtherProgram}
use Rattle.promises.specs.Small.{Small}
use Rattle.mission.specs.Lent.{WellRecord, NotBack}
use Rattle.mission.specs.Mission.{Finishes}
use Rattle.mends.specs.declared.Unmended.{Unmended}
use Rattle.mends.specs.declared.Unmended.TheVariants.{ListLength}
use Rattle.mends.specs.Mend.{time_fits}
use Rattle.mends.specs.MendCall.{MendOutcome, mend_call}
use Rattle.mends.specs.Parts.{Inside, Current, HasCell, valid_for, start_of, Standing}

-- A number stands in a list.
abbrev pub Among : ℕ → List ℕ → Type 0
Among k [] = ⊥
Among k (j ∷ js) = (k ≡ j) ⊎ Among k js

-- Each number is larger than the one before, and all are at least least.
abbrev pub Rising : ℕ → List ℕ → Type 0
Rising least [] = Unit {0}
Rising least (j ∷ js) = (least ≤ j) × Rising (suc j) js

-- "The tool lists each cell number that changed, rising, with 65535 in front if the time did." Exactly those: every number listed is of a cell
-- that changed, and every cell that changed is listed.
pub record ListsChanges (p st st₁ : Bytes) (list : List ℕ) : Type 0 where
  pub listed : List ℕ
  pub rising : Rising 0 listed
  pub changed : (k : ℕ) → Among k listed → (k < cells p) × (cell st₁ k ≡ cell st k → ⊥)
  pub all : (k : ℕ) → k < cells p → (cell st₁ k ≡ cell st k → ⊥) → Among k listed
  pub time_kept : last_time st₁ ≡ last_time st → list ≡ listed
  pub time_changed : (last_time st₁ ≡ last_time st → ⊥) → list ≡ no_next ∷ listed

-- "A cell in a current part is kept if valid for its node, otherwise put to start; a cell in any other part is put to start." What is current is
-- decided by the state after mending; every cell of the state is of a node that stands in the program.
pub record CellByCell (p st st₁ : Bytes) : Type 0 where
  pub each : (k : ℕ) → k < cells p → Standing k (root p)
  pub kept : (k : ℕ) (z : Signal) → HasCell z k → (w : Inside z (root p)) → Current st₁ w → valid_for z (cell st k) ≡ true → cell st₁ k ≡ cell st k
  pub begun : (k : ℕ) (z : Signal) → HasCell z k → (w : Inside z (root p)) → Current st₁ w → valid_for z (cell st k) ≡ false → cell st₁ k ≡ start_of z
  pub elsewhere : (k : ℕ) (z : Signal) → HasCell z k → (w : Inside z (root p)) → (Current st₁ w → ⊥) → cell st₁ k ≡ start_of z

-- What demand 3 lends a run beside the program and the state: so many records, 0 to 4,096, each well-formed; the first one's time is not before
-- the state's, and none's before the last one's; 8 bytes of output for each.
pub record Follow (st recs out : Bytes) (n : ℕ) : Type 0 where
  pub whole : length recs ≡ input_length * n
  pub few : n ≤ 4096
  pub right : (k : ℕ) → k < n → WellRecord (input_at recs k)
  pub forward : 0 < n → NotBack st (input_at recs 0)
  pub onward : (k : ℕ) → suc k < n → time_in (input_at recs k) ≤ time_in (input_at recs (suc k))
  pub room : length out ≡ 8 * n

-- A state brought back: what the call answers and leaves where it does not refuse.
pub record BringsBack (p st : Bytes) (room : List ℕ) (o : MendOutcome) : Type 0 where
  -- "Its result is well-formed" (with the sum of its program's checks), and as long as before.
  pub well : well_formed p o.state ≡ true
  pub long : length o.state ≡ length st
  -- "A bad time word becomes 'none'."
  pub moment : last_time o.state ≡ (if time_fits st then last_time st else no_time)
  pub cell_by_cell : CellByCell p st o.state
  -- "The answer says how many entries were listed; the room after them is left."
  pub list : List ℕ
  pub lists : ListsChanges p st o.state list
  pub answered : o.answer ≡ Ok (length list)
  pub fits : length list ≤ length room
  pub written : o.list ≡ write_at room 0 list
  -- "A well-formed state comes back untouched with an empty list."
  pub untouched : well_formed p st ≡ true → (o.state ≡ st) × (list ≡ [])
  -- Mending twice lists nothing the second time.
  pub again : (room₁ : List ℕ) → length room₁ ≡ suc (cells p) → mend_call p o.state room₁ ≡ record { answer = Ok 0; state = o.state; list = room₁ }
  -- With demand 3: any run of well-formed records whose times do not go back is made whole.
  pub runs_on : (count held most type : ℕ) → check_call p ≡ accepted_with count held most type → (recs out : Bytes) (n : ℕ) → Small recs
      → Follow o.state recs out n
      → Finishes p o.state recs n (run_call p o.state recs out).answer (run_call p o.state recs out).state
      (run_call p o.state recs out).output count most type

-- The call beside the check of the same program: "Refusals: 1-8, 9 for a wrong length, 15 for a wrong sum, then 16 if the list's room is not
-- exactly cells + 1 entries." A refusal writes nothing.
pub record AsAsked (p st : Bytes) (room : List ℕ) : Type 0 where
  pub refused : (r : Refusal) → check_call p ≡ Err r → mend_call p st room ≡ record { answer = Err (Unmended.Refused r); state = st; list = room }
  pub wrong_length : (count held most type : ℕ) → check_call p ≡ accepted_with count held most type → (length st ≡ state_length p → ⊥)
      → mend_call p st room ≡ record { answer = Err (Unmended.Refused StateFault); state = st; list = room }
  pub wrong_sum : (count held most type : ℕ) → check_call p ≡ accepted_with count held most type → length st ≡ state_length p
      → (sum_in st ≡ checks_of p → ⊥) → mend_call p st room ≡ record { answer = Err (Unmended.Refused OtherProgram); state = st; list = room }
  pub wrong_room : (count held most type : ℕ) → check_call p ≡ accepted_with count held most type → length st ≡ state_length p
      → sum_in st ≡ checks_of p → (length room ≡ suc held → ⊥) → mend_call p st room ≡ record { answer = Err ListLength; state = st; list = room }
  pub brought : (count held most type : ℕ) → check_call p ≡ accepted_with count held most type → length st ≡ state_length p
      → sum_in st ≡ checks_of p → length room ≡ suc held → BringsBack p st room (mend_call p st room)

-- What the call promises: for every program, state and list's room, refusals too, the rules' answer and the rules' content of both.
pub record Mending (call : Bytes → Bytes → List ℕ → MendOutcome) : Type 0 where
  pub as_ruled : (p st : Bytes) (room : List ℕ) → call p st room ≡ mend_call p st room
