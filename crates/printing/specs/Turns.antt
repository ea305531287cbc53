-- The parts of which watchrun makes what it prints: what it reads of the blocks, its opening line, and its turns, one for each record and the last.
-- Each is what a function of this crate or of crate turns answers; `played` puts them together as the program does.
-- Assumes nothing: these are definitions.
use Rattle.std.specs.Prelude.{◌≡◌, Bool, true, false, List, [], ◌++◌, ℕ, zero, suc, ◌+◌, ◌*◌, ◌≤◌, length, take, drop, if◌then◌else◌, Ok, Err}
use Rattle.rules.specs.Verdicts.{CheckAnswer, Verdict}
use Rattle.rules.specs.Bytes.{Bytes}
use Rattle.rules.specs.Layout.{time_in}
use Rattle.rules.specs.Evaluate.{Env}
use Rattle.rules.specs.Reset.{start_state}
use Rattle.rules.specs.Update.{Stepped, Made, NotMade, step_of}
use Rattle.rules.specs.Calls.{check_call, record_verdict}
use Rattle.rules.specs.declared.Refusal.TheVariants.{StateFault}
use Rattle.lines.specs.Print.{first_line, step_line, refused_line}
use Rattle.noted.specs.Noted.{Noted}
use Rattle.steps.specs.Going.{Going, most_work}
use Rattle.turns.specs.Decided.{most_records, blocks_left, wanted, is_record}
use Rattle.printing.specs.Printed.{last_line}

-- The first line of what was found of the program, or its only one.
unfoldable pub opening_line : CheckAnswer → Bytes
opening_line (Ok found) = first_line found.nodes found.cells found.bound found.root
opening_line (Err r) = refused_line r

-- A line, whether there is more to come, and what that goes on from.
pub record TurnOutcome : Type 0 where
  pub line : Bytes
  pub more : Bool
  pub steps : ℕ
  pub total : ℕ
  pub state : Bytes

-- The turn of a whole record, by its verdict and its step.
unfoldable pub step_turn : Bytes → ℕ → ℕ → Bytes → Verdict → Stepped → TurnOutcome
step_turn rec steps total st (Err r) s = record { line = refused_line r; more = false; steps = steps; total = total; state = st }
step_turn rec steps total st (Ok _) (Made v st₁ w) =
    record { line = step_line (time_in rec) v w.work; more = true; steps = suc steps; total = total + w.work; state = st₁ }
step_turn rec steps total st (Ok _) NotMade = record { line = refused_line StateFault; more = false; steps = steps; total = total; state = st }

unfoldable pub record_turn : Bytes → Bytes → ℕ → ℕ → Bytes → TurnOutcome
record_turn p rec steps total st = step_turn rec steps total st (record_verdict steps st rec) (step_of p rec st)

-- The turn after so many steps and so much work, from a state, on the bytes that were read for it.
unfoldable pub turn_of : Bytes → Bytes → ℕ → ℕ → Bytes → TurnOutcome
turn_of p piece steps total st =
    if is_record (length piece) steps then record_turn p piece steps total st
    else record { line = last_line (length piece) steps total; more = false; steps = steps; total = total; state = st }

-- The turns on what is unread, of at most so many.
unfoldable pub turns_from : Bytes → ℕ → Bytes → ℕ → ℕ → Bytes → Bytes
turns_from p zero rest steps total st = []
turns_from p (suc left) rest steps total st =
    (turn_of p (take (wanted steps) rest) steps total st).line
    ++ (if (turn_of p (take (wanted steps) rest) steps total st).more then
    turns_from p left (drop (wanted steps) rest)
    (turn_of p (take (wanted steps) rest) steps total st).steps
    (turn_of p (take (wanted steps) rest) steps total st).total
    (turn_of p (take (wanted steps) rest) steps total st).state
    else [])

-- A program of which check found this, with what is unread after it.
unfoldable pub played_on : Bytes → Bytes → CheckAnswer → Bytes
played_on p rest (Ok found) = opening_line (Ok found) ++ turns_from p (suc most_records) rest 0 0 (start_state p)
played_on p rest (Err r) = opening_line (Err r)

-- Block 0 is read, then the blocks that are left; check is asked, and the turns are made.
unfoldable pub program_read : Bytes → Bytes
program_read input = take 512 input ++ take (blocks_left (take 512 input) (length (take 512 input))) (drop 512 input)

unfoldable pub unread : Bytes → Bytes
unread input = drop (blocks_left (take 512 input) (length (take 512 input))) (drop 512 input)

unfoldable pub played : Bytes → Bytes
played input = played_on (program_read input) (unread input) (check_call (program_read input))

-- A turn's answer: so many bytes of the lent line are the line, and the rest as the outcome has it.
pub record Turned (o : TurnOutcome) (line : Bytes) (size : ℕ) (more : Bool) (steps total : ℕ) (st : Bytes) : Type 0 where
  pub line_is : take size line ≡ o.line
  pub more_is : more ≡ o.more
  pub steps_is : steps ≡ o.steps
  pub total_is : total ≡ o.total
  pub state_is : st ≡ o.state

-- A run of at most 4,096 steps on its way: so many are done, and no step has worked more than 1,008 times 1,009.
pub record Under (p : Bytes) (index : List ℕ) (st : Bytes) (env : Env) (memo : List ℕ) (count steps total : ℕ) : Type 0 where
  pub going : Going p index st env count
  pub noted : Noted p memo
  pub few : steps ≤ most_records
  pub fits : total ≤ most_work * steps
