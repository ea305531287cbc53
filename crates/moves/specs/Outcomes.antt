-- Outcomes of updates in place: what they have counted, whether they stay, and what a walk over cases leaves.
-- Assumes nothing: these are definitions.
use Rattle.std.specs.Prelude.{List, ℕ, ◌+◌, ◌*◌, ◌/◌, ◌%◌, eqb, ltb, leb, if◌then◌else◌, Option, Some, None}
use Rattle.rules.specs.Bytes.{Bytes}
use Rattle.rules.specs.Values.{unpacked}
use Rattle.rules.specs.Work.{Updated, Next, Jump, Halted, moved, afterᵘ}
use Rattle.rules.specs.Layout.{b_at}
use Rattle.rules.specs.Tree.{Cases, no_case, below, cases_at}
use Rattle.rules.specs.Evaluate.{Env}
use Rattle.current.specs.Current.{soonest}
use Rattle.recalled.specs.Recall.{Memory, Recalled, fill_c, leaving, on_outcome, on_occurrenceᵐ, recall_c}
use Rattle.noted.specs.Noted.{memory_in}
use Rattle.rules.specs.declared.Tally.{Tally}
use Rattle.rules.specs.Moved.{Moved, Stay}

-- What an update has counted; nothing where it is stuck.
abbrev pub work_of : Moved → ℕ
work_of (Stay w) = w.work
work_of (Moved.Jump target v w) = w.work
work_of Moved.Stuck = 0

-- What it has counted, where it stays.
unfoldable pub calm_of : Moved → Option Tally
calm_of (Stay w) = Some w
calm_of (Moved.Jump target v w) = None
calm_of Moved.Stuck = None

-- An outcome as one number: 0 is stuck; else what was counted in bits 0-19, the work in 0-18 (an update's bound is below 2 to the 19th) and the mark
-- in 19. Below 1,048,576 it stays; else it jumps, with the value's type in bits 20-21, the target in bits 22-31 and the value's word above.
unfoldable pub count_in : ℕ → ℕ
count_in m = m % 1048576 % 524288

unfoldable pub tally_in : ℕ → Tally
tally_in m = record { work = count_in m; wrapped = leb 524288 (m % 1048576) }

unfoldable pub target_in : ℕ → ℕ
target_in m = m / 4194304 % 1024

-- The 8 bytes of a jump's value.
unfoldable pub jump_value : ℕ → ℕ
jump_value m = m / 1048576 % 4 + 256 + 4294967296 * (m / 4294967296)

unfoldable pub moved_in : ℕ → Moved
moved_in m =
    if eqb m 0 then Moved.Stuck
    else if ltb m 1048576 then Stay (tally_in m)
    else Moved.Jump (target_in m) (unpacked (jump_value m)) (tally_in m)

-- An update's number, with the state and the slots of definitions that it leaves.
abbrev pub left_in : ℕ → Bytes → List ℕ → Recalled
left_in r st memo = leaving (moved (moved_in r) st) (memory_in memo)

-- The walk over the cases: the first present event, from the state as it was; where none is present, the events are updated.
unfoldable pub walked : Bytes → Env → Cases → Bytes → Memory → Recalled
walked rec env cs st m = on_occurrenceᵐ (soonest rec st env cs) st (fill_c rec st env cs m) (recall_c rec env cs st (fill_c rec st env cs m))

-- The walk from a case whose event is absent: on to the next case, and where none was present the event is updated on the way back.
unfoldable pub on_walked : Updated → Memory → (Bytes → Memory → Recalled) → Recalled
on_walked (Next st w) m f = on_outcome (afterᵘ w) (f st m)
on_walked (Jump target v st w) m f = leaving (Jump target v st w) m
on_walked Halted m f = leaving Halted m

abbrev pub walked_on : Recalled → (Bytes → Memory → Recalled) → Recalled
walked_on r f = on_walked r.outcome r.memory f

-- The cases after case j.
unfoldable pub next_cases : Bytes → ℕ → Cases
next_cases p j = below j no_case (cases_at p) (b_at p j)
