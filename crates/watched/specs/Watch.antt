-- The watched run: the plain run, and a second room with the values that the listed nodes gave.
-- Assumes nothing: these are definitions.
use Rattle.std.specs.Prelude.{ℕ, zero, suc, ◌+◌, ◌-◌, ◌*◌, ◌/◌, ◌%◌, List, [], ◌∷◌, ◌++◌, Bool, true, false, not, length, get_or, eqb, ltb, leb, if◌then◌else◌, Result, Ok, Err, Option, Some, None}
use Rattle.rules.specs.Verdicts.{RunAnswer, Verdict}
use Rattle.rules.specs.Bytes.{Bytes, bytes_of, write_at, first, ◌and◌, ◌or◌}
use Rattle.rules.specs.Layout.{most_nodes, nodes, kind_at, input_length, input_at}
use Rattle.rules.specs.Kinds.{is_signal}
use Rattle.rules.specs.Tree.{root}
use Rattle.rules.specs.Evaluate.{unbound}
use Rattle.rules.specs.Update.{Stepped, Made, NotMade, step_of}
use Rattle.rules.specs.Calls.{◌otherwise◌, refuse_if, program_verdict, state_verdict, record_verdict, RunOutcome, run_outcome}
use Rattle.rules.specs.declared.Refusal.{Refusal}
use Rattle.rules.specs.declared.Refusal.TheVariants.{RecordsLength, OutputLength}
use Rattle.watched.specs.declared.ListFault.{ListFault}
use Rattle.watched.specs.declared.ListFault.TheVariants.{ListLength, ListEntry}
use Rattle.watched.specs.Gave.{gave_s}

-- A list of node numbers.
abbrev pub List16 : Type 0
List16 = List ℕ

-- 17 if the list has not 1 to 8 entries.
unfoldable pub list_wrong : List16 → Bool
list_wrong l = eqb (length l) 0 or ltb 8 (length l)

-- Then 18, with the entry's place, for the first that is no signal node or not above the one before.
unfoldable pub entry_off : Bytes → List16 → ℕ → Bool
entry_off p l j =
    not (ltb (get_or l j 0) (nodes p) and is_signal (kind_at p (get_or l j 0)))
    or (not (eqb j 0) and not (ltb (get_or l (j - 1) 0) (get_or l j 0)))

unfoldable pub list_fault : Bytes → List16 → Option ℕ
list_fault p l = first (entry_off p l) (length l)

-- For each step it writes, in list order, the value that the node gave while the root was evaluated, or 8 zero bytes where the evaluation did not
-- come to that node.
unfoldable pub shown : Bytes → Bytes → Bytes → List16 → Bytes
shown p rec st [] = []
shown p rec st (x ∷ xs) = bytes_of 8 (gave_s rec st (unbound most_nodes) (root p) x 0) ++ shown p rec st xs

-- The second room after a run of the records left: the entries of the finished steps, 8 bytes for each step and listed node. (The same steps as
-- runFrom's.) A refused watched run keeps the entries of its finished steps.
unfoldable pub shown_from : Bytes → Bytes → List16 → ℕ → ℕ → Bytes → Bytes → Bytes
shown_from p recs l zero done st room = room
shown_from p recs l (suc left) done st room =
    elim (record_verdict done st (input_at recs done)) [
      | Err r ↦ room
      | Ok _ ↦
          elim (step_of p (input_at recs done) st) [
            | Made v st₁ w ↦
                shown_from p recs l left (suc done) st₁ (write_at room (8 * length l * done) (shown p (input_at recs done) st l))
            | NotMade ↦ room
          ]
    ]

-- 11 also for the second room's length.
unfoldable pub records_fit : Bytes → Bool
records_fit recs = eqb (length recs % input_length) 0 and leb (length recs / input_length) 4096

unfoldable pub rooms_fit : Bytes → List16 → Bytes → Bytes → Bool
rooms_fit recs l out room = eqb (length out) (8 * (length recs / input_length)) and eqb (length room) (8 * length l * (length recs / input_length))

-- Codes 9, 15, 10 and 11, of a program that is accepted and a list that is right.
unfoldable pub watch_lent : Bytes → Bytes → Bytes → List16 → Bytes → Bytes → Verdict
watch_lent p st recs l out room =
    state_verdict p st
    otherwise refuse_if (not (records_fit recs)) RecordsLength
    otherwise refuse_if (not (rooms_fit recs l out room)) OutputLength

unfoldable pub watch_room : Bytes → Bytes → Bytes → List16 → Bytes → Verdict → Bytes
watch_room p st recs l room (Ok _) = shown_from p recs l (length recs / input_length) 0 st room
watch_room p st recs l room (Err r) = room

-- What a watched run answers and leaves.
pub record WatchOutcome : Type 0 where
  pub answer : Result RunAnswer ListFault
  pub state : Bytes
  pub output : Bytes
  pub room : Bytes

-- A plain run's, with a second room.
unfoldable pub as_run : RunOutcome → Bytes → WatchOutcome
as_run o room = record { answer = Ok o.answer; state = o.state; output = o.output; room = room }

-- Refused for its list: all lent memory is as before.
unfoldable pub off_list : Result RunAnswer ListFault → Bytes → Bytes → Bytes → WatchOutcome
off_list a st out room = record { answer = a; state = st; output = out; room = room }

-- 17 and 18 both after 8 and before 9.
unfoldable pub watch_listed : Bytes → Bytes → Bytes → List16 → Bytes → Bytes → Option ℕ → WatchOutcome
watch_listed p st recs l out room (Some j) = off_list (Err (ListEntry j)) st out room
watch_listed p st recs l out room None =
    as_run (run_outcome p st recs out (watch_lent p st recs l out room)) (watch_room p st recs l room (watch_lent p st recs l out room))

unfoldable pub watch_accepted : Bytes → Bytes → Bytes → List16 → Bytes → Bytes → WatchOutcome
watch_accepted p st recs l out room =
    if list_wrong l then off_list (Err ListLength) st out room else watch_listed p st recs l out room (list_fault p l)

unfoldable pub watch_judged : Bytes → Bytes → Bytes → List16 → Bytes → Bytes → Verdict → WatchOutcome
watch_judged p st recs l out room (Ok _) = watch_accepted p st recs l out room
watch_judged p st recs l out room (Err r) = as_run (run_outcome p st recs out (Err r)) room

-- A watched run takes a rising list of 1 to 8 signal nodes beside the records and a second room of 8 bytes for each step and listed node.
unfoldable pub watch_call : Bytes → Bytes → Bytes → List16 → Bytes → Bytes → WatchOutcome
watch_call p st recs l out room = watch_judged p st recs l out room (program_verdict p)
