-- The three calls: from the bytes that they are lent to the answer and the bytes after.
-- Assumes nothing: these are definitions.
use Rattle.std.specs.Prelude.{ℕ, zero, suc, ◌+◌, ◌*◌, ◌/◌, ◌%◌, Bool, not, length, eqb, ltb, leb, if◌then◌else◌, Option, Some, None, Ok, Err}
use Rattle.rules.specs.Verdicts.{CheckAnswer, RunAnswer, StartAnswer, Verdict, accepted_with, finished_with, refused_after}
use Rattle.rules.specs.Bytes.{Bytes, byte_at, write_at, first, ◌and◌, ◌or◌}
use Rattle.rules.specs.Values.{value_bytes}
use Rattle.rules.specs.Layout.{blocks, records, nodes, cells, state_length, last_time, no_time, input_length, input_at, time_in, flag_on, event_on}
use Rattle.rules.specs.Format.{length_wrong, sum_wrong, number_wrong, record_wrong}
use Rattle.rules.specs.Shape.{shape_wrong}
use Rattle.rules.specs.Tree.{root}
use Rattle.rules.specs.Scope.{scope_fault}
use Rattle.rules.specs.Typing.{type_s, type_fault}
use Rattle.rules.specs.Ready.{ready_fault}
use Rattle.rules.specs.Reset.{start_state}
use Rattle.rules.specs.WellFormed.{long_as_cells, knows_program, rest_well, last_moment}
use Rattle.rules.specs.Bound.{bound}
use Rattle.rules.specs.Update.{Made, NotMade, step_of}
use Rattle.rules.specs.declared.Refusal.{Refusal}
use Rattle.rules.specs.declared.Refusal.TheVariants.{ProgramLength, CheckSum, BlockNumber, RecordFault, ShapeFault, ScopeFault, TypeFault, NotReady, StateFault, RecordsLength, OutputLength, InputFault, TimeBack, OtherProgram}
use Rattle.rules.specs.declared.Tally.{Tally}

-- The first fault of two.
infixr 20 ◌otherwise◌
unfoldable pub ◌otherwise◌ : Verdict → Verdict → Verdict
(Ok _) otherwise next = next
Err r otherwise next = Err r

unfoldable pub refuse_if : Bool → Refusal → Verdict
refuse_if wrong r = if wrong then Err r else Ok tt

unfoldable pub refuse_at : (ℕ → Refusal) → Option ℕ → Verdict
refuse_at reason (Some n) = Err (reason n)
refuse_at reason None = Ok tt

-- Codes 1-8, lowest code first, then smallest place.
unfoldable pub program_verdict : Bytes → Verdict
program_verdict p =
    refuse_if (length_wrong p) ProgramLength
    otherwise refuse_at CheckSum (first (sum_wrong p) (blocks p))
    otherwise refuse_at BlockNumber (first (number_wrong p) (blocks p))
    otherwise refuse_at RecordFault (first (record_wrong p) (records p))
    otherwise refuse_at ShapeFault (first (shape_wrong p) (nodes p))
    otherwise refuse_at ScopeFault (scope_fault p)
    otherwise refuse_at TypeFault (type_fault p)
    otherwise refuse_at NotReady (ready_fault p)

-- Check accepted: N, cells, bound, root type.
unfoldable pub check_answer : Bytes → Verdict → CheckAnswer
check_answer p (Ok _) = accepted_with (nodes p) (cells p) (bound p) (type_s (root p))
check_answer p (Err r) = Err r

unfoldable pub check_call : Bytes → CheckAnswer
check_call p = check_answer p (program_verdict p)

-- Start tries 1-9; 9 is the wrong length only. A refusal leaves the lent memory as before.
pub record StartOutcome : Type 0 where
  pub answer : StartAnswer
  pub state : Bytes

unfoldable pub start_outcome : Bytes → Bytes → Verdict → StartOutcome
start_outcome p st (Ok _) = record { answer = Ok tt; state = start_state p }
start_outcome p st (Err r) = record { answer = Err r; state = st }

unfoldable pub start_call : Bytes → Bytes → StartOutcome
start_call p st =
    start_outcome p st (program_verdict p otherwise refuse_if (not (eqb (length st) (state_length p))) StateFault)

-- What a run answers and leaves.
pub record RunOutcome : Type 0 where
  pub answer : RunAnswer
  pub state : Bytes
  pub output : Bytes

-- A state: 9 for its length, then 15 for a wrong sum, then 9 for the rest.
unfoldable pub state_verdict : Bytes → Bytes → Verdict
state_verdict p st =
    refuse_if (not (long_as_cells p st)) StateFault
    otherwise refuse_if (not (knows_program p st)) OtherProgram
    otherwise refuse_if (not (rest_well p st)) StateFault

-- Codes 1-11 and 15 of a run whose records are of the right length or not.
unfoldable pub lent_verdict : Bytes → Bytes → Bytes → Bytes → Bool → Verdict
lent_verdict p st recs out records_fit =
    program_verdict p
    otherwise state_verdict p st
    otherwise refuse_if (not records_fit) RecordsLength
    otherwise refuse_if (not (eqb (length out) (8 * (length recs / input_length)))) OutputLength

-- Code 12: flags' high bits or zero bytes set, absent word not zero, time too large.
unfoldable pub absent_wrong : Bytes → ℕ → Bool
absent_wrong rec c = eqb (flag_on rec c) 0 and not (eqb (event_on rec c) 0)

unfoldable pub input_wrong : Bytes → Bool
input_wrong rec =
    ltb 15 (byte_at rec 20)
    or not (eqb (byte_at rec 21) 0 and eqb (byte_at rec 22) 0 and eqb (byte_at rec 23) 0)
    or absent_wrong rec 0 or absent_wrong rec 1 or absent_wrong rec 2 or absent_wrong rec 3
    or ltb last_moment (time_in rec)

-- Code 13: time before the state's time, if it has one.
unfoldable pub time_wrong : Bytes → Bytes → Bool
time_wrong st rec = not (eqb (last_time st) no_time) and ltb (time_in rec) (last_time st)

-- One record of a run, after so many steps: 12, then 13.
unfoldable pub record_verdict : ℕ → Bytes → Bytes → Verdict
record_verdict done st rec = refuse_if (input_wrong rec) (InputFault done) otherwise refuse_if (time_wrong st rec) (TimeBack done)

-- A run, refused or not, answers the number of the first step in which a number wrapped, from 0, or 65535 if none.
abbrev pub no_step : ℕ
no_step = 65535

-- That number after one more step.
unfoldable pub first_wrapped : ℕ → ℕ → Tally → ℕ
first_wrapped mark done w = if eqb mark no_step and w.wrapped then done else mark

-- A run of the records left, after so many steps, so much work and that first wrapped step. A refusal keeps the finished steps. (NotMade never
-- comes up in an accepted program and a well-formed state.)
unfoldable pub run_from : Bytes → Bytes → ℕ → ℕ → ℕ → ℕ → Bytes → Bytes → RunOutcome
run_from p recs zero done work mark st out = record { answer = finished_with done work mark; state = st; output = out }
run_from p recs (suc left) done work mark st out =
    elim (record_verdict done st (input_at recs done)) [
      | Err r ↦ record { answer = refused_after r work mark; state = st; output = out }
      | Ok _ ↦
          elim (step_of p (input_at recs done) st) [
            | Made v st₁ w ↦
                run_from p recs left (suc done) (work + w.work) (first_wrapped mark done w) st₁ (write_at out (8 * done) (value_bytes v))
            | NotMade ↦ record { answer = refused_after StateFault work mark; state = st; output = out }
          ]
    ]

unfoldable pub run_outcome : Bytes → Bytes → Bytes → Bytes → Verdict → RunOutcome
run_outcome p st recs out (Ok _) = run_from p recs (length recs / input_length) 0 0 no_step st out
run_outcome p st recs out (Err r) = record { answer = refused_after r 0 no_step; state = st; output = out }

-- A run has 0 to 4,096 records, output 8 bytes each. (A step is a run of one record.)
unfoldable pub run_call : Bytes → Bytes → Bytes → Bytes → RunOutcome
run_call p st recs out =
    run_outcome p st recs out
    (lent_verdict p st recs out (eqb (length recs % input_length) 0 and leb (length recs / input_length) 4096))
