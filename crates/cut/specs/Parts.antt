-- A list of records cut at a record, and the two parts run one after the other.
-- Assumes nothing: these are definitions.
use Rattle.std.specs.Prelude.{◌≡◌, ◌++◌, ℕ, ◌+◌, ◌*◌, ◌/◌, ◌%◌, ◌≤◌, eqb, length, drop, if◌then◌else◌, Ok, Err}
use Rattle.rules.specs.Verdicts.{RunAnswer, finished_with, refused_after}
use Rattle.rules.specs.Bytes.{Bytes}
use Rattle.rules.specs.Layout.{input_length}
use Rattle.rules.specs.Answers.{place_of}
use Rattle.rules.specs.Calls.{RunOutcome, no_step}
use Rattle.rules.specs.declared.Refusal.{Refusal}
use Rattle.rules.specs.declared.Refusal.TheVariants.{ProgramLength, CheckSum, BlockNumber, RecordFault, ShapeFault, ScopeFault, TypeFault, NotReady, StateFault, RecordsLength, OutputLength, InputFault, TimeBack, OtherProgram}

-- Places in the second part count from the cut: the same refusal in the whole list, so many records before it.
abbrev pub later : ℕ → Refusal → Refusal
later d ProgramLength = ProgramLength
later d (CheckSum j) = CheckSum j
later d (BlockNumber j) = BlockNumber j
later d (RecordFault r) = RecordFault r
later d (ShapeFault n) = ShapeFault n
later d (ScopeFault n) = ScopeFault n
later d (TypeFault n) = TypeFault n
later d (NotReady n) = NotReady n
later d StateFault = StateFault
later d RecordsLength = RecordsLength
later d OutputLength = OutputLength
later d (InputFault k) = InputFault (d + k)
later d (TimeBack k) = TimeBack (d + k)
later d OtherProgram = OtherProgram

-- Wrapped-step numbers in the second part count from the cut: of the whole, the first part's, if it has one, else the second's, so many records later.
abbrev pub first_of : ℕ → ℕ → ℕ → ℕ
first_of d mark mark₂ = if eqb mark no_step then (if eqb mark₂ no_step then no_step else d + mark₂) else mark

-- The second part's answer after a first part of so many steps, so much work and a first wrapped step: steps, places and work are summed.
abbrev pub counted_on : ℕ → ℕ → ℕ → RunAnswer → RunAnswer
counted_on d w mark (Ok end) = finished_with (d + end.steps) (w + end.work) (first_of d mark end.wrapped)
counted_on d w mark (Err stop) = refused_after (later d stop.why) (w + stop.work) (first_of d mark stop.wrapped)

-- The steps that an answer tells of: all, or those before the record that is refused.
abbrev pub steps_in : RunAnswer → ℕ
steps_in (Ok end) = end.steps
steps_in (Err stop) = place_of stop.why

-- Two parts, the first with its run not refused (its answer tells so), the second of whole records; each of the three rooms fits its records,
-- and the whole has at most 4,096.
pub record CutAt (recs₁ recs₂ out₁ out₂ out : Bytes) (answer : RunAnswer) (steps work mark : ℕ) : Type 0 where
  pub not_refused : answer ≡ finished_with steps work mark
  pub whole_records : length recs₂ % input_length ≡ 0
  pub room₁ : length out₁ ≡ 8 * (length recs₁ / input_length)
  pub room₂ : length out₂ ≡ 8 * (length recs₂ / input_length)
  pub room : length out ≡ 8 * (length (recs₁ ++ recs₂) / input_length)
  pub not_many : length (recs₁ ++ recs₂) / input_length ≤ 4096

-- What the parts' runs, one after the other, and the whole run have in common: the final state; the answer, summed; and the outputs: the
-- whole's room has the first part's output, then what the second wrote, 8 bytes for each of its steps, then what it held before. So where the
-- second part is not refused, or where the whole's room held what the parts' rooms did, its output is the parts' outputs one after the other.
pub record SameParts (out₁ out₂ out : Bytes) (steps work mark : ℕ) (a b c : RunOutcome) : Type 0 where
  pub state : c.state ≡ b.state
  pub answer : c.answer ≡ counted_on steps work mark b.answer
  pub written : Bytes
  pub counted : length written ≡ 8 * steps_in b.answer
  pub into₂ : b.output ≡ written ++ drop (length written) out₂
  pub into : c.output ≡ a.output ++ (written ++ drop (length a.output + length written) out)
  pub finished : (steps₂ work₂ mark₂ : ℕ) → b.answer ≡ finished_with steps₂ work₂ mark₂ → c.output ≡ a.output ++ b.output
  pub one_room : out ≡ out₁ ++ out₂ → c.output ≡ a.output ++ b.output
