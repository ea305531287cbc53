-- What watchrun prints for a whole input: document 01, 'What watchrun prints', as one definition.
-- Assumes nothing: these are definitions.
use Rattle.std.specs.Prelude.{ℕ, zero, suc, ◌+◌, ◌*◌, ◌++◌, length, take, drop, eqb, ltb, if◌then◌else◌, Ok, Err}
use Rattle.rules.specs.Verdicts.{CheckAnswer}
use Rattle.rules.specs.Bytes.{Bytes}
use Rattle.rules.specs.Layout.{input_length, time_in}
use Rattle.rules.specs.Reset.{start_state}
use Rattle.rules.specs.Update.{Made, NotMade, step_of}
use Rattle.rules.specs.Calls.{check_call, record_verdict}
use Rattle.rules.specs.declared.Refusal.TheVariants.{RecordsLength, StateFault}
use Rattle.turns.specs.Decided.{blocks_taken, most_records}
use Rattle.lines.specs.Print.{first_line, step_line, end_line, refused_line}

-- Standard input: the blocks (as many as block 0 says, if 1 to 24, else just one: `blocks_taken`), .. The program is what it got of these blocks:
-- less, or nothing, where the input ends.
unfoldable pub program_of : Bytes → Bytes
program_of input = take (512 * blocks_taken input) input

-- .. then records.
unfoldable pub records_of : Bytes → Bytes
records_of input = drop (512 * blocks_taken input) input

-- Where no record is taken any more, the last line: steps and total work if nothing is left; a part record at the end, or a 4,097th record,
-- prints `REFUSED 10 0`.
unfoldable pub last_line : ℕ → ℕ → ℕ → Bytes
last_line left steps total = if eqb left 0 then end_line steps total else refused_line RecordsLength

-- It takes one record at a time, of so many that it may still take, after so many steps and so much work, from a state. Step lines: time, value,
-- work. A record that is refused ends the run: code and place (for 12, 13: steps printed). Lines of finished steps stand before the last.
-- (NotMade never comes up in an accepted program and a well-formed state.)
unfoldable pub step_lines : Bytes → ℕ → Bytes → ℕ → ℕ → Bytes → Bytes
step_lines p zero recs steps total st = last_line (length recs) steps total
step_lines p (suc more) recs steps total st =
    if ltb (length recs) input_length then last_line (length recs) steps total
    else
    elim (record_verdict steps st (take input_length recs)) [
      | Err r ↦ refused_line r
      | Ok _ ↦
          elim (step_of p (take input_length recs) st) [
            | Made v st₁ w ↦
                step_line (time_in (take input_length recs)) v w.work ++ step_lines p more (drop input_length recs) (suc steps) (total + w.work) st₁
            | NotMade ↦ refused_line StateFault
          ]
    ]

-- It checks what it got. First line: N, cells, bound, root type; then it starts from the start state. A refused program prints no other line.
unfoldable pub lines_of : Bytes → Bytes → CheckAnswer → Bytes
lines_of p recs (Ok found) = first_line found.nodes found.cells found.bound found.root ++ step_lines p most_records recs 0 0 (start_state p)
lines_of p recs (Err r) = refused_line r

unfoldable pub printed : Bytes → Bytes
printed input = lines_of (program_of input) (records_of input) (check_call (program_of input))
