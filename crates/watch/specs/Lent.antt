-- Codes 9, 15, 10 and 11, of a call on an accepted program.
-- Assumes nothing: these are definitions.
use Rattle.std.specs.Prelude.{◌*◌, ◌/◌, ◌%◌, Bool, not, length, eqb, leb}
use Rattle.rules.specs.Verdicts.{Verdict}
use Rattle.rules.specs.Bytes.{Bytes, ◌and◌}
use Rattle.rules.specs.Layout.{input_length}
use Rattle.rules.specs.Calls.{◌otherwise◌, refuse_if, state_verdict}
use Rattle.rules.specs.declared.Refusal.TheVariants.{RecordsLength, OutputLength}

-- The state, then the records' length, then the output's.
unfoldable pub lent_rest : Bytes → Bytes → Bytes → Bytes → Bool → Verdict
lent_rest p st recs out fit =
    state_verdict p st
    otherwise refuse_if (not fit) RecordsLength
    otherwise refuse_if (not (eqb (length out) (8 * (length recs / input_length)))) OutputLength

-- A run has 0 to 4,096 records.
unfoldable pub run_fits : Bytes → Bool
run_fits recs = eqb (length recs % input_length) 0 and leb (length recs / input_length) 4096
