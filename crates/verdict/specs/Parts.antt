-- The verdict on a program in three parts, as the code finds it.
-- Assumes nothing: these are definitions.
use Rattle.std.specs.Prelude.{Result, Ok, Err}
use Rattle.rules.specs.Verdicts.{Verdict}
use Rattle.rules.specs.Bytes.{Bytes, first}
use Rattle.rules.specs.declared.Refusal.{Refusal}
use Rattle.rules.specs.Layout.{blocks, records, nodes}
use Rattle.rules.specs.Format.{sum_wrong, number_wrong, record_wrong}
use Rattle.rules.specs.Shape.{shape_wrong}
use Rattle.rules.specs.Scope.{scope_fault}
use Rattle.rules.specs.Tree.{root}
use Rattle.rules.specs.Typing.{type_s, type_fault}
use Rattle.rules.specs.Ready.{ready_fault}
use Rattle.rules.specs.Calls.{◌otherwise◌, refuse_at}
use Rattle.rules.specs.declared.Refusal.TheVariants.{CheckSum, BlockNumber, RecordFault, ShapeFault, ScopeFault, TypeFault, NotReady}
use Rattle.verdict.specs.declared.Judged.{Judged}

-- Codes 2-4.
unfoldable pub format_verdict : Bytes → Verdict
format_verdict p =
    refuse_at CheckSum (first (sum_wrong p) (blocks p))
    otherwise refuse_at BlockNumber (first (number_wrong p) (blocks p))
    otherwise refuse_at RecordFault (first (record_wrong p) (records p))

-- Codes 6-8.
unfoldable pub tree_verdict : Bytes → Verdict
tree_verdict p =
    refuse_at ScopeFault (scope_fault p)
    otherwise refuse_at TypeFault (type_fault p)
    otherwise refuse_at NotReady (ready_fault p)

-- Codes 5-8.
unfoldable pub shape_verdict : Bytes → Verdict
shape_verdict p = refuse_at ShapeFault (first (shape_wrong p) (nodes p)) otherwise tree_verdict p

-- A verdict, with the number of nodes and the root's type where it finds no fault.
unfoldable pub judged : Bytes → Verdict → Result Judged Refusal
judged p (Ok _) = Ok (record { count = nodes p; ty = type_s (root p) })
judged p (Err r) = Err r
