-- What an accepted program meets: each rule of format, shape, scope, types and readiness, at every place.
-- Assumes nothing: these are definitions.
use Rattle.std.specs.Prelude.{◌≡◌, false, None}
use Rattle.rules.specs.Bytes.{Bytes, first}
use Rattle.rules.specs.Layout.{blocks, records, nodes}
use Rattle.rules.specs.Format.{length_wrong, sum_wrong, number_wrong, record_wrong}
use Rattle.rules.specs.Shape.{shape_wrong}
use Rattle.rules.specs.Scope.{scope_fault}
use Rattle.rules.specs.Typing.{type_fault}
use Rattle.rules.specs.Ready.{ready_fault}

-- Codes 1-4: the file is whole blocks, and each block and record is as it should be.
pub record Formed (p : Bytes) : Type 0 where
  pub length_right : length_wrong p ≡ false
  pub sums_right : first (sum_wrong p) (blocks p) ≡ None
  pub numbers_right : first (number_wrong p) (blocks p) ≡ None
  pub records_right : first (record_wrong p) (records p) ≡ None

-- Codes 1-8.
pub record Accepted (p : Bytes) : Type 0 where
  pub formed : Formed p
  pub shape_right : first (shape_wrong p) (nodes p) ≡ None
  pub scope_right : scope_fault p ≡ None
  pub types_right : type_fault p ≡ None
  pub ready_right : ready_fault p ≡ None
