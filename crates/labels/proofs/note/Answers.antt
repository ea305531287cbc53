use Rattle.labels.specs.Noted.{noted, put_name}
use lib.ListN.{length-set}
use mathlib.Core.Path.{refl}
use native.Mathlib.Omega.{arith}
use Rattle.labels.proofs.note.Goals as goal

pub bounds-table-base-3 : goal.bounds-table-base-3
bounds-table-base-3 c = simp length-set (omega arith)

pub bounds-table-base-4 : goal.bounds-table-base-4
bounds-table-base-4 c = simp length-set (omega arith)

pub returns : goal.returns
unfolding noted put_name
returns c = refl
