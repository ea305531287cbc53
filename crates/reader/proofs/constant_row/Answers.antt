use mathlib.Core.Path.{ap}
use Prim.Native.Nat.{ℕ}
use native.Mathlib.Omega.{arith}
use Rattle.phrases.specs.declared.Read.{Read}
use Rattle.reader.proofs.RowLaws as L
use Rattle.reader.proofs.constant_row.Goals as goal

pub put_names-requires : goal.put_names-requires
put_names-requires c = L.after_numbers _ _ _ _ _ _ _ _ c.put_numbers.ensures c.requires.0 c.requires.1

pub append-value-requires : goal.append-value-requires
append-value-requires c = L.after_names _ _ _ _ _ _ _ _ c.put_numbers.ensures c.requires.0 c.requires.1 _ _ _ _ _ c.put_names.ensures

pub returns : goal.returns
returns c = let d = L.row_done _ _ _ _ _ _ _ _ c.put_numbers.ensures c.requires.0 c.requires.1 _ _ _ _ _ c.put_names.ensures _ _ _ _ _ c.append-value.ensures.0 c.append-value.ensures.1 in ((let f : ℕ → Read ℕ = λ n. record { value = n; behind = c.args.behind } in ap f d.0), d.1, omega (arith, c.struct_known-1.given), omega (arith, c.struct_known-3-1.given))
