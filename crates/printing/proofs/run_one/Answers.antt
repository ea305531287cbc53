use native.Mathlib.Omega.{arith}
use Rattle.rules.specs.Bytes.{byte_at}
use Rattle.printing.proofs.run_one.Goals as goal

pub run_records-requires : goal.run_records-requires
run_records-requires c = let pre = c.requires in (pre.0, omega (arith, pre.1), omega (arith, pre.1), pre.2)

pub returns : goal.returns
unfolding byte_at
returns c = let e = c.run_records.ensures in
    record {
      ran = e.0;
      going = e.1;
      spent = e.2;
      noted = e.3;
      small = (
        record { small = λ i. omega (arith, c.type_inv.program i) },
        record { small = λ i. omega (arith, c.slice_known-1.given i) },
        record { small = λ i. omega (arith, c.type_inv.rec i) },
      );
    }
