use mathlib.Core.Path.{refl}
use native.Mathlib.Omega.{arith}
use Rattle.rules.specs.Evaluate.{unbound}
use Rattle.noted.proofs.FillLaws.{noted_fresh}
use Rattle.watchrun.proofs.started.Goals as goal

pub steps-requires : goal.steps-requires
unfolding unbound
steps-requires g c = let begun = c.begin-ready.ensures in
    let pre = c.requires in
    record {
      going = record { accepted = pre.0; indexed = begun.indexed; counted = pre.1; well = begun.well c.in-Ok.is; blank = refl };
      noted = noted_fresh _;
      few = omega arith;
      fits = omega arith;
    }
