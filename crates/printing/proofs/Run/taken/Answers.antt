use mathlib.Core.Path.{refl, ap, ◌∙◌}
use native.Mathlib.Omega.{arith}
use lib.ListN.{replicate}
use Rattle.lines.specs.Print.{refused_line}
use Rattle.printing.proofs.TurnLaws.{finishes, refuses, spent, turned}
use Rattle.printing.proofs.Run.taken.Goals as goal

pub in_all-self-requires : goal.in_all-self-requires
in_all-self-requires c = let pre = c.requires in
    omega (arith, pre.0.fits, pre.1, spent c.in-Ok.is c.run_one.ensures.spent pre.2)

pub returns-in-Ok-clause-turned : goal.returns-in-Ok-clause-turned
returns-in-Ok-clause-turned c = let pre = c.requires in
    let one = c.run_one.ensures in
    let e
    = finishes (replicate 8 0) c.args.self.now.steps c.args.self.now.total pre.2 refl one.small.0 one.small.1 one.small.2
    pre.0.going.accepted pre.0.going.well one.ran c.in-Ok.is in
    turned e c.stepped.ensures.line_after refl (omega arith) c.in_all-self.ensures refl

pub returns-in-Ok-clause-under : goal.returns-in-Ok-clause-under
returns-in-Ok-clause-under c = let pre = c.requires in
    let one = c.run_one.ensures in
    record {
      going = one.going;
      noted = one.noted;
      few = omega (arith, pre.1);
      fits = omega (arith, pre.0.fits, c.in_all-self.ensures, spent c.in-Ok.is one.spent pre.2);
    }

pub returns-in-Err-clause-turned : goal.returns-in-Err-clause-turned
returns-in-Err-clause-turned c = let pre = c.requires in
    let one = c.run_one.ensures in
    let e
    = refuses (replicate 8 0) c.args.self.now.steps c.args.self.now.total pre.2 refl one.small.0 one.small.1 one.small.2
    pre.0.going.accepted pre.0.going.well one.ran c.in-Err.is in
    turned e (c.refused_line.ensures.line_after ∙ ap refused_line c.placed.ensures) refl refl refl refl
