use Rattle.tidy.proofs.SweepLaws.{set_beyond}
use mathlib.Core.Path.{refl, sym}
use native.Mathlib.Omega.{arith}
use Rattle.rules.specs.Scope.{mark}
use Rattle.tidy.proofs.mark.Goals as goal

pub returns-then-binder-used : goal.returns-then-binder-used
unfolding mark
returns-then-binder-used c = refl

pub returns-else-binder-used : goal.returns-else-binder-used
unfolding mark
returns-else-binder-used c = sym (set_beyond c.args.used.now c.args.binder 1 (omega (arith, c.if-binder-used.false)))
