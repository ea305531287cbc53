-- The low byte is 1 where they agree and 0 where not.
use mathlib.Core.Path.{ap, sym, ◌∙◌}
use Prim.Native.Nat.{ℕ}
use lib.Dec.{eqb}
use Rattle.typing.specs.Numbers.{same_in}
use Rattle.typing.proofs.bodies.Goals as goal

pub returns-then-same : goal.returns-then-same
unfolding same_in
returns-then-same c = (ap (λ (k : ℕ). eqb k 1) c.typed_at.ensures.0 ∙ sym c.if-same.true, c.typed_at.ensures.1)

pub returns : goal.returns
unfolding same_in
returns c = (ap (λ (k : ℕ). eqb k 1) c.typed_at-2.ensures.0 ∙ sym c.if-same.false, c.typed_at-2.ensures.1)
