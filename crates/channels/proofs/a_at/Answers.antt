-- `channels::a_at` meets its contract: two bytes behind the kind and the type.
use Prim.Native.Nat.{ℕ, ◌+◌}
use mathlib.Core.Path.{ap, ◌∙◌}
use Rattle.rules.specs.Bytes.{u16_at}
use Rattle.rules.specs.Layout.{a_at}
use Rattle.channels.proofs.a_at.Goals as goal

pub returns : goal.returns
unfolding a_at
returns c = c.u16_at.ensures ∙ ap (λ (n : ℕ). u16_at c.args.p.now (n + 2)) c.record_at-at.ensures.0
