use Rattle.typing.proofs.Rules.{plain_most}
use Rattle.rules.specs.Values.{maybe_of}
use Rattle.rules.specs.Typing.{just_type}
use mathlib.Core.Path.{sym, ◌∙◌}
use native.Mathlib.Omega.{arith}
use Rattle.typing.proofs.just_type.Goals as goal

pub overflow_add-result : goal.overflow_add-result
overflow_add-result c = omega (arith, plain_most c.args.t (sym c.is_plain.ensures ∙ c.if-is_plain.true))

pub returns-then-is_plain : goal.returns-then-is_plain
unfolding just_type maybe_of
returns-then-is_plain c = simp (sym c.is_plain.ensures ∙ c.if-is_plain.true)

pub returns-else-is_plain : goal.returns-else-is_plain
unfolding just_type maybe_of
returns-else-is_plain c = simp (sym c.is_plain.ensures ∙ c.if-is_plain.false)
