use mathlib.Core.Path.{refl, ◌∙◌}
use native.Mathlib.Omega.{arith}
use Rattle.phrases.proofs.StepLaws as L
use Rattle.phrases.proofs.typed.Goals as goal

pub returns-in-NoType : goal.returns-in-NoType
returns-in-NoType c = (λ p. L.head_none _ _ _ _ _ _ _ ∙ L.typed_none _ _ _ _ _ c.in-NoType.is, c.requires.tables.long, omega arith, refl)

pub returns-in-AnyType : goal.returns-in-AnyType
returns-in-AnyType c = (λ p. c.binding.ensures.0 p ∙ L.typed_any _ _ _ _ _ c.in-AnyType.is, c.binding.ensures.1, c.binding.ensures.2, c.binding.ensures.3)

pub returns-in-PlainType : goal.returns-in-PlainType
returns-in-PlainType c = (λ p. c.binding-in-PlainType.ensures.0 p ∙ L.typed_plain _ _ _ _ _ c.in-PlainType.is, c.binding-in-PlainType.ensures.1, c.binding-in-PlainType.ensures.2, c.binding-in-PlainType.ensures.3)

pub returns-in-ValueType : goal.returns-in-ValueType
returns-in-ValueType c = (λ p. c.value_head.ensures _ ∙ L.typed_value _ _ _ _ _ c.in-ValueType.is, c.requires.tables.long, omega arith, refl)
