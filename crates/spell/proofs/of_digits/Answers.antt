use mathlib.Core.Path.{refl, sym, ap, ◌∙◌}
use borrow.Author.Tests.{not-true, not-false}
use Rattle.spell.specs.Vocabulary.{number_of, digits_in}
use Rattle.spell.proofs.NumberLaws.{capped_same, natural_digits}
use Rattle.spell.proofs.of_digits.Goals as goal

pub returns-then-not-is_natural : goal.returns-then-not-is_natural
unfolding digits_in
returns-then-not-is_natural c = rw (sym c.is_natural.ensures ∙ not-true _ c.if-not-is_natural.true-raw) refl

pub magnitude-requires : goal.magnitude-requires
magnitude-requires c = natural_digits _ (sym c.is_natural.ensures ∙ not-false _ c.if-not-is_natural.false-raw)

pub returns : goal.returns
unfolding digits_in
returns c = rw (sym c.is_natural.ensures ∙ not-false _ c.if-not-is_natural.false-raw) (c.signed.ensures ∙ ap (number_of _) c.magnitude.ensures ∙ capped_same _ _)
