use mathlib.Core.Path.{sym, ap, ◌∙◌}
use Rattle.std.proofs.Common.{arith}
use Rattle.std.proofs.lemmas.Grind.{common_steps}
use Rattle.std.specs.Prelude.{Err}
use Rattle.rules.specs.Bytes.{◌or◌}
use Rattle.texts.specs.Spelling.{type_word}
use Rattle.texts.specs.Steps as S
use Rattle.spell.specs.Vocabulary.{listed}
use Rattle.phrases.proofs.StepLaws as L
use Rattle.phrases.proofs.is_plain_value.Goals as goal

pub returns-in-Ok : goal.returns-in-Ok
unfolding S.is_plain_value ◌or◌
returns-in-Ok c = L.is_number_true _ (L.number_inside _ _ (sym c.number_of_word.ensures ∙ c.in-Ok.is)).0

pub returns-in-Err-Outside : goal.returns-in-Err-Outside
unfolding S.is_plain_value ◌or◌
returns-in-Err-Outside c = L.is_number_true _ (L.number_outside _ (sym c.number_of_word.ensures ∙ c.in-Err-Outside.is ∙ ap Err c.in-Err-Outside.field-0-is)).0

pub returns-then-spells-2 : goal.returns-then-spells-2
unfolding listed type_word ◌or◌
returns-then-spells-2 c = rw (L.is_word_value c.args.word.now (L.number_other _ (sym c.number_of_word.ensures ∙ c.in-Err-Other.is ∙ ap Err c.in-Err-Other.field-0-is))) (grind (arith, common_steps))

pub returns-else-spells-2 : goal.returns-else-spells-2
unfolding listed type_word ◌or◌
returns-else-spells-2 c = rw (L.is_word_value c.args.word.now (L.number_other _ (sym c.number_of_word.ensures ∙ c.in-Err-Other.is ∙ ap Err c.in-Err-Other.field-0-is))) (grind (arith, common_steps))
