use mathlib.Core.Path.{sym, refl, ◌∙◌}
use Rattle.rules.specs.Values.{is_plain}
use Rattle.letters.proofs.ValueLaws.{plain_value, maybe_value}
use Rattle.letters.proofs.Sheet.value.Goals as goal

pub returns-then-both : goal.returns-then-both
unfolding is_plain
returns-then-both c = plain_value _ _ _ (sym c.both.ensures ∙ c.if-both.true) c.put.ensures c.plain.ensures

pub returns : goal.returns
unfolding is_plain
returns c = maybe_value _ _ _ _ _ (sym c.both.ensures ∙ c.if-both.false) c.saturating_sub.ensures refl c.put.ensures c.put-2.ensures c.maybe.ensures c.put-3.ensures
