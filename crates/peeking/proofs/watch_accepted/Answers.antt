use mathlib.Core.Path.{sym, ◌∙◌}
use Rattle.peeking.proofs.CallLaws.{length_refused, list_tried, list_most}
use Rattle.peeking.proofs.watch_accepted.Goals as goal

pub returns-then-list_wrong : goal.returns-then-list_wrong
returns-then-list_wrong c = length_refused _ _ _ _ _ _ (sym c.list_wrong.ensures ∙ c.if-list_wrong.true)

pub watch_entries-requires : goal.watch_entries-requires
watch_entries-requires c = (c.requires.0, c.requires.1, list_most _ (sym c.list_wrong.ensures ∙ c.if-list_wrong.false))

pub returns : goal.returns
returns c = list_tried _ _ _ _ _ _ (sym c.list_wrong.ensures ∙ c.if-list_wrong.false) c.watch_entries.ensures
