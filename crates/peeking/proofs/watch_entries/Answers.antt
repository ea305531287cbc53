use mathlib.Core.Path.{sym, ◌∙◌}
use Rattle.starting.proofs.StartLaws.{counted}
use Rattle.peeking.proofs.CallLaws.{entry_refused, entries_run}
use Rattle.peeking.proofs.watch_entries.Goals as goal

pub list_fault-off-requires : goal.list_fault-off-requires
list_fault-off-requires c = ((counted _ _ c.requires.0 c.requires.1).shaped, c.requires.1, c.requires.2)

pub watch_listed-requires : goal.watch_listed-requires
watch_listed-requires c = (c.requires.0, c.requires.1, c.requires.2)

pub returns-in-Some : goal.returns-in-Some
returns-in-Some c = entry_refused _ _ _ _ _ _ _ (sym c.list_fault-off.ensures ∙ c.in-Some.is)

pub returns-in-None : goal.returns-in-None
returns-in-None c = entries_run _ _ _ _ _ _ _ (sym c.list_fault-off.ensures ∙ c.in-None.is) c.watch_listed.ensures.0 c.watch_listed.ensures.1
