use Rattle.labels.proofs.NoteLaws.{if_unwanted, if_room, if_full}
use borrow.Author.Tests.{not-true, not-false}
use mathlib.Core.Path.{◌∙◌}
use Rattle.labels.proofs.note_if.Goals as goal

pub returns-then-not-wanted : goal.returns-then-not-wanted
returns-then-not-wanted c = if_unwanted _ _ _ _ (not-true _ c.if-not-wanted.true-raw)

pub returns-then-table-lt1008 : goal.returns-then-table-lt1008
returns-then-table-lt1008 c = c.note.ensures ∙ if_room _ _ _ _ (not-false _ c.if-not-wanted.false-raw) c.if-table-lt1008.true

pub returns : goal.returns
returns c = if_full _ _ _ _ (not-false _ c.if-not-wanted.false-raw) c.if-table-lt1008.false
