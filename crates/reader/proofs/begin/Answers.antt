use mathlib.Core.Path.{sym}
use borrow.Author.Tests.{lt-ltb, le-ltb}
use Rattle.reader.proofs.RowLaws as L
use Rattle.reader.proofs.begin.Goals as goal

pub returns-then-n-lt1008 : goal.returns-then-n-lt1008
returns-then-n-lt1008 c = (sym (lt-ltb _ _ c.if-n-lt1008.true), L.begun_yes _ c.if-n-lt1008.true)

pub returns : goal.returns
returns c = (sym (le-ltb _ _ c.if-n-lt1008.false), L.begun_not _ c.if-n-lt1008.false)
