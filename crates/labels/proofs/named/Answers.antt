use mathlib.Core.Path.{sym}
use Rattle.std.proofs.Common.{inl, inr}
use Rattle.texts.specs.Tokens.{part}
use Rattle.labels.proofs.NoteLaws.{named_part, named_none}
use Rattle.labels.proofs.named.Goals.{else-first-end-via-then-first-end+else-end-text, else-first-end-via-else-first-end}
use Rattle.labels.proofs.named.Goals as goal

pub returns-then-end-text : goal.returns-then-end-text
unfolding part
returns-then-end-text c = sym (named_part _ _ _ c.if-first-end.true c.if-end-text.true)

pub returns : goal.returns
returns c = elim c.else-first-end.branch [
  | else-first-end-via-then-first-end+else-end-text w ↦ sym (named_none _ _ _ (inr w.if-end-text.false))
  | else-first-end-via-else-first-end w ↦ sym (named_none _ _ _ (inl w.if-first-end.false))
]
