use native.Mathlib.Omega.{arith}
use Rattle.tokens.proofs.ScanLaws.{next_none, next_mark, next_plain}
use Rattle.tokens.proofs.next_word.Goals as goal

pub returns-then-s-first : goal.returns-then-s-first
returns-then-s-first c = next_none _ _ _ (c.blank_end-first.ensures.forward, c.blank_end-first.ensures.blank) (omega arith)

pub returns-then-is_mark : goal.returns-then-is_mark
returns-then-is_mark c = next_mark _ _ _ (c.blank_end-first.ensures.forward, c.blank_end-first.ensures.blank) _ (omega arith) c.is_mark.ensures c.if-is_mark.true

pub returns : goal.returns
returns c = next_plain _ _ _ (c.blank_end-first.ensures.forward, c.blank_end-first.ensures.blank) _ _ (omega arith) c.is_mark.ensures c.if-is_mark.false (c.word_end-end.ensures.forward, c.word_end-end.ensures.rest_of_word)
