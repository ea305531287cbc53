use mathlib.Core.Path.{◌≡◌, sym, ◌∙◌}
use lib.ListN.{length}
use native.Mathlib.Omega.{arith}
use borrow.Author.Tests.{not-true, not-false}
use Rattle.tokens.proofs.ScanLaws.{word_returns, word_again, word_starts, ends_word, ends_text_word}
use Rattle.tokens.proofs.word_end.Goals as goal

pub loop-i-init : goal.loop-i-init
loop-i-init c = (omega arith, c.requires, word_starts _ _)

pub returns-then-not-is_part-clause-rest_of_word : goal.returns-then-not-is_part-clause-rest_of_word
returns-then-not-is_part-clause-rest_of_word c = (word_returns _ _ _ c.loop-i.invariant.0 c.loop-i.invariant.1 c.loop-i.invariant.2 (λ start w. ends_word _ _ start w (omega arith) (sym c.is_part.ensures ∙ not-true _ c.if-not-is_part.true-raw))).1

pub loop-i-preserved : goal.loop-i-preserved
loop-i-preserved c = word_again _ _ _ c.loop-i.invariant.0 (omega arith) c.loop-i.invariant.2 (sym c.is_part.ensures ∙ not-false _ c.if-not-is_part.false-raw)

pub returns-clause-rest_of_word : goal.returns-clause-rest_of_word
returns-clause-rest_of_word c = let e : c.loop-i.i ≡ length c.args.s.now = omega arith in rw (sym e) (word_returns _ _ _ c.loop-i.invariant.0 c.loop-i.invariant.1 c.loop-i.invariant.2 (λ start w. ends_text_word _ _ start w (omega arith))).1
