use mathlib.Core.Path.{refl, sym}
use Rattle.outcomes.proofs.Combining.{takes_ints, operated_left, operated_right, word_by_lem}
use Rattle.outcomes.proofs.on_ints.Goals as goal

pub returns-in_default : goal.returns-in_default
returns-in_default c = operated_left c.args.k c.args.r c.args.s (sym (takes_ints _ c.requires.0)) c.plain_word.ensures refl c.in_default.is

pub returns-in_default-plain_word : goal.returns-in_default-plain_word
returns-in_default-plain_word c = operated_right c.args.k c.args.r c.args.s (sym (takes_ints _ c.requires.0)) c.plain_word.ensures c.plain_word-2.ensures c.in-Some.is c.in_default-plain_word.is

pub on_words-requires : goal.on_words-requires
on_words-requires c = let t = takes_ints c.args.k c.requires.0 in
    (word_by_lem c.args.k c.args.r t c.plain_word.ensures c.in-Some.is, word_by_lem c.args.k c.args.s t c.plain_word-2.ensures c.in-Some-plain_word.is, c.requires.1)
