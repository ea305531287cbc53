use Rattle.outcomes.specs.Outcome.{tally_in}
use Rattle.outcomes.proofs.Counted.{work_is}
use native.Mathlib.Omega.{arith}
use mathlib.Core.Path.{refl, sym}
use Rattle.outcomes.proofs.Combining.{takes_bools, operated_done, operated_left, operated_right, truth_gives, word_by_lem}
use Rattle.outcomes.proofs.on_bools.Goals as goal

pub returns-in_default : goal.returns-in_default
returns-in_default c = operated_left c.args.k c.args.r c.args.s (sym (takes_bools _ c.requires.0)) c.plain_word.ensures refl c.in_default.is

pub returns-in_default-plain_word : goal.returns-in_default-plain_word
returns-in_default-plain_word c = operated_right c.args.k c.args.r c.args.s (sym (takes_bools _ c.requires.0)) c.plain_word.ensures c.plain_word-2.ensures c.in-Some.is c.in_default-plain_word.is

pub joined-requires : goal.joined-requires
unfolding tally_in
joined-requires c = (c.counted_in.ensures.1, c.counted_in-2.ensures.1, omega (arith, c.requires.1, work_is c.args.r, work_is c.args.s, c.counted_in.ensures.0, c.counted_in-2.ensures.0))

pub returns : goal.returns
returns c = let k = c.args.k in
    let t = takes_bools k c.requires.0 in
    operated_done k c.args.r c.args.s (word_by_lem k c.args.r t c.plain_word.ensures c.in-Some.is) (word_by_lem k c.args.s t c.plain_word-2.ensures c.in-Some-plain_word.is) c.requires.1 c.counted_in.ensures.0 c.counted_in-2.ensures.0 c.joined.ensures.0 c.joined.ensures.1
    (truth_gives k _ _ _ (omega (arith, c.requires.0)) (λ e. omega (arith, e, c.requires.0)) c.test.ensures c.truth.ensures)
