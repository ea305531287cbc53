use Rattle.rules.specs.Values.{word_in}
use borrow.Author.Rules.{rules}
use Rattle.values.proofs.word_in.Goals as goal

pub returns : goal.returns
unfolding word_in
returns c = search rules
