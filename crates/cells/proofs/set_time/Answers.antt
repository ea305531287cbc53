use Rattle.rules.specs.Layout.{set_time}
use borrow.Author.Rules.{rules}
use Rattle.cells.proofs.set_time.Goals as goal

pub returns : goal.returns
unfolding set_time
returns c = search rules
