use Rattle.places.specs.Numbers.{place_in}
use Rattle.typing.specs.Numbers.{place_below}
use borrow.Author.Rules.{rules}
use Rattle.typing.proofs.place_in.Goals as goal

pub returns : goal.returns
unfolding place_in place_below
returns c = search rules
