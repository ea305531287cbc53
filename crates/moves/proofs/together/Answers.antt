use native.Mathlib.Omega.{arith}
use Rattle.rules.specs.Work.{one_rule, ◌plus◌}
use Rattle.rules.specs.Bytes.{◌or◌}
use Rattle.outcomes.proofs.Tallies.{same_tally}
use Rattle.moves.proofs.NumberLaws.{or_same}
use Rattle.moves.proofs.together.Goals as goal

pub returns : goal.returns
unfolding one_rule ◌plus◌ ◌or◌
returns c = same_tally (omega arith) (or_same c.args.u.wrapped c.args.w.wrapped)
