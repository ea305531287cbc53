use Rattle.rules.specs.Bytes.{◌or◌}
use Rattle.outcomes.specs.Outcome.{tally_in}
use Rattle.rules.specs.Work.{rule, one_rule, nothing, after, give, ◌plus◌}
use Rattle.outcomes.proofs.given.Goals as goal

pub returns : goal.returns
unfolding rule after one_rule give nothing ◌plus◌ ◌or◌ tally_in
returns c = c.outcome.ensures
