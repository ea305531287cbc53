use Rattle.typing.proofs.NumberLaws.{type_back, place_back}
use native.Mathlib.Omega.{arith}
use Rattle.typing.proofs.typed_at.Goals as goal

pub returns : goal.returns
returns c = (type_back c.args.t c.args.at (omega (arith, c.ranges.t)), place_back c.args.t c.args.at (omega (arith, c.ranges.t)) (omega (arith, c.ranges.at)))
