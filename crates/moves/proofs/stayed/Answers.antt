use native.Mathlib.Omega.{arith}
use Rattle.moves.proofs.NumberLaws.{stayed_is, later_fits}
use Rattle.moves.proofs.stayed.Goals as goal

pub counted-requires : goal.counted-requires
counted-requires c = omega (arith, later_fits c.args.u c.args.w 0 c.together.ensures (omega (arith, c.requires)))

pub returns : goal.returns
returns c = let made = c.counted.ensures in
    stayed_is c.args.u c.args.w made.0 made.1 made.2 c.together.ensures
