use mathlib.Core.Path.{◌≡◌, refl}
use Rattle.rules.specs.Bytes.{◌and◌, ◌or◌}
use Rattle.well.proofs.WellLaws.{right_rest_said}
use Rattle.state.proofs.StartLaws.{headed, rooted}
use Rattle.well.proofs.rest_well.Goals as goal

pub last_time-time-requires : goal.last_time-time-requires
last_time-time-requires c = headed c.args.p.now _ c.requires.3

pub well_s-well-requires : goal.well_s-well-requires
well_s-well-requires c = rooted c.args.p.now c.args.index.now _ c.args.count c.requires.0 c.requires.1 c.requires.2 c.requires.3

pub returns : goal.returns
unfolding ◌and◌ ◌or◌
returns c = right_rest_said c.args.p.now c.args.st.now c.requires.2 c.last_time-time.ensures refl c.well_s-well.ensures refl
