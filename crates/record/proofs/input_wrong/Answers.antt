use lib.Dec.{ltb}
use Rattle.rules.specs.Bytes.{u32_at, ◌or◌}
use Rattle.rules.specs.Calls.{absent_wrong, input_wrong}
use Rattle.record.proofs.EventLaws.{flags_and_zeros, gathered}
use Rattle.record.proofs.input_wrong.Goals as goal

pub returns : goal.returns
unfolding input_wrong ◌or◌
returns c = let rec = c.args.rec.now in cc (flags_and_zeros rec, gathered (ltb 15 (u32_at rec 20)) (absent_wrong rec 0) (absent_wrong rec 1) (absent_wrong rec 2) (absent_wrong rec 3))
