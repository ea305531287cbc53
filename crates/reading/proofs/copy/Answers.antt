use mathlib.Core.Path.{ap, ◌∙◌}
use mathlib.Core.List.{◌++◌}
use lib.ListN.{length, drop}
use Rattle.rules.specs.Bytes.{Bytes}
use Rattle.reading.proofs.CallLaws as K
use Rattle.reading.proofs.copy.Goals as goal

pub returns : goal.returns
returns c = ap (λ (l : Bytes). l ++ drop (length c.args.res.now) c.args.room.now) c.copy_from_slice.ensures.after ∙ K.write_front _ _ c.requires
