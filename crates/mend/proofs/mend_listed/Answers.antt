use Rattle.mend.proofs.CallLaws.{state_fits, held_fits, listed_so}
use lib.ListN.{length-replicate}
use mathlib.Core.Path.{◌∙◌}
use Rattle.mend.proofs.mend_listed.Goals as goal

pub keep-requires : goal.keep-requires
keep-requires c = rw (length-replicate) (state_fits _ _ c.requires.0.shaped c.requires.4)

pub list_changes-requires : goal.list_changes-requires
list_changes-requires c = let size = c.bring_back.auto.st ∙ c.requires.4 in
    (held_fits _ _ _ c.requires.3 size, state_fits _ _ c.requires.0.shaped size, c.requires.5)

pub returns : goal.returns
returns c = listed_so _ _ _ _ _ _ _ _ c.keep.ensures c.requires.3 c.requires.4 c.bring_back.ensures c.list_changes.ensures.0 c.list_changes.ensures.1
