use Rattle.phrases.proofs.StepLaws.{err_is}
use Rattle.reading.proofs.CallLaws as K
use Rattle.reading.proofs.ReadLaws as M
use Rattle.reading.proofs.built.Goals as goal

pub put_blocks-n-requires : goal.put_blocks-n-requires
put_blocks-n-requires c = let w = (M.rowed_of _ _ _ c.read_rows.ensures _ c.in_ok-r.was) in (w.few, w.edition, c.requires)

pub returns-in_err-r : goal.returns-in_err-r
returns-in_err-r c = K.blocks_err _ _ _ _ _ (err_is _ _ c.from_residual.ensures.1) (M.stopped_of _ _ _ c.read_rows.ensures _ c.in_err-r.was)

pub returns : goal.returns
returns c = K.built_is _ _ _ _ _ _ (M.rowed_of _ _ _ c.read_rows.ensures _ c.in_ok-r.was) c.put_blocks-n.ensures
