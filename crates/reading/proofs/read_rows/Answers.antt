use mathlib.Core.List.{[]}
use Rattle.reading.proofs.ReadLaws as M
use Rattle.phrases.proofs.StepLaws as L
use Rattle.reading.proofs.read_rows.Goals as goal

pub node-requires : goal.node-requires
node-requires c = record { known = c.note_branches.ensures; ready = M.fresh_ready [] _ _ c.requires }

pub returns-in_err-t : goal.returns-in_err-t
returns-in_err-t c = M.rows_err _ _ _ _ (L.err_is _ _ c.from_residual.ensures.1) (M.stopped_first _ (M.given_stop _ _ _ c.title.ensures.0 _ c.in_err-t.was))

pub returns-then-node-eq0 : goal.returns-then-node-eq0
returns-then-node-eq0 c = M.rows_stopped _ _ _ c.title.ensures.0 c.in_ok-t.was _ c.requires _ _ _ c.node.ensures.0 c.if-node-eq0.true c.stop_of.ensures

pub ended-requires : goal.ended-requires
ended-requires c = L.below_of _ _ c.title.ensures.1 _ c.in_ok-t.was

pub returns : goal.returns
returns c = M.rows_given _ _ _ c.title.ensures.0 c.in_ok-t.was _ c.requires _ _ _ c.node.ensures.0 _ c.if-node-eq0.false c.node.ensures.1.ready c.ended.ensures.0 c.ended.ensures.1
