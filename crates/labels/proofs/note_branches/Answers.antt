use Rattle.texts.specs.Tokens.{part}
use Rattle.labels.proofs.NoteLaws.{noting_starts, noting_ends, noting_next}
use Rattle.labels.proofs.note_branches.Goals as goal

pub loop-w-init : goal.loop-w-init
loop-w-init c = noting_starts _ c.args.table.now c.requires

pub loop-w-preserved : goal.loop-w-preserved
unfolding part
loop-w-preserved c = noting_next _ _ _ _ _ c.word_from.ensures _ c.in-Some.is c.loop-w.invariant _ c.note_if.ensures _ c.await_next-state.ensures

pub returns : goal.returns
returns c = noting_ends _ _ _ _ _ c.word_from.ensures c.in_default.is c.loop-w.invariant
