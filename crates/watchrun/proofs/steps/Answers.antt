use Rattle.watchrun.proofs.TurnLaws.{fewer}
use Rattle.watchrun.proofs.steps.Goals as goal

pub loop-more-smaller : goal.loop-more-smaller
loop-more-smaller g c = rw c.loop-more-test.true (fewer _ _ _ c.loop-more.invariant.few c.in_ok-more.ensures.counted)
