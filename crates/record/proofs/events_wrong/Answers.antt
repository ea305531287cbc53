use mathlib.Core.Path.{refl}
use Rattle.rules.specs.Bytes.{◌or◌}
use Rattle.record.proofs.EventLaws.{no_word}
use Rattle.record.proofs.events_wrong.Goals as goal

pub returns-then-no_events : goal.returns-then-no_events
returns-then-no_events c = no_word c.args.rec.now c.no_events.ensures c.if-no_events.true

pub returns : goal.returns
unfolding ◌or◌
returns c = rw (c.absent_wrong.ensures, c.absent_wrong-2.ensures, c.absent_wrong-3.ensures, c.absent_wrong-4.ensures) refl
