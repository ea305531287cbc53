use Rattle.tables.proofs.TurnLaws.{early, more_early}
use Rattle.tables.proofs.watching.Watch.turn.Goals as goal

pub stepped-requires : goal.stepped-requires
stepped-requires g c = early _ _ c.is_record.ensures c.if-is_record.true

pub returns-then-is_record : goal.returns-then-is_record
returns-then-is_record g c = more_early _ (early _ _ c.is_record.ensures c.if-is_record.true)
