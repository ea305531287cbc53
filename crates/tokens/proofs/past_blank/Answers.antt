use Rattle.tokens.proofs.ScanLaws.{past_white, past_comment, past_none}
use Rattle.tokens.proofs.past_blank.Goals as goal

pub returns-then-is_white-clause-still : goal.returns-then-is_white-clause-still
returns-then-is_white-clause-still c = (past_white _ _ c.requires _ c.is_white.ensures c.if-is_white.true).1

pub returns-then-b-eq59-clause-still : goal.returns-then-b-eq59-clause-still
returns-then-b-eq59-clause-still c = (past_comment _ _ c.requires _ _ c.is_white.ensures c.if-is_white.false c.if-b-eq59.true c.line_end.ensures.forward c.line_end.ensures.s_value).1

pub returns-clause-still : goal.returns-clause-still
returns-clause-still c = (past_none _ _ c.requires _ c.is_white.ensures c.if-is_white.false c.if-b-eq59.false).1
