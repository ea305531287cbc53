use Rattle.outcomes.proofs.Combining.{word_yes, word_no, word_absent, word_present}
use Rattle.outcomes.proofs.plain_word.Goals as goal

pub returns-then-u-t : goal.returns-then-u-t
returns-then-u-t c = word_yes c.args.t c.args.m c.unpack.ensures c.in-Plain.is c.if-u-t.true

pub returns-else-u-t : goal.returns-else-u-t
returns-else-u-t c = word_no c.args.t c.args.m c.unpack.ensures c.in-Plain.is c.if-u-t.false

pub returns-in-Absent : goal.returns-in-Absent
returns-in-Absent c = word_absent c.args.t c.args.m c.unpack.ensures c.in-Absent.is

pub returns-in-Present : goal.returns-in-Present
returns-in-Present c = word_present c.args.t c.args.m c.unpack.ensures c.in-Present.is
