use Rattle.outcomes.proofs.Combining.{maybe_least, parts_stuck, parts_plain, parts_quiet, parts_occurs, parts_other}
use mathlib.Core.Path.{sym, ◌∙◌}
use native.Mathlib.Omega.{arith}
use Rattle.outcomes.proofs.apart.Goals as goal

pub returns-then-r-eq0 : goal.returns-then-r-eq0
returns-then-r-eq0 c = parts_stuck c.args.r c.if-r-eq0.true

pub overflow_sub-t : goal.overflow_sub-t
overflow_sub-t c = omega (arith, maybe_least _ (sym c.is_maybe.ensures ∙ c.if-is_maybe.true))

pub returns-then-is_maybe : goal.returns-then-is_maybe
returns-then-is_maybe c = parts_occurs c.args.r c.if-r-eq0.false c.unpack.ensures c.tally_in-count.ensures c.in-Present.is (sym c.is_maybe.ensures ∙ c.if-is_maybe.true) c.pack-inner.ensures

pub returns-in-Plain : goal.returns-in-Plain
returns-in-Plain c = parts_plain c.args.r c.if-r-eq0.false c.unpack.ensures c.tally_in-count.ensures c.in-Plain.is

pub returns-in-Absent : goal.returns-in-Absent
returns-in-Absent c = parts_quiet c.args.r c.if-r-eq0.false c.unpack.ensures c.tally_in-count.ensures c.in-Absent.is

pub returns-else-is_maybe : goal.returns-else-is_maybe
returns-else-is_maybe c = parts_other c.args.r c.if-r-eq0.false c.unpack.ensures c.tally_in-count.ensures c.in-Present.is (sym c.is_maybe.ensures ∙ c.if-is_maybe.false)
