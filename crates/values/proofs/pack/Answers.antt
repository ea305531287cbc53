use native.Mathlib.Omega.{arith}
use Rattle.rules.specs.Values.{packed}
use Rattle.values.proofs.pack.Goals as goal

pub returns-in-Plain : goal.returns-in-Plain
unfolding packed
returns-in-Plain c = rw c.in-Plain.is (omega (arith, c.wide.ensures.0, c.wide_word.ensures.0))

pub returns-in-Absent : goal.returns-in-Absent
unfolding packed
returns-in-Absent c = rw c.in-Absent.is c.wide-in-Absent.ensures.0

pub returns-in-Present : goal.returns-in-Present
unfolding packed
returns-in-Present c = rw c.in-Present.is (omega (arith, c.wide-in-Present.ensures.0, c.wide_word-in-Present.ensures.0))
