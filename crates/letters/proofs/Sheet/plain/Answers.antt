use native.Mathlib.Omega.{arith}
use Rattle.letters.proofs.ValueLaws.{plain_int, plain_true, plain_false, plain_unit}
use Rattle.letters.proofs.PutsLaws.{puts_as}
use Rattle.letters.proofs.Sheet.plain.Goals as goal

pub returns-in-3 : goal.returns-in-3
returns-in-3 c = puts_as (plain_int _ _ c.in-3.is) c.integer.ensures

pub returns-in-2 : goal.returns-in-2
returns-in-2 c = puts_as (plain_true _ _ c.in-2.is c.if-w-eq1.true) c.word.ensures

pub returns-in-2-2 : goal.returns-in-2-2
returns-in-2-2 c = puts_as (plain_false _ _ c.in-2.is c.if-w-eq1.false) c.word-in-2-2.ensures

pub returns-in_default : goal.returns-in_default
returns-in_default c = puts_as (plain_unit _ _ (λ e. omega arith) (λ e. omega arith)) c.word-in_default.ensures
