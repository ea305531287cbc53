use native.Mathlib.Omega.{arith}
use Rattle.letters.proofs.DigitLaws.{digits_none, digits_last, digits_next}
use Rattle.letters.proofs.Sheet.+digits.Goals as goal

pub returns-then-most-eq0 : goal.returns-then-most-eq0
returns-then-most-eq0 t c = digits_none _ _ c.if-most-eq0.true

pub returns-then-n-lt10 : goal.returns-then-n-lt10
returns-then-n-lt10 t c = digits_last _ _ (omega (arith, c.if-most-eq0.false)) c.if-n-lt10.true c.digit.ensures c.put.ensures

pub returns : goal.returns
returns t c = digits_next _ _ (omega (arith, c.if-most-eq0.false)) (omega (arith, c.if-n-lt10.false)) c.digits.ensures c.digit-2.ensures c.put-2.ensures
