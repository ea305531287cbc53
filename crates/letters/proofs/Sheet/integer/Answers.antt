use native.Mathlib.Omega.{arith}
use Rattle.letters.proofs.DigitLaws.{not_negative, negative}
use Rattle.letters.proofs.PutsLaws.{puts_then}
use Rattle.letters.proofs.Sheet.integer.Goals as goal

pub returns-then-n-lt2147483648 : goal.returns-then-n-lt2147483648
returns-then-n-lt2147483648 c = not_negative c.args.w (omega (arith, c.if-n-lt2147483648.true)) c.digits.ensures

pub returns : goal.returns
returns c = negative c.args.w (omega (arith, c.if-n-lt2147483648.false)) (puts_then c.put.ensures c.digits-2.ensures)
