use mathlib.Core.Path.{◌≡◌, refl, sym}
use lib.ListN.{length}
use native.Mathlib.Omega.{arith}
use Rattle.tokens.proofs.ScanLaws.{line_returns, line_again, line_done}
use Rattle.tokens.proofs.line_end.Goals as goal

pub loop-i-init : goal.loop-i-init
loop-i-init c = (omega arith, c.requires, refl)

pub returns-then-ends_line-clause-s_value : goal.returns-then-ends_line-clause-s_value
returns-then-ends_line-clause-s_value c = (line_returns _ _ _ _ c.loop-i.invariant.0 (omega arith) c.loop-i.invariant.2 c.ends_line.ensures c.if-ends_line.true).1

pub loop-i-preserved : goal.loop-i-preserved
loop-i-preserved c = line_again _ _ _ _ c.loop-i.invariant.0 (omega arith) c.loop-i.invariant.2 c.ends_line.ensures c.if-ends_line.false

pub returns-clause-s_value : goal.returns-clause-s_value
returns-clause-s_value c = let e : c.loop-i.i ≡ length c.args.s.now = omega arith in rw (sym e) (line_done _ _ _ c.loop-i.invariant.0 c.loop-i.invariant.1 (omega arith) c.loop-i.invariant.2).1
