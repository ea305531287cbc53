use mathlib.Core.Path.{refl}
use native.Mathlib.Omega.{arith}
use Rattle.tokens.proofs.ScanLaws.{blank_returns, blank_again, blank_done}
use Rattle.tokens.proofs.blank_end.Goals as goal

pub loop-i-init : goal.loop-i-init
loop-i-init c = (omega arith, c.requires, refl)

pub past_blank-j-requires : goal.past_blank-j-requires
past_blank-j-requires c = omega arith

pub returns-then-j-i-clause-blank : goal.returns-then-j-i-clause-blank
returns-then-j-i-clause-blank c = (blank_returns _ _ _ _ c.loop-i.invariant.0 (omega arith) c.loop-i.invariant.2 c.past_blank-j.ensures.still c.if-j-i.true).1

pub loop-i-smaller : goal.loop-i-smaller
loop-i-smaller c = omega (arith, c.past_blank-j.ensures.forward.0, c.past_blank-j.ensures.forward.1, c.if-j-i.false)

pub loop-i-preserved : goal.loop-i-preserved
loop-i-preserved c = blank_again _ _ _ _ c.loop-i.invariant.0 c.loop-i.invariant.2 (c.past_blank-j.ensures.forward, c.past_blank-j.ensures.still)

pub returns-clause-blank : goal.returns-clause-blank
returns-clause-blank c = (blank_done _ _ _ c.loop-i.invariant.0 c.loop-i.invariant.1 (omega arith) c.loop-i.invariant.2).1
