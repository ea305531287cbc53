use Rattle.state.proofs.StartLaws.{header_is}
use native.Mathlib.Omega.{arith}
use Rattle.state.proofs.put_header.Goals as goal

pub put32-requires : goal.put32-requires
put32-requires c = omega arith

pub put32-requires-2 : goal.put32-requires-2
put32-requires-2 c = omega arith

pub returns : goal.returns
returns c = cc (header_is c.args.p.now c.args.st.now c.checks_of-sum.ensures)
