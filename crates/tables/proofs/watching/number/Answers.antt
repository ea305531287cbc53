use Rattle.std.proofs.Common.{sym, arith}
use Rattle.std.proofs.lemmas.Grind.{common_steps}
use Rattle.tables.proofs.NamedLaws.{nothing, begins, over, grows, ends}
use Rattle.tables.proofs.watching.number.Goals as goal

pub returns-then-is_empty : goal.returns-then-is_empty
returns-then-is_empty c = grind (arith, common_steps, nothing)

pub loop-b-init : goal.loop-b-init
loop-b-init c = grind (arith, common_steps, begins)

pub returns-in_err-n : goal.returns-in_err-n
returns-in_err-n c =
    let e = over c.args.text.now _ _ (omega arith) c.loop-b.invariant c.in_err-n.ensures in
    grind (arith, common_steps, e)

pub loop-b-preserved : goal.loop-b-preserved
loop-b-preserved c = grows c.args.text.now _ _ _ (omega arith) c.loop-b.invariant c.in_ok-n.ensures.0 c.in_ok-n.ensures.1

pub returns : goal.returns
returns c = ends c.args.text.now _ _ (omega arith) c.loop-b.invariant
