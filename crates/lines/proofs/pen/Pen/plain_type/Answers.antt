use native.Mathlib.Omega.{arith}
use borrow.Author.Tests.{eq-eqb, ne_eqb}
use Rattle.lines.specs.Print.{plain_type}
use Rattle.lines.proofs.pen.Pen.plain_type.Goals as goal

pub returns-then-t-eq1 : goal.returns-then-t-eq1
unfolding plain_type
returns-then-t-eq1 c = let e = c.word.ensures in
    let place = e.put.place in
    rw (eq-eqb c.args.t 1 c.if-t-eq1.true) (record { puts = e; upper_bound = omega arith })

pub returns-then-t-eq2 : goal.returns-then-t-eq2
unfolding plain_type
returns-then-t-eq2 c = let e = c.word-then-t-eq2.ensures in
    let place = e.put.place in
    rw (ne_eqb c.args.t 1 c.if-t-eq1.false, eq-eqb c.args.t 2 c.if-t-eq2.true) (record { puts = e; upper_bound = omega arith })

pub returns : goal.returns
unfolding plain_type
returns c = let e = c.word-2.ensures in
    let place = e.put.place in
    rw (ne_eqb c.args.t 1 c.if-t-eq1.false, ne_eqb c.args.t 2 c.if-t-eq2.false) (record { puts = e; upper_bound = omega arith })
