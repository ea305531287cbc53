-- `tables::tidying::lets` meets its contract: each turn counts one record. Assumes nothing.
use Rattle.std.proofs.Common.{◌<◌, refl, ap, ◌∙◌, length, arith}
use borrow.Author.Tests.{lt-ltb, le-ltb}
use Rattle.rules.specs.Layout.{records, blocks}
use Rattle.tables.specs.Lets.{lets_before, lets_of}
use Rattle.tables.proofs.LetLaws.{counts_let, counts_other}
use Rattle.tables.proofs.tidying.lets.Goals as goal
use Rattle.tables.proofs.tidying.lets.Goals.{then-kind_at-eq-LET, else-kind_at-eq-LET}

pub returns-then-p-gt12288 : goal.returns-then-p-gt12288
unfolding lets_of
returns-then-p-gt12288 c = rw (lt-ltb 12288 (length c.args.p.now) (omega arith)) refl

pub loop-i-init : goal.loop-i-init
unfolding lets_before
loop-i-init c = (refl, omega arith)

pub overflow_add-n : goal.overflow_add-n
unfolding records blocks
overflow_add-n c = omega (arith, c.records-i-end.ensures, c.loop-i.invariant.1, c.loop-i-test.true)

pub loop-i-preserved : goal.loop-i-preserved
loop-i-preserved c = let p = c.args.p.now in
    let l = c.loop-i in
    let here : l.i < records p = omega (arith, c.records-i-end.ensures, c.loop-i-test.true) in
    let kind = c.kind_at.ensures here in
    elim c.if-kind_at-eq-LET.branch [
      | then-kind_at-eq-LET w ↦ (w.n-is ∙ counts_let p l.i _ _ l.invariant.0 kind w.if-kind_at-eq-LET.true, omega (arith, w.n-is, l.invariant.1))
      | else-kind_at-eq-LET w ↦ (w.n-is ∙ counts_other p l.i _ _ l.invariant.0 kind w.if-kind_at-eq-LET.false, omega (arith, w.n-is, l.invariant.1))
    ]

pub returns : goal.returns
unfolding lets_of
returns c = let p = c.args.p.now in
    rw (le-ltb 12288 (length p) (omega arith)) (c.loop-i.invariant.0 ∙ ap (lets_before p) (omega (arith, c.records-i-end.ensures)))
