use Rattle.mend.proofs.CallLaws.{by_sum}
use Rattle.mends.proofs.CallLaws.{wrong_length}
use Rattle.well.proofs.Lengths.{place_fits, length_is}
use Rattle.state.proofs.StartLaws.{headed}
use mathlib.Core.Path.{sym, ◌∙◌}
use Rattle.mend.proofs.known_verdict.Goals as goal

pub cell_at-requires : goal.cell_at-requires
cell_at-requires c = place_fits c.args.p.now c.args.held c.requires.0 c.requires.1

pub returns-then-st-cell_at : goal.returns-then-st-cell_at
returns-then-st-cell_at c = let size = length_is c.args.p.now c.args.held _ c.requires.1 c.cell_at.ensures in
    sym (wrong_length c.args.p.now c.args.st.now (λ h. c.if-st-cell_at.true (h ∙ sym size)))

pub sum_in-requires : goal.sum_in-requires
sum_in-requires c = headed c.args.p.now _ (c.if-st-cell_at.false ∙ length_is c.args.p.now c.args.held _ c.requires.1 c.cell_at.ensures)

pub returns : goal.returns
returns c = by_sum c.args.p.now c.args.st.now (c.if-st-cell_at.false ∙ length_is c.args.p.now c.args.held _ c.requires.1 c.cell_at.ensures)
    c.requires.2 c.sum_in.ensures c.checks_of.ensures c.refuse_if.ensures
