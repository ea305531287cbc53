use Rattle.std.proofs.lemmas.Result.{err_from_is_err_and}
use Rattle.well.proofs.WellLaws.{wrong_length, sum_stops, sum_passes}
use Rattle.well.proofs.Lengths.{place_fits, length_is}
use Rattle.state.proofs.StartLaws.{headed}
use mathlib.Core.Path.{sym, ◌∙◌}
use Rattle.well.proofs.state_verdict.Goals as goal

pub cell_at-requires : goal.cell_at-requires
cell_at-requires c = place_fits c.args.p.now c.args.cells c.requires.0.shaped c.requires.3

pub returns-then-st-cell_at : goal.returns-then-st-cell_at
returns-then-st-cell_at c = let size = length_is c.args.p.now c.args.cells _ c.requires.3 c.cell_at.ensures in
    wrong_length c.args.p.now c.args.st.now (λ h. c.if-st-cell_at.true (h ∙ sym size))

pub sum_in-requires : goal.sum_in-requires
sum_in-requires c = headed c.args.p.now _ (c.if-st-cell_at.false ∙ length_is c.args.p.now c.args.cells _ c.requires.3 c.cell_at.ensures)

pub rest_well-requires : goal.rest_well-requires
rest_well-requires c = (
  c.requires.0,
  c.requires.1,
  c.requires.2,
  c.if-st-cell_at.false ∙ length_is c.args.p.now c.args.cells _ c.requires.3 c.cell_at.ensures,
)

pub returns-in_err-refuse_if : goal.returns-in_err-refuse_if
returns-in_err-refuse_if c =
    let size = c.if-st-cell_at.false ∙ length_is c.args.p.now c.args.cells _ c.requires.3 c.cell_at.ensures in
    let p = err_from_is_err_and c.from_residual.result c.from_residual.ensures.1 in
    rw (p.1, p.2) (sum_stops _ _ size c.requires.4 c.sum_in.ensures c.checks_of.ensures c.refuse_if.ensures c.in_err-refuse_if.was)

pub returns : goal.returns
returns c =
    let size = c.if-st-cell_at.false ∙ length_is c.args.p.now c.args.cells _ c.requires.3 c.cell_at.ensures in
    sum_passes _ _ size c.requires.4 c.sum_in.ensures c.checks_of.ensures c.refuse_if.ensures c.in_ok-refuse_if.was
    c.rest_well.ensures c.refuse_if-2.ensures
