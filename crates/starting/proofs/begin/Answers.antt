-- `starting::begin` meets its contract: the room's length is tested, and what is filled is the start state. Assumes nothing.
use Rattle.starting.proofs.StartLaws.{counted, right_length, begun_short, begun_made}
use Rattle.cells.proofs.Numbered.{cells_most}
use Rattle.rules.proofs.Rooted.{root_of}
use Rattle.rules.specs.Bytes.{byte_at}
use Rattle.rules.specs.Layout.{cell_at}
use native.Mathlib.Omega.{arith}
use mathlib.Core.Path.{sym, ◌∙◌}
use Rattle.starting.proofs.begin.Goals as goal

pub index_cells-held-requires : goal.index_cells-held-requires
index_cells-held-requires c = let k = counted _ _ c.requires.0 c.requires.1 in (k.shaped, k.listed, c.requires.1, omega (arith, k.most, c.index_cells-arg-1.given))

pub cell_at-requires : goal.cell_at-requires
unfolding cell_at
cell_at-requires c = omega (arith, (counted _ _ c.requires.0 c.requires.1).most, c.index_cells-held.ensures.1, cells_most c.args.p.now c.args.count)

pub returns-then-st-cell_at : goal.returns-then-st-cell_at
returns-then-st-cell_at c = let indexed = c.index_cells-held.ensures in
    let pre = c.requires in
    begun_short _ _ indexed.0 (λ e. c.if-st-cell_at.true (e ∙ sym (right_length _ _ _ _ pre.1 indexed.1 c.cell_at.ensures)))

pub fill_start-requires : goal.fill_start-requires
fill_start-requires c = let indexed = c.index_cells-held.ensures in
    let pre = c.requires in
    (root_of _ pre.0, indexed.0, pre.1, right_length _ _ _ _ pre.1 indexed.1 (c.if-st-cell_at.false ∙ c.cell_at.ensures))

pub returns : goal.returns
unfolding byte_at
returns c = let indexed = c.index_cells-held.ensures in
    let pre = c.requires in
    begun_made _ _ _ (record { small = λ i. omega (arith, c.type_inv.p i) }) pre.0 indexed.0
    (right_length _ _ _ _ pre.1 indexed.1 (c.if-st-cell_at.false ∙ c.cell_at.ensures)) c.fill_start.ensures
