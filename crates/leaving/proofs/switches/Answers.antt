use native.Mathlib.Omega.{arith}
use Rattle.rules.specs.Values.{unpacked}
use Rattle.rules.specs.Layout.{a_at, c_at}
use Rattle.rules.proofs.Signals.{switch_kids}
use Rattle.rules.proofs.Kids.{read}
use Rattle.moves.proofs.ReadyLaws.{cell_number}
use Rattle.leaving.proofs.LeaveLaws.{switch_celled, switch_left, switch_again}
use borrow.Author.Rules.{rules}
use Rattle.leaving.proofs.switches.Goals as goal

pub own_cell-m-requires : goal.own_cell-m-requires
own_cell-m-requires c = let k = switch_celled c.requires.0 in
    (k.listed, k.room)

pub hold-requires : goal.hold-requires
hold-requires c = (switch_celled c.requires.0, c.requires.1)

pub resets-requires : goal.resets-requires
resets-requires c = let kids = switch_kids c.args.p.now.now c.args.i c.requires.0.node c.requires.0.kind in
    let first = (read c.requires.0.fields.a_is kids.0).node in
    let second = (read c.requires.0.fields.c_is kids.2).node in
    record { node = search rules; indexed = c.requires.0.table; enough = omega (arith, c.requires.0.cells, c.hold.auto.st) }

pub resets-requires-else-m-eq0 : goal.resets-requires-else-m-eq0
resets-requires-else-m-eq0 c = let kids = switch_kids c.args.p.now.now c.args.i c.requires.0.node c.requires.0.kind in
    let first = (read c.requires.0.fields.a_is kids.0).node in
    let second = (read c.requires.0.fields.c_is kids.2).node in
    record { node = search rules; indexed = c.requires.0.table; enough = omega (arith, c.requires.0.cells, c.hold.auto.st) }

pub returns-then-m-eq0 : goal.returns-then-m-eq0
returns-then-m-eq0 c = let p = c.args.p.now.now in
    let i = c.args.i in
    let x = cell_number c.requires.0.node c.requires.0.table in
    switch_left p c.args.st.now x c.args.n.a c.resets.ensures c.own_cell-m.ensures (unpacked c.args.v) c.hold.ensures (a_at p i) (c_at p i) c.requires.0.fields.a_is c.if-m-eq0.true

pub returns-else-m-eq0 : goal.returns-else-m-eq0
returns-else-m-eq0 c = let p = c.args.p.now.now in
    let i = c.args.i in
    let x = cell_number c.requires.0.node c.requires.0.table in
    switch_again p c.args.st.now x c.args.n.c c.resets-else-m-eq0.ensures c.own_cell-m.ensures (unpacked c.args.v) c.hold.ensures (a_at p i) (c_at p i) c.requires.0.fields.c_is c.if-m-eq0.false
