use Rattle.leaving.proofs.LeaveLaws.{group_celled, enter_done}
use native.Mathlib.Omega.{arith}
use Rattle.rules.specs.Values.{unpacked}
use Rattle.rules.proofs.Signals.{group_kids}
use Rattle.rules.proofs.Kids.{read}
use Rattle.moves.proofs.ReadyLaws.{cell_number}
use borrow.Author.Rules.{rules}
use Rattle.leaving.proofs.enters.Goals as goal

pub hold_branch-requires : goal.hold_branch-requires
hold_branch-requires c = (group_celled c.requires.0, omega (arith, c.requires.2.inside, c.requires.2.shaped.small), c.requires.3)

pub resets-requires : goal.resets-requires
resets-requires c = let left = c.requires.1 in
    let body = (read c.requires.0.fields.a_is (group_kids c.args.p.now.now c.args.i c.requires.0.node c.requires.0.kind).0).node in
    record { node = search rules; indexed = c.requires.0.table; enough = omega (arith, c.requires.0.cells, c.hold_branch.auto.st) }

pub returns : goal.returns
returns c = let x = cell_number c.requires.0.node c.requires.0.table in
    enter_done c.args.p.now.now c.args.st.now x c.args.part c.resets.ensures c.args.which (unpacked c.args.v) c.hold_branch.ensures
