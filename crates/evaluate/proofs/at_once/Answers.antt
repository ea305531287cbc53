use Rattle.evaluate.proofs.SignalLaws.{ext_part, cell_in, delay_cell, input_said, ext_said, delay_eval, time_alone, time_said}
use Rattle.evaluate.proofs.ExprLaws.{read, part_work}
use Rattle.outcomes.proofs.Outcomes.{proper_channel, proper_int}
use Rattle.outcomes.specs.Outcome.{IsProper}
use Rattle.rules.specs.Layout.{kind_at}
use native.Mathlib.Omega.{arith}
use Prim.Native.Nat.{◌≤◌}
use mathlib.Core.Path.{◌≡◌, refl, sym, ◌∙◌, subst}
use Rattle.evaluate.proofs.at_once.Goals as goal

pub node_by-n-requires : goal.node_by-n-requires
node_by-n-requires c = let ready = c.requires.0 in (ready.indexed, ready.node.shaped, ready.node.inside)

pub given-requires : goal.given-requires
given-requires c = subst IsProper (sym c.channel_value.ensures) (proper_channel _ _)

pub operand-requires : goal.operand-requires
operand-requires c = let p = c.args.p.now.now in
    let i = c.args.i in
    let ready = c.requires.0 in
    let node = c.node_by-n.ensures in
    let k = read node.a_is (ext_part p i ready.node ready.small (sym node.kind_is ∙ c.in-3.is)) in
    record { node = k.node; indexed = ready.indexed; slots = ready.slots; small = k.small }

pub ruled-requires : goal.ruled-requires
ruled-requires c = let p = c.args.p.now.now in
    let i = c.args.i in
    let ready = c.requires.0 in
    let node = c.node_by-n.ensures in
    (c.operand.ensures.1, part_work _ (read node.a_is (ext_part p i ready.node ready.small (sym node.kind_is ∙ c.in-3.is))) c.operand.ensures.0)

pub own_cell-requires : goal.own_cell-requires
own_cell-requires c = let p = c.args.p.now.now in
    let i = c.args.i in
    let ready = c.requires.0 in
    let node = c.node_by-n.ensures in
    cell_in p i ready.node c.args.ix.now ready.indexed c.args.st.now.now ready.state (delay_cell (sym node.kind_is ∙ c.in-4.is))

pub given-requires-in_default : goal.given-requires-in_default
given-requires-in_default c = proper_int _

pub returns-in-1 : goal.returns-in-1
returns-in-1 c = let p = c.args.p.now.now in
    let i = c.args.i in
    let ready = c.requires.0 in
    let node = c.node_by-n.ensures in
    let rec = c.args.rec.now.now in
    let st = c.args.st.now.now in
    let env = c.args.env.now in
    (input_said p i ready.node rec st env (sym node.kind_is ∙ c.in-1.is) node.a_is c.channel_value.ensures c.given.ensures.0, c.given.ensures.1, refl)

pub returns-in-3 : goal.returns-in-3
returns-in-3 c = let p = c.args.p.now.now in
    let i = c.args.i in
    let ready = c.requires.0 in
    let node = c.node_by-n.ensures in
    let rec = c.args.rec.now.now in
    let st = c.args.st.now.now in
    let env = c.args.env.now in
    (ext_said p i ready.node rec st env (sym node.kind_is ∙ c.in-3.is) node.a_is c.operand.ensures.0 c.ruled.ensures.0, c.ruled.ensures.1, c.operand.ensures.2)

pub returns-in-4 : goal.returns-in-4
returns-in-4 c = let p = c.args.p.now.now in
    let i = c.args.i in
    let ready = c.requires.0 in
    let node = c.node_by-n.ensures in
    let rec = c.args.rec.now.now in
    let st = c.args.st.now.now in
    let env = c.args.env.now in
    (c.held.ensures.0 ∙ sym (delay_eval p i ready.node rec st env c.own_cell.ensures (ready.indexed.numbers i ready.node) (sym node.kind_is ∙ c.in-4.is)), c.held.ensures.1, refl)

pub returns-in_default : goal.returns-in_default
returns-in_default c = let p = c.args.p.now.now in
    let i = c.args.i in
    let ready = c.requires.0 in
    let node = c.node_by-n.ensures in
    let rec = c.args.rec.now.now in
    let st = c.args.st.now.now in
    let env = c.args.env.now in
    let rest = c.in_default.in_default-own.rest in
    let few = c.requires.1 in
    let other : kind_at p i ≡ 4 → ⊥ = λ e. rest.1 (node.kind_is ∙ e) in
    let low : kind_at p i ≤ 3 = omega (arith, few, other) in
    (time_said p i ready.node rec st env (time_alone p i ready.node node.kind_is low rest.0.0.1 rest.0.1) c.time_in.ensures c.given-in_default.ensures.0, c.given-in_default.ensures.1, refl)
