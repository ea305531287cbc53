use Rattle.evaluate.proofs.SignalLaws.{ext_part, time_alone, input_said, time_said, ext_said}
use Rattle.evaluate.proofs.ExprLaws.{read, part_work}
use Rattle.outcomes.proofs.Outcomes.{proper_channel, proper_int}
use Rattle.outcomes.specs.Outcome.{IsProper}
use mathlib.Core.Path.{refl, sym, ◌∙◌, subst}
use Rattle.evaluate.proofs.outright.Goals as goal

pub given-requires : goal.given-requires
given-requires c = subst IsProper (sym c.channel_value.ensures) (proper_channel _ _)

pub operand-requires : goal.operand-requires
operand-requires c = let node = c.node_by-n.ensures in
    let k = read node.a_is (ext_part c.args.p.now.now c.args.i c.requires.node c.requires.small (sym node.kind_is ∙ c.in-3.is)) in
    record { node = k.node; indexed = c.requires.indexed; slots = c.requires.slots; small = k.small }

pub ruled-requires : goal.ruled-requires
ruled-requires c = let node = c.node_by-n.ensures in
    (c.operand.ensures.1, part_work _ (read node.a_is (ext_part c.args.p.now.now c.args.i c.requires.node c.requires.small (sym node.kind_is ∙ c.in-3.is))) c.operand.ensures.0)

pub given-requires-in_default : goal.given-requires-in_default
given-requires-in_default c = proper_int _

pub returns-in-1 : goal.returns-in-1
returns-in-1 c = let node = c.node_by-n.ensures in
    ((λ st. input_said c.args.p.now.now c.args.i c.requires.node c.args.rec.now.now st c.args.env.now (sym node.kind_is ∙ c.in-1.is) node.a_is c.channel_value.ensures c.given.ensures.0), c.given.ensures.1, refl)

pub returns-in-3 : goal.returns-in-3
returns-in-3 c = let node = c.node_by-n.ensures in
    ((λ st. ext_said c.args.p.now.now c.args.i c.requires.node c.args.rec.now.now st c.args.env.now (sym node.kind_is ∙ c.in-3.is) node.a_is c.operand.ensures.0 c.ruled.ensures.0), c.ruled.ensures.1, c.operand.ensures.2)

pub returns-in_default : goal.returns-in_default
returns-in_default c = let node = c.node_by-n.ensures in
    let rest = c.in_default.in_default-own.rest in
    ((λ st. time_said c.args.p.now.now c.args.i c.requires.node c.args.rec.now.now st c.args.env.now (time_alone c.args.p.now.now c.args.i c.requires.node node.kind_is c.requires.low rest.0.1 rest.1) c.time_in.ensures c.given-in_default.ensures.0), c.given-in_default.ensures.1, refl)
