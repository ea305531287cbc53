use Rattle.evaluate.proofs.ExprLaws.{variable_said, constant_value, constant_left, constant_fixed}
use mathlib.Core.Path.{sym, ◌∙◌}
use Rattle.evaluate.proofs.simple.Goals as goal

pub node_by-n-requires : goal.node_by-n-requires
node_by-n-requires c = let ready = c.requires.0 in (ready.indexed, ready.node.shaped, ready.node.inside)

pub variable-requires : goal.variable-requires
variable-requires c = c.requires.0.slots

pub returns-then-n-eq16 : goal.returns-then-n-eq16
returns-then-n-eq16 c = let node = c.node_by-n.ensures in (variable_said c.args.p.now.now c.args.i c.requires.0.node c.args.env.now (sym node.kind_is ∙ c.if-n-eq16.true) node.a_is c.variable.ensures.0, c.variable.ensures.1)

pub value_by-requires : goal.value_by-requires
value_by-requires c = let ready = c.requires.0 in (ready.indexed, ready.node.shaped, ready.node.inside)

pub fixed-requires : goal.fixed-requires
fixed-requires c = let ready = c.requires.0 in constant_value c.args.p.now.now c.args.i (ready.indexed.rows c.args.i ready.node.inside).small.1 c.value_by.ensures

pub returns : goal.returns
returns c = let p = c.args.p.now.now in
    let i = c.args.i in
    let ready = c.requires.0 in
    let node = c.node_by-n.ensures in
    let is = constant_left p i ready.node node.kind_is (rw node.kind_is c.requires.1) c.if-n-eq16.false in
    (c.fixed.ensures.0 ∙ constant_fixed p i ready.node c.args.env.now is (ready.indexed.rows i ready.node.inside).small.1 c.value_by.ensures, c.fixed.ensures.1)
