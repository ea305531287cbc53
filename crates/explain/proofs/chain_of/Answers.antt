use mathlib.Core.Path.{ap, ◌∙◌}
use native.Mathlib.Omega.{arith}
use lib.ListN.{length}
use Rattle.rules.specs.Bytes.{write_at}
use Rattle.explain.proofs.TraceLaws.{definition_inside, definition_fits, of_field}
use Rattle.explain.proofs.FillLaws.{filled_so}
use Rattle.explain.proofs.chain_of.Goals as goal

pub node-n-requires : goal.node-n-requires
node-n-requires c = let s = c.requires.0 in (omega (arith, c.requires.1.inside, s.within), omega (arith, c.requires.1.inside, s.small))

pub trace-found-requires : goal.trace-found-requires
trace-found-requires c = let i = definition_inside _ _ c.requires.0 c.requires.1 in (c.requires.0, omega (arith, i, c.node-n.ensures.a_is), omega (arith, i, c.requires.0.small, c.requires.2, c.node-n.ensures.a_is), omega (arith, c.requires.2))

pub fill-requires : goal.fill-requires
fill-requires c = let f = definition_fits _ _ c.requires.0 c.requires.1 in (omega (arith, f, c.trace-found.ensures.0 ∙ ap length (of_field _ _ _ c.node-n.ensures.a_is), c.trace-found.auto.room, c.requires.2), omega (arith, c.trace-found.auto.room, c.requires.2))

pub shape_of-room : goal.shape_of-room
shape_of-room c = c.fill.auto.room ∙ c.trace-found.auto.room

pub returns : goal.returns
returns c = let q = of_field _ _ _ c.node-n.ensures.a_is in let e = c.trace-found.ensures.0 ∙ ap length q in (e, c.fill.ensures ∙ filled_so _ c.args.room.now _ _ c.requires.2 (c.trace-found.auto.room ∙ c.requires.2) e (definition_fits _ _ c.requires.0 c.requires.1) (c.trace-found.ensures.1 ∙ ap (write_at c.args.room.now 0) q))
