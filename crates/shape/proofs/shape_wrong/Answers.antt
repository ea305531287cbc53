use mathlib.Core.Path.{sym, ◌∙◌}
use native.Mathlib.Numerals.{add-one}
use Rattle.shape.proofs.ShapeLaws.{last_shape, inner_shape}
use Rattle.shape.proofs.shape_wrong.Goals as goal

pub returns-then-i-count : goal.returns-then-i-count
returns-then-i-count c = cc (
  c.either.ensures,
  c.is_signal.ensures,
  c.node-n.ensures.kind_is,
  last_shape c.args.p.now c.args.i c.args.count c.args.last (sym (add-one _) ∙ c.if-i-count.true) c.requires.0.is_nodes c.requires.3,
)

pub returns : goal.returns
returns c = inner_shape c.args.p.now c.args.i c.args.mark (λ e. c.if-i-count.false (add-one _ ∙ e ∙ sym c.requires.0.is_nodes)) c.requires.2
