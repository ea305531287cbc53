use Rattle.mending.proofs.MendLaws.{one_kept, one_begun}
use Rattle.rules.specs.WellFormed.{content_fits}
use Rattle.rules.specs.Layout.{set_cell}
use mathlib.Core.Path.{sym, ap, ◌∙◌}
use Rattle.mending.proofs.mend_own.Goals as goal

pub returns-then-content_fits : goal.returns-then-content_fits
returns-then-content_fits c = one_kept _ _ _ (ap (content_fits c.args.n.ty 0) (sym c.own_cell-held.ensures) ∙ sym c.content_fits.ensures ∙ c.if-content_fits.true)

pub returns : goal.returns
returns c = c.set_own.ensures ∙ ap (set_cell _ _) c.first_value.ensures ∙ one_begun _ _ _ (ap (content_fits c.args.n.ty 0) (sym c.own_cell-held.ensures) ∙ sym c.content_fits.ensures ∙ c.if-content_fits.false)
