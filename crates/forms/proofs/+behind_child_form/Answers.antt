use lib.Dec.{eqb}
use mathlib.Core.Bool.{Bool, not}
use mathlib.Core.Path.{sym, ap, ◌∙◌}
use Rattle.rules.specs.Bytes.{◌and◌ as ◌also◌}
use Rattle.kinds.specs.Rows.{a_in, b_in, c_in}
use Rattle.letters.specs.Wrote.{spread}
use Rattle.forms.specs.Laying.{is_inside, goes_on}
use Rattle.forms.proofs.FormLaws.{no_levels, a_variable, a_constant, a_form}
use Rattle.forms.proofs.PartLaws.{target_is, child_in, child_out, next_on, next_none}
use native.Mathlib.Omega.{arith}
use Rattle.letters.proofs.PutsLaws.{puts_none, puts_as}
use Rattle.forms.proofs.+behind_child_form.Goals as goal

pub behind-form-requires : goal.behind-form-requires
behind-form-requires t c = (omega (arith, c.decreases), c.requires)

pub behind-returns-then-both : goal.behind-returns-then-both
unfolding goes_on
behind-returns-then-both t c = puts_as (ap spread (next_on _ _ _ (sym (c.both.ensures ∙ ap (λ (b : Bool). b also not (eqb c.args.x 65535)) c.may_stop.ensures) ∙ c.if-both.true))) c.form.ensures

pub behind-returns-else-both : goal.behind-returns-else-both
unfolding goes_on spread
behind-returns-else-both t c = puts_as (ap spread (next_none _ _ _ (sym (c.both.ensures ∙ ap (λ (b : Bool). b also not (eqb c.args.x 65535)) c.may_stop.ensures) ∙ c.if-both.false))) (puts_none _)

pub child-form-requires : goal.child-form-requires
child-form-requires t c = (omega (arith, c.decreases), c.requires)

pub child-returns-then-both : goal.child-returns-then-both
unfolding is_inside
child-returns-then-both t c = puts_as (ap spread (child_in _ _ _ (sym (c.both.ensures ∙ (λ i. c.is_child.ensures i also not (c.may_stop.ensures i))) ∙ c.if-both.true))) c.form.ensures

pub child-returns-else-both : goal.child-returns-else-both
unfolding is_inside spread
child-returns-else-both t c = puts_as (ap spread (child_out _ _ _ (sym (c.both.ensures ∙ (λ i. c.is_child.ensures i also not (c.may_stop.ensures i))) ∙ c.if-both.false))) (puts_none _)

pub form-returns-then-level-eq0 : goal.form-returns-then-level-eq0
form-returns-then-level-eq0 t c = no_levels _ _ _ _ _ _ _ c.if-level-eq0.true

pub form-fields-n-requires : goal.form-fields-n-requires
form-fields-n-requires t c = c.requires.0

pub form-returns-then-k-eq16 : goal.form-returns-then-k-eq16
form-returns-then-k-eq16 t c = puts_as (a_variable _ _ _ _ _ _ (omega (arith, c.if-level-eq0.false)) _ c.fields-n.ensures c.if-k-eq16.true) c.name.ensures

pub form-returns-then-k-eq17 : goal.form-returns-then-k-eq17
form-returns-then-k-eq17 t c = puts_as (a_constant _ _ _ _ _ _ (omega (arith, c.if-level-eq0.false)) _ c.fields-n.ensures c.if-k-eq17.true) c.value.ensures

pub form-child-requires : goal.form-child-requires
form-child-requires t c = (omega (arith, c.if-level-eq0.false, c.decreases), (c.requires.0, omega (arith, c.if-level-eq0.false, c.requires.1)))

pub form-child-requires-2 : goal.form-child-requires-2
form-child-requires-2 t c = (omega (arith, c.if-level-eq0.false, c.decreases), (c.requires.0, omega (arith, c.if-level-eq0.false, c.requires.1)))

pub form-child-requires-3 : goal.form-child-requires-3
form-child-requires-3 t c = (omega (arith, c.if-level-eq0.false, c.decreases), (c.requires.0, omega (arith, c.if-level-eq0.false, c.requires.1)))

pub form-behind-requires : goal.form-behind-requires
form-behind-requires t c = (omega (arith, c.if-level-eq0.false, c.decreases), (c.requires.0, omega (arith, c.if-level-eq0.false, c.requires.1)))

pub form-returns : goal.form-returns
form-returns t c = a_form _ _ _ _ _ _ (omega (arith, c.if-level-eq0.false)) _ c.fields-n.ensures _ _ _ c.if-k-eq16.false c.if-k-eq17.false (c.a_in.ensures ∙ ap a_in c.row_of-row.ensures) (c.b_in-next.ensures ∙ ap b_in c.row_of-row.ensures) (c.c_in.ensures ∙ ap c_in c.row_of-row.ensures) c.heading.ensures c.child.ensures c.child-2.ensures c.child-3.ensures (puts_as (target_is _ _) c.branch_name.ensures) c.put.ensures c.behind.ensures
