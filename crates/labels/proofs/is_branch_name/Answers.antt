use mathlib.Core.Path.{sym, ap, ◌∙◌}
use Rattle.texts.specs.Tokens.{part}
use Rattle.texts.specs.Spelled.{is_among}
use Rattle.spell.proofs.PartLaws.{same_pointwise}
use Rattle.labels.proofs.NoteLaws.{ahead_none, ahead_here, ahead_other, ahead_next, names_ahead_lem, state_is}
use Rattle.labels.proofs.is_branch_name.Goals.{else-state-eq2-via-then-state-eq2+else-eq, else-state-eq2-via-else-state-eq2}
use Rattle.labels.proofs.is_branch_name.Goals as goal

pub loop-w-init : goal.loop-w-init
loop-w-init c = ap (is_among _) (names_ahead_lem _)

pub returns-then-eq : goal.returns-then-eq
unfolding part
returns-then-eq c = sym (c.loop-w.invariant ∙ ahead_here _ _ _ _ _ c.word_from.ensures _ c.in-Some.is c.if-state-eq2.true (sym (c.eq.ensures ∙ same_pointwise _ _) ∙ c.if-eq.true))

pub loop-w-preserved : goal.loop-w-preserved
unfolding part
loop-w-preserved c = elim c.else-state-eq2.branch [
  | else-state-eq2-via-then-state-eq2+else-eq w ↦ c.loop-w.invariant ∙ ahead_next _ _ _ _ _ c.word_from.ensures _ c.in-Some.is w.if-state-eq2.true (sym (w.eq.ensures ∙ same_pointwise _ _) ∙ w.if-eq.false) ∙ state_is _ _ _ _ _ _ c.await_next-state.ensures
  | else-state-eq2-via-else-state-eq2 w ↦ c.loop-w.invariant ∙ ahead_other _ _ _ _ _ c.word_from.ensures _ c.in-Some.is w.if-state-eq2.false ∙ state_is _ _ _ _ _ _ c.await_next-state.ensures
]

pub returns : goal.returns
returns c = sym (c.loop-w.invariant ∙ ahead_none _ _ _ _ _ c.word_from.ensures c.in_default.is)
