use mathlib.Core.Path.{refl, sym, ◌∙◌}
use Rattle.std.proofs.Common.{inl, inr}
use Rattle.labels.proofs.NoteLaws.{awaits_two, awaits_mark}
use Rattle.labels.proofs.await_next.Goals.{else-state-eq1-via-then-state-eq1+else-spells, else-state-eq1-via-else-state-eq1}
use Rattle.labels.proofs.await_next.Goals as goal

pub returns-then-spells : goal.returns-then-spells
returns-then-spells c = sym (awaits_two _ _ c.if-state-eq1.true (sym c.spells.ensures ∙ c.if-spells.true))

pub returns-then-is_byte : goal.returns-then-is_byte
returns-then-is_byte c = elim c.else-state-eq1.branch [
  | else-state-eq1-via-then-state-eq1+else-spells w ↦ sym (awaits_mark _ _ (inr (sym w.spells.ensures ∙ w.if-spells.false)) ∙ rw (sym c.is_byte.ensures ∙ c.if-is_byte.true) refl)
  | else-state-eq1-via-else-state-eq1 w ↦ sym (awaits_mark _ _ (inl w.if-state-eq1.false) ∙ rw (sym c.is_byte.ensures ∙ c.if-is_byte.true) refl)
]

pub returns : goal.returns
returns c = elim c.else-state-eq1.branch [
  | else-state-eq1-via-then-state-eq1+else-spells w ↦ sym (awaits_mark _ _ (inr (sym w.spells.ensures ∙ w.if-spells.false)) ∙ rw (sym c.is_byte.ensures ∙ c.if-is_byte.false) refl)
  | else-state-eq1-via-else-state-eq1 w ↦ sym (awaits_mark _ _ (inl w.if-state-eq1.false) ∙ rw (sym c.is_byte.ensures ∙ c.if-is_byte.false) refl)
]
