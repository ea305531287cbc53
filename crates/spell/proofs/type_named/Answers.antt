use mathlib.Core.Path.{sym, ◌∙◌}
use native.Mathlib.Omega.{arith}
use Rattle.rules.proofs.First.{first_starts, first_here, first_next, first_ends}
use Rattle.texts.specs.Spelling.{type_named}
use Rattle.spell.proofs.WordLaws.{type_row, tested, not_the_word, not_there}
use Rattle.spell.proofs.type_named.Goals.{else-type_fits-via-then-type_fits+else-spells, else-type_fits-via-else-type_fits}
use Rattle.spell.proofs.type_named.Goals as goal

pub loop-t-init : goal.loop-t-init
unfolding type_named
loop-t-init c = first_starts _ _

pub returns-then-spells : goal.returns-then-spells
returns-then-spells c = sym (first_here _ _ _ (omega arith) (tested _ _ _ _ _ c.spells.ensures (type_row _ (omega arith)) (sym c.type_fits.ensures ∙ c.if-type_fits.true) c.if-spells.true)) ∙ c.loop-t.invariant

pub loop-t-preserved : goal.loop-t-preserved
loop-t-preserved c = elim c.else-type_fits.branch [
  | else-type_fits-via-then-type_fits+else-spells w ↦ sym (first_next _ _ _ (omega arith) (not_the_word _ _ _ _ _ w.spells.ensures (type_row _ (omega arith)) w.if-spells.false)) ∙ c.loop-t.invariant
  | else-type_fits-via-else-type_fits w ↦ sym (first_next _ _ _ (omega arith) (not_there _ _ (sym c.type_fits.ensures ∙ w.if-type_fits.false))) ∙ c.loop-t.invariant
]

pub returns : goal.returns
returns c = sym (first_ends _ _ _ (omega arith)) ∙ c.loop-t.invariant
