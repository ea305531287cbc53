use mathlib.Core.Path.{sym, ◌∙◌}
use native.Mathlib.Omega.{arith}
use Rattle.rules.proofs.First.{first_starts, first_here, first_next, first_ends}
use Rattle.texts.specs.Spelling.{kind_named}
use Rattle.spell.proofs.WordLaws.{kind_row, tested, not_the_word, not_there}
use Rattle.spell.proofs.kind_named.Goals.{else-may_be-via-then-may_be+else-spells, else-may_be-via-else-may_be}
use Rattle.spell.proofs.kind_named.Goals as goal

pub loop-k-init : goal.loop-k-init
unfolding kind_named
loop-k-init c = first_starts _ _

pub returns-then-spells : goal.returns-then-spells
returns-then-spells c = sym (first_here _ _ _ (omega arith) (tested _ _ _ _ _ c.spells.ensures (kind_row _ (omega arith)) (sym c.may_be.ensures ∙ c.if-may_be.true) c.if-spells.true)) ∙ c.loop-k.invariant

pub loop-k-preserved : goal.loop-k-preserved
loop-k-preserved c = elim c.else-may_be.branch [
  | else-may_be-via-then-may_be+else-spells w ↦ sym (first_next _ _ _ (omega arith) (not_the_word _ _ _ _ _ w.spells.ensures (kind_row _ (omega arith)) w.if-spells.false)) ∙ c.loop-k.invariant
  | else-may_be-via-else-may_be w ↦ sym (first_next _ _ _ (omega arith) (not_there _ _ (sym c.may_be.ensures ∙ w.if-may_be.false))) ∙ c.loop-k.invariant
]

pub returns : goal.returns
returns c = sym (first_ends _ _ _ (omega arith)) ∙ c.loop-k.invariant
