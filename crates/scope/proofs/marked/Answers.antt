use Rattle.scope.proofs.ScopeLaws.{unmarked_past}
use Rattle.rules.specs.Scope.{is_marked}
use mathlib.Core.Path.{refl, sym}
use Rattle.scope.proofs.marked.Goals as goal

pub returns-then-n-all : goal.returns-then-n-all
unfolding is_marked
returns-then-n-all c = refl

pub returns : goal.returns
returns c = sym (unmarked_past _ _ c.if-n-all.false)
