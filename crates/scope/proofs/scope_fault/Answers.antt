use Rattle.scope.proofs.RootScope.{root_scope}
use Rattle.scope.proofs.DoorLaws.{all_shut}
use native.Mathlib.Omega.{arith}
use mathlib.Core.Path.{refl, ◌∙◌}
use Rattle.scope.proofs.scope_fault.Goals as goal

pub slice_bounds-index_branches-end : goal.slice_bounds-index_branches-end
slice_bounds-index_branches-end c = refl

pub index_branches-requires : goal.index_branches-requires
index_branches-requires c = let x = c.requires in (x.2.shaped, x.3, x.0, omega (arith, x.0, x.2.shaped.small))

pub scope_s-requires : goal.scope_s-requires
scope_s-requires c = let x = c.requires in (x.2, all_shut c.index_branches.ensures.0 x.0 (omega (arith, x.1)))

pub returns : goal.returns
returns c = c.place.ensures ∙ c.scope_s.ensures.0 ∙ root_scope _ _ c.requires.0
