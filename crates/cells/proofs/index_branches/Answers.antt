use Rattle.cells.proofs.Passed.{passing, passed}
use Rattle.cells.specs.Indexed.{ListedFrom}
use Prim.Native.Nat.{ℕ, ◌+◌, ◌-◌}
use mathlib.Core.Path.{◌≡◌, refl, sym, subst, ◌∙◌}
use native.Mathlib.Omega.{arith}
use Rattle.cells.proofs.index_branches.Goals as goal

pub loop-i-init : goal.loop-i-init
loop-i-init c = (refl, passing _ _ _ c.requires.2 c.requires.3, λ i w. refl)

pub name_branch-requires : goal.name_branch-requires
name_branch-requires c = let e : (c.loop-i.i - 1) + 1 ≡ c.loop-i.i = omega arith in (c.requires.0, omega (arith, c.requires.2), c.requires.1, subst (λ (k : ℕ). ListedFrom k c.args.p.now c.loop-i.index) (sym e) c.loop-i.invariant.1)

pub loop-i-preserved : goal.loop-i-preserved
loop-i-preserved c = (c.name_branch.auto.index ∙ c.loop-i.invariant.0, c.name_branch.ensures.0, λ i w. c.name_branch.ensures.1 i w ∙ c.loop-i.invariant.2 i w)

pub shape_of-index : goal.shape_of-index
shape_of-index c = c.loop-i.invariant.0

pub returns : goal.returns
returns c = (passed _ _ _ (omega arith) c.requires.1 c.loop-i.invariant.1, c.loop-i.invariant.2)
