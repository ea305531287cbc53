use Rattle.bound.proofs.RootBounds.{root_small, root_bound}
use native.Mathlib.Omega.{arith}
use Rattle.bound.proofs.bound_of.Goals as goal

pub bound_s-b-requires : goal.bound_s-b-requires
bound_s-b-requires c = root_small _ _ c.requires.0 c.requires.2 c.requires.3

pub overflow_add-result : goal.overflow_add-result
overflow_add-result c = let m = c.bound_s-b.ensures.most in omega (arith, m.eval_most, m.update_most, c.eval_in.ensures, c.update_in.ensures)

pub returns : goal.returns
returns c = cc (root_bound _ _ c.requires.0 _ c.bound_s-b.ensures, c.eval_in.ensures, c.update_in.ensures)
