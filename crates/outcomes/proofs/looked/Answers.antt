use native.Mathlib.Omega.{arith}
use lib.ListN.{get_or-eq_default, get_or}
use Rattle.outcomes.proofs.Counted.{value_fits_lem, look_stuck, look_gives}
use Rattle.outcomes.proofs.looked.Goals as goal

pub returns-then-m-eq0 : goal.returns-then-m-eq0
returns-then-m-eq0 c = let a = c.args in look_stuck a.env.now a.n c.if-m-eq0.true

pub overflow_add-result : goal.overflow_add-result
overflow_add-result c = let a = c.args in
    omega (
      arith,
      value_fits_lem (get_or a.env.now a.n 0) 1 (c.requires a.n) (omega arith)
          (omega (arith, c.shared_slice_known-1.given a.n)),
    )

pub returns-then-n-env : goal.returns-then-n-env
returns-then-n-env c = let a = c.args in look_gives a.env.now a.n c.requires c.if-m-eq0.false

pub returns : goal.returns
returns c = let a = c.args in look_stuck a.env.now a.n (get_or-eq_default a.env.now 0 c.if-n-env.false)
