use Rattle.bound.proofs.+bound_b_bound_c_bound_s.Given as goal

abbrev pub decreases-bound_b : goal.decreases-bound_b
decreases-bound_b l = l.j

abbrev pub decreases-bound_c : goal.decreases-bound_c
decreases-bound_c l = l.j

abbrev pub decreases-bound_s : goal.decreases-bound_s
decreases-bound_s l = l.i
