use Rattle.typing.proofs.+type_b_type_c_type_s.Given as goal

abbrev pub decreases-type_b : goal.decreases-type_b
decreases-type_b l = l.j

abbrev pub decreases-type_c : goal.decreases-type_c
decreases-type_c l = l.j

abbrev pub decreases-type_s : goal.decreases-type_s
decreases-type_s l = l.i
