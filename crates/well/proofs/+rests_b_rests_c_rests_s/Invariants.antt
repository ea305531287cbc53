use Rattle.well.proofs.+rests_b_rests_c_rests_s.Given as goal

abbrev pub decreases-rests_b : goal.decreases-rests_b
decreases-rests_b l = l.j

abbrev pub decreases-rests_c : goal.decreases-rests_c
decreases-rests_c l = l.j

abbrev pub decreases-rests_s : goal.decreases-rests_s
decreases-rests_s l = l.i
