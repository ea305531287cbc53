use Rattle.well.proofs.+well_b_well_c_well_s.Given as goal

abbrev pub decreases-well_b : goal.decreases-well_b
decreases-well_b l = l.j

abbrev pub decreases-well_c : goal.decreases-well_c
decreases-well_c l = l.j

abbrev pub decreases-well_s : goal.decreases-well_s
decreases-well_s l = l.i
