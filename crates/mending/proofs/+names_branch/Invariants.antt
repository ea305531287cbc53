use Rattle.mending.proofs.+names_branch.Given as goal

abbrev pub decreases-names_branch : goal.decreases-names_branch
decreases-names_branch l = l.j
