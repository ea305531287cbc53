use mathlib.Core.Path.{◌≡◌}
use lib.ListN.{length}
use Rattle.reaching.specs.Leads.{LeadsTo}
use Rattle.pairing.proofs.lead_all.Given as goal

abbrev pub invariant-loop-m : goal.invariant-loop-m
invariant-loop-m l = (length l.ends ≡ length l.initial.ends) × LeadsTo l.m l.p l.ends
