use Prim.Native.Nat.{ℕ}
use Rattle.scope.proofs.DoorLaws.{past_limit, no_branch_lem, no_door, shut, by_door}
use lib.ListN.{get_or}
use mathlib.Core.Path.{sym, ap, ◌∙◌}
use native.Mathlib.Omega.{arith}
use Rattle.scope.proofs.offered.Goals as goal

pub returns-then-limit-k : goal.returns-then-limit-k
returns-then-limit-k c = past_limit c.requires.1 _ c.if-limit-k.true

pub kind_of-requires : goal.kind_of-requires
kind_of-requires c = let d = c.requires.1 in let s = c.requires.0.shaped in (omega (arith, d.inside, s.within), omega (arith, d.inside, s.small))

pub returns-then-kind_of-ne9 : goal.returns-then-kind_of-ne9
returns-then-kind_of-ne9 c = no_branch_lem c.requires.1 _ (λ e. c.if-kind_of-ne9.true (c.kind_of.ensures ∙ e))

pub number_of-first-requires : goal.number_of-first-requires
number_of-first-requires c = let d = c.requires.1 in omega (arith, d.inside, d.listed.room)

pub returns-then-first-ge1008 : goal.returns-then-first-ge1008
returns-then-first-ge1008 c = no_door c.requires.1 _ _ c.number_of-first.ensures c.if-first-ge1008.true

pub number_of-door-requires : goal.number_of-door-requires
number_of-door-requires c = omega (arith, c.requires.1.wide)

pub returns-then-door-eq0 : goal.returns-then-door-eq0
returns-then-door-eq0 c = shut c.requires.1 _ _ (c.number_of-door.ensures ∙ ap (λ (n : ℕ). get_or c.args.doors.now n 0) c.number_of-first.ensures) c.if-door-eq0.true

pub returns : goal.returns
returns c = by_door c.requires.1 _ _ (omega arith) (sym c.kind_of.ensures ∙ c.if-kind_of-ne9.false) c.requires.0.shaped (c.number_of-door.ensures ∙ ap (λ (n : ℕ). get_or c.args.doors.now n 0) c.number_of-first.ensures) c.if-door-eq0.false
