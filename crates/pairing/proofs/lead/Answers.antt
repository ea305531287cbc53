use mathlib.Core.Path.{refl, sym, ap, ◌∙◌}
use Prim.Native.Nat.{ℕ}
use lib.ListN.{get_or}
use Rattle.reaching.proofs.ReachLaws.{body_less, lead_step}
use native.Mathlib.Omega.{arith}
use Rattle.pairing.proofs.lead.Goals as goal

pub offset_bounds-ends-b : goal.offset_bounds-ends-b
offset_bounds-ends-b c = omega (arith, body_less _ _ c.requires.0 c.requires.1 (sym c.node-n.ensures.kind_is ∙ c.if-n-eq5.true), c.node-n.ensures.b_is, c.requires.1, c.requires.0.small)

pub bounds-ends-b : goal.bounds-ends-b
bounds-ends-b c = omega (arith, body_less _ _ c.requires.0 c.requires.1 (sym c.node-n.ensures.kind_is ∙ c.if-n-eq5.true), c.node-n.ensures.b_is, c.requires.1, c.requires.2.room)

pub returns-then-n-eq5 : goal.returns-then-n-eq5
returns-then-n-eq5 c = lead_step _ _ _ _ c.requires.0 c.requires.1 c.requires.2 (λ k. ap (λ (j : ℕ). get_or c.args.ends.now j 0) c.node-n.ensures.b_is) (λ k. absurd (k (sym c.node-n.ensures.kind_is ∙ c.if-n-eq5.true)))

pub returns-else-n-eq5 : goal.returns-else-n-eq5
returns-else-n-eq5 c = lead_step _ _ _ _ c.requires.0 c.requires.1 c.requires.2 (λ k. absurd (c.if-n-eq5.false (c.node-n.ensures.kind_is ∙ k))) (λ k. refl)
