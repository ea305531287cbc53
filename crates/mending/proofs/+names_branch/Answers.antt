use Rattle.mending.proofs.MendLaws.{names_this, names_none, names_on}
use Rattle.mends.specs.Mend.{names_branch}
use Rattle.state.proofs.Carried.{carried}
use Rattle.rules.proofs.Signals.{branch_next}
use Rattle.rules.proofs.Kids.{read}
use Rattle.rules.specs.WellFormed.{content_fits}
use Rattle.rules.specs.Tree.{branches_at}
use native.Mathlib.Omega.{arith}
use mathlib.Core.Path.{refl, sym, ap, ◌∙◌}
use Prim.Native.Nat.{ℕ}
use Rattle.mending.proofs.+names_branch.Goals as goal

pub node_by-n-requires : goal.node_by-n-requires
node_by-n-requires t c = let w = c.requires in (w.indexed, w.node.shaped, w.node.inside)

pub middle_in-requires : goal.middle_in-requires
middle_in-requires t c = tt

pub content_fits-requires : goal.content_fits-requires
content_fits-requires t c = tt

pub returns-then-j-middle_in : goal.returns-then-j-middle_in
returns-then-j-middle_in t c = c.content_fits.ensures ∙ ap (λ (t : ℕ). content_fits t c.args.j c.args.m) c.node_by-n.ensures.type_is ∙ sym (names_this c.args.p.now.now c.args.j c.requires.node c.args.m (c.if-j-middle_in.true ∙ c.middle_in.ensures))

pub returns-then-n-eq-LAST : goal.returns-then-n-eq-LAST
returns-then-n-eq-LAST t c = sym (names_none c.args.p.now.now c.args.j c.requires.node c.args.m (λ h. c.if-j-middle_in.false (h ∙ sym c.middle_in.ensures)) (sym c.node_by-n.ensures.b_is ∙ c.if-n-eq-LAST.true))

pub names_branch-requires : goal.names_branch-requires
names_branch-requires t c = let k = read c.node_by-n.ensures.b_is (branch_next c.args.p.now.now c.args.j c.requires.node (λ h. c.if-n-eq-LAST.false (c.node_by-n.ensures.b_is ∙ h))) in (omega (arith, k.less, c.decreases), carried c.requires refl k)

pub returns : goal.returns
returns t c = c.names_branch.ensures ∙ ap (λ (b : ℕ). names_branch c.args.m (branches_at c.args.p.now.now b)) c.node_by-n.ensures.b_is ∙ sym (names_on c.args.p.now.now c.args.j c.requires.node c.args.m (λ h. c.if-j-middle_in.false (h ∙ sym c.middle_in.ensures)) (λ h. c.if-n-eq-LAST.false (c.node_by-n.ensures.b_is ∙ h)))
