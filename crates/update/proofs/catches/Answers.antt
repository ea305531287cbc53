use Prim.Native.Nat.{ℕ}
use mathlib.Core.Path.{sym, ap, ◌∙◌}
use native.Mathlib.Omega.{arith}
use Rattle.rules.specs.Layout.{cells_before, b_at}
use Rattle.rules.specs.Scope.{has_branch}
use Rattle.rules.specs.Tree.{signal_at, branches_at}
use Rattle.rules.proofs.Branches.{found}
use Rattle.rules.proofs.Signals.{group_kids}
use Rattle.rules.proofs.Kids.{read}
use Rattle.branches.proofs.ByTable.{group_first}
use Rattle.update.proofs.CatchLaws.{catch_small, catch_other, catch_here}
use Rattle.update.proofs.catches.Goals as goal

pub returns-then-r-lt1048576 : goal.returns-then-r-lt1048576
returns-then-r-lt1048576 c = let p = c.args.p.now.now in
    let i = c.args.i in
    catch_small (cells_before p i) (signal_at p c.args.part) (branches_at p (b_at p i)) c.args.r c.args.st.now (omega arith) (c.ruled.ensures c.args.st.now)

pub has_branch-requires : goal.has_branch-requires
has_branch-requires c = group_first c.requires.0.table c.requires.0.node c.requires.0.kind c.requires.0.fields.b_is

pub enters-requires : goal.enters-requires
enters-requires c = let p = c.args.p.now.now in
    let i = c.args.i in
    let all = (read c.requires.0.fields.b_is (group_kids p i c.requires.0.node c.requires.0.kind).1).node in
    let f = found p c.args.n.b c.target_in-which.result all (sym c.has_branch.ensures ∙ c.if-has_branch.true) in
    (c.requires.0, c.requires.1, f.node, c.value_in.ensures.1)

pub returns-then-has_branch : goal.returns-then-has_branch
returns-then-has_branch c = let p = c.args.p.now.now in
    let i = c.args.i in
    catch_here (cells_before p i) (signal_at p c.args.part) (branches_at p (b_at p i)) c.args.r c.args.st.now (omega arith) c.target_in-which.ensures
    (ap (λ (l : ℕ). has_branch c.target_in-which.result (branches_at p l)) (sym c.requires.0.fields.b_is) ∙ sym c.has_branch.ensures ∙ c.if-has_branch.true)
    c.value_in.ensures.0 c.enters.ensures c.caught.result c.caught.ensures

pub returns : goal.returns
returns c = let p = c.args.p.now.now in
    let i = c.args.i in
    catch_other (cells_before p i) (signal_at p c.args.part) (branches_at p (b_at p i)) c.args.r c.args.st.now (omega arith) c.target_in-which.ensures
    (ap (λ (l : ℕ). has_branch c.target_in-which.result (branches_at p l)) (sym c.requires.0.fields.b_is) ∙ sym c.has_branch.ensures ∙ c.if-has_branch.false)
    (c.ruled-2.ensures c.args.st.now)
