use Rattle.branches.proofs.ByTable.{too_large, no_branch_lem, by_table, lists_of}
use borrow.Author.Tests.{ne_eqb}
use lib.Dec.{eqb}
use Prim.Native.Nat.{ℕ}
use mathlib.Core.Path.{sym, ap, ◌∙◌}
use native.Mathlib.Omega.{arith}
use Rattle.branches.proofs.has_branch.Goals as goal

pub returns-then-k-j : goal.returns-then-k-j
returns-then-k-j c = too_large _ _ _ c.requires.0 c.if-k-j.true

pub kind_by-requires : goal.kind_by-requires
kind_by-requires c = let w = c.requires.0 in (c.requires.1, w.shaped, omega (arith, w.inside))

pub number_of-requires : goal.number_of-requires
number_of-requires c = omega (arith, c.requires.0.inside, c.requires.1.room)

pub returns-then-kind_by-eq9 : goal.returns-then-kind_by-eq9
returns-then-kind_by-eq9 c = ap (λ (n : ℕ). eqb n c.args.j) c.number_of.ensures ∙ by_table _ _ (lists_of c.requires.1) _ _ c.requires.0 c.requires.2 (omega arith) (sym c.kind_by.ensures ∙ c.if-kind_by-eq9.true)

pub returns-else-kind_by-eq9 : goal.returns-else-kind_by-eq9
returns-else-kind_by-eq9 c = ne_eqb _ 9 c.if-kind_by-eq9.false ∙ no_branch_lem _ _ _ c.requires.0 (λ e. c.if-kind_by-eq9.false (c.kind_by.ensures ∙ e))
