use mathlib.Core.Path.{refl, sym, ◌∙◌}
use Prim.Native.Nat.{◌-◌}
use native.Mathlib.Omega.{arith}
use borrow.Author.Tests.{eq-eqb, ne_eqb}
use Rattle.rules.specs.Layout.{blocks, records, kind_at}
use Rattle.rules.proofs.First.{first_starts}
use Rattle.format.proofs.SearchLaws.{found, passed, none_left}
use Rattle.format.proofs.SumLaws.{most_bytes}
use Rattle.format.proofs.RecordLaws.{nodes_at, nodes_all}
use Rattle.format.proofs.count_nodes.Invariants.{ends}
use Rattle.format.proofs.count_nodes.Goals as goal

pub overflow_mul-count : goal.overflow_mul-count
overflow_mul-count c = omega arith

pub loop-r-init : goal.loop-r-init
loop-r-init c = first_starts _ _

pub kind_at-requires : goal.kind_at-requires
unfolding blocks records
kind_at-requires c = omega (arith, most_bytes _ c.requires)

pub returns-then-kind_at-eq0 : goal.returns-then-kind_at-eq0
unfolding blocks records
returns-then-kind_at-eq0 c = let p = c.args.p.now in
    let here = sym (eq-eqb _ _ (sym c.kind_at.ensures ∙ c.if-kind_at-eq0.true)) in
    let at = found (ends p) _ _ c.loop-r.invariant _ (omega arith) here refl in
    (sym (nodes_at p _ (sym at)), omega (arith, most_bytes p c.requires))

pub loop-r-preserved : goal.loop-r-preserved
loop-r-preserved c = let p = c.args.p.now in
    let other = sym (ne_eqb _ _ λ e. c.if-kind_at-eq0.false (c.kind_at.ensures ∙ e)) in
    passed (ends p) _ _ c.loop-r.invariant _ (omega arith) other refl

pub returns : goal.returns
unfolding blocks records
returns c = let p = c.args.p.now in
    let none = none_left (ends p) _ _ c.loop-r.invariant (omega arith) in
    (sym (nodes_all p (sym none)), omega (arith, most_bytes p c.requires))
