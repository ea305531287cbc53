-- After m turns the nodes below m are counted and marked, and the last answer is that of the last of them.
use mathlib.Core.Path.{◌≡◌, refl, sym, ap, ◌∙◌}
use native.Mathlib.Omega.{arith}
use mathlib.Core.List.{List}
use Prim.Native.Nat.{ℕ, ◌+◌, ◌-◌}
use lib.ListN.{length}
use native.Mathlib.Numerals.{add-one}
use Rattle.shape.specs.Counts.{counted_in, marked_to, last_wrong}
use Rattle.shape.proofs.CountLaws.{marked_wrong, marked_right, length_marked}
use Rattle.shape.proofs.count_all.Goals as goal
use Rattle.shape.proofs.count_all.Goals.{then-wrong, else-wrong}

pub loop-m-init : goal.loop-m-init
unfolding marked_to last_wrong
loop-m-init c = (refl, refl, refl)

pub children-wrong-requires : goal.children-wrong-requires
children-wrong-requires c = (omega arith, omega arith)

pub bounds-counts-m : goal.bounds-counts-m
bounds-counts-m c = omega (arith, c.children-wrong.auto.counts, c.loop-m.invariant.0, c.requires.2)

pub loop-m-preserved : goal.loop-m-preserved
unfolding last_wrong
loop-m-preserved c = let p = c.args.p.now in
    let l = c.args.counts.now in
    let m = c.loop-m.m in
    let wrong = c.children-wrong.ensures.0 in
    let counted-now = c.children-wrong.ensures.1 ∙ ap (λ (x : List ℕ). counted_in p x m) c.loop-m.invariant.1 in
    let marked-now : c.if-wrong.counts ≡ marked_to p l (m + 1) =
    rw add-one
    (elim c.if-wrong.branch [
      | then-wrong w ↦ w.counts-is ∙ marked_wrong p l _ m (sym wrong ∙ w.if-wrong.true) counted-now
      | else-wrong w ↦ w.counts-is ∙ marked_right p l _ m (sym wrong ∙ w.if-wrong.false) counted-now
    ]) in
    (ap length marked-now ∙ length_marked p l _, marked-now, rw add-one wrong)

pub shape_of-counts : goal.shape_of-counts
shape_of-counts c = c.loop-m.invariant.0

pub returns : goal.returns
returns c = let start = c.args in
    let e : c.loop-m.m ≡ start.count = omega arith in
    (c.loop-m.invariant.1 ∙ ap (marked_to start.p.now start.counts.now) e, c.loop-m.invariant.2 ∙ ap (last_wrong start.p.now) e)
