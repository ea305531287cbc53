-- Each turn is one of the definition's: it passes one quiet case or ends; the cases' numbers fall, so the turns are enough.
use mathlib.Core.Path.{refl, sym, ap, ◌∙◌, subst}
use native.Mathlib.Omega.{arith}
use Rattle.rules.specs.Layout.{a_at}
use Rattle.update.specs.Passes.{looked_work, looked_event, Counts, Known}
use Rattle.update.specs.declared.Looked.{Looked}
use Rattle.update.proofs.QuietLaws.{known_again}
use Rattle.update.proofs.PassLaws.{pass_start, pass_next, pass_room, quiet_again, counted_once, turn_start, turn_next, turn_end}
use Rattle.update.proofs.pass.Goals as goal

pub loop-u-init : goal.loop-u-init
loop-u-init c = let rec = c.args.rec.now.now in
    let st = c.args.st.now in
    (pass_start rec st c.requires, turn_start c.args.p.now.now rec st c.args.env.now c.args.j, refl)

pub overflow_add-passed : goal.overflow_add-passed
overflow_add-passed c = let l = c.loop-u in
    let q = quiet_again l.invariant.0 (sym (ap looked_work c.in-Quiet.is) ∙ c.quiet.ensures.0) l.invariant.2 in
    omega (arith, (pass_room c.requires.node l.invariant.0).0, counted_once c.args.rec.now.now c.args.st.now (record { ready = l.invariant.0.ready; fields = c.node_by-n.ensures }) q (subst Counts c.in-Quiet.is c.quiet.ensures.3))

pub loop-u-smaller : goal.loop-u-smaller
loop-u-smaller c = let l = c.loop-u in
    let q = quiet_again l.invariant.0 (sym (ap looked_work c.in-Quiet.is) ∙ c.quiet.ensures.0) l.invariant.2 in
    (pass_next c.requires.node l.invariant.0 c.node_by-n.ensures q (subst Counts c.in-Quiet.is c.quiet.ensures.3)).0

pub loop-u-preserved : goal.loop-u-preserved
loop-u-preserved c = let l = c.loop-u in
    let q = quiet_again l.invariant.0 (sym (ap looked_work c.in-Quiet.is) ∙ c.quiet.ensures.0) l.invariant.2 in
    let o = subst Counts c.in-Quiet.is c.quiet.ensures.3 in (
      (pass_next c.requires.node l.invariant.0 c.node_by-n.ensures q o).1,
      turn_next c.requires.node l.invariant.0 l.invariant.1 c.node_by-n.ensures q o,
      c.quiet.ensures.1 ∙ l.invariant.2,
    )

pub returns-in-Stands : goal.returns-in-Stands
returns-in-Stands c = let l = c.loop-u in
    let q = quiet_again l.invariant.0 (sym (ap looked_work c.in-Stands.is) ∙ c.quiet.ensures.0) l.invariant.2 in
    let known = subst (λ (x : Looked). Known c.args.p.now.now c.args.rec.now.now c.args.st.now l.env (a_at c.args.p.now.now l.passed.at) (looked_event x)) c.in-Stands.is c.quiet.ensures.2 in
    (turn_end l.invariant.1 (sym q), c.quiet.ensures.1 ∙ l.invariant.2, known_again (sym l.invariant.2) known)
