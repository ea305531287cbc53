-- `spots::spot_of` meets its contract: each turn goes one byte on. Assumes nothing.
use Rattle.std.proofs.Common.{ℕ, ◌+◌, refl, sym, ap, ◌∙◌, arith}
use Rattle.rules.specs.Bytes.{byte_at}
use Rattle.spots.specs.Standing.{ends_line, lines_before, line_start}
use Rattle.spots.proofs.SpotLaws.{ended, stayed}
use Rattle.spots.proofs.spot_of.Goals as goal
use Rattle.spots.proofs.spot_of.Goals.{then-ends, else-ends}

pub loop-i-init : goal.loop-i-init
unfolding lines_before line_start
loop-i-init c = (refl, refl, omega arith)

pub loop-i-preserved : goal.loop-i-preserved
loop-i-preserved c = let text = c.args.text.now in
    let l = c.loop-i in
    let so = c.ends.ensures ∙ ap (λ (x : ℕ). ends_line x c.byte_at-in-loop-i.result) c.byte_at.ensures ∙ ap (λ (y : ℕ). ends_line (byte_at text l.i) y) c.byte_at-in-loop-i.ensures in
    elim c.if-ends.branch [
      | then-ends w ↦ rw w.spot-is (let d = ended text l.i _ l.invariant.0 (sym so ∙ w.if-ends.true) in (d.0, d.1, omega arith))
      | else-ends w ↦ rw w.spot-is (let d = stayed text l.i _ _ l.invariant.0 l.invariant.1 (sym so ∙ w.if-ends.false) in (d.0, d.1, omega arith))
    ]
