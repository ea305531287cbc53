-- `wire::digits::hex` meets its contract: the loop has put the digits of the bytes passed. Assumes nothing.
use Prim.Native.Nat.{ℕ, ◌*◌}
use mathlib.Core.Path.{◌≡◌, refl, ap, ◌∙◌}
use native.Mathlib.Omega.{arith}
use lib.Seq.{take-length}
use lib.ListN.{length, take, get_or}
use Rattle.wire.specs.Text.{hexes}
use Rattle.wire.proofs.PutLaws.{counts}
use Rattle.wire.proofs.HexLaws.{pair}
use Rattle.wire.proofs.digits.hex.Goals as goal

pub loop-i-init : goal.loop-i-init
unfolding hexes
loop-i-init c = refl

pub loop-i-preserved : goal.loop-i-preserved
loop-i-preserved c = let s = c.args.s.now in
    let i = c.loop-i.i in
    pair s c.loop-i.text i (get_or s i 0) (omega arith) (omega arith) c.loop-i.invariant c.digit.ensures c.digit-in-loop-i.ensures refl

pub returns : goal.returns
returns c = let s = c.args.s.now in
    let at = c.loop-i in
    let e : at.i ≡ length s = omega arith in
    let n : 2 * length s ≡ 2 * at.i = omega arith in
    record {
      prefix_len = counts (2 * length s) at.text (omega arith);
      text_after = ap (λ (k : ℕ). take k at.text) n ∙ at.invariant ∙ ap hexes (ap (λ (k : ℕ). take k s) e ∙ take-length s);
    }
