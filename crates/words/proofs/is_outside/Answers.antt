use Rattle.std.proofs.Common.{ℤ, pos, negsuc, sym, ap, ◌∙◌, w64}
use lib.Signed.{lt_z}
use mir.ValLaws.{to_z-of_z}
use Rattle.words.proofs.Leaving.{outside_low, outside_high}
use Rattle.words.proofs.is_outside.Goals as goal

pub returns-then-z-lt0 : goal.returns-then-z-lt0
returns-then-z-lt0 c = let back = to_z-of_z w64 c.args.z c.ranges.z in
    ap (λ (z : ℤ). lt_z z (negsuc 2147483647)) back ∙ outside_low c.args.z (ap (λ (z : ℤ). lt_z z (pos 0)) (sym back) ∙ c.if-z-lt0.true)

pub returns : goal.returns
returns c = let back = to_z-of_z w64 c.args.z c.ranges.z in
    ap (λ (z : ℤ). lt_z (pos 2147483647) z) back ∙ outside_high c.args.z (ap (λ (z : ℤ). lt_z z (pos 0)) (sym back) ∙ c.if-z-lt0.false)
