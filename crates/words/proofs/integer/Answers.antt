use Rattle.std.proofs.Common.{ℤ, sym, ap, ◌∙◌, arith, w64, to_z, of_z}
use Rattle.words.proofs.Signs.{signed_low}
use Rattle.words.proofs.Wide.{sum_fits, read_back, low, minus_wrap, signed_small}
use Rattle.words.proofs.integer.Goals as goal

pub returns-then-x-lt2147483648 : goal.returns-then-x-lt2147483648
returns-then-x-lt2147483648 c = low _ (omega arith) ∙ sym (signed_low _ (omega arith))

pub overflow_sub-result : goal.overflow_sub-result
overflow_sub-result c = sum_fits c.args.x _ (omega arith) (omega arith)

pub returns : goal.returns
returns c = ap (λ (z : ℤ). to_z w64 (of_z w64 z)) (minus_wrap c.args.x (omega arith) (omega arith))
    ∙ read_back _ (signed_small c.args.x (omega arith))
