use Rattle.std.proofs.Common.{sym, arith}
use Rattle.words.proofs.Signs.{less_low_low, less_low_high, less_high_low, less_high_high}
use Rattle.words.proofs.less.Goals as goal

pub returns-then-y-lt2147483648 : goal.returns-then-y-lt2147483648
returns-then-y-lt2147483648 c = sym (less_low_low _ _ (omega arith) (omega arith))

pub returns-then-x-lt2147483648 : goal.returns-then-x-lt2147483648
returns-then-x-lt2147483648 c = sym (less_low_high _ _ (omega arith) (omega arith))

pub returns-then-y-lt2147483648-2 : goal.returns-then-y-lt2147483648-2
returns-then-y-lt2147483648-2 c = sym (less_high_low _ _ (omega arith) (omega arith))

pub returns : goal.returns
returns c = sym (less_high_high _ _ (omega arith) (omega arith) (omega arith) (omega arith))
