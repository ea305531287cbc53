use Rattle.std.proofs.Common.{sym}
use Rattle.words.proofs.Leaving.{low_low, high_low}
use Rattle.words.proofs.astride.Goals as goal

pub returns-then-x-lt2147483648 : goal.returns-then-x-lt2147483648
returns-then-x-lt2147483648 c = sym (low_low _ _ c.if-x-lt2147483648.true)

pub returns : goal.returns
returns c = sym (high_low _ _ c.if-x-lt2147483648.false)
