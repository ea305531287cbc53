use Rattle.std.proofs.Common.{refl, rules}
use Rattle.rules.specs.Words.{product_of}
use Rattle.words.proofs.Fits.{fits}
use Rattle.words.proofs.times.Goals as goal

pub overflow_mul-result : goal.overflow_mul-result
overflow_mul-result c = record { fits = fits 32 (search rules) (search rules) }

pub returns : goal.returns
unfolding product_of
returns c = rw (c.from.ensures, c.from-2.ensures) refl
