use mathlib.Core.Path.{refl, ap}
use Rattle.std.specs.Prelude.{Ok}
use native.Mathlib.Omega.{arith}
use borrow.Author.Tests.{le-leb, lt-leb}
use Rattle.spell.specs.Vocabulary.{number_of}
use Rattle.spell.proofs.signed.Goals as goal

pub returns-then-n-gt2147483648 : goal.returns-then-n-gt2147483648
unfolding number_of
returns-then-n-gt2147483648 c = rw (c.if-negative.true, lt-leb _ 2147483648 c.if-n-gt2147483648.true) refl

pub returns-then-negative : goal.returns-then-negative
unfolding number_of
returns-then-negative c = rw (c.if-negative.true, le-leb c.args.n 2147483648 (omega arith)) (ap Ok (omega (arith, c.wrapping_neg.ensures)))

pub returns-then-n-gt2147483647 : goal.returns-then-n-gt2147483647
unfolding number_of
returns-then-n-gt2147483647 c = rw (c.if-negative.false, lt-leb _ 2147483647 c.if-n-gt2147483647.true) refl

pub returns : goal.returns
unfolding number_of
returns c = rw (c.if-negative.false, le-leb c.args.n 2147483647 (omega arith)) refl
