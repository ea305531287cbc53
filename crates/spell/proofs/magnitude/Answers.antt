use mathlib.Core.Path.{sym, ap, ◌∙◌}
use Prim.Native.Nat.{◌+◌, ◌-◌, ◌*◌}
use native.Mathlib.Omega.{arith}
use lib.ListN.{get_or, drop}
use Rattle.spell.specs.Vocabulary.{capped}
use Rattle.spell.proofs.NumberLaws.{read_grows, capped_small, capped_large, digit_least, first_digit, later_digits, read_next, read_done}
use Rattle.spell.proofs.magnitude.Goals as goal

pub overflow_sub-x : goal.overflow_sub-x
overflow_sub-x c = digit_least _ (first_digit c.args.word.now c.loop-b.b-index (omega arith) c.loop-b.invariant.digits)

pub returns-then-x-gt2147483648 : goal.returns-then-x-gt2147483648
returns-then-x-gt2147483648 c = sym (ap capped (c.loop-b.invariant.so_far ∙ read_next c.args.word.now c.loop-b.b-index (omega arith) _) ∙ capped_large _ (omega (arith, read_grows (10 * c.loop-b.x + (get_or c.args.word.now c.loop-b.b-index 0 - 48)) (drop (c.loop-b.b-index + 1) c.args.word.now))))

pub loop-b-preserved : goal.loop-b-preserved
loop-b-preserved c = record {
  small = omega arith;
  digits = later_digits c.args.word.now c.loop-b.b-index (omega arith) c.loop-b.invariant.digits;
  so_far = c.loop-b.invariant.so_far ∙ read_next c.args.word.now c.loop-b.b-index (omega arith) _;
}

pub returns : goal.returns
returns c = sym (ap capped (c.loop-b.invariant.so_far ∙ read_done c.args.word.now c.loop-b.b-index (omega arith) _) ∙ capped_small _ c.loop-b.invariant.small)
