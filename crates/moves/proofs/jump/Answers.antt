use mathlib.Core.Path.{sym, ◌∙◌}
use native.Mathlib.Omega.{arith}
use Rattle.moves.proofs.NumberLaws.{plain_small, number_jumps, no_jump}
use Rattle.moves.proofs.jump.Goals as goal

pub overflow_add-result-in-Plain : goal.overflow_add-result-in-Plain
overflow_add-result-in-Plain c = let small = plain_small c.args.v (sym c.unpack.ensures ∙ c.in-Plain.is) in
    omega (arith, small, c.counted.ensures.2, c.wide.ensures.0, c.wide_word.ensures.1, c.short.ensures.1)

pub returns-in-Plain : goal.returns-in-Plain
returns-in-Plain c = let short = c.short in
    let count = c.counted in
    λ st. number_jumps c.args.v c.requires.0 c.requires.1 (sym c.unpack.ensures ∙ c.in-Plain.is) c.wide.ensures.0 c.wide_word.ensures.0 short.result count.result short.ensures.1 count.ensures.2 st
    ∙ rw (short.ensures.0, count.ensures.0)

pub returns-in-Absent : goal.returns-in-Absent
returns-in-Absent c = absurd (no_jump c.args.v c.requires.0 c.requires.1 (sym c.unpack.ensures ∙ c.in-Absent.is) (λ z. omega arith))

pub returns-in-Present : goal.returns-in-Present
returns-in-Present c = absurd (no_jump c.args.v c.requires.0 c.requires.1 (sym c.unpack.ensures ∙ c.in-Present.is) (λ z. omega arith))
