use Rattle.rules.specs.Layout.{word_at}
use Rattle.rules.specs.Bytes.{u32_at}
use Prim.Native.Nat.{ℕ, ◌+◌}
use mathlib.Core.Path.{ap, ◌∙◌}
use native.Mathlib.Omega.{arith}
use Rattle.cells.proofs.node_by.Goals as goal

pub overflow_cast-result : goal.overflow_cast-result
overflow_cast-result c = let r = c.requires.0.rows c.args.i c.requires.2 in omega (arith, c.column.ensures.0, r.kind_is, r.small.0)

pub overflow_cast-result-2 : goal.overflow_cast-result-2
overflow_cast-result-2 c = let r = c.requires.0.rows c.args.i c.requires.2 in omega (arith, c.column-2.ensures.0, r.type_is, r.small.1)

pub returns : goal.returns
unfolding word_at
returns c = let r = c.requires.0.rows c.args.i c.requires.2 in
    record {
      kind_is = c.column.ensures.0 ∙ r.kind_is;
      type_is = c.column-2.ensures.0 ∙ r.type_is;
      a_is = c.column-3.ensures.0 ∙ r.a_is;
      b_is = c.column-4.ensures.0 ∙ r.b_is;
      c_is = c.column-5.ensures.0 ∙ r.c_is;
      word_is = c.u32_at.ensures ∙ ap (λ (j : ℕ). u32_at c.args.p.now (j + 8)) c.node_at-at.ensures.0;
    }
