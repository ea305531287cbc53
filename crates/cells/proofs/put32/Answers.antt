use Prim.Native.Nat.{ℕ}
use Rattle.rules.specs.Bytes.{write_at, bytes_of}
use mathlib.Core.Path.{ap, ◌∙◌}
use Rattle.cells.proofs.put32.Goals as goal

pub returns : goal.returns
returns c = c.put.ensures ∙ ap (λ (x : ℕ). write_at c.args.s.now c.args.at (bytes_of 4 x)) c.from.ensures
