use mathlib.Core.Path.{ap, ◌∙◌}
use Prim.Native.Nat.{ℕ}
use Rattle.rules.specs.Bytes.{write_at, bytes_of}
use Rattle.rules.specs.Layout.{set_cell}
use Rattle.cells.proofs.set_cell.Goals as goal

pub returns : goal.returns
unfolding set_cell
returns c = c.put64.ensures ∙ ap (λ (at : ℕ). write_at c.args.st.now at (bytes_of 8 c.args.m)) c.cell_at-at.ensures
