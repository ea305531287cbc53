-- Putting a text where a pen stands.
-- Assumes nothing: these are definitions.
use Rattle.std.specs.Prelude.{◌≡◌, List, ℕ, length}
use Rattle.wire.specs.Text.{Put}
use Rattle.lines.specs.declared.pen.Pen.{Pen}

-- The pen has the same line, of the same length; the text stands behind what stood before it, and the pen behind the text.
pub record Puts (s : Pen) (text : List ℕ) (s' : Pen) : Type 0 where
  pub put : Put s.at text s.line.now s'.line.now s'.at
  pub lent : s'.line.ghost_name ≡ s.line.ghost_name
  pub long : length s'.line.now ≡ length s.line.now
