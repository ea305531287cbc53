-- Putting a text on a sheet: in its room, from its place on.
-- Assumes nothing: these are definitions.
use Rattle.std.specs.Prelude.{◌≡◌, length}
use Rattle.rules.specs.Bytes.{Bytes}
use Rattle.letters.specs.Wrote.{Wrote}
use Rattle.letters.specs.declared.Sheet.{Sheet}

-- The sheet has the same room, of the same length; the bytes xs were written to it, and its place is behind them.
pub record Puts (s : Sheet) (xs : Bytes) (s' : Sheet) : Type 0 where
  pub wrote : Wrote s.room.now s.at xs s'.room.now s'.at
  pub lent : s'.room.ghost_name ≡ s.room.ghost_name
  pub long : length s'.room.now ≡ length s.room.now
