-- A program numbered anew: how many nodes stay, for each its old one, and by old node the new number, with which the old records make the new.
-- Assumes nothing: these are definitions.
use Rattle.std.specs.Prelude.{◌≡◌, List, ℕ, length}
use Rattle.rules.specs.Bytes.{Bytes, write_at}
use Rattle.rules.specs.Tree.{root}
use Rattle.dropped.specs.Tidy.{tidy_s}
use Rattle.written.specs.Parts.{rows_p}
use Rattle.written.specs.Written.{new_number, part_s}
use Rattle.rewritten.specs.Rewritten.{tidying}
use Rattle.tidy.specs.Record.{new_rows}

pub record Numbering (p : Bytes) (order order' new' : List ℕ) (count : ℕ) : Type 0 where
  pub counted : count ≡ length (tidying p)
  pub ordered : order' ≡ write_at order 0 (tidying p)
  pub rows : new_rows p new' (tidying p) ≡ rows_p (part_s (tidy_s (root p)) (new_number (tidy_s (root p)))) 0
