-- A slot that was set is put back: what every recursion with marks or slots ends with.
-- Assumes nothing.
use mathlib.Core.Path.{◌≡◌, ◌∙◌}
use mathlib.Core.List.{List}
use Prim.Native.Nat.{ℕ}
use lib.ListN.{get_or, set}
use lib.Seq.{set-set, set-get_or}

pub put_back : (l : List ℕ) (i v : ℕ) → set (set l i v) i (get_or l i 0) ≡ l
put_back l i v = set-set l i v (get_or l i 0) ∙ set-get_or l i 0
