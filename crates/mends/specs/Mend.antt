-- Bringing a state back (document 02, request k), as a function from the root downward.
-- Assumes nothing: these are definitions.
use Rattle.std.specs.Prelude.{ℕ, Bool, true, false, eqb, leb, if◌then◌else◌}
use Rattle.rules.specs.Bytes.{Bytes, ◌or◌}
use Rattle.rules.specs.Values.{type_of, middle_in}
use Rattle.rules.specs.Layout.{last_time, no_time, set_time, cell, hold, clear}
use Rattle.rules.specs.Tree.{Signal, input, time, ext, delay, let_signal, switch, group, until, Branches, no_branch, branch, Cases, no_case, case, root}
use Rattle.rules.specs.Reset.{reset_s, reset_b}
use Rattle.rules.specs.WellFormed.{content_fits, last_moment}

-- A group's cell names one of its branches, with a value of that branch's type.
unfoldable pub names_branch : ℕ → Branches → Bool
names_branch m no_branch = false
names_branch m (branch n t body next) = if eqb n (middle_in m) then content_fits t n m else names_branch m next

-- "From the root downward: a cell in a current part is kept if valid for its node, otherwise put to start; a cell in any other part is put to
-- start." "An invalid group or switch cell at start makes its body or first part current." (Zeros, put to start, are as before.)
unfoldable mutual
  pub mend_s : Signal → Bytes → Bytes
  mend_s (input n c) st = st
  mend_s (time n) st = st
  mend_s (ext n e) st = st
  mend_s (delay n k v s) st = mend_s s (if content_fits (type_of v) 0 (cell st k) then st else hold st k v)
  mend_s (let_signal n t d b) st = mend_s b (mend_s d st)
  mend_s (switch n k t x e y) st =
      if content_fits t 0 (cell st k) then mend_s y (reset_s x (mend_s e st))
      else reset_s y (mend_s x (mend_s e (clear st k)))
  mend_s (group n k body brs) st =
      if names_branch (cell st k) brs then mend_b (cell st k) brs (reset_s body st)
      else reset_b brs (mend_s body (clear st k))
  mend_s (until n s cs) st = mend_c cs (mend_s s st)

  -- The branch that a group's cell names is current; the others are put to start.
  pub mend_b : ℕ → Branches → Bytes → Bytes
  mend_b m no_branch st = st
  mend_b m (branch n t body next) st =
      if eqb n (middle_in m) then reset_b next (mend_s body st) else mend_b m next (reset_s body st)

  pub mend_c : Cases → Bytes → Bytes
  mend_c no_case st = st
  mend_c (case n event target t next) st = mend_c next (mend_s event st)

-- "A bad time word becomes 'none'."
unfoldable pub time_fits : Bytes → Bool
time_fits st = eqb (last_time st) no_time or leb (last_time st) last_moment

unfoldable pub mend_time : Bytes → Bytes
mend_time st = if time_fits st then st else set_time st no_time

unfoldable pub mended : Bytes → Bytes → Bytes
mended p st = mend_s (root p) (mend_time st)
