-- The current part of a switch, and what a switch and a group do with their cells when they are entered anew.
-- Assumes nothing: these are definitions.
use Rattle.std.specs.Prelude.{ℕ, if◌then◌else◌}
use Rattle.rules.specs.Bytes.{Bytes}
use Rattle.rules.specs.Layout.{a_at, b_at, c_at, cells_before, held, is_clear, branch_in, hold_branch}
use Rattle.rules.specs.Tree.{signal_at, branches_at}
use Rattle.rules.specs.Evaluate.{Env, bind}
use Rattle.rules.specs.Reset.{reset_s}
use Rattle.rules.specs.declared.Value.{Value}
use Rattle.current.specs.Current.{leaves, swapped}
use Rattle.recalled.specs.Recall.{Memory, Recalled, on_outcome, recall_s, recall_b}

-- Switch i updates first until it has switched, then second, its variable bound.
abbrev pub in_switch : Bytes → ℕ → Bytes → Env → Bytes → Memory → Recalled
in_switch p i rec env st m =
    if is_clear st (cells_before p i) then recall_s rec env (signal_at p (a_at p i)) st m
    else recall_s rec (bind env i (held st (cells_before p i))) (signal_at p (c_at p i)) st m

-- Switch i catches a value: the part that is left goes to start.
abbrev pub switched : Bytes → ℕ → Bytes → Value → Bytes
switched p i st v = swapped (cells_before p i) (signal_at p (a_at p i)) (signal_at p (c_at p i)) st v

-- Group i updates its body, or the branch that its cell names, the argument bound; a jump out of it to one of its branches is caught.
abbrev pub in_group : Bytes → ℕ → Bytes → Env → Bytes → Memory → Recalled
in_group p i rec env st m =
    if is_clear st (cells_before p i) then on_outcome (leaves (cells_before p i) (signal_at p (a_at p i)) (branches_at p (b_at p i))) (recall_s rec env (signal_at p (a_at p i)) st m)
    else recall_b rec env (cells_before p i) (branch_in st (cells_before p i)) (held st (cells_before p i)) (branches_at p (b_at p i)) (branches_at p (b_at p i)) st m

-- Group i takes a branch and a value: the part that is left goes to start.
abbrev pub entered : Bytes → ℕ → ℕ → Bytes → ℕ → Value → Bytes
entered p i part st which v = reset_s (signal_at p part) (hold_branch st (cells_before p i) which v)
