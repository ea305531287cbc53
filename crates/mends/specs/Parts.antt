-- Which parts of a program are current, and which contents are valid for a node (document 01), said of one node at a time and without the
-- function that mends.
-- Assumes nothing: these are definitions.
use Rattle.std.specs.Prelude.{◌≡◌, Bool, true, false, ℕ, eqb}
use Rattle.rules.specs.Bytes.{Bytes, ◌or◌}
use Rattle.rules.specs.Values.{type_of, packed}
use Rattle.rules.specs.Layout.{is_clear, branch_in}
use Rattle.rules.specs.Tree.{Signal, input, time, ext, delay, let_signal, switch, group, until, Branches, no_branch, branch, Cases, no_case, case}
use Rattle.rules.specs.WellFormed.{content_fits}
use Rattle.rules.specs.declared.Value.{Value}
use Rattle.mends.specs.Mend.{names_branch}

-- Node z stands in a signal: the way down to it, part by part.
mutual
  pub data Inside (z : Signal) : Signal → Type 0 where
    itself : Inside z z
    delayed : {n k : ℕ} {v : Value} {s : Signal} → Inside z s → Inside z (delay n k v s)
    definition : {n t : ℕ} {d b : Signal} → Inside z d → Inside z (let_signal n t d b)
    let_body : {n t : ℕ} {d b : Signal} → Inside z b → Inside z (let_signal n t d b)
    first_part : {n k t : ℕ} {x e y : Signal} → Inside z x → Inside z (switch n k t x e y)
    event_part : {n k t : ℕ} {x e y : Signal} → Inside z e → Inside z (switch n k t x e y)
    second_part : {n k t : ℕ} {x e y : Signal} → Inside z y → Inside z (switch n k t x e y)
    group_body : {n k : ℕ} {body : Signal} {brs : Branches} → Inside z body → Inside z (group n k body brs)
    group_branch : {n k : ℕ} {body : Signal} {brs : Branches} → InsideB z brs → Inside z (group n k body brs)
    until_signal : {n : ℕ} {s : Signal} {cs : Cases} → Inside z s → Inside z (until n s cs)
    until_case : {n : ℕ} {s : Signal} {cs : Cases} → InsideC z cs → Inside z (until n s cs)

  pub data InsideB (z : Signal) : Branches → Type 0 where
    this_branch : {n t : ℕ} {body : Signal} {next : Branches} → Inside z body → InsideB z (branch n t body next)
    later_branch : {n t : ℕ} {body : Signal} {next : Branches} → InsideB z next → InsideB z (branch n t body next)

  pub data InsideC (z : Signal) : Cases → Type 0 where
    this_case : {n target t : ℕ} {event : Signal} {next : Cases} → Inside z event → InsideC z (case n event target t next)
    later_case : {n target t : ℕ} {event : Signal} {next : Cases} → InsideC z next → InsideC z (case n event target t next)

-- "The current part of a group is its body or the named branch; of a switch, first until switched, then second." Of all other nodes every part
-- is current with the node. A node stands in a current part if every part on the way to it is current.
abbrev mutual
  pub Current : Bytes → {z s : Signal} → Inside z s → Type 0
  Current st itself = Unit {0}
  Current st (delayed w) = Current st w
  Current st (definition w) = Current st w
  Current st (let_body w) = Current st w
  Current st (first_part {k = k} w) = (is_clear st k ≡ true) × Current st w
  Current st (event_part w) = Current st w
  Current st (second_part {k = k} w) = (is_clear st k ≡ false) × Current st w
  Current st (group_body {k = k} w) = (is_clear st k ≡ true) × Current st w
  Current st (group_branch {k = k} w) = (is_clear st k ≡ false) × CurrentB st (branch_in st k) w
  Current st (until_signal w) = Current st w
  Current st (until_case w) = CurrentC st w

  -- In the branch of a number. (The first of that number: in a list of branches no number stands twice.)
  pub CurrentB : Bytes → ℕ → {z : Signal} {brs : Branches} → InsideB z brs → Type 0
  CurrentB st m (this_branch {n = n} w) = (n ≡ m) × Current st w
  CurrentB st m (later_branch {n = n} w) = (n ≡ m → ⊥) × CurrentB st m w

  pub CurrentC : Bytes → {z : Signal} {cs : Cases} → InsideC z cs → Type 0
  CurrentC st (this_case w) = Current st w
  CurrentC st (later_case w) = CurrentC st w

-- Cell k is node z's own.
abbrev pub HasCell : Signal → ℕ → Type 0
HasCell (input n c) k = ⊥
HasCell (time n) k = ⊥
HasCell (ext n e) k = ⊥
HasCell (delay n j v s) k = k ≡ j
HasCell (let_signal n t d b) k = ⊥
HasCell (switch n j t x e y) k = k ≡ j
HasCell (group n j body brs) k = k ≡ j
HasCell (until n s cs) k = ⊥

-- "Each cell valid for its node (a delay's: a value of its type; a switch's or group's: zeros, or as above with the type of the variable or of
-- the branch, one of that group's)."
abbrev pub valid_for : Signal → ℕ → Bool
valid_for (input n c) m = false
valid_for (time n) m = false
valid_for (ext n e) m = false
valid_for (delay n k v s) m = content_fits (type_of v) 0 m
valid_for (let_signal n t d b) m = false
valid_for (switch n k t x e y) m = eqb m 0 or content_fits t 0 m
valid_for (group n k body brs) m = eqb m 0 or names_branch m brs
valid_for (until n s cs) m = false

-- "Start cells: a delay's first value; zeros for the others."
abbrev pub start_of : Signal → ℕ
start_of (input n c) = 0
start_of (time n) = 0
start_of (ext n e) = 0
start_of (delay n k v s) = packed v
start_of (let_signal n t d b) = 0
start_of (switch n k t x e y) = 0
start_of (group n k body brs) = 0
start_of (until n s cs) = 0

-- Cell k is that of a node that stands in a signal.
pub record Standing (k : ℕ) (s : Signal) : Type 0 where
  pub node : Signal
  pub own : HasCell node k
  pub way : Inside node s
