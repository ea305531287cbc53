-- Readiness, as a relation (document 01, "Ready"; document 000, section 4.3).
-- Assumes nothing: these are definitions.
use Rattle.std.specs.Prelude.{ℕ}
use Rattle.rules.specs.Tree.{Expr, variable, operation, negation, choice, just, taking, Signal, input, time, ext, delay, let_signal, switch, group, until, Branches, no_branch, branch, Cases, no_case, case}
use Rattle.rules.specs.declared.Value.{Value}

-- "A node needs a variable at once if it is that variable or if a child needs it at once": NeedsE x e, of the variable that node x binds.
pub data NeedsE (x : ℕ) : Expr → Type 0 where
  is_it : {n t : ℕ} → NeedsE x (variable n x t)
  operation_first : {n k : ℕ} {e f : Expr} → NeedsE x e → NeedsE x (operation n k e f)
  operation_second : {n k : ℕ} {e f : Expr} → NeedsE x f → NeedsE x (operation n k e f)
  not_part : {n : ℕ} {e : Expr} → NeedsE x e → NeedsE x (negation n e)
  if_test : {n : ℕ} {c e f : Expr} → NeedsE x c → NeedsE x (choice n c e f)
  if_yes : {n : ℕ} {c e f : Expr} → NeedsE x e → NeedsE x (choice n c e f)
  if_no : {n : ℕ} {c e f : Expr} → NeedsE x f → NeedsE x (choice n c e f)
  just_part : {n : ℕ} {e : Expr} → NeedsE x e → NeedsE x (just n e)
  take_maybe : {n t : ℕ} {m e f : Expr} → NeedsE x m → NeedsE x (taking n t m e f)
  take_absent : {n t : ℕ} {m e f : Expr} → NeedsE x e → NeedsE x (taking n t m e f)
  take_present : {n t : ℕ} {m e f : Expr} → NeedsE x f → NeedsE x (taking n t m e f)

-- ".. except that a delay needs nothing, and the events of switch and until are not counted." No rule has a delay, a switch's event or a list
-- of cases.
mutual
  pub data NeedsS (x : ℕ) : Signal → Type 0 where
    ext_part : {n : ℕ} {e : Expr} → NeedsE x e → NeedsS x (ext n e)
    let_definition : {n t : ℕ} {d b : Signal} → NeedsS x d → NeedsS x (let_signal n t d b)
    let_body : {n t : ℕ} {d b : Signal} → NeedsS x b → NeedsS x (let_signal n t d b)
    switch_first : {n k t : ℕ} {f e s : Signal} → NeedsS x f → NeedsS x (switch n k t f e s)
    switch_second : {n k t : ℕ} {f e s : Signal} → NeedsS x s → NeedsS x (switch n k t f e s)
    group_body : {n k : ℕ} {body : Signal} {brs : Branches} → NeedsS x body → NeedsS x (group n k body brs)
    group_branches : {n k : ℕ} {body : Signal} {brs : Branches} → NeedsB x brs → NeedsS x (group n k body brs)
    until_signal : {n : ℕ} {s : Signal} {cs : Cases} → NeedsS x s → NeedsS x (until n s cs)

  pub data NeedsB (x : ℕ) : Branches → Type 0 where
    branch_body : {n t : ℕ} {body : Signal} {next : Branches} → NeedsS x body → NeedsB x (branch n t body next)
    branch_next : {n t : ℕ} {body : Signal} {next : Branches} → NeedsB x next → NeedsB x (branch n t body next)

-- "A let's definition never needs the let's own variable at once": at every let of a tree.
mutual
  pub data ReadyS : Signal → Type 0 where
    input_ready : {n c : ℕ} → ReadyS (input n c)
    time_ready : {n : ℕ} → ReadyS (time n)
    ext_ready : {n : ℕ} {e : Expr} → ReadyS (ext n e)
    delay_ready : {n k : ℕ} {v : Value} {s : Signal} → ReadyS s → ReadyS (delay n k v s)
    let_ready : {n t : ℕ} {d b : Signal} → (NeedsS n d → ⊥) → ReadyS d → ReadyS b → ReadyS (let_signal n t d b)
    switch_ready : {n k t : ℕ} {f e s : Signal} → ReadyS f → ReadyS e → ReadyS s → ReadyS (switch n k t f e s)
    group_ready : {n k : ℕ} {body : Signal} {brs : Branches} → ReadyS body → ReadyB brs → ReadyS (group n k body brs)
    until_ready : {n : ℕ} {s : Signal} {cs : Cases} → ReadyS s → ReadyC cs → ReadyS (until n s cs)

  pub data ReadyB : Branches → Type 0 where
    no_branch_ready : ReadyB no_branch
    branch_ready : {n t : ℕ} {body : Signal} {next : Branches} → ReadyS body → ReadyB next → ReadyB (branch n t body next)

  pub data ReadyC : Cases → Type 0 where
    no_case_ready : ReadyC no_case
    case_ready : {n target t : ℕ} {event : Signal} {next : Cases} → ReadyS event → ReadyC next → ReadyC (case n event target t next)
