-- How a step updates, in place.
-- Assumes nothing: these are definitions.
use Rattle.std.specs.Prelude.{ℕ, eqb, if◌then◌else◌}
use Rattle.rules.specs.Bytes.{Bytes}
use Rattle.rules.specs.Layout.{held, hold, is_clear, branch_in, hold_branch, time_in, set_time, most_nodes}
use Rattle.rules.specs.Work.{nothing, ◌plus◌, Updated, Next, Jump, Halted, stays, leave, afterᵘ, ruleᵘ, ◌with◌, ◌thenᵘ◌}
use Rattle.rules.specs.Tree.{Signal, input, time, ext, delay, let_signal, switch, group, until, Branches, no_branch, branch, Cases, no_case, case, root}
use Rattle.rules.specs.Scope.{has_branch}
use Rattle.rules.specs.Evaluate.{Env, unbound, bind, opened, eval_s}
use Rattle.rules.specs.Reset.{reset_s, reset_b}
use Rattle.rules.specs.declared.Tally.{Tally}
use Rattle.rules.specs.declared.Value.{Value}
use Rattle.rules.specs.Opened.{Opened, Here, Gone, Amiss}
use Rattle.rules.specs.Evaluated.{Evaluated, Done, Stuck}
use Rattle.rules.specs.Occurrence.{Occurrence, Took, Quiet}

-- Events in list order up to the first present one.
unfoldable pub laterᵒ : Tally → Occurrence → Occurrence
laterᵒ u (Took target v w) = Took target v (u plus w)
laterᵒ u (Quiet w) = Quiet (u plus w)
laterᵒ u Occurrence.Stuck = Occurrence.Stuck

unfoldable pub occurs_if : Opened → Tally → ℕ → Occurrence → Occurrence
occurs_if (Here v) u target rest = Took target v u
occurs_if Gone u target rest = laterᵒ u rest
occurs_if Amiss u target rest = Occurrence.Stuck

unfoldable pub occurs : Evaluated → ℕ → Occurrence → Occurrence
occurs (Done event u) target rest = occurs_if (opened event) u target rest
occurs Stuck target rest = Occurrence.Stuck

unfoldable pub first_present : Bytes → Bytes → Env → Cases → Occurrence
first_present rec st env no_case = Quiet nothing
first_present rec st env (case n event target t next) =
    occurs (eval_s rec st env event) target (first_present rec st env next)

-- Where one is present the until jumps, and where none is it goes on.
unfoldable pub on_occurrence : Occurrence → Bytes → Updated → Updated
on_occurrence (Took target v u) st quiet = Jump target v st u
on_occurrence (Quiet u) st quiet = afterᵘ u quiet
on_occurrence Occurrence.Stuck st quiet = Halted

-- A jump to one of a group's branches: the group takes that branch and value, and all cells below the group go to start.
unfoldable pub caught : ℕ → Signal → Branches → Updated → Updated
caught k body brs (Next st w) = Next st w
caught k body brs (Jump target v st w) =
    if has_branch target brs then Next (reset_b brs (reset_s body (hold_branch st k target v))) w else Jump target v st w
caught k body brs Halted = Halted

-- A switch's event: caught or not.
unfoldable pub on_event : Opened → (Value → Updated) → Updated → Updated
on_event (Here v) caught quiet = caught v
on_event Gone caught quiet = quiet
on_event Amiss caught quiet = Halted

-- Input, time and ext do nothing. Delay evaluates its signal, updates it, then holds that value. Let evaluates the definition, binds, updates
-- definition, then body. Switch evaluates and updates its event; if present, it catches the value and all cells of first and second go to start,
-- else it updates the current part. Until evaluates events in list order up to the first present one; if one is present, its group takes that
-- branch and value and all cells below the group go to start; if none is, events and signal are updated. Let continue updates the current part.
-- (An until's jump goes up through let bodies, branches and groups' bodies, as the scope rule has it, to its group.)
unfoldable mutual
  pub upd_s : Bytes → Env → Signal → Bytes → Updated
  upd_s rec env (input n c) st = ruleᵘ (leave st)
  upd_s rec env (time n) st = ruleᵘ (leave st)
  upd_s rec env (ext n e) st = ruleᵘ (leave st)
  upd_s rec env (delay n k v s) st =
      ruleᵘ (eval_s rec st env s with λ w. upd_s rec env s st thenᵘ λ st₁. leave (hold st₁ k w))
  upd_s rec env (let_signal n t d b) st =
      ruleᵘ (eval_s rec st env d with λ v.
      upd_s rec (bind env n v) d st thenᵘ λ st₁.
      upd_s rec (bind env n v) b st₁)
  upd_s rec env (switch n k t x e y) st =
      ruleᵘ (eval_s rec st env e with λ event.
      upd_s rec env e st thenᵘ λ st₁.
      on_event (opened event)
      (λ v. leave (reset_s y (reset_s x (hold st₁ k v))))
      (stays (if is_clear st₁ k then upd_s rec env x st₁ else upd_s rec (bind env n (held st₁ k)) y st₁)))
  upd_s rec env (group n k body brs) st =
      ruleᵘ (caught k body brs
      (if is_clear st k then upd_s rec env body st else upd_b rec env (branch_in st k) (held st k) brs st))
  upd_s rec env (until n s cs) st =
      ruleᵘ (on_occurrence (first_present rec st env cs) st
      (upd_c rec env cs st thenᵘ λ st₁. stays (upd_s rec env s st₁)))

  pub upd_b : Bytes → Env → ℕ → Value → Branches → Bytes → Updated
  upd_b rec env which v no_branch st = Halted
  upd_b rec env which v (branch n t body next) st =
      if eqb n which then upd_s rec (bind env n v) body st else upd_b rec env which v next st

  -- The events of an until, the last of the list first. (The paper names no order, and none can be seen: their cells are apart.)
  pub upd_c : Bytes → Env → Cases → Bytes → Updated
  upd_c rec env no_case st = leave st
  upd_c rec env (case n event target t next) st = upd_c rec env next st thenᵘ λ st₁. stays (upd_s rec env event st₁)

-- A step evaluates the root (its output) and then updates it; the state's time becomes the record's.
pub data Stepped : Type 0 where
  Made : (output : Value) (st : Bytes) (w : Tally) → Stepped
  NotMade : Stepped

unfoldable pub updated : Value → Tally → Bytes → Updated → Stepped
updated v u rec (Next st w) = Made v (set_time st (time_in rec)) (u plus w)
updated v u rec (Jump target x st w) = NotMade
updated v u rec Halted = NotMade

unfoldable pub evaluated : Evaluated → (Value → Tally → Stepped) → Stepped
evaluated (Done v u) f = f v u
evaluated Stuck f = NotMade

unfoldable pub step_of : Bytes → Bytes → Bytes → Stepped
step_of p rec st =
    let env = unbound most_nodes in
    evaluated (eval_s rec st env (root p)) λ v u.
    updated v u rec (upd_s rec env (root p) st)
