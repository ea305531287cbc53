-- The update of the rules, but that a switch and a group that are entered anew put only their current part to start: in a well-formed state
-- the cells of the other parts hold their start content already. (proofs/SameUpdate: for an accepted program in a well-formed state both
-- updates are the same.)
-- Assumes nothing: these are definitions.
use Rattle.std.specs.Prelude.{ℕ, eqb, ltb, if◌then◌else◌}
use Rattle.rules.specs.Bytes.{Bytes}
use Rattle.rules.specs.Layout.{held, hold, is_clear, branch_in, hold_branch}
use Rattle.rules.specs.Work.{nothing, Updated, Next, Jump, Halted, stays, leave, ruleᵘ, ◌with◌, ◌thenᵘ◌}
use Rattle.rules.specs.Tree.{Signal, input, time, ext, delay, let_signal, switch, group, until, Branches, no_branch, branch, Cases, no_case, case}
use Rattle.rules.specs.Scope.{has_branch}
use Rattle.rules.specs.Evaluate.{Env, bind, opened, eval_s}
use Rattle.rules.specs.Reset.{reset_s}
use Rattle.rules.specs.Update.{occurs, on_occurrence, on_event}
use Rattle.rules.specs.declared.Value.{Value}
use Rattle.rules.specs.Occurrence.{Occurrence, Quiet}

-- A target as a number of 10 bits: 1,023, which no branch has, stands for every number from there on.
unfoldable pub shortly : ℕ → ℕ
shortly target = if ltb target 1023 then target else 1023

-- The events of an until in list order up to the first present one, with such targets.
unfoldable pub soonest : Bytes → Bytes → Env → Cases → Occurrence
soonest rec st env no_case = Quiet nothing
soonest rec st env (case n event target t next) =
    occurs (eval_s rec st env event) (shortly target) (soonest rec st env next)

-- A jump out of a group's part to one of its branches: the group takes that branch and value, and the part that is left goes to start.
unfoldable pub leaves : ℕ → Signal → Branches → Updated → Updated
leaves k part brs (Next st w) = Next st w
leaves k part brs (Jump target v st w) =
    if has_branch target brs then Next (reset_s part (hold_branch st k target v)) w else Jump target v st w
leaves k part brs Halted = Halted

-- A switch that catches a value: the part that is left goes to start, first until it had switched, then second.
unfoldable pub swapped : ℕ → Signal → Signal → Bytes → Value → Bytes
swapped k x y st v = if is_clear st k then reset_s x (hold st k v) else reset_s y (hold st k v)

unfoldable mutual
  pub go_s : Bytes → Env → Signal → Bytes → Updated
  go_s rec env (input n c) st = ruleᵘ (leave st)
  go_s rec env (time n) st = ruleᵘ (leave st)
  go_s rec env (ext n e) st = ruleᵘ (leave st)
  go_s rec env (delay n k v s) st =
      ruleᵘ (eval_s rec st env s with λ w. go_s rec env s st thenᵘ λ st₁. leave (hold st₁ k w))
  go_s rec env (let_signal n t d b) st =
      ruleᵘ (eval_s rec st env d with λ v.
      go_s rec (bind env n v) d st thenᵘ λ st₁.
      go_s rec (bind env n v) b st₁)
  go_s rec env (switch n k t x e y) st =
      ruleᵘ (eval_s rec st env e with λ event.
      go_s rec env e st thenᵘ λ st₁.
      on_event (opened event)
      (λ v. leave (swapped k x y st₁ v))
      (stays (if is_clear st₁ k then go_s rec env x st₁ else go_s rec (bind env n (held st₁ k)) y st₁)))
  go_s rec env (group n k body brs) st =
      ruleᵘ (if is_clear st k then leaves k body brs (go_s rec env body st) else go_b rec env k (branch_in st k) (held st k) brs brs st)
  go_s rec env (until n s cs) st =
      ruleᵘ (on_occurrence (soonest rec st env cs) st
      (go_c rec env cs st thenᵘ λ st₁. stays (go_s rec env s st₁)))

  -- The branch that the group's cell k names, out of all of the group's.
  pub go_b : Bytes → Env → ℕ → ℕ → Value → Branches → Branches → Bytes → Updated
  go_b rec env k which v all no_branch st = Halted
  go_b rec env k which v all (branch n t body next) st =
      if eqb n which then leaves k body all (go_s rec (bind env n v) body st) else go_b rec env k which v all next st

  -- The events of an until, the last of the list first.
  pub go_c : Bytes → Env → Cases → Bytes → Updated
  go_c rec env no_case st = leave st
  go_c rec env (case n event target t next) st = go_c rec env next st thenᵘ λ st₁. stays (go_s rec env event st₁)
