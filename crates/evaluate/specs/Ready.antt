-- What an evaluation carries: a node, the table by node number, slots that hold values, and a tree whose bound is small, so that a count fits in two bytes.
-- Assumes nothing: these are definitions.
use Rattle.std.specs.Prelude.{ℕ, ◌≤◌, ◌<◌, List, length}
use Rattle.rules.specs.Bytes.{Bytes}
use Rattle.rules.specs.Layout.{kind_at, state_length}
use Rattle.rules.specs.Kinds.{is_expression, is_signal}
use Rattle.rules.specs.Tree.{expr_at, signal_at}
use Rattle.rules.specs.Bound.{bound_e, bound_s}
use Rattle.rules.specs.Evaluate.{Env}
use Rattle.rules.specs.Shaped.{NodeOf}
use Rattle.cells.specs.Indexed.{Indexed}
use Rattle.outcomes.specs.Outcome.{Slots}

pub record ReadyE (p : Bytes) (index : List ℕ) (env : Env) (i : ℕ) : Type 0 where
  pub node : NodeOf is_expression p i
  pub indexed : Indexed p index
  pub slots : Slots env
  pub small : bound_e (expr_at p i) < 32767

-- For an input, time or ext.
pub record ReadyO (p : Bytes) (index : List ℕ) (env : Env) (i : ℕ) : Type 0 where
  pub node : NodeOf is_signal p i
  pub indexed : Indexed p index
  pub slots : Slots env
  pub small : bound_s (signal_at p i) < 32767
  pub low : kind_at p i ≤ 3

-- For a signal also a state with room for the cells.
pub record ReadyS (p : Bytes) (index : List ℕ) (st : Bytes) (env : Env) (i : ℕ) : Type 0 where
  pub node : NodeOf is_signal p i
  pub indexed : Indexed p index
  pub state : state_length p ≤ length st
  pub slots : Slots env
  pub small : bound_s (signal_at p i) < 32767
