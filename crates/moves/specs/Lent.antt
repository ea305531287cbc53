-- What a recursion that updates carries: a node, the memory that is lent, and that no count is too large.
-- Assumes nothing: these are definitions.
use Rattle.std.specs.Prelude.{◌≡◌, List, ℕ, ◌+◌, ◌≤◌, ◌<◌, length, get_or}
use Rattle.rules.specs.Bytes.{Bytes}
use Rattle.rules.specs.Layout.{kind_at, cell_at, state_length}
use Rattle.rules.specs.Kinds.{is_signal, is_case}
use Rattle.rules.specs.Node.{IsNode}
use Rattle.rules.specs.Shaped.{NodeOf}
use Rattle.rules.specs.Tree.{signal_at, cases_at}
use Rattle.rules.specs.Bound.{bound_sc, bound_u, bound_uc}
use Rattle.rules.specs.Size.{size_s, size_c}
use Rattle.rules.specs.Evaluate.{Env}
use Rattle.rules.specs.declared.Node.{Node}
use Rattle.cells.specs.Indexed.{Indexed}
use Rattle.outcomes.specs.Outcome.{Slots}

-- The table of the cells' numbers, a state of s bytes, and slots that hold values of variables.
pub record Lent (p : Bytes) (index : List ℕ) (s : ℕ) (env : Env) : Type 0 where
  pub table : Indexed p index
  pub cells : state_length p ≤ s
  pub slots : Slots env

-- The cell of node i is in the table and in a state of s bytes.
pub record Celled (index : List ℕ) (s i : ℕ) : Type 0 where
  pub listed : i < length index
  pub room : cell_at (get_or index i 0) + 8 ≤ s

-- To update signal i.
pub record Ready (p : Bytes) (index : List ℕ) (s : ℕ) (env : Env) (i : ℕ) : Type 0 where
  pub node : NodeOf is_signal p i
  pub lent : Lent p index s env
  pub small : bound_u (signal_at p i) < 524288
  pub few : size_s (signal_at p i) ≤ 1008

-- To update signal i, of kind k, whose fields are n.
pub record ReadyAs (k : ℕ) (p : Bytes) (index : List ℕ) (s : ℕ) (env : Env) (i : ℕ) (n : Node) : Type 0 where
  pub ready : Ready p index s env i
  pub fields : IsNode p i n
  pub kind : kind_at p i ≡ k

-- To store in the cells of signal i, of kind k, whose fields are n.
pub record Placed (k : ℕ) (p : Bytes) (index : List ℕ) (s i : ℕ) (n : Node) : Type 0 where
  pub node : NodeOf is_signal p i
  pub table : Indexed p index
  pub cells : state_length p ≤ s
  pub fields : IsNode p i n
  pub kind : kind_at p i ≡ k

-- To walk the cases from case j on.
pub record ReadyC (p : Bytes) (index : List ℕ) (s : ℕ) (env : Env) (j : ℕ) : Type 0 where
  pub node : NodeOf is_case p j
  pub lent : Lent p index s env
  pub small : bound_sc (cases_at p j) + bound_uc (cases_at p j) < 524288
  pub few : size_c (cases_at p j) ≤ 1008

-- The same, of a case whose fields are n.
pub record CaseAs (p : Bytes) (index : List ℕ) (s : ℕ) (env : Env) (j : ℕ) (n : Node) : Type 0 where
  pub ready : ReadyC p index s env j
  pub fields : IsNode p j n
