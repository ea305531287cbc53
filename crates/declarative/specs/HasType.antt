-- Types over the table of nodes, as document 01 says them ("Types"): code 7, each node's own rule.
-- Assumes nothing: these are definitions.
use Rattle.std.specs.Prelude.{◌≡◌, ℕ, ◌<◌}
use Rattle.rules.specs.Bytes.{Bytes}
use Rattle.rules.specs.Values.{bool_t, int_t, maybe_of}
use Rattle.rules.specs.Layout.{nodes, kind_at, type_at, a_at, b_at, c_at, channel_type}
use Rattle.declarative.specs.Formats.{IsPlain}
use Rattle.declarative.specs.TypedE.{Takes}
use Rattle.declarative.specs.WayUp.{BranchOf}

-- HasType p n t: node n, a signal or an expression, has type t.
pub data HasType (p : Bytes) : ℕ → ℕ → Type 0 where
  input_type : {n t : ℕ} → kind_at p n ≡ 1 → channel_type (a_at p n) ≡ t → HasType p n t
  time_type : {n t : ℕ} → kind_at p n ≡ 2 → int_t ≡ t → HasType p n t
  -- "Ext, let, let continue, switch, delay and until have that of their expression, body, first or signal."
  ext_type : {n t : ℕ} → kind_at p n ≡ 3 → HasType p (a_at p n) t → HasType p n t
  delay_type : {n t : ℕ} → kind_at p n ≡ 4 → HasType p (a_at p n) t → HasType p n t
  let_type : {n t : ℕ} → kind_at p n ≡ 5 → HasType p (b_at p n) t → HasType p n t
  switch_type : {n t : ℕ} → kind_at p n ≡ 6 → HasType p (a_at p n) t → HasType p n t
  group_type : {n t : ℕ} → kind_at p n ≡ 7 → HasType p (a_at p n) t → HasType p n t
  until_type : {n t : ℕ} → kind_at p n ≡ 8 → HasType p (a_at p n) t → HasType p n t
  -- "A variable has its binder's declared type."
  variable_type : {n t : ℕ} → kind_at p n ≡ 16 → type_at p (a_at p n) ≡ t → HasType p n t
  constant_type : {n t : ℕ} → kind_at p n ≡ 17 → type_at p n ≡ t → HasType p n t
  -- "18-20 give int; 22 and 23 give bool; 24-26 give bool. Divide gives maybe int."
  operation_type : {n g t : ℕ} → Takes (kind_at p n) g t → HasType p n t
  not_type : {n t : ℕ} → kind_at p n ≡ 24 → bool_t ≡ t → HasType p n t
  -- "The arms of if and of take have one type, which is the node's."
  if_type : {n t : ℕ} → kind_at p n ≡ 27 → HasType p (b_at p n) t → HasType p n t
  just_typed : {n g t : ℕ} → kind_at p n ≡ 28 → HasType p (a_at p n) g → IsPlain g → maybe_of g ≡ t → HasType p n t
  take_type : {n t : ℕ} → kind_at p n ≡ 29 → HasType p (b_at p n) t → HasType p n t

-- Two nodes have one type.
pub record OneType (p : Bytes) (m n : ℕ) : Type 0 where
  pub type : ℕ
  pub one : HasType p m type
  pub other : HasType p n type

-- A node has a plain type.
pub record PlainType (p : Bytes) (n : ℕ) : Type 0 where
  pub type : ℕ
  pub has : HasType p n type
  pub plain : IsPlain type

-- Node n's own rule: "The fault is at the node whose own rule breaks."
pub record OwnTypeRight (p : Bytes) (n : ℕ) : Type 0 where
  -- "Kinds 18-21 take ints, [22 and 23 too]; 24-26 take bool."
  pub operation : (g h : ℕ) → Takes (kind_at p n) g h → HasType p (a_at p n) g × HasType p (b_at p n) g
  pub negation : kind_at p n ≡ 24 → HasType p (a_at p n) bool_t
  -- "If takes a bool; the arms of if and of take have one type."
  pub choice : kind_at p n ≡ 27 → HasType p (a_at p n) bool_t × OneType p (b_at p n) (c_at p n)
  -- "Just takes a plain type; take's a is maybe of its variable's type."
  pub just : kind_at p n ≡ 28 → PlainType p (a_at p n)
  pub taking : kind_at p n ≡ 29 → HasType p (a_at p n) (maybe_of (type_at p n)) × OneType p (b_at p n) (c_at p n)
  -- "Delay's signal has the first value's type." "A let's definition has its declared type."
  pub delay : kind_at p n ≡ 4 → HasType p (a_at p n) (type_at p n)
  pub definition : kind_at p n ≡ 5 → HasType p (a_at p n) (type_at p n)
  -- "A switch's event is maybe of its variable's type, and first and second have one type."
  pub switch : kind_at p n ≡ 6 → HasType p (b_at p n) (maybe_of (type_at p n)) × OneType p (a_at p n) (c_at p n)
  -- "All bodies of a group have one type (fault: at its let continue)."
  pub group : kind_at p n ≡ 7 → (k : ℕ) → BranchOf p k (b_at p n) → OneType p (a_at p n) (a_at p k)
  -- "A case's event is maybe of its target's argument type."
  pub case : kind_at p n ≡ 10 → HasType p (a_at p n) (maybe_of (type_at p (c_at p n)))

-- Code 7: every node keeps its own rule.
pub record TypesRight (p : Bytes) : Type 0 where
  pub each : (n : ℕ) → n < nodes p → OwnTypeRight p n
