-- Scope by the way up, as document 01 says it, over the table of nodes: code 6.
-- Assumes nothing: these are definitions.
use Rattle.std.specs.Prelude.{◌≡◌, true, ℕ, ◌<◌}
use Rattle.rules.specs.Bytes.{Bytes}
use Rattle.rules.specs.Layout.{edition, nodes, kind_at, a_at, b_at, c_at, no_next}
use Rattle.rules.specs.Kinds.{fields_of}
use Rattle.rules.specs.Shape.{is_child}

-- Node m is above node n: one of m's fields names n as a child. (In a table whose shape is right there is one such m for each n but the
-- last.)
pub data Above (p : Bytes) (m n : ℕ) : Type 0 where
  by_a : is_child (fields_of (kind_at p m)).a ≡ true → a_at p m ≡ n → Above p m n
  by_b : is_child (fields_of (kind_at p m)).b ≡ true → b_at p m ≡ n → Above p m n
  by_c : is_child (fields_of (kind_at p m)).c ≡ true → c_at p m ≡ n → Above p m n

-- "The way up enters a let by either part, a switch by its second, a branch by its body, a take by its present arm": from part n it enters the
-- binder m.
pub data Binds (p : Bytes) (m n : ℕ) : Type 0 where
  let_definition : kind_at p m ≡ 5 → a_at p m ≡ n → Binds p m n
  let_body : kind_at p m ≡ 5 → b_at p m ≡ n → Binds p m n
  switch_second : kind_at p m ≡ 6 → c_at p m ≡ n → Binds p m n
  branch_body : kind_at p m ≡ 9 → a_at p m ≡ n → Binds p m n
  take_present : kind_at p m ≡ 29 → c_at p m ≡ n → Binds p m n

-- "A variable's binder is above it": the way up from node n comes to the binder x, so entered.
pub data Sees (p : Bytes) (x : ℕ) : ℕ → Type 0 where
  enters : {n : ℕ} → x < nodes p → Binds p x n → Sees p x n
  goes_up : {n : ℕ} (m : ℕ) → m < nodes p → Above p m n → Sees p x m → Sees p x n

-- "From a case, go up to its until": the way up from case n, along the list of cases, comes to the until u.
pub data UntilOf (p : Bytes) (u : ℕ) : ℕ → Type 0 where
  first_case : {n : ℕ} → u < nodes p → kind_at p u ≡ 8 → b_at p u ≡ n → UntilOf p u n
  later_case : {n : ℕ} (m : ℕ) → m < nodes p → kind_at p m ≡ 10 → b_at p m ≡ n → UntilOf p u m → UntilOf p u n

-- ".. then only through let bodies, let continue bodies, branch bodies and branch lists": from part n to m.
pub data Passes (p : Bytes) (m n : ℕ) : Type 0 where
  by_let_body : kind_at p m ≡ 5 → b_at p m ≡ n → Passes p m n
  by_branch_body : kind_at p m ≡ 9 → a_at p m ≡ n → Passes p m n
  by_branch_list : kind_at p m ≡ 9 → b_at p m ≡ n → Passes p m n

-- The last step: from a let continue's body or its list of branches, part n, to the let continue g.
pub data Arrives (p : Bytes) (g n : ℕ) : Type 0 where
  by_group_body : kind_at p g ≡ 7 → a_at p g ≡ n → Arrives p g n
  by_group_branches : kind_at p g ≡ 7 → b_at p g ≡ n → Arrives p g n

-- ".. to the first let continue": the way up from n comes to the group g. In edition two it "may pass on through an inner let continue's body or
-- branches, and any group met is allowed".
pub data GroupOf (p : Bytes) (g : ℕ) : ℕ → Type 0 where
  arrives : {n : ℕ} → g < nodes p → Arrives p g n → GroupOf p g n
  passes : {n : ℕ} (m : ℕ) → m < nodes p → Passes p m n → GroupOf p g m → GroupOf p g n
  passes_on : {n : ℕ} (m : ℕ) → m < nodes p → 0 < edition p → Arrives p m n → GroupOf p g m → GroupOf p g n

-- Node k is a branch of the list that begins with branch n.
pub data BranchOf (p : Bytes) (k : ℕ) : ℕ → Type 0 where
  this : BranchOf p k k
  later : {n : ℕ} → (b_at p n ≡ no_next → ⊥) → BranchOf p k (b_at p n) → BranchOf p k n

-- ".. the target is a branch of that group."
pub record TargetRight (p : Bytes) (n k : ℕ) : Type 0 where
  pub until₀ : ℕ
  pub group₀ : ℕ
  pub its_until : UntilOf p until₀ n
  pub its_group : GroupOf p group₀ until₀
  pub its_branch : BranchOf p k (b_at p group₀)

-- Node n's own rule: a variable (its a is its binder) and a case (its c is its target) are in scope.
pub record ScopeRight (p : Bytes) (n : ℕ) : Type 0 where
  pub variable : kind_at p n ≡ 16 → Sees p (a_at p n) n
  pub case : kind_at p n ≡ 10 → TargetRight p n (c_at p n)

-- Code 6: every variable and every case.
pub record InScope (p : Bytes) : Type 0 where
  pub each : (n : ℕ) → n < nodes p → ScopeRight p n
