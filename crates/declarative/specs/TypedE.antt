-- The typing rules of expressions: Γ ⊢ e : g, written TypedE Γ e g. Document 000's figure 1 types functional terms by the λ-calculus's rules;
-- the rules here are document 01's sentences ("Types"), one for each kind.
-- Assumes nothing: these are definitions.
use Rattle.std.specs.Prelude.{◌≡◌, true, ℕ, ◌≤◌}
use Rattle.rules.specs.Values.{bool_t, int_t, maybe_of, is_plain, type_of}
use Rattle.rules.specs.Tree.{Expr, variable, constant, operation, negation, choice, just, taking}
use Rattle.rules.specs.declared.Value.{Value}
use Rattle.declarative.specs.Contexts.{Context, with, Has}

-- "Kinds 18-21 take ints and 18-20 give int; 22 and 23 give bool [and take ints]; 24-26 take and give bool. Divide gives maybe int."
-- Takes k g h: the operation of kind k takes two operands of type g and gives type h.
pub data Takes : ℕ → ℕ → ℕ → Type 0 where
  number : {k : ℕ} → 18 ≤ k → k ≤ 20 → Takes k int_t int_t
  quotient : Takes 21 int_t (maybe_of int_t)
  comparison : {k : ℕ} → 22 ≤ k → k ≤ 23 → Takes k int_t bool_t
  logical : {k : ℕ} → 25 ≤ k → k ≤ 26 → Takes k bool_t bool_t

pub data TypedE : Context → Expr → ℕ → Type 0 where
  --  Γ(x) = g
  -- ───────────   "a variable has its binder's declared type"
  --  Γ ⊢ x : g
  tp_variable : {Γ : Context} {n x t g : ℕ} → Has x g Γ → TypedE Γ (variable n x t) g
  -- ────────────────────
  --  Γ ⊢ v : the type of v
  tp_constant : {Γ : Context} {n : ℕ} {v : Value} → TypedE Γ (constant n v) (type_of v)
  --  Γ ⊢ e₁ : g    Γ ⊢ e₂ : g
  -- ──────────────────────────  op takes g and gives h
  --  Γ ⊢ e₁ op e₂ : h
  tp_operation : {Γ : Context} {n k g h : ℕ} {x y : Expr} → Takes k g h → TypedE Γ x g → TypedE Γ y g → TypedE Γ (operation n k x y) h
  --  Γ ⊢ e : bool
  -- ──────────────────
  --  Γ ⊢ not e : bool
  tp_not : {Γ : Context} {n : ℕ} {x : Expr} → TypedE Γ x bool_t → TypedE Γ (negation n x) bool_t
  --  Γ ⊢ e : bool    Γ ⊢ e₁ : g    Γ ⊢ e₂ : g
  -- ──────────────────────────────────────────   "the arms of if have one type, which is the node's"
  --  Γ ⊢ if e then e₁ else e₂ : g
  tp_if : {Γ : Context} {n g : ℕ} {c x y : Expr} → TypedE Γ c bool_t → TypedE Γ x g → TypedE Γ y g → TypedE Γ (choice n c x y) g
  --  Γ ⊢ e : g
  -- ─────────────  g plain: "just takes a plain type"
  --  Γ ⊢ e⊥ : g⊥
  tp_just : {Γ : Context} {n g : ℕ} {x : Expr} → is_plain g ≡ true → TypedE Γ x g → TypedE Γ (just n x) (maybe_of g)
  --  Γ ⊢ e : g⊥    Γ ⊢ e₁ : h    Γ, x : g ⊢ e₂ : h
  -- ────────────────────────────────────────────────   "take's a is maybe of its variable's type"
  --  Γ ⊢ take x : g = e in e₁, e₂ : h
  tp_take : {Γ : Context} {n g h : ℕ} {m x y : Expr} → TypedE Γ m (maybe_of g) → TypedE Γ x h → TypedE (with Γ n g) y h
      → TypedE Γ (taking n g m x y) h
