-- The rule of requests m and n: a let whose body does not name its variable is replaced by that body; some such lets, one after the other.
-- Assumes nothing: these are definitions.
use Rattle.std.specs.Prelude.{◌≡◌, false, ℕ}
use Rattle.rules.specs.Bytes.{Bytes}
use Rattle.rules.specs.Tree.{Expr, variable, constant, operation, negation, choice, just, taking, Signal, input, time, ext, delay, let_signal, switch, group, until, Branches, no_branch, branch, Cases, no_case, case, root}
use Rattle.rules.specs.declared.Value.{Value}
use Rattle.dropped.specs.Uses.{uses_s}

-- One unused let is dropped, at the top or in a part.
mutual
  pub data DropS : Signal → Signal → Type 0 where
    here : {n t : ℕ} {d b : Signal} → uses_s n b ≡ false → DropS (let_signal n t d b) b
    in_delay : {n k : ℕ} {v : Value} {s s₁ : Signal} → DropS s s₁ → DropS (delay n k v s) (delay n k v s₁)
    in_definition : {n t : ℕ} {d d₁ b : Signal} → DropS d d₁ → DropS (let_signal n t d b) (let_signal n t d₁ b)
    in_let : {n t : ℕ} {d b b₁ : Signal} → DropS b b₁ → DropS (let_signal n t d b) (let_signal n t d b₁)
    in_first : {n k t : ℕ} {x x₁ e y : Signal} → DropS x x₁ → DropS (switch n k t x e y) (switch n k t x₁ e y)
    in_event : {n k t : ℕ} {x e e₁ y : Signal} → DropS e e₁ → DropS (switch n k t x e y) (switch n k t x e₁ y)
    in_second : {n k t : ℕ} {x e y y₁ : Signal} → DropS y y₁ → DropS (switch n k t x e y) (switch n k t x e y₁)
    in_group : {n k : ℕ} {b b₁ : Signal} {brs : Branches} → DropS b b₁ → DropS (group n k b brs) (group n k b₁ brs)
    in_branches : {n k : ℕ} {b : Signal} {brs brs₁ : Branches} → DropB brs brs₁ → DropS (group n k b brs) (group n k b brs₁)
    in_until : {n : ℕ} {s s₁ : Signal} {cs : Cases} → DropS s s₁ → DropS (until n s cs) (until n s₁ cs)
    in_cases : {n : ℕ} {s : Signal} {cs cs₁ : Cases} → DropC cs cs₁ → DropS (until n s cs) (until n s cs₁)

  pub data DropB : Branches → Branches → Type 0 where
    in_branch : {n t : ℕ} {b b₁ : Signal} {brs : Branches} → DropS b b₁ → DropB (branch n t b brs) (branch n t b₁ brs)
    later_branch : {n t : ℕ} {b : Signal} {brs brs₁ : Branches} → DropB brs brs₁ → DropB (branch n t b brs) (branch n t b brs₁)

  pub data DropC : Cases → Cases → Type 0 where
    in_case : {n target t : ℕ} {e e₁ : Signal} {cs : Cases} → DropS e e₁ → DropC (case n e target t cs) (case n e₁ target t cs)
    later_case : {n target t : ℕ} {e : Signal} {cs cs₁ : Cases} → DropC cs cs₁ → DropC (case n e target t cs) (case n e target t cs₁)

-- Some, one after the other.
pub data Some (A : Type 0) (R : A → A → Type 0) : A → A → Type 0 where
  none : {s : A} → Some A R s s
  one : {s s₁ s₂ : A} → R s s₁ → Some A R s₁ s₂ → Some A R s s₂

abbrev pub DropsS : Signal → Signal → Type 0
DropsS s s₁ = Some Signal DropS s s₁

-- None is left.
pub record Tidy (s : Signal) : Type 0 where
  pub none_left : (s₁ : Signal) → DropS s s₁ → ⊥

-- The same tree but for its numbers: π gives each new node its old one; a variable's binder and a case's target are paired with the old ones.
-- (Cells are numbered by the nodes, and are not looked at.)
pub data NamedE (π : ℕ → ℕ) : Expr → Expr → Type 0 where
  variables : {n n' b b' t : ℕ} → n ≡ π n' → b ≡ π b' → NamedE π (variable n b t) (variable n' b' t)
  constants : {n n' : ℕ} {v : Value} → n ≡ π n' → NamedE π (constant n v) (constant n' v)
  operations : {n n' k : ℕ} {x y x' y' : Expr} → n ≡ π n' → NamedE π x x' → NamedE π y y' → NamedE π (operation n k x y) (operation n' k x' y')
  negations : {n n' : ℕ} {x x' : Expr} → n ≡ π n' → NamedE π x x' → NamedE π (negation n x) (negation n' x')
  choices : {n n' : ℕ} {c x y c' x' y' : Expr} → n ≡ π n' → NamedE π c c' → NamedE π x x' → NamedE π y y'
      → NamedE π (choice n c x y) (choice n' c' x' y')
  justs : {n n' : ℕ} {x x' : Expr} → n ≡ π n' → NamedE π x x' → NamedE π (just n x) (just n' x')
  takings : {n n' t : ℕ} {m x y m' x' y' : Expr} → n ≡ π n' → NamedE π m m' → NamedE π x x' → NamedE π y y'
      → NamedE π (taking n t m x y) (taking n' t m' x' y')

mutual
  pub data NamedS (π : ℕ → ℕ) : Signal → Signal → Type 0 where
    inputs : {n n' c : ℕ} → n ≡ π n' → NamedS π (input n c) (input n' c)
    times : {n n' : ℕ} → n ≡ π n' → NamedS π (time n) (time n')
    exts : {n n' : ℕ} {e e' : Expr} → n ≡ π n' → NamedE π e e' → NamedS π (ext n e) (ext n' e')
    delays : {n n' k k' : ℕ} {v : Value} {s s' : Signal} → n ≡ π n' → NamedS π s s' → NamedS π (delay n k v s) (delay n' k' v s')
    lets : {n n' t : ℕ} {d b d' b' : Signal} → n ≡ π n' → NamedS π d d' → NamedS π b b' → NamedS π (let_signal n t d b) (let_signal n' t d' b')
    switches : {n n' k k' t : ℕ} {x e y x' e' y' : Signal} → n ≡ π n' → NamedS π x x' → NamedS π e e' → NamedS π y y'
        → NamedS π (switch n k t x e y) (switch n' k' t x' e' y')
    groups : {n n' k k' : ℕ} {body body' : Signal} {brs brs' : Branches} → n ≡ π n' → NamedS π body body' → NamedB π brs brs'
        → NamedS π (group n k body brs) (group n' k' body' brs')
    untils : {n n' : ℕ} {s s' : Signal} {cs cs' : Cases} → n ≡ π n' → NamedS π s s' → NamedC π cs cs' → NamedS π (until n s cs) (until n' s' cs')

  pub data NamedB (π : ℕ → ℕ) : Branches → Branches → Type 0 where
    no_branches : NamedB π no_branch no_branch
    branches : {n n' t : ℕ} {body body' : Signal} {next next' : Branches} → n ≡ π n' → NamedS π body body' → NamedB π next next'
        → NamedB π (branch n t body next) (branch n' t body' next')

  pub data NamedC (π : ℕ → ℕ) : Cases → Cases → Type 0 where
    no_cases : NamedC π no_case no_case
    cases : {n n' target target' t : ℕ} {event event' : Signal} {next next' : Cases} → n ≡ π n' → target ≡ π target'
        → NamedS π event event' → NamedC π next next' → NamedC π (case n event target t next) (case n' event' target' t next')

-- New is old with some set of unused lets dropped, taken one after the other, and the nodes renumbered as the pairing says.
pub record Rule (p q : Bytes) (π : ℕ → ℕ) : Type 0 where
  pub between : Signal
  pub drops : DropsS (root p) between
  pub named : NamedS π between (root q)
