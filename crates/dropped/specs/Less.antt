-- A new tree is an old one with some lets dropped for their bodies, and its nodes renumbered: π gives each new node its old one.
-- Assumes nothing: these are definitions.
use Rattle.std.specs.Prelude.{◌≡◌, ℕ}
use Rattle.rules.specs.Tree.{Expr, variable, constant, operation, negation, choice, just, taking, Signal, input, time, ext, delay, let_signal, switch, group, until, Branches, no_branch, branch, Cases, no_case, case}
use Rattle.rules.specs.declared.Value.{Value}

-- Expressions: the same but for the numbers. A variable's binder is paired with the old binder.
pub data LessE (π : ℕ → ℕ) : Expr → Expr → Type 0 where
  variables : {n n' b b' t : ℕ} → n ≡ π n' → b ≡ π b' → LessE π (variable n b t) (variable n' b' t)
  constants : {n n' : ℕ} {v : Value} → n ≡ π n' → LessE π (constant n v) (constant n' v)
  operations : {n n' k : ℕ} {x y x' y' : Expr} → n ≡ π n' → LessE π x x' → LessE π y y' → LessE π (operation n k x y) (operation n' k x' y')
  negations : {n n' : ℕ} {x x' : Expr} → n ≡ π n' → LessE π x x' → LessE π (negation n x) (negation n' x')
  choices : {n n' : ℕ} {c x y c' x' y' : Expr} → n ≡ π n' → LessE π c c' → LessE π x x' → LessE π y y'
      → LessE π (choice n c x y) (choice n' c' x' y')
  justs : {n n' : ℕ} {x x' : Expr} → n ≡ π n' → LessE π x x' → LessE π (just n x) (just n' x')
  takings : {n n' t : ℕ} {m x y m' x' y' : Expr} → n ≡ π n' → LessE π m m' → LessE π x x' → LessE π y y'
      → LessE π (taking n t m x y) (taking n' t m' x' y')

-- Signals: the same but for the numbers, or a let is dropped for its body. A case's target is paired with the old target.
mutual
  pub data LessS (π : ℕ → ℕ) : Signal → Signal → Type 0 where
    inputs : {n n' c : ℕ} → n ≡ π n' → LessS π (input n c) (input n' c)
    times : {n n' : ℕ} → n ≡ π n' → LessS π (time n) (time n')
    exts : {n n' : ℕ} {e e' : Expr} → n ≡ π n' → LessE π e e' → LessS π (ext n e) (ext n' e')
    delays : {n n' k k' : ℕ} {v : Value} {s s' : Signal} → n ≡ π n' → LessS π s s' → LessS π (delay n k v s) (delay n' k' v s')
    lets : {n n' t : ℕ} {d b d' b' : Signal} → n ≡ π n' → LessS π d d' → LessS π b b'
        → LessS π (let_signal n t d b) (let_signal n' t d' b')
    dropped : {n t : ℕ} {d b s' : Signal} → LessS π b s' → LessS π (let_signal n t d b) s'
    switches : {n n' k k' t : ℕ} {x e y x' e' y' : Signal} → n ≡ π n' → LessS π x x' → LessS π e e' → LessS π y y'
        → LessS π (switch n k t x e y) (switch n' k' t x' e' y')
    groups : {n n' k k' : ℕ} {body body' : Signal} {brs brs' : Branches} → n ≡ π n' → LessS π body body' → LessB π brs brs'
        → LessS π (group n k body brs) (group n' k' body' brs')
    untils : {n n' : ℕ} {s s' : Signal} {cs cs' : Cases} → n ≡ π n' → LessS π s s' → LessC π cs cs' → LessS π (until n s cs) (until n' s' cs')

  pub data LessB (π : ℕ → ℕ) : Branches → Branches → Type 0 where
    no_branches : LessB π no_branch no_branch
    branches : {n n' t : ℕ} {body body' : Signal} {next next' : Branches} → n ≡ π n' → LessS π body body' → LessB π next next'
        → LessB π (branch n t body next) (branch n' t body' next')

  pub data LessC (π : ℕ → ℕ) : Cases → Cases → Type 0 where
    no_cases : LessC π no_case no_case
    cases : {n n' target target' t : ℕ} {event event' : Signal} {next next' : Cases} → n ≡ π n' → target ≡ π target'
        → LessS π event event' → LessC π next next' → LessC π (case n event target t next) (case n' event' target' t next')
