-- Whether a part names a variable: anywhere in it, under delays and in events too.
-- Assumes nothing: these are definitions.
use Rattle.std.specs.Prelude.{ℕ, Bool, false, eqb}
use Rattle.rules.specs.Bytes.{◌or◌}
use Rattle.rules.specs.Tree.{Expr, variable, constant, operation, negation, choice, just, taking, Signal, input, time, ext, delay, let_signal, switch, group, until, Branches, no_branch, branch, Cases, no_case, case}

-- The variable is given by its binder's number.
unfoldable pub uses_e : ℕ → Expr → Bool
uses_e x (variable n binder t) = eqb binder x
uses_e x (constant n v) = false
uses_e x (operation n k e f) = uses_e x e or uses_e x f
uses_e x (negation n e) = uses_e x e
uses_e x (choice n test e f) = uses_e x test or uses_e x e or uses_e x f
uses_e x (just n e) = uses_e x e
uses_e x (taking n t m e f) = uses_e x m or uses_e x e or uses_e x f

unfoldable mutual
  pub uses_s : ℕ → Signal → Bool
  uses_s x (input n c) = false
  uses_s x (time n) = false
  uses_s x (ext n e) = uses_e x e
  uses_s x (delay n k v s) = uses_s x s
  uses_s x (let_signal n t d b) = uses_s x d or uses_s x b
  uses_s x (switch n k t f e s) = uses_s x f or uses_s x e or uses_s x s
  uses_s x (group n k body brs) = uses_s x body or uses_b x brs
  uses_s x (until n s cs) = uses_s x s or uses_c x cs

  pub uses_b : ℕ → Branches → Bool
  uses_b x no_branch = false
  uses_b x (branch n t body next) = uses_s x body or uses_b x next

  pub uses_c : ℕ → Cases → Bool
  uses_c x no_case = false
  uses_c x (case n event target t next) = uses_s x event or uses_c x next
