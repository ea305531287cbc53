-- The inputs in a program's tree are its input nodes.
-- Assumes nothing.
use Rattle.std.specs.Prelude.{if◌then◌else◌}
use mathlib.Core.Path.{◌≡◌, refl}
use mathlib.Core.Bool.{Bool, true, false}
use Prim.Native.Nat.{ℕ, zero, suc, ◌-◌, ◌<◌, ◌≤◌}
use native.Mathlib.Omega.{arith}
use lib.Dec.{eqb, ltb}
use borrow.Author.Tests.{eqb-true, ltb-true}
use Rattle.rules.specs.Bytes.{Bytes}
use Rattle.rules.specs.Layout.{nodes, kind_at, type_at, a_at, b_at, c_at, cells_before}
use Rattle.rules.specs.Tree.{Signal, input, time, ext, delay, let_signal, switch, group, until, Branches, no_branch, branch, Cases, no_case, case, expr_at, no_expr, value_at, below, signal_as, branches_as, cases_as, no_signal, signal_f, branches_f, cases_f, signal_at, root}
use Rattle.unplugged.proofs.SameSteps.{EachS, EachB, EachC}

module _ (p : Bytes) (P : ℕ → Type 0) where
  -- Every input node up to n names a channel with the property.
  abbrev Named : ℕ → Type 0
  Named n = (i : ℕ) → i ≤ n → kind_at p i ≡ 1 → P (a_at p i)

  -- A child has it, or there is none.
  below_each : {A : Type 0} (Q : A → Type 0) (n : ℕ) (none : A) (kid : ℕ → A) → Q none → ((m : ℕ) → m < n → Q (kid m)) → (m : ℕ)
      → Q (below n none kid m)
  unfolding below
  below_each {A} Q n none kid z f m = go (ltb m n) refl
    where
      go : (b : Bool) → ltb m n ≡ b → Q (if b then kid m else none)
      go true e = f m (ltb-true m n e)
      go false e = z

  -- The signal of a kind, over its children.
  module _ (sub : ℕ → Signal) (brs : ℕ → Branches) (cs : ℕ → Cases) where
    record Over (make : (ℕ → Signal) → (ℕ → Branches) → (ℕ → Cases) → Signal) : Type 0 where
      over : EachS P (make sub brs cs)

    either : (b : Bool) {f g : (ℕ → Signal) → (ℕ → Branches) → (ℕ → Cases) → Signal} → (b ≡ true → Over f) → Over g
        → Over (if b then f else g)
    either true h o = h refl
    either false h o = o

    signal_each : (k n : ℕ) → (k ≡ 1 → P (a_at p n)) → ((m : ℕ) → EachS P (sub m)) → ((m : ℕ) → EachB P (brs m)) → ((m : ℕ) → EachC P (cs m))
        → Over (signal_as k p n)
    unfolding signal_as
    signal_each k n own f g h =
        either (eqb k 1) (λ e. record { over = own (eqb-true k 1 e) })
        (either (eqb k 3) (λ e. record { over = tt })
        (either (eqb k 4) (λ e. record { over = f _ })
        (either (eqb k 5) (λ e. record { over = (f _, f _) })
        (either (eqb k 6) (λ e. record { over = (f _, f _, f _) })
        (either (eqb k 7) (λ e. record { over = (f _, g _) })
        (either (eqb k 8) (λ e. record { over = (f _, h _) })
        (record { over = tt })))))))

  mutual
    unfolding signal_f no_signal branches_as cases_as

    signal_f_each : (f n : ℕ) → Named n → EachS P (signal_f f p n)
    signal_f_each zero n h = tt
    signal_f_each (suc f) n h =
        (signal_each _ _ _ (kind_at p n) n (λ e. h n (omega arith) e)
        (below_each (EachS P) n no_signal _ tt λ m l. signal_f_each f m λ i g. h i (omega arith))
        (below_each (EachB P) n no_branch _ tt λ m l. branches_f_each f m λ i g. h i (omega arith))
        (below_each (EachC P) n no_case _ tt λ m l. cases_f_each f m λ i g. h i (omega arith))
        ).over

    branches_f_each : (f n : ℕ) → Named n → EachB P (branches_f f p n)
    branches_f_each zero n h = tt
    branches_f_each (suc f) n h = (
      below_each (EachS P) n no_signal _ tt (λ m l. signal_f_each f m λ i g. h i (omega arith)) _,
      below_each (EachB P) n no_branch _ tt (λ m l. branches_f_each f m λ i g. h i (omega arith)) _,
    )

    cases_f_each : (f n : ℕ) → Named n → EachC P (cases_f f p n)
    cases_f_each zero n h = tt
    cases_f_each (suc f) n h = (
      below_each (EachS P) n no_signal _ tt (λ m l. signal_f_each f m λ i g. h i (omega arith)) _,
      below_each (EachC P) n no_case _ tt (λ m l. cases_f_each f m λ i g. h i (omega arith)) _,
    )

  -- A program with a node: what holds of the channel of each of its input nodes holds of each input in its tree.
  pub root_each : 0 < nodes p → ((i : ℕ) → i < nodes p → kind_at p i ≡ 1 → P (a_at p i)) → EachS P (root p)
  unfolding root signal_at
  root_each h f = signal_f_each (suc (nodes p - 1)) (nodes p - 1) λ i g. f i (omega arith)
