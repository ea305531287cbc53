-- The smallest let that is not ready, of a list of cases and of a program.
-- Assumes nothing.
use Rattle.std.specs.Prelude.{None}
use mathlib.Core.Path.{◌≡◌, refl, ap, ◌∙◌, fun_ext}
use Prim.Native.Nat.{ℕ, zero, suc, ◌-◌, ◌<◌}
use native.Mathlib.Omega.{arith}
use lib.ListN.{get_or, replicate}
use borrow.Author.Tests.{ne_eqb}
use Rattle.rules.specs.Bytes.{Bytes}
use Rattle.rules.specs.Layout.{nodes, a_at, b_at}
use Rattle.rules.specs.Kinds.{is_signal, is_case}
use Rattle.rules.specs.Places.{sooner}
use Rattle.rules.specs.Shaped.{NodeOf}
use Rattle.rules.specs.Tree.{signal_at, cases_at, root}
use Rattle.rules.specs.Ready.{ready_s, ready_c, ready_fault}
use Rattle.rules.proofs.Signals.{case_end, case_on}
use Rattle.ready.specs.Found.{Lets, no_let, found_s}
use Rattle.ready.specs.Regions.{marked_in, Entered}
use Rattle.ready.proofs.Added.{none_s}

module _ (p : Bytes) (n : ℕ) (w : NodeOf is_case p n) where
  pub case_last_ready : b_at p n ≡ 65535 → ready_c (cases_at p n) ≡ sooner (ready_s (signal_at p (a_at p n))) None
  unfolding ready_s
  case_last_ready e = ap ready_c (case_end p n w e)

  pub case_more_ready : (b_at p n ≡ 65535 → ⊥) → ready_c (cases_at p n) ≡ sooner (ready_s (signal_at p (a_at p n))) (ready_c (cases_at p (b_at p n)))
  unfolding ready_s
  case_more_ready d = ap ready_c (case_on p n w d)

-- At the start every mark is 0.
no_mark : (n x : ℕ) → ◌≡◌ {A = ℕ} (get_or (replicate n 0) x 0) 0
no_mark zero x = refl
no_mark (suc n) zero = refl
no_mark (suc n) (suc x) = no_mark n x

-- The root is the last node, and no let is around it.
pub root_entered : (p : Bytes) (count : ℕ) → count ≡ nodes p → 0 < count → NodeOf is_signal p (count - 1) → Entered is_signal p (replicate 1008 0) count (count - 1)
root_entered p count e h w =
    record { node = w; room = refl; above = omega arith; within = omega (arith, e); new = λ x o. omega (arith, o, no_mark 1008 x) }

pub root_ready : (p : Bytes) (count : ℕ) → count ≡ nodes p → 0 < count → found_s (marked_in (replicate 1008 0) count) (signal_at p (count - 1)) ≡ ready_fault p
unfolding ready_fault root marked_in no_let
root_ready p count e h =
    ap (λ (M : Lets). found_s M (signal_at p (count - 1))) (fun_ext λ x. ne_eqb (get_or (replicate 1008 0) x 0) count (λ q. omega (arith, q, no_mark 1008 x)))
    ∙ none_s _
    ∙ ap (λ (k : ℕ). ready_s (signal_at p (k - 1))) e
