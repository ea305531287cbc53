-- Below a bound the definition finds no fault of scope exactly when every variable and every case there is in scope by the way up.
-- Assumes nothing.
use mathlib.Core.Path.{◌≡◌, refl, ap}
use mathlib.Core.List.{[]}
use mathlib.Core.Bool.{false}
use Prim.Native.Nat.{ℕ, zero, suc, ◌-◌, ◌<◌}
use native.Mathlib.Omega.{arith}
use lib.Dec.{eqb}
use lib.ListN.{length, get_or, replicate, length-replicate}
use Rattle.rules.specs.Bytes.{Bytes}
use Rattle.rules.specs.Layout.{most_nodes, nodes}
use Rattle.rules.specs.Kinds.{is_signal}
use Rattle.rules.specs.Shaped.{NodeOf}
use Rattle.rules.specs.Tree.{root}
use Rattle.rules.specs.Scope.{is_marked, unmarked, scope_fault}
use Rattle.declarative.specs.Shapes.{WellShaped}
use Rattle.declarative.specs.WayUp.{Above, Sees, enters, goes_up, GroupOf, arrives, passes, passes_on, ScopeRight}
use Rattle.declarative.proofs.Free.{Finds}
use Rattle.declarative.proofs.Parents.{binds_above, passes_above, arrives_above, above_more, Table}
use Rattle.declarative.proofs.WayDown.{scope_down}
use Rattle.declarative.proofs.WayUps.{scope_up}

-- Above the root no binder is marked.
zeros : (n x : ℕ) → ◌≡◌ {A = ℕ} (get_or (replicate n 0) x 0) 0
zeros zero x = refl
zeros (suc n) zero = refl
zeros (suc n) (suc x) = zeros n x

-- No binder is marked.
pub unmarked_none : (n x : ℕ) → is_marked (unmarked n) x ≡ false
unfolding is_marked unmarked
unmarked_none n x = ap (λ (v : ℕ). eqb v 1) (zeros n x)

-- There is a place for each node.
pub unmarked_long : (n : ℕ) → length (unmarked n) ≡ n
unfolding unmarked
unmarked_long n = length-replicate n 0

module _ (p : Bytes) (w : NodeOf is_signal p (nodes p - 1)) (s : WellShaped p) where
  -- The table that the way up goes in.
  pub table : Table p
  table = record { shaped = w.shaped; once = λ n l. (s.each n (omega arith)).once l }

  -- Nothing is above the root.
  no_above : (m : ℕ) → m < nodes p → Above p m (nodes p - 1) → ⊥
  no_above m l a = let h = above_more p m (nodes p - 1) w.shaped l w.inside a in omega arith

  -- So no binder is seen from the root,
  none_seen : {A : Type 0} (x n : ℕ) → n ≡ nodes p - 1 → Sees p x n → A
  none_seen x n e (enters l b) = absurd (no_above x l (rw (← e) (binds_above p x n b)))
  none_seen x n e (goes_up m l a s) = absurd (no_above m l (rw (← e) a))

  -- and no group is reached.
  none_reached : {A : Type 0} (g n : ℕ) → n ≡ nodes p - 1 → GroupOf p g n → A
  none_reached g n e (arrives l b) = absurd (no_above g l (rw (← e) (arrives_above p g n b)))
  none_reached g n e (passes_on m l two b s) = absurd (no_above m l (rw (← e) (arrives_above p m n b)))
  none_reached g n e (passes m l a s) = absurd (no_above m l (rw (← e) (passes_above p m n a)))

  -- Below a bound no fault is found exactly when all there is in scope.
  pub finds_scope : Finds (scope_fault p) (ScopeRight p) (nodes p)
  unfolding scope_fault root
  finds_scope = record {
    only_if = λ b f. scope_up p b table w (unmarked most_nodes) (unmarked_none most_nodes) f;
    if₀ = λ b h.
        scope_down p table b h (nodes p - 1) w (unmarked most_nodes) []
        (record { long = unmarked_long most_nodes; all = λ x h. none_seen x (nodes p - 1) refl h })
        (record { all = λ g k h b. none_reached g (nodes p - 1) refl h });
  }
