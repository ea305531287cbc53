-- What the pass over a node finds, from what it found in its parts, each in its own region.
-- Assumes nothing.
use Rattle.std.specs.Prelude.{Option, ℕ}
use mathlib.Core.Path.{◌≡◌, sym, ap, ◌∙◌}
use mathlib.Core.List.{List}
use Prim.Native.Nat.{ℕ, ◌+◌, ◌<◌}
use native.Mathlib.Omega.{arith}
use Rattle.rules.specs.Bytes.{Bytes}
use Rattle.rules.specs.Layout.{kind_at, a_at, b_at, c_at}
use Rattle.rules.specs.Kinds.{is_signal, is_case}
use Rattle.rules.specs.Places.{sooner}
use Rattle.rules.specs.Tree.{expr_at, signal_at, branches_at}
use Rattle.rules.specs.Ready.{ready_s}
use Rattle.rules.proofs.Signals.{delay_kid, switch_kids, case_kid}
use Rattle.ready.specs.Found.{Lets, found_e, found_s, found_b}
use Rattle.ready.specs.Regions.{marked_in, Entered}
use Rattle.ready.proofs.RegionLaws.{apart}
use Rattle.ready.proofs.FoundLaws.{delay_found, switch_found}

-- Two parts and three: the smallest of what is found in each.
pub of_two : {whole a b x y q : Option ℕ} → whole ≡ sooner a b → x ≡ a → y ≡ b → q ≡ sooner x y → q ≡ whole
of_two e ex ey h = cc

pub of_three : {whole a b c x y z rest q : Option ℕ} → whole ≡ sooner a (sooner b c) → x ≡ a → y ≡ b → z ≡ c → rest ≡ sooner y z → q ≡ sooner x rest → q ≡ whole
of_three e ex ey ez er h = cc

-- A part is found by its number in the code, and by marks that are as they were.
pub part_e : (p : Bytes) (M : Lets) {a k : ℕ} {q : Option ℕ} → a ≡ k → q ≡ found_e M (expr_at p a) → q ≡ found_e M (expr_at p k)
part_e p M e h = h ∙ ap (λ (j : ℕ). found_e M (expr_at p j)) e

pub part_s : (p : Bytes) (M : Lets) {a k : ℕ} {q : Option ℕ} → a ≡ k → q ≡ found_s M (signal_at p a) → q ≡ found_s M (signal_at p k)
part_s p M e h = h ∙ ap (λ (j : ℕ). found_s M (signal_at p j)) e

pub later_s : (p : Bytes) (region : ℕ) {m old : List ℕ} {a k : ℕ} {q : Option ℕ} → m ≡ old → a ≡ k → q ≡ found_s (marked_in m region) (signal_at p a)
    → q ≡ found_s (marked_in old region) (signal_at p k)
later_s p region o e h = cc

pub later_b : (p : Bytes) (region : ℕ) {m old : List ℕ} {a k : ℕ} {q : Option ℕ} → m ≡ old → a ≡ k → q ≡ found_b (marked_in m region) (branches_at p a)
    → q ≡ found_b (marked_in old region) (branches_at p k)
later_b p region o e h = cc

-- An event, in a region of its own.
pub event_passed : {p : Bytes} {m : List ℕ} {region i k : ℕ} {q : Option ℕ} → Entered is_case p m region i → k ≡ a_at p i → q ≡ found_s (marked_in m (k + 1)) (signal_at p k)
    → q ≡ ready_s (signal_at p (a_at p i))
event_passed {p = p} {i = i} {k = k} w a h =
    h
    ∙ apart w (omega (arith, a, (case_kid p i w.node).less)) (signal_at p k)
    ∙ ap (λ (j : ℕ). ready_s (signal_at p j)) a

module _ {p : Bytes} {m : List ℕ} {region i : ℕ} (w : Entered is_signal p m region i) where
  -- A delay's signal k, in a region of its own.
  pub delay_passed : kind_at p i ≡ 4 → {k : ℕ} {q : Option ℕ} → k ≡ a_at p i → q ≡ found_s (marked_in m (k + 1)) (signal_at p k)
      → q ≡ found_s (marked_in m region) (signal_at p i)
  delay_passed e {k} a h =
      h
      ∙ apart w (omega (arith, a, (delay_kid p i w.node e).less)) (signal_at p k)
      ∙ ap (λ (j : ℕ). ready_s (signal_at p j)) a
      ∙ sym (delay_found p i w.node (marked_in m region) e)

  -- A switch's first x, event v and second y; the event in a region of its own.
  pub switch_passed : kind_at p i ≡ 6 → {x v y : ℕ} → x ≡ a_at p i → v ≡ b_at p i → y ≡ c_at p i → {m₁ m₂ : List ℕ} → m₁ ≡ m → m₂ ≡ m
      → {q₁ q₂ q₃ both₀ q : Option ℕ} → q₁ ≡ found_s (marked_in m region) (signal_at p x) → q₂ ≡ found_s (marked_in m₁ (v + 1)) (signal_at p v)
      → q₃ ≡ found_s (marked_in m₂ region) (signal_at p y) → both₀ ≡ sooner q₂ q₃ → q ≡ sooner q₁ both₀
      → q ≡ found_s (marked_in m region) (signal_at p i)
  switch_passed e {v = v} a b c k l f g h o r =
      cc (
        switch_found p i w.node (marked_in m region) e,
        apart {k = v} w (omega (arith, b, (switch_kids p i w.node e).1.less)) (signal_at p v),
      )
