-- Outcomes of updates in place, taken apart: how one goes on, and that no count is too large.
-- Assumes nothing.
use Rattle.std.specs.Prelude.{Some, None}
use mathlib.Core.Path.{◌≡◌, refl, ap}
use Prim.Native.Nat.{ℕ, ◌≤◌}
use native.Mathlib.Omega.{arith}
use Rattle.rules.specs.Bytes.{Bytes}
use Rattle.rules.specs.Work.{Updated, Jump, Halted, moved, afterᵘ}
use Rattle.rules.specs.declared.Tally.{Tally}
use Rattle.rules.specs.Moved.{Moved, Stay}
use Rattle.rules.proofs.Within.{Withinᵘ}
use Rattle.recalled.specs.Recall.{Memory, Recalled, leaving, on_outcome, fromᵐ, thenᵐ}
use Rattle.moves.specs.Outcomes.{work_of, calm_of}

-- An update that stays goes on from its state and its memory.
pub then_still : (r : Moved) {w : Tally} (st : Bytes) (mem : Memory) (f : Bytes → Memory → Recalled) → calm_of r ≡ Some w
    → thenᵐ (leaving (moved r st) mem) f ≡ on_outcome (afterᵘ w) (f st mem)
unfolding calm_of moved thenᵐ fromᵐ
then_still (Stay u) {w} st mem f e = let q : u ≡ w = cc in ap (λ (x : Tally). on_outcome (afterᵘ x) (f st mem)) q
then_still (Moved.Jump target v w) st mem f e = cc
then_still Moved.Stuck st mem f e = cc

pub then_broken : (r : Moved) (st : Bytes) (mem : Memory) (f : Bytes → Memory → Recalled) → calm_of r ≡ None → thenᵐ (leaving (moved r st) mem) f ≡ leaving Halted mem
unfolding calm_of moved thenᵐ fromᵐ
then_broken (Stay w) st mem f e = cc
then_broken (Moved.Jump target v w) st mem f e = refl
then_broken Moved.Stuck st mem f e = refl

-- What an update that stays has counted.
pub still_work : (r : Moved) {w : Tally} → calm_of r ≡ Some w → w.work ≡ work_of r
unfolding calm_of
still_work (Stay u) {w} e = let q : w ≡ u = cc in ap (λ (x : Tally). x.work) q
still_work (Moved.Jump target v w) e = cc
still_work Moved.Stuck e = cc

-- An update within a bound has counted at most that.
pub moved_within : (r : Moved) (st : Bytes) {u : Updated} {b : ℕ} → moved r st ≡ u → Withinᵘ u b → work_of r ≤ b
unfolding moved
moved_within (Stay w) st e h = (rw (← e) at h).most
moved_within (Moved.Jump target v w) st e h = (rw (← e) at h).most
moved_within Moved.Stuck st e h = omega arith
