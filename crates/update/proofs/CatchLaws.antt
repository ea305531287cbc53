-- What a group does with the outcome of its part, by the outcome's number.
-- Assumes nothing.
use mathlib.Core.Path.{◌≡◌, refl, ap, ◌∙◌}
use mathlib.Core.Bool.{Bool, true, false}
use Prim.Native.Nat.{ℕ, ◌+◌, ◌<◌, ◌≤◌}
use native.Mathlib.Omega.{arith}
use lib.Dec.{eqb}
use borrow.Author.Tests.{eqb-true, eqb-false}
use Rattle.rules.specs.Bytes.{Bytes}
use Rattle.rules.specs.Values.{unpacked}
use Rattle.rules.specs.Layout.{hold_branch}
use Rattle.rules.specs.Scope.{has_branch}
use Rattle.rules.specs.Tree.{Signal, Branches}
use Rattle.rules.specs.Reset.{reset_s}
use Rattle.rules.specs.Work.{Updated, moved, one_rule, afterᵘ, ruleᵘ, ◌plus◌}
use Rattle.current.specs.Current.{leaves}
use Rattle.rules.specs.Moved.{Stay}
use Rattle.moves.specs.Outcomes.{tally_in, target_in, jump_value, moved_in}
use Rattle.moves.proofs.SmallLaws.{leaves_stay, leaves_stuck, leaves_other, leaves_here}
use Rattle.moves.proofs.NumberLaws.{moved_stuck, moved_stays, moved_jumps}

-- An outcome that stays or is stuck, a jump to another group's branch, and one to a branch of this group.
module _ (k : ℕ) (part : Signal) (brs : Branches) (r : ℕ) (st : Bytes) where
  pub catch_small : r < 1048576 → {x : Updated} → x ≡ ruleᵘ (moved (moved_in r) st) → x ≡ ruleᵘ (leaves k part brs (moved (moved_in r) st))
  catch_small l {x} z = go (eqb r 0) refl
    where
      go : (b : Bool) → eqb r 0 ≡ b → x ≡ ruleᵘ (leaves k part brs (moved (moved_in r) st))
      go true e = leaves_stuck k part brs (moved_in r) st (ap moved_in (eqb-true r 0 e) ∙ moved_stuck) z
      go false e = leaves_stay k part brs (moved_in r) st (moved_stays r (omega (arith, eqb-false r 0 e)) l) z

  module _ (l : 1048576 ≤ r) {t : ℕ} (e : t ≡ target_in r) where
    pub catch_other : has_branch t brs ≡ false → {x : Updated} → x ≡ ruleᵘ (moved (moved_in r) st) → x ≡ ruleᵘ (leaves k part brs (moved (moved_in r) st))
    catch_other h z = leaves_other k part brs (moved_in r) st (moved_jumps r l) (rw e at h) z

    pub catch_here : has_branch t brs ≡ true → {v : ℕ} → v ≡ jump_value r → {st₁ : Bytes} → st₁ ≡ reset_s part (hold_branch st k t (unpacked v))
        → (q : ℕ) → moved_in q ≡ Stay (one_rule plus tally_in r) → moved (moved_in q) st₁ ≡ ruleᵘ (leaves k part brs (moved (moved_in r) st))
    unfolding moved ruleᵘ afterᵘ
    catch_here h f s q g =
        leaves_here k part brs (moved_in r) st (moved_jumps r l) (rw e at h) (rw (e, f) at s) (rw g)
