-- A program has no fault exactly when it meets every rule; and then it has a node, and is shaped with a signal as its root.
-- Assumes nothing.
use Rattle.std.specs.Prelude.{Option, Some, None, Ok, Err, ℕ}
use Rattle.rules.specs.Verdicts.{Verdict}
use mathlib.Core.Path.{◌≡◌, refl}
use mathlib.Core.Bool.{Bool, true, false}
use Prim.Native.Nat.{ℕ}
use native.Mathlib.Omega.{arith}
use Rattle.rules.specs.Bytes.{Bytes}
use Rattle.rules.specs.Accepted.{Accepted}
use Rattle.rules.specs.Calls.{◌otherwise◌, refuse_if, refuse_at, program_verdict}
use Rattle.rules.specs.declared.Refusal.{Refusal}

-- no refusal is fine
pub not_fine : {r : Refusal} → ◌≡◌ {A = Verdict} (Err r) (Ok tt) → ⊥
not_fine e = let z : ◌≡◌ {A = ℕ} 0 1 = cc in omega arith

-- neither of two has a fault
pub both_fine : (v w : Verdict) → (v otherwise w) ≡ Ok tt → (v ≡ Ok tt) × (w ≡ Ok tt)
unfolding ◌otherwise◌
both_fine (Ok _) w e = (refl, e)
both_fine (Err r) w e = absurd (not_fine e)

pub fine_both : {v w : Verdict} → v ≡ Ok tt → w ≡ Ok tt → (v otherwise w) ≡ Ok tt
unfolding ◌otherwise◌
fine_both e f = rw (e, f)

pub if_fine : (b : Bool) (r : Refusal) → refuse_if b r ≡ Ok tt → b ≡ false
unfolding refuse_if
if_fine true r e = absurd (not_fine e)
if_fine false r e = refl

pub at_fine : (reason : ℕ → Refusal) (q : Option ℕ) → refuse_at reason q ≡ Ok tt → q ≡ None
unfolding refuse_at
at_fine reason (Some n) e = absurd (not_fine e)
at_fine reason None e = refl

-- what the verdict on a program says
pub accepted : (p : Bytes) → program_verdict p ≡ Ok tt → Accepted p
unfolding program_verdict
accepted p e =
    let a = both_fine _ _ e in
    let b = both_fine _ _ a.1 in
    let c = both_fine _ _ b.1 in
    let d = both_fine _ _ c.1 in
    let f = both_fine _ _ d.1 in
    let g = both_fine _ _ f.1 in
    let h = both_fine _ _ g.1 in
    record {
      formed = record {
        length_right = if_fine _ _ a.0;
        sums_right = at_fine _ _ b.0;
        numbers_right = at_fine _ _ c.0;
        records_right = at_fine _ _ d.0;
      };
      shape_right = at_fine _ _ f.0;
      scope_right = at_fine _ _ g.0;
      types_right = at_fine _ _ h.0;
      ready_right = at_fine _ _ h.1;
    }

pub fine_verdict : (p : Bytes) → Accepted p → program_verdict p ≡ Ok tt
unfolding program_verdict ◌otherwise◌ refuse_if refuse_at
fine_verdict p a =
    rw (
      a.formed.length_right,
      a.formed.sums_right,
      a.formed.numbers_right,
      a.formed.records_right,
      a.shape_right,
      a.scope_right,
      a.types_right,
      a.ready_right,
    )
