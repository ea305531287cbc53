-- What demand 3 lends can be lent: every well-formed state, with a quiet record of the last moment and a room of 8 bytes.
-- Assumes nothing.
use mathlib.Core.Path.{◌≡◌, refl, sym, ap, ◌∙◌}
use mathlib.Core.Bool.{Bool, true, false}
use Prim.Native.Nat.{ℕ, zero, suc, ◌<◌, ◌≤◌}
use native.Mathlib.Omega.{arith}
use lib.Dec.{eqb, leb}
use lib.ListN.{replicate}
use borrow.Author.Tests.{eqb-true, eqb-false, ne_eqb, leb-true}
use Rattle.rules.specs.Bytes.{Bytes, byte_at, u16_at, u32_at, bytes_of, ◌or◌}
use Rattle.rules.specs.Layout.{last_time, no_time, time_in, flag_on, event_on}
use Rattle.rules.specs.WellFormed.{well_formed, last_moment}
use Rattle.rules.specs.Samples.{quiet}
use Rattle.promises.proofs.Steps.{well_parts}
use Rattle.mission.specs.Lent.{WellRecord, NotBack, StepLent}

-- No event, so no word.
no_event : (c : ℕ) → c < 4 → event_on (quiet last_moment) c ≡ 0
unfolding event_on u32_at u16_at byte_at bytes_of
no_event zero h = refl
no_event (suc zero) h = refl
no_event (suc (suc zero)) h = refl
no_event (suc (suc (suc zero))) h = refl
no_event (suc (suc (suc (suc c)))) h = absurd (omega arith)

at_last : time_in (quiet last_moment) ≡ last_moment
unfolding time_in u32_at u16_at byte_at bytes_of
at_last = refl

quiet_right : WellRecord (quiet last_moment)
unfolding byte_at bytes_of
quiet_right = record {
  long = refl;
  flags = omega arith;
  zeros = (refl, refl, refl);
  absent = λ c h e. no_event c h;
  moment = omega (arith, at_last);
}

-- No state's time is after the last moment.
not_after : (t : ℕ) → (eqb t no_time or leb t last_moment) ≡ true → (t ≡ no_time → ⊥) → t ≤ last_moment
unfolding ◌or◌
not_after t e h = leb-true t last_moment (go (eqb t no_time) (ne_eqb t no_time h) e)
  where
    go : (b : Bool) → b ≡ false → (b or leb t last_moment) ≡ true → leb t last_moment ≡ true
    go true z e = absurd (let n : ◌≡◌ {A = ℕ} 0 1 = cc in omega arith)
    go false z e = e

pub can_be_lent : (p st : Bytes) → well_formed p st ≡ true → StepLent p st (quiet last_moment) (replicate 8 0)
can_be_lent p st w = record {
  state = w;
  right = quiet_right;
  forward = λ h. omega (arith, not_after (last_time st) (well_parts p st w).moment h, at_last);
  room = refl;
}
