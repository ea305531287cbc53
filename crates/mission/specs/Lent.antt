-- What demand 3 lends a run: a well-formed state, well-formed records whose times do not go back, and a room of 8 bytes for each.
-- Assumes nothing: these are definitions.
use Rattle.std.specs.Prelude.{◌≡◌, true, ℕ, suc, ◌*◌, ◌<◌, ◌≤◌, length}
use Rattle.rules.specs.Bytes.{Bytes, byte_at}
use Rattle.rules.specs.Layout.{last_time, no_time, input_length, input_at, time_in, flag_on, event_on}
use Rattle.rules.specs.WellFormed.{well_formed, last_moment}

-- A record is 40 bytes: time, channels 0-3, present flags (byte 20, bits 0-3 for channels 4-7), three zero bytes, channels 4-7, zero if absent.
-- Time is at most 2,147,483,647.
pub record WellRecord (rec : Bytes) : Type 0 where
  pub long : length rec ≡ input_length
  pub flags : byte_at rec 20 ≤ 15
  pub zeros : (byte_at rec 21 ≡ 0) × (byte_at rec 22 ≡ 0) × (byte_at rec 23 ≡ 0)
  pub absent : (c : ℕ) → c < 4 → flag_on rec c ≡ 0 → event_on rec c ≡ 0
  pub moment : time_in rec ≤ last_moment

-- Its time is not before the state's time, if it has one.
abbrev pub NotBack : Bytes → Bytes → Type 0
NotBack st rec = (last_time st ≡ no_time → ⊥) → last_time st ≤ time_in rec

-- A step's: one record, an output room of 8 bytes.
pub record StepLent (p st rec out : Bytes) : Type 0 where
  pub state : well_formed p st ≡ true
  pub right : WellRecord rec
  pub forward : NotBack st rec
  pub room : length out ≡ 8

-- A run's: so many records, 0 to 4,096, each well-formed; the first one's time is not before the state's, and none's before the last one's.
pub record RunLent (p st recs out : Bytes) (n : ℕ) : Type 0 where
  pub state : well_formed p st ≡ true
  pub whole : length recs ≡ input_length * n
  pub few : n ≤ 4096
  pub right : (k : ℕ) → k < n → WellRecord (input_at recs k)
  pub forward : 0 < n → NotBack st (input_at recs 0)
  pub onward : (k : ℕ) → suc k < n → time_in (input_at recs k) ≤ time_in (input_at recs (suc k))
  pub room : length out ≡ 8 * n
