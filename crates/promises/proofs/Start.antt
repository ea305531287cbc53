-- The start state is well-formed.
-- Assumes nothing.
use mathlib.Core.Path.{◌≡◌, refl, ◌∙◌}
use mathlib.Core.List.{◌++◌}
use mathlib.Core.Bool.{true}
use Prim.Native.Nat.{ℕ, ◌*◌, ◌≤◌}
use native.Mathlib.Omega.{arith}
use lib.ListN.{length, replicate, length-replicate}
use borrow.Author.Tests.{eq-eqb}
use Rattle.rules.specs.Bytes.{Bytes, byte_at, u16_at, u32_at, bytes_of}
use Rattle.rules.specs.Layout.{most_nodes, cells, type_at, cell_at, state_length, checks_of, last_time, sum_in, no_time, start_header}
use Rattle.rules.specs.Tree.{root}
use Rattle.rules.specs.Reset.{start_state}
use Rattle.rules.specs.WellFormed.{well_formed}
use Rattle.rules.proofs.Static.{or_left}
use Rattle.promises.specs.Small.{Small}
use Rattle.promises.specs.Seated.{Seated}
use Rattle.promises.proofs.SmallLaws.{small_append, small_bytes, small_zeros}
use Rattle.promises.proofs.Rests.{reset_rests, rests_well}
use Rattle.promises.proofs.Steps.{parts_well}

-- No time, and zeros.
blank : Bytes → Bytes
blank p = start_header p ++ replicate (8 * cells p) 0

-- It is as long as the state.
blank_length : (p : Bytes) → length (blank p) ≡ cell_at (cells p)
unfolding blank start_header bytes_of cell_at
blank_length p = let e = length-replicate {A = ℕ} (8 * cells p) 0 in omega arith

-- It has no time.
blank_time : (p : Bytes) → last_time (blank p) ≡ no_time
unfolding blank start_header bytes_of last_time u32_at u16_at byte_at
blank_time p = refl

-- It has the sum of the program's checks.
blank_sum : (p : Bytes) → checks_of p ≤ 791230320 → sum_in (blank p) ≡ checks_of p
unfolding blank start_header bytes_of sum_in u32_at u16_at byte_at
blank_sum p h = omega arith

-- It is bytes.
blank_small : (p : Bytes) → Small (blank p)
unfolding blank start_header
blank_small p = small_append _ _ (small_append _ _ (small_bytes 4 no_time) (small_bytes 4 (checks_of p))) (small_zeros (8 * cells p))

pub record StartMade (p : Bytes) : Type 0 where
  pub well : well_formed p (start_state p) ≡ true
  pub bytes : Small (start_state p)

-- A reset of all that is the start state.
pub start_made : (p : Bytes) → Seated p → StartMade p
unfolding start_state blank state_length
start_made p seat =
    let a = reset_rests (root p) most_nodes (cells p) (type_at p) (blank p) seat.sits seat.once (blank_small p) (blank_length p) in
    record {
      well = parts_well p (start_state p) (record {
        long = a.kept.long ∙ blank_length p;
        stamped = a.kept.stamp ∙ blank_sum p seat.stamp_small;
        moment = or_left _ _ (eq-eqb _ _ (a.kept.moment ∙ blank_time p));
        parts = rests_well (root p) most_nodes (cells p) (type_at p) (start_state p) seat.sits a.holds;
      });
      bytes = a.kept.bytes;
    }

-- The start state is well-formed.
pub start_well_formed : (p : Bytes) → Seated p → well_formed p (start_state p) ≡ true
start_well_formed p seat = (start_made p seat).well
