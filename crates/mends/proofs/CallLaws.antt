-- The call by what was found: codes 1-8, 9, 15 and 16, and the state brought back.
-- Assumes nothing.
use Rattle.rules.specs.Verdicts.{Verdict}
use Rattle.std.specs.Prelude.{Ok, Err}
use mathlib.Core.Path.{◌≡◌, refl, sym, ap, ◌∙◌}
use mathlib.Core.Bool.{not}
use mathlib.Core.List.{List}
use Prim.Native.Nat.{ℕ, suc}
use lib.Dec.{eqb}
use lib.ListN.{length}
use borrow.Author.Tests.{eqb-true, eq-eqb, ne_eqb}
use Rattle.rules.specs.Bytes.{Bytes, write_at}
use Rattle.rules.specs.Layout.{cells, checks_of, sum_in, state_length}
use Rattle.rules.specs.WellFormed.{long_as_cells, knows_program}
use Rattle.rules.specs.Calls.{◌otherwise◌, refuse_if, program_verdict}
use Rattle.rules.specs.declared.Refusal.{Refusal}
use Rattle.rules.specs.declared.Refusal.TheVariants.{StateFault, OtherProgram}
use Rattle.rules.proofs.Kids.{not_not}
use Rattle.rules.proofs.Verdicts.{both_fine, if_fine}
use Rattle.mends.specs.declared.Unmended.{Unmended}
use Rattle.mends.specs.declared.Unmended.TheVariants.{ListLength}
use Rattle.mends.specs.Mend.{mended}
use Rattle.mends.specs.Changes.{changes}
use Rattle.mends.specs.MendCall.{known_verdict, mend_known, mend_outcome, mend_call}

-- By the program's verdict, and by the verdict on the state.
pub program_refused : (p st : Bytes) (room : List ℕ) (r : Refusal) → program_verdict p ≡ Err r
    → mend_call p st room ≡ record { answer = Err (Unmended.Refused r); state = st; list = room }
unfolding mend_call mend_outcome ◌otherwise◌
program_refused p st room r e = rw e

pub program_accepted : (p st : Bytes) (room : List ℕ) → program_verdict p ≡ Ok tt → mend_call p st room ≡ mend_outcome p st room (known_verdict p st)
unfolding mend_call ◌otherwise◌
program_accepted p st room e = rw e

pub state_refused : (p st : Bytes) (room : List ℕ) {v : Verdict} {r : Refusal} → v ≡ Err r
    → mend_outcome p st room v ≡ record { answer = Err (Unmended.Refused r); state = st; list = room }
unfolding mend_outcome
state_refused p st room e = rw e

pub state_known : (p st : Bytes) (room : List ℕ) {v : Verdict} → v ≡ Ok tt → mend_outcome p st room v ≡ mend_known p st room
unfolding mend_outcome
state_known p st room e = rw e

-- A state of the wrong length; of the right one, with a wrong sum or the right one.
pub wrong_length : (p st : Bytes) → (length st ≡ state_length p → ⊥) → known_verdict p st ≡ Err StateFault
unfolding known_verdict long_as_cells ◌otherwise◌ refuse_if
wrong_length p st d = rw (ne_eqb _ _ d) refl

pub right_length : (p st : Bytes) → length st ≡ state_length p → known_verdict p st ≡ refuse_if (not (knows_program p st)) OtherProgram
unfolding known_verdict long_as_cells ◌otherwise◌ refuse_if
right_length p st e = rw (eq-eqb _ _ e) refl

pub wrong_sum : (p st : Bytes) → length st ≡ state_length p → (sum_in st ≡ checks_of p → ⊥) → known_verdict p st ≡ Err OtherProgram
unfolding knows_program refuse_if
wrong_sum p st e d = right_length p st e ∙ rw (ne_eqb _ _ d) refl

pub right_sum : (p st : Bytes) → length st ≡ state_length p → sum_in st ≡ checks_of p → known_verdict p st ≡ Ok tt
unfolding knows_program refuse_if
right_sum p st e f = right_length p st e ∙ rw (eq-eqb _ _ f) refl

-- A verdict that is fine says that the length is right.
pub known_long : (p st : Bytes) → known_verdict p st ≡ Ok tt → length st ≡ state_length p
unfolding known_verdict long_as_cells
known_long p st e = eqb-true _ _ (not_not _ (if_fine _ _ (both_fine _ _ e).0))

-- Code 16, and the state brought back.
pub wrong_room : (p st : Bytes) (room : List ℕ) → (length room ≡ suc (cells p) → ⊥)
    → mend_known p st room ≡ record { answer = Err ListLength; state = st; list = room }
unfolding mend_known
wrong_room p st room d = rw (ne_eqb (length room) (suc (cells p)) d) refl

pub right_room : (p st : Bytes) (room : List ℕ) → length room ≡ suc (cells p)
    → mend_known p st room
    ≡ record { answer = Ok (length (changes p st (mended p st))); state = mended p st; list = write_at room 0 (changes p st (mended p st)) }
unfolding mend_known
right_room p st room e = rw (eq-eqb (length room) (suc (cells p)) e) refl

-- An accepted program, a state of its length and sum, and a room of its length.
pub all_right : (p st : Bytes) (room : List ℕ) → program_verdict p ≡ Ok tt → length st ≡ state_length p → sum_in st ≡ checks_of p
    → length room ≡ suc (cells p)
    → mend_call p st room
    ≡ record { answer = Ok (length (changes p st (mended p st))); state = mended p st; list = write_at room 0 (changes p st (mended p st)) }
all_right p st room v l q e = program_accepted p st room v ∙ state_known p st room (right_sum p st l q) ∙ right_room p st room e
