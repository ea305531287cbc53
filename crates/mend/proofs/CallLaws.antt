-- The call's parts, from what the code found: codes 9, 15 and 16, and the state brought back.
-- Assumes nothing.
use Rattle.rules.specs.Verdicts.{Verdict}
use Rattle.std.specs.Prelude.{Result, Ok, Err}
use mathlib.Core.Path.{◌≡◌, refl, sym, ap, ◌∙◌}
use mathlib.Core.Bool.{not}
use mathlib.Core.List.{List}
use Prim.Native.Nat.{ℕ, suc, ◌+◌, ◌%◌, ◌<◌, ◌≤◌}
use native.Mathlib.Omega.{arith}
use lib.Dec.{eqb}
use lib.ListN.{length}
use Rattle.rules.specs.Bytes.{Bytes, write_at}
use Rattle.rules.specs.Layout.{nodes, cells, cell_at, checks_of, sum_in, state_length}
use Rattle.rules.specs.WellFormed.{knows_program}
use Rattle.rules.specs.Shaped.{Shaped}
use Rattle.rules.specs.Accepted.{Accepted}
use Rattle.rules.specs.Calls.{refuse_if}
use Rattle.rules.specs.declared.Refusal.{Refusal}
use Rattle.rules.specs.declared.Refusal.TheVariants.{OtherProgram}
use Rattle.cells.proofs.Numbered.{cells_most}
use Rattle.promises.specs.Small.{Small}
use Rattle.promises.proofs.FromTable.{seated}
use Rattle.mends.specs.declared.Unmended.{Unmended}
use Rattle.mends.specs.declared.Unmended.TheVariants.{ListLength}
use Rattle.mends.specs.Mend.{mended}
use Rattle.mends.specs.Changes.{changed_below, changes}
use Rattle.mends.specs.MendCall.{MendOutcome, known_verdict, mend_known, mend_outcome}
use Rattle.mends.proofs.CallLaws.{right_length, state_refused, wrong_room, right_room}
use Rattle.mends.proofs.Listing.{room_enough}
use Rattle.mend.specs.Kept.{StandsIn, Leaves}
use Rattle.mend.proofs.ListLaws.{changes_there}

-- The sum of the checks of an accepted program is a number of 4 bytes.
pub checks_fit : (p : Bytes) → Small p → Accepted p → checks_of p < 4294967296
checks_fit p s a = omega (arith, (seated p s a).stamp_small)

-- The sum that a state carries against the program's, which 4 bytes hold.
sum_known : (p st : Bytes) {x y : ℕ} → checks_of p < 4294967296 → x ≡ sum_in st → y ≡ checks_of p % 4294967296 → eqb x y ≡ knows_program p st
unfolding knows_program
sum_known p st {x} {y} h e f = let g : y ≡ checks_of p = omega arith in cc

pub by_sum : (p st : Bytes) {x y : ℕ} {r : Verdict} → length st ≡ state_length p → checks_of p < 4294967296
    → x ≡ sum_in st → y ≡ checks_of p % 4294967296 → r ≡ refuse_if (not (eqb x y)) OtherProgram → r ≡ known_verdict p st
by_sum p st l h e f s = s ∙ (λ i. refuse_if (not (sum_known p st h e f i)) OtherProgram) ∙ sym (right_length p st l)

-- What a call leaves, by its outcome.
leaves : {o : MendOutcome} {answer : Result ℕ Unmended} {st : Bytes} {list : List ℕ} → o ≡ record { answer = answer; state = st; list = list }
    → Leaves o answer st list
leaves e = record {
  answer_is = sym (ap (λ (o : MendOutcome). o.answer) e);
  state_is = sym (ap (λ (o : MendOutcome). o.state) e);
  list_is = sym (ap (λ (o : MendOutcome). o.list) e);
}

pub leaves_state : (p st : Bytes) (room : List ℕ) (v : Verdict) {r : Refusal} → v ≡ Err r → Leaves (mend_outcome p st room v) (Err (Unmended.Refused r)) st room
leaves_state p st room v e = leaves (state_refused p st room e)

-- Code 16, and the state brought back.
pub leaves_room : (p st : Bytes) (room : List ℕ) (held : ℕ) → held ≡ cells p → (length room ≡ held + 1 → ⊥)
    → Leaves (mend_known p st room) (Err ListLength) st room
leaves_room p st room held e d = leaves (wrong_room p st room (λ z. d (omega (arith, z, e))))

pub leaves_brought : (p st : Bytes) (room : List ℕ) (held n : ℕ) (st₁ : Bytes) (list : List ℕ) → held ≡ cells p → length room ≡ held + 1
    → n ≡ length (changes p st (mended p st)) → st₁ ≡ mended p st → list ≡ write_at room 0 (changes p st (mended p st))
    → Leaves (mend_known p st room) (Ok n) st₁ list
leaves_brought p st room held n st₁ list e l a b c =
    leaves (right_room p st room (omega (arith, l, e)) ∙ (λ i. record { answer = Ok (sym a i); state = sym b i; list = sym c i }))

-- The lengths: of a state, of its cells and of what is listed.
pub few_held : (p : Bytes) (held : ℕ) → Shaped p → held ≡ cells p → held ≤ 1008
unfolding cells
few_held p held s e = omega (arith, cells_most p (nodes p), s.small)

cells_fit : (n : ℕ) → n ≤ 1008 → cell_at n ≤ 8072
unfolding cell_at
cells_fit n h = omega arith

pub state_fits : (p : Bytes) (size : ℕ) → Shaped p → size ≡ state_length p → size ≤ 8072
unfolding state_length
state_fits p size s e = rw e (cells_fit (cells p) (few_held p (cells p) s refl))

pub held_fits : (p : Bytes) (held size : ℕ) → held ≡ cells p → size ≡ state_length p → cell_at held ≤ size
unfolding state_length
held_fits p held size e l = omega (arith, l, ap cell_at e)

pub listed_few : (p st : Bytes) (n : ℕ) → Shaped p → n ≡ length (changes p st (mended p st)) → n < 4294967296
listed_few p st n s e = omega (arith, e, room_enough st (mended p st) p, few_held p (cells p) s refl)

-- What was listed beside the state that was kept is what changed.
pub listed_so : (p st old st₁ : Bytes) (room list : List ℕ) (held n : ℕ) → StandsIn st old → held ≡ cells p → length st ≡ state_length p
    → st₁ ≡ mended p st → n ≡ length (changed_below old st₁ held) → list ≡ write_at room 0 (changed_below old st₁ held)
    → (n ≡ length (changes p st (mended p st))) × (st₁ ≡ mended p st) × (list ≡ write_at room 0 (changes p st (mended p st)))
unfolding changes
listed_so p st old st₁ room list held n w e l f g h =
    let same : changed_below old st₁ held ≡ changed_below st (mended p st) (cells p)
    = changes_there st old w st₁ held (held_fits p held (length st) e l) ∙ (λ i. changed_below st (f i) (e i)) in
    (g ∙ ap length same, f, h ∙ ap (write_at room 0) same)
