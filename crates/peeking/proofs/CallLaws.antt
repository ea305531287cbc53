-- What a watched run is lent, and the call by what was found.
-- Assumes nothing.
use Rattle.std.specs.Prelude.{if◌then◌else◌, Result, Ok, Err, Option, None, ℕ, Some}
use Rattle.rules.specs.Verdicts.{RunAnswer, Verdict, refused_after}
use mathlib.Core.Path.{◌≡◌, refl, sym, ap, ◌∙◌}
use mathlib.Core.Bool.{Bool, true, false, not}
use mathlib.Core.List.{List}
use Prim.Native.Nat.{ℕ, ◌*◌, ◌/◌, ◌%◌, ◌≤◌}
use native.Mathlib.Omega.{arith}
use native.Mathlib.Nat.{mul-le-mul}
use lib.Dec.{eqb, ltb}
use lib.ListN.{length}
use borrow.Author.Tests.{eq-eqb, ne_eqb, eqb-true, ltb-false}
use Rattle.rules.specs.Bytes.{Bytes, ◌and◌, ◌or◌}
use Rattle.rules.specs.WellFormed.{well_formed}
use Rattle.rules.specs.Calls.{◌otherwise◌, refuse_if, program_verdict, state_verdict, no_step, run_from, run_outcome}
use Rattle.rules.specs.declared.Refusal.{Refusal}
use Rattle.rules.specs.declared.Refusal.TheVariants.{RecordsLength, OutputLength}
use Rattle.rules.proofs.Static.{and_both}
use Rattle.rules.proofs.Kids.{not_not, or_none}
use Rattle.rules.proofs.Verdicts.{both_fine, if_fine}
use Rattle.promises.proofs.CallLaws.{state_well}
use Rattle.watch.specs.Lent.{run_fits}
use Rattle.watch.proofs.Calling.{fits_most}
use Rattle.steps.specs.Going.{Leaves}
use Rattle.watched.specs.Watch.{list_wrong, list_fault, shown_from, records_fit, rooms_fit, watch_lent, watch_room, WatchOutcome, as_run, off_list, watch_listed, watch_accepted, watch_judged, watch_call}
use Rattle.watched.specs.declared.ListFault.{ListFault}
use Rattle.watched.specs.declared.ListFault.TheVariants.{ListLength, ListEntry}
use Rattle.peeking.specs.Left.{LeavesAll}

pub out_off : (recs : Bytes) (l : List ℕ) (out room : Bytes) → (length out ≡ 8 * (length recs / 40) → ⊥) → false ≡ rooms_fit recs l out room
unfolding rooms_fit ◌and◌
out_off recs l out room e = rw (ne_eqb (length out) (8 * (length recs / 40)) e)

pub out_on : (recs : Bytes) (l : List ℕ) (out room : Bytes) → length out ≡ 8 * (length recs / 40)
    → eqb (length room) (8 * length l * (length recs / 40)) ≡ rooms_fit recs l out room
unfolding rooms_fit ◌and◌
out_on recs l out room e = rw (eq-eqb (length out) (8 * (length recs / 40)) e)

pub wide : (w d : ℕ) → w ≤ 64 → w * d ≤ 64 * d
wide w d h = mul-le-mul {n₁ = w} {m₁ = d} {n₂ = 64} {m₂ = d} h (omega arith)

-- A list that is not too long.
pub list_most : (l : List ℕ) → list_wrong l ≡ false → length l ≤ 8
unfolding list_wrong
list_most l e = ltb-false 8 (length l) (or_none _ _ e).1

-- Codes 9, 15, 10 and 11 found nothing.
pub record Fits (p st recs : Bytes) (l : List ℕ) (out room : Bytes) : Type 0 where
  pub well : well_formed p st ≡ true
  pub most : length recs ≤ 163840
  pub output : length out ≡ 8 * (length recs / 40)
  pub second : length room ≡ 8 * length l * (length recs / 40)

as_run_lem : (recs : Bytes) → records_fit recs ≡ true → length recs ≤ 163840
unfolding records_fit run_fits
as_run_lem recs e = fits_most recs e

pub lent_fine : (p st recs : Bytes) (l : List ℕ) (out room : Bytes) → watch_lent p st recs l out room ≡ Ok tt → Fits p st recs l out room
unfolding watch_lent rooms_fit
lent_fine p st recs l out room e =
    let a = both_fine _ _ e in
    let b = both_fine _ _ a.1 in
    let c = and_both _ _ (not_not _ (if_fine _ _ b.1)) in
    record {
      well = state_well p st a.0;
      most = as_run_lem recs (not_not _ (if_fine _ _ b.0));
      output = eqb-true _ _ c.0;
      second = eqb-true _ _ c.1;
    }

-- The verdict, from what its parts were found to be.
pub lent_said : (p st recs : Bytes) (l : List ℕ) (out room : Bytes) {fit right : Bool} {state records output rest all : Verdict} → state ≡ state_verdict p st
    → fit ≡ run_fits recs → right ≡ rooms_fit recs l out room → records ≡ refuse_if (not fit) RecordsLength → output ≡ refuse_if (not right) OutputLength
    → rest ≡ (records otherwise output) → all ≡ (state otherwise rest) → all ≡ watch_lent p st recs l out room
unfolding watch_lent records_fit run_fits
lent_said p st recs l out room es ef er ec eo et h = cc

-- So the first of the three that finds something is the fault, and after two that find nothing the third says which.
pub state_stops : (p st recs : Bytes) (l : List ℕ) (out room : Bytes) {state : Verdict} {r : Refusal} → state ≡ state_verdict p st → state ≡ Err r
    → Err r ≡ watch_lent p st recs l out room
unfolding ◌otherwise◌
state_stops p st recs l out room es e = lent_said p st recs l out room es refl refl refl refl refl (rw e)

pub records_stop : (p st recs : Bytes) (l : List ℕ) (out room : Bytes) {fit : Bool} {state records : Verdict} {r : Refusal} → state ≡ state_verdict p st
    → state ≡ Ok tt → fit ≡ run_fits recs → records ≡ refuse_if (not fit) RecordsLength → records ≡ Err r → Err r ≡ watch_lent p st recs l out room
unfolding ◌otherwise◌
records_stop p st recs l out room es e ef ec f = lent_said p st recs l out room es ef refl ec refl refl (rw (e, f))

pub output_said : (p st recs : Bytes) (l : List ℕ) (out room : Bytes) {fit right : Bool} {state records r : Verdict} → state ≡ state_verdict p st
    → state ≡ Ok tt → fit ≡ run_fits recs → records ≡ refuse_if (not fit) RecordsLength → records ≡ Ok tt → right ≡ rooms_fit recs l out room
    → r ≡ refuse_if (not right) OutputLength → r ≡ watch_lent p st recs l out room
unfolding ◌otherwise◌
output_said p st recs l out room es e ef ec f er eo = lent_said p st recs l out room es ef er ec eo refl (rw (e, f))

-- What is left of the second room, by what is lent.
pub room_lent : (p st recs : Bytes) (l : List ℕ) (room : Bytes) (v : Verdict) {r : Refusal} → v ≡ Err r → room ≡ watch_room p st recs l room v
unfolding watch_room
room_lent p st recs l room v e = rw e

module _ (p st recs : Bytes) (l : List ℕ) (out room : Bytes) where
  -- What a run of the right list leaves, by what is lent.
  pub listed_run : (v : Verdict) → v ≡ Ok tt → {r : RunAnswer} {st₁ out₁ room₁ : Bytes} → Leaves (run_from p recs (length recs / 40) 0 0 no_step st out) r st₁ out₁
      → room₁ ≡ shown_from p recs l (length recs / 40) 0 st room → Leaves (run_outcome p st recs out v) r st₁ out₁ × (room₁ ≡ watch_room p st recs l room v)
  unfolding run_outcome watch_room
  listed_run v e w f = rw e (w, f)

  -- By the first entry that is off.
  pub entry_refused : (q : Option ℕ) {j : ℕ} → q ≡ Some j → LeavesAll (watch_listed p st recs l out room q) (Err (ListEntry j)) st out room
  unfolding watch_listed off_list
  entry_refused q e = rw e (record { answer_is = refl; state_is = refl; output_is = refl; room_is = refl })

  pub entries_run : (q : Option ℕ) → q ≡ None → {r : RunAnswer} {st₁ out₁ room₁ : Bytes}
      → Leaves (run_outcome p st recs out (watch_lent p st recs l out room)) r st₁ out₁
      → room₁ ≡ watch_room p st recs l room (watch_lent p st recs l out room) → LeavesAll (watch_listed p st recs l out room q) (Ok r) st₁ out₁ room₁
  unfolding watch_listed as_run
  entries_run q e w f = rw e (record { answer_is = ap Ok w.answer_is; state_is = w.state_is; output_is = w.output_is; room_is = f })

  -- By the list's length.
  pub length_refused : list_wrong l ≡ true → LeavesAll (watch_accepted p st recs l out room) (Err ListLength) st out room
  unfolding watch_accepted off_list
  length_refused e = rw e (record { answer_is = refl; state_is = refl; output_is = refl; room_is = refl })

  pub list_tried : list_wrong l ≡ false → {a : Result RunAnswer ListFault} {st₁ out₁ room₁ : Bytes}
      → LeavesAll (watch_listed p st recs l out room (list_fault p l)) a st₁ out₁ room₁ → LeavesAll (watch_accepted p st recs l out room) a st₁ out₁ room₁
  unfolding watch_accepted
  list_tried e w = rw e w

  -- By the program's verdict.
  pub program_refused : {r : Refusal} → program_verdict p ≡ Err r
      → watch_call p st recs l out room ≡ record { answer = Ok (refused_after r 0 no_step); state = st; output = out; room = room }
  unfolding watch_call watch_judged as_run run_outcome
  program_refused e = rw e

  pub program_accepted : program_verdict p ≡ Ok tt → watch_call p st recs l out room ≡ watch_accepted p st recs l out room
  unfolding watch_call watch_judged
  program_accepted e = rw e

  -- The call's answer and what it leaves, part by part.
  pub refused_parts : {r : Refusal} → program_verdict p ≡ Err r → (Ok (refused_after r 0 no_step) ≡ (watch_call p st recs l out room).answer)
      × (st ≡ (watch_call p st recs l out room).state) × (out ≡ (watch_call p st recs l out room).output) × (room ≡ (watch_call p st recs l out room).room)
  refused_parts e =
      let same = sym (program_refused e) in
      (ap (λ (o : WatchOutcome). o.answer) same, ap (λ (o : WatchOutcome). o.state) same, ap (λ (o : WatchOutcome). o.output) same, ap (λ (o : WatchOutcome). o.room) same)

  pub accepted_parts : program_verdict p ≡ Ok tt → {a : Result RunAnswer ListFault} {st₁ out₁ room₁ : Bytes} → LeavesAll (watch_accepted p st recs l out room) a st₁ out₁ room₁
      → (a ≡ (watch_call p st recs l out room).answer) × (st₁ ≡ (watch_call p st recs l out room).state) × (out₁ ≡ (watch_call p st recs l out room).output)
      × (room₁ ≡ (watch_call p st recs l out room).room)
  accepted_parts e w =
      let same = sym (program_accepted e) in (
        w.answer_is ∙ ap (λ (o : WatchOutcome). o.answer) same,
        w.state_is ∙ ap (λ (o : WatchOutcome). o.state) same,
        w.output_is ∙ ap (λ (o : WatchOutcome). o.output) same,
        w.room_is ∙ ap (λ (o : WatchOutcome). o.room) same,
      )
