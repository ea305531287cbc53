-- What an accepted program gives the calls, and the calls by what was found.
-- Assumes nothing.
use Rattle.std.specs.Prelude.{Ok, Err}
use Rattle.rules.specs.declared.Checked.{Checked}
use Rattle.rules.specs.Verdicts.{CheckAnswer, RunAnswer, Verdict, accepted_with, refused_after}
use mathlib.Core.Path.{◌≡◌, refl}
use mathlib.Core.Bool.{Bool, true, not}
use Prim.Native.Nat.{ℕ, ◌-◌, ◌*◌, ◌/◌, ◌%◌, ◌≤◌, ◌<◌}
use native.Mathlib.Omega.{arith}
use lib.Dec.{eqb}
use lib.ListN.{length}
use borrow.Author.Tests.{eqb-true, leb-true}
use Rattle.rules.specs.Bytes.{Bytes, first}
use Rattle.rules.specs.Layout.{nodes, cells, checks_of, state_length}
use Rattle.rules.specs.Tree.{root}
use Rattle.rules.specs.Typing.{type_s}
use Rattle.rules.specs.Bound.{bound}
use Rattle.rules.specs.Accepted.{Accepted}
use Rattle.rules.specs.Calls.{◌otherwise◌, refuse_if, state_verdict, program_verdict, check_answer, check_call, start_outcome, start_call, lent_verdict, no_step, run_from, run_outcome, run_call}
use Rattle.rules.specs.WellFormed.{well_formed}
use Rattle.rules.specs.declared.Refusal.{Refusal}
use Rattle.rules.specs.declared.Refusal.TheVariants.{StateFault, RecordsLength, OutputLength}
use Rattle.rules.proofs.Static.{and_both}
use Rattle.rules.proofs.Kids.{not_not}
use Rattle.rules.proofs.Verdicts.{both_fine, if_fine}
use Rattle.steps.specs.Going.{Leaves}
use Rattle.promises.specs.Small.{Small}
use Rattle.promises.proofs.FromTable.{seated}
use Rattle.promises.proofs.CallLaws.{state_well}
use Rattle.watch.specs.Lent.{lent_rest, run_fits}

-- codes 9, 15, 10 and 11, by the first of the three that finds something
pub state_stops : (p st recs out : Bytes) (fit : Bool) {r : Refusal} → state_verdict p st ≡ Err r → Err r ≡ lent_rest p st recs out fit
unfolding lent_rest ◌otherwise◌
state_stops p st recs out fit e = rw e

pub records_stop : (p st recs out : Bytes) (fit : Bool) {r : Refusal} → state_verdict p st ≡ Ok tt → refuse_if (not fit) RecordsLength ≡ Err r
    → Err r ≡ lent_rest p st recs out fit
unfolding lent_rest ◌otherwise◌
records_stop p st recs out fit e f = rw (e, f)

pub output_said : (p st recs out : Bytes) (fit : Bool) {r : Verdict} → state_verdict p st ≡ Ok tt → refuse_if (not fit) RecordsLength ≡ Ok tt
    → r ≡ refuse_if (not (eqb (length out) (8 * (length recs / 40)))) OutputLength → r ≡ lent_rest p st recs out fit
unfolding lent_rest ◌otherwise◌
output_said p st recs out fit e f g = rw (e, f, g)

-- what an accepted program is answered, from its parts
pub parts_said : (p : Bytes) (found : Checked) → found.nodes ≡ nodes p → found.cells ≡ cells p → found.bound ≡ bound p → found.root ≡ type_s (root p)
    → ◌≡◌ {A = CheckAnswer} (Ok found) (accepted_with (nodes p) (cells p) (bound p) (type_s (root p)))
parts_said p found en ec eb et = λ i. Ok (record { nodes = en i; cells = ec i; bound = eb i; root = et i })

-- no fault first
pub fine_first : (v : Verdict) → ((Ok tt) otherwise v) ≡ v
unfolding ◌otherwise◌
fine_first v = refl

-- check, by the verdict
pub check_refused : (p : Bytes) (r : Refusal) → program_verdict p ≡ Err r → check_call p ≡ Err r
unfolding check_call check_answer
check_refused p r e = rw e

pub check_accepted : (p : Bytes) → program_verdict p ≡ Ok tt → check_call p ≡ accepted_with (nodes p) (cells p) (bound p) (type_s (root p))
unfolding check_call check_answer
check_accepted p e = rw e

-- start, by the verdict
pub start_refused : (p st : Bytes) (r : Refusal) → program_verdict p ≡ Err r → start_call p st ≡ record { answer = Err r; state = st }
unfolding start_call start_outcome ◌otherwise◌
start_refused p st r e = rw e

pub start_accepted : (p st : Bytes) → program_verdict p ≡ Ok tt
    → start_call p st ≡ start_outcome p st (refuse_if (not (eqb (length st) (state_length p))) StateFault)
unfolding start_call ◌otherwise◌
start_accepted p st e = rw e

-- run, by the verdict
pub run_refused : (p st recs out : Bytes) (r : Refusal) → program_verdict p ≡ Err r
    → run_call p st recs out ≡ record { answer = refused_after r 0 no_step; state = st; output = out }
unfolding run_call run_outcome lent_verdict ◌otherwise◌
run_refused p st recs out r e = rw e

pub run_accepted : (p st recs out : Bytes) → program_verdict p ≡ Ok tt
    → run_call p st recs out ≡ run_outcome p st recs out (lent_rest p st recs out (run_fits recs))
unfolding run_call lent_verdict lent_rest run_fits
run_accepted p st recs out e = rw (e, fine_first)

-- the sum of the checks of an accepted program is a number of 4 bytes
pub checks_fit : (p : Bytes) → Small p → Accepted p → checks_of p < 4294967296
checks_fit p s a = omega (arith, (seated p s a).stamp_small)

-- codes 9, 15, 10 and 11 found nothing
pub record Fits (p st recs out : Bytes) (fit : Bool) : Type 0 where
  pub well : well_formed p st ≡ true
  pub fitting : fit ≡ true
  pub room : length out ≡ 8 * (length recs / 40)

pub lent_fine : (p st recs out : Bytes) (fit : Bool) → lent_rest p st recs out fit ≡ Ok tt → Fits p st recs out fit
unfolding lent_rest
lent_fine p st recs out fit e =
    let a = both_fine _ _ e in
    let b = both_fine _ _ a.1 in
    record {
      well = state_well p st a.0;
      fitting = not_not _ (if_fine _ _ b.0);
      room = eqb-true _ _ (not_not _ (if_fine _ _ b.1));
    }

pub fits_most : (recs : Bytes) → run_fits recs ≡ true → length recs ≤ 163840
unfolding run_fits
fits_most recs e =
    let a = and_both _ _ e in
    let b : length recs % 40 ≡ 0 = eqb-true _ _ a.0 in
    let d : length recs / 40 ≤ 4096 = leb-true _ _ a.1 in
    omega arith

-- what a run leaves where one of them found something
pub run_lent : (p st recs out : Bytes) (v : Verdict) {r : Refusal} → v ≡ Err r → Leaves (run_outcome p st recs out v) (refused_after r 0 no_step) st out
unfolding run_outcome
run_lent p st recs out v e = rw e (record { answer_is = refl; state_is = refl; output_is = refl })

pub run_fits_lem : (p st recs out : Bytes) (v : Verdict) → v ≡ Ok tt → run_outcome p st recs out v ≡ run_from p recs (length recs / 40) 0 0 no_step st out
unfolding run_outcome
run_fits_lem p st recs out v e = rw e

-- and what it leaves where none of them did
pub run_went : (p st recs out : Bytes) (v : Verdict) → v ≡ Ok tt → {r : RunAnswer} {st₁ out₁ : Bytes}
    → Leaves (run_from p recs (length recs / 40) 0 0 no_step st out) r st₁ out₁ → Leaves (run_outcome p st recs out v) r st₁ out₁
run_went p st recs out v e l = rw (run_fits_lem p st recs out v e) l
