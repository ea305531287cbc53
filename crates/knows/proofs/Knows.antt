-- g): the sum of all block checks, which a state carries: how large it is, who writes it, and what a run answers where it is another one.
-- Assumes nothing.
use Rattle.std.specs.Prelude.{Ok, Err}
use Rattle.rules.specs.Verdicts.{Verdict}
use mathlib.Core.Path.{◌≡◌, refl, sym, ap, ◌∙◌}
use mathlib.Core.Bool.{Bool, true}
use Prim.Native.Nat.{◌/◌, ◌%◌, ◌≤◌}
use lib.Dec.{eqb, leb}
use lib.ListN.{length}
use borrow.Author.Tests.{eq-eqb, ne_eqb}
use Rattle.rules.specs.Bytes.{Bytes, ◌and◌}
use Rattle.rules.specs.Layout.{input_length, cells, cell_at, checks_of, state_length, sum_in}
use Rattle.rules.specs.Reset.{start_state}
use Rattle.rules.specs.WellFormed.{long_as_cells, knows_program, well_formed}
use Rattle.rules.specs.Accepted.{Accepted}
use Rattle.rules.specs.Calls.{◌otherwise◌, refuse_if, state_verdict, lent_verdict, RunOutcome, run_outcome, run_call}
use Rattle.rules.specs.declared.Refusal.{Refusal}
use Rattle.rules.proofs.Verdicts.{both_fine, accepted, fine_verdict}
use Rattle.promises.specs.Small.{Small}
use Rattle.promises.specs.GoesOn.{GoesOn}
use Rattle.promises.proofs.Checks.{checks_most}
use Rattle.promises.proofs.Steps.{well_parts}
use Rattle.promises.proofs.CallLaws.{state_well}
use Rattle.promises.proofs.Promises.{goes_on}
use Rattle.knows.specs.Restored.{Restored, told_apart}

-- The sum of all block checks of an accepted program is at most 791,230,320, so nothing wraps.
pub most_sum : (p : Bytes) → Small p → Accepted p → checks_of p ≤ 791230320
most_sum p s acc = checks_most p s acc.formed

-- A well-formed state carries its program's sum, and the start state is one.
pub carries : (p st : Bytes) → well_formed p st ≡ true → sum_in st ≡ checks_of p
carries p st e = (well_parts p st e).stamped

pub start_carries : (p : Bytes) → Small p → Accepted p → sum_in (start_state p) ≡ checks_of p
start_carries p s acc = carries p (start_state p) (goes_on p s acc).started.well

-- The records fit a run.
fits : Bytes → Bool
fits recs = eqb (length recs % input_length) 0 and leb (length recs / input_length) 4096

-- What is lent without a fault is an accepted program and a well-formed state.
lent : (p st recs out : Bytes) → lent_verdict p st recs out (fits recs) ≡ Ok tt → Accepted p × (well_formed p st ≡ true)
unfolding lent_verdict
lent p st recs out e =
    let a = both_fine _ _ e in
    (accepted p a.0, state_well p st (both_fine _ _ a.1).0)

-- A fault in what is lent leaves the state as it was.
unmoved : (p st recs out : Bytes) (r : Refusal) → lent_verdict p st recs out (fits recs) ≡ Err r → (run_call p st recs out).state ≡ st
unfolding run_call run_outcome fits
unmoved p st recs out r e = rw e

-- No run writes over the sum, whatever it is lent: refused or not, it leaves the sum that the state came with.
pub run_leaves_sum : (p st recs out : Bytes) → Small p → Small st → Small recs → sum_in (run_call p st recs out).state ≡ sum_in st
run_leaves_sum p st recs out hp hs hr = go _ refl
  where
    go : (v : Verdict) → lent_verdict p st recs out (fits recs) ≡ v → sum_in (run_call p st recs out).state ≡ sum_in st
    go (Err r) e = ap sum_in (unmoved p st recs out r e)
    go (Ok _) e =
        let l = lent p st recs out e in
        let left = (goes_on p hp l.0).run_leaves st recs out (record { bytes = hs; well = l.1 }) hr in
        carries p _ left.well ∙ sym (carries p st l.1)

-- A state of the right length with a wrong sum is refused by 15, whatever its time and its cells hold and whatever else the run is lent.
pub other_program : (p st recs out : Bytes) → Accepted p → length st ≡ state_length p → (sum_in st ≡ checks_of p → ⊥)
    → run_call p st recs out ≡ told_apart st out
unfolding run_call run_outcome lent_verdict state_verdict long_as_cells knows_program ◌otherwise◌ refuse_if
other_program p st recs out acc l d = rw (fine_verdict p acc, eq-eqb _ _ l, ne_eqb _ _ d)

-- As many cells, as long a state.
as_long : (p q : Bytes) → cells p ≡ cells q → state_length p ≡ state_length q
unfolding state_length
as_long p q e = ap cell_at e

-- One crossing's state under another's program with the same cells is refused by 15, and stays as it was.
pub restored : (p q st recs out : Bytes) → Restored p q st → run_call q st recs out ≡ told_apart st out
restored p q st recs out r =
    let w = well_parts p st r.well in
    other_program q st recs out r.accepts (w.long ∙ as_long p q r.same_cells) (λ e. r.other_sum (sym w.stamped ∙ e))
