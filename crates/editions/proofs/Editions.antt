-- A table that edition one does not refuse by code 6 is answered in edition two as in edition one: verdict, outputs, work and next states.
-- Assumes nothing.
use Rattle.std.specs.Prelude.{if◌then◌else◌, Option, Some, None, Ok, Err, ℕ}
use Rattle.rules.specs.Verdicts.{Verdict, accepted_with, refused_after}
use mathlib.Core.Path.{◌≡◌, refl, sym, ap, ◌∙◌}
use mathlib.Core.Bool.{Bool, true, false, not}
use mathlib.Core.List.{[], ◌++◌}
use Prim.Native.Nat.{ℕ, zero, suc, ◌+◌, ◌*◌, ◌/◌, ◌%◌, ◌<◌, ◌≤◌}
use native.Mathlib.Omega.{arith}
use lib.Dec.{eqb, leb}
use lib.ListN.{length, replicate}
use Rattle.rules.specs.Bytes.{Bytes, first_from, first, write_at, bytes_of, ◌and◌, ◌or◌}
use Rattle.rules.specs.Values.{value_bytes}
use Rattle.rules.specs.Layout.{blocks, records, nodes, cells, cell_at, state_length, start_header, edition, most_nodes, last_time, no_time, input_length, input_at}
use Rattle.rules.specs.Format.{length_wrong, sum_wrong, number_wrong, record_wrong}
use Rattle.rules.specs.Shape.{shape_wrong}
use Rattle.rules.specs.Tree.{Signal, root}
use Rattle.rules.specs.Scope.{unmarked, scope_s, scope_fault}
use Rattle.rules.specs.Typing.{type_s, types_s, type_fault}
use Rattle.rules.specs.Ready.{ready_s, ready_fault}
use Rattle.rules.specs.Reset.{reset_s, start_state}
use Rattle.rules.specs.WellFormed.{well_s, long_as_cells, rest_well, last_moment}
use Rattle.rules.specs.Bound.{bound_s, bound_u, bound}
use Rattle.rules.specs.Evaluate.{unbound, eval_s}
use Rattle.rules.specs.Update.{Stepped, Made, NotMade, upd_s, updated, evaluated, step_of}
use Rattle.rules.specs.Calls.{◌otherwise◌, refuse_if, refuse_at, program_verdict, check_answer, check_call, StartOutcome, start_outcome, start_call, record_verdict, RunOutcome, first_wrapped, run_from}
use Rattle.rules.specs.declared.Refusal.{Refusal}
use Rattle.rules.specs.declared.Refusal.TheVariants.{ProgramLength, CheckSum, BlockNumber, RecordFault, ShapeFault, ScopeFault, TypeFault, NotReady, StateFault, RecordsLength, OutputLength}
use Rattle.rules.proofs.Verdicts.{not_fine, accepted}
use Rattle.editions.specs.Twins.{InEdition, Twins, NotOutOfScope, SameCalls}
use Rattle.editions.proofs.SameTree.{Everywhere, nodes_same, cells_same, root_same}
use Rattle.editions.proofs.SameRules.{length_same, record_fault_same, shape_fault_same}
use Rattle.editions.proofs.Wider.{wider_s}
use Rattle.editions.proofs.Everywhere.{everywhere}

-- No place, where the test fails at all of them.
no_place : (test : ℕ → Bool) (left k : ℕ) → ((j : ℕ) → j < k + left → test j ≡ false) → first_from test k left ≡ None
unfolding first_from
no_place test zero k h = refl
no_place test (suc left) k h = rw (h k (omega arith), first_from) (no_place test left (suc k) λ j l. h j (omega arith))

none_of : (test : ℕ → Bool) (count : ℕ) → ((j : ℕ) → j < count → test j ≡ false) → first test count ≡ None
unfolding first
none_of test count h = no_place test count 0 λ j l. h j (omega arith)

-- Codes 4 and on, by the places of their faults.
from_records : Option ℕ → Option ℕ → Option ℕ → Option ℕ → Option ℕ → Verdict
from_records r shape scope types ready =
    refuse_at RecordFault r otherwise refuse_at ShapeFault shape otherwise refuse_at ScopeFault scope
    otherwise refuse_at TypeFault types otherwise refuse_at NotReady ready

-- A file whose blocks are right is refused by its length, or from code 4 on.
right_blocks : (e : ℕ) (p : Bytes) → InEdition e p → (b : Bool) → length_wrong p ≡ b
    → program_verdict p
    ≡ (if b then Err ProgramLength
    else from_records (first (record_wrong p) (records p)) (first (shape_wrong p) (nodes p)) (scope_fault p) (type_fault p) (ready_fault p))
unfolding program_verdict from_records refuse_if refuse_at ◌otherwise◌
right_blocks e p f true l = rw l
right_blocks e p f false l = rw (l, none_of (sum_wrong p) (blocks p) f.sums, none_of (number_wrong p) (blocks p) f.numbers)

-- Where edition one has no fault of scope before it, the codes from 4 on are the same if scope's are.
same_from : (r shape scope₁ scope₂ types ready : Option ℕ) → (scope₁ ≡ None → scope₂ ≡ None)
    → ((n : ℕ) → from_records r shape scope₁ types ready ≡ Err (ScopeFault n) → ⊥)
    → from_records r shape scope₂ types ready ≡ from_records r shape scope₁ types ready
unfolding from_records refuse_at ◌otherwise◌
same_from (Some n) shape scope₁ scope₂ types ready f no₀ = refl
same_from None (Some n) scope₁ scope₂ types ready f no₀ = refl
same_from None None (Some n) scope₂ types ready f no₀ = absurd (no₀ n refl)
same_from None None None scope₂ types ready f no₀ = rw (f refl)

module _ (p q : Bytes) (s : Everywhere p q) where
  check_same : (v : Verdict) → check_answer q v ≡ check_answer p v
  unfolding check_answer bound
  check_same (Ok _) =
      let r = root_same p q s in
      sym (λ i. accepted_with (nodes_same p q s i) (cells_same p q s i) (bound_s (r i) + bound_u (r i)) (type_s (r i)))
  check_same (Err r) = refl

  length_of : state_length p ≡ state_length q
  unfolding state_length
  length_of = λ i. cell_at (cells_same p q s i)

  start_same : start_state p ≡ reset_s (root q) (start_header p ++ replicate (8 * cells q) 0)
  unfolding start_state
  start_same = λ i. reset_s (root_same p q s i) (start_header p ++ replicate (8 * cells_same p q s i) 0)

  started_same : (st : Bytes) (v : Verdict) → (start_outcome q st v).answer ≡ (start_outcome p st v).answer
  unfolding start_outcome
  started_same st (Ok _) = refl
  started_same st (Err r) = refl

  long_same : (st : Bytes) → long_as_cells q st ≡ long_as_cells p st
  unfolding long_as_cells
  long_same st = λ i. eqb (length st) (sym length_of i)

  rest_same : (st : Bytes) → rest_well q st ≡ rest_well p st
  unfolding rest_well
  rest_same st = λ i. (eqb (last_time st) no_time or leb (last_time st) last_moment) and well_s st (sym (root_same p q s) i)

  step_same : (rec st : Bytes) → step_of p rec st ≡ step_of q rec st
  unfolding step_of
  step_same rec st =
      let r = root_same p q s in
      λ i. evaluated (eval_s rec st (unbound most_nodes) (r i)) λ v u. updated v u rec (upd_s rec (unbound most_nodes) (r i) st)

  run_same : (recs : Bytes) (left done work mark : ℕ) (st out : Bytes) → run_from p recs left done work mark st out ≡ run_from q recs left done work mark st out
  unfolding run_from
  run_same recs zero done work mark st out = refl
  run_same recs (suc left) done work mark st out =
      let f = step_same (input_at recs done) st in
      λ i.
      elim (record_verdict done st (input_at recs done)) [
        | Err r ↦ record { answer = refused_after r work mark; state = st; output = out }
        | Ok _ ↦
            elim (f i) [
              | Made v st₁ w ↦ run_same recs left (suc done) (work + w.work) (first_wrapped mark done w) st₁ (write_at out (8 * done) (value_bytes v)) i
              | NotMade ↦ record { answer = refused_after StateFault work mark; state = st; output = out }
            ]
      ]

  -- With one verdict, both answer alike.
  calls_same : program_verdict q ≡ program_verdict p → SameCalls p q
  unfolding check_call start_call
  calls_same e =
      record {
        checks = ap (check_answer q) e ∙ check_same (program_verdict p);
        starts = λ st.
            (λ i. (start_outcome q st (e i otherwise refuse_if (not (eqb (length st) (sym length_of i))) StateFault)).answer)
            ∙ started_same st (program_verdict p otherwise refuse_if (not (eqb (length st) (state_length p))) StateFault);
        start_states = start_same;
        states = λ st. (long_same st, rest_same st);
        steps = λ rec st. sym (step_same rec st);
        runs = λ recs left done work mark st out. sym (run_same recs left done work mark st out);
      }

  -- Scope: none in edition one is none in edition two.
  scope_same : edition p ≡ 0 → edition q ≡ 1 → scope_fault p ≡ None → scope_fault q ≡ None
  unfolding scope_fault
  scope_same one two e =
      let tree = root_same p q s in
      let m = unmarked most_nodes in
      (λ i. scope_s (two i) m [] (sym tree i)) ∙ wider_s (root p) m [] [] (λ k h. h) ((λ i. scope_s (sym one i) m [] (root p)) ∙ e)

  verdict_same : Twins p q → length_wrong p ≡ false → NotOutOfScope p → program_verdict q ≡ program_verdict p
  unfolding type_fault ready_fault
  verdict_same t l no₀ =
      let tree = root_same p q s in
      let before = right_blocks 0 p t.one false l in
      let after = right_blocks 1 q t.two false (sym (length_same p q s) ∙ l) in
      after
      ∙ (λ i.
      from_records (sym (record_fault_same p q s) i) (sym (shape_fault_same p q s) i) (scope_fault q) (types_s (sym tree i)) (ready_s (sym tree i)))
      ∙ same_from _ _ (scope_fault p) (scope_fault q) _ _ (scope_same t.one.of_edition t.two.of_edition) (λ n e. no₀ n (before ∙ e))
      ∙ sym before

-- A table of whole blocks that is not out of scope in edition one: both answer alike. (Other lengths are refused by code 1.)
pub same_in_two : (p q : Bytes) → Twins p q → length_wrong p ≡ false → NotOutOfScope p → SameCalls p q
same_in_two p q t l no₀ = let s = everywhere p q t l in calls_same p q s (verdict_same p q s t l no₀)

-- In particular one that edition one accepts: edition two accepts it, and both answer alike.
pub accepted_in_two : (p q : Bytes) → Twins p q → program_verdict p ≡ Ok tt → (program_verdict q ≡ Ok tt) × SameCalls p q
accepted_in_two p q t e =
    let no₀ : NotOutOfScope p = λ n f. not_fine (sym f ∙ e) in
    let l = (accepted p e).formed.length_right in
    let s = everywhere p q t l in
    (verdict_same p q s t l no₀ ∙ e, same_in_two p q t l no₀)
