-- Every accepted program goes on answering.
-- Assumes nothing.
use Rattle.std.specs.Prelude.{Ok, Err}
use Rattle.rules.specs.Verdicts.{Verdict, accepted_with}
use mathlib.Core.Path.{◌≡◌, refl, sym}
use Prim.Native.Nat.{ℕ, ◌+◌, ◌*◌, ◌≤◌}
use native.Mathlib.Nat.{mul-le-mul}
use native.Mathlib.Omega.{arith}
use Rattle.rules.specs.Bytes.{Bytes}
use Rattle.rules.specs.Layout.{nodes, cells}
use Rattle.rules.specs.Tree.{root}
use Rattle.rules.specs.Typing.{type_s}
use Rattle.rules.specs.Bound.{bound}
use Rattle.rules.specs.Calls.{program_verdict, check_answer, check_call, run_call}
use Rattle.rules.specs.Accepted.{Accepted}
use Rattle.rules.proofs.Verdicts.{accepted}
use Rattle.rules.proofs.Rooted.{some_node, shaped_of}
use Rattle.rules.proofs.Once.{bound_small}
use Rattle.rules.proofs.Same.{same_accepted}
use Rattle.promises.specs.Small.{Small}
use Rattle.promises.specs.Seated.{Seated}
use Rattle.promises.specs.GoesOn.{GoesOn}
use Rattle.promises.proofs.FromTable.{seated}
use Rattle.promises.proofs.Start.{start_made}
use Rattle.promises.proofs.Steps.{step_goes_on}
use Rattle.promises.proofs.CallLaws.{start_goes_on, run_goes_on, run_keeps, run_total}

-- No bound exceeds 1,008 times 1,009.
pub most_bound : (p : Bytes) → Accepted p → bound p ≤ 1008 * 1009
most_bound p acc =
    let few : nodes p ≤ 1008 = (shaped_of p acc).small in
    omega (
      arith,
      bound_small p acc.formed.length_right acc.shape_right (some_node p acc.formed),
      mul-le-mul {n₁ = nodes p} {m₁ = nodes p + 1} {n₂ = 1008} {m₂ = 1009} few (omega arith),
    )

-- Demand 3, for a program that is a list of bytes.
pub goes_on : (p : Bytes) → Small p → Accepted p → GoesOn p
goes_on p small acc =
    let seat : Seated p = seated p small acc in
    record {
      bounded = bound_small p acc.formed.length_right acc.shape_right (some_node p acc.formed);
      starts = λ st l. start_goes_on p st acc l;
      started = record { bytes = (start_made p seat).bytes; well = (start_made p seat).well };
      makes = λ st rec s h t. step_goes_on p rec st acc seat s.well s.bytes h t;
      runs = λ st recs out s h. run_goes_on p st recs out acc seat s.well s.bytes h;
      run_leaves = λ st recs out s h.
          run_keeps p st recs out (run_call p st recs out) s (run_goes_on p st recs out acc seat s.well s.bytes h);
      totals = λ st recs out s h.
          run_total p st recs out (run_call p st recs out) (most_bound p acc) s (run_goes_on p st recs out acc seat s.well s.bytes h);
    }

-- What check answers of an accepted program: the bound and the type are those that every step keeps to.
pub record Answered (p : Bytes) (count cellCount most type : ℕ) : Type 0 where
  pub accepts : Accepted p
  pub count_is : count ≡ nodes p
  pub cells_is : cellCount ≡ cells p
  pub most_is : most ≡ bound p
  pub type_is : type ≡ type_s (root p)

-- An answer that accepts says what it stands for.
pub answered : (p : Bytes) (count cellCount most type : ℕ) → check_call p ≡ accepted_with count cellCount most type
    → Answered p count cellCount most type
unfolding check_call check_answer
answered p count cellCount most type e = go (program_verdict p) refl e
  where
    go : (v : Verdict) → program_verdict p ≡ v → check_answer p v ≡ accepted_with count cellCount most type → Answered p count cellCount most type
    go (Ok _) f e =
        let s = same_accepted e in
        record { accepts = accepted p f; count_is = sym s.0; cells_is = sym s.1; most_is = sym s.2; type_is = sym s.3 }
    go (Err r) f e = absurd (let z : ◌≡◌ {A = ℕ} 0 1 = cc in omega arith)
