-- The call beside the check of the same program; and any two calls that keep the promise are one.
-- Assumes nothing.
use Rattle.std.specs.Prelude.{Ok, Err}
use Rattle.rules.proofs.Same.{same_accepted}
use Rattle.rules.specs.Verdicts.{Verdict, accepted_with}
use mathlib.Core.Path.{◌≡◌, refl, sym, ap, ◌∙◌}
use mathlib.Core.List.{List}
use Prim.Native.Nat.{ℕ, suc}
use Rattle.rules.specs.Bytes.{Bytes}
use Rattle.rules.specs.Layout.{cells}
use Rattle.rules.specs.Calls.{program_verdict, check_answer, check_call}
use Rattle.rules.specs.declared.Refusal.{Refusal}
use Rattle.promises.specs.Small.{Small}
use Rattle.mends.specs.MendCall.{MendOutcome}
use Rattle.mends.specs.Mends.{AsAsked, Mending}
use Rattle.mends.proofs.CallLaws.{program_refused, program_accepted, state_refused, state_known, wrong_length, wrong_sum, right_sum, wrong_room}
use Rattle.mends.proofs.Brought.{brings_back}

-- Two calls that keep the promise are equal at every input.
pub one_mend : {f g : Bytes → Bytes → List ℕ → MendOutcome} → Mending f → Mending g → (p st : Bytes) (room : List ℕ) → f p st room ≡ g p st room
one_mend a b p st room = a.as_ruled p st room ∙ sym (b.as_ruled p st room)

-- What check answers is its verdict, and its cells.
refused_verdict : (p : Bytes) (r : Refusal) → check_call p ≡ Err r → program_verdict p ≡ Err r
unfolding check_call check_answer
refused_verdict p r e = go (program_verdict p) e
  where
    go : (v : Verdict) → check_answer p v ≡ Err r → v ≡ Err r
    go (Ok _) e = cc
    go (Err q) e = cc

fine_verdict : (p : Bytes) (count held most type : ℕ) → check_call p ≡ accepted_with count held most type → (program_verdict p ≡ Ok tt) × (held ≡ cells p)
unfolding check_call check_answer
fine_verdict p count held most type e = go (program_verdict p) e
  where
    go : (v : Verdict) → check_answer p v ≡ accepted_with count held most type → (v ≡ Ok tt) × (held ≡ cells p)
    go (Ok _) e = (refl, sym (same_accepted e).1)
    go (Err q) e = (cc, cc)

-- The call, for every program, state and room of numbers that are bytes.
pub as_asked : (p st : Bytes) (room : List ℕ) → Small p → Small st → AsAsked p st room
as_asked p st room hp hs = record {
  refused = λ r c. program_refused p st room r (refused_verdict p r c);
  wrong_length = λ count held most type c d.
      program_accepted p st room (fine_verdict p count held most type c).0 ∙ state_refused p st room (wrong_length p st d);
  wrong_sum = λ count held most type c l d.
      program_accepted p st room (fine_verdict p count held most type c).0 ∙ state_refused p st room (wrong_sum p st l d);
  wrong_room = λ count held most type c l q d.
      let v = fine_verdict p count held most type c in
      program_accepted p st room v.0 ∙ state_known p st room (right_sum p st l q)
      ∙ wrong_room p st room (λ z. d (z ∙ ap suc (sym v.1)));
  brought = λ count held most type c l q e.
      let v = fine_verdict p count held most type c in
      brings_back p st room hp v.0 hs l q (e ∙ ap suc v.1);
}
