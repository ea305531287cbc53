-- The call beside the check of the same program; and any two calls that keep the promise are one.
-- Assumes nothing.
use Rattle.std.specs.Prelude.{Ok, None, Err}
use Rattle.rules.specs.Verdicts.{Verdict, accepted_with}
use mathlib.Core.Path.{◌≡◌, refl, sym, ap, subst, ◌∙◌}
use mathlib.Core.List.{List, [], ◌∷◌}
use Prim.Native.Nat.{ℕ, ◌<◌}
use native.Mathlib.Omega.{arith}
use lib.ListN.{length}
use Rattle.rules.specs.Bytes.{Bytes}
use Rattle.rules.specs.Layout.{a_at, most_nodes}
use Rattle.rules.specs.Answers.{code_of}
use Rattle.rules.specs.Calls.{program_verdict, check_answer, check_call}
use Rattle.rules.specs.declared.Refusal.{Refusal}
use Rattle.rules.specs.declared.Refusal.TheVariants.{ProgramLength, CheckSum, BlockNumber, RecordFault, ShapeFault, ScopeFault, TypeFault, NotReady, StateFault, RecordsLength, OutputLength, InputFault, TimeBack, OtherProgram}
use Rattle.chains.specs.declared.NoChain.TheVariants.{NoLet, RoomLength}
use Rattle.chains.specs.Chain.{chain_of}
use Rattle.chains.specs.Explain.{ExplainOutcome, let_of, filled, explain_let, explain_at, explain_outcome, explain_call}
use Rattle.chains.specs.Explains.{Explaining, Told, AsAsked}
use Rattle.chains.proofs.CallLaws.{wrong_room, right_room, a_let, no_let, refused_so, fine_so}
use Rattle.chains.proofs.ByVerdict.{explainable}

-- Two calls that keep the promise are equal at every input.
pub one_explain : {f g : Bytes → List ℕ → ExplainOutcome} → Explaining f → Explaining g → (p : Bytes) (room : List ℕ) → f p room ≡ g p room
one_explain a b p room = a.as_ruled p room ∙ sym (b.as_ruled p room)

-- What check answers is its verdict.
refused_verdict : (p : Bytes) (r : Refusal) → check_call p ≡ Err r → program_verdict p ≡ Err r
unfolding check_call check_answer
refused_verdict p r e = go (program_verdict p) e
  where
    go : (v : Verdict) → check_answer p v ≡ Err r → v ≡ Err r
    go (Ok _) e = cc
    go (Err q) e = cc

fine_verdict : (p : Bytes) (n cells bound type : ℕ) → check_call p ≡ accepted_with n cells bound type → program_verdict p ≡ Ok tt
unfolding check_call check_answer
fine_verdict p n cells bound type e = go (program_verdict p) e
  where
    go : (v : Verdict) → check_answer p v ≡ accepted_with n cells bound type → v ≡ Ok tt
    go (Ok _) e = refl
    go (Err q) e = cc

-- A code below 8 names no let.
none_below : (r : Refusal) → code_of r < 8 → let_of r ≡ None
none_below ProgramLength h = refl
none_below (CheckSum j) h = refl
none_below (BlockNumber j) h = refl
none_below (RecordFault j) h = refl
none_below (ShapeFault j) h = refl
none_below (ScopeFault j) h = refl
none_below (TypeFault j) h = refl
none_below (NotReady j) h = absurd (omega arith)
none_below StateFault h = refl
none_below RecordsLength h = refl
none_below OutputLength h = refl
none_below (InputFault j) h = refl
none_below (TimeBack j) h = refl
none_below OtherProgram h = refl

-- A program that code 8 refuses at x.
at_let : (p : Bytes) (room : List ℕ) (x : ℕ) → program_verdict p ≡ Err (NotReady x) → explain_call p room ≡ explain_let p room x
at_let p room x e = refused_so p room (NotReady x) e ∙ a_let p room (NotReady x) x refl

told : (p : Bytes) (room : List ℕ) (x : ℕ) → program_verdict p ≡ Err (NotReady x) → length room ≡ most_nodes → Told p x (explain_call p room)
unfolding filled
told p room x e l =
    let w = (explainable p (NotReady x) x e refl).named_so in
    let h = w.explained in
    let o = at_let p room x e ∙ right_room p room x l in
    record {
      is_let = w.is_let;
      not_ready = w.not_ready;
      rest = h.rest;
      first = h.first;
      answered = ap (λ (q : ExplainOutcome). q.answer) o ∙ ap (λ (ns : List ℕ). Ok (record { of = x; entries = length ns })) h.is;
      written = ap (λ (q : ExplainOutcome). q.room) o ∙ ap filled h.is;
    }

pub as_asked : (p : Bytes) (room : List ℕ) → AsAsked p room
as_asked p room = record {
  early = λ r e h. refused_so p room r (refused_verdict p r e) ∙ no_let p room r (none_below r h);
  no_let = λ n cells bound type e. fine_so p room (fine_verdict p n cells bound type e);
  wrong_room = λ x e d. at_let p room x (refused_verdict p (NotReady x) e) ∙ wrong_room p room x d;
  explained = λ x e l. told p room x (refused_verdict p (NotReady x) e) l;
}
