-- What the call answers, by the room and by the verdict.
-- Assumes nothing.
use Rattle.std.specs.Prelude.{Ok, Err, Some, None}
use mathlib.Core.Path.{◌≡◌, refl, sym, ap, ◌∙◌}
use mathlib.Core.List.{List}
use Prim.Native.Nat.{ℕ}
use lib.ListN.{length}
use borrow.Author.Tests.{eq-eqb, ne_eqb}
use Rattle.rules.specs.Bytes.{Bytes}
use Rattle.rules.specs.Calls.{program_verdict}
use Rattle.rules.specs.declared.Refusal.{Refusal}
use Rattle.chains.specs.declared.NoChain.{NoChain}
use Rattle.chains.specs.declared.NoChain.TheVariants.{NoLet, RoomLength}
use Rattle.chains.specs.Chain.{chain_of}
use Rattle.chains.specs.Explain.{ExplainOutcome, let_of, filled, explain_let, explain_at, explain_outcome, explain_call}

pub wrong_room : (p : Bytes) (room : List ℕ) (n : ℕ) → (length room ≡ 1008 → ⊥) → explain_let p room n ≡ record { answer = Err RoomLength; room = room }
unfolding explain_let
wrong_room p room n d = rw (ne_eqb (length room) 1008 d) refl

pub right_room : (p : Bytes) (room : List ℕ) (n : ℕ) → length room ≡ 1008
    → explain_let p room n ≡ record { answer = Ok (record { of = n; entries = length (chain_of p n) }); room = filled (chain_of p n) }
unfolding explain_let
right_room p room n e = rw (eq-eqb (length room) 1008 e) refl

pub a_let : (p : Bytes) (room : List ℕ) (r : Refusal) (n : ℕ) → let_of r ≡ Some n → explain_at p room r (let_of r) ≡ explain_let p room n
unfolding explain_at
a_let p room r n e = ap (explain_at p room r) e

pub no_let : (p : Bytes) (room : List ℕ) (r : Refusal) → let_of r ≡ None → explain_at p room r (let_of r) ≡ record { answer = Err (NoChain.Refused r); room = room }
unfolding explain_at
no_let p room r e = ap (explain_at p room r) e

pub refused_so : (p : Bytes) (room : List ℕ) (r : Refusal) → program_verdict p ≡ Err r → explain_call p room ≡ explain_at p room r (let_of r)
unfolding explain_call explain_outcome
refused_so p room r e = ap (explain_outcome p room) e

pub fine_so : (p : Bytes) (room : List ℕ) → program_verdict p ≡ Ok tt → explain_call p room ≡ record { answer = Err NoLet; room = room }
unfolding explain_call explain_outcome
fine_so p room e = ap (explain_outcome p room) e
