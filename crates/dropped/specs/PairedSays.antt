-- What the call of request n promises, in document 02's words: the first refusal that applies, and accepted exactly when the rule holds.
-- Assumes nothing: these are definitions.
use Rattle.std.specs.Prelude.{◌≡◌, true, false, ℕ, ◌<◌, length, Result, Ok, Err}
use Rattle.rules.specs.Bytes.{Bytes}
use Rattle.rules.specs.Layout.{edition, nodes}
use Rattle.rules.specs.Accepted.{Accepted}
use Rattle.rules.specs.Calls.{program_verdict}
use Rattle.rules.specs.declared.Refusal.{Refusal}
use Rattle.dropped.specs.Pairing.{Pairing, old_of, entry_right}
use Rattle.dropped.specs.Rule.{Rule}
use Rattle.dropped.specs.declared.Unpaired.{Unpaired}
use Rattle.dropped.specs.declared.Unpaired.TheVariants.{OldRefused, NewRefused, EditionsDiffer, PairingLength, EntryWrong}

-- Two accepted programs of one edition, and a pairing with an entry for each new node.
pub record Fit (p q : Bytes) (pairing : Pairing) : Type 0 where
  pub old_accepted : Accepted p
  pub new_accepted : Accepted q
  pub one_edition : edition p ≡ edition q
  pub long : length pairing ≡ nodes q

-- What an answer says.
pub data Says (p q : Bytes) (pairing : Pairing) : Result (Unit {0}) Unpaired → Type 0 where
  old_wrong : (r : Refusal) → program_verdict p ≡ Err r → Says p q pairing (Err (OldRefused r))
  new_wrong : (r : Refusal) → Accepted p → program_verdict q ≡ Err r → Says p q pairing (Err (NewRefused r))
  editions : Accepted p → Accepted q → (edition p ≡ edition q → ⊥) → Says p q pairing (Err EditionsDiffer)
  not_long : Accepted p → Accepted q → edition p ≡ edition q → (length pairing ≡ nodes q → ⊥) → Says p q pairing (Err PairingLength)
  first_wrong : (i : ℕ) → Fit p q pairing → i < nodes q → entry_right p q (old_of pairing) i ≡ false
      → ((j : ℕ) → j < i → entry_right p q (old_of pairing) j ≡ true) → Says p q pairing (Err (EntryWrong i))
  by_rule : Fit p q pairing → Rule p q (old_of pairing) → Says p q pairing (Ok tt)

-- A call that keeps the promise for every input.
pub record Pairs (call : Bytes → Bytes → Pairing → Result (Unit {0}) Unpaired) : Type 0 where
  pub as_promised : (p q : Bytes) (pairing : Pairing) → Says p q pairing (call p q pairing)
