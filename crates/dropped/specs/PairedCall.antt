-- The call of request n: what it answers for every old table, new table and pairing.
-- Assumes nothing: these are definitions.
use Rattle.std.specs.Prelude.{ℕ, ◌+◌, Bool, not, List, [], ◌∷◌, length, eqb, if◌then◌else◌, Result, Ok, Err, Option, Some, None}
use Rattle.rules.specs.Verdicts.{Verdict}
use Rattle.rules.specs.Bytes.{Bytes}
use Rattle.rules.specs.Layout.{edition, nodes}
use Rattle.rules.specs.Answers.{code_of, place_of}
use Rattle.rules.specs.Calls.{program_verdict}
use Rattle.dropped.specs.declared.Unpaired.{Unpaired}
use Rattle.dropped.specs.declared.Unpaired.TheVariants.{OldRefused, NewRefused, EditionsDiffer, PairingLength, EntryWrong}
use Rattle.dropped.specs.Pairing.{Pairing, pairing_fault}

-- "29 for differing editions."
unfoldable pub editions_differ : Bytes → Bytes → Bool
editions_differ p q = not (eqb (edition p) (edition q))

-- "28 with the place of its first wrong entry."
unfoldable pub entries_answer : Option ℕ → Result (Unit {0}) Unpaired
entries_answer (Some i) = Err (EntryWrong i)
entries_answer None = Ok tt

-- "Then 29 for differing editions, 27 if the pairing has not one entry for each new node, 28": of two accepted programs.
unfoldable pub pairing_answer : Bytes → Bytes → Pairing → Result (Unit {0}) Unpaired
pairing_answer p q pairing =
    if editions_differ p q then Err EditionsDiffer
    else if eqb (length pairing) (nodes q) then entries_answer (pairing_fault p q pairing)
    else Err PairingLength

-- "1-8 for old, then for new."
unfoldable pub new_answer : Bytes → Bytes → Pairing → Verdict → Result (Unit {0}) Unpaired
new_answer p q pairing (Err r) = Err (NewRefused r)
new_answer p q pairing (Ok tt) = pairing_answer p q pairing

unfoldable pub old_answer : Bytes → Bytes → Pairing → Verdict → Result (Unit {0}) Unpaired
old_answer p q pairing (Err r) = Err (OldRefused r)
old_answer p q pairing (Ok tt) = new_answer p q pairing (program_verdict q)

unfoldable pub paired_call : Bytes → Bytes → Pairing → Result (Unit {0}) Unpaired
paired_call p q pairing = old_answer p q pairing (program_verdict p)

-- The answer as the paper's numbers: 0; or a code, its place and 0. New's codes have 32 added.
abbrev pub paired_numbers : Result (Unit {0}) Unpaired → List ℕ
paired_numbers (Ok tt) = 0 ∷ []
paired_numbers (Err (OldRefused r)) = code_of r ∷ place_of r ∷ 0 ∷ []
paired_numbers (Err (NewRefused r)) = (32 + code_of r) ∷ place_of r ∷ 0 ∷ []
paired_numbers (Err EditionsDiffer) = 29 ∷ 0 ∷ 0 ∷ []
paired_numbers (Err PairingLength) = 27 ∷ 0 ∷ 0 ∷ []
paired_numbers (Err (EntryWrong i)) = 28 ∷ i ∷ 0 ∷ []
