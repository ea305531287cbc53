-- The call: from the program and the lent room to the answer and the room after.
-- Assumes nothing: these are definitions.
use Rattle.std.specs.Prelude.{ℕ, ◌-◌, List, [], ◌∷◌, ◌++◌, eqb, length, replicate, if◌then◌else◌, Result, Ok, Err, Option, Some, None}
use Rattle.rules.specs.Verdicts.{Verdict}
use Rattle.rules.specs.Bytes.{Bytes}
use Rattle.rules.specs.Layout.{no_next, most_nodes}
use Rattle.rules.specs.Answers.{code_of, place_of}
use Rattle.rules.specs.Calls.{program_verdict}
use Rattle.rules.specs.declared.Refusal.{Refusal}
use Rattle.rules.specs.declared.Refusal.TheVariants.{ProgramLength, CheckSum, BlockNumber, RecordFault, ShapeFault, ScopeFault, TypeFault, NotReady, StateFault, RecordsLength, OutputLength, InputFault, TimeBack, OtherProgram}
use Rattle.chains.specs.declared.Chain.{Chain}
use Rattle.chains.specs.declared.NoChain.{NoChain}
use Rattle.chains.specs.declared.NoChain.TheVariants.{NoLet, RoomLength}
use Rattle.chains.specs.Chain.{chain_of}

-- What the call answers, and the room's entries after it.
pub record ExplainOutcome : Type 0 where
  pub answer : Result Chain NoChain
  pub room : List ℕ

-- "The let is the one that code 8 names."
abbrev pub let_of : Refusal → Option ℕ
let_of ProgramLength = None
let_of (CheckSum j) = None
let_of (BlockNumber j) = None
let_of (RecordFault r) = None
let_of (ShapeFault n) = None
let_of (ScopeFault n) = None
let_of (TypeFault n) = None
let_of (NotReady n) = Some n
let_of StateFault = None
let_of RecordsLength = None
let_of OutputLength = None
let_of (InputFault k) = None
let_of (TimeBack k) = None
let_of OtherProgram = None

-- "Room entries after it are 65535."
unfoldable pub filled : List ℕ → List ℕ
filled c = c ++ replicate (most_nodes - length c) no_next

-- A let to explain: "then 26 if the room for node numbers is not exactly 1,008 entries". A refusal leaves the room as before.
unfoldable pub explain_let : Bytes → List ℕ → ℕ → ExplainOutcome
explain_let p room n =
    if eqb (length room) most_nodes then record { answer = Ok (record { of = n; entries = length (chain_of p n) }); room = filled (chain_of p n) }
    else record { answer = Err RoomLength; room = room }

unfoldable pub explain_at : Bytes → List ℕ → Refusal → Option ℕ → ExplainOutcome
explain_at p room r (Some n) = explain_let p room n
explain_at p room r None = record { answer = Err (NoChain.Refused r); room = room }

-- "Codes 1-7 as in the check, then 25 if there is no let to explain."
unfoldable pub explain_outcome : Bytes → List ℕ → Verdict → ExplainOutcome
explain_outcome p room (Ok tt) = record { answer = Err NoLet; room = room }
explain_outcome p room (Err r) = explain_at p room r (let_of r)

unfoldable pub explain_call : Bytes → List ℕ → ExplainOutcome
explain_call p room = explain_outcome p room (program_verdict p)

-- The answer as the paper's numbers: 0, the let and the chain's length; a code, its place and 0.
abbrev pub explained_numbers : Result Chain NoChain → List ℕ
explained_numbers (Ok chain) = 0 ∷ chain.of ∷ chain.entries ∷ []
explained_numbers (Err (NoChain.Refused r)) = code_of r ∷ place_of r ∷ 0 ∷ []
explained_numbers (Err NoLet) = 25 ∷ 0 ∷ 0 ∷ []
explained_numbers (Err RoomLength) = 26 ∷ 0 ∷ 0 ∷ []
