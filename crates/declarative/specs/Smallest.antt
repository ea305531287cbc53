-- Which fault check answers: "Lowest code first, then smallest place." What each answer says of the bytes, code by code.
-- Assumes nothing: these are definitions.
use Rattle.std.specs.Prelude.{ℕ, ◌<◌, ◌≡◌, ◌⊎◌, Ok, Err}
use Rattle.rules.specs.Verdicts.{Verdict, refused_after}
use Rattle.rules.specs.Bytes.{Bytes}
use Rattle.rules.specs.Layout.{blocks, records, nodes, kind_at, a_at}
use Rattle.rules.specs.Calls.{check_call, start_call, run_call, no_step}
use Rattle.rules.specs.declared.Refusal.{Refusal}
use Rattle.rules.specs.declared.Refusal.TheVariants.{ProgramLength, CheckSum, BlockNumber, RecordFault, ShapeFault, ScopeFault, TypeFault, NotReady, StateFault, RecordsLength, OutputLength, InputFault, TimeBack, OtherProgram}
use Rattle.declarative.specs.Formats.{WholeBlocks, SumRight, NumberRight, RecordRight, Formatted}
use Rattle.declarative.specs.Shapes.{ShapeRight, WellShaped}
use Rattle.declarative.specs.WayUp.{ScopeRight, InScope}
use Rattle.declarative.specs.HasType.{OwnTypeRight, TypesRight}
use Rattle.declarative.specs.NeedsAt.{NeedsAt, LetRight}
use Rattle.declarative.specs.MeetsTable.{MeetsTable}
use Rattle.declarative.specs.Exactly.{Exactly}

-- Of places 0, 1, .. below count, n is the smallest whose own rule breaks.
pub record Smallest (Right : ℕ → Type 0) (count n : ℕ) : Type 0 where
  pub inside : n < count
  pub at_fault : Right n → ⊥
  pub none_smaller : (m : ℕ) → m < n → Right m

-- Codes 2-4, each with all that has a lower code.
pub record FirstSum (p : Bytes) (j : ℕ) : Type 0 where
  pub whole : WholeBlocks p
  pub smallest : Smallest (SumRight p) (blocks p) j

pub record FirstNumber (p : Bytes) (j : ℕ) : Type 0 where
  pub whole : WholeBlocks p
  pub sums : (i : ℕ) → i < blocks p → SumRight p i
  pub smallest : Smallest (NumberRight p) (blocks p) j

pub record FirstRecord (p : Bytes) (r : ℕ) : Type 0 where
  pub whole : WholeBlocks p
  pub sums : (i : ℕ) → i < blocks p → SumRight p i
  pub numbers : (i : ℕ) → i < blocks p → NumberRight p i
  pub smallest : Smallest (RecordRight p) (records p) r

-- Codes 5-8.
pub record FirstShape (p : Bytes) (n : ℕ) : Type 0 where
  pub formatted : Formatted p
  pub smallest : Smallest (ShapeRight p) (nodes p) n

pub record FirstScope (p : Bytes) (n : ℕ) : Type 0 where
  pub formatted : Formatted p
  pub shaped : WellShaped p
  pub smallest : Smallest (ScopeRight p) (nodes p) n

pub record FirstType (p : Bytes) (n : ℕ) : Type 0 where
  pub formatted : Formatted p
  pub shaped : WellShaped p
  pub scoped : InScope p
  pub smallest : Smallest (OwnTypeRight p) (nodes p) n

pub record FirstLet (p : Bytes) (n : ℕ) : Type 0 where
  pub formatted : Formatted p
  pub shaped : WellShaped p
  pub scoped : InScope p
  pub typed : TypesRight p
  pub smallest : Smallest (LetRight p) (nodes p) n

-- What a refusal says of the program, by its code and place. (Codes 9-13 and 15 are not check's.)
abbrev pub SaysOf : Bytes → Refusal → Type 0
SaysOf p ProgramLength = WholeBlocks p → ⊥
SaysOf p (CheckSum j) = FirstSum p j
SaysOf p (BlockNumber j) = FirstNumber p j
SaysOf p (RecordFault r) = FirstRecord p r
SaysOf p (ShapeFault n) = FirstShape p n
SaysOf p (ScopeFault n) = FirstScope p n
SaysOf p (TypeFault n) = FirstType p n
SaysOf p (NotReady n) = FirstLet p n
SaysOf p StateFault = ⊥
SaysOf p RecordsLength = ⊥
SaysOf p OutputLength = ⊥
SaysOf p (InputFault k) = ⊥
SaysOf p (TimeBack k) = ⊥
SaysOf p OtherProgram = ⊥

-- A verdict that is fine says that every sentence over the table is met.
abbrev pub Says : Bytes → Verdict → Type 0
Says p (Ok _) = MeetsTable p
Says p (Err r) = SaysOf p r

-- Check refuses with a code and a place exactly when that is the lowest code with a fault and the smallest place of one. A scope fault is at a
-- variable or a case; one of readiness is at a let whose definition needs its variable at once. What check refuses, start and run refuse with
-- the same code and place, and the lent memory is as before.
pub record SmallestPlaces (p : Bytes) : Type 0 where
  pub refused : (r : Refusal) → Exactly (check_call p ≡ Err r) (SaysOf p r)
  pub variable_or_case : (n : ℕ) → check_call p ≡ Err (ScopeFault n) → (kind_at p n ≡ 16) ⊎ (kind_at p n ≡ 10)
  pub a_let : (n : ℕ) → check_call p ≡ Err (NotReady n) → (kind_at p n ≡ 5) × NeedsAt p n (a_at p n)
  pub start : (r : Refusal) → check_call p ≡ Err r → (st : Bytes) → start_call p st ≡ record { answer = Err r; state = st }
  pub run : (r : Refusal) → check_call p ≡ Err r → (st recs out : Bytes)
      → run_call p st recs out ≡ record { answer = refused_after r 0 no_step; state = st; output = out }
