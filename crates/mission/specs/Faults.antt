-- The first code that the rules give.
-- Assumes nothing: these are definitions.
use Rattle.std.specs.Prelude.{◌≡◌, true, ℕ, ◌≤◌, length, Some}
use Rattle.rules.specs.Bytes.{Bytes, first}
use Rattle.rules.specs.Layout.{blocks, records, nodes, state_length}
use Rattle.rules.specs.Answers.{code_of}
use Rattle.rules.specs.Format.{length_wrong, sum_wrong, number_wrong, record_wrong}
use Rattle.rules.specs.Shape.{shape_wrong}
use Rattle.rules.specs.Scope.{scope_fault}
use Rattle.rules.specs.Typing.{type_fault}
use Rattle.rules.specs.Ready.{ready_fault}
use Rattle.rules.specs.declared.Refusal.{Refusal}
use Rattle.rules.specs.declared.Refusal.TheVariants.{ProgramLength, CheckSum, BlockNumber, RecordFault, ShapeFault, ScopeFault, TypeFault, NotReady, StateFault}

-- Codes 1-8 that the rules give a program, each with its place.
pub data Fault (p : Bytes) : Refusal → Type 0 where
  of_length : length_wrong p ≡ true → Fault p ProgramLength
  of_sum : (j : ℕ) → first (sum_wrong p) (blocks p) ≡ Some j → Fault p (CheckSum j)
  of_number : (j : ℕ) → first (number_wrong p) (blocks p) ≡ Some j → Fault p (BlockNumber j)
  of_record : (r : ℕ) → first (record_wrong p) (records p) ≡ Some r → Fault p (RecordFault r)
  of_shape : (n : ℕ) → first (shape_wrong p) (nodes p) ≡ Some n → Fault p (ShapeFault n)
  of_scope : (n : ℕ) → scope_fault p ≡ Some n → Fault p (ScopeFault n)
  of_type : (n : ℕ) → type_fault p ≡ Some n → Fault p (TypeFault n)
  of_ready : (n : ℕ) → ready_fault p ≡ Some n → Fault p (NotReady n)

-- Start's: 9 too, the wrong length only.
pub data StartFault (p st : Bytes) : Refusal → Type 0 where
  of_program : {r : Refusal} → Fault p r → StartFault p st r
  of_room : (length st ≡ state_length p → ⊥) → StartFault p st StateFault

-- One of them, and no other has a lower code.
pub record FirstOf (G : Refusal → Type 0) (r : Refusal) : Type 0 where
  pub given₀ : G r
  pub first₀ : (q : Refusal) → G q → code_of r ≤ code_of q
