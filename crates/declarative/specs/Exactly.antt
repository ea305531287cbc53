-- The theorem's statement: what check accepts is exactly what meets the rules.
-- Assumes nothing: these are definitions.
use Rattle.std.specs.Prelude.{◌≡◌, ℕ, Ok}
use Rattle.rules.specs.Verdicts.{accepted_with}
use Rattle.rules.specs.Bytes.{Bytes}
use Rattle.rules.specs.Calls.{program_verdict, check_call}
use Rattle.declarative.specs.Meets.{Meets}
use Rattle.declarative.specs.MeetsTable.{MeetsTable}

-- Check's answer is that it accepts: N, cells, bound and root type.
pub record Accepts (p : Bytes) : Type 0 where
  pub count : ℕ
  pub cells : ℕ
  pub most : ℕ
  pub type : ℕ
  pub answer : check_call p ≡ accepted_with count cells most type

-- One holds exactly when the other does.
pub record Exactly (A B : Type 0) : Type 0 where
  pub only_if : A → B
  pub if₀ : B → A

-- Both forms: document 000's rules on the tree, and document 01's sentences over the table. The type of the answer is the derivation's.
pub record AcceptedExactly (p : Bytes) : Type 0 where
  pub by_verdict : Exactly (Accepts p) (program_verdict p ≡ Ok tt)
  pub by_rules : Exactly (Accepts p) (Meets p)
  pub by_sentences : Exactly (Accepts p) (MeetsTable p)
  pub one_type : (a : Accepts p) (m : Meets p) → a.type ≡ m.type
