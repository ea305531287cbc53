-- The three demands, sentence by sentence, of the three calls. Each call takes what it is lent to an answer and to what the lent memory then
-- holds; crate demands has a function for each call whose contract is its record here, and which calls crate watch. (Crate cut and crate
-- unplugged state document 02's j and h, of the same call.)
-- Assumes nothing: these are definitions.
use Rattle.std.specs.Prelude.{◌≡◌, true, ◌++◌, ℕ, ◌+◌, ◌*◌, ◌/◌, ◌≤◌, length, drop, Ok, Err}
use Rattle.rules.specs.Verdicts.{CheckAnswer, RunAnswer, StartAnswer, accepted_with, finished_with, refused_after}
use Rattle.rules.specs.Bytes.{Bytes}
use Rattle.rules.specs.Values.{type_of, value_bytes}
use Rattle.rules.specs.Layout.{nodes, cells as cells_of, input_length}
use Rattle.rules.specs.Tree.{root}
use Rattle.rules.specs.Typing.{type_s}
use Rattle.rules.specs.Reset.{start_state}
use Rattle.rules.specs.WellFormed.{well_formed}
use Rattle.rules.specs.Bound.{bound}
use Rattle.rules.specs.Calls.{check_call, no_step}
use Rattle.rules.specs.declared.Value.{Value}
use Rattle.rules.specs.declared.Refusal.{Refusal}
use Rattle.promises.specs.Valid.{Valid}
use Rattle.promises.specs.Run.{run_verdict, work_in}
use Rattle.published.specs.Steps.{Steps, size_of}
use Rattle.published.specs.Marks.{left_of}
use Rattle.declarative.specs.Exactly.{Exactly}
use Rattle.declarative.specs.Meets.{Meets}
use Rattle.declarative.specs.MeetsTable.{MeetsTable}
use Rattle.mission.specs.Lent.{StepLent, RunLent}
use Rattle.mission.specs.Through.{mark_after, mark_in, Through}
use Rattle.mission.specs.Faults.{Fault, StartFault, FirstOf}
use Rattle.mission.specs.Refused.{RefusedRun}

-- 1. "Every public call, handed a program, state, records and output room of any content and length, ends." demands::check, demands::start and
-- demands::run have no requires, and every function that is proved ends.

-- An answer of check that accepts: N, cells, bound, root type.
pub record Accepting (answer : CheckAnswer) : Type 0 where
  pub count : ℕ
  pub cells : ℕ
  pub most : ℕ
  pub type : ℕ
  pub is : answer ≡ accepted_with count cells most type

-- Check: the contract of demands::check, by check-demands (proofs/Demands); fixed-check (proofs/Fixes) says that it fixes the answer.
pub record CheckDemands (p : Bytes) (answer : CheckAnswer) : Type 0 where
  -- 1. "It refuses with the first code that the rules give" (and where they give none it does not refuse) ..
  pub first_code : (r : Refusal) → answer ≡ Err r → FirstOf (Fault p) r
  pub no_code : Accepting answer → (r : Refusal) → Fault p r → ⊥
  -- 2. "A program is accepted exactly when it meets the format, scope, type and readiness rules of document 01." By its sentences over the
  -- table, and by the typing rules of document 000.
  pub exactly : Exactly (Accepting answer) (MeetsTable p)
  pub exactly_typed : Exactly (Accepting answer) (Meets p)
  -- What it then answers: N, cells, bound, root type.
  pub numbers : (a : Accepting answer) → (a.count ≡ nodes p) × (a.cells ≡ cells_of p) × (a.most ≡ bound p) × (a.type ≡ type_s (root p))

-- Start: the contract of demands::start, by start-demands; fixed-start says that it fixes answer and state.
pub record StartDemands (p st : Bytes) (answer : StartAnswer) (st₁ : Bytes) : Type 0 where
  -- 1. "It refuses with the first code that the rules give" ..
  pub first_code : (r : Refusal) → answer ≡ Err r → FirstOf (StartFault p st) r
  pub no_code : answer ≡ Ok tt → (r : Refusal) → StartFault p st r → ⊥
  -- 1. ".. and a refusal writes nothing".
  pub nothing_written : (r : Refusal) → answer ≡ Err r → st₁ ≡ st
  -- Where it goes through, the room is the start state, which is well-formed.
  pub starts : answer ≡ Ok tt → (st₁ ≡ start_state p) × (well_formed p st₁ ≡ true)

-- How a run's steps go, whatever it is lent: so many steps by the rules, from the state lent to the state left; what they show stands in the
-- room, and behind it what was there; the answer counts their work and has the first in which a number wrapped. A run that is not refused has a step for each record.
pub record StepsOf (p st recs out : Bytes) (answer : RunAnswer) (st₁ out₁ : Bytes) : Type 0 where
  pub steps : ℕ
  pub shown : Bytes
  pub through : Through p recs (bound p) (type_s (root p)) steps 0 st shown (work_in answer) no_step (mark_in answer) st₁
  pub written : out₁ ≡ shown ++ drop (8 * steps) out
  pub all_done : (s w m : ℕ) → answer ≡ finished_with s w m
      → (run_verdict p st recs out ≡ Ok tt) × (s ≡ steps) × (steps ≡ length recs / input_length)

-- What demand 3 says of a run of so many records.
pub record Finishes (p st recs : Bytes) (n : ℕ) (answer : RunAnswer) (st₁ out₁ : Bytes) (count most type : ℕ) : Type 0 where
  pub work : ℕ
  pub mark : ℕ
  pub finished : answer ≡ finished_with n work mark
  pub through : Through p recs most type n 0 st out₁ work no_step mark st₁
  pub well : well_formed p st₁ ≡ true
  pub long : length st₁ ≡ length st
  pub within : work ≤ n * most
  pub bounded : most ≤ count * (count + 1)

-- What demand 3 says of a step, a run of one record.
pub record Answers (p st rec : Bytes) (answer : RunAnswer) (st₁ out₁ : Bytes) (count most type : ℕ) : Type 0 where
  -- ".. the step answers with a value of the declared type ..
  pub value : Value
  pub work : ℕ
  pub mark : ℕ
  pub finished : answer ≡ finished_with 1 work mark
  pub shown : out₁ ≡ value_bytes value
  pub valid : Valid value
  pub typed : type_of value ≡ type
  -- .. the state stays well-formed and of the same length ..
  pub well : well_formed p st₁ ≡ true
  pub long : length st₁ ≡ length st
  -- .. the work reported is the number of rules used ..
  pub derived : Steps p rec st value st₁ work
  pub counted : size_of derived ≡ work
  -- .. at most the bound worked out beforehand, itself at most N*(N+1)."
  pub within : work ≤ most
  pub bounded : most ≤ count * (count + 1)
  -- .. and, by document 02's f, this mark: that some operation left the 32-bit range.
  pub marked : mark ≡ mark_after no_step 0 (left_of derived)

-- Run: the contract of demands::run, by run-demands; fixed-run says that it fixes answer, state and output.
pub record RunDemands (p st recs out : Bytes) (answer : RunAnswer) (st₁ out₁ : Bytes) : Type 0 where
  -- 1. "It refuses with the first code that the rules give, and a refusal writes nothing; only a run keeps the whole steps done before the
  -- refused one."
  pub refuses : (r : Refusal) (w m : ℕ) → answer ≡ refused_after r w m → RefusedRun p st recs out r w m st₁ out₁
  -- 2. "The value and next state of each step are those its rules give, and no others."
  pub by_rules : StepsOf p st recs out answer st₁ out₁
  -- 3. "For any accepted program, well-formed state and well-formed record whose time doesn't go back, with an output room of 8 bytes .." (the
  -- rest is quoted at Answers) ..
  pub answers : (count cells most type : ℕ) → check_call p ≡ accepted_with count cells most type → StepLent p st recs out
      → Answers p st recs answer st₁ out₁ count most type
  -- .. and so for every list of them, 0 to 4,096, with 8 bytes each.
  pub finishes : (count cells most type n : ℕ) → check_call p ≡ accepted_with count cells most type → RunLent p st recs out n
      → Finishes p st recs n answer st₁ out₁ count most type
