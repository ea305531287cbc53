-- What a step and a run stand on, and what they leave.
-- Assumes nothing: these are definitions.
use Rattle.std.specs.Prelude.{◌≡◌, true, List, ℕ, ◌+◌, ◌-◌, ◌*◌, ◌/◌, ◌≤◌, length}
use Rattle.rules.specs.Verdicts.{RunAnswer}
use Rattle.rules.specs.Bytes.{Bytes, write_at}
use Rattle.rules.specs.Values.{value_bytes}
use Rattle.rules.specs.Layout.{nodes, most_nodes, input_length, state_length, time_in}
use Rattle.rules.specs.Bound.{bound}
use Rattle.rules.specs.Tree.{root}
use Rattle.rules.specs.Work.{◌plus◌}
use Rattle.rules.specs.Accepted.{Accepted}
use Rattle.rules.specs.WellFormed.{well_formed, last_moment}
use Rattle.rules.specs.Evaluate.{Env, unbound, eval_s}
use Rattle.rules.specs.Update.{Made, step_of}
use Rattle.rules.specs.Calls.{RunOutcome, no_step, run_from}
use Rattle.rules.specs.declared.Value.{Value}
use Rattle.rules.specs.declared.Tally.{Tally}
use Rattle.rules.specs.Evaluated.{Evaluated, Done, Stuck}
use Rattle.outcomes.specs.Combine.{count_of}
use Rattle.cells.specs.Indexed.{Indexed}
use Rattle.recalled.specs.Recall.{Memory, fill_s}
use Rattle.noted.specs.Noted.{memory_in, Noted}

-- An accepted program of so many nodes with its table of cells, a well-formed state, and a scratch in which nothing is bound.
pub record Going (p : Bytes) (index : List ℕ) (st : Bytes) (env : Env) (count : ℕ) : Type 0 where
  pub accepted : Accepted p
  pub indexed : Indexed p index
  pub counted : count ≡ nodes p
  pub well : well_formed p st ≡ true
  pub blank : env ≡ unbound most_nodes

-- The same program with room for its state, whatever that holds: enough to evaluate it.
pub record Held (p : Bytes) (index : List ℕ) (size : ℕ) (env : Env) (count : ℕ) : Type 0 where
  pub accepted : Accepted p
  pub indexed : Indexed p index
  pub counted : count ≡ nodes p
  pub cells : state_length p ≤ size
  pub blank : env ≡ unbound most_nodes

-- The slots hold what the evaluation of this step's root has noted, whatever they held before it.
pub record Told (p rec st : Bytes) (memo : List ℕ) : Type 0 where
  pub before : Memory
  pub filled : memory_in memo ≡ fill_s rec st (unbound most_nodes) (root p) before
  pub noted : Noted p memo

-- What is shown of an evaluation at a place of the output room: its value, where there is one.
unfoldable pub displayed_in : Evaluated → Bytes → ℕ → Bytes
displayed_in (Done v u) out place = write_at out place (value_bytes v)
displayed_in Stuck out place = out

-- No bound is larger: 1,008 nodes, by `bound_small` 1,008 * 1,009.
abbrev pub most_work : ℕ
most_work = 1017072

pub record Displayed (e : Evaluated) (out out₁ : Bytes) (place : ℕ) (seen : Tally) : Type 0 where
  pub written : out₁ ≡ displayed_in e out place
  pub counted : seen ≡ count_of e
  pub below : seen.work ≤ most_work

-- A step made, from state st to st₁, with so much counted in its update. Its value stands in no room yet.
pub record Advanced (p rec st st₁ : Bytes) (tally : Tally) : Type 0 where
  pub output : Value
  pub seen : Tally
  pub evaluates : eval_s rec st (unbound most_nodes) (root p) ≡ Done output seen
  pub made : step_of p rec st ≡ Made output st₁ (seen plus tally)
  pub well : time_in rec ≤ last_moment → well_formed p st₁ ≡ true
  pub within : seen.work + tally.work ≤ bound p
  pub below : tally.work ≤ most_work

-- A step made, from state st to st₁, with its value written into the output room at a place, and so much counted.
pub record Taken (p rec st st₁ out out₁ : Bytes) (place : ℕ) (tally : Tally) : Type 0 where
  pub output : Value
  pub made : step_of p rec st ≡ Made output st₁ tally
  pub shown : out₁ ≡ write_at out place (value_bytes output)
  pub well : time_in rec ≤ last_moment → well_formed p st₁ ≡ true
  pub within : tally.work ≤ bound p

-- The answer, state and output room of an outcome.
pub record Leaves (o : RunOutcome) (answer : RunAnswer) (st out : Bytes) : Type 0 where
  pub answer_is : answer ≡ o.answer
  pub state_is : st ≡ o.state
  pub output_is : out ≡ o.output

-- A run on its way: so many of its records are done, with so much work and a first wrapped step, and what is left to do from here is what the run began with.
pub record OnTheWay (p : Bytes) (index : List ℕ) (recs st₀ out₀ st : Bytes) (env : Env) (out : Bytes) (count left done work mark : ℕ) : Type 0 where
  pub going : Going p index st env count
  pub all : left ≡ length recs / input_length
  pub within : done ≤ left
  pub fits : work ≤ most_work * done
  pub cells : length st ≡ length st₀
  pub room : length out ≡ length out₀
  pub same : run_from p recs (left - done) done work mark st out ≡ run_from p recs left 0 0 no_step st₀ out₀
