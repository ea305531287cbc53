-- What calls answer: a fault found or none, and the answers of check, start and run.
-- Assumes nothing: these are definitions.
use Rattle.std.specs.Prelude.{ℕ, Result, Ok, Err}
use Rattle.rules.specs.declared.Refusal.{Refusal}
use Rattle.rules.specs.declared.Checked.{Checked}
use Rattle.rules.specs.declared.Ran.{Ran}
use Rattle.rules.specs.declared.Stopped.{Stopped}

-- A fault found, or none.
abbrev pub Verdict : Type 0
Verdict = Result (Unit {0}) Refusal

-- The answer of check, or why it refuses.
abbrev pub CheckAnswer : Type 0
CheckAnswer = Result Checked Refusal

-- The answer of start, or why it refuses.
abbrev pub StartAnswer : Type 0
StartAnswer = Verdict

-- The answer of run, or where and why it stopped.
abbrev pub RunAnswer : Type 0
RunAnswer = Result Ran Stopped

-- Accepted: nodes, cells, bound, root type.
abbrev pub accepted_with : ℕ → ℕ → ℕ → ℕ → CheckAnswer
accepted_with nodes cells bound root = Ok (record { nodes = nodes; cells = cells; bound = bound; root = root })

-- A run to its end: steps done, work, the first step in which a number wrapped.
abbrev pub finished_with : ℕ → ℕ → ℕ → RunAnswer
finished_with steps work wrapped = Ok (record { steps = steps; work = work; wrapped = wrapped })

-- A run refused, after the work of the steps done, and the first of them in which a number wrapped.
abbrev pub refused_after : Refusal → ℕ → ℕ → RunAnswer
refused_after why work wrapped = Err (record { why = why; work = work; wrapped = wrapped })
