-- The cases of an until that a loop passes: their events are absent, and to update them does nothing.
-- Assumes nothing: these are definitions.
use Rattle.std.specs.Prelude.{◌≡◌, false, ℕ, zero, suc, ◌+◌, ◌%◌, ◌≤◌, ◌<◌, eqb, ltb, leb, if◌then◌else◌, Option, Some, None}
use Rattle.rules.specs.Bytes.{Bytes}
use Rattle.rules.specs.Layout.{kind_at, a_at, b_at, no_next}
use Rattle.rules.specs.Tree.{signal_at}
use Rattle.rules.specs.Work.{Updated, Next, Jump, Halted, ◌plus◌, afterᵘ}
use Rattle.rules.specs.Evaluate.{Env, eval_s}
use Rattle.rules.specs.declared.Tally.{Tally}
use Rattle.outcomes.specs.Combine.{parts_of}
use Rattle.outcomes.specs.Outcome.{outcome_in, IsOutcome}
use Rattle.outcomes.specs.declared.Parts.{Parts}
use Rattle.moves.specs.Outcomes.{count_in}
use Rattle.update.specs.declared.Passed.{Passed}
use Rattle.update.specs.declared.Looked.{Looked}
use Rattle.update.specs.declared.Looked.TheVariants.{Quiet, Stands}

-- What events counted, as one number: their work, and 4,294,967,296 more for each in which a number wrapped.
unfoldable pub seen_of : Tally → ℕ
seen_of u = u.work + (if u.wrapped then 4294967296 else 0)

unfoldable pub seen_in : ℕ → Tally
seen_in n = record { work = n % 4294967296; wrapped = leb 4294967296 n }

-- A rule for each of the updates, only where no event was present.
unfoldable pub keeping : ℕ → Updated → Updated
keeping kept (Next st w) = Next st (record { work = kept; wrapped = false } plus w)
keeping kept (Jump target v st w) = Jump target v st w
keeping kept Halted = Halted

-- A walk with what was counted before it: the evaluations always, a rule for each update only where no event was present.
unfoldable pub quietly : ℕ → ℕ → Updated → Updated
quietly seen kept r = afterᵘ (seen_in seen) (keeping kept r)

-- What an absent event counted; else 0.
unfoldable pub absent_count : Option ℕ → Tally → ℕ
absent_count (Some v) u = 0
absent_count None u = seen_of u

unfoldable pub absent_work : Option Parts → ℕ
absent_work (Some m) = absent_count m.event m.count
absent_work None = 0

-- What the event of case j counted, if the case is quiet: a case follows, and the event is an input, time or ext and absent; else 0.
unfoldable pub quiet_work : Bytes → Bytes → Bytes → Env → ℕ → ℕ
quiet_work p rec st env j =
    if eqb (b_at p j) no_next then 0
    else if ltb 3 (kind_at p (a_at p j)) then 0
    else absent_work (parts_of (eval_s rec st env (signal_at p (a_at p j))))

-- One quiet case more, passed before the others: what it counted, and its update.
unfoldable pub onward : ℕ → Passed → Passed
onward u s = record { at = s.at; seen = u + s.seen; kept = 1 + s.kept }

-- The quiet cases from case j on, passed; node numbers fall, so that as many turns as there may be nodes are enough.
unfoldable pub passed_from : Bytes → Bytes → Bytes → Env → ℕ → ℕ → Passed
passed_from p rec st env zero j = record { at = j; seen = 0; kept = 0 }
passed_from p rec st env (suc fuel) j =
    if eqb (quiet_work p rec st env j) 0 then record { at = j; seen = 0; kept = 0 }
    else onward (quiet_work p rec st env j) (passed_from p rec st env fuel (b_at p j))

-- What was counted before a walk whose outcome is the number o may be added to it.
pub record Fits (s : Passed) (o : ℕ) : Type 0 where
  pub still : 0 < o → o < 1048576 → s.seen % 4294967296 + (s.kept + count_in o) < 524288
  pub jumps : 1048576 ≤ o → s.seen % 4294967296 + count_in o < 524288

-- What a case that was looked at counted, if it is quiet, else 0; and its event's outcome, if it is not quiet and the event was evaluated.
abbrev pub looked_work : Looked → ℕ
looked_work (Quiet u) = u
looked_work (Stands e) = 0

abbrev pub looked_event : Looked → Option ℕ
looked_event (Quiet u) = None
looked_event (Stands e) = e

-- A quiet case has counted something.
abbrev pub Counts : Looked → Type 0
Counts (Quiet u) = 0 < u
Counts (Stands e) = Unit {0}

-- A number is the outcome of signal i, an input, time or ext.
pub record IsKnown (p rec st : Bytes) (env : Env) (i e : ℕ) : Type 0 where
  pub low : kind_at p i ≤ 3
  pub same : outcome_in e ≡ eval_s rec st env (signal_at p i)
  pub number : IsOutcome e

-- What is known of it, if anything: where nothing is, nothing is said.
pub record Known (p rec st : Bytes) (env : Env) (i : ℕ) (o : Option ℕ) : Type 0 where
  pub given : (e : ℕ) → o ≡ Some e → IsKnown p rec st env i e
