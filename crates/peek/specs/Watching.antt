-- A watched run on its way.
-- Assumes nothing: these are definitions.
use Rattle.std.specs.Prelude.{◌≡◌, List, ℕ, ◌-◌, length}
use Rattle.rules.specs.Bytes.{Bytes}
use Rattle.rules.specs.Evaluate.{Env}
use Rattle.steps.specs.Going.{OnTheWay}
use Rattle.watched.specs.Watch.{shown_from}

-- The plain run is on its way, and what is left to do of the second room from here is what the run began with.
pub record Watching (p : Bytes) (index : List ℕ) (recs st₀ out₀ st : Bytes) (env : Env) (out : Bytes) (count left done work mark : ℕ) (l : List ℕ)
    (room₀ room : Bytes) : Type 0 where
  pub way : OnTheWay p index recs st₀ out₀ st env out count left done work mark
  pub size : length room ≡ length room₀
  pub rows : shown_from p recs l (left - done) done st room ≡ shown_from p recs l left 0 st₀ room₀
