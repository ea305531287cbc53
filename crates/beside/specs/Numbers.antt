-- The paper's numbers of what a watched run answers.
-- Assumes nothing: these are definitions.
use Rattle.std.specs.Prelude.{ℕ, List, [], ◌∷◌, Result, Ok, Err}
use Rattle.rules.specs.Verdicts.{RunAnswer}
use Rattle.rules.specs.Answers.{ran_numbers}
use Rattle.rules.specs.Calls.{no_step}
use Rattle.watched.specs.declared.ListFault.{ListFault}
use Rattle.watched.specs.declared.ListFault.TheVariants.{ListLength, ListEntry}

-- As the plain run: 0, steps, work and the first wrapped step, or code, place, work and that step. 17 has no place, 18 the entry's; no step is done.
abbrev pub watched_numbers : Result RunAnswer ListFault → List ℕ
watched_numbers (Ok r) = ran_numbers r
watched_numbers (Err ListLength) = 17 ∷ 0 ∷ 0 ∷ no_step ∷ []
watched_numbers (Err (ListEntry j)) = 18 ∷ j ∷ 0 ∷ no_step ∷ []
