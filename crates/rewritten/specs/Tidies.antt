-- What request m asks of a tidied program, sentence by sentence, beside the old program and the pairing in which it was numbered.
-- Assumes nothing: these are definitions.
use Rattle.std.specs.Prelude.{◌≡◌, List, ℕ, ◌≤◌, length, None}
use Rattle.rules.specs.Bytes.{Bytes}
use Rattle.rules.specs.Layout.{nodes, edition}
use Rattle.rules.specs.Bound.{bound}
use Rattle.rules.specs.Accepted.{Accepted}
use Rattle.rules.specs.Tree.{Signal, root}
use Rattle.dropped.specs.Rule.{DropsS, Tidy, NamedS}
use Rattle.dropped.specs.Pairing.{old_of, pairing_fault}
use Rattle.dropped.specs.Answers.{AnswersAlike}

pub record Tidies (p q : Bytes) (pairing : List ℕ) : Type 0 where
  -- "Replaces each let whose body does not name its variable by that body, again until none is left, and renumbers": whatever lets are dropped
  -- first, once none is left the new tree is what is left, but for its numbers.
  pub any_order : (s : Signal) → DropsS (root p) s → Tidy s → NamedS (old_of pairing) s (root q)
  pub none_left : Tidy (root q)
  pub accepted : Accepted q
  pub one_edition : edition q ≡ edition p
  -- "From start, old and new answer every list of records with equal outputs and refusals after 8; N and the bound are no larger."
  pub alike : AnswersAlike p q
  pub no_larger : (nodes q ≤ nodes p) × (bound q ≤ bound p)
  -- (n) "m)'s own work, paired as it renumbered, is accepted."
  pub entries : length pairing ≡ nodes q
  pub paired : pairing_fault p q pairing ≡ None
