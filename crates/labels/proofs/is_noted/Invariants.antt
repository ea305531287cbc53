use mathlib.Core.Path.{◌≡◌}
use Rattle.texts.specs.Spelled.{is_among}
use Rattle.labels.specs.Noted.{noted_names, names_in}
use Rattle.labels.proofs.is_noted.Given as goal

abbrev pub invariant-loop-i : goal.invariant-loop-i
invariant-loop-i l = is_among l.word (names_in l.text l.table l.base) ≡ is_among l.word (noted_names l.text l.table l.base l.i)
