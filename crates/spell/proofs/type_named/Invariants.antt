use mathlib.Core.Path.{◌≡◌}
use Prim.Native.Nat.{◌-◌}
use Rattle.rules.specs.Bytes.{first_from, ◌and◌}
use Rattle.texts.specs.Spelled.{same}
use Rattle.texts.specs.Spelling.{type_word, type_named}
use Rattle.spell.specs.Vocabulary.{allowed}
use Rattle.spell.proofs.type_named.Given as goal

abbrev pub invariant-loop-t : goal.invariant-loop-t
invariant-loop-t l = first_from (λ t. allowed l.plain t and same l.word (type_word t)) l.t (8 - l.t) ≡ type_named (allowed l.plain) l.word
