use mathlib.Core.Path.{◌≡◌}
use Prim.Native.Nat.{◌-◌}
use Rattle.rules.specs.Bytes.{first_from, ◌and◌}
use Rattle.rules.specs.Shape.{may_be}
use Rattle.texts.specs.Spelled.{same}
use Rattle.texts.specs.Spelling.{kind_word, kind_named}
use Rattle.spell.proofs.kind_named.Given as goal

abbrev pub invariant-loop-k : goal.invariant-loop-k
invariant-loop-k l = first_from (λ k. may_be l.f k and same l.word (kind_word k)) l.k (30 - l.k) ≡ kind_named l.f l.word
