use mathlib.Core.Path.{◌≡◌}
use mathlib.Core.Bool.{true}
use Prim.Native.Nat.{◌≤◌}
use lib.ListN.{drop}
use Rattle.texts.specs.Numerals.{are_digits, read_on}
use Rattle.spell.proofs.magnitude.Given as goal

abbrev pub invariant-loop-b : goal.invariant-loop-b
invariant-loop-b l = record {
  small : l.x ≤ 2147483648;
  digits : are_digits (drop l.b-index l.word) ≡ true;
  so_far : read_on 0 l.word ≡ read_on l.x (drop l.b-index l.word);
}
