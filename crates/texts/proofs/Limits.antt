-- A text has at most 1,008 nodes: the word or parenthesis with which one more begins does not fit, whatever it is.
-- Assumes nothing.
use mathlib.Core.Path.{◌≡◌, refl}
use mathlib.Core.List.{List, ◌∷◌}
use Prim.Native.Nat.{ℕ, suc, ◌≤◌}
use borrow.Author.Tests.{le-ltb}
use Rattle.rules.specs.Bytes.{Bytes}
use Rattle.rules.specs.Layout.{most_nodes}
use Rattle.rules.specs.declared.Field.{Field}
use Rattle.texts.specs.Tokens.{Token}
use Rattle.texts.specs.Rows.{Sofar, stopped, ◌onward◌}
use Rattle.texts.specs.Steps.{position}
use Rattle.texts.specs.Reader.{begins, node_f}
use Rattle.texts.specs.declared.Unread.TheVariants.{Word}

none_begins : (finish : ℕ) (t : Token) (ts : List Token) (so : Sofar) → most_nodes ≤ so.begun → begins finish (t ∷ ts) so ≡ stopped (Word t.at)
unfolding begins position
none_begins finish t ts so l = rw (le-ltb so.begun 1008 l, begins) refl

pub one_too_many : (g : ℕ) (names : List Bytes) (finish : ℕ) (f : Field) (t : Token) (ts : List Token) (so : Sofar) → most_nodes ≤ so.begun
    → node_f (suc g) names finish f (t ∷ ts) so ≡ stopped (Word t.at)
unfolding node_f ◌onward◌
one_too_many g names finish f t ts so l = rw (none_begins finish t ts so l) refl
