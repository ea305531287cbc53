-- What the fields of a record are.
-- Assumes nothing: these are definitions.
use Rattle.std.specs.Prelude.{◌≡◌, ℕ}
use Rattle.rules.specs.Bytes.{Bytes}
use Rattle.rules.specs.Layout.{kind_at, type_at, a_at, b_at, c_at, word_at}
use Rattle.rules.specs.declared.Node.{Node}

pub record IsNode (p : Bytes) (i : ℕ) (n : Node) : Type 0 where
  pub kind_is : n.kind ≡ kind_at p i
  pub type_is : n.ty ≡ type_at p i
  pub a_is : n.a ≡ a_at p i
  pub b_is : n.b ≡ b_at p i
  pub c_is : n.c ≡ c_at p i
  pub word_is : n.word ≡ word_at p i
