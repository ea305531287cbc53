-- What a program meets that check accepts: document 01's rules of format and shape, document 000's typing rules with contexts on the program's
-- tree, and document 01's readiness there. (Document 000's grammar of well-formed recursions, section 4.3, lets a group's branches need the
-- variable where the body leaves for none of them; document 01 counts every branch, and is followed.)
-- Assumes nothing: these are definitions.
use Rattle.std.specs.Prelude.{ℕ}
use Rattle.rules.specs.Bytes.{Bytes}
use Rattle.rules.specs.Layout.{edition}
use Rattle.rules.specs.Tree.{root}
use Rattle.declarative.specs.Formats.{Formatted}
use Rattle.declarative.specs.Shapes.{WellShaped}
use Rattle.declarative.specs.Contexts.{none}
use Rattle.declarative.specs.TypedS.{TypedS}
use Rattle.declarative.specs.Needs.{ReadyS}

-- Codes 1-8: format (1-4), shape (5), a derivation of the root's type in empty contexts (6 and 7), readiness (8).
pub record Meets (p : Bytes) : Type 0 where
  pub formatted : Formatted p
  pub shaped : WellShaped p
  pub type : ℕ
  pub typed : TypedS (edition p) none none (root p) type
  pub ready : ReadyS (root p)
