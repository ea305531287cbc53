-- What a program meets that check accepts: every sentence of document 01's "Blocks and nodes", over the bytes and the table of nodes alone.
-- Assumes nothing: these are definitions.
use Rattle.rules.specs.Bytes.{Bytes}
use Rattle.declarative.specs.Formats.{Formatted}
use Rattle.declarative.specs.Shapes.{WellShaped}
use Rattle.declarative.specs.WayUp.{InScope}
use Rattle.declarative.specs.HasType.{TypesRight}
use Rattle.declarative.specs.NeedsAt.{LetsReady}

-- Codes 1-8: format (1-4), shape (5), scope (6), types (7), readiness (8).
pub record MeetsTable (p : Bytes) : Type 0 where
  pub formatted : Formatted p
  pub shaped : WellShaped p
  pub scoped : InScope p
  pub typed : TypesRight p
  pub ready : LetsReady p
