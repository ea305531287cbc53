-- A maybe taken apart: the plain value that it holds, or absent. (A plain value is no maybe.)
-- Assumes nothing: this is a definition.
use Rattle.rules.specs.declared.Value.{Value}

pub data Opened : Type 0 where
  Here : (v : Value) → Opened
  Gone : Opened
  Amiss : Opened
