-- Shape, as document 01 says it: code 5, at every node.
-- Assumes nothing: these are definitions.
use Rattle.std.specs.Prelude.{◌≡◌, ◌⊎◌, ℕ, suc, ◌≤◌, ◌<◌}
use Rattle.rules.specs.Bytes.{Bytes}
use Rattle.rules.specs.Layout.{nodes, kind_at, a_at, b_at, c_at, no_next}
use Rattle.rules.specs.Kinds.{fields_of}
use Rattle.rules.specs.Shape.{named}
use Rattle.rules.specs.declared.Field.{Field}
use Rattle.rules.specs.declared.Field.TheVariants.{Unused, Channel, PresentByte, Signal, Expression, FirstBranch, NextBranch, FirstCase, NextCase, Binder, Target}

-- Signals are kinds 1-8 and expressions 16-29; 9 is a branch and 10 a case.
abbrev pub IsSignal : ℕ → Type 0
IsSignal k = (1 ≤ k) × (k ≤ 8)

abbrev pub IsExpression : ℕ → Type 0
IsExpression k = (16 ≤ k) × (k ≤ 29)

-- "A child's number is smaller than its parent's." "Bodies, definitions, events, delayed parts, an until's signal and a switch's first and
-- second are signals; ext and kinds 18-29 have expression children. Variable binders and case targets aren't children. 65535 stands only in
-- next fields." ChildRight f p n x: what a field of node n that is of sort f says of the number x in it.
abbrev pub ChildRight : Field → Bytes → ℕ → ℕ → Type 0
ChildRight Unused p n x = Unit {0}
ChildRight Channel p n x = Unit {0}
ChildRight PresentByte p n x = Unit {0}
ChildRight Signal p n x = (x < n) × IsSignal (kind_at p x)
ChildRight Expression p n x = (x < n) × IsExpression (kind_at p x)
ChildRight FirstBranch p n x = (x < n) × (kind_at p x ≡ 9)
ChildRight NextBranch p n x = (x ≡ no_next) ⊎ ((x < n) × (kind_at p x ≡ 9))
ChildRight FirstCase p n x = (x < n) × (kind_at p x ≡ 10)
ChildRight NextCase p n x = (x ≡ no_next) ⊎ ((x < n) × (kind_at p x ≡ 10))
ChildRight Binder p n x = Unit {0}
ChildRight Target p n x = Unit {0}

pub record ChildrenRight (p : Bytes) (n : ℕ) : Type 0 where
  pub a : ChildRight (fields_of (kind_at p n)).a p n (a_at p n)
  pub b : ChildRight (fields_of (kind_at p n)).b p n (b_at p n)
  pub c : ChildRight (fields_of (kind_at p n)).c p n (c_at p n)

-- Node n's own rule: "A child's number is smaller than its parent's; each node but the last is named as a child exactly once; the last is a
-- signal (kinds 1-8). A child out of range or of the wrong sort is a shape fault of its parent; being named never or twice is one of the
-- node itself."
pub record ShapeRight (p : Bytes) (n : ℕ) : Type 0 where
  pub children : ChildrenRight p n
  pub once : suc n < nodes p → named p n ≡ 1
  pub last : suc n ≡ nodes p → IsSignal (kind_at p n)

-- Code 5: every node keeps its own rule.
pub record WellShaped (p : Bytes) : Type 0 where
  pub each : (n : ℕ) → n < nodes p → ShapeRight p n
