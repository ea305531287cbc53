-- Putting one text behind another.
-- Assumes nothing.
use Prim.Native.Nat.{ℕ}
use mathlib.Core.Path.{◌≡◌, ◌∙◌}
use mathlib.Core.List.{List, ◌++◌}
use Rattle.wire.proofs.PutLaws.{behind}
use Rattle.lines.specs.declared.pen.Pen.{Pen}
use Rattle.lines.specs.Pen.{Puts}

pub puts_as : {s s' : Pen} {t u : List ℕ} → t ≡ u → Puts s t s' → Puts s u s'
puts_as e w = rw (← e) w

pub puts_behind : {s s₁ s₂ : Pen} {t u : List ℕ} → Puts s t s₁ → Puts s₁ u s₂ → Puts s (t ++ u) s₂
puts_behind w v = record { put = behind w.put v.put; lent = v.lent ∙ w.lent; long = v.long ∙ w.long }
