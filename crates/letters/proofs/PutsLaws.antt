-- Putting nothing, a byte, and one text behind another on a sheet.
-- Assumes nothing.
use mathlib.Core.Path.{◌≡◌, refl, ◌∙◌}
use mathlib.Core.List.{[], ◌++◌}
use Rattle.rules.specs.Bytes.{Bytes}
use Rattle.letters.specs.declared.Sheet.{Sheet}
use Rattle.letters.specs.Puts.{Puts}
use Rattle.letters.proofs.WroteLaws.{wrote_none, wrote_then}

pub puts_none : (s : Sheet) → Puts s [] s
puts_none s = record { wrote = wrote_none _ _; lent = refl; long = refl }

pub puts_as : {s s' : Sheet} {xs ys : Bytes} → xs ≡ ys → Puts s xs s' → Puts s ys s'
puts_as e w = rw (← e) w

pub puts_then : {s s₁ s₂ : Sheet} {xs ys : Bytes} → Puts s xs s₁ → Puts s₁ ys s₂ → Puts s (xs ++ ys) s₂
puts_then w v = record { wrote = wrote_then w.wrote v.wrote; lent = v.lent ∙ w.lent; long = v.long ∙ w.long }
