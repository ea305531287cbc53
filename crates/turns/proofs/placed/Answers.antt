use mathlib.Core.Path.{◌≡◌, refl, ◌∙◌}
use Prim.Native.Nat.{ℕ}
use Rattle.rules.specs.declared.Refusal.{Refusal}
use Rattle.rules.specs.declared.Refusal.TheVariants.{ProgramLength, CheckSum, BlockNumber, RecordFault, ShapeFault, ScopeFault, TypeFault, NotReady, StateFault, RecordsLength, OutputLength, InputFault, TimeBack, OtherProgram}
use Rattle.turns.specs.Decided.{placed_at}
use Rattle.turns.proofs.placed.Goals as goal

-- the other refusals keep their place
other : (steps : ℕ) (r : Refusal) → ((k : ℕ) → r ≡ InputFault k → ⊥) → ((k : ℕ) → r ≡ TimeBack k → ⊥) → r ≡ placed_at steps r
unfolding placed_at
other steps ProgramLength f g = refl
other steps (CheckSum j) f g = refl
other steps (BlockNumber j) f g = refl
other steps (RecordFault j) f g = refl
other steps (ShapeFault n) f g = refl
other steps (ScopeFault n) f g = refl
other steps (TypeFault n) f g = refl
other steps (NotReady n) f g = refl
other steps StateFault f g = refl
other steps RecordsLength f g = refl
other steps OutputLength f g = refl
other steps (InputFault k) f g = absurd (f k refl)
other steps (TimeBack k) f g = absurd (g k refl)
other steps OtherProgram f g = refl

pub returns-in-InputFault : goal.returns-in-InputFault
unfolding placed_at
returns-in-InputFault c = rw c.in-InputFault.is refl

pub returns-in-TimeBack : goal.returns-in-TimeBack
unfolding placed_at
returns-in-TimeBack c = rw c.in-TimeBack.is refl

pub returns-in_default : goal.returns-in_default
returns-in_default c = other _ _ c.in_default.not-InputFault c.in_default.not-TimeBack
