use Rattle.moves.proofs.NumberLaws.{jump_value_lem}
use Rattle.moves.specs.Outcomes.{jump_value}
use Rattle.outcomes.specs.Outcome.{IsValue}
use Rattle.rules.specs.Values.{packed}
use mathlib.Core.Path.{◌≡◌, subst, sym}
use Prim.Native.Nat.{ℕ}
use Rattle.moves.proofs.value_in.Goals as goal

-- A number that is a jump's value is one.
value_of : (r : ℕ) {v : ℕ} → v ≡ jump_value r → (v ≡ jump_value r) × IsValue v
value_of r e = (e, subst (λ (n : ℕ). IsValue n) (sym e) (jump_value_lem r))

pub returns : goal.returns
unfolding jump_value packed
returns c = value_of c.args.r c.pack.ensures
