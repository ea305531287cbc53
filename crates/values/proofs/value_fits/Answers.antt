use mathlib.Core.Path.{◌≡◌, refl}
use mathlib.Core.Bool.{Bool, true, false}
use Prim.Native.Nat.{ℕ}
use lib.Dec.{eqb, leb}
use Rattle.rules.specs.Bytes.{◌and◌, ◌or◌}
use Rattle.rules.specs.Values.{is_maybe, maybe_of, value_fits}
use Rattle.values.proofs.value_fits.Goals as goal

int_fits : (t present word : ℕ) → t ≡ 3 → eqb present 1 ≡ value_fits t present word
unfolding value_fits maybe_of is_maybe ◌and◌ ◌or◌
int_fits t present word e = rw e (go (eqb present 1) (eqb present 0) (eqb word 0) (leb word 1))
  where
    go : (here gone zero few : Bool) → here ≡ ((here or (gone and false)) and (zero or here) and (zero or true) and (few or true))
    go true gone true true = refl
    go true gone true false = refl
    go true gone false true = refl
    go true gone false false = refl
    go false true zero few = refl
    go false false zero few = refl

pub returns-then-t-eq-INT : goal.returns-then-t-eq-INT
returns-then-t-eq-INT c = let args = c.args in int_fits args.t args.present args.word c.if-t-eq-INT.true

pub returns : goal.returns
unfolding value_fits maybe_of ◌and◌ ◌or◌
returns c = rw c.is_maybe.ensures refl
