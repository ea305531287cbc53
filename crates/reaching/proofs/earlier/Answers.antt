use Rattle.std.specs.Prelude.{Option, Some, None, if◌then◌else◌}
use Rattle.dropped.specs.Clauses.{earlier, number_of, number_in}
use Rattle.dropped.specs.declared.Clause.{Clause}
use Rattle.dropped.specs.declared.Clause.TheVariants.{OldNode, PlainFields, Next, ChildA, ChildB, ChildC, Named, Root}
use mathlib.Core.Path.{◌≡◌, refl}
use mathlib.Core.Bool.{Bool, true, false}
use lib.Dec.{eqb, ltb}
use native.Mathlib.Omega.{arith}
use borrow.Author.Tests.{lt-ltb, le-ltb}
use Rattle.reaching.proofs.earlier.Goals as goal

-- No clause has the number 0.
numbered : (x : Clause) → eqb (number_of x) 0 ≡ false
numbered OldNode = refl
numbered PlainFields = refl
numbered Next = refl
numbered ChildA = refl
numbered ChildB = refl
numbered ChildC = refl
numbered Named = refl
numbered Root = refl

no_first : (a b : Option Clause) → ((x : Clause) → a ≡ Some x → ⊥) → number_in b ≡ earlier (number_in a) (number_in b)
unfolding earlier
no_first None b d = refl
no_first (Some x) b d = absurd (d x refl)

no_second : (a b : Option Clause) (x : Clause) → a ≡ Some x → ((y : Clause) → b ≡ Some y → ⊥) → number_of x ≡ earlier (number_in a) (number_in b)
unfolding earlier
no_second a None x e d = rw e (simp (numbered x))
no_second a (Some y) x e d = absurd (d y refl)

both : (a b : Option Clause) (x y : Clause) → a ≡ Some x → b ≡ Some y → (t : Bool) → ltb (number_of y) (number_of x) ≡ t
    → (if t then number_of y else number_of x) ≡ earlier (number_in a) (number_in b)
unfolding earlier
both a b x y e f t h = rw (e, f) (simp (numbered x, numbered y, h))

pub returns-in_default : goal.returns-in_default
returns-in_default c = no_first c.args.a c.args.b c.in_default.not-Some

pub returns-in_default-b : goal.returns-in_default-b
returns-in_default-b c = no_second c.args.a c.args.b c.in-Some.x c.in-Some.is c.in_default-b.not-Some

pub returns-then-number : goal.returns-then-number
returns-then-number c =
    both c.args.a c.args.b c.in-Some.x c.in-Some-b.y c.in-Some.is c.in-Some-b.is true
    (lt-ltb _ _ (omega (arith, c.number.ensures, c.number-2.ensures, c.if-number.true)))

pub returns-else-number : goal.returns-else-number
returns-else-number c =
    both c.args.a c.args.b c.in-Some.x c.in-Some-b.y c.in-Some.is c.in-Some-b.is false
    (le-ltb _ _ (omega (arith, c.number.ensures, c.number-2.ensures, c.if-number.false)))
