-- The parts of the verdict, joined.
-- Assumes nothing.
use Rattle.std.specs.Prelude.{Some, None, Ok, Err}
use Rattle.rules.specs.Verdicts.{Verdict}
use mathlib.Core.Path.{◌≡◌, refl, sym, ◌∙◌}
use mathlib.Core.Bool.{true, false}
use Rattle.rules.specs.Bytes.{Bytes, first}
use Rattle.rules.specs.Layout.{nodes}
use Rattle.rules.specs.Format.{length_wrong}
use Rattle.rules.specs.Shape.{shape_wrong}
use Rattle.rules.specs.Accepted.{Formed}
use Rattle.rules.specs.Calls.{◌otherwise◌, refuse_if, refuse_at, program_verdict}
use Rattle.rules.specs.declared.Refusal.{Refusal}
use Rattle.rules.specs.declared.Refusal.TheVariants.{ProgramLength, ShapeFault}
use Prim.Native.Nat.{ℕ, ◌-◌, ◌<◌}
use Rattle.rules.specs.Kinds.{is_signal}
use Rattle.rules.specs.Shaped.{NodeOf}
use Rattle.rules.proofs.Established.{root_signal}
use Rattle.rules.proofs.Rooted.{some_node}
use Rattle.rules.proofs.Verdicts.{not_fine, both_fine, at_fine}
use Rattle.cells.specs.Indexed.{ListedOnce}
use Rattle.cells.proofs.Listed.{listed_once}
use Rattle.verdict.specs.Parts.{format_verdict, tree_verdict, shape_verdict}

-- no fault first; and the first of four, however they are taken together
fine_first : (v : Verdict) → ((Ok tt) otherwise v) ≡ v
unfolding ◌otherwise◌
fine_first v = refl

grouped : (a b c d : Verdict) → (a otherwise (b otherwise (c otherwise d))) ≡ ((a otherwise (b otherwise c)) otherwise d)
unfolding ◌otherwise◌
grouped (Ok _) (Ok _) c d = refl
grouped (Ok _) (Err r) c d = refl
grouped (Err r) b c d = refl

-- a program of right length: its format, then its shape
pub by_parts : (p : Bytes) → length_wrong p ≡ false → program_verdict p ≡ (format_verdict p otherwise shape_verdict p)
unfolding program_verdict format_verdict shape_verdict tree_verdict refuse_if
by_parts p e = rw e (fine_first _ ∙ grouped _ _ _ _)

pub wrong_length : (p : Bytes) → length_wrong p ≡ true → program_verdict p ≡ Err ProgramLength
unfolding program_verdict refuse_if ◌otherwise◌
wrong_length p e = rw e

-- a fault of the format is the program's
pub format_fault : (p : Bytes) (r : Refusal) → length_wrong p ≡ false → format_verdict p ≡ Err r → program_verdict p ≡ Err r
unfolding ◌otherwise◌
format_fault p r l e = by_parts p l ∙ rw e

pub format_fine : (p : Bytes) → length_wrong p ≡ false → format_verdict p ≡ Ok tt → program_verdict p ≡ shape_verdict p
unfolding ◌otherwise◌
format_fine p l e = by_parts p l ∙ rw e

-- what a right format is
pub formed : (p : Bytes) → length_wrong p ≡ false → format_verdict p ≡ Ok tt → Formed p
unfolding format_verdict
formed p l e =
    let a = both_fine _ _ e in
    let b = both_fine _ _ a.1 in
    record { length_right = l; sums_right = at_fine _ _ a.0; numbers_right = at_fine _ _ b.0; records_right = at_fine _ _ b.1 }

-- the shape, at a node or right
pub shape_at : (p : Bytes) {n : _} → first (shape_wrong p) (nodes p) ≡ Some n → shape_verdict p ≡ Err (ShapeFault n)
unfolding shape_verdict refuse_at ◌otherwise◌
shape_at p e = rw e

pub shape_right : (p : Bytes) → first (shape_wrong p) (nodes p) ≡ None → shape_verdict p ≡ tree_verdict p
unfolding shape_verdict refuse_at ◌otherwise◌
shape_right p e = rw e

-- what the codes on the tree require, of a program whose format and shape are right
pub tree_ready : (p : Bytes) (count : ℕ) → Formed p → count ≡ nodes p → first (shape_wrong p) (nodes p) ≡ None
    → (count ≡ nodes p) × (0 < count) × NodeOf is_signal p (count - 1) × ListedOnce p
tree_ready p count f e s =
    let h = some_node p f in
    let root = root_signal p f.length_right s h in
    (e, rw e h, rw e root, listed_once p s root)
