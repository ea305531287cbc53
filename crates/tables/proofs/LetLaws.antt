-- One record more in the count of lets. Assumes nothing.
use Rattle.std.proofs.Common.{◌≡◌, ◌≢◌, ℕ, ◌+◌, refl, sym, ap, ◌∙◌, arith}
use native.Mathlib.Numerals.{unary_clauses}
use borrow.Author.Tests.{eq-eqb, ne_eqb}
use Rattle.rules.specs.Bytes.{Bytes}
use Rattle.rules.specs.Layout.{kind_at}
use Rattle.tables.specs.Lets.{one_let, lets_before}

pub more_lets : (p : Bytes) (i : ℕ) → lets_before p (i + 1) ≡ lets_before p i + one_let (kind_at p i)
unfolding lets_before
more_lets p i = simp unary_clauses refl

is_one : (k : ℕ) → k ≡ 5 → one_let k ≡ 1
unfolding one_let
is_one k e = rw (eq-eqb _ _ e) refl

is_none : (k : ℕ) → k ≢ 5 → one_let k ≡ 0
unfolding one_let
is_none k d = rw (ne_eqb _ _ d) refl

pub counts_let : (p : Bytes) (i n k : ℕ) → n ≡ lets_before p i → k ≡ kind_at p i → k ≡ 5 → n + 1 ≡ lets_before p (i + 1)
counts_let p i n k e q h =
    let one = ap one_let (sym q) ∙ is_one k h in
    let more = more_lets p i in
    omega (arith, e, one, more)

pub counts_other : (p : Bytes) (i n k : ℕ) → n ≡ lets_before p i → k ≡ kind_at p i → k ≢ 5 → n ≡ lets_before p (i + 1)
counts_other p i n k e q d =
    let none = ap one_let (sym q) ∙ is_none k d in
    let more = more_lets p i in
    omega (arith, e, none, more)
