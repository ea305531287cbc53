-- The rows of the table of kinds, as numbers: which numbers are kinds, and the digits of a row.
-- Assumes nothing.
use mathlib.Core.Path.{◌≡◌, refl, sym, ap, subst, ◌∙◌}
use mathlib.Core.Bool.{Bool, true, false, true≢false}
use Prim.Native.Nat.{ℕ, suc, ◌≤◌, ◌<◌}
use native.Mathlib.Omega.{arith}
use lib.Dec.{eqb, leb}
use borrow.Author.Tests.{eqb-true, eqb-false, leb-true, leb-false, le-leb, lt-leb, ne_eqb}
use Rattle.rules.specs.Bytes.{◌and◌, ◌or◌}
use Rattle.rules.specs.Kinds.{row, is_signal, is_branch, is_case, is_expression, is_kind, fields_of}
use Rattle.rules.specs.declared.Field.TheVariants.{Unused, Expression}
use Rattle.rules.specs.declared.TypeField.TheVariants.{NoType}
use Rattle.kinds.specs.Rows.{row_number, row_of}
use Rattle.kinds.proofs.KindLaws.{ops_low, ops_high}

-- The row of a kind that has an arm of its own: by computation.
pub at : {k m r n : ℕ} → r ≡ n → k ≡ m → n ≡ row_of m → r ≡ row_of k
at e q w = e ∙ w ∙ ap row_of (sym q)

-- The operations on two: the kinds 18-26 but 24.
within : (k : ℕ) → 16 ≤ k → k ≤ 29 → is_expression k ≡ true
unfolding is_expression ◌and◌
within k l u = simp (le-leb 16 k l, le-leb k 29 u)

last_holds : (a b c : Bool) → (a or b or c or true) ≡ true
unfolding ◌or◌
last_holds true b c = refl
last_holds false true c = refl
last_holds false false true = refl
last_holds false false false = refl

an_expression : (k : ℕ) → 16 ≤ k → k ≤ 29 → is_kind k ≡ true
unfolding is_kind
an_expression k l u =
    ap (λ (b : Bool). is_signal k or is_branch k or is_case k or b) (within k l u) ∙ last_holds (is_signal k) (is_branch k) (is_case k)

pub on_two : (k : ℕ) → 18 ≤ k → k < 27 → (k ≡ 24 → ⊥) → row NoType Expression Expression Unused ≡ fields_of k
on_two k l u d = go (leb 24 k) refl
  where
    go : (b : Bool) → leb 24 k ≡ b → row NoType Expression Expression Unused ≡ fields_of k
    go true e = ops_high k (leb-true 24 k e) u d
    go false e = ops_low k l (leb-false 24 k e)

from_18 : (k : ℕ) → 16 ≤ k → (k ≡ 16 → ⊥) → (k ≡ 17 → ⊥) → 18 ≤ k
from_18 k l n16 n17 = omega (arith, n16, n17)

pub operates : {k r : ℕ} → r ≡ row_number (row NoType Expression Expression Unused) → 16 ≤ k → k < 27 → (k ≡ 16 → ⊥) → (k ≡ 17 → ⊥) → (k ≡ 24 → ⊥) → r ≡ row_of k
unfolding row_of
operates {k} e l u n16 n17 n24 =
    e ∙ rw (an_expression k l (omega arith), ← on_two k (from_18 k l n16 n17) u n24) refl

-- The numbers that are no kind.
no_expression_low : (k : ℕ) → k < 16 → is_expression k ≡ false
unfolding is_expression ◌and◌
no_expression_low k u = simp (lt-leb 16 k u)

no_expression_high : (k : ℕ) → 29 < k → is_expression k ≡ false
unfolding is_expression ◌and◌
no_expression_high k u = simp (le-leb 16 k (omega arith), lt-leb k 29 u)

no_signal_high : (k : ℕ) → 8 < k → is_signal k ≡ false
unfolding is_signal ◌and◌
no_signal_high k l = simp (le-leb 1 k (omega arith), lt-leb k 8 l)

past : (k m : ℕ) → m < k → (k ≡ suc m → ⊥) → suc m < k
past k m h d = omega (arith, d)

no_signal_lem : (k : ℕ) → (k ≡ 1 → ⊥) → (k ≡ 2 → ⊥) → (k ≡ 3 → ⊥) → (k ≡ 4 → ⊥) → (k ≡ 5 → ⊥) → (k ≡ 6 → ⊥) → (k ≡ 7 → ⊥) → (k ≡ 8 → ⊥)
    → is_signal k ≡ false
unfolding is_signal ◌and◌
no_signal_lem k n1 n2 n3 n4 n5 n6 n7 n8 = go (leb 1 k) refl
  where
    go : (b : Bool) → leb 1 k ≡ b → (b and leb k 8) ≡ false
    go false e = refl
    go true e =
        let l = leb-true 1 k e in
        let four = past k 3 (past k 2 (past k 1 (past k 0 (omega arith) n1) n2) n3) n4 in
        lt-leb k 8 (past k 7 (past k 6 (past k 5 (past k 4 four n5) n6) n7) n8)

none : (k : ℕ) → is_signal k ≡ false → (k ≡ 9 → ⊥) → (k ≡ 10 → ⊥) → is_expression k ≡ false → 0 ≡ row_of k
unfolding row_of is_kind is_branch is_case ◌or◌
none k s n9 n10 e = simp (s, ne_eqb k 9 n9, ne_eqb k 10 n10, e)

pub none_low : (k : ℕ) → k < 16 → (k ≡ 1 → ⊥) → (k ≡ 2 → ⊥) → (k ≡ 3 → ⊥) → (k ≡ 4 → ⊥) → (k ≡ 5 → ⊥) → (k ≡ 6 → ⊥) → (k ≡ 7 → ⊥)
    → (k ≡ 8 → ⊥) → (k ≡ 9 → ⊥) → (k ≡ 10 → ⊥) → 0 ≡ row_of k
none_low k u n1 n2 n3 n4 n5 n6 n7 n8 n9 n10 = none k (no_signal_lem k n1 n2 n3 n4 n5 n6 n7 n8) n9 n10 (no_expression_low k u)

pub none_high : (k : ℕ) → 27 ≤ k → (k ≡ 27 → ⊥) → (k ≡ 28 → ⊥) → (k ≡ 29 → ⊥) → 0 ≡ row_of k
none_high k l n27 n28 n29 =
    none k (no_signal_high k (omega arith)) (λ e. omega arith) (λ e. omega arith)
    (no_expression_high k (past k 28 (past k 27 (past k 26 (omega arith) n27) n28) n29))

-- What holds of each kind of the table, and of the operations on two.
by_eq : {A : Type 0} (k m : ℕ) → (k ≡ m → A) → ((k ≡ m → ⊥) → A) → A
by_eq {A} k m same other = go (eqb k m) refl
  where
    go : (b : Bool) → eqb k m ≡ b → A
    go true q = same (eqb-true k m q)
    go false q = other (eqb-false k m q)

no_kind : {A : Type 0} {k : ℕ} → is_kind k ≡ true → is_signal k ≡ false → (k ≡ 9 → ⊥) → (k ≡ 10 → ⊥) → is_expression k ≡ false → A
unfolding is_kind is_branch is_case ◌or◌
no_kind {A} {k} e s n9 n10 x = elim (true≢false (sym e ∙ simp (s, ne_eqb k 9 n9, ne_eqb k 10 n10, x))) [ ]

pub each_kind : (P : ℕ → Type 0) (k : ℕ) → is_kind k ≡ true
    → P 1 → P 2 → P 3 → P 4 → P 5 → P 6 → P 7 → P 8 → P 9 → P 10 → P 16 → P 17 → P 24 → P 27 → P 28 → P 29
    → (18 ≤ k → k < 27 → (k ≡ 24 → ⊥) → P k) → P k
each_kind P k e p1 p2 p3 p4 p5 p6 p7 p8 p9 p10 p16 p17 p24 p27 p28 p29 two =
    by_eq k 1 (λ q. subst P (sym q) p1) λ n1.
    by_eq k 2 (λ q. subst P (sym q) p2) λ n2.
    by_eq k 3 (λ q. subst P (sym q) p3) λ n3.
    by_eq k 4 (λ q. subst P (sym q) p4) λ n4.
    by_eq k 5 (λ q. subst P (sym q) p5) λ n5.
    by_eq k 6 (λ q. subst P (sym q) p6) λ n6.
    by_eq k 7 (λ q. subst P (sym q) p7) λ n7.
    by_eq k 8 (λ q. subst P (sym q) p8) λ n8.
    by_eq k 9 (λ q. subst P (sym q) p9) λ n9.
    by_eq k 10 (λ q. subst P (sym q) p10) λ n10.
    by_eq k 16 (λ q. subst P (sym q) p16) λ n16.
    by_eq k 17 (λ q. subst P (sym q) p17) λ n17.
    by_eq k 24 (λ q. subst P (sym q) p24) λ n24.
    by_eq k 27 (λ q. subst P (sym q) p27) λ n27.
    by_eq k 28 (λ q. subst P (sym q) p28) λ n28.
    by_eq k 29 (λ q. subst P (sym q) p29) λ n29.
    let s = no_signal_lem k n1 n2 n3 n4 n5 n6 n7 n8 in
    go s n9 n10 n16 n17 n24 n27 n28 n29 (leb 16 k) refl (leb 27 k) refl
  where
    go : is_signal k ≡ false → (k ≡ 9 → ⊥) → (k ≡ 10 → ⊥) → (k ≡ 16 → ⊥) → (k ≡ 17 → ⊥) → (k ≡ 24 → ⊥) → (k ≡ 27 → ⊥) → (k ≡ 28 → ⊥)
        → (k ≡ 29 → ⊥) → (x : Bool) → leb 16 k ≡ x → (y : Bool) → leb 27 k ≡ y → P k
    go s n9 n10 n16 n17 n24 n27 n28 n29 false q y w = no_kind e s n9 n10 (no_expression_low k (leb-false 16 k q))
    go s n9 n10 n16 n17 n24 n27 n28 n29 true q true w =
        no_kind e s n9 n10 (no_expression_high k (past k 28 (past k 27 (past k 26 (leb-true 27 k w) n27) n28) n29))
    go s n9 n10 n16 n17 n24 n27 n28 n29 true q false w =
        two (from_18 k (leb-true 16 k q) n16 n17) (leb-false 27 k w) n24
