-- Records renumbered, and records as bytes, written one after the other.
-- Assumes nothing.
use Rattle.std.specs.Prelude.{if◌then◌else◌}
use mathlib.Core.Path.{◌≡◌, refl, sym, ap, ◌∙◌}
use mathlib.Core.List.{List, [], ◌∷◌, ◌++◌}
use mathlib.Core.Bool.{Bool, true, false}
use Prim.Native.Nat.{ℕ, zero, suc, ◌+◌, ◌-◌, ◌*◌, ◌%◌, ◌≤◌, ◌<◌}
use native.Mathlib.Omega.{arith}
use lib.Dec.{eqb, ltb}
use lib.ListN.{length, get_or, set, take, length-set}
use borrow.Author.Tests.{lt-ltb, le-ltb}
use Rattle.rules.specs.Bytes.{Bytes, write_at, bytes_of, ◌and◌, ◌or◌}
use Rattle.rules.specs.Kinds.{fields_of}
use Rattle.rules.specs.Layout.{kind_at, type_at, a_at, b_at, c_at, word_at}
use Rattle.rules.specs.Shape.{is_child}
use Rattle.rules.specs.Node.{IsNode}
use Rattle.rules.specs.declared.Node.{Node}
use Rattle.written.specs.Table.{row_bytes}
use Rattle.written.proofs.ListLaws.{app_length, app_assoc, two}
use Rattle.written.proofs.Rows.{row_length}
use Rattle.tidy.specs.Record.{new_field, moves_a, moves_b, moves_c, new_row, new_rows, zero_row, row_from, rows_from, Inside}

-- A field.
pub field_moved : (new : List ℕ) (b : Bool) (x v : ℕ) → b ≡ true → x < 1024 → v ≡ get_or new x 0 → v ≡ new_field new b x
unfolding new_field ◌and◌
field_moved new b x v e h q = q ∙ sym (simp (e, lt-ltb x 1024 h))

pub field_far : (new : List ℕ) (b : Bool) (x : ℕ) → 1024 ≤ x → x ≡ new_field new b x
unfolding new_field ◌and◌
field_far new true x h = sym (simp (le-ltb x 1024 h))
field_far new false x h = refl

pub field_plain : (new : List ℕ) (b : Bool) (x : ℕ) → b ≡ false → x ≡ new_field new b x
unfolding new_field ◌and◌
field_plain new b x e = sym (simp e)

-- A record of five fields that were found.
pub row_moved : (p : Bytes) (new : List ℕ) (o : ℕ) (n : Node) → IsNode p o n → (ca ya yb cc₀ yc : Bool)
    → ca ≡ is_child (fields_of n.kind).a → ya ≡ (ca or eqb n.kind 16) → yb ≡ is_child (fields_of n.kind).b
    → cc₀ ≡ is_child (fields_of n.kind).c → yc ≡ (cc₀ or eqb n.kind 10)
    → (a b c : ℕ) → a ≡ new_field new ya n.a → b ≡ new_field new yb n.b → c ≡ new_field new yc n.c
    → record { kind = n.kind; ty = n.ty; a = a; b = b; c = c; word = n.word } ≡ new_row p new o
unfolding new_row moves_a moves_b moves_c
row_moved p new o n w ca ya yb cc₀ yc qa ea eb qc ec a b c fa fb fc =
    rw (fa, fb, fc, ea, eb, ec, qa, qc, w.kind_is, w.type_is, w.a_is, w.b_is, w.c_is, w.word_is) refl

-- Record k of the new table.
pub row_inside : (p : Bytes) (new order : List ℕ) (count k : ℕ) → k < count → count ≤ length order
    → new_row p new (get_or order k 0) ≡ row_from (new_rows p new (take count order)) k
unfolding row_from new_rows
row_inside p new order zero k h l = absurd (omega arith)
row_inside p new [] (suc count) k h l = absurd (omega arith)
row_inside p new (o ∷ order) (suc count) zero h l = refl
row_inside p new (o ∷ order) (suc count) (suc k) h l = row_inside p new order count k (omega arith) (omega arith)

rows_long : (p : Bytes) (new order : List ℕ) (count : ℕ) → length (new_rows p new (take count order)) ≤ count
unfolding new_rows
rows_long p new order zero = omega arith
rows_long p new [] (suc count) = omega arith
rows_long p new (o ∷ order) (suc count) = omega (arith, rows_long p new order count)

row_none : (ns : List Node) (k : ℕ) → length ns ≤ k → zero_row ≡ row_from ns k
unfolding row_from
row_none [] k h = refl
row_none (n ∷ ns) zero h = absurd (omega arith)
row_none (n ∷ ns) (suc k) h = row_none ns k (omega arith)

pub row_behind : (p : Bytes) (new order : List ℕ) (count k : ℕ) → count ≤ k
    → record { kind = 0; ty = 0; a = 0; b = 0; c = 0; word = 0 } ≡ row_from (new_rows p new (take count order)) k
unfolding zero_row
row_behind p new order count k h = row_none (new_rows p new (take count order)) k (omega (arith, rows_long p new order count))

-- A list written behind another.
pub write_more : (xs ys r : List ℕ) (k j : ℕ) → j ≡ k + length xs → write_at (write_at r k xs) j ys ≡ write_at r k (xs ++ ys)
unfolding write_at
write_more [] ys r k j e = ap (λ (m : ℕ). write_at r m ys) (let z : j ≡ k = omega arith in z)
write_more (x ∷ xs) ys r k j e = write_more xs ys (set r k x) (suc k) j (omega arith)

pub sets_long : (r : List ℕ) (i j x y : ℕ) → length (set (set r i x) j y) ≡ length r
sets_long r i j x y = length-set (set r i x) j y ∙ length-set r i x

-- Kind and type, a, b and c, and the word.
pub row_written : (room r₁ r₂ r₃ r₄ : List ℕ) (at : ℕ) (n : Node)
    → r₁ ≡ write_at (set (set room at n.kind) (at + 1) n.ty) (at + 2) (bytes_of 2 n.a) → r₂ ≡ write_at r₁ (at + 4) (bytes_of 2 n.b)
    → r₃ ≡ write_at r₂ (at + 6) (bytes_of 2 n.c) → r₄ ≡ write_at r₃ (at + 8) (bytes_of 4 n.word) → r₄ ≡ write_at room at (row_bytes n)
unfolding row_bytes write_at
row_written room r₁ r₂ r₃ r₄ at n e₁ e₂ e₃ e₄ =
    let z₂ : at + 2 ≡ suc (suc at) = omega arith in
    let z₁ : at + 1 ≡ suc at = omega arith in
    let A : Bytes = bytes_of 2 n.a in
    let B : Bytes = bytes_of 2 n.b in
    let C : Bytes = bytes_of 2 n.c in
    let W : Bytes = bytes_of 4 n.word in
    let s : List ℕ = set (set room at n.kind) (suc at) n.ty in
    let q₁ : r₁ ≡ write_at s (suc (suc at)) A = e₁ ∙ (λ i. write_at (set (set room at n.kind) (z₁ i) n.ty) (z₂ i) A) in
    let q₂ : r₂ ≡ write_at s (suc (suc at)) (A ++ B)
    = e₂ ∙ ap (λ (r : List ℕ). write_at r (at + 4) B) q₁ ∙ write_more A B s (suc (suc at)) (at + 4) (omega (arith, two n.a)) in
    let q₃ : r₃ ≡ write_at s (suc (suc at)) (A ++ B ++ C)
    = e₃ ∙ ap (λ (r : List ℕ). write_at r (at + 6) C) q₂ ∙ write_more (A ++ B) C s (suc (suc at)) (at + 6) (omega (arith, app_length A B, two n.a, two n.b)) in
    e₄ ∙ ap (λ (r : List ℕ). write_at r (at + 8) W) q₃
    ∙ write_more (A ++ B ++ C) W s (suc (suc at)) (at + 8) (omega (arith, app_length (A ++ B) C, app_length A B, two n.a, two n.b, two n.c))
    ∙ ap (write_at s (suc (suc at))) (app_assoc (A ++ B) C W ∙ app_assoc A B (C ++ W))

-- The records of a block, one after the other.
rows_suc : (left : ℕ) (ns : List Node) (k : ℕ) → rows_from (suc left) ns k ≡ row_bytes (row_from ns k) ++ rows_from left ns (suc k)
unfolding rows_from
rows_suc left ns k = refl

pub rows_step : (ns : List Node) (room room₁ : List ℕ) (n : Node) (at first r : ℕ) → r < 42 → room₁ ≡ write_at room (at + 12 * r) (row_bytes n)
    → n ≡ row_from ns (first + r)
    → write_at room₁ (at + 12 * (r + 1)) (rows_from (42 - (r + 1)) ns (first + (r + 1))) ≡ write_at room (at + 12 * r) (rows_from (42 - r) ns (first + r))
rows_step ns room room₁ n at first r h e f =
    let z : 42 - r ≡ suc (42 - (r + 1)) = omega arith in
    let y : suc (first + r) ≡ first + (r + 1) = omega arith in
    let rest : Bytes = rows_from (42 - (r + 1)) ns (first + (r + 1)) in
    ap (λ (l : List ℕ). write_at l (at + 12 * (r + 1)) rest) e
    ∙ write_more (row_bytes n) rest room (at + 12 * r) (at + 12 * (r + 1)) (omega (arith, row_length n))
    ∙ (λ i. write_at room (at + 12 * r) (row_bytes (f i) ++ rows_from (42 - (r + 1)) ns (sym y i)))
    ∙ sym (ap (λ (m : ℕ). write_at room (at + 12 * r) (rows_from m ns (first + r))) z ∙ ap (write_at room (at + 12 * r)) (rows_suc (42 - (r + 1)) ns (first + r)))

pub rows_start : (ns : List Node) (room : List ℕ) (at first : ℕ) → write_at room (at + 12 * 0) (rows_from (42 - 0) ns (first + 0)) ≡ write_at room at (rows_from 42 ns first)
rows_start ns room at first =
    λ i. write_at room (let z : at + 12 * 0 ≡ at = omega arith in z i) (rows_from 42 ns (let z : first + 0 ≡ first = omega arith in z i))

pub rows_end : (ns : List Node) (room : List ℕ) (at first r : ℕ) → 42 ≤ r → write_at room (at + 12 * r) (rows_from (42 - r) ns (first + r)) ≡ room
unfolding rows_from write_at
rows_end ns room at first r h = ap (λ (m : ℕ). write_at room (at + 12 * r) (rows_from m ns (first + r))) (let z : 42 - r ≡ 0 = omega arith in z)
