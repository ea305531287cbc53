-- Where each node's new number is its place, the old records, renumbered, are the records of the tree.
-- Assumes nothing.
use mathlib.Core.Path.{◌≡◌, refl, sym, ap, ◌∙◌}
use mathlib.Core.List.{List, [], ◌∷◌, ◌++◌}
use mathlib.Core.Bool.{Bool, true, false}
use Prim.Native.Nat.{ℕ, ◌+◌, ◌≤◌, ◌<◌}
use native.Mathlib.Omega.{arith}
use lib.Dec.{eqb}
use lib.ListN.{length, get_or, length-append}
use borrow.Author.Tests.{lt-ltb, le-ltb}
use Rattle.rules.specs.Bytes.{Bytes, ◌and◌, ◌or◌}
use Rattle.rules.specs.Kinds.{fields_of}
use Rattle.rules.specs.Layout.{nodes, kind_at, a_at, b_at, c_at}
use Rattle.rules.specs.Shape.{is_child}
use Rattle.rules.specs.declared.Node.{Node}
use Rattle.written.specs.Parts.{part, Slot, size_p, size_k, last_p, field_k, row_p, rows_p, rows_k}
use Rattle.written.proofs.Places.{Along, along_none, along_one, along_app, along_left, along_right, along_is}
use Rattle.tidy.specs.Twig.{Twig, twig, Limb, holds, child, held_in}
use Rattle.tidy.specs.Record.{new_field, moves_a, moves_b, moves_c, new_row, new_rows}
use Rattle.tidy.proofs.Pruned.{top_t, slot_by, part_t, slot_l, Flagged, Here, From, FromL}
use Rattle.inorder.specs.Walked.{list_t, list_l}

app_rows : (p : Bytes) (new xs ys : List ℕ) → new_rows p new (xs ++ ys) ≡ new_rows p new xs ++ new_rows p new ys
unfolding new_rows
app_rows p new [] ys = refl
app_rows p new (x ∷ xs) ys = ap (λ (l : List Node). new_row p new x ∷ l) (app_rows p new xs ys)

-- Each node's new number is its place.
abbrev pub IsPlace : List ℕ → ℕ → ℕ → Type 0
IsPlace new i n = get_or new n 0 ≡ i

module _ (p : Bytes) (new : List ℕ) where
  -- New numbers of binders and targets.
  abbrev pub φ : ℕ → ℕ
  φ x = new_field new true x

  pub record Limbed (l : Limb) (lo : ℕ) : Type 0 where
    pub field : (yes₀ name : Bool) → Flagged yes₀ l → new_field new (yes₀ or name) (held_in l) ≡ field_k lo (slot_l l φ name)
    pub rows : (name : Bool) → rows_k (slot_l l φ name) lo ≡ new_rows p new (list_l l)
    pub size : (name : Bool) → size_k (slot_l l φ name) ≡ length (list_l l)

  pub record Numbered (t : Twig) (lo : ℕ) : Type 0 where
    pub top : get_or new (top_t t) 0 ≡ last_p lo (part_t t φ)
    pub rows : rows_p (part_t t φ) lo ≡ new_rows p new (list_t t)
    pub size : size_p (part_t t φ) ≡ length (list_t t)

  held_limbed : (x lo : ℕ) → Limbed (holds x) lo
  unfolding part_t list_t new_rows slot_by size_p rows_p field_k new_field ◌and◌ ◌or◌ held_in
  held_limbed x lo = record {
    field = field₀;
    rows = λ name. go name;
    size = λ name. long name;
  }
    where
      go : (name : Bool) → rows_k (slot_by name φ x) lo ≡ []
      go true = refl
      go false = refl

      long : (name : Bool) → size_k (slot_by name φ x) ≡ 0
      long true = refl
      long false = refl

      field₀ : (yes₀ name : Bool) → (yes₀ ≡ true → 1024 ≤ x) → new_field new (yes₀ or name) x ≡ field_k lo (slot_by name φ x)
      field₀ true true f = refl
      field₀ false true f = refl
      field₀ true false f = simp (le-ltb x 1024 (f refl))
      field₀ false false f = refl

  moved_in : (x : ℕ) → x < 1024 → new_field new true x ≡ get_or new x 0
  unfolding new_field ◌and◌
  moved_in x h = simp (lt-ltb x 1024 h)

  child_limbed : (x : ℕ) (t : Twig) (lo n : ℕ) → n < 1008 → x < n → top_t t ≡ x → Numbered t lo → Limbed (child x t) lo
  unfolding part_t list_t size_p rows_p field_k new_field ◌and◌ ◌or◌ held_in
  child_limbed x t lo n h l e d = record {
    field = λ yes₀ name f. ap (λ (b : Bool). new_field new (b or name) x) f ∙ moved_in x (omega arith) ∙ ap (λ (k : ℕ). get_or new k 0) (sym e) ∙ d.top;
    rows = λ name. d.rows;
    size = λ name. d.size;
  }

  module _ (n k t w : ℕ) (a b c : Limb) (here : Here p n k t w a b c) (lo : ℕ) where
    abbrev A : List ℕ
    A = list_l a

    abbrev B : List ℕ
    B = list_l b

    abbrev C : List ℕ
    C = list_l c

    abbrev sa : Slot
    sa = slot_l a φ (eqb k 16)

    abbrev sb : Slot
    sb = slot_l b φ false

    abbrev sc : Slot
    sc = slot_l c φ (eqb k 10)

    module _ (la : Limbed a lo) (lb : Limbed b (lo + length A)) (lc : Limbed c (lo + length A + length B)) (r : get_or new n 0 ≡ lo + length A + length B + length C) where
      row_is : row_p lo (part k t w sa sb sc) ≡ new_row p new n
      unfolding row_p new_row moves_a moves_b moves_c ◌or◌
      row_is =
          let x : field_k lo sa ≡ new_field new (moves_a (kind_at p n)) (a_at p n)
          = sym (la.field (is_child (fields_of k).a) (eqb k 16) here.a_flag) ∙ (λ i. new_field new (moves_a (here.kind_is i)) (here.a_is i)) in
          let y : field_k (lo + size_k sa) sb ≡ new_field new (moves_b (kind_at p n)) (b_at p n)
          = ap (λ (m : ℕ). field_k (lo + m) sb) (la.size (eqb k 16)) ∙ sym (lb.field (is_child (fields_of k).b) false here.b_flag)
          ∙ ap (λ (q : Bool). new_field new q (held_in b)) (or_no (is_child (fields_of k).b)) ∙ (λ i. new_field new (moves_b (here.kind_is i)) (here.b_is i)) in
          let z : field_k (lo + size_k sa + size_k sb) sc ≡ new_field new (moves_c (kind_at p n)) (c_at p n)
          = (λ i. field_k (lo + la.size (eqb k 16) i + lb.size false i) sc) ∙ sym (lc.field (is_child (fields_of k).c) (eqb k 10) here.c_flag)
          ∙ (λ i. new_field new (moves_c (here.kind_is i)) (here.c_is i)) in
          λ i. record { kind = here.kind_is i; ty = here.type_is i; a = x i; b = y i; c = z i; word = here.word_is i }
        where
          or_no : (q : Bool) → (q or false) ≡ q
          or_no true = refl
          or_no false = refl

      node_numbered : Numbered (twig n k t w a b c) lo
      unfolding top_t part_t list_t size_p last_p rows_p new_rows
      node_numbered = record {
        top = r ∙ (let z : lo + length A + length B + length C ≡ lo + (size_k sa + size_k sb + size_k sc) = omega (arith, la.size (eqb k 16), lb.size false, lc.size (eqb k 10)) in z);
        rows = (λ i. la.rows (eqb k 16) i ++ (rows_k sb (lo + la.size (eqb k 16) i) ++ (rows_k sc (lo + la.size (eqb k 16) i + lb.size false i) ++ (row_is i ∷ []))))
            ∙ (λ i. new_rows p new A ++ (lb.rows false i ++ (lc.rows (eqb k 10) i ++ new_rows p new (n ∷ []))))
            ∙ sym (app_rows p new A (B ++ (C ++ n ∷ [])) ∙ ap (λ (l : List Node). new_rows p new A ++ l)
            (app_rows p new B (C ++ n ∷ []) ∙ ap (λ (l : List Node). new_rows p new B ++ l) (app_rows p new C (n ∷ []))));
        size = omega (arith, la.size (eqb k 16), lb.size false, lc.size (eqb k 10), length-append A (B ++ (C ++ n ∷ [])), length-append B (C ++ n ∷ []), length-append C (n ∷ []));
      }

  at_node : (n k t w : ℕ) (a b c : Limb) → Here p n k t w a b c → (lo : ℕ) → ((m : ℕ) → Along (IsPlace new) m (list_l a) → Limbed a m)
      → ((m : ℕ) → Along (IsPlace new) m (list_l b) → Limbed b m) → ((m : ℕ) → Along (IsPlace new) m (list_l c) → Limbed c m)
      → Along (IsPlace new) lo (list_l a ++ (list_l b ++ (list_l c ++ n ∷ []))) → Numbered (twig n k t w a b c) lo
  at_node n k t w a b c here lo fa fb fc r =
      let A : List ℕ = list_l a in
      let B : List ℕ = list_l b in
      let C : List ℕ = list_l c in
      let r₁ = along_right (IsPlace new) lo (length A) A (B ++ (C ++ n ∷ [])) refl r in
      let r₂ = along_right (IsPlace new) (lo + length A) (length B) B (C ++ n ∷ []) refl r₁ in
      let r₃ = along_right (IsPlace new) (lo + length A + length B) (length C) C (n ∷ []) refl r₂ in
      node_numbered n k t w a b c here lo (fa lo (along_left (IsPlace new) lo A (B ++ (C ++ n ∷ [])) r)) (fb _ (along_left (IsPlace new) _ B (C ++ n ∷ []) r₁))
      (fc _ (along_left (IsPlace new) _ C (n ∷ []) r₂)) (along_is (IsPlace new) _ n r₃)

mutual
  unfolding top_t list_t

  pub numbered : (t : Twig) (p : Bytes) (new : List ℕ) (lo : ℕ) → From t p → Along (IsPlace new) lo (list_t t) → Numbered p new t lo
  numbered (twig n k t w a b c) p new lo f r =
      at_node p new n k t w a b c f.0 lo (λ m s. limbed a p new m n f.0.small f.1 s) (λ m s. limbed b p new m n f.0.small f.2 s)
      (λ m s. limbed c p new m n f.0.small f.3 s) r

  limbed : (l : Limb) (p : Bytes) (new : List ℕ) (lo n : ℕ) → n < 1008 → FromL l p n → Along (IsPlace new) lo (list_l l) → Limbed p new l lo
  limbed (holds x) p new lo n h f r = held_limbed p new x lo
  limbed (child x t) p new lo n h f r = child_limbed p new x t lo n h f.0 f.1 (numbered t p new lo f.2 r)

-- Each node of the list is a node of the program.
abbrev pub IsInside : Bytes → ℕ → ℕ → Type 0
IsInside p i n = n < nodes p

all_inside : (p : Bytes) (n lo : ℕ) (A B C : List ℕ) → n < nodes p → ((m : ℕ) → Along (IsInside p) m A) → ((m : ℕ) → Along (IsInside p) m B) → ((m : ℕ) → Along (IsInside p) m C)
    → Along (IsInside p) lo (A ++ (B ++ (C ++ n ∷ [])))
all_inside p n lo A B C h a b c =
    along_app (IsInside p) lo (length A) A (B ++ (C ++ n ∷ [])) refl (a lo)
    (along_app (IsInside p) (lo + length A) (length B) B (C ++ n ∷ []) refl (b _)
    (along_app (IsInside p) (lo + length A + length B) (length C) C (n ∷ []) refl (c _) (along_one (IsInside p) _ n h)))

mutual
  unfolding list_t

  pub inside : (t : Twig) (p : Bytes) (lo : ℕ) → From t p → Along (IsInside p) lo (list_t t)
  inside (twig n k t w a b c) p lo f =
      all_inside p n lo (list_l a) (list_l b) (list_l c) f.0.inside (λ m. inside_limb a p n m f.1) (λ m. inside_limb b p n m f.2) (λ m. inside_limb c p n m f.3)

  inside_limb : (l : Limb) (p : Bytes) (n lo : ℕ) → FromL l p n → Along (IsInside p) lo (list_l l)
  inside_limb (holds x) p n lo f = along_none (IsInside p) lo
  inside_limb (child x t) p n lo f = inside t p lo f.2
