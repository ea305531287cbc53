-- With the new numbers each record that stays, renumbered, is the record of the tidied tree at its place.
-- Assumes nothing.
use Rattle.std.specs.Prelude.{if◌then◌else◌}
use mathlib.Core.Path.{◌≡◌, refl, sym, ap, ◌∙◌, subst}
use mathlib.Core.List.{List, [], ◌∷◌, ◌++◌}
use mathlib.Core.Bool.{Bool, true, false, not}
use Prim.Native.Nat.{ℕ, zero, suc, ◌+◌, ◌-◌, ◌%◌, ◌≤◌, ◌<◌}
use native.Mathlib.Omega.{arith}
use lib.Dec.{eqb, ltb}
use lib.ListN.{length, get_or}
use borrow.Author.Tests.{lt-ltb, le-ltb, eqb-true}
use Rattle.rules.specs.Bytes.{Bytes, ◌and◌, ◌or◌}
use Rattle.rules.specs.Kinds.{fields_of}
use Rattle.rules.specs.Layout.{kind_at, type_at, a_at, b_at, c_at, word_at}
use Rattle.rules.specs.Shape.{is_child}
use Rattle.rules.specs.declared.Node.{Node}
use Rattle.rules.proofs.Static.{and_both}
use Rattle.written.specs.Parts.{Part, part, Slot, size_p, size_k, last_p, field_k, row_p, rows_p, rows_k}
use Rattle.written.proofs.ListLaws.{app_length}
use Rattle.written.proofs.Rows.{last_size}
use Rattle.tidy.specs.Twig.{Twig, twig, Limb, holds, child, held_in}
use Rattle.tidy.specs.Sweep.{gone_let}
use Rattle.tidy.specs.Settle.{staying}
use Rattle.tidy.specs.Record.{new_field, moves_a, moves_b, moves_c, new_row, new_rows}
use Rattle.tidy.proofs.BlockLaws.{none_after}
use Rattle.tidy.proofs.Pruned.{top_t, uses_l, goes_by, over_t, prune_t, prune_l, order_t, order_l, names_t, names_l, slot_by, part_t, slot_l, Flagged, IsChild, Here, From, FromL}
use Rattle.tidy.proofs.SweptRight.{held_prune, stays_prune, stays_names, goes_names}
use Rattle.tidy.proofs.Numbered.{after_one, given, Right, right_left, right_right, staying_app}

-- Only a let goes.
let_kind : (n k : ℕ) (b : Limb) → goes_by n k b ≡ true → k ≡ 5
unfolding goes_by
let_kind n k b g = eqb-true k 5 (and_both (eqb k 5) (not (uses_l b n)) g).0

app_rows : (p : Bytes) (new xs ys : List ℕ) → new_rows p new (xs ++ ys) ≡ new_rows p new xs ++ new_rows p new ys
unfolding new_rows
app_rows p new [] ys = refl
app_rows p new (x ∷ xs) ys = ap (λ (l : List Node). new_row p new x ∷ l) (app_rows p new xs ys)

-- One entry: a node that stays, and a let that goes.
stay_one : (n : ℕ) → n < 1008 → staying (n ∷ []) ≡ n ∷ []
unfolding staying
stay_one n h = simp (lt-ltb n 1024 (omega arith))

gone_one : (n : ℕ) → staying (gone_let n ∷ []) ≡ []
unfolding staying gone_let
gone_one n = simp (le-ltb (1024 + n) 1024 (omega arith))

module _ (new : List ℕ) where
  stay_given : (m n : ℕ) → n < 1008 → Right new m (n ∷ []) → get_or new n 0 ≡ m
  unfolding given
  stay_given m n h r =
      ap (λ (k : ℕ). get_or new k 0) (let z : n ≡ n % 1024 = omega arith in z) ∙ r.0 ∙ simp (lt-ltb n 1024 (omega arith))

  gone_given : (m n : ℕ) → n < 1008 → Right new m (gone_let n ∷ []) → get_or new n 0 ≡ m - 1
  unfolding given gone_let
  gone_given m n h r =
      ap (λ (k : ℕ). get_or new k 0) (let z : n ≡ (1024 + n) % 1024 = omega arith in z) ∙ r.0 ∙ simp (le-ltb (1024 + n) 1024 (omega arith))

module _ (p : Bytes) (new : List ℕ) where
  -- New numbers of binders and targets.
  abbrev pub φ : ℕ → ℕ
  φ x = new_field new true x

  pub record Limbed (l : Limb) (lo : ℕ) : Type 0 where
    pub field : (yes₀ name : Bool) → Flagged yes₀ l → new_field new (yes₀ or name) (held_in l) ≡ field_k lo (slot_l (prune_l l) φ name)
    pub rows : (name : Bool) → rows_k (slot_l (prune_l l) φ name) lo ≡ new_rows p new (order_l (prune_l l))
    pub size : (name : Bool) → size_k (slot_l (prune_l l) φ name) ≡ length (order_l (prune_l l))
    pub stay : staying (names_l l) ≡ order_l (prune_l l)

  pub record Numbered (t : Twig) (lo : ℕ) : Type 0 where
    pub top : get_or new (top_t t) 0 ≡ last_p lo (part_t (prune_t t) φ)
    pub rows : rows_p (part_t (prune_t t) φ) lo ≡ new_rows p new (order_t (prune_t t))
    pub size : size_p (part_t (prune_t t) φ) ≡ length (order_t (prune_t t))
    pub stay : staying (names_t t) ≡ order_t (prune_t t)

  held_limbed : (x lo : ℕ) → Limbed (holds x) lo
  unfolding prune_t part_t order_t names_t staying new_rows slot_by size_p rows_p field_k new_field ◌and◌ ◌or◌ held_in
  held_limbed x lo = record {
    field = field₀;
    rows = λ name. go name;
    size = λ name. long name;
    stay = refl;
  }
    where
      go : (name : Bool) → rows_k (slot_by name φ x) lo ≡ []
      go true = refl
      go false = refl

      long : (name : Bool) → size_k (slot_by name φ x) ≡ 0
      long true = refl
      long false = refl

      field₀ : (yes₀ name : Bool) → (yes₀ ≡ true → 1024 ≤ x) → new_field new (yes₀ or name) x ≡ field_k lo (slot_by name φ x)
      field₀ true true f = refl
      field₀ false true f = refl
      field₀ true false f = simp (le-ltb x 1024 (f refl))
      field₀ false false f = refl

  moved_in : (x : ℕ) → x < 1024 → new_field new true x ≡ get_or new x 0
  unfolding new_field ◌and◌
  moved_in x h = simp (lt-ltb x 1024 h)

  child_limbed : (x : ℕ) (t : Twig) (lo n : ℕ) → n < 1008 → x < n → top_t t ≡ x → Numbered t lo → Limbed (child x t) lo
  unfolding prune_t part_t order_t names_t size_p rows_p field_k new_field ◌and◌ ◌or◌ held_in
  child_limbed x t lo n h l e d = record {
    field = λ yes₀ name f. ap (λ (b : Bool). new_field new (b or name) x) f ∙ moved_in x (omega arith) ∙ ap (λ (k : ℕ). get_or new k 0) (sym e) ∙ d.top;
    rows = λ name. d.rows;
    size = λ name. d.size;
    stay = d.stay;
  }

  module _ (n k t w : ℕ) (a b c : Limb) (here : Here p n k t w a b c) (lo : ℕ) where
    abbrev T : Twig
    T = twig n k t w a b c

    abbrev A : List ℕ
    A = order_l (prune_l a)

    abbrev B : List ℕ
    B = order_l (prune_l b)

    abbrev C : List ℕ
    C = order_l (prune_l c)

    abbrev sa : Slot
    sa = slot_l (prune_l a) φ (eqb k 16)

    abbrev sb : Slot
    sb = slot_l (prune_l b) φ false

    abbrev sc : Slot
    sc = slot_l (prune_l c) φ (eqb k 10)

    -- A node that stays.
    module _ (g : goes_by n k (prune_l b) ≡ false) (la : Limbed a lo) (lb : Limbed b (lo + length A)) (lc : Limbed c (lo + length A + length B))
        (r : Right new (lo + length A + length B + length C) (n ∷ [])) where
      order_is : order_t (prune_t T) ≡ A ++ (B ++ (C ++ n ∷ []))
      unfolding order_t
      order_is = ap order_t (stays_prune n k t w a b c g)

      part_is : part_t (prune_t T) φ ≡ part k t w sa sb sc
      unfolding part_t
      part_is = ap (λ (z : Twig). part_t z φ) (stays_prune n k t w a b c g)

      row_is : row_p lo (part k t w sa sb sc) ≡ new_row p new n
      unfolding row_p new_row moves_a moves_b moves_c ◌or◌
      row_is =
          let x : field_k lo sa ≡ new_field new (moves_a (kind_at p n)) (a_at p n)
          = sym (la.field (is_child (fields_of k).a) (eqb k 16) here.a_flag) ∙ (λ i. new_field new (moves_a (here.kind_is i)) (here.a_is i)) in
          let y : field_k (lo + size_k sa) sb ≡ new_field new (moves_b (kind_at p n)) (b_at p n)
          = ap (λ (m : ℕ). field_k (lo + m) sb) (la.size (eqb k 16)) ∙ sym (lb.field (is_child (fields_of k).b) false here.b_flag)
          ∙ ap (λ (q : Bool). new_field new q (held_in b)) (or_no (is_child (fields_of k).b)) ∙ (λ i. new_field new (moves_b (here.kind_is i)) (here.b_is i)) in
          let z : field_k (lo + size_k sa + size_k sb) sc ≡ new_field new (moves_c (kind_at p n)) (c_at p n)
          = (λ i. field_k (lo + la.size (eqb k 16) i + lb.size false i) sc) ∙ sym (lc.field (is_child (fields_of k).c) (eqb k 10) here.c_flag)
          ∙ (λ i. new_field new (moves_c (here.kind_is i)) (here.c_is i)) in
          λ i. record { kind = here.kind_is i; ty = here.type_is i; a = x i; b = y i; c = z i; word = here.word_is i }
        where
          or_no : (q : Bool) → (q or false) ≡ q
          or_no true = refl
          or_no false = refl

      pub node_numbered : Numbered T lo
      unfolding top_t size_p last_p rows_p new_rows
      node_numbered = record {
        top = stay_given new (lo + length A + length B + length C) n here.small r
            ∙ (let z : lo + length A + length B + length C ≡ lo + (size_k sa + size_k sb + size_k sc) = omega (arith, la.size (eqb k 16), lb.size false, lc.size (eqb k 10)) in z)
            ∙ ap (last_p lo) (sym part_is);
        rows = ap (λ (q : Part). rows_p q lo) part_is
            ∙ (λ i. la.rows (eqb k 16) i ++ (rows_k sb (lo + la.size (eqb k 16) i) ++ (rows_k sc (lo + la.size (eqb k 16) i + lb.size false i) ++ (row_is i ∷ []))))
            ∙ (λ i. new_rows p new A ++ (lb.rows false i ++ (lc.rows (eqb k 10) i ++ new_rows p new (n ∷ []))))
            ∙ sym (app_rows p new A (B ++ (C ++ n ∷ [])) ∙ ap (λ (l : List Node). new_rows p new A ++ l)
            (app_rows p new B (C ++ n ∷ []) ∙ ap (λ (l : List Node). new_rows p new B ++ l) (app_rows p new C (n ∷ []))))
            ∙ ap (new_rows p new) (sym order_is);
        size = ap size_p part_is
            ∙ (let z : suc (size_k sa + size_k sb + size_k sc) ≡ length (A ++ (B ++ (C ++ n ∷ [])))
            = omega (arith, la.size (eqb k 16), lb.size false, lc.size (eqb k 10), app_length A (B ++ (C ++ n ∷ [])), app_length B (C ++ n ∷ []), app_length C (n ∷ [])) in z)
            ∙ ap length (sym order_is);
        stay = ap staying (stays_names n k t w a b c g)
            ∙ staying_app (names_l a) (names_l b ++ (names_l c ++ n ∷ [])) ∙ ap (λ (l : List ℕ). staying (names_l a) ++ l)
            (staying_app (names_l b) (names_l c ++ n ∷ []) ∙ ap (λ (l : List ℕ). staying (names_l b) ++ l) (staying_app (names_l c) (n ∷ [])))
            ∙ (λ i. la.stay i ++ (lb.stay i ++ (lc.stay i ++ stay_one n here.small i)))
            ∙ sym order_is;
      }

  -- A let that goes has its body's number.
  gone_numbered : (n k t w : ℕ) (a b c : Limb) → Here p n k t w a b c → (lo : ℕ) → goes_by n k (prune_l b) ≡ true → IsChild b → Limbed b lo
      → Right new (lo + length (order_l (prune_l b))) (gone_let n ∷ []) → Numbered (twig n k t w a b c) lo
  unfolding prune_t over_t order_t part_t size_p rows_p names_t top_t
  gone_numbered n k t w a (holds x) c here lo g i lb r = absurd i
  gone_numbered n k t w a (child x b) c here lo g i lb r =
      let e : prune_t (twig n k t w a (child x b) c) ≡ prune_t b
      = ap (λ (z : Bool). if z then prune_t b else twig n k t w (prune_l a) (child x (prune_t b)) (prune_l c)) g in
      record {
        top = gone_given new (lo + length (order_t (prune_t b))) n here.small r
            ∙ (let z : lo + length (order_t (prune_t b)) - 1 ≡ last_p lo (part_t (prune_t b) φ) = omega (arith, last_size lo (part_t (prune_t b) φ), lb.size false) in z)
            ∙ ap (λ (q : Twig). last_p lo (part_t q φ)) (sym e);
        rows = ap (λ (q : Twig). rows_p (part_t q φ) lo) e ∙ lb.rows false ∙ ap (λ (q : Twig). new_rows p new (order_t q)) (sym e);
        size = ap (λ (q : Twig). size_p (part_t q φ)) e ∙ lb.size false ∙ ap (λ (q : Twig). length (order_t q)) (sym e);
        stay = ap staying (goes_names n k t w a (child x b) c g) ∙ staying_app (names_t b) (gone_let n ∷ [])
            ∙ (λ j. lb.stay j ++ gone_one n j) ∙ none_after (order_t (prune_t b)) ∙ ap order_t (sym e);
      }

  -- A node: one or the other.
  kind_numbered : (n k t w : ℕ) (a b c : Limb) → Here p n k t w a b c → (lo : ℕ)
      → ((m : ℕ) → Right new m (names_l a) → Limbed a m) → ((m : ℕ) → Right new m (names_l b) → Limbed b m) → ((m : ℕ) → Right new m (names_l c) → Limbed c m)
      → Right new lo (names_t (twig n k t w a b c)) → Numbered (twig n k t w a b c) lo
  kind_numbered n k t w a b c here lo fa fb fc r = go (goes_by n k (prune_l b)) refl
    where
      stays : goes_by n k (prune_l b) ≡ false → Right new lo (names_l a ++ (names_l b ++ (names_l c ++ n ∷ []))) → Numbered (twig n k t w a b c) lo
      stays g r' =
          let xs : List ℕ = names_l b ++ (names_l c ++ n ∷ []) in
          let la = fa lo (right_left new lo (names_l a) xs r') in
          let m₁ : ℕ = lo + length (order_l (prune_l a)) in
          let r₁ = right_right new lo m₁ (names_l a) xs (let z : m₁ ≡ lo + length (staying (names_l a)) = ap (λ (l : List ℕ). lo + length l) (sym la.stay) in z) r' in
          let lb = fb m₁ (right_left new m₁ (names_l b) (names_l c ++ n ∷ []) r₁) in
          let m₂ : ℕ = m₁ + length (order_l (prune_l b)) in
          let r₂ = right_right new m₁ m₂ (names_l b) (names_l c ++ n ∷ []) (ap (λ (l : List ℕ). m₁ + length l) (sym lb.stay)) r₁ in
          let lc = fc m₂ (right_left new m₂ (names_l c) (n ∷ []) r₂) in
          let m₃ : ℕ = m₂ + length (order_l (prune_l c)) in
          node_numbered n k t w a b c here lo g la lb lc (right_right new m₂ m₃ (names_l c) (n ∷ []) (ap (λ (l : List ℕ). m₂ + length l) (sym lc.stay)) r₂)

      goes : goes_by n k (prune_l b) ≡ true → Right new lo (names_l b ++ gone_let n ∷ []) → Numbered (twig n k t w a b c) lo
      goes g r' =
          let lb = fb lo (right_left new lo (names_l b) (gone_let n ∷ []) r') in
          gone_numbered n k t w a b c here lo g (here.body (let_kind n k (prune_l b) g)).0 lb
          (right_right new lo (lo + length (order_l (prune_l b))) (names_l b) (gone_let n ∷ []) (ap (λ (l : List ℕ). lo + length l) (sym lb.stay)) r')

      go : (g : Bool) → goes_by n k (prune_l b) ≡ g → Numbered (twig n k t w a b c) lo
      go false g = stays g (subst (Right new lo) (stays_names n k t w a b c g) r)
      go true g = goes g (subst (Right new lo) (goes_names n k t w a b c g) r)

mutual
  unfolding top_t names_t

  pub numbered : (t : Twig) (p : Bytes) (new : List ℕ) (lo : ℕ) → From t p → Right new lo (names_t t) → Numbered p new t lo
  numbered (twig n k t w a b c) p new lo f r =
      kind_numbered p new n k t w a b c f.0 lo (λ m s. limbed a p new m n f.0.small f.1 s) (λ m s. limbed b p new m n f.0.small f.2 s)
      (λ m s. limbed c p new m n f.0.small f.3 s) r

  limbed : (l : Limb) (p : Bytes) (new : List ℕ) (lo n : ℕ) → n < 1008 → FromL l p n → Right new lo (names_l l) → Limbed p new l lo
  limbed (holds x) p new lo n h f r = held_limbed p new x lo
  limbed (child x t) p new lo n h f r = child_limbed p new x t lo n h f.0 f.1 (numbered t p new lo f.2 r)
