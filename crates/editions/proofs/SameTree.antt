-- Two files of one length whose records are the same everywhere have one tree.
-- Assumes nothing.
use Rattle.std.specs.Prelude.{if◌then◌else◌}
use mathlib.Core.Path.{◌≡◌, refl, ap, ◌∙◌}
use Prim.Native.Nat.{ℕ, zero, suc, ◌-◌, ◌*◌, ◌/◌}
use lib.Dec.{eqb}
use lib.ListN.{length}
use Rattle.rules.specs.Bytes.{Bytes, first, how_many}
use Rattle.rules.specs.Values.{value_from}
use Rattle.rules.specs.Layout.{blocks, records, nodes, place_or, has_cell, cells_before, cells, kind_at, type_at, a_at, b_at, c_at, word_at}
use Rattle.rules.specs.Tree.{Expr, variable, constant, operation, negation, choice, just, taking, Signal, input, time, ext, delay, let_signal, switch, group, until, Branches, no_branch, branch, Cases, no_case, case, value_at, expr_as, below, no_expr, expr_f, expr_at, signal_as, branches_as, cases_as, no_signal, signal_f, branches_f, cases_f, signal_at, root}

-- The records are the same, past the end too.
pub record Everywhere (p q : Bytes) : Type 0 where
  pub long : length p ≡ length q
  pub kind : (r : ℕ) → kind_at p r ≡ kind_at q r
  pub ty : (r : ℕ) → type_at p r ≡ type_at q r
  pub a : (r : ℕ) → a_at p r ≡ a_at q r
  pub b : (r : ℕ) → b_at p r ≡ b_at q r
  pub c : (r : ℕ) → c_at p r ≡ c_at q r
  pub word : (r : ℕ) → word_at p r ≡ word_at q r

module _ (p q : Bytes) (s : Everywhere p q) where
  pub blocks_same : blocks p ≡ blocks q
  unfolding blocks
  blocks_same = ap (λ (n : ℕ). n / 512) s.long

  pub records_same : records p ≡ records q
  unfolding records
  records_same = ap (λ (n : ℕ). 42 * n) blocks_same

  pub nodes_same : nodes p ≡ nodes q
  unfolding nodes
  nodes_same = λ i. place_or (first (λ r. eqb (s.kind r i) 0) (records_same i)) (records_same i)

  cells_before_lem : (n : ℕ) → cells_before p n ≡ cells_before q n
  unfolding cells_before
  cells_before_lem n = λ i. how_many (λ m. has_cell (s.kind m i)) n

  pub cells_same : cells p ≡ cells q
  unfolding cells
  cells_same = λ i. cells_before_lem (nodes_same i) i

  value_same : (n : ℕ) → value_at p n ≡ value_at q n
  unfolding value_at
  value_same n = λ i. value_from (s.ty n i) (s.b n i) (s.word n i)

  -- The declared type of a variable's binder, and of a case's target.
  binder_type : (n : ℕ) → type_at p (a_at p n) ≡ type_at q (a_at q n)
  binder_type n = λ i. s.ty (s.a n i) i

  target_type : (n : ℕ) → type_at p (c_at p n) ≡ type_at q (c_at q n)
  target_type n = λ i. s.ty (s.c n i) i

  expr_as_lem : (n : ℕ) (f g : ℕ → Expr) → f ≡ g → expr_as (kind_at p n) p n f ≡ expr_as (kind_at q n) q n g
  unfolding expr_as
  expr_as_lem n f g h =
      λ i.
      let make : (ℕ → Expr) → Expr =
      if eqb (s.kind n i) 16 then (λ kid. variable n (s.a n i) (binder_type n i))
      else if eqb (s.kind n i) 17 then (λ kid. constant n (value_same n i))
      else if eqb (s.kind n i) 24 then (λ kid. negation n (kid (s.a n i)))
      else if eqb (s.kind n i) 27 then (λ kid. choice n (kid (s.a n i)) (kid (s.b n i)) (kid (s.c n i)))
      else if eqb (s.kind n i) 28 then (λ kid. just n (kid (s.a n i)))
      else if eqb (s.kind n i) 29 then (λ kid. taking n (s.ty n i) (kid (s.a n i)) (kid (s.b n i)) (kid (s.c n i)))
      else (λ kid. operation n (s.kind n i) (kid (s.a n i)) (kid (s.b n i)))
      in make (h i)

  expr_same : (f n : ℕ) → expr_f f p n ≡ expr_f f q n
  unfolding expr_f
  expr_same zero n = refl
  expr_same (suc f) n = expr_as_lem n _ _ (λ i. below n no_expr (λ m. expr_same f m i))

  expr_at_lem : expr_at p ≡ expr_at q
  unfolding expr_at
  expr_at_lem = λ i n. expr_same (suc n) n i

  signal_as_lem : (n : ℕ) (sub₁ sub₂ : ℕ → Signal) (brs₁ brs₂ : ℕ → Branches) (cs₁ cs₂ : ℕ → Cases) → sub₁ ≡ sub₂ → brs₁ ≡ brs₂ → cs₁ ≡ cs₂
      → signal_as (kind_at p n) p n sub₁ brs₁ cs₁ ≡ signal_as (kind_at q n) q n sub₂ brs₂ cs₂
  unfolding signal_as
  signal_as_lem n sub₁ sub₂ brs₁ brs₂ cs₁ cs₂ f g h =
      λ i.
      let make : (ℕ → Signal) → (ℕ → Branches) → (ℕ → Cases) → Signal =
      if eqb (s.kind n i) 1 then (λ sub brs cs. input n (s.a n i))
      else if eqb (s.kind n i) 3 then (λ sub brs cs. ext n (below n no_expr (expr_at_lem i) (s.a n i)))
      else if eqb (s.kind n i) 4 then (λ sub brs cs. delay n (cells_before_lem n i) (value_same n i) (sub (s.a n i)))
      else if eqb (s.kind n i) 5 then (λ sub brs cs. let_signal n (s.ty n i) (sub (s.a n i)) (sub (s.b n i)))
      else if eqb (s.kind n i) 6 then (λ sub brs cs. switch n (cells_before_lem n i) (s.ty n i) (sub (s.a n i)) (sub (s.b n i)) (sub (s.c n i)))
      else if eqb (s.kind n i) 7 then (λ sub brs cs. group n (cells_before_lem n i) (sub (s.a n i)) (brs (s.b n i)))
      else if eqb (s.kind n i) 8 then (λ sub brs cs. until n (sub (s.a n i)) (cs (s.b n i)))
      else (λ sub brs cs. time n)
      in make (f i) (g i) (h i)

  mutual
    unfolding signal_f branches_as cases_as

    signal_same : (f n : ℕ) → signal_f f p n ≡ signal_f f q n
    signal_same zero n = refl
    signal_same (suc f) n =
        signal_as_lem n _ _ _ _ _ _
        (λ i. below n no_signal (λ m. signal_same f m i))
        (λ i. below n no_branch (λ m. branches_same f m i))
        (λ i. below n no_case (λ m. cases_same f m i))

    branches_same : (f n : ℕ) → branches_f f p n ≡ branches_f f q n
    branches_same zero n = refl
    branches_same (suc f) n =
        λ i. branch n (s.ty n i) (below n no_signal (λ m. signal_same f m i) (s.a n i)) (below n no_branch (λ m. branches_same f m i) (s.b n i))

    cases_same : (f n : ℕ) → cases_f f p n ≡ cases_f f q n
    cases_same zero n = refl
    cases_same (suc f) n =
        λ i.
        case n (below n no_signal (λ m. signal_same f m i) (s.a n i)) (s.c n i) (target_type n i) (below n no_case (λ m. cases_same f m i) (s.b n i))

  pub root_same : root p ≡ root q
  unfolding root signal_at
  root_same = λ i. signal_same (suc (nodes_same i - 1)) (nodes_same i - 1) i
