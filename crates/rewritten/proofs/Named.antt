-- A tree with its numbers by place is that tree but for its numbers; and all its numbers are places.
-- Assumes nothing.
use mathlib.Core.Path.{◌≡◌, refl, sym, ap, ◌∙◌}
use mathlib.Core.List.{List, [], ◌∷◌, ◌++◌}
use Prim.Native.Nat.{ℕ, ◌+◌, ◌<◌, ◌≤◌}
use native.Mathlib.Omega.{arith}
use lib.ListN.{length}
use Rattle.rules.specs.Size.{size_e, size_s, size_b, size_c}
use Rattle.rules.specs.Tree.{Expr, variable, constant, operation, negation, choice, just, taking, Signal, input, time, ext, delay, let_signal, switch, group, until, Branches, no_branch, branch, Cases, no_case, case}
use Rattle.dropped.specs.Rule.{NamedE, NamedS, NamedB, NamedC}
use Rattle.dropped.specs.Apart.{WithinE, WithinS, WithinB, WithinC}
use Rattle.written.specs.Order.{order_e, order_s, order_b, order_c}
use Rattle.written.specs.Written.{placed_e, placed_s, placed_b, placed_c}
use Rattle.written.specs.Right.{EachE, EachS, EachB, EachC}
use Rattle.written.proofs.ListLaws.{app_length}
use Rattle.written.proofs.Places.{order_e_length, order_s_length, order_b_length, order_c_length, Along, along_left, along_right, along_is}

module _ (π φ κ : ℕ → ℕ) where
  abbrev Old : ℕ → ℕ → Type 0
  Old i n = n ≡ π i

  -- The parts of a node's order, and its own place.
  own1 : (lo a n : ℕ) (xs : List ℕ) → length xs ≡ a → Along Old lo (xs ++ n ∷ []) → n ≡ π (lo + a)
  own1 lo a n xs e h = along_is Old (lo + a) n (along_right Old lo a xs (n ∷ []) e h)

  own2 : (lo a b n : ℕ) (xs ys : List ℕ) → length xs ≡ a → length ys ≡ b → Along Old lo (xs ++ ys ++ n ∷ []) → n ≡ π (lo + (a + b))
  own2 lo a b n xs ys e f h = own1 lo (a + b) n (xs ++ ys) (omega (arith, app_length xs ys)) h

  own3 : (lo a b c n : ℕ) (xs ys zs : List ℕ) → length xs ≡ a → length ys ≡ b → length zs ≡ c → Along Old lo (xs ++ ys ++ zs ++ n ∷ []) → n ≡ π (lo + (a + b + c))
  own3 lo a b c n xs ys zs e f g h = own1 lo (a + b + c) n (xs ++ ys ++ zs) (omega (arith, app_length xs ys, app_length (xs ++ ys) zs)) h

  first1 : (lo n : ℕ) (xs : List ℕ) → Along Old lo (xs ++ n ∷ []) → Along Old lo xs
  first1 lo n xs h = along_left Old lo xs (n ∷ []) h

  first2 : (lo n : ℕ) (xs ys : List ℕ) → Along Old lo (xs ++ ys ++ n ∷ []) → Along Old lo xs
  first2 lo n xs ys h = along_left Old lo xs ys (first1 lo n (xs ++ ys) h)

  second2 : (lo a n : ℕ) (xs ys : List ℕ) → length xs ≡ a → Along Old lo (xs ++ ys ++ n ∷ []) → Along Old (lo + a) ys
  second2 lo a n xs ys e h = along_right Old lo a xs ys e (first1 lo n (xs ++ ys) h)

  first3 : (lo n : ℕ) (xs ys zs : List ℕ) → Along Old lo (xs ++ ys ++ zs ++ n ∷ []) → Along Old lo xs
  first3 lo n xs ys zs h = along_left Old lo xs ys (first2 lo n (xs ++ ys) zs h)

  second3 : (lo a n : ℕ) (xs ys zs : List ℕ) → length xs ≡ a → Along Old lo (xs ++ ys ++ zs ++ n ∷ []) → Along Old (lo + a) ys
  second3 lo a n xs ys zs e h = along_right Old lo a xs ys e (first2 lo n (xs ++ ys) zs h)

  third3 : (lo a b n : ℕ) (xs ys zs : List ℕ) → length xs ≡ a → length ys ≡ b → Along Old lo (xs ++ ys ++ zs ++ n ∷ []) → Along Old (lo + a + b) zs
  third3 lo a b n xs ys zs e f h =
      let z : lo + a + b ≡ lo + (a + b) = omega arith in
      rw z (second2 lo (a + b) n (xs ++ ys) zs (omega (arith, app_length xs ys)) h)

  abbrev Paired : ℕ → Type 0
  Paired b = b ≡ π (φ b)

  named_e : (e : Expr) (lo : ℕ) → Along Old lo (order_e e) → EachE Paired e → NamedE π e (placed_e φ e lo)
  unfolding order_e placed_e
  named_e (variable n b t) lo h g = NamedE.variables (along_is Old lo n h) g
  named_e (constant n v) lo h g = NamedE.constants (along_is Old lo n h)
  named_e (operation n k x y) lo h g =
      NamedE.operations (own2 lo _ _ n (order_e x) (order_e y) (order_e_length x) (order_e_length y) h)
      (named_e x lo (first2 lo n (order_e x) (order_e y) h) g.0) (named_e y _ (second2 lo _ n (order_e x) (order_e y) (order_e_length x) h) g.1)
  named_e (negation n x) lo h g = NamedE.negations (own1 lo _ n (order_e x) (order_e_length x) h) (named_e x lo (first1 lo n (order_e x) h) g)
  named_e (choice n x y z) lo h g =
      NamedE.choices (own3 lo _ _ _ n (order_e x) (order_e y) (order_e z) (order_e_length x) (order_e_length y) (order_e_length z) h)
      (named_e x lo (first3 lo n (order_e x) (order_e y) (order_e z) h) g.0) (named_e y _ (second3 lo _ n (order_e x) (order_e y) (order_e z) (order_e_length x) h) g.1)
      (named_e z _ (third3 lo _ _ n (order_e x) (order_e y) (order_e z) (order_e_length x) (order_e_length y) h) g.2)
  named_e (just n x) lo h g = NamedE.justs (own1 lo _ n (order_e x) (order_e_length x) h) (named_e x lo (first1 lo n (order_e x) h) g)
  named_e (taking n t x y z) lo h g =
      NamedE.takings (own3 lo _ _ _ n (order_e x) (order_e y) (order_e z) (order_e_length x) (order_e_length y) (order_e_length z) h)
      (named_e x lo (first3 lo n (order_e x) (order_e y) (order_e z) h) g.0) (named_e y _ (second3 lo _ n (order_e x) (order_e y) (order_e z) (order_e_length x) h) g.1)
      (named_e z _ (third3 lo _ _ n (order_e x) (order_e y) (order_e z) (order_e_length x) (order_e_length y) h) g.2)

  mutual
    unfolding order_s placed_s

    pub named : (s : Signal) (lo : ℕ) → Along Old lo (order_s s) → EachS s Paired → NamedS π s (placed_s s κ φ lo)
    named (input n c) lo h g = NamedS.inputs (along_is Old lo n h)
    named (time n) lo h g = NamedS.times (along_is Old lo n h)
    named (ext n e) lo h g = NamedS.exts (own1 lo _ n (order_e e) (order_e_length e) h) (named_e e lo (first1 lo n (order_e e) h) g)
    named (delay n k v s) lo h g = NamedS.delays (own1 lo _ n (order_s s) (order_s_length s) h) (named s lo (first1 lo n (order_s s) h) g)
    named (let_signal n t x y) lo h g =
        NamedS.lets (own2 lo _ _ n (order_s x) (order_s y) (order_s_length x) (order_s_length y) h)
        (named x lo (first2 lo n (order_s x) (order_s y) h) g.0) (named y (lo + size_s x) (second2 lo _ n (order_s x) (order_s y) (order_s_length x) h) g.1)
    named (switch n k t x y z) lo h g =
        NamedS.switches (own3 lo _ _ _ n (order_s x) (order_s y) (order_s z) (order_s_length x) (order_s_length y) (order_s_length z) h)
        (named x lo (first3 lo n (order_s x) (order_s y) (order_s z) h) g.0) (named y (lo + size_s x) (second3 lo _ n (order_s x) (order_s y) (order_s z) (order_s_length x) h) g.1)
        (named z (lo + size_s x + size_s y) (third3 lo _ _ n (order_s x) (order_s y) (order_s z) (order_s_length x) (order_s_length y) h) g.2)
    named (group n k x brs) lo h g =
        NamedS.groups (own2 lo _ _ n (order_s x) (order_b brs) (order_s_length x) (order_b_length brs) h)
        (named x lo (first2 lo n (order_s x) (order_b brs) h) g.0) (named_b brs (lo + size_s x) (second2 lo _ n (order_s x) (order_b brs) (order_s_length x) h) g.1)
    named (until n x cs) lo h g =
        NamedS.untils (own2 lo _ _ n (order_s x) (order_c cs) (order_s_length x) (order_c_length cs) h)
        (named x lo (first2 lo n (order_s x) (order_c cs) h) g.0) (named_c cs (lo + size_s x) (second2 lo _ n (order_s x) (order_c cs) (order_s_length x) h) g.1)

    pub named_b : (s : Branches) (lo : ℕ) → Along Old lo (order_b s) → EachB s Paired → NamedB π s (placed_b s κ φ lo)
    named_b no_branch lo h g = NamedB.no_branches
    named_b (branch n t x brs) lo h g =
        NamedB.branches (own2 lo _ _ n (order_s x) (order_b brs) (order_s_length x) (order_b_length brs) h)
        (named x lo (first2 lo n (order_s x) (order_b brs) h) g.0) (named_b brs (lo + size_s x) (second2 lo _ n (order_s x) (order_b brs) (order_s_length x) h) g.1)

    pub named_c : (s : Cases) (lo : ℕ) → Along Old lo (order_c s) → EachC s Paired → NamedC π s (placed_c s κ φ lo)
    named_c no_case lo h g = NamedC.no_cases
    named_c (case n x target t cs) lo h g =
        NamedC.cases (own2 lo _ _ n (order_s x) (order_c cs) (order_s_length x) (order_c_length cs) h) g.0
        (named x lo (first2 lo n (order_s x) (order_c cs) h) g.1) (named_c cs (lo + size_s x) (second2 lo _ n (order_s x) (order_c cs) (order_s_length x) h) g.2)

-- All numbers are below the end of the tree.
module _ (φ κ : ℕ → ℕ) (c : ℕ) where
  abbrev Low : ℕ → Type 0
  Low b = φ b < c

  within_e : (e : Expr) (lo : ℕ) → lo + size_e e ≤ c → EachE Low e → WithinE c (placed_e φ e lo)
  unfolding placed_e size_e
  within_e (variable n b t) lo h g = g
  within_e (constant n v) lo h g = tt
  within_e (operation n k x y) lo h g = (within_e x lo (omega arith) g.0, within_e y (lo + size_e x) (omega arith) g.1)
  within_e (negation n x) lo h g = within_e x lo (omega arith) g
  within_e (choice n x y z) lo h g = (within_e x lo (omega arith) g.0, within_e y (lo + size_e x) (omega arith) g.1, within_e z (lo + size_e x + size_e y) (omega arith) g.2)
  within_e (just n x) lo h g = within_e x lo (omega arith) g
  within_e (taking n t x y z) lo h g =
      (omega arith, within_e x lo (omega arith) g.0, within_e y (lo + size_e x) (omega arith) g.1, within_e z (lo + size_e x + size_e y) (omega arith) g.2)

  mutual
    unfolding placed_s size_s

    pub within : (s : Signal) (lo : ℕ) → lo + size_s s ≤ c → EachS s Low → WithinS c (placed_s s κ φ lo)
    within (input n k) lo h g = tt
    within (time n) lo h g = tt
    within (ext n e) lo h g = within_e e lo (omega arith) g
    within (delay n k v s) lo h g = within s lo (omega arith) g
    within (let_signal n t x y) lo h g = (omega arith, within x lo (omega arith) g.0, within y (lo + size_s x) (omega arith) g.1)
    within (switch n k t x y z) lo h g =
        (omega arith, within x lo (omega arith) g.0, within y (lo + size_s x) (omega arith) g.1, within z (lo + size_s x + size_s y) (omega arith) g.2)
    within (group n k x brs) lo h g = (within x lo (omega arith) g.0, within_b brs (lo + size_s x) (omega arith) g.1)
    within (until n x cs) lo h g = (within x lo (omega arith) g.0, within_c cs (lo + size_s x) (omega arith) g.1)

    pub within_b : (s : Branches) (lo : ℕ) → lo + size_b s ≤ c → EachB s Low → WithinB c (placed_b s κ φ lo)
    within_b no_branch lo h g = tt
    within_b (branch n t x brs) lo h g = (omega arith, within x lo (omega arith) g.0, within_b brs (lo + size_s x) (omega arith) g.1)

    pub within_c : (s : Cases) (lo : ℕ) → lo + size_c s ≤ c → EachC s Low → WithinC c (placed_c s κ φ lo)
    within_c no_case lo h g = tt
    within_c (case n x target t cs) lo h g = (g.0, within x lo (omega arith) g.1, within_c cs (lo + size_s x) (omega arith) g.2)
