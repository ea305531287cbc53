-- A tree without regard to kinds beside a tree of the program, tidied: the same uses, order and records. How one is built from its parts.
-- Assumes nothing.
use Rattle.std.specs.Prelude.{if◌then◌else◌}
use mathlib.Core.Path.{◌≡◌, refl, sym, ap, ◌∙◌}
use mathlib.Core.List.{List, [], ◌∷◌, ◌++◌}
use mathlib.Core.Bool.{Bool, true, false, not}
use Prim.Native.Nat.{ℕ, ◌≤◌, ◌<◌}
use lib.Dec.{eqb}
use borrow.Author.Tests.{ne_eqb}
use Rattle.rules.specs.Bytes.{Bytes, ◌and◌, ◌or◌}
use Rattle.rules.specs.Shape.{is_child}
use Rattle.rules.specs.declared.Field.{Field}
use Rattle.written.specs.Parts.{Part, part, Slot}
use Rattle.tidy.specs.Twig.{Twig, twig, Limb, holds, child, held_in, plain_in, limb_of, twig_at}
use Rattle.tidy.proofs.TwigLaws.{limb_child, limb_plain, limb_none}
use Rattle.tidy.proofs.Pruned.{uses_t, uses_l, goes_by, over_t, prune_t, prune_l, order_t, order_l, slot_by, part_t, slot_l, IsHeld}
use Rattle.tidy.proofs.SweptRight.{stays_prune, held_prune, no_let, a_let, variable_uses, other_uses}

-- What a tree tidied uses, its order and its records; and its order before.
pub record Same (t : Twig) (U : ℕ → Bool) (O : List ℕ) (S : (ℕ → ℕ) → Slot) (W : List ℕ) : Type 0 where
  pub uses : (x : ℕ) → uses_t (prune_t t) x ≡ U x
  pub order : order_t (prune_t t) ≡ O
  pub slot : (φ : ℕ → ℕ) → Slot.child (part_t (prune_t t) φ) ≡ S φ
  pub whole : order_t t ≡ W

pub record SameL (l : Limb) (U : ℕ → Bool) (O : List ℕ) (S : (ℕ → ℕ) → Bool → Slot) (W : List ℕ) : Type 0 where
  pub uses : (x : ℕ) → uses_l (prune_l l) x ≡ U x
  pub order : order_l (prune_l l) ≡ O
  pub slot : (φ : ℕ → ℕ) (name : Bool) → slot_l (prune_l l) φ name ≡ S φ name
  pub whole : order_l l ≡ W

pub same_as : {t : Twig} {U U' : ℕ → Bool} {O O' : List ℕ} {S S' : (ℕ → ℕ) → Slot} {W W' : List ℕ} → ((x : ℕ) → U x ≡ U' x) → O ≡ O' → ((φ : ℕ → ℕ) → S φ ≡ S' φ) → W ≡ W'
    → Same t U O S W → Same t U' O' S' W'
same_as e f g h s = record { uses = λ x. s.uses x ∙ e x; order = s.order ∙ f; slot = λ φ. s.slot φ ∙ g φ; whole = s.whole ∙ h }

held_same : (x : ℕ) → SameL (holds x) (λ y. false) [] (λ φ name. slot_by name φ x) []
unfolding uses_t prune_t order_t part_t
held_same x = record { uses = λ y. refl; order = refl; slot = λ φ name. refl; whole = refl }

child_same : (x : ℕ) (t : Twig) {U : ℕ → Bool} {O : List ℕ} {S : (ℕ → ℕ) → Slot} {W : List ℕ} → Same t U O S W → SameL (child x t) U O (λ φ name. S φ) W
unfolding uses_t prune_t order_t part_t
child_same x t s = record { uses = s.uses; order = s.order; slot = λ φ name. s.slot φ; whole = s.whole }

-- By a field of the table: a child, a plain field, and none.
pub kid_same : (p : Bytes) (n : ℕ) (f : Field) (x : ℕ) {U : ℕ → Bool} {O : List ℕ} {S : (ℕ → ℕ) → Slot} {W : List ℕ} → is_child f ≡ true → x < n → Same (twig_at p x) U O S W
    → SameL (limb_of n f x (twig_at p)) U O (λ φ name. S φ) W
kid_same p n f x e h s = rw (limb_child n f x (twig_at p) e h) (child_same x (twig_at p x) s)

pub plain_same : (p : Bytes) (n : ℕ) (f : Field) (x : ℕ) → is_child f ≡ false → SameL (limb_of n f x (twig_at p)) (λ y. false) [] (λ φ name. slot_by name φ (plain_in f x)) []
plain_same p n f x e = rw (limb_plain n f x (twig_at p) e) (held_same (plain_in f x))

pub none_same : (p : Bytes) (n : ℕ) (f : Field) (x : ℕ) → n ≤ x → SameL (limb_of n f x (twig_at p)) (λ y. false) [] (λ φ name. slot_by name φ (plain_in f x)) []
none_same p n f x h = rw (limb_none n f x (twig_at p) h) (held_same (plain_in f x))

module _ (n k t w : ℕ) (a b c : Limb) {Ua Ub Uc : ℕ → Bool} {Oa Ob Oc : List ℕ} {Sa Sb Sc : (ℕ → ℕ) → Bool → Slot} {Wa Wb Wc : List ℕ}
    (la : SameL a Ua Oa Sa Wa) (lb : SameL b Ub Ob Sb Wb) (lc : SameL c Uc Oc Sc Wc) where
  abbrev T : Twig
  T = twig n k t w a b c

  -- Its records and its order, where it stays.
  module _ (g : goes_by n k (prune_l b) ≡ false) where
    stays_order : order_t (prune_t T) ≡ Oa ++ (Ob ++ (Oc ++ n ∷ []))
    unfolding order_t
    stays_order = ap order_t (stays_prune n k t w a b c g) ∙ (λ i. la.order i ++ (lb.order i ++ (lc.order i ++ n ∷ [])))

    stays_slot : (φ : ℕ → ℕ) → Slot.child (part_t (prune_t T) φ) ≡ Slot.child (part k t w (Sa φ (eqb k 16)) (Sb φ false) (Sc φ (eqb k 10)))
    unfolding part_t
    stays_slot φ =
        ap (λ (z : Twig). Slot.child (part_t z φ)) (stays_prune n k t w a b c g)
        ∙ (λ i. Slot.child (part k t w (la.slot φ (eqb k 16) i) (lb.slot φ false i) (lc.slot φ (eqb k 10) i)))

  whole_order : order_t T ≡ Wa ++ (Wb ++ (Wc ++ n ∷ []))
  unfolding order_t
  whole_order = λ i. la.whole i ++ (lb.whole i ++ (lc.whole i ++ n ∷ []))

  pub node_same : eqb k 16 ≡ false → eqb k 5 ≡ false
      → Same T (λ x. Ua x or Ub x or Uc x) (Oa ++ (Ob ++ (Oc ++ n ∷ []))) (λ φ. Slot.child (part k t w (Sa φ (eqb k 16)) (Sb φ false) (Sc φ (eqb k 10)))) (Wa ++ (Wb ++ (Wc ++ n ∷ [])))
  node_same d e =
      let g = no_let n k t w a b c e in
      record {
        uses = λ x. ap (λ (z : Twig). uses_t z x) (stays_prune n k t w a b c g) ∙ other_uses n k t w (prune_l a) (prune_l b) (prune_l c) d x
            ∙ (λ i. la.uses x i or lb.uses x i or lc.uses x i);
        order = stays_order g;
        slot = stays_slot g;
        whole = whole_order;
      }

  pub variable_same : eqb k 16 ≡ true → eqb k 5 ≡ false
      → Same T (λ x. eqb (held_in a) x) (Oa ++ (Ob ++ (Oc ++ n ∷ []))) (λ φ. Slot.child (part k t w (Sa φ (eqb k 16)) (Sb φ false) (Sc φ (eqb k 10)))) (Wa ++ (Wb ++ (Wc ++ n ∷ [])))
  variable_same d e =
      let g = no_let n k t w a b c e in
      record {
        uses = λ x. ap (λ (z : Twig). uses_t z x) (stays_prune n k t w a b c g) ∙ variable_uses n k t w (prune_l a) (prune_l b) (prune_l c) d x
            ∙ ap (λ (y : ℕ). eqb y x) (held_prune a);
        order = stays_order g;
        slot = stays_slot g;
        whole = whole_order;
      }

  -- A let that its body uses.
  pub let_same : eqb k 16 ≡ false → eqb k 5 ≡ true → Ub n ≡ true
      → Same T (λ x. Ua x or Ub x or Uc x) (Oa ++ (Ob ++ (Oc ++ n ∷ []))) (λ φ. Slot.child (part k t w (Sa φ (eqb k 16)) (Sb φ false) (Sc φ (eqb k 10)))) (Wa ++ (Wb ++ (Wc ++ n ∷ [])))
  let_same d e y =
      let g : goes_by n k (prune_l b) ≡ false = a_let n k t w a b c e ∙ ap not (lb.uses n ∙ y) in
      record {
        uses = λ x. ap (λ (z : Twig). uses_t z x) (stays_prune n k t w a b c g) ∙ other_uses n k t w (prune_l a) (prune_l b) (prune_l c) d x
            ∙ (λ i. la.uses x i or lb.uses x i or lc.uses x i);
        order = stays_order g;
        slot = stays_slot g;
        whole = whole_order;
      }

-- A let that its body does not use is its body.
pub gone_same : (n k t w x : ℕ) (a c : Limb) (b : Twig) {Ua Ub Uc : ℕ → Bool} {Oa Ob Oc : List ℕ} {Sa Sc : (ℕ → ℕ) → Bool → Slot} {Sb : (ℕ → ℕ) → Slot} {Wa Wb Wc : List ℕ}
    → SameL a Ua Oa Sa Wa → Same b Ub Ob Sb Wb → SameL c Uc Oc Sc Wc → eqb k 5 ≡ true → Ub n ≡ false
    → Same (twig n k t w a (child x b) c) Ub Ob Sb (Wa ++ (Wb ++ (Wc ++ n ∷ [])))
unfolding prune_t over_t uses_t goes_by ◌and◌
gone_same n k t w x a c b la lb lc e y =
    let g : goes_by n k (child x (prune_t b)) ≡ true = (λ i. e i and not ((lb.uses n ∙ y) i)) in
    let q : prune_t (twig n k t w a (child x b) c) ≡ prune_t b
    = ap (λ (z : Bool). if z then prune_t b else twig n k t w (prune_l a) (child x (prune_t b)) (prune_l c)) g in
    record {
      uses = λ z. ap (λ (s : Twig). uses_t s z) q ∙ lb.uses z;
      order = ap order_t q ∙ lb.order;
      slot = λ φ. ap (λ (s : Twig). Slot.child (part_t s φ)) q ∙ lb.slot φ;
      whole = whole_order n k t w a (child x b) c la (child_same x b lb) lc;
    }
