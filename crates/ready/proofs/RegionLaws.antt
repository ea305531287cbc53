-- Marks and regions: a child's own region is a new one, and a let's mark adds the let to the set of the region.
-- Assumes nothing.
use mathlib.Core.Path.{◌≡◌, refl, sym, ap, ◌∙◌, subst, fun_ext}
use mathlib.Core.List.{List, [], ◌∷◌}
use mathlib.Core.Bool.{Bool, false}
use Prim.Native.Nat.{ℕ, zero, suc, ◌+◌, ◌≤◌, ◌<◌}
use native.Mathlib.Omega.{arith}
use lib.Dec.{eqb}
use lib.ListN.{length, get_or, set, length-set, get_or-eq_default}
use lib.Seq.{get_or-set_same, get_or-set_other}
use borrow.Author.Tests.{eq-eqb, ne_eqb}
use Rattle.rules.specs.Bytes.{Bytes, ◌or◌}
use Rattle.rules.specs.Tree.{Signal}
use Rattle.rules.specs.Ready.{ready_s}
use Rattle.rules.proofs.Kids.{Child}
use Rattle.rules.proofs.ByKind.{choose}
use Rattle.ready.specs.Found.{Lets, no_let, adding, found_s}
use Rattle.ready.specs.Regions.{marked_in, Entered}
use Rattle.ready.proofs.Added.{none_s}

-- Past the marks there is none.
pub unmarked_past : (marks : List ℕ) (region x : ℕ) → 0 < region → length marks ≤ x → marked_in marks region x ≡ false
unfolding marked_in
unmarked_past marks region x h l = rw (get_or-eq_default marks 0 l) (ne_eqb 0 region (λ e. omega arith))

-- A child, in a region that is no later than its parent's.
pub entered : {sort kid : ℕ → Bool} {p : Bytes} {m l : List ℕ} {r q i k : ℕ} → Entered sort p m r i → l ≡ m → Child kid p i k → k < q → q ≤ r → Entered kid p l q k
entered {kid = kid} {p} {q = q} {k = k} w e c a b =
    subst (λ (m : List ℕ). Entered kid p m q k) (sym e)
    (record { node = c.node; room = w.room; above = a; within = omega (arith, w.within); new = λ x h. omega (arith, w.new x h) })

-- No mark is of the region of a child that is needed apart,
pub none_yet : {sort : ℕ → Bool} {p : Bytes} {m : List ℕ} {r i : ℕ} → Entered sort p m r i → (k : ℕ) → k < i → marked_in m (k + 1) ≡ no_let
unfolding marked_in no_let
none_yet {m = m} w k h =
    fun_ext λ x. ne_eqb (get_or m x 0) (k + 1) (λ e. omega (arith, w.above, e, w.new x (omega (arith, e))))

-- so that there the pass finds the lets that are not ready.
pub apart : {sort : ℕ → Bool} {p : Bytes} {m : List ℕ} {r i k : ℕ} → Entered sort p m r i → k < i → (s : Signal) → found_s (marked_in m (k + 1)) s ≡ ready_s s
apart {k = k} w h s = ap (λ (M : Lets). found_s M s) (none_yet w k h) ∙ none_s s

-- A mark adds its let.
pub marked : (m : List ℕ) (i r : ℕ) → i < length m → marked_in (set m i r) r ≡ adding i (marked_in m r)
unfolding marked_in adding ◌or◌
marked m i r h =
    fun_ext λ x. choose x i
    (λ (q : x ≡ i). rw (eq-eqb x i q) (eq-eqb _ r (ap (λ (y : ℕ). get_or (set m i r) y 0) q ∙ get_or-set_same m i r 0 h)))
    (λ d. rw (ne_eqb x i d) (ap (λ (v : ℕ). eqb v r) (get_or-set_other m i x r 0 d)))

pub marked_entered : {sort : ℕ → Bool} {p : Bytes} {m : List ℕ} {r k : ℕ} (i : ℕ) → i < length m → Entered sort p m r k → Entered sort p (set m i r) r k
marked_entered {m = m} {r} i h w =
    record {
      node = w.node;
      room = length-set m i r ∙ w.room;
      above = w.above;
      within = w.within;
      new = λ x o. choose x i
          (λ (q : x ≡ i). omega (arith, ap (λ (y : ℕ). get_or (set m i r) y 0) q ∙ get_or-set_same m i r 0 h))
          (λ d. let e = get_or-set_other m i x r 0 d in omega (arith, e, w.new x (omega (arith, o, e))));
    }
