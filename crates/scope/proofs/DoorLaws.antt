-- The doors that a recursion carries go down to the parts of a node, as they are, closed, or with a group's own door open; and the test of a case.
-- Assumes nothing.
use mathlib.Core.Path.{◌≡◌, refl, sym, ap, subst, ◌∙◌}
use mathlib.Core.Bool.{Bool, true, false}
use mathlib.Core.List.{List, [], ◌∷◌}
use Prim.Native.Nat.{ℕ, zero, suc, ◌+◌, ◌-◌, ◌≤◌, ◌<◌}
use native.Mathlib.Omega.{arith}
use native.Mathlib.Decide.{ℕ_discrete}
use borrow.Author.Tests.{eqb-true, ne_eqb, leb-true, le-leb}
use lib.Dec.{eqb, leb}
use lib.ListN.{length, get_or, set, replicate, length-set, length-replicate, get_or-eq_default}
use lib.Seq.{get_or-set_same, get_or-set_other}
use Rattle.rules.specs.Bytes.{Bytes, byte_at, ◌and◌}
use Rattle.rules.specs.Layout.{nodes, records, blocks, block_at, edition_in, edition, kind_at, b_at}
use Rattle.rules.specs.Kinds.{is_signal, is_branch}
use Rattle.rules.specs.Shaped.{Shaped, NodeOf}
use Rattle.rules.specs.Tree.{branches_at}
use Rattle.rules.specs.Scope.{Offers, onward, is_offered}
use Rattle.rules.proofs.Static.{not_both, and_both}
use Rattle.rules.proofs.Signals.{group_kids}
use Rattle.cells.specs.Indexed.{Listed}
use Rattle.cells.proofs.Passed.{kind_9, branch_of}
use Rattle.scope.specs.Open.{is_open, offers_below, limit_below}
use Rattle.scope.specs.Doors.{Doors}
use Rattle.scope.proofs.OpenLaws.{another, group_offers, cut_offers}
use Rattle.scope.proofs.Finding.{Found, offered_by, by_offered, free_door}

-- A program that has a node has the byte of its edition.
pub has_edition : {sort : ℕ → Bool} {p : Bytes} {i : ℕ} → NodeOf sort p i → 4 ≤ length p
unfolding records blocks
has_edition w = omega (arith, w.inside, w.shaped.within)

-- By that byte the limit below a group: its own number and one, or as it was.
pub limit_one : (p : Bytes) (i limit : ℕ) → get_or p 3 0 ≡ 0 → i + 1 ≡ limit_below (edition p) i limit
unfolding limit_below edition edition_in byte_at block_at
limit_one p i limit e = rw e (omega arith)

pub limit_two : (p : Bytes) (i limit : ℕ) → (get_or p 3 0 ≡ 0 → ⊥) → limit ≡ limit_below (edition p) i limit
unfolding limit_below edition edition_in byte_at block_at
limit_two p i limit n = go (get_or p 3 0) refl
  where
    go : (e : ℕ) → get_or p 3 0 ≡ e → limit ≡ limit_below e i limit
    go zero e = absurd (n e)
    go (suc e) q = refl

module _ {p : Bytes} {homes doors : List ℕ} {limit i : ℕ} (d : Doors p homes doors limit i) where
  -- The same doors, by what a call has left,
  pub left_as : {other : List ℕ} → other ≡ doors → Doors p homes other limit i
  left_as e = subst (λ (l : List ℕ). Doors p homes l limit i) (sym e) d

  -- at a part,
  pub at_part : {j : ℕ} → j < i → Doors p homes doors limit j
  at_part l = record {
    listed = d.listed;
    wide = d.wide;
    inside = d.inside;
    less = omega (arith, d.less);
    above = λ m h. d.above m (omega arith);
    held = d.held;
  }

  -- and at a part where the way up ends: no open group counts.
  pub at_end : {j : ℕ} → j < i → Doors p homes doors i j
  at_end l = record {
    listed = d.listed;
    wide = d.wide;
    inside = omega (arith, d.less, d.inside);
    less = l;
    above = λ m h. d.above m (omega arith);
    held = d.held;
  }

  pub ended : offers_below p doors i ≡ []
  ended = cut_offers p doors i λ m h. d.above m (omega arith)

  -- A group that is entered finds its door free.
  module _ (w : NodeOf is_signal p i) (k : kind_at p i ≡ 7) where
    pub free : get_or doors (b_at p i) 0 ≡ 0
    free = free_door p homes doors d.listed d.held i w k d.above

    pub room : b_at p i < length doors
    room = omega (arith, d.wide, (group_kids p i w k).1.less, w.inside, w.shaped.small)

    limit_inside : (ed : ℕ) → limit_below ed i limit ≤ nodes p
    unfolding limit_below
    limit_inside zero = omega (arith, w.inside)
    limit_inside (suc ed) = d.inside

    limit_less : (ed j : ℕ) → j < i → j < limit_below ed i limit
    unfolding limit_below
    limit_less zero j l = omega arith
    limit_less (suc ed) j l = omega (arith, d.less)

    held_in : (g m : ℕ) → get_or (set doors (b_at p i) (suc i)) g 0 ≡ suc m → NodeOf is_signal p m × (kind_at p m ≡ 7) × (b_at p m ≡ g)
    held_in g m e = go (ℕ_discrete g (b_at p i))
      where
        own : suc i ≡ suc m → g ≡ b_at p i → NodeOf is_signal p m × (kind_at p m ≡ 7) × (b_at p m ≡ g)
        own s q = subst (λ (n : ℕ). NodeOf is_signal p n × (kind_at p n ≡ 7) × (b_at p n ≡ g)) (omega arith) (w, k, sym q)

        go : Dec (g ≡ b_at p i) → NodeOf is_signal p m × (kind_at p m ≡ 7) × (b_at p m ≡ g)
        go (yes q) = own (sym (get_or-set_same doors (b_at p i) (suc i) 0 room) ∙ ap (λ (n : ℕ). get_or (set doors (b_at p i) (suc i)) n 0) (sym q) ∙ e) q
        go (no q) = d.held g m (sym (get_or-set_other doors (b_at p i) g (suc i) 0 q) ∙ e)

    -- Below it its door is open.
    pub at_member : (ed : ℕ) {j : ℕ} → j < i → Doors p homes (set doors (b_at p i) (suc i)) (limit_below ed i limit) j
    at_member ed {j} l = record {
      listed = d.listed;
      wide = length-set doors (b_at p i) (suc i) ∙ d.wide;
      inside = limit_inside ed;
      less = limit_less ed j l;
      above = λ m h. another p doors i k room free m (λ z. omega arith) ∙ d.above m (omega arith);
      held = held_in;
    }

    -- By the numbers that the code has.
    pub first_small : {b : ℕ} → b ≡ b_at p i → b < 1008
    first_small e = omega (arith, (group_kids p i w k).1.less, w.inside, w.shaped.small)

    pub at_inside : {b v below j : ℕ} → b ≡ b_at p i → v ≡ suc i → below ≡ limit_below (edition p) i limit → j < i
        → Doors p homes (set doors b v) below j
    at_inside e f g l = rw (e, f, g) (at_member (edition p) l)

    pub at_all : {b v j : ℕ} → b ≡ b_at p i → v ≡ suc i → j < i → Doors p homes (set doors b v) limit j
    unfolding limit_below
    at_all e f l = rw (e, f) (at_member 1 l)

    pub inside_offers : {b v below : ℕ} → b ≡ b_at p i → v ≡ suc i → below ≡ limit_below (edition p) i limit
        → offers_below p (set doors b v) below ≡ branches_at p (b_at p i) ∷ onward (edition p) (offers_below p doors limit)
    inside_offers e f g = rw (e, f, g) (group_offers p doors i k room free (edition p) limit d.less d.above)

  -- A case's target.
  open_node : (m : ℕ) → is_open p doors m ≡ true → NodeOf is_signal p m
  unfolding is_open
  open_node m e = (d.held (b_at p m) m (eqb-true _ _ (and_both _ _ e).1)).0

  find : (k : ℕ) → is_offered k (offers_below p doors limit) ≡ true → Found p homes doors d.listed d.held limit k
  find k e = by_offered p homes doors d.listed d.held open_node limit k e

  not_offered : (k : ℕ) → (Found p homes doors d.listed d.held limit k → ⊥) → false ≡ is_offered k (offers_below p doors limit)
  not_offered k no_way = go (is_offered k (offers_below p doors limit)) refl
    where
      go : (b : Bool) → is_offered k (offers_below p doors limit) ≡ b → false ≡ b
      go true e = absurd (no_way (find k e))
      go false e = refl

  pub past_limit : (k : ℕ) → limit ≤ k → false ≡ is_offered k (offers_below p doors limit)
  past_limit k l = not_offered k λ f. omega (arith, f.below, f.counts)

  pub no_branch_lem : (k : ℕ) → (kind_at p k ≡ 9 → ⊥) → false ≡ is_offered k (offers_below p doors limit)
  no_branch_lem k n = not_offered k λ f. n (kind_9 p k f.branch)

  pub no_door : (k first : ℕ) → first ≡ get_or homes k 0 → 1008 ≤ first → false ≡ is_offered k (offers_below p doors limit)
  no_door k first e l =
      let none : get_or doors (get_or homes k 0) 0 ≡ 0 = get_or-eq_default doors 0 (omega (arith, d.wide)) in
      not_offered k λ f. omega (arith, f.door)

  pub shut : (k door : ℕ) → door ≡ get_or doors (get_or homes k 0) 0 → door ≡ 0 → false ≡ is_offered k (offers_below p doors limit)
  shut k door e z = not_offered k λ f. omega (arith, f.door)

  pub by_door : (k door : ℕ) → k < limit → kind_at p k ≡ 9 → Shaped p → door ≡ get_or doors (get_or homes k 0) 0 → (door ≡ 0 → ⊥)
      → leb door limit ≡ is_offered k (offers_below p doors limit)
  by_door k door l n s e o = go (leb door limit) refl door refl
    where
      branch : NodeOf is_branch p k
      branch = branch_of p k s (omega (arith, d.inside)) n

      go : (b : Bool) → leb door limit ≡ b → (x : ℕ) → door ≡ x → b ≡ is_offered k (offers_below p doors limit)
      go b q zero z = absurd (o z)
      go true q (suc m) z =
          sym (offered_by p homes doors d.listed d.held limit k m branch (sym e ∙ z) (omega (arith, leb-true door limit q)))
      go false q (suc m) z =
          not_offered k λ f. absurd (not_both (sym q ∙ le-leb door limit (omega (arith, f.door, f.counts))))

-- Above the root every door is shut.
zeros : (n x : ℕ) → ◌≡◌ {A = ℕ} (get_or (replicate n 0) x 0) 0
zeros zero x = refl
zeros (suc n) zero = refl
zeros (suc n) (suc x) = zeros n x

none_open : (p : Bytes) (doors : List ℕ) (m : ℕ) → get_or doors (b_at p m) 0 ≡ 0 → is_open p doors m ≡ false
unfolding is_open ◌and◌
none_open p doors m e = go (eqb (kind_at p m) 7)
  where
    go : (b : Bool) → (b and eqb (get_or doors (b_at p m) 0) (suc m)) ≡ false
    go true = ne_eqb (get_or doors (b_at p m) 0) (suc m) λ z. omega (arith, e)
    go false = refl

pub all_shut : {p : Bytes} {homes : List ℕ} {count i : ℕ} → Listed p homes → count ≡ nodes p → i < count → Doors p homes (replicate 1008 0) count i
all_shut {p} x e l = record {
  listed = x;
  wide = length-replicate {A = ℕ} 1008 0;
  inside = omega arith;
  less = l;
  above = λ m h. none_open p (replicate 1008 0) m (zeros 1008 (b_at p m));
  held = λ g m h. absurd (shut_door g m h);
}
  where
    shut_door : (g m : ℕ) → ◌≡◌ {A = ℕ} (get_or (replicate 1008 0) g 0) (suc m) → ⊥
    shut_door g m h = omega (arith, zeros 1008 g)

pub none_offered : (p : Bytes) (count : ℕ) → offers_below p (replicate 1008 0) count ≡ []
none_offered p count = cut_offers p (replicate 1008 0) count λ m h. none_open p (replicate 1008 0) m (zeros 1008 (b_at p m))
