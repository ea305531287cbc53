-- The pass that writes the branches of the table, from the last node down: what one node's write makes right, and that it spoils nothing.
-- Assumes nothing.
use mathlib.Core.Path.{◌≡◌, refl, sym, ap, ◌∙◌}
use mathlib.Core.List.{List}
use Prim.Native.Nat.{ℕ, ◌+◌, ◌≤◌, ◌<◌}
use native.Mathlib.Omega.{arith}
use lib.ListN.{length, length-set, get_or, set}
use lib.Seq.{get_or-set_same, get_or-set_other}
use borrow.Author.Tests.{eqb-true, eq-eqb}
use Rattle.rules.specs.Bytes.{Bytes, ◌and◌}
use Rattle.rules.specs.Layout.{nodes, kind_at, b_at}
use Rattle.rules.specs.Kinds.{is_signal, is_branch}
use Rattle.rules.specs.Shaped.{Shaped, NodeOf}
use Rattle.rules.proofs.Kids.{Child, read}
use Rattle.rules.proofs.Signals.{group_kids, branch_next}
use Rattle.rules.proofs.ByKind.{choose}
use Rattle.cells.specs.Indexed.{ListedOnce, SignalsKept, ListedFrom, Listed}
use Rattle.cells.proofs.Listed.{Links, by_group, by_branch, not_two, not_signal}

pub kind_9 : (p : Bytes) (i : ℕ) → NodeOf is_branch p i → kind_at p i ≡ 9
unfolding is_branch
kind_9 p i w = eqb-true _ _ w.sorted

-- A node of kind 9 is a branch, one of kind 7 a signal.
pub branch_of : (p : Bytes) (i : ℕ) → Shaped p → i < nodes p → kind_at p i ≡ 9 → NodeOf is_branch p i
unfolding is_branch
branch_of p i s h e = record { shaped = s; inside = h; sorted = eq-eqb _ 9 e }

pub group_of : (p : Bytes) (i : ℕ) → Shaped p → i < nodes p → kind_at p i ≡ 7 → NodeOf is_signal p i
unfolding is_signal ◌and◌
group_of p i s h e = record { shaped = s; inside = h; sorted = ap is_signal e }

-- Before the pass no list is asked for.
pub passing : (p : Bytes) (index : List ℕ) (count : ℕ) → count ≡ nodes p → count ≤ length index → ListedFrom count p index
passing p index count e h =
    record {
      room = omega arith;
      firsts = λ i l w k. absurd (omega (arith, w.inside));
      follows = λ i l w d. absurd (omega (arith, w.inside));
    }

-- After it all lists stand.
pub passed : (p : Bytes) (index : List ℕ) (low : ℕ) → low ≤ 0 → ListedOnce p → ListedFrom low p index → Listed p index
passed p index low h o x =
    record {
      once = o;
      room = x.room;
      firsts = λ i w k. x.firsts i (omega arith) w k;
      follows = λ i w d. x.follows i (omega arith) w d;
    }

-- What the pass over node i leaves: the lists from i on, and for signals what was there.
abbrev pub Passes : ℕ → Bytes → List ℕ → List ℕ → Type 0
Passes i p before index = ListedFrom i p index × SignalsKept p before index

module _ (p : Bytes) (index : List ℕ) (i : ℕ) (inside : i < nodes p) (x : ListedFrom (i + 1) p index) where
  -- A node that is neither a group nor a branch, and a last branch, name no branch.
  pub passes_none : (kind_at p i ≡ 7 → ⊥) → (kind_at p i ≡ 9 → b_at p i ≡ 65535) → Passes i p index index
  passes_none d e = (
    record {
      room = x.room;
      firsts = λ m l w k. x.firsts m (more m l (λ q. d (ap (kind_at p) (sym q) ∙ k))) w k;
      follows = λ m l w h. x.follows m (more m l (λ q. h (ap (b_at p) q ∙ e (ap (kind_at p) (sym q) ∙ kind_9 p m w)))) w h;
    },
    λ m w. refl,
  )
    where
      more : (m : ℕ) → i ≤ m → (m ≡ i → ⊥) → i + 1 ≤ m
      more m l d = omega (arith, d)

  -- The branch that i names gets a number that is right for i.
  module _ (once : ListedOnce p) (v : ℕ) (child : Child is_branch p i (b_at p i)) (link : Links p i (b_at p i))
      (first : kind_at p i ≡ 7 → v ≡ b_at p i) (next : kind_at p i ≡ 9 → v ≡ get_or index i 0) where
    others : (m : ℕ) → (m ≡ b_at p i → ⊥) → get_or (set index (b_at p i) v) m 0 ≡ get_or index m 0
    others m d = get_or-set_other index (b_at p i) m v 0 d

    written : get_or (set index (b_at p i) v) (b_at p i) 0 ≡ v
    written = get_or-set_same index (b_at p i) v 0 (omega (arith, child.node.inside, x.room))

    -- No later node names it,
    apart : (m : ℕ) → i < m → m < nodes p → ((c : ℕ) → b_at p m ≡ c → Links p m c) → b_at p m ≡ b_at p i → ⊥
    apart m l h links e = not_two p (b_at p i) i m (once (b_at p i) child.node) l h link (links (b_at p i) e)

    -- and it is no signal.
    signal_apart : (m : ℕ) → NodeOf is_signal p m → m ≡ b_at p i → ⊥
    signal_apart m w e = not_signal (kind_at p m) (ap (λ (j : ℕ). is_branch (kind_at p j)) e ∙ child.node.sorted) w.sorted

    named_lists : ListedFrom i p (set index (b_at p i) v)
    named_lists =
        record {
          room = omega (arith, x.room, length-set index (b_at p i) v);
          firsts = λ m l w k.
              choose m i (λ e. ap (λ (j : ℕ). get_or (set index (b_at p i) v) (b_at p j) 0) e ∙ written ∙ first (ap (kind_at p) (sym e) ∙ k) ∙ ap (b_at p) (sym e))
              (λ d. others (b_at p m) (apart m (omega (arith, d)) w.inside (λ c e. by_group k e)) ∙ x.firsts m (omega (arith, d)) w k);
          follows = λ m l w s.
              choose m i
              (λ e.
              ap (λ (j : ℕ). get_or (set index (b_at p i) v) (b_at p j) 0) e ∙ written ∙ next (ap (kind_at p) (sym e) ∙ kind_9 p m w)
              ∙ sym (others i (λ q. omega (arith, child.less))) ∙ ap (λ (j : ℕ). get_or (set index (b_at p i) v) j 0) (sym e))
              (λ d.
              others (b_at p m) (apart m (omega (arith, d)) w.inside (λ c e. by_branch (kind_9 p m w) e)) ∙ x.follows m (omega (arith, d)) w s
              ∙ sym (others m (λ q. omega (arith, child.less))));
        }

    pub passes_named : Passes i p index (set index (b_at p i) v)
    passes_named = (named_lists, λ m w. others m (signal_apart m w))

-- The two writes, by the fields as they were read.
module _ (p : Bytes) (i b : ℕ) (s : Shaped p) (inside : i < nodes p) (e : b ≡ b_at p i) where
  pub first_child : kind_at p i ≡ 7 → Child is_branch p i b
  first_child k = read e (group_kids p i (group_of p i s inside k) k).1

  pub next_child : kind_at p i ≡ 9 → (b ≡ 65535 → ⊥) → Child is_branch p i b
  next_child k d = read e (branch_next p i (branch_of p i s inside k) (λ q. d (e ∙ q)))

  pub passes_first : (index : List ℕ) → ListedOnce p → ListedFrom (i + 1) p index → kind_at p i ≡ 7 → Passes i p index (set index b b)
  passes_first index o x k =
      rw e (passes_named p index i inside x o (b_at p i) (read (sym e) (first_child k)) (by_group k refl) (λ _. refl) (λ q. absurd (omega (arith, k, q))))

  pub passes_next : (index : List ℕ) → ListedOnce p → ListedFrom (i + 1) p index → kind_at p i ≡ 9 → (b ≡ 65535 → ⊥) → Passes i p index (set index b (get_or index i 0))
  passes_next index o x k d =
      rw e (passes_named p index i inside x o (get_or index i 0) (read (sym e) (next_child k d)) (by_branch k refl) (λ q. absurd (omega (arith, k, q))) (λ _. refl))
