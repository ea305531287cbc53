-- What the code does at a node is what the chain's law says of it.
-- Assumes nothing.
use Rattle.std.specs.Prelude.{if◌then◌else◌}
use mathlib.Core.Path.{◌≡◌, refl, sym, ap, subst, ◌∙◌}
use mathlib.Core.List.{List, [], ◌∷◌}
use mathlib.Core.Logic.{◌≢◌}
use mathlib.Core.Bool.{Bool, true, false}
use Prim.Native.Nat.{ℕ, suc, ◌+◌, ◌≤◌, ◌<◌}
use native.Mathlib.Omega.{arith}
use native.Mathlib.Nat.{not-suc-le-zero}
use lib.Dec.{eqb}
use lib.ListN.{length, set, length-set}
use lib.Seq.{set_comm}
use Rattle.rules.specs.Bytes.{Bytes, write_at, ◌and◌}
use Rattle.rules.specs.Layout.{nodes, kind_at, a_at, b_at, c_at}
use Rattle.rules.specs.Kinds.{is_signal}
use Rattle.rules.specs.Shaped.{Shaped}
use Rattle.rules.proofs.Signals.{let_kids}
use Rattle.chains.specs.Explains.{IsLet}
use Rattle.rules.specs.Node.{IsNode}
use Rattle.rules.specs.Tree.{below}
use Rattle.rules.specs.declared.Node.{Node}
use Rattle.rules.proofs.Nodes.{below_lt, below_ge}
use Rattle.chains.specs.Chain.{Which, a_field, b_field, c_field, field_at, enters, is_use, ◌or_else◌, under, via, chain_as, chain, chain_of}
use Rattle.chains.proofs.ChainLaws.{chain_law}
use Rattle.chains.proofs.Firsts.{Best, Right, right, falls}
use Rattle.explain.specs.Tracing.{onward}

-- Entries found, and stored from a place on.
pub record Stores (room : List ℕ) (at : ℕ) (c : List ℕ) (count : ℕ) (after : List ℕ) : Type 0 where
  pub counted : count ≡ length c
  pub stored : after ≡ write_at room at c

-- Nothing.
pub stores_none : (room : List ℕ) (at : ℕ) → Stores room at [] 0 room
unfolding write_at
stores_none room at = record { counted = refl; stored = refl }

-- The length of a room that was written to.
pub written_length : (c room : List ℕ) (at : ℕ) → length (write_at room at c) ≡ length room
unfolding write_at
written_length [] room at = refl
written_length (n ∷ ns) room at = written_length ns (set room at n) (suc at) ∙ length-set room at n

-- An entry in front is stored after the others.
front : (c room : List ℕ) (at i n : ℕ) → i < at → set (write_at room at c) i n ≡ write_at (set room i n) at c
unfolding write_at
front [] room at i n h = refl
front (m ∷ ms) room at i n h =
    front ms (set room at m) (suc at) i n (omega arith)
    ∙ ap (λ (r : List ℕ). write_at r (suc at) ms) (set_comm room at i m n (λ e. omega arith))

none_length : (c : List ℕ) → length c ≡ 0 → c ≡ []
none_length [] e = refl
none_length (n ∷ ns) e = absurd (omega arith)

first_either : (c d : List ℕ) → 0 < length c → (c or_else d) ≡ c
unfolding ◌or_else◌
first_either [] d h = absurd (omega arith)
first_either (n ∷ ns) d h = refl

second_either : (c d : List ℕ) → length c ≡ 0 → (c or_else d) ≡ d
unfolding ◌or_else◌
second_either [] d h = refl
second_either (n ∷ ns) d h = absurd (omega arith)

under_some : (n : ℕ) (c : List ℕ) → 0 < length c → under n c ≡ n ∷ c
unfolding under
under_some n [] h = absurd (omega arith)
under_some n (m ∷ ms) h = refl

under_none : (n : ℕ) (c : List ℕ) → length c ≡ 0 → under n c ≡ []
unfolding under
under_none n [] h = refl
under_none n (m ∷ ms) h = absurd (omega arith)

module _ (p : Bytes) (x : ℕ) where
  -- A field that is not entered, or holds no smaller number.
  abbrev pub on_by : ℕ → Bool → ℕ → List ℕ
  on_by i yes₀ m = if yes₀ then below i [] (chain p x) m else []

  pub none_entered : (i m : ℕ) (b : Bool) (room : List ℕ) (at : ℕ) → b ≡ false → (0 ≡ length (on_by i b m)) × (room ≡ write_at room at (on_by i b m))
  unfolding write_at
  none_entered i m b room at e = rw e (refl, refl)

  pub none_smaller : (i m : ℕ) (b : Bool) (room : List ℕ) (at : ℕ) → b ≡ true → i ≤ m → (0 ≡ length (on_by i b m)) × (room ≡ write_at room at (on_by i b m))
  unfolding write_at
  none_smaller i m b room at e h = rw (e, below_ge i [] (chain p x) m h) (refl, refl)

  pub goes_on : (i m : ℕ) (b : Bool) → b ≡ true → m < i → on_by i b m ≡ chain p x m
  goes_on i m b e h = rw e (below_lt i [] (chain p x) m h)

  -- The three fields of node i.
  module _ (i : ℕ) (n : Node) (w : IsNode p i n) where
    pub by_a : (b : Bool) → b ≡ enters n.kind a_field → on_by i b n.a ≡ via p i (below i [] (chain p x)) a_field
    unfolding via field_at
    by_a b e = rw (e, w.kind_is, w.a_is) refl

    pub by_b : (b : Bool) → b ≡ enters n.kind b_field → on_by i b n.b ≡ via p i (below i [] (chain p x)) b_field
    unfolding via field_at
    by_b b e = rw (e, w.kind_is, w.b_is) refl

    pub by_c : (b : Bool) → b ≡ enters n.kind c_field → on_by i b n.c ≡ via p i (below i [] (chain p x)) c_field
    unfolding via field_at
    by_c b e = rw (e, w.kind_is, w.c_is) refl

    pub use_test : (eqb n.kind 16 and eqb n.a x) ≡ is_use p x i
    unfolding is_use
    use_test = rw (w.kind_is, w.a_is) refl

    -- The first field that goes on.
    pub by_first : (a : Bool) → a ≡ enters n.kind a_field → 0 < length (on_by i a n.a) → onward p x i ≡ on_by i a n.a
    unfolding onward
    by_first a e h = first_either _ _ (subst (λ (c : List ℕ). 0 < length c) (by_a a e) h) ∙ sym (by_a a e)

    pub by_second : (a b : Bool) → a ≡ enters n.kind a_field → b ≡ enters n.kind b_field → length (on_by i a n.a) ≡ 0
        → 0 < length (on_by i b n.b) → onward p x i ≡ on_by i b n.b
    unfolding onward
    by_second a b e f z h =
        second_either _ _ (ap length (sym (by_a a e)) ∙ z)
        ∙ first_either _ _ (subst (λ (c : List ℕ). 0 < length c) (by_b b f) h) ∙ sym (by_b b f)

    pub by_third : (a b c : Bool) → a ≡ enters n.kind a_field → b ≡ enters n.kind b_field → c ≡ enters n.kind c_field
        → length (on_by i a n.a) ≡ 0 → length (on_by i b n.b) ≡ 0 → onward p x i ≡ on_by i c n.c
    unfolding onward
    by_third a b c e f g z y =
        second_either _ _ (ap length (sym (by_a a e)) ∙ z) ∙ second_either _ _ (ap length (sym (by_b b f)) ∙ y) ∙ sym (by_c c g)

  -- A use, and a node that is none.
  pub at_use : (i : ℕ) → is_use p x i ≡ true → chain p x i ≡ i ∷ []
  unfolding chain_as
  at_use i e = chain_law p x i ∙ rw e refl

  pub at_other : (i : ℕ) → is_use p x i ≡ false → chain p x i ≡ under i (onward p x i)
  unfolding chain_as onward
  at_other i e = chain_law p x i ∙ rw e refl

  pub stored_use : (i at : ℕ) (room : List ℕ) → is_use p x i ≡ true → (1 ≡ length (chain p x i)) × (set room at i ≡ write_at room at (chain p x i))
  unfolding write_at
  stored_use i at room e = rw (at_use i e) (refl, refl)

  pub stored_none : (i at : ℕ) (room : List ℕ) → is_use p x i ≡ false → length (onward p x i) ≡ 0
      → (0 ≡ length (chain p x i)) × (write_at room (at + 1) (onward p x i) ≡ write_at room at (chain p x i))
  unfolding write_at
  stored_none i at room e z = rw (at_other i e ∙ under_none i (onward p x i) z, none_length (onward p x i) z) (refl, refl)

  pub stored_more : (i at : ℕ) (room : List ℕ) → is_use p x i ≡ false → 0 < length (onward p x i)
      → (length (onward p x i) + 1 ≡ length (chain p x i)) × (set (write_at room (at + 1) (onward p x i)) at i ≡ write_at room at (chain p x i))
  unfolding write_at
  stored_more i at room e h =
      let q : chain p x i ≡ i ∷ onward p x i = at_other i e ∙ under_some i (onward p x i) h in
      let s : at + 1 ≡ suc at = omega arith in
      rw q (
        omega arith,
        front (onward p x i) room (at + 1) at i (omega arith) ∙ ap (λ (j : ℕ). write_at (set room at i) j (onward p x i)) s,
      )

  -- A chain has at most one entry more than its first node's number.
  chain_short : (i : ℕ) → length (chain p x i) ≤ suc i
  chain_short i = go (chain p x i) (right p x i)
    where
      go : (c : List ℕ) → Right p x i c → length c ≤ suc i
      go [] r = omega arith
      go (m ∷ ns) r = omega (arith, falls p x i ns r.1.fields r.1.leads)

  pub onward_short : (i : ℕ) → is_use p x i ≡ false → 0 < length (onward p x i) → length (onward p x i) ≤ i
  onward_short i e h =
      let q : length (chain p x i) ≡ suc (length (onward p x i)) = ap length (at_other i e ∙ under_some i (onward p x i) h) in
      omega (arith, q, chain_short i)

-- Nothing found: nothing stored, and the next is stored in the same room.
pub then_next : (room r₁ r₂ : List ℕ) (at k : ℕ) (c d : List ℕ) → k ≡ length c → k ≤ 0 → r₁ ≡ write_at room at c → r₂ ≡ write_at r₁ at d
    → (length c ≡ 0) × (r₂ ≡ write_at room at d)
unfolding write_at
then_next room r₁ r₂ at k c d e z f g =
    let n : length c ≡ 0 = omega (arith, e, z) in
    (n, g ∙ ap (λ (r : List ℕ). write_at r at d) (f ∙ ap (write_at room at) (none_length c n)))

-- A let's definition is a node, and its chain fits.
pub definition_inside : (p : Bytes) (x : ℕ) → Shaped p → IsLet p x → a_at p x < nodes p
unfolding is_signal ◌and◌
definition_inside p x s l =
    let k = let_kids p x (record { shaped = s; inside = l.inside; sorted = ap is_signal l.kind }) l.kind in
    k.0.node.inside

pub definition_fits : (p : Bytes) (x : ℕ) → Shaped p → IsLet p x → length (chain_of p x) ≤ 1008
unfolding chain_of
definition_fits p x s l = omega (arith, chain_short p x (a_at p x), definition_inside p x s l, s.small)

-- The chain by the field that was read.
pub of_field : (p : Bytes) (x a : ℕ) → a ≡ a_at p x → chain p x a ≡ chain_of p x
unfolding chain_of
of_field p x a e = ap (chain p x) e
