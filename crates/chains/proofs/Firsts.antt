-- The function's chain is one, and the first by field order; where it has none there is none. No hypothesis on the program is needed.
-- Assumes nothing.
use Rattle.std.specs.Prelude.{if◌then◌else◌}
use mathlib.Core.Path.{◌≡◌, refl, sym, ap, subst, ◌∙◌}
use mathlib.Core.List.{List, [], ◌∷◌}
use mathlib.Core.Bool.{Bool, true, false}
use mathlib.Core.Logic.{◌⊎◌, inl, inr}
use Prim.Native.Nat.{ℕ, zero, suc, ◌≤◌, ◌<◌}
use native.Mathlib.Nat.{not-suc-le-zero}
use native.Mathlib.Omega.{arith}
use lib.Dec.{ltb}
use lib.ListN.{length}
use borrow.Author.Tests.{eqb-true, eq-eqb, ltb-true, lt-ltb}
use Rattle.rules.specs.Bytes.{Bytes, ◌and◌}
use Rattle.rules.specs.Layout.{kind_at, a_at}
use Rattle.rules.specs.Tree.{below}
use Rattle.rules.proofs.Static.{and_both, not_both}
use Rattle.chains.specs.Chain.{Which, a_field, b_field, c_field, field_at, enters, is_use, ◌or_else◌, under, via, chain_as, chain}
use Rattle.chains.specs.Leads.{Enters, Leads, order, NotAfter}
use Rattle.chains.proofs.ChainLaws.{chain_law}

-- A chain that begins with n, and is the first.
pub record Best (p : Bytes) (x n : ℕ) (ns : List ℕ) : Type 0 where
  pub fields : List Which
  pub leads : Leads p x n ns fields
  pub first : (ms : List ℕ) (gs : List Which) → Leads p x n ms gs → NotAfter fields gs

-- What is said of a list that stands for the chain at node n,
abbrev pub Right : Bytes → ℕ → ℕ → List ℕ → Type 0
Right p x n [] = (ms : List ℕ) (gs : List Which) → Leads p x n ms gs → ⊥
Right p x n (m ∷ ns) = (m ≡ n) × Best p x n ns

-- and of one that stands for the chain that goes on by a field of it.
abbrev On : Bytes → ℕ → ℕ → Which → List ℕ → Type 0
On p x n f [] = (m : ℕ) (ms : List ℕ) (gs : List Which) → Enters p n f m → Leads p x m ms gs → ⊥
On p x n f (m ∷ ns) = Enters p n f m × Best p x m ns

-- Of two fields one is before the other, or they are the same.
compared : (f g : Which) → (order f < order g) ⊎ ((f ≡ g) ⊎ (order g < order f))
compared a_field a_field = inr (inl refl)
compared a_field b_field = inl (omega arith)
compared a_field c_field = inl (omega arith)
compared b_field a_field = inr (inr (omega arith))
compared b_field b_field = inr (inl refl)
compared b_field c_field = inl (omega arith)
compared c_field a_field = inr (inr (omega arith))
compared c_field b_field = inr (inr (omega arith))
compared c_field c_field = inr (inl refl)

module _ (p : Bytes) (x n : ℕ) where
  -- A use, by the test.
  use_test : (kind_at p n ≡ 16) × (a_at p n ≡ x) → is_use p x n ≡ true
  unfolding is_use ◌and◌
  use_test h = rw (eq-eqb (kind_at p n) 16 h.0, eq-eqb (a_at p n) x h.1) refl

  is_use_lem : is_use p x n ≡ true → (kind_at p n ≡ 16) × (a_at p n ≡ x)
  unfolding is_use
  is_use_lem e = let b = and_both _ _ e in (eqb-true _ _ b.0, eqb-true _ _ b.1)

  -- A chain goes on by field f, and none goes on by a field before it.
  found : (f : Which) (m : ℕ) (ns : List ℕ) → is_use p x n ≡ false → Enters p n f m → Best p x m ns
      → ((g : Which) → order g < order f → (k : ℕ) (ms : List ℕ) (gs : List Which) → Enters p n g k → Leads p x k ms gs → ⊥)
      → Best p x n (m ∷ ns)
  found f m ns u e b none = record { fields = f ∷ b.fields; leads = (e, b.leads); first = go }
    where
      by : (g : Which) (k : ℕ) (ms : List ℕ) (gs : List Which) → Enters p n g k → Leads p x k ms gs
          → (order f < order g) ⊎ ((f ≡ g) ⊎ (order g < order f)) → NotAfter (f ∷ b.fields) (g ∷ gs)
      by g k ms gs i l (inl h) = inl h
      by g k ms gs i l (inr (inl h)) =
          let q : k ≡ m = i.child ∙ ap (field_at p n) (sym h) ∙ sym e.child in
          inr (h, b.first ms gs (subst (λ (j : ℕ). Leads p x j ms gs) q l))
      by g k ms gs i l (inr (inr h)) = absurd (none g h k ms gs i l)

      go : (ms : List ℕ) (gs : List Which) → Leads p x n ms gs → NotAfter (f ∷ b.fields) gs
      go [] [] l = absurd (not_both (sym u ∙ use_test l))
      go [] (g ∷ gs) l = absurd l
      go (k ∷ ms) [] l = absurd l
      go (k ∷ ms) (g ∷ gs) l = by g k ms gs l.0 l.1 (compared f g)

  -- No field goes on.
  lost : is_use p x n ≡ false → ((g : Which) (k : ℕ) (ms : List ℕ) (gs : List Which) → Enters p n g k → Leads p x k ms gs → ⊥)
      → (ms : List ℕ) (gs : List Which) → Leads p x n ms gs → ⊥
  lost u none [] [] l = not_both (sym u ∙ use_test l)
  lost u none [] (g ∷ gs) l = l
  lost u none (k ∷ ms) [] l = l
  lost u none (k ∷ ms) (g ∷ gs) l = none g k ms gs l.0 l.1

  abbrev NoneBy : Which → Type 0
  NoneBy g = (k : ℕ) (ms : List ℕ) (gs : List Which) → Enters p n g k → Leads p x k ms gs → ⊥

  before_b : NoneBy a_field → (g : Which) → order g < order b_field → NoneBy g
  before_b h a_field l = h
  before_b h b_field l = absurd (omega arith)
  before_b h c_field l = absurd (omega arith)

  before_c : NoneBy a_field → NoneBy b_field → (g : Which) → order g < order c_field → NoneBy g
  before_c h i a_field l = h
  before_c h i b_field l = i
  before_c h i c_field l = absurd (omega arith)

  each : NoneBy a_field → NoneBy b_field → NoneBy c_field → (g : Which) → NoneBy g
  each h i j a_field = h
  each h i j b_field = i
  each h i j c_field = j

  -- The three fields in order.
  three : is_use p x n ≡ false → (c d e : List ℕ) → On p x n a_field c → On p x n b_field d → On p x n c_field e
      → Right p x n (under n (c or_else d or_else e))
  unfolding under ◌or_else◌
  three u (m ∷ ns) d e h i j = (refl, found a_field m ns u h.0 h.1 (λ g l. absurd (omega arith)))
  three u [] (m ∷ ns) e h i j = (refl, found b_field m ns u i.0 i.1 (before_b h))
  three u [] [] (m ∷ ns) h i j = (refl, found c_field m ns u j.0 j.1 (before_c h i))
  three u [] [] [] h i j = lost u (each h i j)

  -- A field's chain, given the chains of smaller nodes.
  module _ (ih : (m : ℕ) → m < n → Right p x m (chain p x m)) where
    on_child : (f : Which) → enters (kind_at p n) f ≡ true → (b : Bool) → ltb (field_at p n f) n ≡ b
        → On p x n f (if b then chain p x (field_at p n f) else [])
    on_child f e true h = go (chain p x (field_at p n f)) (ih (field_at p n f) (ltb-true _ _ h))
      where
        go : (c : List ℕ) → Right p x (field_at p n f) c → On p x n f c
        go [] r = λ m ms gs i l. r ms gs (subst (λ (j : ℕ). Leads p x j ms gs) i.child l)
        go (m ∷ ns) r = (
          record { entered = e; child = r.0; smaller = rw r.0 (ltb-true _ _ h) },
          subst (λ (j : ℕ). Best p x j ns) (sym r.0) r.1,
        )
    on_child f e false h = λ m ms gs i l. not_both (sym h ∙ ap (λ (j : ℕ). ltb j n) (sym i.child) ∙ lt-ltb m n i.smaller)

    on : (f : Which) (b : Bool) → enters (kind_at p n) f ≡ b → On p x n f (if b then below n [] (chain p x) (field_at p n f) else [])
    unfolding below
    on f true e = on_child f e (ltb (field_at p n f) n) refl
    on f false e = λ m ms gs i l. not_both (sym e ∙ i.entered)

    by_field : (f : Which) → On p x n f (via p n (below n [] (chain p x)) f)
    unfolding via
    by_field f = on f (enters (kind_at p n) f) refl

    at : (u : Bool) → is_use p x n ≡ u
        → Right p x n (if u then n ∷ [] else under n (via p n (below n [] (chain p x)) a_field or_else via p n (below n [] (chain p x)) b_field or_else via p n (below n [] (chain p x)) c_field))
    at true e = (refl, record { fields = []; leads = is_use_lem e; first = λ ms gs l. tt })
    at false e = three e _ _ _ (by_field a_field) (by_field b_field) (by_field c_field)

    whole : Right p x n (chain_as p x n (below n [] (chain p x)))
    unfolding chain_as
    whole = at (is_use p x n) refl

-- At every node.
right_below : (p : Bytes) (x f n : ℕ) → n < f → Right p x n (chain p x n)
right_below p x zero n h = absurd (not-suc-le-zero h)
right_below p x (suc f) n h = subst (Right p x n) (sym (chain_law p x n)) (whole p x n (λ m l. right_below p x f m (omega arith)))

pub right : (p : Bytes) (x n : ℕ) → Right p x n (chain p x n)
right p x n = right_below p x (suc n) n (omega arith)

-- The numbers fall.
pub falls : (p : Bytes) (x n : ℕ) (ns : List ℕ) (fs : List Which) → Leads p x n ns fs → length ns ≤ n
falls p x n [] fs l = omega arith
falls p x n (m ∷ ns) [] l = absurd l
falls p x n (m ∷ ns) (f ∷ fs) l = omega (arith, falls p x m ns fs l.1, l.0.smaller)

-- Two ways down that are both first are the same,
same_fields : (fs gs : List Which) → NotAfter fs gs → NotAfter gs fs → fs ≡ gs
same_fields [] [] h i = refl
same_fields [] (g ∷ gs) h i = absurd i
same_fields (f ∷ fs) [] h i = absurd h
same_fields (f ∷ fs) (g ∷ gs) (inl h) (inl i) = absurd (omega (arith, h, i))
same_fields (f ∷ fs) (g ∷ gs) (inl h) (inr i) = absurd (let e : order f ≡ order g = ap order (sym i.0) in omega (arith, h, e))
same_fields (f ∷ fs) (g ∷ gs) (inr h) (inl i) = absurd (let e : order f ≡ order g = ap order h.0 in omega (arith, i, e))
same_fields (f ∷ fs) (g ∷ gs) (inr h) (inr i) = λ j. h.0 j ∷ same_fields fs gs h.1 i.1 j

-- and the fields fix the nodes.
same_nodes : (p : Bytes) (x n : ℕ) (ns ms : List ℕ) (fs : List Which) → Leads p x n ns fs → Leads p x n ms fs → ns ≡ ms
same_nodes p x n [] [] fs l k = refl
same_nodes p x n [] (m ∷ ms) [] l k = absurd k
same_nodes p x n [] (m ∷ ms) (f ∷ fs) l k = absurd l
same_nodes p x n (m ∷ ns) [] [] l k = absurd l
same_nodes p x n (m ∷ ns) [] (f ∷ fs) l k = absurd k
same_nodes p x n (m ∷ ns) (j ∷ ms) [] l k = absurd l
same_nodes p x n (m ∷ ns) (j ∷ ms) (f ∷ fs) l k =
    let e : m ≡ j = l.0.child ∙ sym k.0.child in
    let r = same_nodes p x m ns ms fs l.1 (subst (λ (i : ℕ). Leads p x i ms fs) (sym e) k.1) in
    λ i. e i ∷ r i

pub best_one : (p : Bytes) (x n : ℕ) (ns ms : List ℕ) → Best p x n ns → Best p x n ms → ns ≡ ms
best_one p x n ns ms b c =
    let e = same_fields b.fields c.fields (b.first ms c.fields c.leads) (c.first ns b.fields b.leads) in
    same_nodes p x n ns ms c.fields (subst (Leads p x n ns) e b.leads) c.leads
