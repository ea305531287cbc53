-- A node is reached through the bodies of lets exactly when it is no larger and leads to the same node; the table of where nodes lead is filled upward.
-- Assumes nothing.
use mathlib.Core.Path.{◌≡◌, refl, sym, ap, ◌∙◌, subst}
use mathlib.Core.Logic.{◌⊎◌, inl, inr}
use mathlib.Core.List.{List, [], ◌∷◌}
use mathlib.Core.Bool.{Bool, true, false}
use Prim.Native.Nat.{ℕ, zero, suc, ◌+◌, ◌<◌, ◌≤◌}
use native.Mathlib.Nat.{not-suc-le-zero}
use native.Mathlib.Omega.{arith}
use lib.Dec.{eqb}
use lib.ListN.{length, set, get_or, length-set}
use lib.Seq.{get_or-set_same, get_or-set_other}
use borrow.Author.Tests.{eqb-true, eq-eqb}
use Rattle.rules.specs.Bytes.{Bytes, ◌and◌, ◌or◌}
use Rattle.rules.specs.Layout.{nodes, kind_at, b_at}
use Rattle.rules.specs.Kinds.{fields_of, row}
use Rattle.rules.specs.Shaped.{Shaped}
use Rattle.rules.specs.Accepted.{Accepted}
use Rattle.rules.proofs.Static.{not_both}
use Rattle.rules.proofs.Kids.{kids}
use Rattle.rules.proofs.ByKind.{choose}
use Rattle.rules.proofs.Rooted.{shaped_of}
use Rattle.rules.proofs.Verdicts.{fine_verdict}
use Rattle.declarative.specs.WayUp.{let_body}
use Rattle.declarative.proofs.Free.{side}
use Rattle.declarative.proofs.Parents.{one_above, binds_above}
use Rattle.declarative.proofs.AcceptedExactly.{meets_table}
use Rattle.dropped.specs.Pairing.{reaches_f, reaches}
use Rattle.dropped.proofs.FromPairing.{reached}
use Rattle.reaching.specs.Leads.{LeadsTo, Leads}

-- A let's body has a smaller number.
pub body_less : (p : Bytes) (x : ℕ) → Shaped p → x < nodes p → kind_at p x ≡ 5 → b_at p x < x
unfolding fields_of row ◌and◌
body_less p x s l e = (kids p x s l 5 e).1.less

-- One step of the table.
pub lead_step : (p : Bytes) (l : List ℕ) (m v : ℕ) → Shaped p → m < nodes p → LeadsTo m p l
    → (kind_at p m ≡ 5 → v ≡ get_or l (b_at p m) 0) → ((kind_at p m ≡ 5 → ⊥) → v ≡ m) → LeadsTo (m + 1) p (set l m v)
lead_step p l m v s u h body₀ own₀ = record {
  room = omega (arith, length-set l m v, h.room);
  through = λ x w. choose x m (λ q. subst (λ (j : ℕ). kind_at p j ≡ 5 → get_or (set l m v) j 0 ≡ get_or (set l m v) (b_at p j) 0) (sym q) at_m) (λ d k. below x (omega (arith, d)) d k);
  stays = λ x w. choose x m (λ q. subst (λ (j : ℕ). (kind_at p j ≡ 5 → ⊥) → get_or (set l m v) j 0 ≡ j) (sym q) (λ k. same ∙ own₀ k)) (λ d k. get_or-set_other l m x v 0 d ∙ h.stays x (omega (arith, d)) k);
}
  where
    same : get_or (set l m v) m 0 ≡ v
    same = get_or-set_same l m v 0 (omega (arith, h.room))

    body : (x : ℕ) → x < nodes p → x ≤ m → kind_at p x ≡ 5 → get_or (set l m v) (b_at p x) 0 ≡ get_or l (b_at p x) 0
    body x w z k = let b = body_less p x s w k in get_or-set_other l m (b_at p x) v 0 (λ q. omega (arith, q, b))

    at_m : kind_at p m ≡ 5 → get_or (set l m v) m 0 ≡ get_or (set l m v) (b_at p m) 0
    at_m k = same ∙ body₀ k ∙ sym (body m u (omega arith) k)

    below : (x : ℕ) → x < m → (x ≡ m → ⊥) → kind_at p x ≡ 5 → get_or (set l m v) x 0 ≡ get_or (set l m v) (b_at p x) 0
    below x w d k = get_or-set_other l m x v 0 d ∙ h.through x w k ∙ sym (body x (omega arith) (omega arith) k)

pub lead_none : (p : Bytes) (l : List ℕ) → nodes p ≤ length l → LeadsTo 0 p l
lead_none p l h = record { room = h; through = λ x w. absurd (not-suc-le-zero w); stays = λ x w. absurd (not-suc-le-zero w) }

pub lead_done : (p : Bytes) (l : List ℕ) (m : ℕ) → Accepted p → m ≡ nodes p → LeadsTo m p l → Leads p l
lead_done p l m a e h = record {
  shaped = shaped_of p a;
  once = λ n h. ((meets_table p (fine_verdict p a)).shaped.each n (omega arith)).once h;
  filled = subst (λ (k : ℕ). LeadsTo k p l) e h;
}

reach_here : (p : Bytes) (f x y : ℕ) → x ≡ y → reaches_f (suc f) p x y ≡ true
unfolding reaches_f ◌or◌
reach_here p f x y e = simp (eq-eqb x y e)

reach_on : (p : Bytes) (f x y : ℕ) → kind_at p x ≡ 5 → reaches_f f p (b_at p x) y ≡ true → reaches_f (suc f) p x y ≡ true
unfolding reaches_f ◌or◌ ◌and◌
reach_on p f x y k r = go (eqb x y)
  where
    go : (b : Bool) → (b or (eqb (kind_at p x) 5 and reaches_f f p (b_at p x) y)) ≡ true
    go true = refl
    go false = simp (eq-eqb (kind_at p x) 5 k, r)

-- On the way to a node, the last let before it.
record Way (p : Bytes) (x y : ℕ) : Type 0 where
  last : ℕ
  inside : last < nodes p
  low : last ≤ x
  is_let : kind_at p last ≡ 5
  body_is : b_at p last ≡ y

module _ (p : Bytes) (l : List ℕ) (h : Leads p l) where
  -- What is reached is no larger and leads to the same node.
  same_end : (f x y : ℕ) → x < nodes p → reaches_f f p x y ≡ true → (y ≤ x) × (get_or l x 0 ≡ get_or l y 0)
  unfolding reaches_f
  same_end zero x y u e = absurd (not_both e)
  same_end (suc f) x y u e = go (reached p f x y e) (λ z r. same_end f (b_at p x) y (omega (arith, body_less p x h.shaped u z)) r)
    where
      go : (x ≡ y) ⊎ ((kind_at p x ≡ 5) × (reaches_f f p (b_at p x) y ≡ true))
          → (kind_at p x ≡ 5 → reaches_f f p (b_at p x) y ≡ true → (y ≤ b_at p x) × (get_or l (b_at p x) 0 ≡ get_or l y 0)) → (y ≤ x) × (get_or l x 0 ≡ get_or l y 0)
      go (inl z) more = (omega (arith, z), ap (λ (j : ℕ). get_or l j 0) z)
      go (inr z) more =
          let m = more z.0 z.1 in
          (omega (arith, m.0, body_less p x h.shaped u z.0), h.filled.through x u z.0 ∙ m.1)

  -- A node leads to one that is no larger.
  end_low : (g x : ℕ) → x < g → x < nodes p → get_or l x 0 ≤ x
  end_low zero x u v = absurd (not-suc-le-zero u)
  end_low (suc g) x u v =
      choose (kind_at p x) 5
      (λ e.
      let b = body_less p x h.shaped v e in
      omega (arith, h.filled.through x v e, b, end_low g (b_at p x) (omega (arith, b)) (omega (arith, b))))
      (λ d. omega (arith, h.filled.stays x v d))

  on_way : (f x y : ℕ) → x < nodes p → (x ≡ y → ⊥) → reaches_f f p x y ≡ true → Way p x y
  unfolding reaches_f
  on_way zero x y u d e = absurd (not_both e)
  on_way (suc f) x y u d e = go (reached p f x y e) (λ z q r. on_way f (b_at p x) y (omega (arith, body_less p x h.shaped u z)) q r)
    where
      go : (x ≡ y) ⊎ ((kind_at p x ≡ 5) × (reaches_f f p (b_at p x) y ≡ true))
          → (kind_at p x ≡ 5 → (b_at p x ≡ y → ⊥) → reaches_f f p (b_at p x) y ≡ true → Way p (b_at p x) y) → Way p x y
      go (inl z) more = absurd (d z)
      go (inr z) more =
          choose (b_at p x) y
          (λ q. record { last = x; inside = u; low = omega arith; is_let = z.0; body_is = q })
          (λ q.
          let w = more z.0 q z.1 in
          record { last = w.last; inside = w.inside; low = omega (arith, w.low, body_less p x h.shaped u z.0); is_let = w.is_let; body_is = w.body_is })

  -- Of two nodes that lead to the same one the smaller is on the way of the larger: else a node would be the body of two lets.
  way : (g x y : ℕ) → x < g → x < nodes p → y ≤ x → get_or l x 0 ≡ get_or l y 0 → (f : ℕ) → x < f → reaches_f f p x y ≡ true
  way zero x y u v w e f i = absurd (not-suc-le-zero u)
  way (suc g) x y u v w e zero i = absurd (not-suc-le-zero i)
  way (suc g) x y u v w e (suc f) i =
      choose x y (reach_here p f x y) λ d.
      choose (kind_at p x) 5
      (λ k.
      let b = body_less p x h.shaped v k in
      let t = h.filled.through x v k in
      side (b_at p x) y
      (λ z.
      let r = way g y (b_at p x) (omega (arith, d)) (omega arith) (omega arith) (sym e ∙ t) (suc y) (omega arith) in
      let a = on_way (suc y) y (b_at p x) (omega arith) (λ q. omega (arith, q, z)) r in
      let o = one_above p (b_at p x) (h.once (b_at p x) (omega (arith, b))) a.last x a.inside v (binds_above p a.last (b_at p x) (let_body a.is_let a.body_is)) (binds_above p x (b_at p x) (let_body k refl)) in
      absurd (omega (arith, o, a.low, d)))
      (λ z. reach_on p f x y k (way g (b_at p x) y (omega (arith, b)) (omega (arith, b)) z (sym t ∙ e) f (omega (arith, b)))))
      (λ k. absurd (omega (arith, h.filled.stays x v k, end_low (suc y) y (omega arith) (omega arith), e, d)))

both_ways : (a b : Bool) → (a ≡ true → b ≡ true) → (b ≡ true → a ≡ true) → a ≡ b
both_ways true b f g = sym (f refl)
both_ways false true f g = g refl
both_ways false false f g = refl

pub reach_below : (p : Bytes) (l : List ℕ) (x y : ℕ) → Leads p l → x < nodes p → y ≤ x → eqb (get_or l x 0) (get_or l y 0) ≡ reaches p x y
unfolding reaches
reach_below p l x y h u w =
    both_ways _ _
    (λ e. way p l h (suc x) x y (omega arith) u w (eqb-true _ _ e) (suc x) (omega arith))
    (λ e. eq-eqb _ _ (same_end p l h (suc x) x y u e).1)

pub reach_above : (p : Bytes) (l : List ℕ) (x y : ℕ) → Leads p l → x < nodes p → x < y → false ≡ reaches p x y
unfolding reaches
reach_above p l x y h u w = both_ways _ _ (λ e. absurd (not_both e)) (λ e. absurd (omega (arith, (same_end p l h (suc x) x y u e).0)))

-- An entry in the list; any value stands for no entry.
pub entry_in : (l : List ℕ) (i d e : ℕ) → i < length l → get_or l i d ≡ get_or l i e
entry_in [] i d e h = absurd (not-suc-le-zero h)
entry_in (x ∷ l) zero d e h = refl
entry_in (x ∷ l) (suc i) d e h = entry_in l i d e (omega arith)
