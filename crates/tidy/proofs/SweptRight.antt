-- The walk's list is that of the tidied tree, and it marks what the tidied tree uses.
-- Assumes nothing.
use Rattle.std.specs.Prelude.{if◌then◌else◌}
use mathlib.Core.Path.{◌≡◌, refl, sym, ap, ◌∙◌}
use mathlib.Core.List.{List, [], ◌∷◌, ◌++◌}
use mathlib.Core.Bool.{Bool, true, false, not}
use Prim.Native.Nat.{ℕ, ◌+◌, ◌≤◌, ◌<◌}
use native.Mathlib.Omega.{arith}
use lib.Dec.{eqb}
use lib.ListN.{length, get_or, set, length-set}
use lib.Seq.{get_or-set_other}
use borrow.Author.Tests.{eqb-true, eqb-false, eq-eqb, ne_eqb}
use Rattle.rules.specs.Bytes.{Bytes, ◌and◌, ◌or◌}
use Rattle.rules.specs.Scope.{Marks, mark, is_marked}
use Rattle.tidy.specs.Twig.{Twig, twig, Limb, holds, child, held_in}
use Rattle.tidy.specs.Sweep.{Swept, gone_let, unmark, nothing, swept_variable, swept_let, swept_node, swept_as, sweep_t, sweep_l}
use Rattle.tidy.proofs.Pruned.{top_t, uses_t, uses_l, goes_by, over_t, prune_t, prune_l, listed, names_t, names_l, IsHeld, IsChild, Here, From, FromL}

-- Marks of 1,008 numbers.
pub get_set : (l : List ℕ) (i x : ℕ) → i < length l → get_or (set l i x) i 0 ≡ x
get_set [] i x h = absurd (omega arith)
get_set (y ∷ l) ℕ.zero x h = refl
get_set (y ∷ l) (ℕ.suc i) x h = get_set l i x (omega arith)

mark_is : (u : Marks) (b x : ℕ) → x < length u → is_marked (mark u b) x ≡ (is_marked u x or eqb b x)
unfolding is_marked mark ◌or◌
mark_is u b x h = go (eqb b x) refl
  where
    go : (t : Bool) → eqb b x ≡ t → eqb (get_or (set u b 1) x 0) 1 ≡ (eqb (get_or u x 0) 1 or t)
    go true e =
        let z : b ≡ x = eqb-true b x e in
        ap (λ (v : ℕ). eqb v 1) (ap (λ (i : ℕ). get_or (set u i 1) x 0) z ∙ get_set u x 1 h) ∙ sym (or_true (eqb (get_or u x 0) 1))
      where
        or_true : (y : Bool) → (y or true) ≡ true
        or_true true = refl
        or_true false = refl
    go false e = ap (λ (v : ℕ). eqb v 1) (get_or-set_other u b x 1 0 (λ z. eqb-false b x e (sym z))) ∙ sym (or_none (eqb (get_or u x 0) 1))
      where
        or_none : (y : Bool) → (y or false) ≡ y
        or_none true = refl
        or_none false = refl

unmark_other : (u : Marks) (n x : ℕ) → n < x → is_marked (unmark u n) x ≡ is_marked u x
unfolding is_marked unmark
unmark_other u n x h = ap (λ (v : ℕ). eqb v 1) (get_or-set_other u n x 0 0 (λ z. omega arith))

unmark_own : (u : Marks) (n : ℕ) → n < length u → is_marked (unmark u n) n ≡ false
unfolding is_marked unmark
unmark_own u n h = ap (λ (v : ℕ). eqb v 1) (get_set u n 0 h)

-- Marks joined.
or_joined : (m a b c : Bool) → (((m or c) or b) or a) ≡ (m or (a or b or c))
unfolding ◌or◌
or_joined true a b c = refl
or_joined false true true true = refl
or_joined false true true false = refl
or_joined false true false true = refl
or_joined false true false false = refl
or_joined false false true true = refl
or_joined false false true false = refl
or_joined false false false true = refl
or_joined false false false false = refl

or_false : (m : Bool) → m ≡ (m or false)
unfolding ◌or◌
or_false true = refl
or_false false = refl

-- What a walk of marks u did: of a tree whose numbers are below m.
pub record Did (m : ℕ) (uses : ℕ → Bool) (names : List ℕ) (u : Marks) (s : Swept) : Type 0 where
  pub long : length s.marks ≡ length u
  pub marked : (x : ℕ) → m ≤ x → x < 1008 → is_marked s.marks x ≡ (is_marked u x or uses x)
  pub named : s.names ≡ names

module _ (p : Bytes) where
  did_nothing : (m : ℕ) (u : Marks) → Did m (λ x. false) [] u (nothing u)
  unfolding nothing
  did_nothing m u = record { long = refl; marked = λ x h l. or_false (is_marked u x); named = refl }

  -- A node of three fields.
  node_did : (n : ℕ) (A B C : ℕ → Bool) (la lb lc : List ℕ) (a b c : Marks → Swept) (u : Marks) → length u ≡ 1008
      → ((v : Marks) → length v ≡ 1008 → Did n A la v (a v)) → ((v : Marks) → length v ≡ 1008 → Did n B lb v (b v)) → ((v : Marks) → length v ≡ 1008 → Did n C lc v (c v))
      → Did (1 + n) (λ x. A x or B x or C x) (la ++ (lb ++ (lc ++ n ∷ []))) u (swept_node n a b c u)
  unfolding swept_node
  node_did n A B C la lb lc a b c u l da db dc =
      let third = c u in
      let second = b third.marks in
      let first = a second.marks in
      let d₃ = dc u l in
      let l₃ : length third.marks ≡ 1008 = d₃.long ∙ l in
      let d₂ = db third.marks l₃ in
      let l₂ : length second.marks ≡ 1008 = d₂.long ∙ l₃ in
      let d₁ = da second.marks l₂ in
      record {
        long = d₁.long ∙ d₂.long ∙ d₃.long;
        marked = λ x h g.
            d₁.marked x (omega arith) g
            ∙ ap (λ (t : Bool). t or A x) (d₂.marked x (omega arith) g ∙ ap (λ (t : Bool). t or B x) (d₃.marked x (omega arith) g))
            ∙ or_joined (is_marked u x) (A x) (B x) (C x);
        named = λ i. d₁.named i ++ (d₂.named i ++ (d₃.named i ++ n ∷ []));
      }

-- The parts of a node, by whether it is a variable and whether it is a let that goes.
pub held_prune : (l : Limb) → held_in (prune_l l) ≡ held_in l
unfolding prune_t held_in
held_prune (holds x) = refl
held_prune (child x t) = refl

held_names : (l : Limb) → IsHeld l → names_l l ≡ []
unfolding names_t
held_names (holds x) h = refl
held_names (child x t) h = absurd h

held_uses : (l : Limb) → IsHeld l → (x : ℕ) → uses_l (prune_l l) x ≡ false
unfolding prune_t uses_t
held_uses (holds y) h x = refl
held_uses (child y t) h x = absurd h

over_stays : (t : Twig) (l : Limb) (g : Bool) → g ≡ false → over_t t l g ≡ t
unfolding over_t
over_stays t (holds x) g e = refl
over_stays t (child x b) g e = simp e

over_goes : (t : Twig) (l : Limb) (g : Bool) → g ≡ true → IsChild l → (x : ℕ) → uses_t (over_t t (prune_l l) g) x ≡ uses_l (prune_l l) x
unfolding over_t prune_t uses_t
over_goes t (holds y) g e h x = absurd h
over_goes t (child y b) g e h x = ap (λ (z : Bool). uses_t (if z then prune_t b else t) x) e

module _ (n k t w : ℕ) (a b c : Limb) where
  pub stays_prune : goes_by n k (prune_l b) ≡ false → prune_t (twig n k t w a b c) ≡ twig n k t w (prune_l a) (prune_l b) (prune_l c)
  unfolding prune_t
  stays_prune e = over_stays (twig n k t w (prune_l a) (prune_l b) (prune_l c)) (prune_l b) (goes_by n k (prune_l b)) e

  goes_uses : goes_by n k (prune_l b) ≡ true → IsChild b → (x : ℕ) → uses_t (prune_t (twig n k t w a b c)) x ≡ uses_l (prune_l b) x
  unfolding prune_t
  goes_uses e h x = over_goes (twig n k t w (prune_l a) (prune_l b) (prune_l c)) b (goes_by n k (prune_l b)) e h x

  pub variable_uses : eqb k 16 ≡ true → (x : ℕ) → uses_t (twig n k t w a b c) x ≡ eqb (held_in a) x
  unfolding uses_t
  variable_uses e x = simp e

  pub other_uses : eqb k 16 ≡ false → (x : ℕ) → uses_t (twig n k t w a b c) x ≡ (uses_l a x or uses_l b x or uses_l c x)
  unfolding uses_t
  other_uses e x = simp e

  pub stays_names : goes_by n k (prune_l b) ≡ false → names_t (twig n k t w a b c) ≡ names_l a ++ (names_l b ++ (names_l c ++ n ∷ []))
  unfolding names_t listed
  stays_names e = simp e

  pub goes_names : goes_by n k (prune_l b) ≡ true → names_t (twig n k t w a b c) ≡ names_l b ++ gone_let n ∷ []
  unfolding names_t listed
  goes_names e = simp e

  pub no_let : eqb k 5 ≡ false → goes_by n k (prune_l b) ≡ false
  unfolding goes_by ◌and◌
  no_let e = simp e

  pub a_let : eqb k 5 ≡ true → goes_by n k (prune_l b) ≡ not (uses_l (prune_l b) n)
  unfolding goes_by ◌and◌
  a_let e = simp e

did_as : {m : ℕ} {uses uses' : ℕ → Bool} {names names' : List ℕ} {u : Marks} {s s' : Swept} → s' ≡ s → ((x : ℕ) → uses' x ≡ uses x) → names' ≡ names
    → Did m uses names u s → Did m uses' names' u s'
did_as {u = u} e f g d = record {
  long = ap (λ (z : Swept). length z.marks) e ∙ d.long;
  marked = λ x h l. ap (λ (z : Swept). is_marked z.marks x) e ∙ d.marked x h l ∙ ap (λ (z : Bool). is_marked u x or z) (sym (f x));
  named = ap (λ (z : Swept). z.names) e ∙ d.named ∙ sym g;
}

module _ (p : Bytes) (n k t w : ℕ) (a b c : Limb) (here : Here p n k t w a b c)
    (da : (v : Marks) → length v ≡ 1008 → Did n (uses_l (prune_l a)) (names_l a) v (sweep_l a v))
    (db : (v : Marks) → length v ≡ 1008 → Did n (uses_l (prune_l b)) (names_l b) v (sweep_l b v))
    (dc : (v : Marks) → length v ≡ 1008 → Did n (uses_l (prune_l c)) (names_l c) v (sweep_l c v)) (u : Marks) (l : length u ≡ 1008) where
  abbrev T : Twig
  T = twig n k t w a b c

  abbrev Goal : Type 0
  Goal = Did (1 + n) (uses_t (prune_t T)) (names_t T) u (sweep_t T u)

  not_5 : eqb k 16 ≡ true → eqb k 5 ≡ false
  not_5 e = ne_eqb k 5 (λ z. let y : k ≡ 16 = eqb-true k 16 e in omega arith)

  variable_did : eqb k 16 ≡ true → Goal
  unfolding sweep_t swept_as swept_variable mark
  variable_did e =
      let h = here.variable (eqb-true k 16 e) in
      let g = no_let n k t w a b c (not_5 e) in
      did_as {uses = λ x. eqb (held_in a) x} (simp e)
      (λ x. ap (λ (z : Twig). uses_t z x) (stays_prune n k t w a b c g) ∙ variable_uses n k t w (prune_l a) (prune_l b) (prune_l c) e x ∙ ap (λ (y : ℕ). eqb y x) (held_prune a))
      (stays_names n k t w a b c g ∙ (λ i. held_names a h.0 i ++ (held_names b h.1 i ++ (held_names c h.2 i ++ n ∷ []))))
      (record { long = length-set u (held_in a) 1; marked = λ x h l'. mark_is u (held_in a) x (omega arith); named = refl })

  other_did : eqb k 16 ≡ false → eqb k 5 ≡ false → Goal
  unfolding sweep_t swept_as
  other_did d e =
      let g = no_let n k t w a b c e in
      did_as (simp (d, e))
      (λ x. ap (λ (z : Twig). uses_t z x) (stays_prune n k t w a b c g) ∙ other_uses n k t w (prune_l a) (prune_l b) (prune_l c) d x)
      (stays_names n k t w a b c g)
      (node_did p n (uses_l (prune_l a)) (uses_l (prune_l b)) (uses_l (prune_l c)) (names_l a) (names_l b) (names_l c) (λ v. sweep_l a v) (λ v. sweep_l b v) (λ v. sweep_l c v) u l da db dc)

  abbrev v : Marks
  v = unmark u n

  lv : length v ≡ 1008
  unfolding unmark
  lv = length-set u n 0 ∙ l

  abbrev B : Swept
  B = sweep_l b v

  -- After the body the let's own mark says whether the tidied body names it.
  own_mark : is_marked B.marks n ≡ uses_l (prune_l b) n
  unfolding ◌or◌
  own_mark = (db v lv).marked n (omega arith) here.small ∙ ap (λ (z : Bool). z or uses_l (prune_l b) n) (unmark_own u n (omega (arith, here.small)))

  others : (x : ℕ) → 1 + n ≤ x → x < 1008 → is_marked B.marks x ≡ (is_marked u x or uses_l (prune_l b) x)
  others x h g = (db v lv).marked x (omega arith) g ∙ ap (λ (z : Bool). z or uses_l (prune_l b) x) (unmark_other u n x (omega arith))

  kept_did : eqb k 16 ≡ false → eqb k 5 ≡ true → uses_l (prune_l b) n ≡ true → Goal
  unfolding sweep_t swept_as swept_let
  kept_did d e y =
      let h = here.body (eqb-true k 5 e) in
      let g : goes_by n k (prune_l b) ≡ false = a_let n k t w a b c e ∙ ap not y in
      let m : is_marked B.marks n ≡ true = own_mark ∙ y in
      let lb : length B.marks ≡ 1008 = (db v lv).long ∙ lv in
      let d₁ = da B.marks lb in
      did_as {uses = λ x. uses_l (prune_l a) x or uses_l (prune_l b) x or false} (simp (d, e, m))
      (λ x. ap (λ (z : Twig). uses_t z x) (stays_prune n k t w a b c g) ∙ other_uses n k t w (prune_l a) (prune_l b) (prune_l c) d x
      ∙ ap (λ (z : Bool). uses_l (prune_l a) x or uses_l (prune_l b) x or z) (held_uses c h.1 x))
      (stays_names n k t w a b c g ∙ (λ i. names_l a ++ (names_l b ++ (held_names c h.1 i ++ n ∷ []))))
      (record {
        long = d₁.long ∙ lb ∙ sym l;
        marked = λ x i j.
            d₁.marked x (omega arith) j
            ∙ ap (λ (z : Bool). z or uses_l (prune_l a) x) (others x i j ∙ ap (λ (z : Bool). z or uses_l (prune_l b) x) (or_false (is_marked u x)))
            ∙ or_joined (is_marked u x) (uses_l (prune_l a) x) (uses_l (prune_l b) x) false;
        named = λ i. d₁.named i ++ ((db v lv).named i ++ n ∷ []);
      })

  gone_did : eqb k 16 ≡ false → eqb k 5 ≡ true → uses_l (prune_l b) n ≡ false → Goal
  unfolding sweep_t swept_as swept_let
  gone_did d e y =
      let h = here.body (eqb-true k 5 e) in
      let g : goes_by n k (prune_l b) ≡ true = a_let n k t w a b c e ∙ ap not y in
      let m : is_marked B.marks n ≡ false = own_mark ∙ y in
      did_as (simp (d, e, m)) (goes_uses n k t w a b c g h.0) (goes_names n k t w a b c g)
      (record {
        long = (db v lv).long ∙ lv ∙ sym l;
        marked = others;
        named = ap (λ (z : List ℕ). z ++ gone_let n ∷ []) (db v lv).named;
      })

  kind_did : Goal
  kind_did = go (eqb k 16) refl (eqb k 5) refl (uses_l (prune_l b) n) refl
    where
      go : (x : Bool) → eqb k 16 ≡ x → (y : Bool) → eqb k 5 ≡ y → (z : Bool) → uses_l (prune_l b) n ≡ z → Goal
      go true d y e z f = variable_did d
      go false d false e z f = other_did d e
      go false d true e true f = kept_did d e f
      go false d true e false f = gone_did d e f

wider : {m m' : ℕ} {uses : ℕ → Bool} {names : List ℕ} {u : Marks} {s : Swept} → m ≤ m' → Did m uses names u s → Did m' uses names u s
wider h d = record { long = d.long; marked = λ x i. d.marked x (omega arith); named = d.named }

mutual
  unfolding sweep_t uses_t prune_t names_t top_t

  pub swept_right : (t : Twig) (p : Bytes) → From t p → (u : Marks) → length u ≡ 1008 → Did (1 + top_t t) (uses_t (prune_t t)) (names_t t) u (sweep_t t u)
  swept_right (twig n k t w a b c) p f u l =
      kind_did p n k t w a b c f.0 (λ v m. swept_limb a p n f.1 v m) (λ v m. swept_limb b p n f.2 v m) (λ v m. swept_limb c p n f.3 v m) u l

  swept_limb : (l : Limb) (p : Bytes) (n : ℕ) → FromL l p n → (u : Marks) → length u ≡ 1008 → Did n (uses_l (prune_l l)) (names_l l) u (sweep_l l u)
  swept_limb (holds x) p n f u l = did_nothing p n u
  swept_limb (child x t) p n f u l = wider (omega (arith, f.0, f.1)) (swept_right t p f.2 u l)
