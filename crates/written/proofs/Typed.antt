-- The type byte at each place of a table that holds a tree is that of the old node; so variables and cases find the type that they carry.
-- Assumes nothing.
use mathlib.Core.Path.{◌≡◌, refl, sym, ap, ◌∙◌}
use mathlib.Core.List.{List, [], ◌∷◌, ◌++◌}
use Prim.Native.Nat.{ℕ, zero, suc, ◌+◌, ◌<◌, ◌≤◌}
use native.Mathlib.Omega.{arith}
use lib.ListN.{length}
use Rattle.rules.specs.Bytes.{Bytes}
use Rattle.rules.specs.Layout.{type_at}
use Rattle.rules.specs.Size.{size_e, size_s, size_b, size_c}
use Rattle.rules.specs.Tree.{Expr, variable, constant, operation, negation, choice, just, taking, Signal, input, time, ext, delay, let_signal, switch, group, until, Branches, no_branch, branch, Cases, no_case, case}
use Rattle.written.specs.Parts.{Part, part, Slot, holds, child, size_p, size_k, row_p}
use Rattle.written.specs.Order.{order_e, order_s, order_b, order_c}
use Rattle.written.specs.Written.{part_e, part_s, slot_b, slot_c}
use Rattle.written.specs.Right.{HoldsP, HoldsK, TypesE, TypesS, TypesB, TypesC, KnowsE, KnowsS, KnowsB, KnowsC, EachE, EachS, EachB, EachC}
use Rattle.written.proofs.ListLaws.{app_length}
use Rattle.written.proofs.Parted.{part_e_size, part_s_size, slot_b_size, slot_c_size}
use Rattle.written.proofs.Places.{order_e_length, order_s_length, order_b_length, order_c_length, Along, along_none, along_one, along_app}

module _ (q : Bytes) (φ τ : ℕ → ℕ) where
  unfoldable pub Typed : ℕ → ℕ → Type 0
  Typed i n = type_at q i ≡ τ n

  own : (i j n t : ℕ) → i ≡ j → t ≡ type_at q i → τ n ≡ t → Typed j n
  unfolding Typed
  own i j n t e f g = ap (type_at q) (sym e) ∙ sym f ∙ sym g

  -- A node over one, two and three parts.
  leaf : (lo n t : ℕ) → t ≡ type_at q (lo + 0) → τ n ≡ t → Along Typed lo (n ∷ [])
  leaf lo n t e f = along_one Typed lo n (own (lo + 0) lo n t (omega arith) e f)

  over1 : (lo a n t : ℕ) (xs : List ℕ) → length xs ≡ a → Along Typed lo xs → t ≡ type_at q (lo + (a + 0 + 0)) → τ n ≡ t → Along Typed lo (xs ++ n ∷ [])
  over1 lo a n t xs e h f g = along_app Typed lo a xs (n ∷ []) e h (along_one Typed (lo + a) n (own (lo + (a + 0 + 0)) (lo + a) n t (omega arith) f g))

  over2 : (lo a b n t : ℕ) (xs ys : List ℕ) → length xs ≡ a → length ys ≡ b → Along Typed lo xs → Along Typed (lo + a) ys
      → t ≡ type_at q (lo + (a + b + 0)) → τ n ≡ t → Along Typed lo (xs ++ ys ++ n ∷ [])
  over2 lo a b n t xs ys e e' h h' f g =
      along_app Typed lo (a + b) (xs ++ ys) (n ∷ []) (omega (arith, app_length xs ys)) (along_app Typed lo a xs ys e h h')
      (along_one Typed (lo + (a + b)) n (own (lo + (a + b + 0)) (lo + (a + b)) n t (omega arith) f g))

  over3 : (lo a b c n t : ℕ) (xs ys zs : List ℕ) → length xs ≡ a → length ys ≡ b → length zs ≡ c
      → Along Typed lo xs → Along Typed (lo + a) ys → Along Typed (lo + a + b) zs
      → t ≡ type_at q (lo + (a + b + c)) → τ n ≡ t → Along Typed lo (xs ++ ys ++ zs ++ n ∷ [])
  over3 lo a b c n t xs ys zs e e' e'' h h' h'' f g =
      let l = app_length xs ys in
      along_app Typed lo (a + b + c) (xs ++ ys ++ zs) (n ∷ []) (omega (arith, app_length (xs ++ ys) zs))
      (along_app Typed lo (a + b) (xs ++ ys) zs (omega arith) (along_app Typed lo a xs ys e h h') (let z : lo + (a + b) ≡ lo + a + b = omega arith in rw z h''))
      (along_one Typed (lo + (a + b + c)) n (own (lo + (a + b + c)) (lo + (a + b + c)) n t refl f g))

  len_e : (e : Expr) → length (order_e e) ≡ size_p (part_e φ e)
  len_e e = order_e_length e ∙ sym (part_e_size φ e)

  len_s : (s : Signal) → length (order_s s) ≡ size_p (part_s s φ)
  len_s s = order_s_length s ∙ sym (part_s_size s φ)

  len_b : (s : Branches) → length (order_b s) ≡ size_k (slot_b s φ)
  len_b s = order_b_length s ∙ sym (slot_b_size s φ)

  len_c : (s : Cases) → length (order_c s) ≡ size_k (slot_c s φ)
  len_c s = order_c_length s ∙ sym (slot_c_size s φ)

  pub typed_e : (e : Expr) (lo : ℕ) → HoldsP (part_e φ e) q lo → TypesE τ e → Along Typed lo (order_e e)
  unfolding part_e row_p order_e size_p
  typed_e (variable n b t) lo h g = leaf lo n 0 h.3.type_is g
  typed_e (constant n v) lo h g = leaf lo n _ h.3.type_is g
  typed_e (operation n k x y) lo h g =
      over2 lo _ _ n 0 (order_e x) (order_e y) (len_e x) (len_e y) (typed_e x lo h.0 g.1) (typed_e y _ h.1 g.2) h.3.type_is g.0
  typed_e (negation n x) lo h g = over1 lo _ n 0 (order_e x) (len_e x) (typed_e x lo h.0 g.1) h.3.type_is g.0
  typed_e (choice n x y z) lo h g =
      over3 lo _ _ _ n 0 (order_e x) (order_e y) (order_e z) (len_e x) (len_e y) (len_e z)
      (typed_e x lo h.0 g.1) (typed_e y _ h.1 g.2) (typed_e z _ h.2 g.3) h.3.type_is g.0
  typed_e (just n x) lo h g = over1 lo _ n 0 (order_e x) (len_e x) (typed_e x lo h.0 g.1) h.3.type_is g.0
  typed_e (taking n t x y z) lo h g =
      over3 lo _ _ _ n t (order_e x) (order_e y) (order_e z) (len_e x) (len_e y) (len_e z)
      (typed_e x lo h.0 g.1) (typed_e y _ h.1 g.2) (typed_e z _ h.2 g.3) h.3.type_is g.0

  nothing : (lo : ℕ) → Along Typed lo []
  nothing lo = along_none Typed lo

  mutual
    unfolding part_s row_p order_s size_p

    pub typed_s : (s : Signal) (lo : ℕ) → HoldsP (part_s s φ) q lo → TypesS s τ → Along Typed lo (order_s s)
    typed_s (input n c) lo h g = leaf lo n 0 h.3.type_is g
    typed_s (time n) lo h g = leaf lo n 0 h.3.type_is g
    typed_s (ext n e) lo h g = over1 lo _ n 0 (order_e e) (len_e e) (typed_e e lo h.0 g.1) h.3.type_is g.0
    typed_s (delay n k v s) lo h g = over1 lo _ n _ (order_s s) (len_s s) (typed_s s lo h.0 g.1) h.3.type_is g.0
    typed_s (let_signal n t x y) lo h g =
        over2 lo _ _ n t (order_s x) (order_s y) (len_s x) (len_s y) (typed_s x lo h.0 g.1) (typed_s y (lo + size_p (part_s x φ)) h.1 g.2) h.3.type_is g.0
    typed_s (switch n k t x y z) lo h g =
        over3 lo _ _ _ n t (order_s x) (order_s y) (order_s z) (len_s x) (len_s y) (len_s z)
        (typed_s x lo h.0 g.1) (typed_s y (lo + size_p (part_s x φ)) h.1 g.2) (typed_s z (lo + size_p (part_s x φ) + size_p (part_s y φ)) h.2 g.3) h.3.type_is g.0
    typed_s (group n k x brs) lo h g =
        over2 lo _ _ n 0 (order_s x) (order_b brs) (len_s x) (len_b brs) (typed_s x lo h.0 g.1) (typed_b brs (lo + size_p (part_s x φ)) h.1 g.2) h.3.type_is g.0
    typed_s (until n x cs) lo h g =
        over2 lo _ _ n 0 (order_s x) (order_c cs) (len_s x) (len_c cs) (typed_s x lo h.0 g.1) (typed_c cs (lo + size_p (part_s x φ)) h.1 g.2) h.3.type_is g.0

    pub typed_b : (brs : Branches) (lo : ℕ) → HoldsK (slot_b brs φ) q lo → TypesB brs τ → Along Typed lo (order_b brs)
    typed_b no_branch lo h g = nothing lo
    typed_b (branch n t x brs) lo h g =
        over2 lo _ _ n t (order_s x) (order_b brs) (len_s x) (len_b brs) (typed_s x lo h.0 g.1) (typed_b brs (lo + size_p (part_s x φ)) h.1 g.2) h.3.type_is g.0

    pub typed_c : (cs : Cases) (lo : ℕ) → HoldsK (slot_c cs φ) q lo → TypesC cs τ → Along Typed lo (order_c cs)
    typed_c no_case lo h g = nothing lo
    typed_c (case n x target t cs) lo h g =
        over2 lo _ _ n 0 (order_s x) (order_c cs) (len_s x) (len_c cs) (typed_s x lo h.0 g.1) (typed_c cs (lo + size_p (part_s x φ)) h.1 g.2) h.3.type_is g.0

-- What is known of the old numbers is known of the new ones.
pub each_knows_e : (τ τ' : ℕ → ℕ) (e : Expr) → EachE (λ b. τ' b ≡ τ b) e → KnowsE τ e → KnowsE τ' e
each_knows_e τ τ' (variable n b t) h k = h ∙ k
each_knows_e τ τ' (constant n v) h k = tt
each_knows_e τ τ' (operation n o x y) h k = (each_knows_e τ τ' x h.0 k.0, each_knows_e τ τ' y h.1 k.1)
each_knows_e τ τ' (negation n x) h k = each_knows_e τ τ' x h k
each_knows_e τ τ' (choice n x y z) h k = (each_knows_e τ τ' x h.0 k.0, each_knows_e τ τ' y h.1 k.1, each_knows_e τ τ' z h.2 k.2)
each_knows_e τ τ' (just n x) h k = each_knows_e τ τ' x h k
each_knows_e τ τ' (taking n t x y z) h k = (each_knows_e τ τ' x h.0 k.0, each_knows_e τ τ' y h.1 k.1, each_knows_e τ τ' z h.2 k.2)

module _ (τ τ' : ℕ → ℕ) where
  mutual
    pub each_knows : (s : Signal) → EachS s (λ b. τ' b ≡ τ b) → KnowsS s τ → KnowsS s τ'
    each_knows (input n c) h k = tt
    each_knows (time n) h k = tt
    each_knows (ext n e) h k = each_knows_e τ τ' e h k
    each_knows (delay n c v s) h k = each_knows s h k
    each_knows (let_signal n t x y) h k = (each_knows x h.0 k.0, each_knows y h.1 k.1)
    each_knows (switch n c t x y z) h k = (each_knows x h.0 k.0, each_knows y h.1 k.1, each_knows z h.2 k.2)
    each_knows (group n c x brs) h k = (each_knows x h.0 k.0, each_knows_b brs h.1 k.1)
    each_knows (until n x cs) h k = (each_knows x h.0 k.0, each_knows_c cs h.1 k.1)

    pub each_knows_b : (s : Branches) → EachB s (λ b. τ' b ≡ τ b) → KnowsB s τ → KnowsB s τ'
    each_knows_b no_branch h k = tt
    each_knows_b (branch n t x brs) h k = (each_knows x h.0 k.0, each_knows_b brs h.1 k.1)

    pub each_knows_c : (s : Cases) → EachC s (λ b. τ' b ≡ τ b) → KnowsC s τ → KnowsC s τ'
    each_knows_c no_case h k = tt
    each_knows_c (case n x target t cs) h k = (h.0 ∙ k.0, each_knows x h.1 k.1, each_knows_c cs h.2 k.2)

-- A property that follows.
module _ (P Q : ℕ → Type 0) (f : (b : ℕ) → P b → Q b) where
  pub each_map_e : (e : Expr) → EachE P e → EachE Q e
  each_map_e (variable n b t) h = f b h
  each_map_e (constant n v) h = tt
  each_map_e (operation n o x y) h = (each_map_e x h.0, each_map_e y h.1)
  each_map_e (negation n x) h = each_map_e x h
  each_map_e (choice n x y z) h = (each_map_e x h.0, each_map_e y h.1, each_map_e z h.2)
  each_map_e (just n x) h = each_map_e x h
  each_map_e (taking n t x y z) h = (each_map_e x h.0, each_map_e y h.1, each_map_e z h.2)

  mutual
    pub each_map : (s : Signal) → EachS s P → EachS s Q
    each_map (input n c) h = tt
    each_map (time n) h = tt
    each_map (ext n e) h = each_map_e e h
    each_map (delay n c v s) h = each_map s h
    each_map (let_signal n t x y) h = (each_map x h.0, each_map y h.1)
    each_map (switch n c t x y z) h = (each_map x h.0, each_map y h.1, each_map z h.2)
    each_map (group n c x brs) h = (each_map x h.0, each_map_b brs h.1)
    each_map (until n x cs) h = (each_map x h.0, each_map_c cs h.1)

    pub each_map_b : (s : Branches) → EachB s P → EachB s Q
    each_map_b no_branch h = tt
    each_map_b (branch n t x brs) h = (each_map x h.0, each_map_b brs h.1)

    pub each_map_c : (s : Cases) → EachC s P → EachC s Q
    each_map_c no_case h = tt
    each_map_c (case n x target t cs) h = (f target h.0, each_map x h.1, each_map_c cs h.2)
