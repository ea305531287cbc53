-- A tidied program tidied again is the same, byte for byte.
-- Assumes nothing.
use Rattle.std.specs.Prelude.{if◌then◌else◌}
use mathlib.Core.Path.{◌≡◌, refl, sym, ap, ◌∙◌}
use mathlib.Core.List.{List, [], ◌∷◌, ◌++◌}
use mathlib.Core.Bool.{Bool, true, false}
use Prim.Native.Nat.{ℕ, ◌+◌, ◌<◌, ◌≤◌}
use native.Mathlib.Omega.{arith}
use lib.Dec.{eqb}
use lib.ListN.{length}
use borrow.Author.Tests.{eqb-true, eq-eqb}
use Rattle.rules.specs.Bytes.{Bytes, ◌or◌}
use Rattle.rules.specs.Layout.{type_at, cells_before, edition}
use Rattle.rules.specs.Size.{size_e, size_s, size_b, size_c}
use Rattle.rules.specs.Accepted.{Accepted}
use Rattle.rules.specs.Tree.{Expr, variable, constant, operation, negation, choice, just, taking, Signal, input, time, ext, delay, let_signal, switch, group, until, Branches, no_branch, branch, Cases, no_case, case, root}
use Rattle.promises.specs.Small.{Small}
use Rattle.dropped.specs.Uses.{uses_e, uses_s, uses_b, uses_c}
use Rattle.dropped.specs.Tidy.{let_over, tidy_s, tidy_b, tidy_c}
use Rattle.dropped.proofs.OnePass.{or_join}
use Rattle.written.specs.Order.{order_e, order_s, order_b, order_c, In}
use Rattle.written.specs.Written.{placed_e, placed_s, placed_b, placed_c, new_number, written, renamed}
use Rattle.written.specs.Right.{Sound}
use Rattle.written.proofs.ListLaws.{app_length}
use Rattle.written.proofs.Places.{entry, entry_in, Along, along_left, along_right, along_is, order_s_length, order_b_length, order_c_length}
use Rattle.written.proofs.Sounded.{new_number_lem, sound_root}
use Rattle.written.proofs.Again.{renamed_written}
use Rattle.rewritten.specs.Rewritten.{tidied}
use Rattle.rewritten.proofs.Whole.{written_injective}
use Rattle.rewritten.proofs.StillSound.{over}
use Rattle.rewritten.proofs.AsTidied.{tidied_sound, tidied_edition, once}

-- Every let's body names its variable.
abbrev mutual
  KeptS : Signal → Type 0
  KeptS (input n c) = Unit {0}
  KeptS (time n) = Unit {0}
  KeptS (ext n e) = Unit {0}
  KeptS (delay n k v s) = KeptS s
  KeptS (let_signal n t d b) = (uses_s n b ≡ true) × KeptS d × KeptS b
  KeptS (switch n k t x e y) = KeptS x × KeptS e × KeptS y
  KeptS (group n k body brs) = KeptS body × KeptB brs
  KeptS (until n s cs) = KeptS s × KeptC cs

  KeptB : Branches → Type 0
  KeptB no_branch = Unit {0}
  KeptB (branch n t body next) = KeptS body × KeptB next

  KeptC : Cases → Type 0
  KeptC no_case = Unit {0}
  KeptC (case n event target t next) = KeptS event × KeptC next

mutual
  unfolding tidy_s

  tidy_kept : (s : Signal) → KeptS (tidy_s s)
  tidy_kept (input n c) = tt
  tidy_kept (time n) = tt
  tidy_kept (ext n e) = tt
  tidy_kept (delay n k v s) = tidy_kept s
  tidy_kept (let_signal n t d b) =
      let x = tidy_kept d in
      let y = tidy_kept b in
      over KeptS n t (tidy_s d) (tidy_s b) (λ e. (e, x, y)) (λ e. y)
  tidy_kept (switch n k t x e y) = (tidy_kept x, tidy_kept e, tidy_kept y)
  tidy_kept (group n k body brs) = (tidy_kept body, tidy_kept_b brs)
  tidy_kept (until n s cs) = (tidy_kept s, tidy_kept_c cs)

  tidy_kept_b : (s : Branches) → KeptB (tidy_b s)
  tidy_kept_b no_branch = tt
  tidy_kept_b (branch n t body next) = (tidy_kept body, tidy_kept_b next)

  tidy_kept_c : (s : Cases) → KeptC (tidy_c s)
  tidy_kept_c no_case = tt
  tidy_kept_c (case n event target t next) = (tidy_kept event, tidy_kept_c next)

module _ (κ φ : ℕ → ℕ) where
  -- What a tree names, the placed tree names by its new number.
  placed_uses_e : (x : ℕ) (e : Expr) (lo : ℕ) → uses_e x e ≡ true → uses_e (φ x) (placed_e φ e lo) ≡ true
  unfolding uses_e placed_e
  placed_uses_e x (variable n b t) lo h = eq-eqb (φ b) (φ x) (ap φ (eqb-true b x h))
  placed_uses_e x (constant n v) lo h = h
  placed_uses_e x (operation n k u v) lo h = or_join _ _ _ _ (λ z. placed_uses_e x u lo z) (λ z. placed_uses_e x v (lo + size_e u) z) h
  placed_uses_e x (negation n u) lo h = placed_uses_e x u lo h
  placed_uses_e x (choice n u v w) lo h =
      or_join _ _ _ _ (λ y. or_join _ _ _ _ (λ z. placed_uses_e x u lo z) (λ z. placed_uses_e x v (lo + size_e u) z) y) (λ z. placed_uses_e x w (lo + size_e u + size_e v) z) h
  placed_uses_e x (just n u) lo h = placed_uses_e x u lo h
  placed_uses_e x (taking n t u v w) lo h =
      or_join _ _ _ _ (λ y. or_join _ _ _ _ (λ z. placed_uses_e x u lo z) (λ z. placed_uses_e x v (lo + size_e u) z) y) (λ z. placed_uses_e x w (lo + size_e u + size_e v) z) h

  mutual
    unfolding uses_s placed_s

    placed_uses : (s : Signal) (x lo : ℕ) → uses_s x s ≡ true → uses_s (φ x) (placed_s s κ φ lo) ≡ true
    placed_uses (input n c) x lo h = h
    placed_uses (time n) x lo h = h
    placed_uses (ext n e) x lo h = placed_uses_e x e lo h
    placed_uses (delay n k v s) x lo h = placed_uses s x lo h
    placed_uses (let_signal n t u v) x lo h = or_join _ _ _ _ (λ z. placed_uses u x lo z) (λ z. placed_uses v x (lo + size_s u) z) h
    placed_uses (switch n k t u v w) x lo h =
        or_join _ _ _ _ (λ y. or_join _ _ _ _ (λ z. placed_uses u x lo z) (λ z. placed_uses v x (lo + size_s u) z) y) (λ z. placed_uses w x (lo + size_s u + size_s v) z) h
    placed_uses (group n k u brs) x lo h = or_join _ _ _ _ (λ z. placed_uses u x lo z) (λ z. placed_uses_b brs x (lo + size_s u) z) h
    placed_uses (until n u cs) x lo h = or_join _ _ _ _ (λ z. placed_uses u x lo z) (λ z. placed_uses_c cs x (lo + size_s u) z) h

    placed_uses_b : (s : Branches) (x lo : ℕ) → uses_b x s ≡ true → uses_b (φ x) (placed_b s κ φ lo) ≡ true
    placed_uses_b no_branch x lo h = h
    placed_uses_b (branch n t u brs) x lo h = or_join _ _ _ _ (λ z. placed_uses u x lo z) (λ z. placed_uses_b brs x (lo + size_s u) z) h

    placed_uses_c : (s : Cases) (x lo : ℕ) → uses_c x s ≡ true → uses_c (φ x) (placed_c s κ φ lo) ≡ true
    placed_uses_c no_case x lo h = h
    placed_uses_c (case n u target t cs) x lo h = or_join _ _ _ _ (λ z. placed_uses u x lo z) (λ z. placed_uses_c cs x (lo + size_s u) z) h

  -- Each node's new number is its place.
  abbrev New : ℕ → ℕ → Type 0
  New i n = φ n ≡ i

  own : (lo a b n : ℕ) (xs ys : List ℕ) → length xs ≡ a → length ys ≡ b → Along New lo (xs ++ ys ++ n ∷ []) → φ n ≡ lo + (a + b)
  own lo a b n xs ys e f h = along_is New (lo + (a + b)) n (along_right New lo (a + b) (xs ++ ys) (n ∷ []) (omega (arith, app_length xs ys)) h)

  fst : (lo n : ℕ) (xs ys : List ℕ) → Along New lo (xs ++ ys ++ n ∷ []) → Along New lo xs
  fst lo n xs ys h = along_left New lo xs ys (along_left New lo (xs ++ ys) (n ∷ []) h)

  snd : (lo a n : ℕ) (xs ys : List ℕ) → length xs ≡ a → Along New lo (xs ++ ys ++ n ∷ []) → Along New (lo + a) ys
  snd lo a n xs ys e h = along_right New lo a xs ys e (along_left New lo (xs ++ ys) (n ∷ []) h)

  kept_let : (n t : ℕ) (d b d' b' : Signal) → uses_s n b ≡ true → d ≡ d' → b ≡ b' → let_over n t d b ≡ let_signal n t d' b'
  unfolding let_over
  kept_let n t d b d' b' u e f = rw u (λ i. let_signal n t (e i) (f i))

  mutual
    unfolding tidy_s placed_s order_s

    placed_tidy : (s : Signal) (lo : ℕ) → KeptS s → Along New lo (order_s s) → tidy_s (placed_s s κ φ lo) ≡ placed_s s κ φ lo
    placed_tidy (input n c) lo k h = refl
    placed_tidy (time n) lo k h = refl
    placed_tidy (ext n e) lo k h = refl
    placed_tidy (delay n c v s) lo k h = ap (delay (lo + size_s s) (κ (lo + size_s s)) v) (placed_tidy s lo k (along_left New lo (order_s s) (n ∷ []) h))
    placed_tidy (let_signal n t x y) lo k h =
        let ex = placed_tidy x lo k.1 (fst lo n (order_s x) (order_s y) h) in
        let ey = placed_tidy y (lo + size_s x) k.2 (snd lo _ n (order_s x) (order_s y) (order_s_length x) h) in
        let m = own lo _ _ n (order_s x) (order_s y) (order_s_length x) (order_s_length y) h in
        kept_let (lo + (size_s x + size_s y)) t (tidy_s (placed_s x κ φ lo)) (tidy_s (placed_s y κ φ (lo + size_s x))) (placed_s x κ φ lo) (placed_s y κ φ (lo + size_s x))
        ((λ i. uses_s (sym m i) (ey i)) ∙ placed_uses y n (lo + size_s x) k.0) ex ey
    placed_tidy (switch n c t x y z) lo k h =
        let g = along_left New lo (order_s x ++ order_s y ++ order_s z) (n ∷ []) h in
        let g₂ = along_left New lo (order_s x ++ order_s y) (order_s z) g in
        let ex = placed_tidy x lo k.0 (along_left New lo (order_s x) (order_s y) g₂) in
        let ey = placed_tidy y (lo + size_s x) k.1 (along_right New lo (size_s x) (order_s x) (order_s y) (order_s_length x) g₂) in
        let w : lo + size_s x + size_s y ≡ lo + (size_s x + size_s y) = omega arith in
        let ez = placed_tidy z (lo + size_s x + size_s y) k.2
        (rw w (along_right New lo (size_s x + size_s y) (order_s x ++ order_s y) (order_s z) (omega (arith, app_length (order_s x) (order_s y), order_s_length x, order_s_length y)) g)) in
        λ i. switch (lo + (size_s x + size_s y + size_s z)) (κ (lo + (size_s x + size_s y + size_s z))) t (ex i) (ey i) (ez i)
    placed_tidy (group n c x brs) lo k h =
        let ex = placed_tidy x lo k.0 (fst lo n (order_s x) (order_b brs) h) in
        let ey = placed_tidy_b brs (lo + size_s x) k.1 (snd lo _ n (order_s x) (order_b brs) (order_s_length x) h) in
        λ i. group (lo + (size_s x + size_b brs)) (κ (lo + (size_s x + size_b brs))) (ex i) (ey i)
    placed_tidy (until n x cs) lo k h =
        let ex = placed_tidy x lo k.0 (fst lo n (order_s x) (order_c cs) h) in
        let ey = placed_tidy_c cs (lo + size_s x) k.1 (snd lo _ n (order_s x) (order_c cs) (order_s_length x) h) in
        λ i. until (lo + (size_s x + size_c cs)) (ex i) (ey i)

    placed_tidy_b : (s : Branches) (lo : ℕ) → KeptB s → Along New lo (order_b s) → tidy_b (placed_b s κ φ lo) ≡ placed_b s κ φ lo
    placed_tidy_b no_branch lo k h = refl
    placed_tidy_b (branch n t x brs) lo k h =
        let ex = placed_tidy x lo k.0 (fst lo n (order_s x) (order_b brs) h) in
        let ey = placed_tidy_b brs (lo + size_s x) k.1 (snd lo _ n (order_s x) (order_b brs) (order_s_length x) h) in
        λ i. branch (lo + (size_s x + size_b brs)) t (ex i) (ey i)

    placed_tidy_c : (s : Cases) (lo : ℕ) → KeptC s → Along New lo (order_c s) → tidy_c (placed_c s κ φ lo) ≡ placed_c s κ φ lo
    placed_tidy_c no_case lo k h = refl
    placed_tidy_c (case n x target t cs) lo k h =
        let ex = placed_tidy x lo k.0 (fst lo n (order_s x) (order_c cs) h) in
        let ey = placed_tidy_c cs (lo + size_s x) k.1 (snd lo _ n (order_s x) (order_c cs) (order_s_length x) h) in
        λ i. case (lo + (size_s x + size_c cs)) (ex i) (φ target) t (ey i)

module _ (p : Bytes) (small : Small p) (a : Accepted p) where
  new_place : Along (New (λ x. x) (new_number (tidy_s (root p)))) 0 (order_s (tidy_s (root p)))
  unfolding Along
  new_place i h =
      let s = tidied_sound p small a in
      let n = new_number_lem (type_at p) (tidy_s (root p)) s (entry (order_s (tidy_s (root p))) i) (entry_in (order_s (tidy_s (root p))) i h) in
      written_injective (type_at p) (tidy_s (root p)) s (once p small a) _ i n.0 (omega (arith, order_s_length (tidy_s (root p)))) n.1
      ∙ (let z : i ≡ 0 + i = omega arith in z)

  -- Its tree tidied again is that tree.
  pub tidied_tree : tidy_s (root (tidied p)) ≡ root (tidied p)
  unfolding tidied renamed
  tidied_tree =
      let s = tidied_sound p small a in
      let t = tidy_s (root p) in
      ap tidy_s (sound_root (type_at p) t s (edition p))
      ∙ placed_tidy (cells_before (written (edition p) t)) (new_number t) t 0 (tidy_kept (root p)) new_place
      ∙ sym (sound_root (type_at p) t s (edition p))

  pub tidied_again : tidied (tidied p) ≡ tidied p
  unfolding tidied renamed
  tidied_again =
      let s = tidied_sound p small a in
      let t = tidy_s (root p) in
      ap (λ (e : ℕ). written e (tidy_s (root (written (edition p) t)))) (tidied_edition p small a)
      ∙ ap (written (edition p)) (tidied_tree ∙ sound_root (type_at p) t s (edition p))
      ∙ renamed_written (type_at p) t s (edition p)
