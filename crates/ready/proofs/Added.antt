-- What a pass finds with one let more in the set: that let, if it is needed at once, or what it found without.
-- With no let in the set it finds the lets that are not ready.
-- Assumes nothing.
use Rattle.std.specs.Prelude.{None}
use mathlib.Core.Path.{◌≡◌, refl, ap, ◌∙◌, fun_ext}
use mathlib.Core.Bool.{Bool, true, false}
use Prim.Native.Nat.{ℕ}
use lib.Dec.{eqb}
use borrow.Author.Tests.{eqb-true}
use Rattle.rules.specs.Bytes.{◌or◌}
use Rattle.rules.specs.Places.{sooner, wrong_if}
use Rattle.rules.specs.Tree.{Expr, variable, constant, operation, negation, choice, just, taking, Signal, input, time, ext, delay, let_signal, switch, group, until, Branches, no_branch, branch}
use Rattle.rules.specs.Ready.{needs_e, needs_s, needs_b, ready_s, ready_b, ready_c}
use Rattle.ready.specs.Found.{Lets, no_let, adding, found_e, found_s, found_b}
use Rattle.ready.proofs.Smallest.{each, grouped, ahead, either_wrong, joined, joined_three}

or_ahead : (s t u : Bool) → (s or (t or u)) ≡ (t or (s or u))
unfolding ◌or◌
or_ahead true true u = refl
or_ahead true false u = refl
or_ahead false t u = refl

-- Two lets are added in any order.
any_order : (m n : ℕ) (M : Lets) → adding m (adding n M) ≡ adding n (adding m M)
unfolding adding
any_order m n M = fun_ext λ x. or_ahead (eqb x m) (eqb x n) (M x)

own : (s t : Bool) (b n : ℕ) → (s ≡ true → b ≡ n) → wrong_if (s or t) b ≡ sooner (wrong_if s n) (wrong_if t b)
unfolding wrong_if sooner ◌or◌
own true t b n h = either_wrong true t b ∙ each {s = wrong_if t b} (ap (wrong_if true) (h refl)) refl
own false t b n h = refl

pub added_e : (n : ℕ) (M : Lets) (e : Expr) → found_e (adding n M) e ≡ sooner (wrong_if (needs_e n e) n) (found_e M e)
unfolding found_e needs_e adding sooner wrong_if
added_e n M (variable m b t) = own (eqb b n) (M b) b n (eqb-true b n)
added_e n M (constant m v) = refl
added_e n M (operation m k e f) = each (added_e n M e) (added_e n M f) ∙ joined (needs_e n e) (needs_e n f) n (found_e M e) (found_e M f)
added_e n M (negation m e) = added_e n M e
added_e n M (choice m t e f) =
    each (added_e n M t) (each (added_e n M e) (added_e n M f))
    ∙ joined_three (needs_e n t) (needs_e n e) (needs_e n f) n (found_e M t) (found_e M e) (found_e M f)
added_e n M (just m e) = added_e n M e
added_e n M (taking m t k e f) =
    each (added_e n M k) (each (added_e n M e) (added_e n M f))
    ∙ joined_three (needs_e n k) (needs_e n e) (needs_e n f) n (found_e M k) (found_e M e) (found_e M f)

mutual
  unfolding found_s needs_s sooner wrong_if

  pub added_s : (n : ℕ) (M : Lets) (s : Signal) → found_s (adding n M) s ≡ sooner (wrong_if (needs_s n s) n) (found_s M s)
  added_s n M (input m c) = refl
  added_s n M (time m) = refl
  added_s n M (ext m e) = added_e n M e
  added_s n M (delay m k v s) = refl
  added_s n M (let_signal m t d b) =
      each (ap (λ (N : Lets). found_s N d) (any_order m n M) ∙ added_s n (adding m M) d) (added_s n M b)
      ∙ joined (needs_s n d) (needs_s n b) n (found_s (adding m M) d) (found_s M b)
  added_s n M (switch m k t x e y) =
      each (added_s n M x) (each {q = ready_s e} refl (added_s n M y) ∙ ahead (ready_s e) (wrong_if (needs_s n y) n) (found_s M y))
      ∙ joined (needs_s n x) (needs_s n y) n (found_s M x) (sooner (ready_s e) (found_s M y))
  added_s n M (group m k body brs) = each (added_s n M body) (added_b n M brs) ∙ joined (needs_s n body) (needs_b n brs) n (found_s M body) (found_b M brs)
  added_s n M (until m s cs) = each {s = ready_c cs} (added_s n M s) refl ∙ grouped (wrong_if (needs_s n s) n) (found_s M s) (ready_c cs)

  pub added_b : (n : ℕ) (M : Lets) (b : Branches) → found_b (adding n M) b ≡ sooner (wrong_if (needs_b n b) n) (found_b M b)
  added_b n M no_branch = refl
  added_b n M (branch m t body next) = each (added_s n M body) (added_b n M next) ∙ joined (needs_s n body) (needs_b n next) n (found_s M body) (found_b M next)

none_e : (e : Expr) → found_e no_let e ≡ None
unfolding found_e no_let sooner wrong_if
none_e (variable m b t) = refl
none_e (constant m v) = refl
none_e (operation m k e f) = each (none_e e) (none_e f)
none_e (negation m e) = none_e e
none_e (choice m t e f) = each (none_e t) (each (none_e e) (none_e f))
none_e (just m e) = none_e e
none_e (taking m t k e f) = each (none_e k) (each (none_e e) (none_e f))

mutual
  unfolding found_s ready_s

  pub none_s : (s : Signal) → found_s no_let s ≡ ready_s s
  none_s (input m c) = refl
  none_s (time m) = refl
  none_s (ext m e) = none_e e
  none_s (delay m k v s) = refl
  none_s (let_signal m t d b) =
      each (added_s m no_let d ∙ each refl (none_s d)) (none_s b)
      ∙ grouped (wrong_if (needs_s m d) m) (ready_s d) (ready_s b)
  none_s (switch m k t x e y) = each (none_s x) (each refl (none_s y))
  none_s (group m k body brs) = each (none_s body) (none_b brs)
  none_s (until m s cs) = each (none_s s) refl

  none_b : (b : Branches) → found_b no_let b ≡ ready_b b
  none_b no_branch = refl
  none_b (branch m t body next) = each (none_s body) (none_b next)
