-- A tree with lets dropped is typed and ready where the old one is.
-- Assumes nothing.
use Rattle.std.specs.Prelude.{if◌then◌else◌, Option, Some, None, ℕ}
use mathlib.Core.Path.{◌≡◌, refl, sym, ap, ◌∙◌}
use mathlib.Core.Bool.{Bool, true, false}
use Prim.Native.Nat.{ℕ}
use lib.Dec.{eqb}
use borrow.Author.Tests.{eqb-true, eq-eqb}
use native.Mathlib.Omega.{arith}
use Rattle.rules.specs.Bytes.{◌and◌, ◌or◌}
use Rattle.rules.specs.Values.{bool_t, maybe_of, is_plain, type_of}
use Rattle.rules.specs.Operations.{operand_type}
use Rattle.rules.specs.Places.{sooner, wrong_if, wrong_unless}
use Rattle.rules.specs.Tree.{Expr, Signal, Branches, Cases}
use Rattle.rules.specs.Typing.{just_type, type_e, type_s, types_e, types_s, types_b, types_c, bodies_have}
use Rattle.rules.specs.Ready.{needs_e, needs_s, needs_b, ready_s, ready_b, ready_c}
use Rattle.rules.proofs.Static.{both, kept, or_right}
use Rattle.dropped.specs.Less.{LessE, variables, constants, operations, negations, choices, justs, takings, LessS, inputs, times, exts, delays, lets, dropped, switches, groups, untils, LessB, no_branches, branches, LessC, no_cases, cases}
use Rattle.dropped.proofs.OnePass.{or_join, to_false}

-- The same types.
pub type_e_same : {π : ℕ → ℕ} {e e' : Expr} → LessE π e e' → type_e e' ≡ type_e e
unfolding type_e
type_e_same (variables a b) = refl
type_e_same (constants a) = refl
type_e_same (operations a x y) = refl
type_e_same (negations a x) = refl
type_e_same (choices a c x y) = type_e_same x
type_e_same (justs a x) = ap just_type (type_e_same x)
type_e_same (takings a m x y) = type_e_same x

pub type_s_same : {π : ℕ → ℕ} {s s' : Signal} → LessS π s s' → type_s s' ≡ type_s s
unfolding type_s
type_s_same (inputs a) = refl
type_s_same (times a) = refl
type_s_same (exts a e) = type_e_same e
type_s_same (delays a s) = type_s_same s
type_s_same (lets a d b) = type_s_same b
type_s_same (dropped b) = type_s_same b
type_s_same (switches a x e y) = type_s_same x
type_s_same (groups a b bs) = type_s_same b
type_s_same (untils a s cs) = type_s_same s

-- A rule that holds at another number too; two places that are nowhere.
moved : (t u : Bool) (n n' : ℕ) → u ≡ t → wrong_unless t n ≡ None → wrong_unless u n' ≡ None
unfolding wrong_unless
moved t u n n' e h = go t e h
  where
    go : (t : Bool) → u ≡ t → (if t then None else Some n) ≡ None → (if u then None else Some n') ≡ None
    go true z i = rw z refl
    go false z i = absurd (let w : ◌≡◌ {A = ℕ} 0 1 = cc in omega arith)

neither : {a b : Option ℕ} → a ≡ None → b ≡ None → sooner a b ≡ None
unfolding sooner
neither e f = rw (e, f) refl

types_e_still : {π : ℕ → ℕ} {e e' : Expr} → LessE π e e' → types_e e ≡ None → types_e e' ≡ None
unfolding types_e
types_e_still (variables a b) h = refl
types_e_still (constants a) h = refl
types_e_still (operations {n = n} {n' = n'} {k = k} a x y) h =
    let p = both _ _ h in
    let q = both _ _ p.1 in
    let tx = type_e_same x in
    let ty = type_e_same y in
    neither (moved _ _ n n' (λ i. eqb (tx i) (operand_type k) and eqb (ty i) (operand_type k)) p.0) (neither (types_e_still x q.0) (types_e_still y q.1))
types_e_still (negations {n = n} {n' = n'} a x) h =
    let p = both _ _ h in
    let tx = type_e_same x in
    neither (moved _ _ n n' (λ i. eqb (tx i) bool_t) p.0) (types_e_still x p.1)
types_e_still (choices {n = n} {n' = n'} a c x y) h =
    let p = both _ _ h in
    let q = both _ _ p.1 in
    let r = both _ _ q.1 in
    let tc = type_e_same c in
    let tx = type_e_same x in
    let ty = type_e_same y in
    neither (moved _ _ n n' (λ i. eqb (tc i) bool_t and eqb (tx i) (ty i)) p.0)
    (neither (types_e_still c q.0) (neither (types_e_still x r.0) (types_e_still y r.1)))
types_e_still (justs {n = n} {n' = n'} a x) h =
    let p = both _ _ h in
    let tx = type_e_same x in
    neither (moved _ _ n n' (λ i. is_plain (tx i)) p.0) (types_e_still x p.1)
types_e_still (takings {n = n} {n' = n'} {t = t} a m x y) h =
    let p = both _ _ h in
    let q = both _ _ p.1 in
    let r = both _ _ q.1 in
    let tm = type_e_same m in
    let tx = type_e_same x in
    let ty = type_e_same y in
    neither (moved _ _ n n' (λ i. eqb (tm i) (maybe_of t) and eqb (tx i) (ty i)) p.0)
    (neither (types_e_still m q.0) (neither (types_e_still x r.0) (types_e_still y r.1)))

bodies_same : {π : ℕ → ℕ} {s s' : Branches} (t t' : ℕ) → t' ≡ t → LessB π s s' → bodies_have t' s' ≡ bodies_have t s
unfolding bodies_have
bodies_same t t' e no_branches = refl
bodies_same t t' e (branches a b bs) =
    let tb = type_s_same b in
    let r = bodies_same t t' e bs in
    λ i. eqb (tb i) (e i) and r i

mutual
  unfolding types_s

  pub types_still : {π : ℕ → ℕ} {s s' : Signal} → LessS π s s' → types_s s ≡ None → types_s s' ≡ None
  types_still (inputs a) h = refl
  types_still (times a) h = refl
  types_still (exts a e) h = types_e_still e h
  types_still (delays {n = n} {n' = n'} {v = v} a s) h =
      let p = both _ _ h in
      let t = type_s_same s in
      neither (moved _ _ n n' (λ i. eqb (t i) (type_of v)) p.0) (types_still s p.1)
  types_still (lets {n = n} {n' = n'} {t = t} a d b) h =
      let p = both _ _ h in
      let q = both _ _ p.1 in
      let td = type_s_same d in
      neither (moved _ _ n n' (λ i. eqb (td i) t) p.0) (neither (types_still d q.0) (types_still b q.1))
  types_still (dropped b) h = types_still b (both _ _ (both _ _ h).1).1
  types_still (switches {n = n} {n' = n'} {t = t} a x e y) h =
      let p = both _ _ h in
      let q = both _ _ p.1 in
      let r = both _ _ q.1 in
      let tx = type_s_same x in
      let te = type_s_same e in
      let ty = type_s_same y in
      neither (moved _ _ n n' (λ i. eqb (te i) (maybe_of t) and eqb (tx i) (ty i)) p.0)
      (neither (types_still x q.0) (neither (types_still e r.0) (types_still y r.1)))
  types_still (groups {n = n} {n' = n'} a b bs) h =
      let p = both _ _ h in
      let q = both _ _ p.1 in
      neither (moved _ _ n n' (bodies_same _ _ (type_s_same b) bs) p.0) (neither (types_still b q.0) (types_b_still bs q.1))
  types_still (untils a s cs) h =
      let p = both _ _ h in
      neither (types_still s p.0) (types_c_still cs p.1)

  types_b_still : {π : ℕ → ℕ} {s s' : Branches} → LessB π s s' → types_b s ≡ None → types_b s' ≡ None
  types_b_still no_branches h = refl
  types_b_still (branches a b bs) h =
      let p = both _ _ h in
      neither (types_still b p.0) (types_b_still bs p.1)

  types_c_still : {π : ℕ → ℕ} {s s' : Cases} → LessC π s s' → types_c s ≡ None → types_c s' ≡ None
  types_c_still no_cases h = refl
  types_c_still (cases {n = n} {n' = n'} {t = t} a g e cs) h =
      let p = both _ _ h in
      let q = both _ _ p.1 in
      let te = type_s_same e in
      neither (moved _ _ n n' (λ i. eqb (te i) (maybe_of t)) p.0) (neither (types_still e q.0) (types_c_still cs q.1))

-- What the new tree needs at once, the old one needs.
needs_e_old : {π : ℕ → ℕ} {e e' : Expr} → LessE π e e' → (x : ℕ) → needs_e x e' ≡ true → needs_e (π x) e ≡ true
unfolding needs_e
needs_e_old {π} (variables {b = b} {b' = b'} a g) x h = eq-eqb b (π x) (g ∙ ap π (eqb-true b' x h))
needs_e_old (constants a) x h = h
needs_e_old (operations a e f) x h = or_join _ _ _ _ (λ z. needs_e_old e x z) (λ z. needs_e_old f x z) h
needs_e_old (negations a e) x h = needs_e_old e x h
needs_e_old (choices a c e f) x h = or_join _ _ _ _ (λ w. or_join _ _ _ _ (λ z. needs_e_old c x z) (λ z. needs_e_old e x z) w) (λ z. needs_e_old f x z) h
needs_e_old (justs a e) x h = needs_e_old e x h
needs_e_old (takings a c e f) x h = or_join _ _ _ _ (λ w. or_join _ _ _ _ (λ z. needs_e_old c x z) (λ z. needs_e_old e x z) w) (λ z. needs_e_old f x z) h

mutual
  unfolding needs_s

  needs_old : {π : ℕ → ℕ} {s s' : Signal} → LessS π s s' → (x : ℕ) → needs_s x s' ≡ true → needs_s (π x) s ≡ true
  needs_old (inputs a) x h = h
  needs_old (times a) x h = h
  needs_old (exts a e) x h = needs_e_old e x h
  needs_old (delays a s) x h = h
  needs_old (lets a d b) x h = or_join _ _ _ _ (λ z. needs_old d x z) (λ z. needs_old b x z) h
  needs_old (dropped b) x h = or_right _ _ (needs_old b x h)
  needs_old (switches a f e s) x h = or_join _ _ _ _ (λ z. needs_old f x z) (λ z. needs_old s x z) h
  needs_old (groups a b bs) x h = or_join _ _ _ _ (λ z. needs_old b x z) (λ z. needs_b_old bs x z) h
  needs_old (untils a s cs) x h = needs_old s x h

  needs_b_old : {π : ℕ → ℕ} {s s' : Branches} → LessB π s s' → (x : ℕ) → needs_b x s' ≡ true → needs_b (π x) s ≡ true
  needs_b_old no_branches x h = h
  needs_b_old (branches a b bs) x h = or_join _ _ _ _ (λ z. needs_old b x z) (λ z. needs_b_old bs x z) h

still_unneeded : (u : Bool) (n' : ℕ) → u ≡ false → wrong_if u n' ≡ None
unfolding wrong_if
still_unneeded u n' e = rw e refl

mutual
  unfolding ready_s

  pub ready_still : {π : ℕ → ℕ} {s s' : Signal} → LessS π s s' → ready_s s ≡ None → ready_s s' ≡ None
  ready_still (inputs a) h = refl
  ready_still (times a) h = refl
  ready_still (exts a e) h = refl
  ready_still (delays a s) h = ready_still s h
  ready_still {π} (lets {n = n} {n' = n'} {d = pd} {d' = qd} a d b) h =
      let p = both _ _ h in
      let q = both _ _ p.1 in
      let free : needs_s (π n') pd ≡ false = ap (λ (x : ℕ). needs_s x pd) (sym a) ∙ kept _ n p.0 in
      neither (still_unneeded _ n' (to_false (needs_s n' qd) (needs_s (π n') pd) (needs_old d n') free)) (neither (ready_still d q.0) (ready_still b q.1))
  ready_still (dropped b) h = ready_still b (both _ _ (both _ _ h).1).1
  ready_still (switches a x e y) h =
      let p = both _ _ h in
      let q = both _ _ p.1 in
      neither (ready_still x p.0) (neither (ready_still e q.0) (ready_still y q.1))
  ready_still (groups a b bs) h =
      let p = both _ _ h in
      neither (ready_still b p.0) (ready_b_still bs p.1)
  ready_still (untils a s cs) h =
      let p = both _ _ h in
      neither (ready_still s p.0) (ready_c_still cs p.1)

  ready_b_still : {π : ℕ → ℕ} {s s' : Branches} → LessB π s s' → ready_b s ≡ None → ready_b s' ≡ None
  ready_b_still no_branches h = refl
  ready_b_still (branches a b bs) h =
      let p = both _ _ h in
      neither (ready_still b p.0) (ready_b_still bs p.1)

  ready_c_still : {π : ℕ → ℕ} {s s' : Cases} → LessC π s s' → ready_c s ≡ None → ready_c s' ≡ None
  ready_c_still no_cases h = refl
  ready_c_still (cases a g e cs) h =
      let p = both _ _ h in
      neither (ready_still e p.0) (ready_c_still cs p.1)
