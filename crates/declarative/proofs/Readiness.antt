-- The relation of needing at once is the definition's test, and a tree is ready exactly when it has no such fault.
-- Assumes nothing.
use Rattle.std.specs.Prelude.{None}
use mathlib.Core.Path.{◌≡◌, refl, subst}
use mathlib.Core.Bool.{Bool, true, false}
use Prim.Native.Nat.{ℕ}
use borrow.Author.Tests.{eqb-true, eq-eqb}
use Rattle.rules.specs.Tree.{Expr, variable, constant, operation, negation, choice, just, taking, Signal, input, time, ext, delay, let_signal, switch, group, until, Branches, no_branch, branch, Cases, no_case, case}
use Rattle.rules.specs.Ready.{needs_e, needs_s, needs_b, ready_s, ready_b, ready_c}
use Rattle.rules.proofs.Static.{not_both, both, kept, or_left, or_right}
use Rattle.declarative.proofs.Joining.{by_either, sooner_nowhere, unbroken}
use Rattle.declarative.specs.Needs.{NeedsE, is_it, operation_first, operation_second, not_part, if_test, if_yes, if_no, just_part, take_maybe, take_absent, take_present, NeedsS, ext_part, let_definition, let_body, switch_first, switch_second, group_body, group_branches, until_signal, NeedsB, branch_body, branch_next, ReadyS, input_ready, time_ready, ext_ready, delay_ready, let_ready, switch_ready, group_ready, until_ready, ReadyB, no_branch_ready, branch_ready, ReadyC, no_case_ready, case_ready}

-- From the test to the relation.
pub needs_e_lem : (x : ℕ) (e : Expr) → needs_e x e ≡ true → NeedsE x e
unfolding needs_e
needs_e_lem x (variable n b t) h = subst (λ (y : ℕ). NeedsE y (variable n b t)) (eqb-true b x h) is_it
needs_e_lem x (constant n v) h = absurd (not_both h)
needs_e_lem x (operation n k e f) h = by_either _ _ h (λ g. operation_first (needs_e_lem x e g)) (λ g. operation_second (needs_e_lem x f g))
needs_e_lem x (negation n e) h = not_part (needs_e_lem x e h)
needs_e_lem x (choice n c e f) h =
    by_either _ _ h (λ i. by_either _ _ i (λ g. if_test (needs_e_lem x c g)) (λ g. if_yes (needs_e_lem x e g))) (λ g. if_no (needs_e_lem x f g))
needs_e_lem x (just n e) h = just_part (needs_e_lem x e h)
needs_e_lem x (taking n t m e f) h =
    by_either _ _ h (λ i. by_either _ _ i (λ g. take_maybe (needs_e_lem x m g)) (λ g. take_absent (needs_e_lem x e g))) (λ g. take_present (needs_e_lem x f g))

-- From the relation to the test.
pub e_needs : {x : ℕ} {e : Expr} → NeedsE x e → needs_e x e ≡ true
unfolding needs_e
e_needs {x} is_it = eq-eqb x x refl
e_needs (operation_first h) = or_left _ _ (e_needs h)
e_needs (operation_second h) = or_right _ _ (e_needs h)
e_needs (not_part h) = e_needs h
e_needs (if_test h) = or_left _ _ (or_left _ _ (e_needs h))
e_needs (if_yes h) = or_left _ _ (or_right _ _ (e_needs h))
e_needs (if_no h) = or_right _ _ (e_needs h)
e_needs (just_part h) = e_needs h
e_needs (take_maybe h) = or_left _ _ (or_left _ _ (e_needs h))
e_needs (take_absent h) = or_left _ _ (or_right _ _ (e_needs h))
e_needs (take_present h) = or_right _ _ (e_needs h)

-- The same for signals and branches.
mutual
  unfolding needs_s

  -- From the test to the relation: a signal,
  pub needs_s_lem : (x : ℕ) (s : Signal) → needs_s x s ≡ true → NeedsS x s
  needs_s_lem x (input n c) h = absurd (not_both h)
  needs_s_lem x (time n) h = absurd (not_both h)
  needs_s_lem x (ext n e) h = ext_part (needs_e_lem x e h)
  needs_s_lem x (delay n k v s) h = absurd (not_both h)
  needs_s_lem x (let_signal n t d b) h = by_either _ _ h (λ g. let_definition (needs_s_lem x d g)) (λ g. let_body (needs_s_lem x b g))
  needs_s_lem x (switch n k t f e s) h = by_either _ _ h (λ g. switch_first (needs_s_lem x f g)) (λ g. switch_second (needs_s_lem x s g))
  needs_s_lem x (group n k body brs) h = by_either _ _ h (λ g. group_body (needs_s_lem x body g)) (λ g. group_branches (needs_b_lem x brs g))
  needs_s_lem x (until n s cs) h = until_signal (needs_s_lem x s h)

  -- a list of branches.
  pub needs_b_lem : (x : ℕ) (brs : Branches) → needs_b x brs ≡ true → NeedsB x brs
  needs_b_lem x no_branch h = absurd (not_both h)
  needs_b_lem x (branch n t body next) h = by_either _ _ h (λ g. branch_body (needs_s_lem x body g)) (λ g. branch_next (needs_b_lem x next g))

mutual
  unfolding needs_s

  -- From the relation to the test: a signal,
  pub s_needs : {x : ℕ} {s : Signal} → NeedsS x s → needs_s x s ≡ true
  s_needs (ext_part h) = e_needs h
  s_needs (let_definition h) = or_left _ _ (s_needs h)
  s_needs (let_body h) = or_right _ _ (s_needs h)
  s_needs (switch_first h) = or_left _ _ (s_needs h)
  s_needs (switch_second h) = or_right _ _ (s_needs h)
  s_needs (group_body h) = or_left _ _ (s_needs h)
  s_needs (group_branches h) = or_right _ _ (b_needs h)
  s_needs (until_signal h) = s_needs h

  -- a list of branches.
  pub b_needs : {x : ℕ} {brs : Branches} → NeedsB x brs → needs_b x brs ≡ true
  b_needs (branch_body h) = or_left _ _ (s_needs h)
  b_needs (branch_next h) = or_right _ _ (b_needs h)

-- A need that the test denies.
unneeded : (x : ℕ) (s : Signal) → needs_s x s ≡ false → NeedsS x s → ⊥
unneeded x s e h = not_both (let z : false ≡ true = subst (λ (b : Bool). b ≡ true) e (s_needs h) in z)

-- No fault of readiness: every let is ready.
mutual
  unfolding ready_s

  pub ready_s_lem : (s : Signal) → ready_s s ≡ None → ReadyS s
  ready_s_lem (input n c) h = input_ready
  ready_s_lem (time n) h = time_ready
  ready_s_lem (ext n e) h = ext_ready
  ready_s_lem (delay n k v s) h = delay_ready (ready_s_lem s h)
  ready_s_lem (let_signal n t d b) h =
      let a = both _ _ h in
      let c = both _ _ a.1 in
      let_ready (unneeded n d (kept _ _ a.0)) (ready_s_lem d c.0) (ready_s_lem b c.1)
  ready_s_lem (switch n k t f e s) h =
      let a = both _ _ h in
      let c = both _ _ a.1 in
      switch_ready (ready_s_lem f a.0) (ready_s_lem e c.0) (ready_s_lem s c.1)
  ready_s_lem (group n k body brs) h = let a = both _ _ h in group_ready (ready_s_lem body a.0) (ready_b_lem brs a.1)
  ready_s_lem (until n s cs) h = let a = both _ _ h in until_ready (ready_s_lem s a.0) (ready_c_lem cs a.1)

  pub ready_b_lem : (brs : Branches) → ready_b brs ≡ None → ReadyB brs
  ready_b_lem no_branch h = no_branch_ready
  ready_b_lem (branch n t body next) h = let a = both _ _ h in branch_ready (ready_s_lem body a.0) (ready_b_lem next a.1)

  pub ready_c_lem : (cs : Cases) → ready_c cs ≡ None → ReadyC cs
  ready_c_lem no_case h = no_case_ready
  ready_c_lem (case n event target t next) h = let a = both _ _ h in case_ready (ready_s_lem event a.0) (ready_c_lem next a.1)

-- Every let is ready: no fault.
mutual
  unfolding ready_s

  pub s_ready : {s : Signal} → ReadyS s → ready_s s ≡ None
  s_ready input_ready = refl
  s_ready time_ready = refl
  s_ready ext_ready = refl
  s_ready (delay_ready h) = s_ready h
  s_ready (let_ready {n = n} {d = d} never h g) =
      sooner_nowhere (unbroken (needs_s n d) n (λ e. never (needs_s_lem n d e))) (sooner_nowhere (s_ready h) (s_ready g))
  s_ready (switch_ready f e s) = sooner_nowhere (s_ready f) (sooner_nowhere (s_ready e) (s_ready s))
  s_ready (group_ready h g) = sooner_nowhere (s_ready h) (b_ready g)
  s_ready (until_ready h g) = sooner_nowhere (s_ready h) (c_ready g)

  pub b_ready : {brs : Branches} → ReadyB brs → ready_b brs ≡ None
  b_ready no_branch_ready = refl
  b_ready (branch_ready h g) = sooner_nowhere (s_ready h) (b_ready g)

  pub c_ready : {cs : Cases} → ReadyC cs → ready_c cs ≡ None
  c_ready no_case_ready = refl
  c_ready (case_ready h g) = sooner_nowhere (s_ready h) (c_ready g)
