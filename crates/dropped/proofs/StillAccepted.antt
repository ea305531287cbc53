-- What the rule leaves of an accepted program is in scope, typed and ready: with its format and shape right it is accepted.
-- Assumes nothing.
use Rattle.std.specs.Prelude.{None}
use mathlib.Core.Path.{◌≡◌, sym, ap, ◌∙◌}
use mathlib.Core.List.{[]}
use mathlib.Core.Bool.{true}
use Prim.Native.Nat.{ℕ, ◌<◌, ◌≤◌}
use native.Mathlib.Omega.{arith}
use lib.ListN.{length-replicate}
use borrow.Author.Tests.{eqb-true, eq-eqb}
use Rattle.rules.specs.Bytes.{Bytes, first, ◌or◌}
use Rattle.rules.specs.Layout.{edition, nodes, most_nodes}
use Rattle.rules.specs.Shape.{shape_wrong}
use Rattle.rules.specs.Scope.{unmarked, scope_fault, scope_s, is_offered}
use Rattle.rules.specs.Typing.{type_fault}
use Rattle.rules.specs.Ready.{ready_fault}
use Rattle.rules.specs.Tree.{Expr, Signal, Branches, Cases, root}
use Rattle.rules.specs.Accepted.{Formed, Accepted}
use Rattle.rules.proofs.Static.{not_both, or_right}
use Rattle.dropped.specs.Less.{LessE, LessS, LessB, LessC}
use Rattle.dropped.specs.Uses.{uses_e, uses_s, uses_b, uses_c}
use Rattle.dropped.specs.Apart.{WithinS, UnusedS, UnusedB, UnusedC}
use Rattle.dropped.specs.Rule.{DropS, here, in_delay, in_definition, in_let, in_first, in_event, in_second, in_group, in_branches, in_until, in_cases, DropB, in_branch, later_branch, DropC, in_case, later_case, none, one, DropsS, NamedS, NamedB, NamedC, Rule}
use Rattle.dropped.proofs.OnePass.{or_join}
use Rattle.dropped.proofs.RuleLess.{named_less, named_less_b, named_less_c, drop_less, drop_b_less, drop_c_less, drops_less, rule_less}
use Rattle.dropped.proofs.StillTyped.{types_still, ready_still}
use Rattle.dropped.proofs.StillScoped.{scope_still}
use Rattle.dropped.proofs.SameSteps.{none_marked}

-- What the new tree names, the old one names.
uses_e_old : {π : ℕ → ℕ} {e e' : Expr} → LessE π e e' → (x : ℕ) → uses_e x e' ≡ true → uses_e (π x) e ≡ true
unfolding uses_e
uses_e_old {π} (LessE.variables {b = b} {b' = b'} a g) x h = eq-eqb b (π x) (g ∙ ap π (eqb-true b' x h))
uses_e_old (LessE.constants a) x h = h
uses_e_old (LessE.operations a e f) x h = or_join _ _ _ _ (λ z. uses_e_old e x z) (λ z. uses_e_old f x z) h
uses_e_old (LessE.negations a e) x h = uses_e_old e x h
uses_e_old (LessE.choices a c e f) x h = or_join _ _ _ _ (λ w. or_join _ _ _ _ (λ z. uses_e_old c x z) (λ z. uses_e_old e x z) w) (λ z. uses_e_old f x z) h
uses_e_old (LessE.justs a e) x h = uses_e_old e x h
uses_e_old (LessE.takings a c e f) x h = or_join _ _ _ _ (λ w. or_join _ _ _ _ (λ z. uses_e_old c x z) (λ z. uses_e_old e x z) w) (λ z. uses_e_old f x z) h

mutual
  unfolding uses_s

  uses_old : {π : ℕ → ℕ} {s s' : Signal} → LessS π s s' → (x : ℕ) → uses_s x s' ≡ true → uses_s (π x) s ≡ true
  uses_old (LessS.inputs a) x h = h
  uses_old (LessS.times a) x h = h
  uses_old (LessS.exts a e) x h = uses_e_old e x h
  uses_old (LessS.delays a s) x h = uses_old s x h
  uses_old (LessS.lets a d b) x h = or_join _ _ _ _ (λ z. uses_old d x z) (λ z. uses_old b x z) h
  uses_old (LessS.dropped b) x h = or_right _ _ (uses_old b x h)
  uses_old (LessS.switches a f e s) x h = or_join _ _ _ _ (λ w. or_join _ _ _ _ (λ z. uses_old f x z) (λ z. uses_old e x z) w) (λ z. uses_old s x z) h
  uses_old (LessS.groups a b bs) x h = or_join _ _ _ _ (λ z. uses_old b x z) (λ z. uses_b_old bs x z) h
  uses_old (LessS.untils a s cs) x h = or_join _ _ _ _ (λ z. uses_old s x z) (λ z. uses_c_old cs x z) h

  uses_b_old : {π : ℕ → ℕ} {s s' : Branches} → LessB π s s' → (x : ℕ) → uses_b x s' ≡ true → uses_b (π x) s ≡ true
  uses_b_old LessB.no_branches x h = h
  uses_b_old (LessB.branches a b bs) x h = or_join _ _ _ _ (λ z. uses_old b x z) (λ z. uses_b_old bs x z) h

  uses_c_old : {π : ℕ → ℕ} {s s' : Cases} → LessC π s s' → (x : ℕ) → uses_c x s' ≡ true → uses_c (π x) s ≡ true
  uses_c_old LessC.no_cases x h = h
  uses_c_old (LessC.cases a t e cs) x h = or_join _ _ _ _ (λ z. uses_old e x z) (λ z. uses_c_old cs x z) h

-- The derivation that the rule gives drops unused lets only.
mutual
  unfolding named_less

  pub named_unused : {π : ℕ → ℕ} {s s' : Signal} (x : NamedS π s s') → UnusedS (named_less x)
  named_unused (NamedS.inputs a) = tt
  named_unused (NamedS.times a) = tt
  named_unused (NamedS.exts a e) = tt
  named_unused (NamedS.delays a s) = named_unused s
  named_unused (NamedS.lets a d b) = (named_unused d, named_unused b)
  named_unused (NamedS.switches a x e y) = (named_unused x, named_unused e, named_unused y)
  named_unused (NamedS.groups a b bs) = (named_unused b, named_unused_b bs)
  named_unused (NamedS.untils a s cs) = (named_unused s, named_unused_c cs)

  pub named_unused_b : {π : ℕ → ℕ} {s s' : Branches} (x : NamedB π s s') → UnusedB (named_less_b x)
  named_unused_b NamedB.no_branches = tt
  named_unused_b (NamedB.branches a b bs) = (named_unused b, named_unused_b bs)

  pub named_unused_c : {π : ℕ → ℕ} {s s' : Cases} (x : NamedC π s s') → UnusedC (named_less_c x)
  named_unused_c NamedC.no_cases = tt
  named_unused_c (NamedC.cases a t e cs) = (named_unused e, named_unused_c cs)

mutual
  unfolding drop_less

  drop_unused : {π : ℕ → ℕ} {s s₁ s' : Signal} (g : DropS s s₁) (h : LessS π s₁ s') → UnusedS h → UnusedS (drop_less g h)
  drop_unused {π} (here {n = n} {b = b} e) h u =
      (λ y i z. not_both (sym e ∙ ap (λ (x : ℕ). uses_s x b) (sym z) ∙ uses_old h y i), u)
  drop_unused (in_delay g) (LessS.delays a s) u = drop_unused g s u
  drop_unused (in_definition g) (LessS.lets a d b) u = (drop_unused g d u.0, u.1)
  drop_unused (in_definition g) (LessS.dropped b) u = u
  drop_unused (in_let g) (LessS.lets a d b) u = (u.0, drop_unused g b u.1)
  drop_unused (in_let g) (LessS.dropped b) u = (u.0, drop_unused g b u.1)
  drop_unused (in_first g) (LessS.switches a x e y) u = (drop_unused g x u.0, u.1, u.2)
  drop_unused (in_event g) (LessS.switches a x e y) u = (u.0, drop_unused g e u.1, u.2)
  drop_unused (in_second g) (LessS.switches a x e y) u = (u.0, u.1, drop_unused g y u.2)
  drop_unused (in_group g) (LessS.groups a b bs) u = (drop_unused g b u.0, u.1)
  drop_unused (in_branches g) (LessS.groups a b bs) u = (u.0, drop_b_unused g bs u.1)
  drop_unused (in_until g) (LessS.untils a s cs) u = (drop_unused g s u.0, u.1)
  drop_unused (in_cases g) (LessS.untils a s cs) u = (u.0, drop_c_unused g cs u.1)

  drop_b_unused : {π : ℕ → ℕ} {s s₁ s' : Branches} (g : DropB s s₁) (h : LessB π s₁ s') → UnusedB h → UnusedB (drop_b_less g h)
  drop_b_unused (in_branch g) (LessB.branches a b bs) u = (drop_unused g b u.0, u.1)
  drop_b_unused (later_branch g) (LessB.branches a b bs) u = (u.0, drop_b_unused g bs u.1)

  drop_c_unused : {π : ℕ → ℕ} {s s₁ s' : Cases} (g : DropC s s₁) (h : LessC π s₁ s') → UnusedC h → UnusedC (drop_c_less g h)
  drop_c_unused (in_case g) (LessC.cases a t e cs) u = (drop_unused g e u.0, u.1)
  drop_c_unused (later_case g) (LessC.cases a t e cs) u = (u.0, drop_c_unused g cs u.1)

pub drops_unused : {π : ℕ → ℕ} {s s₁ s' : Signal} (g : DropsS s s₁) (h : LessS π s₁ s') → UnusedS h → UnusedS (drops_less g h)
unfolding drops_less
drops_unused none h u = u
drops_unused (one x y) h u = drop_unused x (drops_less y h) (drops_unused y h u)

-- A program of right format and shape that the rule leaves of an accepted one, with no two nodes paired with one: accepted.
pub rule_accepted : (p q : Bytes) (π : ℕ → ℕ) → edition q ≡ edition p → Accepted p → Formed q → first (shape_wrong q) (nodes q) ≡ None → (c : ℕ) → c ≤ most_nodes → WithinS c (root q)
    → ((i j : ℕ) → i < c → j < c → π i ≡ π j → i ≡ j) → Rule p q π → Accepted q
unfolding scope_fault type_fault ready_fault unmarked rule_less is_offered
rule_accepted p q π ed pa f s c few w inj r =
    let x : LessS π (root p) (root q) = rule_less p q π r in
    record {
      formed = f;
      shape_right = s;
      scope_right = scope_still (edition q) c inj x (drops_unused r.drops (named_less r.named) (named_unused r.named)) w (unmarked most_nodes) (unmarked most_nodes)
          (let e = length-replicate {A = ℕ} most_nodes 0 in omega arith) [] [] (λ y l u i. absurd (none_marked most_nodes (π y) i)) (λ k l i. i)
          (ap (λ (e : ℕ). scope_s e (unmarked most_nodes) [] (root p)) ed ∙ pa.scope_right);
      types_right = types_still x pa.types_right;
      ready_right = ready_still x pa.ready_right;
    }
