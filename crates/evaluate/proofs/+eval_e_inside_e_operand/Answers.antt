use Rattle.rules.proofs.PutBack.{put_back}
use Rattle.evaluate.proofs.ExprLaws.{next_e, read, part_work, ints_operation, bools_operation, negation_part, just_part, choice_parts, taking_parts, operation_parts, chosen_part, pair_work, operation_pair, choice_pair, taking_pairs, negation_said, just_said, operation_said, later_said, choice_goes, choice_stuck, taking_present, taking_absent, taking_stuck}
use Rattle.outcomes.proofs.Counted.{gives_stuck}
use Rattle.outcomes.specs.Outcome.{outcome_in}
use Rattle.outcomes.proofs.Outcomes.{arm_work, take_work, take_value, slots_set, bind_value}
use Rattle.rules.specs.Evaluate.{bind, eval_e}
use Rattle.rules.specs.Values.{unpacked}
use Rattle.rules.specs.Tree.{expr_at}
use lib.ListN.{set, get_or}
use mathlib.Core.List.{List}
use mathlib.Core.Path.{refl, sym, ap, ◌∙◌, subst}
use native.Mathlib.Omega.{arith}
use Prim.Native.Nat.{ℕ, ◌≤◌}
use Rattle.evaluate.proofs.+eval_e_inside_e_operand.Goals as goal

pub eval_e-node_by-n-requires : goal.eval_e-node_by-n-requires
eval_e-node_by-n-requires t c = let ready = c.requires in (ready.indexed, ready.node.shaped, ready.node.inside)

pub eval_e-simple-requires : goal.eval_e-simple-requires
eval_e-simple-requires t c = (c.requires, subst (λ (k : ℕ). k ≤ 17) c.node_by-n.ensures.kind_is c.if-k-le17.true)

pub eval_e-returns-then-k-le17 : goal.eval_e-returns-then-k-le17
eval_e-returns-then-k-le17 t c = (c.simple.ensures.0, c.simple.ensures.1, refl)

pub eval_e-operand-x-requires : goal.eval_e-operand-x-requires
eval_e-operand-x-requires t c = let p = c.args.p.now.now in
    let i = c.args.i in
    let ready = c.requires in
    let node = c.node_by-n.ensures in
    let k = read node.a_is (operation_parts p i ready.node ready.small (ints_operation node.kind_is c.if-k-le17.false c.if-k-le23.true)).0 in
    (omega (arith, k.less, c.decreases), next_e ready refl k)

pub eval_e-operand-y-requires : goal.eval_e-operand-y-requires
eval_e-operand-y-requires t c = let p = c.args.p.now.now in
    let i = c.args.i in
    let ready = c.requires in
    let node = c.node_by-n.ensures in
    let k = read node.b_is (operation_parts p i ready.node ready.small (ints_operation node.kind_is c.if-k-le17.false c.if-k-le23.true)).1 in
    (omega (arith, k.less, c.decreases), next_e ready c.operand-x.ensures.2 k)

pub eval_e-on_ints-requires : goal.eval_e-on_ints-requires
eval_e-on_ints-requires t c = let p = c.args.p.now.now in
    let i = c.args.i in
    let ready = c.requires in
    let node = c.node_by-n.ensures in
    (c.if-k-le23.true, pair_work p c.node_by-n.result.a c.node_by-n.result.b _ _ (operation_pair p i ready.node ready.small (ints_operation node.kind_is c.if-k-le17.false c.if-k-le23.true) node.a_is node.b_is) c.operand-x.ensures.0 c.operand-y.ensures.0)

pub eval_e-returns-then-k-le23 : goal.eval_e-returns-then-k-le23
eval_e-returns-then-k-le23 t c = let p = c.args.p.now.now in
    let i = c.args.i in
    let w = c.requires.node in
    let env = c.args.env.now in
    let node = c.node_by-n.ensures in
    (operation_said p i w env (ints_operation node.kind_is c.if-k-le17.false c.if-k-le23.true) node.kind_is node.a_is node.b_is c.operand-x.ensures.2 c.operand-x.ensures.0 c.operand-y.ensures.0 c.on_ints.ensures.0, c.on_ints.ensures.1, c.operand-y.ensures.2 ∙ c.operand-x.ensures.2)

pub eval_e-operand-requires : goal.eval_e-operand-requires
eval_e-operand-requires t c = let p = c.args.p.now.now in
    let i = c.args.i in
    let ready = c.requires in
    let node = c.node_by-n.ensures in
    let k = read node.a_is (negation_part p i ready.node ready.small (sym node.kind_is ∙ c.in-24.is)) in
    (omega (arith, k.less, c.decreases), next_e ready refl k)

pub eval_e-negated-requires : goal.eval_e-negated-requires
eval_e-negated-requires t c = let p = c.args.p.now.now in
    let i = c.args.i in
    let ready = c.requires in
    let node = c.node_by-n.ensures in
    part_work _ (read node.a_is (negation_part p i ready.node ready.small (sym node.kind_is ∙ c.in-24.is))) c.operand.ensures.0

pub eval_e-operand-test-requires : goal.eval_e-operand-test-requires
eval_e-operand-test-requires t c = let p = c.args.p.now.now in
    let i = c.args.i in
    let ready = c.requires in
    let node = c.node_by-n.ensures in
    let k = read node.a_is (choice_parts p i ready.node ready.small (sym node.kind_is ∙ c.in-27.is)).0 in
    (omega (arith, k.less, c.decreases), next_e ready refl k)

pub eval_e-returns-in_default-chosen : goal.eval_e-returns-in_default-chosen
eval_e-returns-in_default-chosen t c = let p = c.args.p.now.now in
    let i = c.args.i in
    let w = c.requires.node in
    let env = c.args.env.now in
    let node = c.node_by-n.ensures in
    let g = gives_stuck (choice_stuck p i w env (sym node.kind_is ∙ c.in-27.is) c.node_by-n.result.b c.node_by-n.result.c node.a_is c.operand-test.ensures.0 (sym c.chosen.ensures ∙ c.in_default-chosen.is)) in
    (g.0, g.1, c.operand-test.ensures.2)

pub eval_e-operand-requires-in-27 : goal.eval_e-operand-requires-in-27
eval_e-operand-requires-in-27 t c = let p = c.args.p.now.now in
    let i = c.args.i in
    let ready = c.requires in
    let node = c.node_by-n.ensures in
    let k = chosen_part p i ready.node ready.small (sym node.kind_is ∙ c.in-27.is) (outcome_in c.operand-test.result) node.b_is node.c_is (sym c.chosen.ensures ∙ c.in-Some.is) in
    (omega (arith, k.less, c.decreases), next_e ready c.operand-test.ensures.2 k)

pub eval_e-later-requires : goal.eval_e-later-requires
eval_e-later-requires t c = let p = c.args.p.now.now in
    let i = c.args.i in
    let ready = c.requires in
    let node = c.node_by-n.ensures in
    let go = (sym c.chosen.ensures ∙ c.in-Some.is) in
    (c.operand-in-27.ensures.1, omega (arith, arm_work _ _ (outcome_in c.operand-test.result) go, pair_work p c.node_by-n.result.a c.in-Some.arm.at _ _ (choice_pair p i ready.node ready.small (sym node.kind_is ∙ c.in-27.is) (outcome_in c.operand-test.result) node.a_is node.b_is node.c_is go) c.operand-test.ensures.0 c.operand-in-27.ensures.0))

pub eval_e-operand-requires-in-28 : goal.eval_e-operand-requires-in-28
eval_e-operand-requires-in-28 t c = let p = c.args.p.now.now in
    let i = c.args.i in
    let ready = c.requires in
    let node = c.node_by-n.ensures in
    let k = read node.a_is (just_part p i ready.node ready.small (sym node.kind_is ∙ c.in-28.is)) in
    (omega (arith, k.less, c.decreases), next_e ready refl k)

pub eval_e-lifted-requires : goal.eval_e-lifted-requires
eval_e-lifted-requires t c = let p = c.args.p.now.now in
    let i = c.args.i in
    let ready = c.requires in
    let node = c.node_by-n.ensures in
    part_work _ (read node.a_is (just_part p i ready.node ready.small (sym node.kind_is ∙ c.in-28.is))) c.operand-in-28.ensures.0

pub eval_e-operand-maybe-requires : goal.eval_e-operand-maybe-requires
eval_e-operand-maybe-requires t c = let p = c.args.p.now.now in
    let i = c.args.i in
    let ready = c.requires in
    let node = c.node_by-n.ensures in
    let k = read node.a_is (taking_parts p i ready.node ready.small (sym node.kind_is ∙ c.in-29.is)).0 in
    (omega (arith, k.less, c.decreases), next_e ready refl k)

pub eval_e-returns-in_default-apart : goal.eval_e-returns-in_default-apart
eval_e-returns-in_default-apart t c = let p = c.args.p.now.now in
    let i = c.args.i in
    let w = c.requires.node in
    let env = c.args.env.now in
    let node = c.node_by-n.ensures in
    let g = gives_stuck (taking_stuck p i w env (sym node.kind_is ∙ c.in-29.is) node.a_is c.operand-maybe.ensures.0 (sym c.apart.ensures ∙ c.in_default-apart.is)) in
    (g.0, g.1, c.operand-maybe.ensures.2)

pub eval_e-eval_e-requires : goal.eval_e-eval_e-requires
eval_e-eval_e-requires t c = let p = c.args.p.now.now in
    let i = c.args.i in
    let ready = c.requires in
    let node = c.node_by-n.ensures in
    let k = read node.b_is (taking_parts p i ready.node ready.small (sym node.kind_is ∙ c.in-29.is)).1 in
    (omega (arith, k.less, c.decreases), next_e ready c.operand-maybe.ensures.2 k)

pub eval_e-later-requires-in_default-event : goal.eval_e-later-requires-in_default-event
eval_e-later-requires-in_default-event t c = let p = c.args.p.now.now in
    let i = c.args.i in
    let ready = c.requires in
    let node = c.node_by-n.ensures in
    (c.eval_e.ensures.1, omega (arith, take_work (outcome_in c.operand-maybe.result) (sym c.apart.ensures ∙ c.in-Some-apart.is), pair_work p c.node_by-n.result.a c.node_by-n.result.b _ _ (taking_pairs p i ready.node ready.small (sym node.kind_is ∙ c.in-29.is) node.a_is node.b_is node.c_is).0 c.operand-maybe.ensures.0 c.eval_e.ensures.0))

pub eval_e-returns-in_default-event : goal.eval_e-returns-in_default-event
eval_e-returns-in_default-event t c = let p = c.args.p.now.now in
    let i = c.args.i in
    let w = c.requires.node in
    let env = c.args.env.now in
    let node = c.node_by-n.ensures in
    (later_said p i w env c.in-Some-apart.parts.count (taking_absent p i w env (sym node.kind_is ∙ c.in-29.is) node.a_is c.operand-maybe.ensures.0 (sym c.apart.ensures ∙ c.in-Some-apart.is) c.in_default-event.is) node.b_is c.operand-maybe.ensures.2 c.eval_e.ensures.0 c.later-in_default-event.ensures.0, c.later-in_default-event.ensures.1, c.eval_e.ensures.2 ∙ c.operand-maybe.ensures.2)

pub eval_e-inside_e-requires : goal.eval_e-inside_e-requires
eval_e-inside_e-requires t c = let p = c.args.p.now.now in
    let i = c.args.i in
    let ready = c.requires in
    let node = c.node_by-n.ensures in
    let w = ready.node in
    let k = read node.c_is (taking_parts p i ready.node ready.small (sym node.kind_is ∙ c.in-29.is)).2 in
    (omega (arith, k.less, c.decreases), (next_e ready c.operand-maybe.ensures.2 k, omega (arith, w.inside, w.shaped.small), take_value (outcome_in c.operand-maybe.result) (sym c.apart.ensures ∙ c.in-Some-apart.is) c.in-Some-event.is))

pub eval_e-later-requires-in-29 : goal.eval_e-later-requires-in-29
eval_e-later-requires-in-29 t c = let p = c.args.p.now.now in
    let i = c.args.i in
    let ready = c.requires in
    let node = c.node_by-n.ensures in
    (c.inside_e.ensures.1, omega (arith, take_work (outcome_in c.operand-maybe.result) (sym c.apart.ensures ∙ c.in-Some-apart.is), pair_work p c.node_by-n.result.a c.node_by-n.result.c _ _ (taking_pairs p i ready.node ready.small (sym node.kind_is ∙ c.in-29.is) node.a_is node.b_is node.c_is).1 c.operand-maybe.ensures.0 c.inside_e.ensures.0))

pub eval_e-operand-x-requires-in_default : goal.eval_e-operand-x-requires-in_default
eval_e-operand-x-requires-in_default t c = let p = c.args.p.now.now in
    let i = c.args.i in
    let ready = c.requires in
    let node = c.node_by-n.ensures in
    let k = read node.a_is (operation_parts p i ready.node ready.small (bools_operation node.kind_is c.if-k-le23.false c.in_default.in_default-own.rest)).0 in
    (omega (arith, k.less, c.decreases), next_e ready refl k)

pub eval_e-operand-y-requires-in_default : goal.eval_e-operand-y-requires-in_default
eval_e-operand-y-requires-in_default t c = let p = c.args.p.now.now in
    let i = c.args.i in
    let ready = c.requires in
    let node = c.node_by-n.ensures in
    let k = read node.b_is (operation_parts p i ready.node ready.small (bools_operation node.kind_is c.if-k-le23.false c.in_default.in_default-own.rest)).1 in
    (omega (arith, k.less, c.decreases), next_e ready c.operand-x-in_default.ensures.2 k)

pub eval_e-on_bools-requires : goal.eval_e-on_bools-requires
eval_e-on_bools-requires t c = let p = c.args.p.now.now in
    let i = c.args.i in
    let ready = c.requires in
    let node = c.node_by-n.ensures in
    (c.if-k-le23.false, pair_work p c.node_by-n.result.a c.node_by-n.result.b _ _ (operation_pair p i ready.node ready.small (bools_operation node.kind_is c.if-k-le23.false c.in_default.in_default-own.rest) node.a_is node.b_is) c.operand-x-in_default.ensures.0 c.operand-y-in_default.ensures.0)

pub eval_e-returns-in-24 : goal.eval_e-returns-in-24
eval_e-returns-in-24 t c = let p = c.args.p.now.now in
    let i = c.args.i in
    let w = c.requires.node in
    let env = c.args.env.now in
    let node = c.node_by-n.ensures in
    (negation_said p i w env (sym node.kind_is ∙ c.in-24.is) node.a_is c.operand.ensures.0 c.negated.ensures.0, c.negated.ensures.1, c.operand.ensures.2)

pub eval_e-returns-in-Some : goal.eval_e-returns-in-Some
eval_e-returns-in-Some t c = let p = c.args.p.now.now in
    let i = c.args.i in
    let w = c.requires.node in
    let env = c.args.env.now in
    let node = c.node_by-n.ensures in
    (later_said p i w env c.in-Some.arm.count (choice_goes p i w env (sym node.kind_is ∙ c.in-27.is) node.a_is node.b_is node.c_is c.operand-test.ensures.0 (sym c.chosen.ensures ∙ c.in-Some.is)) refl c.operand-test.ensures.2 c.operand-in-27.ensures.0 c.later.ensures.0, c.later.ensures.1, c.operand-in-27.ensures.2 ∙ c.operand-test.ensures.2)

pub eval_e-returns-in-28 : goal.eval_e-returns-in-28
eval_e-returns-in-28 t c = let p = c.args.p.now.now in
    let i = c.args.i in
    let w = c.requires.node in
    let env = c.args.env.now in
    let node = c.node_by-n.ensures in
    (just_said p i w env (sym node.kind_is ∙ c.in-28.is) node.a_is c.operand-in-28.ensures.0 c.lifted.ensures.0, c.lifted.ensures.1, c.operand-in-28.ensures.2)

pub eval_e-returns-in-Some-event : goal.eval_e-returns-in-Some-event
eval_e-returns-in-Some-event t c = let p = c.args.p.now.now in
    let i = c.args.i in
    let w = c.requires.node in
    let env = c.args.env.now in
    let node = c.node_by-n.ensures in
    (later_said p i w env c.in-Some-apart.parts.count (taking_present p i w env (sym node.kind_is ∙ c.in-29.is) node.a_is c.operand-maybe.ensures.0 (sym c.apart.ensures ∙ c.in-Some-apart.is) c.in-Some-event.is) node.c_is (ap (λ (l : List ℕ). bind l i (unpacked c.in-Some-event.v)) c.operand-maybe.ensures.2) c.inside_e.ensures.0 c.later-in-29.ensures.0, c.later-in-29.ensures.1, c.inside_e.ensures.2 ∙ c.operand-maybe.ensures.2)

pub eval_e-returns-in_default : goal.eval_e-returns-in_default
eval_e-returns-in_default t c = let p = c.args.p.now.now in
    let i = c.args.i in
    let w = c.requires.node in
    let env = c.args.env.now in
    let node = c.node_by-n.ensures in
    (operation_said p i w env (bools_operation node.kind_is c.if-k-le23.false c.in_default.in_default-own.rest) node.kind_is node.a_is node.b_is c.operand-x-in_default.ensures.2 c.operand-x-in_default.ensures.0 c.operand-y-in_default.ensures.0 c.on_bools.ensures.0, c.on_bools.ensures.1, c.operand-y-in_default.ensures.2 ∙ c.operand-x-in_default.ensures.2)

pub inside_e-bounds-env-i : goal.inside_e-bounds-env-i
inside_e-bounds-env-i t c = c.requires.1

pub inside_e-bounds-env-i-2 : goal.inside_e-bounds-env-i-2
inside_e-bounds-env-i-2 t c = c.requires.1

pub inside_e-eval_e-r-requires : goal.inside_e-eval_e-r-requires
inside_e-eval_e-r-requires t c = (omega (arith, c.decreases), record { node = c.requires.0.node; indexed = c.requires.0.indexed; slots = slots_set c.args.env.now c.args.i c.args.v c.requires.0.slots c.requires.2; small = c.requires.0.small })

pub inside_e-bounds-env-i-3 : goal.inside_e-bounds-env-i-3
inside_e-bounds-env-i-3 t c = c.requires.1

pub inside_e-returns : goal.inside_e-returns
inside_e-returns t c = let env = c.args.env.now in
    let i = c.args.i in
    let v = c.args.v in
    (c.eval_e-r.ensures.0 ∙ ap (λ (l : List ℕ). eval_e l (expr_at c.args.p.now.now c.args.k)) (sym (bind_value env i v c.requires.2)), c.eval_e-r.ensures.1, ap (λ (l : List ℕ). set l i (get_or env i 0)) c.eval_e-r.ensures.2 ∙ put_back _ _ v)

pub operand-kind_by-requires : goal.operand-kind_by-requires
operand-kind_by-requires t c = let ready = c.requires in (ready.indexed, ready.node.shaped, ready.node.inside)

pub operand-eval_e-requires : goal.operand-eval_e-requires
operand-eval_e-requires t c = (omega (arith, c.decreases), c.requires)

pub operand-returns-then-kind_by-gt17 : goal.operand-returns-then-kind_by-gt17
operand-returns-then-kind_by-gt17 t c = c.eval_e.ensures

pub operand-simple-requires : goal.operand-simple-requires
operand-simple-requires t c = (c.requires, subst (λ (k : ℕ). k ≤ 17) c.kind_by.ensures c.if-kind_by-gt17.false)

pub operand-returns : goal.operand-returns
operand-returns t c = (c.simple.ensures.0, c.simple.ensures.1, refl)
