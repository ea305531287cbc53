-- A step of an accepted program in a well-formed state: the evaluation of the root notes each definition that it comes to, and the update that takes
-- them from the memory is the update of the rules. Whatever the memory held before.
-- Assumes nothing.
use mathlib.Core.Path.{◌≡◌, refl, ap, ◌∙◌}
use mathlib.Core.List.{[]}
use mathlib.Core.Bool.{true}
use Prim.Native.Nat.{ℕ, zero, suc, ◌≤◌}
use lib.ListN.{get_or, replicate}
use Rattle.rules.specs.Bytes.{Bytes}
use Rattle.rules.specs.Layout.{edition, most_nodes, cells, type_at, state_length}
use Rattle.rules.specs.Tree.{root}
use Rattle.rules.specs.Scope.{unmarked, scope_fault}
use Rattle.rules.specs.Typing.{type_fault}
use Rattle.rules.specs.Ready.{ready_fault}
use Rattle.rules.specs.WellFormed.{well_formed}
use Rattle.rules.specs.Evaluate.{Env, unbound, eval_s}
use Rattle.rules.specs.Update.{upd_s, updated, evaluated, step_of}
use Rattle.rules.specs.Accepted.{Accepted}
use Rattle.promises.specs.Small.{Small}
use Rattle.promises.specs.Seated.{Seated}
use Rattle.promises.proofs.SoundS.{sound_s}
use Rattle.promises.proofs.Steps.{well_parts, nothing_known, unbound_length}
use Rattle.current.proofs.SameUpdate.{root_same}
use Rattle.recalled.specs.Recall.{Memory, fill_s, recall_s, binds_s}
use Rattle.recalled.proofs.Remember.{IsDone, done_so, remembers}
use Rattle.recalled.proofs.SameRecall.{Fresh, recall_same}
use Rattle.recalled.proofs.BindersOnce.{binders_once}

-- Nothing stands in fresh slots.
pub none_bound : (n j : ℕ) → ◌≡◌ {A = ℕ} (get_or (replicate n 0) j 0) 0
none_bound zero j = refl
none_bound (suc n) zero = refl
none_bound (suc n) (suc j) = none_bound n j

root_done : (p rec st : Bytes) → Accepted p → Seated p → well_formed p st ≡ true → Small st → Small rec → IsDone (eval_s rec st (unbound most_nodes) (root p))
unfolding scope_fault type_fault ready_fault state_length
root_done p rec st acc seat well hs hr =
    let w = well_parts p st well in
    let g = sound_s (root p) (edition p) most_nodes (cells p) (type_at p) rec st hr hs seat.sits (unmarked most_nodes) [] (unbound most_nodes) (unbound_length most_nodes)
    acc.scope_right acc.types_right acc.ready_right w.parts (nothing_known most_nodes (type_at p) (unbound most_nodes) _) in
    done_so g.done

pub root_recalled : (p rec st : Bytes) → Accepted p → Seated p → well_formed p st ≡ true → Small st → Small rec → (m : Memory)
    → (recall_s rec (unbound most_nodes) (root p) st (fill_s rec st (unbound most_nodes) (root p) m)).outcome ≡ upd_s rec (unbound most_nodes) (root p) st
unfolding unbound
root_recalled p rec st acc seat well hs hr m =
    let lone = binders_once p acc in
    recall_same rec (root p) seat.once lone (unbound most_nodes) (λ n l. none_bound most_nodes n) st hs _
    (remembers rec st (root p) lone (unbound most_nodes) m) (root_done p rec st acc seat well hs hr)
    ∙ root_same p rec st acc seat well hs hr

-- So a step by the memory is the step of the rules: value, next state and work.
pub step_recalled : (p rec st : Bytes) → Accepted p → Seated p → well_formed p st ≡ true → Small st → Small rec → (m : Memory)
    → (evaluated (eval_s rec st (unbound most_nodes) (root p)) λ v u.
    updated v u rec (recall_s rec (unbound most_nodes) (root p) st (fill_s rec st (unbound most_nodes) (root p) m)).outcome) ≡ step_of p rec st
unfolding step_of
step_recalled p rec st acc seat well hs hr m =
    ap (λ r. evaluated (eval_s rec st (unbound most_nodes) (root p)) λ v u. updated v u rec r) (root_recalled p rec st acc seat well hs hr m)
