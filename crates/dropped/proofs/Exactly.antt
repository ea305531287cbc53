-- No entry is wrong exactly when the rule holds; and then old and new answer alike.
-- Assumes nothing.
use Rattle.std.specs.Prelude.{Some, None, Option}
use mathlib.Core.Path.{◌≡◌, refl, ap}
use mathlib.Core.Bool.{Bool, true, false, not}
use Prim.Native.Nat.{ℕ, zero, suc, ◌+◌, ◌-◌, ◌<◌, ◌≤◌}
use native.Mathlib.Omega.{arith}
use Rattle.rules.specs.Bytes.{Bytes, ◌and◌, first_from, first}
use Rattle.rules.specs.Layout.{nodes, kind_at, a_at, b_at, c_at}
use Rattle.rules.specs.Kinds.{is_signal, is_branch, is_case}
use Rattle.rules.specs.Shaped.{Shaped, NodeOf}
use Rattle.rules.specs.Accepted.{Accepted}
use Rattle.rules.specs.Bound.{bound}
use borrow.Author.Tests.{eqb-true}
use Rattle.rules.proofs.Kids.{not_not}
use Rattle.rules.proofs.Established.{nowhere_from}
use Rattle.rules.proofs.Signals.{group_kids, branch_next}
use Rattle.rules.proofs.Rooted.{root_of, shaped_of}
use Rattle.rules.proofs.Verdicts.{fine_verdict}
use Rattle.promises.specs.Small.{Small}
use Rattle.declarative.specs.WayUp.{Sees, enters, goes_up, GroupOf, arrives, passes, passes_on, Arrives, by_group_body, by_group_branches, BranchOf, this, later}
use Rattle.declarative.proofs.AcceptedExactly.{meets_table}
use Rattle.dropped.specs.Answers.{AnswersAlike}
use Rattle.dropped.specs.Pairing.{Pairing, old_of, entry_right, entry_wrong, pairing_fault}
use Rattle.dropped.specs.Rule.{Rule}
use Rattle.dropped.proofs.FromPairing.{pairing_less}
use Rattle.dropped.proofs.ToPairing.{entries}
use Rattle.dropped.proofs.RuleLess.{rule_less, less_rule}
use Rattle.dropped.proofs.NoLarger.{no_larger}
use Rattle.dropped.proofs.SameRuns.{answers_alike}

-- A binder that is seen is a node.
seen_inside : (p : Bytes) (x n : ℕ) → Sees p x n → x < nodes p
seen_inside p x n (enters l b) = l
seen_inside p x n (goes_up m l a s) = seen_inside p x m s

-- A branch of a group's list is a node.
branch_inside : (p : Bytes) (k n : ℕ) → NodeOf is_branch p n → BranchOf p k n → k < nodes p
branch_inside p k n w this = w.inside
branch_inside p k n w (later d h) = branch_inside p k (b_at p n) (branch_next p n w d).node h

record IsGroup (p : Bytes) (g : ℕ) : Type 0 where
  inside : g < nodes p
  kind : kind_at p g ≡ 7

arrived : (p : Bytes) (g n : ℕ) → Arrives p g n → kind_at p g ≡ 7
arrived p g n (by_group_body e f) = e
arrived p g n (by_group_branches e f) = e

reached : (p : Bytes) (g n : ℕ) → GroupOf p g n → IsGroup p g
reached p g n (arrives l b) = record { inside = l; kind = arrived p g n b }
reached p g n (passes m l a s) = reached p g m s
reached p g n (passes_on m l e a s) = reached p g m s

group_node : (p : Bytes) (g : ℕ) → Shaped p → IsGroup p g → NodeOf is_signal p g
unfolding is_signal ◌and◌
group_node p g s r = record { shaped = s; inside = r.inside; sorted = ap is_signal r.kind }

case_kind : (p : Bytes) (i : ℕ) → NodeOf is_case p i → kind_at p i ≡ 10
unfolding is_case
case_kind p i w = eqb-true (kind_at p i) 10 w.sorted

-- The rule holds: no entry is wrong.
pub rule_right : (p q : Bytes) (π : ℕ → ℕ) → Accepted p → Accepted q → Rule p q π → (i : ℕ) → i < nodes q → entry_right p q π i ≡ true
rule_right p q π pa qa r =
    let m = meets_table q (fine_verdict q qa) in
    let s = shaped_of q qa in
    entries p q π pa.formed qa.formed (shaped_of p pa) s
    (λ i w e. seen_inside q (a_at q i) i ((m.scoped.each i w.inside).variable e))
    (λ i w.
    let t = (m.scoped.each i w.inside).case (case_kind q i w) in
    let g = reached q t.group₀ t.until₀ t.its_group in
    branch_inside q (c_at q i) (b_at q t.group₀) (group_kids q t.group₀ (group_node q t.group₀ s g) g.kind).1.node t.its_branch)
    (record { shaped = s; once = λ n l. (m.shaped.each n (omega arith)).once l }) (root_of p pa) (root_of q qa) (rule_less p q π r)

-- No entry is wrong: the rule holds.
pub right_rule : (p q : Bytes) (π : ℕ → ℕ) → Accepted p → Accepted q → ((i : ℕ) → i < nodes q → entry_right p q π i ≡ true) → Rule p q π
right_rule p q π pa qa h = less_rule p q π pa qa (pairing_less p q π pa qa h)

-- No first place: the test fails everywhere.
all_false : (test : ℕ → Bool) (left k : ℕ) → ((i : ℕ) → k ≤ i → i < k + left → test i ≡ false) → first_from test k left ≡ None
unfolding first_from
all_false test zero k h = refl
all_false test (suc left) k h = go (test k) (h k (omega arith) (omega arith)) (all_false test left (suc k) (λ i a b. h i (omega arith) (omega arith)))
  where
    go : (b : Bool) → b ≡ false → first_from test (suc k) left ≡ None → ◌≡◌ {A = Option ℕ} (elim b [ true ↦ Some k | false ↦ first_from test (suc k) left ]) None
    go b e f = rw e f

-- Code 28 does not occur exactly when the rule holds.
pub record PairedExactly (p q : Bytes) (pairing : Pairing) : Type 0 where
  pub only_if : pairing_fault p q pairing ≡ None → Rule p q (old_of pairing)
  pub if₀ : Rule p q (old_of pairing) → pairing_fault p q pairing ≡ None

pub paired_exactly : (p q : Bytes) (pairing : Pairing) → Accepted p → Accepted q → PairedExactly p q pairing
unfolding pairing_fault entry_wrong first
paired_exactly p q pairing pa qa = record {
  only_if = λ e. right_rule p q (old_of pairing) pa qa λ i l. not_not _ (nowhere_from (entry_wrong p q pairing) (nodes q) 0 i e (omega arith) (omega arith));
  if₀ = λ r. all_false (entry_wrong p q pairing) (nodes q) 0 λ i a b. ap not (rule_right p q (old_of pairing) pa qa r i (omega arith));
}

-- What is accepted has equal outputs, and N and the bound are no larger.
pub record Tidier (p q : Bytes) : Type 0 where
  pub alike : AnswersAlike p q
  pub fewer : nodes q ≤ nodes p
  pub less : bound q ≤ bound p

pub paired_alike : (p q : Bytes) (pairing : Pairing) → Small p → Small q → Accepted p → Accepted q → pairing_fault p q pairing ≡ None → Tidier p q
unfolding pairing_fault entry_wrong first
paired_alike p q pairing hp hq pa qa e =
    let x = pairing_less p q (old_of pairing) pa qa λ i l. not_not _ (nowhere_from (entry_wrong p q pairing) (nodes q) 0 i e (omega arith) (omega arith)) in
    let n = no_larger p q pa qa x in
    record { alike = answers_alike p q hp hq pa qa x; fewer = n.0; less = n.1 }
