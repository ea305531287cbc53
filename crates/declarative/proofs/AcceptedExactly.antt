-- What check accepts is exactly what meets document 01's rules of format, shape, scope, types and readiness.
-- Assumes nothing.
use Rattle.std.specs.Prelude.{Ok, Err}
use Rattle.rules.specs.Verdicts.{Verdict, accepted_with}
use mathlib.Core.Path.{◌≡◌, refl, ap, subst, ◌∙◌, sym}
use mathlib.Core.List.{[]}
use mathlib.Core.Bool.{true}
use Prim.Native.Nat.{ℕ, ◌-◌}
use native.Mathlib.Omega.{arith}
use Rattle.rules.specs.Bytes.{Bytes}
use Rattle.rules.specs.Layout.{edition, most_nodes, nodes, cells, type_at}
use Rattle.rules.specs.Kinds.{is_signal}
use Rattle.rules.specs.Shaped.{NodeOf}
use Rattle.rules.specs.Tree.{root}
use Rattle.rules.specs.Scope.{unmarked, scope_fault}
use Rattle.rules.specs.Typing.{type_s, type_fault}
use Rattle.rules.specs.Ready.{ready_fault}
use Rattle.rules.specs.Accepted.{Accepted}
use Rattle.rules.specs.Bound.{bound}
use Rattle.rules.specs.Calls.{program_verdict, check_answer, check_call}
use Rattle.rules.proofs.Static.{not_both}
use Rattle.rules.proofs.Established.{root_signal}
use Rattle.rules.proofs.Verdicts.{accepted, fine_verdict}
use Rattle.rules.proofs.Rooted.{some_node, root_of}
use Rattle.rules.proofs.Same.{same_accepted}
use Rattle.declarative.specs.Contexts.{none}
use Rattle.declarative.specs.TypedS.{TypedS}
use Rattle.declarative.specs.Meets.{Meets}
use Rattle.declarative.specs.MeetsTable.{MeetsTable}
use Rattle.declarative.specs.Exactly.{Accepts, AcceptedExactly}
use Rattle.declarative.proofs.Readiness.{ready_s_lem, s_ready}
use Rattle.declarative.proofs.Agreeing.{Variables, none_has, no_continuation}
use Rattle.declarative.proofs.TypingE.{Faultless}
use Rattle.declarative.proofs.TypingS.{complete_s, sound_s}
use Rattle.declarative.proofs.FromTable.{declared}
use Rattle.declarative.proofs.EachShape.{each_shape, shape_each}
use Rattle.declarative.proofs.EachRecord.{each_format, format_each}
use Rattle.declarative.proofs.Free.{nowhere_right, right_nowhere}
use Rattle.declarative.proofs.ScopeExactly.{unmarked_none, unmarked_long, finds_scope}
use Rattle.declarative.proofs.TypesExactly.{finds_types, finds_ready}

-- Above the root Γ is [].
no_variable : (τ : ℕ → ℕ) → Variables τ (unmarked most_nodes) none
no_variable τ = record {
  long = unmarked_long most_nodes;
  marked = λ x g h. none_has h;
  given₀ = λ x e. absurd (not_both (subst (λ b. b ≡ true) (unmarked_none most_nodes x) e));
}

-- The root's derivation, of the type that check answers.
pub root_typed : (p : Bytes) → Accepted p → TypedS (edition p) none none (root p) (type_s (root p))
unfolding root scope_fault type_fault
root_typed p a =
    complete_s (edition p) (type_at p) (unmarked most_nodes) [] none none (root p) (declared p (nodes p - 1) (root_of p a)) (no_variable (type_at p))
    (no_continuation (type_at p)) a.scope_right a.types_right

-- And the other way: a derivation of any type is without fault, and its type is that one.
pub typed_root : (p : Bytes) (g : ℕ) → NodeOf is_signal p (nodes p - 1) → TypedS (edition p) none none (root p) g
    → Faultless (scope_fault p) (type_fault p) (type_s (root p)) g
unfolding root scope_fault type_fault
typed_root p g w t =
    let f = sound_s (edition p) (type_at p) (unmarked most_nodes) [] t (declared p (nodes p - 1) w) (no_variable (type_at p)) (no_continuation (type_at p)) in
    record { scoped = f.scoped; typed = f.typed; is = f.is }

-- Accepted: it meets the rules.
pub meets : (p : Bytes) → program_verdict p ≡ Ok tt → Meets p
unfolding ready_fault
meets p e =
    let a = accepted p e in
    let s = each_shape p a.shape_right in
    record {
      formatted = each_format p a.formed;
      shaped = s;
      type = type_s (root p);
      typed = root_typed p a;
      ready = ready_s_lem (root p) a.ready_right;
    }

-- It meets the rules: accepted.
pub accepts : (p : Bytes) → Meets p → program_verdict p ≡ Ok tt
unfolding ready_fault
accepts p m =
    let f = format_each p m.formatted in
    let s = shape_each p m.shaped in
    let t = typed_root p m.type (root_signal p f.length_right s (some_node p f)) m.typed in
    fine_verdict p (record { formed = f; shape_right = s; scope_right = t.scoped; types_right = t.typed; ready_right = s_ready m.ready })

-- The root's type is the only one that it has.
root_type : (p : Bytes) (m : Meets p) → type_s (root p) ≡ m.type
root_type p m =
    let f = format_each p m.formatted in
    (typed_root p m.type (root_signal p f.length_right (shape_each p m.shaped) (some_node p f)) m.typed).is

-- Accepted: it meets every sentence over the table.
pub meets_table : (p : Bytes) → program_verdict p ≡ Ok tt → MeetsTable p
meets_table p e =
    let a = accepted p e in
    let w = root_of p a in
    let s = each_shape p a.shape_right in
    record {
      formatted = each_format p a.formed;
      shaped = s;
      scoped = record { each = nowhere_right _ _ _ (finds_scope p w s) a.scope_right };
      typed = record { each = nowhere_right _ _ _ (finds_types p w s) a.types_right };
      ready = record { each = nowhere_right _ _ _ (finds_ready p w s) a.ready_right };
    }

-- It meets every sentence over the table: accepted.
pub table_accepts : (p : Bytes) → MeetsTable p → program_verdict p ≡ Ok tt
table_accepts p m =
    let f = format_each p m.formatted in
    let e = shape_each p m.shaped in
    let w = root_signal p f.length_right e (some_node p f) in
    let s = m.shaped in
    fine_verdict p
    (record {
      formed = f;
      shape_right = e;
      scope_right = right_nowhere _ _ _ (finds_scope p w s) m.scoped.each;
      types_right = right_nowhere _ _ _ (finds_types p w s) m.typed.each;
      ready_right = right_nowhere _ _ _ (finds_ready p w s) m.ready.each;
    })

-- Check's answer follows the verdict.
answers : (p : Bytes) → program_verdict p ≡ Ok tt → Accepts p
unfolding check_call check_answer
answers p e = record { count = nodes p; cells = cells p; most = bound p; type = type_s (root p); answer = ap (check_answer p) e }

-- What an answer that accepts says.
record Answered (p : Bytes) (type : ℕ) : Type 0 where
  fine : program_verdict p ≡ Ok tt
  is : type ≡ type_s (root p)

-- And the verdict follows check's answer.
answered : (p : Bytes) (a : Accepts p) → Answered p a.type
unfolding check_call check_answer
answered p a = go (program_verdict p) refl a.answer
  where
    go : (v : Verdict) → program_verdict p ≡ v → check_answer p v ≡ accepted_with a.count a.cells a.most a.type → Answered p a.type
    go (Ok _) f e = record { fine = f; is = sym (same_accepted e).3 }
    go (Err r) f e = absurd (let z : ◌≡◌ {A = ℕ} 0 1 = cc in omega arith)

-- Accepted exactly when, in both forms.
pub accepted_exactly : (p : Bytes) → AcceptedExactly p
accepted_exactly p = record {
  by_verdict = record { only_if = λ a. (answered p a).fine; if₀ = answers p };
  by_rules = record { only_if = λ a. meets p (answered p a).fine; if₀ = λ m. answers p (accepts p m) };
  by_sentences = record { only_if = λ a. meets_table p (answered p a).fine; if₀ = λ m. answers p (table_accepts p m) };
  one_type = λ a m. (answered p a).is ∙ root_type p m;
}
