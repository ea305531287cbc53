-- An expression has a derivation exactly when the definitions find no fault of scope and of type in it, and its type is the definition's.
-- Assumes nothing.
use Rattle.std.specs.Prelude.{Option, None, ℕ}
use mathlib.Core.Path.{◌≡◌, refl, sym, ap, subst, ◌∙◌}
use mathlib.Core.Bool.{true}
use Prim.Native.Nat.{ℕ}
use native.Mathlib.Omega.{arith}
use borrow.Author.Tests.{eqb-true, eq-eqb, ne_eqb, le-leb, lt-leb}
use Rattle.rules.specs.Values.{maybe_of, is_plain}
use Rattle.rules.specs.Operations.{operand_type, result_type}
use Rattle.rules.specs.Tree.{Expr, variable, constant, operation, negation, choice, just, taking}
use Rattle.rules.specs.Scope.{Marks, mark, scope_e}
use Rattle.rules.specs.Typing.{just_type, type_e, types_e}
use Rattle.rules.proofs.Static.{both, holds, and_both}
use Rattle.declarative.specs.Contexts.{Context, with, Has}
use Rattle.declarative.specs.TypedE.{Takes, number, quotient, comparison, logical, TypedE, tp_variable, tp_constant, tp_operation, tp_not, tp_if, tp_just, tp_take}
use Rattle.declarative.proofs.Joining.{and_true, sooner_nowhere, right}
use Rattle.declarative.proofs.Declares.{DeclaresE}
use Rattle.declarative.proofs.Agreeing.{Variables, bound}

-- No fault of scope or of type, and the type is g.
pub record Faultless (scope types : Option ℕ) (type g : ℕ) : Type 0 where
  pub scoped : scope ≡ None
  pub typed : types ≡ None
  pub is : type ≡ g

-- What an operation takes and gives is what the definitions say.
pub takes_operand : {k g h : ℕ} → Takes k g h → operand_type k ≡ g
unfolding operand_type
takes_operand (number {k = k} l u) = simp (le-leb k 23 (omega arith))
takes_operand quotient = refl
takes_operand (comparison {k = k} l u) = simp (le-leb k 23 u)
takes_operand (logical {k = k} l u) = simp (lt-leb k 23 (omega arith))

-- And the type that it gives.
pub takes_result : {k g h : ℕ} → Takes k g h → result_type k ≡ h
unfolding result_type
takes_result (number {k = k} l u) = simp (le-leb k 20 u)
takes_result quotient = refl
takes_result (comparison {k = k} l u) = simp (lt-leb k 20 (omega arith), ne_eqb k 21 (λ e. omega arith))
takes_result (logical {k = k} l u) = simp (lt-leb k 20 (omega arith), ne_eqb k 21 (λ e. omega arith))

-- Just of a plain type is its maybe.
pub just_plain : (t : ℕ) → is_plain t ≡ true → just_type t ≡ maybe_of t
unfolding just_type
just_plain t e = simp e

-- No fault: a derivation.
pub complete_e : (τ : ℕ → ℕ) (M : Marks) (Γ : Context) (e : Expr) → DeclaresE τ e → Variables τ M Γ → scope_e M e ≡ None → types_e e ≡ None
    → TypedE Γ e (type_e e)
unfolding scope_e types_e type_e
complete_e τ M Γ (variable n b t) d v s h = tp_variable (subst (λ (g : ℕ). Has b g Γ) (sym d) (v.given₀ b (holds _ _ s)))
complete_e τ M Γ (constant n c) d v s h = tp_constant
complete_e τ M Γ (operation n k x y) d v s h =
    let a = both _ _ s in
    let b = both _ _ h in
    let c = both _ _ b.1 in
    let q = and_both _ _ (holds _ _ b.0) in
    tp_operation d.0 (subst (TypedE Γ x) (eqb-true _ _ q.0) (complete_e τ M Γ x d.1 v a.0 c.0))
    (subst (TypedE Γ y) (eqb-true _ _ q.1) (complete_e τ M Γ y d.2 v a.1 c.1))
complete_e τ M Γ (negation n x) d v s h =
    let b = both _ _ h in
    tp_not (subst (TypedE Γ x) (eqb-true _ _ (holds _ _ b.0)) (complete_e τ M Γ x d v s b.1))
complete_e τ M Γ (choice n c x y) d v s h =
    let a = both _ _ s in
    let a' = both _ _ a.1 in
    let b = both _ _ h in
    let b' = both _ _ b.1 in
    let b'' = both _ _ b'.1 in
    let q = and_both _ _ (holds _ _ b.0) in
    tp_if (subst (TypedE Γ c) (eqb-true _ _ q.0) (complete_e τ M Γ c d.0 v a.0 b'.0))
    (complete_e τ M Γ x d.1 v a'.0 b''.0)
    (subst (TypedE Γ y) (sym (eqb-true _ _ q.1)) (complete_e τ M Γ y d.2 v a'.1 b''.1))
complete_e τ M Γ (just n x) d v s h =
    let b = both _ _ h in
    let e = holds _ _ b.0 in
    subst (TypedE Γ (just n x)) (sym (just_plain (type_e x) e)) (tp_just e (complete_e τ M Γ x d v s b.1))
complete_e τ M Γ (taking n t m x y) d v s h =
    let a = both _ _ s in
    let a' = both _ _ a.1 in
    let b = both _ _ h in
    let b' = both _ _ b.1 in
    let b'' = both _ _ b'.1 in
    let q = and_both _ _ (holds _ _ b.0) in
    tp_take (subst (TypedE Γ m) (eqb-true _ _ q.0) (complete_e τ M Γ m d.1 v a.0 b'.0))
    (complete_e τ M Γ x d.2 v a'.0 b''.0)
    (subst (TypedE (with Γ n t) y) (sym (eqb-true _ _ q.1))
    (complete_e τ (mark M n) (with Γ n t) y d.3 (bound τ M Γ n t d.0 v) a'.1 b''.1))

-- A derivation: no fault.
pub sound_e : (τ : ℕ → ℕ) (M : Marks) {Γ : Context} {e : Expr} {g : ℕ} → TypedE Γ e g → DeclaresE τ e → Variables τ M Γ
    → Faultless (scope_e M e) (types_e e) (type_e e) g
unfolding scope_e types_e type_e
sound_e τ M (tp_variable {n = n} {x = x} {g = g} h) d v =
    let k = v.marked x g h in
    record { scoped = right n k.0; typed = refl; is = d ∙ sym k.1 }
sound_e τ M tp_constant d v = record { scoped = refl; typed = refl; is = refl }
sound_e τ M (tp_operation {n = n} t x y) d v =
    let a = sound_e τ M x d.1 v in
    let b = sound_e τ M y d.2 v in
    let o = sym (takes_operand t) in
    record {
      scoped = sooner_nowhere a.scoped b.scoped;
      typed = sooner_nowhere (right n (and_true (eq-eqb _ _ (a.is ∙ o)) (eq-eqb _ _ (b.is ∙ o)))) (sooner_nowhere a.typed b.typed);
      is = takes_result t;
    }
sound_e τ M (tp_not {n = n} x) d v =
    let a = sound_e τ M x d v in
    record { scoped = a.scoped; typed = sooner_nowhere (right n (eq-eqb _ _ a.is)) a.typed; is = refl }
sound_e τ M (tp_if {n = n} c x y) d v =
    let a = sound_e τ M c d.0 v in
    let b = sound_e τ M x d.1 v in
    let f = sound_e τ M y d.2 v in
    record {
      scoped = sooner_nowhere a.scoped (sooner_nowhere b.scoped f.scoped);
      typed = sooner_nowhere (right n (and_true (eq-eqb _ _ a.is) (eq-eqb _ _ (b.is ∙ sym f.is))))
          (sooner_nowhere a.typed (sooner_nowhere b.typed f.typed));
      is = b.is;
    }
sound_e τ M (tp_just {n = n} p x) d v =
    let a = sound_e τ M x d v in
    let p' = ap is_plain a.is ∙ p in
    record {
      scoped = a.scoped;
      typed = sooner_nowhere (right n p') a.typed;
      is = just_plain _ p' ∙ ap maybe_of a.is;
    }
sound_e τ M (tp_take {Γ = Γ} {n = n} {g = g} m x y) d v =
    let a = sound_e τ M m d.1 v in
    let b = sound_e τ M x d.2 v in
    let f = sound_e τ (mark M n) y d.3 (bound τ M Γ n g d.0 v) in
    record {
      scoped = sooner_nowhere a.scoped (sooner_nowhere b.scoped f.scoped);
      typed = sooner_nowhere (right n (and_true (eq-eqb _ _ a.is) (eq-eqb _ _ (b.is ∙ sym f.is))))
          (sooner_nowhere a.typed (sooner_nowhere b.typed f.typed));
      is = b.is;
    }
