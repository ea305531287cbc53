-- A signal, a list of branches and a list of cases have a derivation exactly when the definitions find no fault of scope and of type in them.
-- Assumes nothing.
use Rattle.std.specs.Prelude.{Option, None, ℕ}
use mathlib.Core.Path.{◌≡◌, refl, sym, ap, subst, ◌∙◌}
use mathlib.Core.List.{[], ◌∷◌}
use mathlib.Core.Bool.{Bool, true}
use Prim.Native.Nat.{ℕ}
use borrow.Author.Tests.{eqb-true, eq-eqb}
use Rattle.rules.specs.Values.{maybe_of}
use Rattle.rules.specs.Tree.{Signal, input, time, ext, delay, let_signal, switch, group, until, Branches, no_branch, branch, Cases, no_case, case}
use Rattle.rules.specs.Scope.{Marks, mark, Offers, onward, scope_s, scope_b, scope_c}
use Rattle.rules.specs.Typing.{type_s, bodies_have, types_s, types_b, types_c}
use Rattle.rules.proofs.Static.{both, holds, and_both}
use Rattle.declarative.specs.Contexts.{Context, none, with, Has, beyond, offered}
use Rattle.declarative.specs.TypedS.{TypedS, tp_input, tp_time, tp_ext, tp_delay, tp_signal', tp_switch, tp_continue, tp_until, TypedB, tp_no_branch, tp_branch, TypedC, tp_no_case, tp_case}
use Rattle.declarative.proofs.Joining.{and_true, sooner_nowhere, right}
use Rattle.declarative.proofs.Declares.{DeclaresS, DeclaresB, DeclaresC}
use Rattle.declarative.proofs.Agreeing.{Variables, bound, Continuations, no_continuation, continuations}
use Rattle.declarative.proofs.TypingE.{Faultless, complete_e, sound_e}

-- No fault: a derivation.
mutual
  unfolding scope_s types_s type_s bodies_have

  -- A signal,
  pub complete_s : (ed : ℕ) (τ : ℕ → ℕ) (M : Marks) (O : Offers) (Γ Δ : Context) (s : Signal) → DeclaresS τ s → Variables τ M Γ → Continuations τ O Δ
      → scope_s ed M O s ≡ None → types_s s ≡ None → TypedS ed Γ Δ s (type_s s)
  complete_s ed τ M O Γ Δ (input n c) d v o s h = tp_input refl
  complete_s ed τ M O Γ Δ (time n) d v o s h = tp_time
  complete_s ed τ M O Γ Δ (ext n e) d v o s h = tp_ext (complete_e τ M Γ e d v s h)
  complete_s ed τ M O Γ Δ (delay n k c r) d v o s h =
      let b = both _ _ h in
      tp_delay (sym (eqb-true _ _ (holds _ _ b.0))) (complete_s ed τ M [] Γ none r d v (no_continuation τ) s b.1)
  complete_s ed τ M O Γ Δ (let_signal n t q r) d v o s h =
      let a = both _ _ s in
      let b = both _ _ h in
      let b' = both _ _ b.1 in
      let v' = bound τ M Γ n t d.0 v in
      tp_signal'
      (subst (TypedS ed (with Γ n t) none q) (eqb-true _ _ (holds _ _ b.0))
      (complete_s ed τ (mark M n) [] (with Γ n t) none q d.1 v' (no_continuation τ) a.0 b'.0))
      (complete_s ed τ (mark M n) O (with Γ n t) Δ r d.2 v' o a.1 b'.1)
  complete_s ed τ M O Γ Δ (switch n k t x e y) d v o s h =
      let a = both _ _ s in
      let a' = both _ _ a.1 in
      let b = both _ _ h in
      let b' = both _ _ b.1 in
      let b'' = both _ _ b'.1 in
      let q = and_both _ _ (holds _ _ b.0) in
      tp_switch (complete_s ed τ M [] Γ none x d.1 v (no_continuation τ) a.0 b'.0)
      (subst (TypedS ed Γ none e) (eqb-true _ _ q.0) (complete_s ed τ M [] Γ none e d.2 v (no_continuation τ) a'.0 b''.0))
      (subst (TypedS ed (with Γ n t) none y) (sym (eqb-true _ _ q.1))
      (complete_s ed τ (mark M n) [] (with Γ n t) none y d.3 (bound τ M Γ n t d.0 v) (no_continuation τ) a'.1 b''.1))
  complete_s ed τ M O Γ Δ (group n k body brs) d v o s h =
      let a = both _ _ s in
      let b = both _ _ h in
      let b' = both _ _ b.1 in
      let c = continuations τ ed brs d.1 o in
      tp_continue (complete_b ed τ M (brs ∷ onward ed O) Γ (offered (beyond ed Δ) brs) (type_s body) brs d.1 v c a.1 b'.1 (holds _ _ b.0))
      (complete_s ed τ M (brs ∷ onward ed O) Γ (offered (beyond ed Δ) brs) body d.0 v c a.0 b'.0)
  complete_s ed τ M O Γ Δ (until n r cs) d v o s h =
      let a = both _ _ s in
      let b = both _ _ h in
      tp_until (complete_s ed τ M [] Γ none r d.0 v (no_continuation τ) a.0 b.0) (complete_c ed τ M O Γ Δ cs d.1 v o a.1 b.1)

  -- a list of branches, all of whose bodies have the type,
  pub complete_b : (ed : ℕ) (τ : ℕ → ℕ) (M : Marks) (O : Offers) (Γ Δ : Context) (g : ℕ) (brs : Branches) → DeclaresB τ brs → Variables τ M Γ
      → Continuations τ O Δ → scope_b ed M O brs ≡ None → types_b brs ≡ None → bodies_have g brs ≡ true → TypedB ed Γ Δ brs g
  complete_b ed τ M O Γ Δ g no_branch d v o s h w = tp_no_branch
  complete_b ed τ M O Γ Δ g (branch n t body next) d v o s h w =
      let a = both _ _ s in
      let b = both _ _ h in
      let q = and_both _ _ w in
      tp_branch
      (subst (TypedS ed (with Γ n t) Δ body) (eqb-true _ _ q.0)
      (complete_s ed τ (mark M n) O (with Γ n t) Δ body d.1 (bound τ M Γ n t d.0 v) o a.0 b.0))
      (complete_b ed τ M O Γ Δ g next d.2 v o a.1 b.1 q.1)

  -- a list of cases.
  pub complete_c : (ed : ℕ) (τ : ℕ → ℕ) (M : Marks) (O : Offers) (Γ Δ : Context) (cs : Cases) → DeclaresC τ cs → Variables τ M Γ
      → Continuations τ O Δ → scope_c ed M O cs ≡ None → types_c cs ≡ None → TypedC ed Γ Δ cs
  complete_c ed τ M O Γ Δ no_case d v o s h = tp_no_case
  complete_c ed τ M O Γ Δ (case n event k t next) d v o s h =
      let a = both _ _ s in
      let a' = both _ _ a.1 in
      let b = both _ _ h in
      let b' = both _ _ b.1 in
      tp_case (subst (λ (g : ℕ). Has k g Δ) (sym d.0) (o.given₀ k (holds _ _ a.0)))
      (subst (TypedS ed Γ none event) (eqb-true _ _ (holds _ _ b.0))
      (complete_s ed τ M [] Γ none event d.1 v (no_continuation τ) a'.0 b'.0))
      (complete_c ed τ M O Γ Δ next d.2 v o a'.1 b'.1)

-- A list's bodies have the type.
pub record FaultlessB (scope types : Option ℕ) (have : Bool) : Type 0 where
  pub scoped : scope ≡ None
  pub typed : types ≡ None
  pub one : have ≡ true

-- A derivation: no fault.
mutual
  unfolding scope_s types_s type_s bodies_have

  -- A signal,
  pub sound_s : (ed : ℕ) (τ : ℕ → ℕ) (M : Marks) (O : Offers) {Γ Δ : Context} {s : Signal} {g : ℕ} → TypedS ed Γ Δ s g → DeclaresS τ s → Variables τ M Γ
      → Continuations τ O Δ → Faultless (scope_s ed M O s) (types_s s) (type_s s) g
  sound_s ed τ M O (tp_input e) d v o = record { scoped = refl; typed = refl; is = e }
  sound_s ed τ M O tp_time d v o = record { scoped = refl; typed = refl; is = refl }
  sound_s ed τ M O (tp_ext e) d v o = let a = sound_e τ M e d v in record { scoped = a.scoped; typed = a.typed; is = a.is }
  sound_s ed τ M O (tp_delay {n = n} e s) d v o =
      let a = sound_s ed τ M [] s d v (no_continuation τ) in
      record { scoped = a.scoped; typed = sooner_nowhere (right n (eq-eqb _ _ (a.is ∙ sym e))) a.typed; is = a.is }
  sound_s ed τ M O (tp_signal' {Γ = Γ} {n = n} {g = g} q r) d v o =
      let v' = bound τ M Γ n g d.0 v in
      let a = sound_s ed τ (mark M n) [] q d.1 v' (no_continuation τ) in
      let b = sound_s ed τ (mark M n) O r d.2 v' o in
      record {
        scoped = sooner_nowhere a.scoped b.scoped;
        typed = sooner_nowhere (right n (eq-eqb _ _ a.is)) (sooner_nowhere a.typed b.typed);
        is = b.is;
      }
  sound_s ed τ M O (tp_switch {Γ = Γ} {n = n} {g = g} x e y) d v o =
      let a = sound_s ed τ M [] x d.1 v (no_continuation τ) in
      let b = sound_s ed τ M [] e d.2 v (no_continuation τ) in
      let c = sound_s ed τ (mark M n) [] y d.3 (bound τ M Γ n g d.0 v) (no_continuation τ) in
      record {
        scoped = sooner_nowhere a.scoped (sooner_nowhere b.scoped c.scoped);
        typed = sooner_nowhere (right n (and_true (eq-eqb _ _ b.is) (eq-eqb _ _ (a.is ∙ sym c.is))))
            (sooner_nowhere a.typed (sooner_nowhere b.typed c.typed));
        is = a.is;
      }
  sound_s ed τ M O (tp_continue {n = n} {body = body} {brs = brs} r s) d v o =
      let c = continuations τ ed brs d.1 o in
      let a = sound_s ed τ M (brs ∷ onward ed O) s d.0 v c in
      let b = sound_b ed τ M (brs ∷ onward ed O) r d.1 v c in
      record {
        scoped = sooner_nowhere a.scoped b.scoped;
        typed = sooner_nowhere (right n (ap (λ (t : ℕ). bodies_have t brs) a.is ∙ b.one)) (sooner_nowhere a.typed b.typed);
        is = a.is;
      }
  sound_s ed τ M O (tp_until s cs) d v o =
      let a = sound_s ed τ M [] s d.0 v (no_continuation τ) in
      let b = sound_c ed τ M O cs d.1 v o in
      record { scoped = sooner_nowhere a.scoped b.0; typed = sooner_nowhere a.typed b.1; is = a.is }

  -- a list of branches,
  pub sound_b : (ed : ℕ) (τ : ℕ → ℕ) (M : Marks) (O : Offers) {Γ Δ : Context} {brs : Branches} {g : ℕ} → TypedB ed Γ Δ brs g → DeclaresB τ brs
      → Variables τ M Γ → Continuations τ O Δ → FaultlessB (scope_b ed M O brs) (types_b brs) (bodies_have g brs)
  sound_b ed τ M O tp_no_branch d v o = record { scoped = refl; typed = refl; one = refl }
  sound_b ed τ M O (tp_branch {Γ = Γ} {n = n} {t = t} s r) d v o =
      let a = sound_s ed τ (mark M n) O s d.1 (bound τ M Γ n t d.0 v) o in
      let b = sound_b ed τ M O r d.2 v o in
      record {
        scoped = sooner_nowhere a.scoped b.scoped;
        typed = sooner_nowhere a.typed b.typed;
        one = and_true (eq-eqb _ _ a.is) b.one;
      }

  -- a list of cases.
  pub sound_c : (ed : ℕ) (τ : ℕ → ℕ) (M : Marks) (O : Offers) {Γ Δ : Context} {cs : Cases} → TypedC ed Γ Δ cs → DeclaresC τ cs → Variables τ M Γ
      → Continuations τ O Δ → (scope_c ed M O cs ≡ None) × (types_c cs ≡ None)
  sound_c ed τ M O tp_no_case d v o = (refl, refl)
  sound_c ed τ M O (tp_case {n = n} {k = k} {g = g} i e r) d v o =
      let w = o.offers k g i in
      let a = sound_s ed τ M [] e d.1 v (no_continuation τ) in
      let b = sound_c ed τ M O r d.2 v o in (
        sooner_nowhere (right n w.0) (sooner_nowhere a.scoped b.0),
        sooner_nowhere (right n (eq-eqb _ _ (a.is ∙ ap maybe_of (w.1 ∙ sym d.0)))) (sooner_nowhere a.typed b.1),
      )
