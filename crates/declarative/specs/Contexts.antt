-- Contexts: document 000's variable contexts and continuation contexts, which give types to names. A name is a node's number: a variable's is
-- its binder's, a continuation's is its branch's.
-- Assumes nothing: these are definitions.
use Rattle.std.specs.Prelude.{ℕ, zero, suc}
use Rattle.rules.specs.Tree.{Branches, no_branch, branch}

-- "Γ ::= [] | Γ, x : g" and "Δ ::= [] | Δ, k : g".
pub data Context : Type 0 where
  none : Context
  with : (Γ : Context) (x g : ℕ) → Context

-- Γ gives x the type g. ("Γ can be viewed as a set, so the order of bindings does not make a difference.")
pub data Has (x g : ℕ) : Context → Type 0 where
  here : {Γ : Context} → Has x g (with Γ x g)
  earlier : {Γ : Context} {y h : ℕ} → Has x g Γ → Has x g (with Γ y h)

-- What a group hands on: nothing in edition one, all in edition two.
unfoldable pub beyond : ℕ → Context → Context
beyond zero Δ = none
beyond (suc ed) Δ = Δ

-- Δ, {kⱼ : gⱼ}: the branches of a group, each with the type of its argument, beside what is given.
unfoldable pub offered : Context → Branches → Context
offered Δ no_branch = Δ
offered Δ (branch n t body next) = with (offered Δ next) n t
