-- The typing rules of signals: Γ; Δ ⊢ s : g, written TypedS ed Γ Δ s g, in an edition. Document 000's figures 2, 5 and 6, by its names. Where document 01's way
-- up from a case does not go on (a delay, a let's definition, the three parts of a switch) Δ is [], as in tp-until.
-- Assumes nothing: these are definitions.
use Rattle.std.specs.Prelude.{◌≡◌, ℕ}
use Rattle.rules.specs.Values.{int_t, maybe_of, type_of}
use Rattle.rules.specs.Layout.{channel_type}
use Rattle.rules.specs.Tree.{Expr, Signal, input, time, ext, delay, let_signal, switch, group, until, Branches, no_branch, branch, Cases, no_case, case}
use Rattle.rules.specs.declared.Value.{Value}
use Rattle.declarative.specs.Contexts.{Context, none, with, Has, beyond, offered}
use Rattle.declarative.specs.TypedE.{TypedE}

mutual
  pub data TypedS (ed : ℕ) : Context → Context → Signal → ℕ → Type 0 where
    -- ────────────────────  g the channel's type: "0-3 give int, 4-7 maybe int"
    --  Γ; Δ ⊢ input c : g
    tp_input : {Γ Δ : Context} {n c g : ℕ} → channel_type c ≡ g → TypedS ed Γ Δ (input n c) g
    -- ───────────────────
    --  Γ; Δ ⊢ time : int
    tp_time : {Γ Δ : Context} {n : ℕ} → TypedS ed Γ Δ (time n) int_t
    --  Γ ⊢ e : g
    -- ──────────────────
    --  Γ; Δ ⊢ ext e : g
    tp_ext : {Γ Δ : Context} {n g : ℕ} {e : Expr} → TypedE Γ e g → TypedS ed Γ Δ (ext n e) g
    --  ⊢ v : g    Γ; [] ⊢ s : g
    -- ───────────────────────────
    --  Γ; Δ ⊢ delay v s : g
    tp_delay : {Γ Δ : Context} {n k g : ℕ} {v : Value} {s : Signal} → type_of v ≡ g → TypedS ed Γ none s g → TypedS ed Γ Δ (delay n k v s) g
    --  Γ, x : g₁; [] ⊢ s₁ : g₁    Γ, x : g₁; Δ ⊢ s₂ : g₂
    -- ────────────────────────────────────────────────────
    --  Γ; Δ ⊢ let signal x : g₁ = s₁ in s₂ : g₂
    tp_signal' : {Γ Δ : Context} {n g h : ℕ} {d b : Signal} → TypedS ed (with Γ n g) none d g → TypedS ed (with Γ n g) Δ b h
        → TypedS ed Γ Δ (let_signal n g d b) h
    --  Γ; [] ⊢ s₁ : g₁    Γ; [] ⊢ ev : g₂⊥    Γ, x : g₂; [] ⊢ s₂ : g₁
    -- ─────────────────────────────────────────────────────────────────
    --  Γ; Δ ⊢ s₁ switch on x : g₂ = ev in s₂ : g₁
    tp_switch : {Γ Δ : Context} {n k g h : ℕ} {x e y : Signal} → TypedS ed Γ none x h → TypedS ed Γ none e (maybe_of g) → TypedS ed (with Γ n g) none y h
        → TypedS ed Γ Δ (switch n k g x e y) h
    --  Δ' = Δ⁺, {kⱼ : gⱼ}    {Γ, xⱼ : gⱼ; Δ' ⊢ sⱼ : g}    Γ; Δ' ⊢ s : g
    -- ────────────────────────────────────────────────────────────────────  Δ⁺ is [] in edition one, Δ in edition two (document 002, t6)
    --  Γ; Δ ⊢ let continue {kⱼ xⱼ = sⱼ} in s : g
    tp_continue : {Γ Δ : Context} {n k g : ℕ} {body : Signal} {brs : Branches} → TypedB ed Γ (offered (beyond ed Δ) brs) brs g → TypedS ed Γ (offered (beyond ed Δ) brs) body g
        → TypedS ed Γ Δ (group n k body brs) g
    --  Γ; [] ⊢ s : g    {Γ; [] ⊢ evⱼ : gⱼ⊥    Δ(kⱼ) = gⱼ}
    -- ──────────────────────────────────────────────────────
    --  Γ; Δ ⊢ s until {evⱼ ⇒ kⱼ} : g
    tp_until : {Γ Δ : Context} {n g : ℕ} {s : Signal} {cs : Cases} → TypedS ed Γ none s g → TypedC ed Γ Δ cs → TypedS ed Γ Δ (until n s cs) g

  -- {Γ, xⱼ : gⱼ; Δ' ⊢ sⱼ : g}: every body of the list has type g.
  pub data TypedB (ed : ℕ) : Context → Context → Branches → ℕ → Type 0 where
    tp_no_branch : {Γ Δ : Context} {g : ℕ} → TypedB ed Γ Δ no_branch g
    tp_branch : {Γ Δ : Context} {n t g : ℕ} {body : Signal} {next : Branches} → TypedS ed (with Γ n t) Δ body g → TypedB ed Γ Δ next g
        → TypedB ed Γ Δ (branch n t body next) g

  -- {Γ; [] ⊢ evⱼ : gⱼ⊥    Δ(kⱼ) = gⱼ}: every event of the list is maybe of its target's argument type.
  pub data TypedC (ed : ℕ) : Context → Context → Cases → Type 0 where
    tp_no_case : {Γ Δ : Context} → TypedC ed Γ Δ no_case
    tp_case : {Γ Δ : Context} {n k t g : ℕ} {event : Signal} {next : Cases} → Has k g Δ → TypedS ed Γ none event (maybe_of g) → TypedC ed Γ Δ next
        → TypedC ed Γ Δ (case n event k t next)
