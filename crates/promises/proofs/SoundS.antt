-- A signal that is in scope, typed and ready is never stuck when it is evaluated in a well-formed state, and gives a value of its type.
-- Assumes nothing.
use Rattle.std.specs.Prelude.{if◌then◌else◌, None}
use mathlib.Core.Path.{◌≡◌, sym, ap, ◌∙◌}
use mathlib.Core.List.{[], ◌∷◌}
use mathlib.Core.Bool.{Bool, true, false}
use Prim.Native.Nat.{ℕ, ◌+◌, ◌-◌, ◌*◌}
use native.Mathlib.Decide.{ℕ_discrete}
use lib.Dec.{eqb, ltb}
use lib.ListN.{length}
use borrow.Author.Tests.{eqb-true}
use Rattle.rules.specs.Bytes.{Bytes, u32_at}
use Rattle.rules.specs.Values.{int_t, maybe_of, type_of, middle_in}
use Rattle.rules.specs.Layout.{cell, held, is_clear, branch_in, channel_value, channel_type, word_on, flag_on, event_on, time_in}
use Rattle.rules.specs.Work.{give, ◌then◌}
use Rattle.rules.specs.Tree.{Signal, input, time, ext, delay, let_signal, switch, group, until, Branches, no_branch, branch}
use Rattle.rules.specs.Scope.{Marks, mark, is_marked, Offers, onward, scope_s, scope_b}
use Rattle.rules.specs.Typing.{type_s, types_s, types_b, bodies_have}
use Rattle.rules.specs.Ready.{needs_s, needs_b, ready_s, ready_b}
use Rattle.rules.specs.WellFormed.{content_fits, well_s, well_b}
use Rattle.rules.specs.Evaluate.{Env, bind, eval_s, eval_b}
use Rattle.rules.specs.declared.Value.{Value}
use Rattle.rules.specs.declared.Value.TheVariants.{Plain, Absent, Present}
use Rattle.rules.specs.Evaluated.{Evaluated}
use Rattle.rules.proofs.Static.{both, kept, holds, and_both, or_left, or_right, not_both}
use Rattle.promises.specs.Small.{Small}
use Rattle.promises.specs.Valid.{Valid}
use Rattle.promises.specs.Sits.{SitsS, SitsB}
use Rattle.promises.proofs.SmallLaws.{u32_small, u64_small}
use Rattle.promises.proofs.ValidLaws.{IsType, is_plain_lem, OfType, valid_type, int_of, some_of, none_of, content_valid}
use Rattle.promises.proofs.SoundE.{Gives, Bound, Known, after_gives, rule_gives, give_gives, retype, known_part, known_bind, bind_length, mark_other, sound_e}

-- What a cell, a channel and the time give.
pub held_of : (st : Bytes) (k t middle : ℕ) → Small st → IsType t → content_fits t middle (cell st k) ≡ true → OfType (held st k) t
unfolding held cell
held_of st k t middle s is e = content_valid t middle _ is (u64_small st _ s) e

-- A channel gives a value of its type.
channel_of : (rec : Bytes) (c : ℕ) → Small rec → OfType (channel_value rec c) (channel_type c)
unfolding channel_value channel_type maybe_of word_on event_on
channel_of rec c s = go (ltb c 4) (eqb (flag_on rec (c - 4)) 1)
  where
    go : (p q : Bool)
        → OfType (if p then Plain 3 (u32_at rec (4 + 4 * c)) else if q then Present 7 (u32_at rec (24 + 4 * (c - 4))) else Absent 7) (if p then 3 else 7)
    go true q = int_of _ (u32_small rec _ s)
    go false true = some_of _ (u32_small rec _ s)
    go false false = none_of

-- The time is an int.
time_of : (rec : Bytes) → Small rec → OfType (Plain int_t (time_in rec)) int_t
unfolding time_in
time_of rec s = int_of _ (u32_small rec 0 s)

-- A value of a type is given.
of_gives : (v : Value) {t : ℕ} → OfType v t → Gives (give v) t
of_gives v o = give_gives v o.valid o.typed

-- First one evaluation, then with its value another.
then_gives : {r : Evaluated} {t u : ℕ} (f : Value → Evaluated) → Gives r t → ((v : Value) → Valid v → type_of v ≡ t → Gives (f v) u) → Gives (r then f) u
unfolding ◌then◌
then_gives f g h = rw g.done (after_gives g.tally (h g.value g.valid g.typed))

-- One of two parts, with what the state says of it.
part_gives : (b : Bool) {r s : Evaluated} {p q : Bool} {t : ℕ} → (if b then p else q) ≡ true
    → (p ≡ true → Gives r t) → (q ≡ true → Gives s t) → Gives (if b then r else s) t
part_gives true e g h = g e
part_gives false e g h = h e

-- Of the let's own variable a ready definition needs nothing.
pub definition_known : (n : ℕ) (d : Signal) (Γ : Marks) (τ : ℕ → ℕ) (env : Env) → needs_s n d ≡ false
    → ((b : ℕ) → is_marked Γ b ≡ true → needs_s b d ≡ true → Bound env τ b)
    → (b : ℕ) → is_marked (mark Γ n) b ≡ true → needs_s b d ≡ true → Bound env τ b
definition_known n d Γ τ env free k b m p = go (ℕ_discrete b n)
  where
    go : Dec (b ≡ n) → Bound env τ b
    go (yes e) = absurd (not_both (sym free ∙ ap (λ (a : ℕ). needs_s a d) (sym e) ∙ p))
    go (no e) = k b (sym (mark_other Γ n b e) ∙ m) p

mutual
  unfolding eval_s type_s scope_s types_s bodies_have needs_s ready_s well_s held branch_in

  -- A signal gives a value of its type.
  pub sound_s : (s : Signal) (ed count cells : ℕ) (τ : ℕ → ℕ) (rec st : Bytes) → Small rec → Small st → SitsS count cells τ s
      → (Γ : Marks) (Δ : Offers) (env : Env) → length env ≡ count
      → scope_s ed Γ Δ s ≡ None → types_s s ≡ None → ready_s s ≡ None → well_s st s ≡ true
      → Known Γ τ env (λ b. needs_s b s) → Gives (eval_s rec st env s) (type_s s)
  sound_s (input n c) ed count cells τ rec st hr hs sits Γ Δ env l sc ty re we k = rule_gives (of_gives _ (channel_of rec c hr))
  sound_s (time n) ed count cells τ rec st hr hs sits Γ Δ env l sc ty re we k = rule_gives (of_gives _ (time_of rec hr))
  sound_s (ext n e) ed count cells τ rec st hr hs sits Γ Δ env l sc ty re we k = rule_gives (sound_e count τ e sits Γ env l sc ty k)
  sound_s (delay n c v s) ed count cells τ rec st hr hs sits Γ Δ env l sc ty re we k =
      let t = both _ _ ty in
      rule_gives (retype (sym (eqb-true _ _ (holds _ n t.0)))
      (of_gives _ (held_of st c (type_of v) 0 hs (valid_type v sits.1) (and_both _ _ we).0)))
  sound_s (let_signal n t d b) ed count cells τ rec st hr hs sits Γ Δ env l sc ty re we k =
      let s = both _ _ sc in
      let q = both _ _ ty in
      let q₁ = both _ _ q.1 in
      let r = both _ _ re in
      let r₁ = both _ _ r.1 in
      let w = and_both _ _ we in
      rule_gives (then_gives _
      (retype (eqb-true _ _ (holds _ n q.0))
      (sound_s d ed count cells τ rec st hr hs sits.1 (mark Γ n) [] env l s.0 q₁.0 r₁.0 w.0
      (record { known = definition_known n d Γ τ env (kept _ n r.0) λ a m p. k.known a m (or_left _ _ p) })))
      λ v f e. sound_s b ed count cells τ rec st hr hs sits.2 (mark Γ n) Δ (bind env n v) (bind_length env n v ∙ l) s.1 q₁.1 r₁.1 w.1
      (known_bind Γ env n v _ (rw l sits.0.below) f (e ∙ sits.0.declared) λ a m p ne. k.known a m (or_right _ _ p)))
  sound_s (switch n c t x e y) ed count cells τ rec st hr hs sits Γ Δ env l sc ty re we k =
      let s = both _ _ sc in
      let s₁ = both _ _ s.1 in
      let q = both _ _ ty in
      let q₁ = both _ _ q.1 in
      let q₂ = both _ _ q₁.1 in
      let r = both _ _ re in
      let r₁ = both _ _ r.1 in
      let h = and_both _ _ (holds _ n q.0) in
      let w = and_both _ _ we in
      rule_gives (part_gives (is_clear st c) w.1
      (λ a. sound_s x ed count cells τ rec st hr hs sits.2 Γ [] env l s.0 q₁.0 r.0 (and_both _ _ a).0
      (known_part _ k λ b p. or_left _ _ p))
      λ a.
      let a₁ = and_both _ _ a in
      let o = held_of st c t 0 hs (is_plain_lem sits.1.least sits.1.most) (and_both _ _ a₁.0).0 in
      retype (sym (eqb-true _ _ h.1))
      (sound_s y ed count cells τ rec st hr hs sits.4 (mark Γ n) [] (bind env n (held st c)) (bind_length env n _ ∙ l) s₁.1 q₂.1 r₁.1 a₁.1
      (known_bind Γ env n _ _ (rw l sits.1.binds.below) o.valid (o.typed ∙ sits.1.binds.declared) λ b m p ne. k.known b m (or_right _ _ p))))
  sound_s (group n c body brs) ed count cells τ rec st hr hs sits Γ Δ env l sc ty re we k =
      let s = both _ _ sc in
      let q = both _ _ ty in
      let q₁ = both _ _ q.1 in
      let r = both _ _ re in
      rule_gives (part_gives (is_clear st c) we
      (λ a. sound_s body ed count cells τ rec st hr hs sits.1 Γ (brs ∷ onward ed Δ) env l s.0 q₁.0 r.0 (and_both _ _ a).0
      (known_part _ k λ b p. or_left _ _ p))
      λ a. sound_b brs ed count cells τ rec st hr hs sits.2 Γ (brs ∷ onward ed Δ) env l s.1 q₁.1 r.1 c (type_s body) (holds _ n q.0) (and_both _ _ a).1
      (known_part _ k λ b p. or_right _ _ p))
  sound_s (until n s cs) ed count cells τ rec st hr hs sits Γ Δ env l sc ty re we k =
      let a = both _ _ sc in
      let q = both _ _ ty in
      let r = both _ _ re in
      rule_gives (sound_s s ed count cells τ rec st hr hs sits.0 Γ [] env l a.0 q.0 r.0 (and_both _ _ we).0 k)

  -- The branch that the content of cell c names gives a value of the group's type u.
  pub sound_b : (brs : Branches) (ed count cells : ℕ) (τ : ℕ → ℕ) (rec st : Bytes) → Small rec → Small st → SitsB count cells τ brs
      → (Γ : Marks) (Δ : Offers) (env : Env) → length env ≡ count
      → scope_b ed Γ Δ brs ≡ None → types_b brs ≡ None → ready_b brs ≡ None
      → (c u : ℕ) → bodies_have u brs ≡ true → well_b st (cell st c) brs ≡ true
      → Known Γ τ env (λ b. needs_b b brs) → Gives (eval_b rec st env (branch_in st c) (held st c) brs) u
  sound_b no_branch ed count cells τ rec st hr hs sits Γ Δ env l sc ty re c u bo we k = absurd (not_both we)
  sound_b (branch n t body next) ed count cells τ rec st hr hs sits Γ Δ env l sc ty re c u bo we k =
      let s = both _ _ sc in
      let q = both _ _ ty in
      let r = both _ _ re in
      let h = and_both _ _ bo in
      part_gives (eqb n (middle_in (cell st c))) we
      (λ a.
      let a₁ = and_both _ _ (and_both _ _ a).0 in
      let o = held_of st c t n hs (is_plain_lem sits.1.least sits.1.most) a₁.0 in
      retype (eqb-true _ _ h.0)
      (sound_s body ed count cells τ rec st hr hs sits.2 (mark Γ n) Δ (bind env n (held st c)) (bind_length env n _ ∙ l) s.0 q.0 r.0 a₁.1
      (known_bind Γ env n _ _ (rw l sits.1.binds.below) o.valid (o.typed ∙ sits.1.binds.declared) λ b m p ne. k.known b m (or_left _ _ p))))
      λ a. sound_b next ed count cells τ rec st hr hs sits.3 Γ Δ env l s.1 q.1 r.1 c u h.1 (and_both _ _ a).1
      (known_part _ k λ b p. or_right _ _ p)
