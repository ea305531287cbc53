-- An update that goes on: to a next state that passes a test, or by a jump to a branch that is offered; never stuck.
-- Assumes nothing.
use Rattle.std.specs.Prelude.{if◌then◌else◌}
use mathlib.Core.Path.{◌≡◌, refl, ◌∙◌}
use mathlib.Core.List.{[]}
use mathlib.Core.Bool.{Bool, true, false}
use Prim.Native.Nat.{ℕ}
use Rattle.rules.specs.Bytes.{Bytes}
use Rattle.rules.specs.Values.{maybe_of, type_of}
use Rattle.rules.specs.Work.{Updated, Next, Jump, stays, leave, one_rule, afterᵘ, ruleᵘ, ◌with◌, ◌thenᵘ◌}
use Rattle.rules.specs.Scope.{Offers, is_offered}
use Rattle.rules.specs.Evaluate.{opened}
use Rattle.rules.specs.Update.{laterᵒ, occurs_if, occurs, on_occurrence, on_event}
use Rattle.rules.specs.declared.Value.{Value}
use Rattle.rules.specs.declared.Tally.{Tally}
use Rattle.rules.specs.Evaluated.{Evaluated}
use Rattle.rules.specs.Occurrence.{Occurrence, Took, Quiet}
use Rattle.rules.proofs.Static.{not_both}
use Rattle.promises.specs.Small.{Small}
use Rattle.promises.specs.Valid.{Valid}
use Rattle.promises.specs.Kept.{Kept}
use Rattle.promises.proofs.SoundE.{Gives, opened_cases}
use Rattle.promises.proofs.Frames.{kept_self, kept_then, kept_more}

-- From a state, changing no cells but a part's own. A jump carries a valid value of the type that its target declares.
pub data Goes (Δ : Offers) (τ : ℕ → ℕ) (own : ℕ → ℕ) (test : Bytes → Bool) (st : Bytes) : Updated → Type 0 where
  next : {st₁ : Bytes} {w : Tally} → Kept own st st₁ → test st₁ ≡ true → Goes Δ τ own test st (Next st₁ w)
  jump : {target : ℕ} {v : Value} {st₁ : Bytes} {w : Tally}
      → is_offered target Δ ≡ true → Valid v → type_of v ≡ τ target → Kept own st st₁ → Goes Δ τ own test st (Jump target v st₁ w)

module _ {Δ : Offers} {τ own : ℕ → ℕ} {test : Bytes → Bool} {st : Bytes} where
  pub leave_goes : {st₁ : Bytes} → Kept own st st₁ → test st₁ ≡ true → Goes Δ τ own test st (leave st₁)
  unfolding leave
  leave_goes k e = next k e

  -- After so much was counted.
  pub after_goes : (u : Tally) {r : Updated} → Goes Δ τ own test st r → Goes Δ τ own test st (afterᵘ u r)
  unfolding afterᵘ
  after_goes u (next k e) = next k e
  after_goes u (jump o v e k) = jump o v e k

  -- By one more rule.
  pub rule_goes : {r : Updated} → Goes Δ τ own test st r → Goes Δ τ own test st (ruleᵘ r)
  unfolding ruleᵘ
  rule_goes g = after_goes one_rule g

  -- First an evaluation.
  pub with_goes : {r : Evaluated} {t : ℕ} (f : Value → Updated) → Gives r t
      → ((v : Value) → Valid v → type_of v ≡ t → Goes Δ τ own test st (f v)) → Goes Δ τ own test st (r with f)
  unfolding ◌with◌
  with_goes f g h = rw g.done (after_goes g.tally (h g.value g.valid g.typed))

  -- First an update that no jump leaves.
  pub then_goes : {part : ℕ → ℕ} {first : Bytes → Bool} {r : Updated} (f : Bytes → Updated) → Goes [] τ part first st r
      → ((st₁ : Bytes) → Kept part st st₁ → first st₁ ≡ true → Goes Δ τ own test st (f st₁)) → Goes Δ τ own test st (r thenᵘ f)
  unfolding ◌thenᵘ◌ is_offered
  then_goes f (next {st₁} {w} k e) h = after_goes w (h st₁ k e)
  then_goes f (jump o v e k) h = absurd (not_both o)

  -- An update that no jump leaves.
  pub stays_goes : {r : Updated} → Goes [] τ own test st r → Goes Δ τ own test st (stays r)
  unfolding stays is_offered
  stays_goes (next k e) = next k e
  stays_goes (jump o v e k) = absurd (not_both o)

  -- After a change of a part, an update of another.
  pub goes_from : {f g : ℕ → ℕ} {last : Bytes → Bool} {st₁ : Bytes} {r : Updated}
      → ((k : ℕ) → own k ≡ 0 → f k ≡ 0) → ((k : ℕ) → own k ≡ 0 → g k ≡ 0) → Kept f st st₁
      → ((st₂ : Bytes) → Kept g st₁ st₂ → last st₂ ≡ true → test st₂ ≡ true)
      → Goes Δ τ g last st₁ r → Goes Δ τ own test st r
  goes_from hf hg a h (next {st₁ = st₂} k e) = next (kept_then hf hg a k) (h st₂ k e)
  goes_from hf hg a h (jump o v e k) = jump o v e (kept_then hf hg a k)

  -- An update of a part.
  pub goes_part : {g : ℕ → ℕ} {last : Bytes → Bool} {r : Updated}
      → ((k : ℕ) → own k ≡ 0 → g k ≡ 0)
      → ((st₂ : Bytes) → Kept g st st₂ → last st₂ ≡ true → test st₂ ≡ true)
      → Goes Δ τ g last st r → Goes Δ τ own test st r
  goes_part hg h (next {st₁ = st₂} k e) = next (kept_more hg k) (h st₂ k e)
  goes_part hg h (jump o v e k) = jump o v e (kept_more hg k)

  -- One of two parts, with what the state says of it.
  pub either_goes : (b : Bool) {r s : Updated} {p q : Bool} → (if b then p else q) ≡ true
      → (b ≡ true → p ≡ true → Goes Δ τ own test st r) → (b ≡ false → q ≡ true → Goes Δ τ own test st s)
      → Goes Δ τ own test st (if b then r else s)
  either_goes true e g h = g refl e
  either_goes false e g h = h refl e

  -- A switch's event: caught or not.
  pub on_event_goes : (t : ℕ) {event : Value} → Valid event → type_of event ≡ maybe_of t → {f : Value → Updated} {q : Updated}
      → Goes Δ τ own test st q → ((v : Value) → Valid v → type_of v ≡ t → Goes Δ τ own test st (f v))
      → Goes Δ τ own test st (on_event (opened event) f q)
  unfolding on_event
  on_event_goes t {event} valid typed {f} {q} g h = opened_cases (λ o. Goes Δ τ own test st (on_event o f q)) t event valid typed g h

-- The events of an until: one is present with a target that is offered, or none is.
pub data Happens (Δ : Offers) (τ : ℕ → ℕ) : Occurrence → Type 0 where
  took : {target : ℕ} {v : Value} {u : Tally} → is_offered target Δ ≡ true → Valid v → type_of v ≡ τ target → Happens Δ τ (Took target v u)
  quiet : {u : Tally} → Happens Δ τ (Quiet u)

-- After a case that is absent.
later_happens : {Δ : Offers} {τ : ℕ → ℕ} (u : Tally) {o : Occurrence} → Happens Δ τ o → Happens Δ τ (laterᵒ u o)
unfolding laterᵒ
later_happens u (took o v e) = took o v e
later_happens u quiet = quiet

-- A case whose event gives a maybe of the type that its target declares.
pub occurs_happens : {Δ : Offers} {τ : ℕ → ℕ} {r : Evaluated} (t target : ℕ) {rest : Occurrence} → Gives r (maybe_of t)
    → is_offered target Δ ≡ true → t ≡ τ target → Happens Δ τ rest → Happens Δ τ (occurs r target rest)
unfolding occurs occurs_if
occurs_happens {Δ} {τ} t target {rest} g o e h =
    rw g.done
    (opened_cases (λ q. Happens Δ τ (occurs_if q g.tally target rest)) t g.value g.valid g.typed
    (later_happens g.tally h) λ v f d. took o f (d ∙ e))

-- Where one is present the until jumps, and where none is it goes on.
pub on_occurrence_goes : {Δ : Offers} {τ own : ℕ → ℕ} {test : Bytes → Bool} {st : Bytes} {o : Occurrence} {r : Updated} → Small st
    → Happens Δ τ o → Goes Δ τ own test st r → Goes Δ τ own test st (on_occurrence o st r)
unfolding on_occurrence
on_occurrence_goes {own = own} {st = st} s (took o v e) g = jump o v e (kept_self own st s)
on_occurrence_goes s (quiet {u}) g = after_goes u g
