-- Answers that are equal say the same: check's where it accepts, and run's to the end or refused.
-- Assumes nothing.
use Rattle.std.specs.Prelude.{ℕ, Ok, Err}
use mathlib.Core.Path.{◌≡◌, ap}
use Rattle.rules.specs.Verdicts.{CheckAnswer, RunAnswer, accepted_with, finished_with, refused_after}
use Rattle.rules.specs.declared.Checked.{Checked}
use Rattle.rules.specs.declared.Ran.{Ran}
use Rattle.rules.specs.declared.Stopped.{Stopped}
use Rattle.rules.specs.declared.Refusal.{Refusal}

-- What an answer says, and something else where it is none of its kind.
found_in : Checked → CheckAnswer → Checked
found_in other (Ok found) = found
found_in other (Err r) = other

done_in : Ran → RunAnswer → Ran
done_in other (Ok done) = done
done_in other (Err stop) = other

stop_in : Stopped → RunAnswer → Stopped
stop_in other (Ok done) = other
stop_in other (Err stop) = stop

pub same_accepted : {a b c d a₁ b₁ c₁ d₁ : ℕ} → accepted_with a b c d ≡ accepted_with a₁ b₁ c₁ d₁ → (a ≡ a₁) × (b ≡ b₁) × (c ≡ c₁) × (d ≡ d₁)
unfolding found_in
same_accepted {a} {b} {c} {d} e =
    let other : Checked = record { nodes = a; cells = b; bound = c; root = d } in (
      ap (λ x. (found_in other x).nodes) e,
      ap (λ x. (found_in other x).cells) e,
      ap (λ x. (found_in other x).bound) e,
      ap (λ x. (found_in other x).root) e,
    )

pub same_finished : {a b c a₁ b₁ c₁ : ℕ} → finished_with a b c ≡ finished_with a₁ b₁ c₁ → (a ≡ a₁) × (b ≡ b₁) × (c ≡ c₁)
unfolding done_in
same_finished {a} {b} {c} e =
    let other : Ran = record { steps = a; work = b; wrapped = c } in
    (ap (λ x. (done_in other x).steps) e, ap (λ x. (done_in other x).work) e, ap (λ x. (done_in other x).wrapped) e)

pub same_refused : {q r : Refusal} {a b a₁ b₁ : ℕ} → refused_after q a b ≡ refused_after r a₁ b₁ → (q ≡ r) × (a ≡ a₁) × (b ≡ b₁)
unfolding stop_in
same_refused {q} {r} {a} {b} e =
    let other : Stopped = record { why = q; work = a; wrapped = b } in
    (ap (λ x. (stop_in other x).why) e, ap (λ x. (stop_in other x).work) e, ap (λ x. (stop_in other x).wrapped) e)
