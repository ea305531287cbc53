-- What a judge's answer says of the verdict: no fault, with the number of nodes and the root's type; or the fault.
-- Assumes nothing.
use Rattle.std.specs.Prelude.{ℕ, Result, Ok, Err}
use native.Mathlib.Omega.{arith}
use mathlib.Core.Path.{◌≡◌, refl, sym, ap, ◌∙◌}
use Rattle.rules.specs.Verdicts.{Verdict}
use Rattle.rules.specs.Bytes.{Bytes}
use Rattle.rules.specs.Layout.{nodes}
use Rattle.rules.specs.Tree.{root}
use Rattle.rules.specs.Typing.{type_s}
use Rattle.rules.specs.declared.Refusal.{Refusal}
use Rattle.verdict.specs.declared.Judged.{Judged}
use Rattle.verdict.specs.Parts.{judged}

known : Judged → Result Judged Refusal → Judged
known other (Ok j) = j
known other (Err r) = other

pub judged_ok : (p : Bytes) (v : Verdict) {r : Result Judged Refusal} {j : Judged} → r ≡ judged p v → r ≡ Ok j
    → (v ≡ Ok tt) × (j.count ≡ nodes p) × (j.ty ≡ type_s (root p))
unfolding judged known
judged_ok p (Ok _) {r} {j} e f = (refl, ap (λ x. (known j x).count) (sym f ∙ e), ap (λ x. (known j x).ty) (sym f ∙ e))
judged_ok p (Err q) e f = absurd (let z : ◌≡◌ {A = ℕ} 0 1 = cc in omega arith)

pub judged_err : (p : Bytes) (v : Verdict) {r : Result Judged Refusal} {q : Refusal} → r ≡ judged p v → r ≡ Err q → v ≡ Err q
unfolding judged
judged_err p (Ok _) e f = absurd (let z : ◌≡◌ {A = ℕ} 0 1 = cc in omega arith)
judged_err p (Err q) e f = let z : ◌≡◌ {A = Result Judged Refusal} (Err q) (Err _) = sym e ∙ f in cc
