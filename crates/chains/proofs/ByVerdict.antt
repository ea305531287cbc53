-- The verdict that a let is not ready: codes 1-7 found nothing, and the let is one that has a chain.
-- Assumes nothing.
use Rattle.std.specs.Prelude.{if◌then◌else◌, Option, Some, None, Ok, Err, ℕ}
use Rattle.rules.specs.Verdicts.{Verdict}
use mathlib.Core.Path.{◌≡◌, refl, sym, ap, ◌∙◌}
use mathlib.Core.Bool.{Bool, true, false}
use Prim.Native.Nat.{ℕ, ◌-◌}
use native.Mathlib.Omega.{arith}
use Rattle.rules.specs.Bytes.{Bytes, first}
use Rattle.rules.specs.Layout.{blocks, records, nodes}
use Rattle.rules.specs.Format.{length_wrong, sum_wrong, number_wrong, record_wrong}
use Rattle.rules.specs.Shape.{shape_wrong}
use Rattle.rules.specs.Shaped.{Shaped}
use Rattle.rules.specs.Scope.{scope_fault}
use Rattle.rules.specs.Typing.{type_fault}
use Rattle.rules.specs.Ready.{ready_fault}
use Rattle.rules.specs.Accepted.{Formed}
use Rattle.rules.specs.Calls.{◌otherwise◌, refuse_if, refuse_at, program_verdict}
use Rattle.rules.specs.declared.Refusal.{Refusal}
use Rattle.rules.specs.declared.Refusal.TheVariants.{ProgramLength, CheckSum, BlockNumber, RecordFault, ShapeFault, ScopeFault, TypeFault, NotReady}
use Rattle.rules.proofs.Verdicts.{if_fine, at_fine}
use Rattle.rules.proofs.Established.{shaped, root_signal}
use Rattle.rules.proofs.Rooted.{some_node}
use Rattle.chains.specs.Explain.{let_of}
use Rattle.chains.proofs.Exactly.{Named, named_let}

-- The let that a verdict names.
let_in : Verdict → Option ℕ
let_in (Ok _) = None
let_in (Err r) = let_of r

nowhere_at : {A : Type 0} {n : ℕ} → None ≡ Some n → A
nowhere_at e = absurd (let z : ◌≡◌ {A = ℕ} 0 1 = cc in omega arith)

-- A verdict that names no let comes before one that does: it is fine.
skip : (v w : Verdict) {n : ℕ} → let_in v ≡ None → let_in (v otherwise w) ≡ Some n → (v ≡ Ok tt) × (let_in w ≡ Some n)
unfolding let_in ◌otherwise◌
skip (Ok _) w z e = (refl, e)
skip (Err r) w z e = nowhere_at (sym z ∙ e)

none_if : (b : Bool) (r : Refusal) → let_of r ≡ None → let_in (refuse_if b r) ≡ None
unfolding let_in refuse_if
none_if true r e = e
none_if false r e = refl

none_at : (reason : ℕ → Refusal) (q : Option ℕ) → ((n : ℕ) → let_of (reason n) ≡ None) → let_in (refuse_at reason q) ≡ None
unfolding let_in refuse_at
none_at reason (Some n) e = e n
none_at reason None e = refl

last : (q : Option ℕ) {n : ℕ} → let_in (refuse_at NotReady q) ≡ Some n → q ≡ Some n
unfolding let_in refuse_at
last (Some m) e = e
last None e = nowhere_at e

-- What the verdict establishes of the program and of the let.
pub record Explainable (p : Bytes) (n : ℕ) : Type 0 where
  pub shaped_so : Shaped p
  pub named_so : Named p n

pub explainable : (p : Bytes) (r : Refusal) (n : ℕ) → program_verdict p ≡ Err r → let_of r ≡ Some n → Explainable p n
unfolding program_verdict let_in
explainable p r n e q =
    let a = skip (refuse_if (length_wrong p) ProgramLength) _ (none_if _ _ refl) (ap let_in e ∙ q) in
    let b = skip (refuse_at CheckSum (first (sum_wrong p) (blocks p))) _ (none_at CheckSum _ (λ m. refl)) a.1 in
    let c = skip (refuse_at BlockNumber (first (number_wrong p) (blocks p))) _ (none_at BlockNumber _ (λ m. refl)) b.1 in
    let d = skip (refuse_at RecordFault (first (record_wrong p) (records p))) _ (none_at RecordFault _ (λ m. refl)) c.1 in
    let f = skip (refuse_at ShapeFault (first (shape_wrong p) (nodes p))) _ (none_at ShapeFault _ (λ m. refl)) d.1 in
    let g = skip (refuse_at ScopeFault (scope_fault p)) _ (none_at ScopeFault _ (λ m. refl)) f.1 in
    let h = skip (refuse_at TypeFault (type_fault p)) _ (none_at TypeFault _ (λ m. refl)) g.1 in
    let formed : Formed p = record {
      length_right = if_fine _ _ a.0;
      sums_right = at_fine _ _ b.0;
      numbers_right = at_fine _ _ c.0;
      records_right = at_fine _ _ d.0;
    } in
    let shape = at_fine _ _ f.0 in
    record {
      shaped_so = shaped p formed.length_right shape;
      named_so = named_let p n (root_signal p formed.length_right shape (some_node p formed)) (last (ready_fault p) h.1);
    }
