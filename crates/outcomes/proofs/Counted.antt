-- The number of an outcome: a value's bytes with what was counted, and so much more counted.
-- Assumes nothing.
use Rattle.std.specs.Prelude.{if◌then◌else◌}
use mathlib.Core.Path.{◌≡◌, refl, ap, sym, ◌∙◌}
use mathlib.Core.Bool.{Bool, true, false}
use Prim.Native.Nat.{ℕ, ◌+◌, ◌*◌, ◌%◌, ◌<◌, ◌≤◌}
use native.Mathlib.Omega.{arith}
use lib.Dec.{eqb}
use lib.ListN.{get_or}
use borrow.Author.Tests.{eqb-true, eq-eqb, ne_eqb}
use Rattle.rules.specs.Bytes.{◌or◌}
use Rattle.rules.specs.Values.{value_from, packed, unpacked, type_in, present_in, middle_in, word_in}
use Rattle.rules.specs.Work.{nothing, noted, one_rule, ◌plus◌, give, after, rule}
use Rattle.rules.specs.Evaluate.{Env, look}
use Rattle.rules.specs.declared.Value.{Value}
use Rattle.rules.specs.declared.Tally.{Tally}
use Rattle.rules.specs.Evaluated.{Evaluated, Done, Stuck}
use Rattle.outcomes.specs.Combine.{count_of, work_of}
use Rattle.outcomes.specs.Outcome.{tally_in, tally_of, outcome_in, outcome_of, IsOutcome, IsValue, IsProper, Slots}
use Rattle.outcomes.proofs.Tallies.{counted, same_tally, tally_back, more_tally, marked_new, marked_yet}
use Rattle.outcomes.proofs.Numbers.{exact_same, exact_value, proper_value, value_middle}

-- So much more counted: the same type, present byte and word, so the same value.
module _ (m k : ℕ) (h : middle_in m + k < 65536) where
  pub more_fits : m < 18446744073709551616 → m + 65536 * k < 18446744073709551616
  unfolding middle_in
  more_fits l = omega arith

  more_work : middle_in (m + 65536 * k) ≡ middle_in m + k
  unfolding middle_in
  more_work = omega arith

  more_value : unpacked (m + 65536 * k) ≡ unpacked m
  unfolding unpacked type_in present_in word_in middle_in
  more_value =
      let n : ℕ = m + 65536 * k in
      λ i. value_from
      ((let e : type_in n ≡ type_in m = omega arith in e) i)
      ((let e : present_in n ≡ present_in m = omega arith in e) i)
      ((let e : word_in n ≡ word_in m = omega arith in e) i)

-- The outcome of a number that is not 0, and what was counted.
pub outcome_done : (m : ℕ) → (m ≡ 0 → ⊥) → outcome_in m ≡ Done (unpacked m) (tally_in (middle_in m))
unfolding outcome_in
outcome_done m h = simp (ne_eqb m 0 h)

pub outcome_stuck : outcome_in 0 ≡ Stuck
unfolding outcome_in
outcome_stuck = refl

pub count_is : (m : ℕ) → count_of (outcome_in m) ≡ tally_in (middle_in m)
unfolding outcome_in middle_in tally_in nothing
count_is m = go (eqb m 0) refl
  where
    go : (b : Bool) → eqb m 0 ≡ b → count_of (if b then Stuck else Done (unpacked m) (tally_in (middle_in m))) ≡ tally_in (middle_in m)
    go true e = sym (ap (λ (n : ℕ). tally_in (middle_in n)) (eqb-true m 0 e))
    go false e = refl

pub work_is : (m : ℕ) → work_of (outcome_in m) ≡ middle_in m % 32768
unfolding outcome_in middle_in tally_in
work_is m = go (eqb m 0) refl
  where
    go : (b : Bool) → eqb m 0 ≡ b → work_of (if b then Stuck else Done (unpacked m) (tally_in (middle_in m))) ≡ middle_in m % 32768
    go true e = sym (ap (λ (n : ℕ). middle_in n % 32768) (eqb-true m 0 e))
    go false e = refl

pub middle_small : (m : ℕ) → middle_in m < 65536
unfolding middle_in
middle_small m = omega arith

-- The number of an outcome, exactly.
abbrev pub Gives : ℕ → Evaluated → Type 0
Gives m e = (outcome_in m ≡ e) × IsOutcome m

pub gives_stuck : {e : Evaluated} → e ≡ Stuck → Gives 0 e
unfolding outcome_in outcome_of
gives_stuck h = (sym h, refl)

-- the same value under another name
pub gives_same : {m : ℕ} {v u : Value} {w : Tally} → Gives m (Done v w) → v ≡ u → Gives m (Done u w)
gives_same {w = w} g e = (g.0 ∙ ap (λ (x : Value). Done x w) e, g.1)

-- more counted, of a number whose value is exact
module _ (m k : ℕ) (h : middle_in m + k < 65536) (g : m + 65536 * k ≡ 0 → ⊥) where
  more_done : outcome_in (m + 65536 * k) ≡ Done (unpacked m) (tally_in (middle_in m + k))
  more_done = outcome_done (m + 65536 * k) g ∙ rw (more_value m k h, more_work m k h)

  more_exact : packed (unpacked m) + 65536 * middle_in m ≡ m → IsOutcome (m + 65536 * k)
  unfolding outcome_of
  more_exact e = rw (more_done, tally_back (middle_in m + k) h) (omega arith)

-- a value's bytes, with what was counted
pub value_gives : (m k : ℕ) → IsValue m → 0 < k → k < 65536 → Gives (m + 65536 * k) (Done (unpacked m) (tally_in k))
value_gives m k e l g =
    let z : middle_in m ≡ 0 = value_middle m e in
    let s : middle_in m + k < 65536 = omega arith in
    let n : m + 65536 * k ≡ 0 → ⊥ = λ q. omega arith in
    let c : middle_in m + k ≡ k = omega arith in
    (more_done m k s n ∙ rw c, more_exact m k s n (omega arith))

pub value_fits_lem : (m k : ℕ) → IsValue m → k < 65536 → m < 18446744073709551616 → m + 65536 * k < 18446744073709551616
value_fits_lem m k e g l = more_fits m k (omega (arith, value_middle m e)) l

-- a value by one rule
pub value_rule : (m : ℕ) → IsValue m → Gives (m + 65536) (rule (give (unpacked m)))
unfolding rule after one_rule give nothing ◌plus◌ ◌or◌ tally_in
value_rule m e = value_gives m 1 e (omega arith) (omega arith)

pub outcome_gives : (v : Value) (k : ℕ) {m : ℕ} → m ≡ packed v → IsProper v → 0 < k → k < 65536
    → Gives (m + 65536 * k) (Done v (tally_in k))
outcome_gives v k e h l g =
    let q = value_gives (packed v) k (proper_value v h) l g in
    rw e (q.0 ∙ rw h, q.1)

-- what a cell's content stands for, and a slot, by one rule
pub held_gives : (m : ℕ) {e : ℕ} → e ≡ packed (unpacked m) → Gives (e + 65536) (rule (give (unpacked m)))
held_gives m e =
    let q = value_rule (packed (unpacked m)) (exact_value m) in
    rw e (q.0 ∙ rw (exact_same m), q.1)

pub look_gives : (env : Env) (n : ℕ) → Slots env → (get_or env n 0 ≡ 0 → ⊥) → Gives (get_or env n 0 + 65536) (rule (look env n))
unfolding look
look_gives env n s h = rw (ne_eqb (get_or env n 0) 0 h) (value_rule (get_or env n 0) (s n))

pub look_stuck : (env : Env) (n : ℕ) → get_or env n 0 ≡ 0 → Gives 0 (rule (look env n))
unfolding look rule after
look_stuck env n z = gives_stuck (rw (eq-eqb (get_or env n 0) 0 z))

-- an outcome's number is its value's bytes and its count
pub outcome_exact : (m : ℕ) → (m ≡ 0 → ⊥) → IsOutcome m → packed (unpacked m) + 65536 * middle_in m ≡ m
unfolding outcome_of
outcome_exact m n h = rw (outcome_done m n, tally_back (middle_in m) (middle_small m)) at h

pub later_stuck : (m : ℕ) (w : Tally) → m ≡ 0 → Gives 0 (rule (after w (outcome_in m)))
unfolding rule after
later_stuck m w z = gives_stuck (rw (z, outcome_stuck))

pub marked_stuck : (m : ℕ) → m ≡ 0 → Gives 0 (after (noted true) (outcome_in m))
unfolding after
marked_stuck m z = gives_stuck (rw (z, outcome_stuck))

pub rule_stuck : (m : ℕ) → m ≡ 0 → Gives 0 (rule (outcome_in m))
unfolding rule after
rule_stuck m z = gives_stuck (rw (z, outcome_stuck))

-- so much counted, and marked
pub mark_later : (w : Tally) (e : Evaluated) → w.wrapped ≡ true → after (noted true) (rule (after (counted w.work) e)) ≡ rule (after w e)
unfolding rule after noted one_rule ◌plus◌ ◌or◌
mark_later w (Done v u) f = rw f (ap (λ (x : Tally). Done v x) (same_tally (omega arith) refl))
mark_later w Stuck f = refl

-- more counted before an outcome, by one more rule, and by one after so much was counted
module _ (m : ℕ) (n : m ≡ 0 → ⊥) where
  pub room_for : (k : ℕ) → k + work_of (outcome_in m) < 32768 → middle_in m + k < 65536
  room_for k l = omega (arith, work_is m, middle_small m)

  after_gives : (k : ℕ) → IsOutcome m → k + work_of (outcome_in m) < 32768 → Gives (m + 65536 * k) (after (counted k) (outcome_in m))
  unfolding after
  after_gives k e l =
      let s = room_for k l in
      let g : m + 65536 * k ≡ 0 → ⊥ = λ q. n (omega arith) in
      (more_done m k s g ∙ rw (outcome_done m n, more_tally (middle_in m) k (omega (arith, work_is m)) (middle_small m)), more_exact m k s g (outcome_exact m n e))

  pub rule_gives : IsOutcome m → work_of (outcome_in m) < 32767 → Gives (m + 65536) (rule (outcome_in m))
  unfolding rule one_rule
  rule_gives e l = after_gives 1 e (omega arith)

  pub later_gives : (w : Tally) → w.wrapped ≡ false → IsOutcome m → w.work + work_of (outcome_in m) < 32767
      → Gives (m + 65536 * (w.work + 1)) (rule (after w (outcome_in m)))
  unfolding rule after one_rule ◌plus◌ ◌or◌
  later_gives w f e l =
      let q = after_gives (w.work + 1) e (omega arith) in
      (q.0 ∙ rw (outcome_done m n, f) (ap (Done (unpacked m)) (same_tally (omega arith) refl)), q.1)

  -- the same before it is marked
  pub later_plain : (w : Tally) → IsOutcome m → w.work + work_of (outcome_in m) < 32767
      → Gives (m + 65536 * (w.work + 1)) (rule (after (counted w.work) (outcome_in m)))
  later_plain w e l = later_gives (counted w.work) refl e l

  -- with a number that wrapped in it: it is not marked yet, or is
  pub marked_gives : IsOutcome m → middle_in m < 32768 → Gives (m + 2147483648) (after (noted true) (outcome_in m))
  unfolding after
  marked_gives e l =
      let s : middle_in m + 32768 < 65536 = omega arith in
      let g : m + 65536 * 32768 ≡ 0 → ⊥ = λ q. n (omega arith) in
      (more_done m 32768 s g ∙ rw (outcome_done m n, marked_new (middle_in m) l), more_exact m 32768 s g (outcome_exact m n e))

  pub marked_still : IsOutcome m → 32768 ≤ middle_in m → Gives m (after (noted true) (outcome_in m))
  unfolding after
  marked_still e l = (outcome_done m n ∙ rw (outcome_done m n, ← marked_yet (middle_in m) l), e)
