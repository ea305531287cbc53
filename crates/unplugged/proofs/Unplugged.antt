-- Channels that no input node names do not matter: two runs of one program, from one state, with equal output lengths, over equally many
-- well-formed records with equal times, which agree on every channel that some input node names, cannot be told apart.
-- Assumes nothing.
use Rattle.std.specs.Prelude.{if◌then◌else◌, Ok, Err}
use Rattle.rules.specs.Verdicts.{Verdict, finished_with, refused_after}
use mathlib.Core.Path.{◌≡◌, refl, sym, ap, ◌∙◌}
use mathlib.Core.Bool.{Bool, true, false, not}
use Prim.Native.Nat.{ℕ, zero, suc, ◌+◌, ◌*◌, ◌/◌, ◌%◌, ◌<◌, ◌≤◌}
use mathlib.Core.List.{[]}
use native.Mathlib.Omega.{arith}
use lib.Dec.{eqb, leb}
use lib.ListN.{length}
use borrow.Author.Tests.{eqb-true}
use Rattle.rules.specs.Bytes.{Bytes, write_at, ◌and◌}
use Rattle.rules.specs.Layout.{nodes, a_at, input_length, input_at, time_in, last_time, channel_value}
use Rattle.rules.specs.Tree.{root}
use Rattle.rules.specs.Update.{step_of}
use Rattle.rules.specs.Calls.{◌otherwise◌, refuse_if, program_verdict, lent_verdict, input_wrong, time_wrong, record_verdict, RunOutcome, no_step, run_from, run_outcome, run_call}
use Rattle.rules.specs.declared.Refusal.TheVariants.{OutputLength}
use Rattle.rules.proofs.Kids.{not_not}
use Rattle.rules.proofs.Verdicts.{both_fine, if_fine, accepted}
use Rattle.rules.proofs.Rooted.{some_node}
use Rattle.rooms.specs.Walk.{Walk, walk, in_room}
use Rattle.rooms.proofs.WalkLaws.{SameRecord, walk_agree, run_walk, not_finished, whole, write_all}
use Rattle.unplugged.specs.Alike.{Alike, AllAlike, SameRuns}
use Rattle.unplugged.proofs.SameSteps.{EachS, step_same}
use Rattle.unplugged.proofs.FromTable.{root_each}

-- Alike records agree on each channel of the root.
pub alike_each : (p rec₁ rec₂ : Bytes) → 0 < nodes p → Alike p rec₁ rec₂ → EachS (λ c. channel_value rec₁ c ≡ channel_value rec₂ c) (root p)
alike_each p rec₁ rec₂ h a =
    root_each p (λ c. channel_value rec₁ c ≡ channel_value rec₂ c) h
    λ i l e. a.channels (a_at p i) (record { node = i; within = omega (arith, l); input = e; channel = refl })

-- They make the same step.
alike_step : (p st rec₁ rec₂ : Bytes) → 0 < nodes p → Alike p rec₁ rec₂ → step_of p rec₁ st ≡ step_of p rec₂ st
alike_step p st rec₁ rec₂ h a = step_same rec₁ rec₂ a.moment p st (alike_each p rec₁ rec₂ h a)

-- And are refused alike.
alike_verdict : (p : Bytes) (done : ℕ) (st rec₁ rec₂ : Bytes) → Alike p rec₁ rec₂ → record_verdict done st rec₁ ≡ record_verdict done st rec₂
unfolding record_verdict time_wrong
alike_verdict p done st rec₁ rec₂ a =
    let first : input_wrong rec₁ ≡ false = a.well₁ in
    let second : input_wrong rec₂ ≡ false = a.well₂ in
    rw (first, second, a.moment)

-- So a run cannot tell them apart.
pub alike : (p rec₁ rec₂ : Bytes) (k : ℕ) → 0 < nodes p → Alike p rec₁ rec₂ → SameRecord p k rec₁ rec₂
alike p rec₁ rec₂ k h a = record { verdict = λ st. alike_verdict p k st rec₁ rec₂ a; step = λ st. alike_step p st rec₁ rec₂ h a }

-- The records fit a run.
fits : Bytes → Bool
fits recs = eqb (length recs % input_length) 0 and leb (length recs / input_length) 4096

-- Codes 1-11 ask for lengths only.
lent_same : (p st recs₁ recs₂ out₁ out₂ : Bytes) → length recs₁ ≡ length recs₂ → length out₁ ≡ length out₂
    → lent_verdict p st recs₁ out₁ (fits recs₁) ≡ lent_verdict p st recs₂ out₂ (fits recs₂)
unfolding lent_verdict fits
lent_same p st recs₁ recs₂ out₁ out₂ r o = rw (r, o)

-- What a fine verdict says of the program and of the room.
record Lent (p recs out : Bytes) : Type 0 where
  some : 0 < nodes p
  room : length out ≡ 8 * (length recs / input_length)

lent_fine : (p st recs out : Bytes) → lent_verdict p st recs out (fits recs) ≡ Ok tt → Lent p recs out
unfolding lent_verdict
lent_fine p st recs out e =
    let a = both_fine _ _ e in
    let b = both_fine _ _ a.1 in
    let c = both_fine _ _ b.1 in
    record {
      some = some_node p (accepted p a.0).formed;
      room = eqb-true _ _ (not_not _ (if_fine _ _ c.1));
    }

-- Two runs in their rooms, of one walk.
walked : (out₁ out₂ : Bytes) (o₁ o₂ : RunOutcome) (r : Walk) → o₁ ≡ in_room 0 out₁ r → o₂ ≡ in_room 0 out₂ r
    → ((steps work mark : ℕ) → r.answer ≡ finished_with steps work mark → (length out₁ ≡ length r.written) × (length out₂ ≡ length r.written))
    → SameRuns out₁ out₂ o₁ o₂
unfolding in_room
walked out₁ out₂ o₁ o₂ r e f full = record {
  answers = ap (λ (o : RunOutcome). o.answer) e ∙ sym (ap (λ (o : RunOutcome). o.answer) f);
  states = ap (λ (o : RunOutcome). o.state) e ∙ sym (ap (λ (o : RunOutcome). o.state) f);
  written = r.written;
  into₁ = ap (λ (o : RunOutcome). o.output) e;
  into₂ = ap (λ (o : RunOutcome). o.output) f;
  whole = λ steps work mark g.
      let l = full steps work mark (sym (ap (λ (o : RunOutcome). o.answer) e) ∙ g) in
      ap (λ (o : RunOutcome). o.output) e ∙ write_all r.written out₁ l.0
      ∙ sym (write_all r.written out₂ l.1) ∙ sym (ap (λ (o : RunOutcome). o.output) f);
  equal_rooms = λ q.
      ap (λ (o : RunOutcome). o.output) e ∙ ap (λ (s : Bytes). write_at s 0 r.written) q ∙ sym (ap (λ (o : RunOutcome). o.output) f);
}

-- h): for any bytes as program, state, records and rooms.
pub unplugged : (p st recs₁ recs₂ out₁ out₂ : Bytes) → length out₁ ≡ length out₂ → AllAlike p recs₁ recs₂
    → SameRuns out₁ out₂ (run_call p st recs₁ out₁) (run_call p st recs₂ out₂)
unfolding run_call run_outcome in_room write_at fits
unplugged p st recs₁ recs₂ out₁ out₂ lo a = go (lent_verdict p st recs₁ out₁ (fits recs₁)) refl
  where
    lr : length recs₁ ≡ length recs₂
    lr = a.as_many

    as_lent : (v : Verdict) → lent_verdict p st recs₁ out₁ (fits recs₁) ≡ v → run_call p st recs₁ out₁ ≡ run_outcome p st recs₁ out₁ v
    as_lent v e = ap (run_outcome p st recs₁ out₁) e

    as_lent₂ : (v : Verdict) → lent_verdict p st recs₁ out₁ (fits recs₁) ≡ v → run_call p st recs₂ out₂ ≡ run_outcome p st recs₂ out₂ v
    as_lent₂ v e = ap (run_outcome p st recs₂ out₂) (sym (lent_same p st recs₁ recs₂ out₁ out₂ lr lo) ∙ e)

    go : (v : Verdict) → lent_verdict p st recs₁ out₁ (fits recs₁) ≡ v → SameRuns out₁ out₂ (run_call p st recs₁ out₁) (run_call p st recs₂ out₂)
    go (Err r) e =
        walked out₁ out₂ _ _ (record { answer = refused_after r 0 no_step; state = st; written = [] })
        (as_lent (Err r) e) (as_lent₂ (Err r) e) (λ steps work mark f. absurd (not_finished f))
    go (Ok _) e =
        let l = lent_fine p st recs₁ out₁ e in
        let n : ℕ = length recs₁ / input_length in
        walked out₁ out₂ _ _ (walk p recs₁ n 0 0 no_step st)
        (as_lent (Ok tt) e ∙ run_walk n p recs₁ 0 0 no_step st out₁)
        (as_lent₂ (Ok tt) e ∙ ap (λ (m : ℕ). run_from p recs₂ (m / input_length) 0 0 no_step st out₂) (sym lr) ∙ run_walk n p recs₂ 0 0 no_step st out₂
        ∙ sym (ap (in_room 0 out₂) (walk_agree n p recs₁ recs₂ 0 0 no_step st λ k g h. alike p _ _ k l.some (a.each k (omega arith)))))
        (λ steps work mark f. let w = whole n p recs₁ 0 0 no_step st steps work mark f in (omega (arith, l.room, w.long), omega (arith, l.room, w.long, lo)))
