-- Channels that no input node names do not matter to a watched run either: h) covers the second room as well.
-- Assumes nothing.
use Rattle.std.specs.Prelude.{if◌then◌else◌, Result, Ok, Err, None, Option, Some}
use Rattle.rules.specs.Verdicts.{Verdict, finished_with, refused_after, RunAnswer}
use mathlib.Core.Path.{◌≡◌, refl, sym, ap, ◌∙◌}
use mathlib.Core.List.{[]}
use mathlib.Core.Bool.{Bool, true, false, not}
use Prim.Native.Nat.{ℕ, zero, suc, ◌+◌, ◌*◌, ◌/◌, ◌%◌, ◌<◌, ◌≤◌}
use native.Mathlib.Omega.{arith}
use lib.Dec.{eqb, leb}
use lib.ListN.{length}
use borrow.Author.Tests.{eqb-true}
use Rattle.rules.specs.Bytes.{Bytes, write_at, ◌and◌}
use Rattle.rules.specs.Layout.{nodes, input_length, input_at}
use Rattle.rules.specs.Calls.{◌otherwise◌, refuse_if, program_verdict, lent_verdict, RunOutcome, no_step, run_from, run_outcome, run_call}
use Rattle.rules.specs.declared.Refusal.{Refusal}
use Rattle.rules.proofs.Static.{and_both}
use Rattle.rules.proofs.Kids.{not_not}
use Rattle.rules.proofs.Verdicts.{both_fine, if_fine, accepted}
use Rattle.rules.proofs.Rooted.{some_node}
use Rattle.rooms.specs.Walk.{Walk, walk, in_room}
use Rattle.rooms.proofs.WalkLaws.{run_walk, not_finished, write_all}
use Rattle.unplugged.specs.Alike.{Alike, AllAlike, SameRuns}
use Rattle.unplugged.proofs.Unplugged.{alike, alike_each, unplugged}
use Rattle.watched.specs.declared.ListFault.{ListFault}
use Rattle.watched.specs.declared.ListFault.TheVariants.{ListLength, ListEntry}
use Rattle.watched.specs.Watch.{List16, list_wrong, list_fault, records_fit, rooms_fit, watch_lent, watch_room, WatchOutcome, as_run, off_list, watch_listed, watch_accepted, watch_judged, watch_call}
use Rattle.beside.specs.Seen.{Plainly, SameWatched}
use Rattle.beside.specs.Rows.{rows}
use Rattle.beside.proofs.AsPlain.{RightRoom, as_plain, length_refused, entry_refused}
use Rattle.beside.proofs.RowLaws.{in_room_lem, rows_agree, rows_whole}
use Rattle.beside.proofs.SameShown.{shown_same}

-- The run in an answer.
ran_in : Result RunAnswer ListFault → RunAnswer
ran_in (Ok r) = r
ran_in (Err ListLength) = finished_with 0 0 0
ran_in (Err (ListEntry j)) = finished_with 0 0 0

-- A call that writes nothing, whatever its rooms.
unwritten : (a : Result RunAnswer ListFault) (st out₁ out₂ room₁ room₂ : Bytes) {o₁ o₂ : WatchOutcome}
    → ((steps work mark : ℕ) → a ≡ Ok (finished_with steps work mark) → ⊥) → o₁ ≡ off_list a st out₁ room₁ → o₂ ≡ off_list a st out₂ room₂
    → SameWatched out₁ out₂ room₁ room₂ o₁ o₂
unfolding off_list write_at
unwritten a st out₁ out₂ room₁ room₂ no_end e f =
    rw (e, f) (record {
      answers = refl;
      states = refl;
      written = [];
      into₁ = refl;
      into₂ = refl;
      noted = [];
      noted₁ = refl;
      noted₂ = refl;
      whole = λ steps work mark g. absurd (no_end steps work mark g);
      equal_rooms = λ p q. (p, q);
    })

-- A refused run, and a refused list, are no finished run.
not_ended : {r : Refusal} {a b c d e : ℕ} → ◌≡◌ {A = Result RunAnswer ListFault} (Ok (refused_after r a b)) (Ok (finished_with c d e)) → ⊥
unfolding ran_in
not_ended f = not_finished (ap ran_in f)

not_listed : {c d e : ℕ} → Err ListLength ≡ Ok (finished_with c d e) → ⊥
not_listed f = let z : ◌≡◌ {A = ℕ} 0 1 = cc in omega arith

not_entered : {j c d e : ℕ} → Err (ListEntry j) ≡ Ok (finished_with c d e) → ⊥
not_entered f = let z : ◌≡◌ {A = ℕ} 0 1 = cc in omega arith

-- Two runs that cannot be told apart, and rows that are the same.
joined : {out₁ out₂ room₁ room₂ : Bytes} {o₁ o₂ : WatchOutcome} {r₁ r₂ : RunOutcome} → Plainly o₁ r₁ → Plainly o₂ r₂ → SameRuns out₁ out₂ r₁ r₂
    → (noted : Bytes) → o₁.room ≡ write_at room₁ 0 noted → o₂.room ≡ write_at room₂ 0 noted
    → ((steps work mark : ℕ) → r₁.answer ≡ finished_with steps work mark → (length room₁ ≡ length noted) × (length room₂ ≡ length noted))
    → SameWatched out₁ out₂ room₁ room₂ o₁ o₂
unfolding ran_in
joined {room₁ = room₁} {room₂ = room₂} a b s noted e f full = record {
  answers = a.answers ∙ ap Ok s.answers ∙ sym b.answers;
  states = a.states ∙ s.states ∙ sym b.states;
  written = s.written;
  into₁ = a.outputs ∙ s.into₁;
  into₂ = b.outputs ∙ s.into₂;
  noted = noted;
  noted₁ = e;
  noted₂ = f;
  whole = λ steps work mark g.
      let h = ap ran_in (sym a.answers ∙ g) in
      let l = full steps work mark h in
      (a.outputs ∙ s.whole steps work mark h ∙ sym b.outputs, e ∙ write_all noted room₁ l.0 ∙ sym (write_all noted room₂ l.1) ∙ sym f);
  equal_rooms = λ p q.
      (a.outputs ∙ s.equal_rooms p ∙ sym b.outputs, e ∙ ap (λ (r : Bytes). write_at r 0 noted) q ∙ sym f);
}

-- What is lent is judged by lengths only.
lent_same : (p st recs₁ recs₂ : Bytes) (l : List16) (out₁ out₂ room₁ room₂ : Bytes) → length recs₁ ≡ length recs₂ → length out₁ ≡ length out₂
    → length room₁ ≡ length room₂ → watch_lent p st recs₁ l out₁ room₁ ≡ watch_lent p st recs₂ l out₂ room₂
unfolding watch_lent records_fit rooms_fit
lent_same p st recs₁ recs₂ l out₁ out₂ room₁ room₂ r o w = rw (r, o, w)

pub right_room : (p st recs : Bytes) (l : List16) (out room : Bytes) → watch_lent p st recs l out room ≡ Ok tt → RightRoom recs l room
unfolding watch_lent rooms_fit
right_room p st recs l out room e =
    eqb-true _ _ (and_both _ _ (not_not _ (if_fine _ _ (both_fine _ _ (both_fine _ _ e).1).1))).1

-- A program that is refused.
pub program_refused : (p st recs : Bytes) (l : List16) (out room : Bytes) (r : Refusal) → program_verdict p ≡ Err r
    → watch_call p st recs l out room ≡ off_list (Ok (refused_after r 0 no_step)) st out room
unfolding watch_call watch_judged as_run run_outcome off_list
program_refused p st recs l out room r e = rw e

-- An accepted program with a right list, by what is lent.
module _ (p st recs : Bytes) (l : List16) (out room : Bytes) (e : program_verdict p ≡ Ok tt) (f : list_wrong l ≡ false) (g : list_fault p l ≡ None) where
  goes : watch_call p st recs l out room
      ≡ as_run (run_outcome p st recs out (watch_lent p st recs l out room)) (watch_room p st recs l room (watch_lent p st recs l out room))
  unfolding watch_call watch_judged watch_accepted watch_listed
  goes = rw (e, f, g)

  pub lent_refused : (r : Refusal) → watch_lent p st recs l out room ≡ Err r → watch_call p st recs l out room ≡ off_list (Ok (refused_after r 0 no_step)) st out room
  unfolding as_run run_outcome watch_room off_list
  lent_refused r h = goes ∙ rw h

  pub lent_room : watch_lent p st recs l out room ≡ Ok tt
      → (watch_call p st recs l out room).room ≡ write_at room 0 (rows p recs l (length recs / input_length) 0 st)
  unfolding as_run watch_room
  lent_room h =
      let at : 8 * length l * 0 ≡ 0 = omega arith in
      ap (λ (o : WatchOutcome). o.room) goes ∙ ap (watch_room p st recs l room) h ∙ in_room_lem (length recs / input_length) p recs l 0 st room
      ∙ ap (λ (k : ℕ). write_at room k (rows p recs l (length recs / input_length) 0 st)) at

  plain_walk : watch_lent p st recs l out room ≡ Ok tt → (run_call p st recs out).answer ≡ (walk p recs (length recs / input_length) 0 0 no_step st).answer
  unfolding as_run run_outcome in_room ran_in
  plain_walk h =
      let o = as_plain p st recs l out room f g (right_room p st recs l out room h) in
      let same = goes ∙ ap (λ (v : Verdict). as_run (run_outcome p st recs out v) (watch_room p st recs l room v)) h in
      ap ran_in (sym o.answers ∙ ap (λ (x : WatchOutcome). x.answer) same)
      ∙ ap (λ (x : RunOutcome). x.answer) (run_walk (length recs / input_length) p recs 0 0 no_step st out)

-- For any bytes as program, state, records and rooms, and any list.
pub loose : (p st recs₁ recs₂ : Bytes) (l : List16) (out₁ out₂ room₁ room₂ : Bytes) → length out₁ ≡ length out₂ → length room₁ ≡ length room₂
    → AllAlike p recs₁ recs₂
    → SameWatched out₁ out₂ room₁ room₂ (watch_call p st recs₁ l out₁ room₁) (watch_call p st recs₂ l out₂ room₂)
loose p st recs₁ recs₂ l out₁ out₂ room₁ room₂ lo lw a = program (program_verdict p) refl
  where
    Goal : Type 0
    Goal = SameWatched out₁ out₂ room₁ room₂ (watch_call p st recs₁ l out₁ room₁) (watch_call p st recs₂ l out₂ room₂)

    lr : length recs₁ ≡ length recs₂
    lr = a.as_many

    same_rows : program_verdict p ≡ Ok tt → (n : ℕ) → n ≡ length recs₁ / input_length → rows p recs₁ l n 0 st ≡ rows p recs₂ l n 0 st
    same_rows e n q =
        let some = some_node p (accepted p e).formed in
        rows_agree n p recs₁ recs₂ l 0 st (λ k g h. alike p _ _ k some (a.each k (omega arith)))
        (λ k g h s. shown_same (input_at recs₁ k) (input_at recs₂ k) (a.each k (omega arith)).moment p s (alike_each p _ _ some (a.each k (omega arith))) l)

    lent : program_verdict p ≡ Ok tt → list_wrong l ≡ false → list_fault p l ≡ None → (v : Verdict) → watch_lent p st recs₁ l out₁ room₁ ≡ v → Goal
    lent e f g (Err r) h =
        unwritten (Ok (refused_after r 0 no_step)) st out₁ out₂ room₁ room₂ (λ steps work mark q. not_ended q)
        (lent_refused p st recs₁ l out₁ room₁ e f g r h)
        (lent_refused p st recs₂ l out₂ room₂ e f g r (sym (lent_same p st recs₁ recs₂ l out₁ out₂ room₁ room₂ lr lo lw) ∙ h))
    lent e f g (Ok _) h =
        let h₂ = sym (lent_same p st recs₁ recs₂ l out₁ out₂ room₁ room₂ lr lo lw) ∙ h in
        let n : ℕ = length recs₁ / input_length in
        let right = right_room p st recs₁ l out₁ room₁ h in
        joined (as_plain p st recs₁ l out₁ room₁ f g right) (as_plain p st recs₂ l out₂ room₂ f g (right_room p st recs₂ l out₂ room₂ h₂))
        (unplugged p st recs₁ recs₂ out₁ out₂ lo a) (rows p recs₁ l n 0 st) (lent_room p st recs₁ l out₁ room₁ e f g h)
        (lent_room p st recs₂ l out₂ room₂ e f g h₂
        ∙ ap (λ (m : ℕ). write_at room₂ 0 (rows p recs₂ l (m / input_length) 0 st)) (sym lr) ∙ sym (ap (write_at room₂ 0) (same_rows e n refl)))
        (λ steps work mark q.
        let long = rows_whole n p recs₁ l 0 0 no_step st (sym (plain_walk p st recs₁ l out₁ room₁ e f g h) ∙ q) in
        (right ∙ sym long, sym lw ∙ right ∙ sym long))

    entry : program_verdict p ≡ Ok tt → list_wrong l ≡ false → (q : Option ℕ) → list_fault p l ≡ q → Goal
    entry e f (Some j) g =
        unwritten (Err (ListEntry j)) st out₁ out₂ room₁ room₂ (λ steps work mark q. not_entered q)
        (entry_refused p st recs₁ l out₁ room₁ e f g) (entry_refused p st recs₂ l out₂ room₂ e f g)
    entry e f None g = lent e f g (watch_lent p st recs₁ l out₁ room₁) refl

    listed : program_verdict p ≡ Ok tt → (b : Bool) → list_wrong l ≡ b → Goal
    listed e true f =
        unwritten (Err ListLength) st out₁ out₂ room₁ room₂ (λ steps work mark q. not_listed q)
        (length_refused p st recs₁ l out₁ room₁ e f) (length_refused p st recs₂ l out₂ room₂ e f)
    listed e false f = entry e f (list_fault p l) refl

    program : (v : Verdict) → program_verdict p ≡ v → Goal
    program (Err r) e =
        unwritten (Ok (refused_after r 0 no_step)) st out₁ out₂ room₁ room₂ (λ steps work mark q. not_ended q)
        (program_refused p st recs₁ l out₁ room₁ r e) (program_refused p st recs₂ l out₂ room₂ r e)
    program (Ok _) e = listed e (list_wrong l) refl
