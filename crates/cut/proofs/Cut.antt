-- j): cutting a list of records at any record and running the two parts one after the other gives the same outputs, final state and summed
-- work, and the first wrapped step of both.
-- Assumes nothing.
use Rattle.std.specs.Prelude.{if◌then◌else◌, Ok, Err}
use Rattle.rules.specs.Verdicts.{RunAnswer, Verdict, finished_with, refused_after}
use mathlib.Core.Path.{◌≡◌, refl, sym, ap, ◌∙◌}
use mathlib.Core.Bool.{Bool, true, false, not}
use mathlib.Core.List.{[], ◌++◌, append_assoc, append-nil}
use mathlib.Core.Logic.{inl}
use Prim.Native.Nat.{ℕ, zero, suc, ◌+◌, ◌-◌, ◌*◌, ◌/◌, ◌%◌, ◌<◌, ◌≤◌}
use native.Mathlib.Omega.{arith}
use lib.Dec.{eqb, leb}
use lib.ListN.{length, drop, length-append}
use borrow.Author.Tests.{eqb-true, eq-eqb, leb-true, le-leb}
use Rattle.rules.specs.Bytes.{Bytes, write_at, ◌and◌}
use Rattle.rules.specs.Layout.{input_length, input_at}
use Rattle.rules.specs.WellFormed.{well_formed}
use Rattle.rules.specs.Accepted.{Accepted}
use Rattle.rules.specs.Calls.{◌otherwise◌, refuse_if, program_verdict, lent_verdict, record_verdict, RunOutcome, no_step, run_from, run_outcome, run_call}
use Rattle.rules.specs.Update.{step_of}
use Rattle.rules.proofs.Static.{and_both}
use Rattle.rules.proofs.Kids.{not_not}
use Rattle.rules.proofs.Verdicts.{both_fine, if_fine, accepted, fine_verdict}
use Rattle.promises.specs.Small.{Small}
use Rattle.promises.specs.Seated.{Seated}
use Rattle.promises.specs.Run.{RunEnds, AnswersRun}
use Rattle.promises.proofs.FromTable.{seated}
use Rattle.promises.proofs.Runs.{run_from_lem, run_ends_well}
use Rattle.promises.proofs.CallLaws.{state_fine, state_well}
use Rattle.rooms.specs.Walk.{Walk, walk, in_room}
use Rattle.rooms.proofs.WalkLaws.{SameRecord, walk_agree, run_walk, not_finished, Whole, whole, short, write_front, write_all, drop_all}
use Rattle.cut.specs.Parts.{first_of, counted_on, steps_in, CutAt, SameParts}
use Rattle.cut.proofs.Records.{drop_past, input_before, input_after}
use Rattle.cut.proofs.Halves.{behind, walk_split, counting, walk_later, Made₁₂, walk_counted}

-- The records fit a run.
unfoldable pub fits : Bytes → Bool
fits recs = eqb (length recs % input_length) 0 and leb (length recs / input_length) 4096

-- What is lent to a run is as it should be.
pub record Lent (p st recs out : Bytes) : Type 0 where
  pub accepts : Accepted p
  pub well : well_formed p st ≡ true
  pub even : length recs % input_length ≡ 0
  pub few : length recs / input_length ≤ 4096
  pub room : length out ≡ 8 * (length recs / input_length)

pub lent_fine : (p st recs out : Bytes) → lent_verdict p st recs out (fits recs) ≡ Ok tt → Lent p st recs out
unfolding lent_verdict fits
lent_fine p st recs out e =
    let a = both_fine _ _ e in
    let b = both_fine _ _ a.1 in
    let c = both_fine _ _ b.1 in
    let f = and_both _ _ (not_not _ (if_fine _ _ c.0)) in
    record {
      accepts = accepted p a.0;
      well = state_well p st b.0;
      even = eqb-true _ _ f.0;
      few = leb-true _ _ f.1;
      room = eqb-true _ _ (not_not _ (if_fine _ _ c.1));
    }

pub fine_lent : (p st recs out : Bytes) → Lent p st recs out → lent_verdict p st recs out (fits recs) ≡ Ok tt
unfolding lent_verdict fits ◌and◌ ◌otherwise◌ refuse_if
fine_lent p st recs out l =
    rw (fine_verdict p l.accepts, state_fine p st l.well, eq-eqb _ _ l.even, le-leb _ _ l.few, eq-eqb _ _ l.room)

-- A run of what is lent as it should be is its walk, in its room.
run_is : (p st recs out : Bytes) → Lent p st recs out
    → run_call p st recs out ≡ in_room 0 out (walk p recs (length recs / input_length) 0 0 no_step st)
unfolding run_call run_outcome fits
run_is p st recs out l =
    ap (run_outcome p st recs out) (fine_lent p st recs out l) ∙ run_walk (length recs / input_length) p recs 0 0 no_step st out

-- A run that is not refused was lent what it should be.
was_lent : (p st recs out : Bytes) (steps work mark : ℕ) → (run_call p st recs out).answer ≡ finished_with steps work mark → Lent p st recs out
unfolding run_call run_outcome fits
was_lent p st recs out steps work mark = go (lent_verdict p st recs out (fits recs)) refl
  where
    go : (v : Verdict) → lent_verdict p st recs out (fits recs) ≡ v → (run_outcome p st recs out v).answer ≡ finished_with steps work mark → Lent p st recs out
    go (Ok _) e f = lent_fine p st recs out e
    go (Err r) e f = absurd (not_finished f)

-- A walk from a well-formed state leaves a well-formed state, and ends with no code below 12.
record Ends (p : Bytes) (r : Walk) : Type 0 where
  well : well_formed p r.state ≡ true
  bytes : Small r.state
  answers : Made₁₂ r.answer

made₁₂ : (p : Bytes) (left done work : ℕ) (a : RunAnswer) → AnswersRun p left done work a → Made₁₂ a
made₁₂ p left done work (Ok end) e = tt
made₁₂ p left done work (Err stop) e = e.0.0

walk_ends_well : (p st recs : Bytes) → Small p → Small st → Small recs → Accepted p → well_formed p st ≡ true → (n : ℕ) → Ends p (walk p recs n 0 0 no_step st)
unfolding in_room
walk_ends_well p st recs hp hs hr acc well n =
    let m = run_ends_well n p recs (run_from p recs n 0 0 no_step st []) 0 0 no_step st [] well hs (run_from_lem n p recs acc (seated p hp acc) hr 0 0 no_step st [] well hs) in
    let e : RunEnds p n 0 0 (in_room 0 [] (walk p recs n 0 0 no_step st)) = rw (run_walk n p recs 0 0 no_step st []) at m in
    record { well = e.well; bytes = e.bytes; answers = made₁₂ p n 0 0 (walk p recs n 0 0 no_step st).answer e.answers }

-- The three runs by their walks: r₁ and r₂ of the parts, r of the whole.
module _ (out₁ out₂ out : Bytes) (steps work mark : ℕ) (r₁ r₂ : Walk) (l₁ : length out₁ ≡ length r₁.written)
    (f₁ : length r₁.written ≡ 8 * steps) (c₂ : length r₂.written ≡ 8 * steps_in r₂.answer)
    (l₂ : length r₂.written ≤ length out₂) (l : length out ≡ length out₁ + length out₂)
    (full : (steps₂ work₂ mark₂ : ℕ) → r₂.answer ≡ finished_with steps₂ work₂ mark₂ → length out₂ ≡ length r₂.written) where
  -- What the whole's room holds after the two parts' bytes.
  rest_is : (bs : Bytes) → length bs ≡ length r₁.written → drop (length (r₁.written ++ r₂.written)) out ≡ drop (length bs + length r₂.written) out
  rest_is bs e = ap (λ (n : ℕ). drop n out) (let z : length (r₁.written ++ r₂.written) ≡ length bs + length r₂.written = omega (arith, length-append r₁.written r₂.written) in z)

  first_is : write_at out₁ 0 r₁.written ≡ r₁.written
  first_is = write_all r₁.written out₁ l₁

  whole_is : write_at out 0 (r₁.written ++ r₂.written) ≡ r₁.written ++ (r₂.written ++ drop (length r₁.written + length r₂.written) out)
  whole_is =
      write_front (r₁.written ++ r₂.written) out (omega (arith, length-append r₁.written r₂.written))
      ∙ ap (λ (s : Bytes). (r₁.written ++ r₂.written) ++ s) (rest_is r₁.written refl)
      ∙ append_assoc r₁.written r₂.written _

  second_is : write_at out₂ 0 r₂.written ≡ r₂.written ++ drop (length r₂.written) out₂
  second_is = write_front r₂.written out₂ l₂

  -- What is left of the whole's room is what is left of the second's.
  same_rest : drop (length r₁.written + length r₂.written) out ≡ drop (length r₂.written) out₂
      → write_at out 0 (r₁.written ++ r₂.written) ≡ write_at out₁ 0 r₁.written ++ write_at out₂ 0 r₂.written
  same_rest e =
      whole_is ∙ ap (λ (s : Bytes). r₁.written ++ (r₂.written ++ s)) e
      ∙ (λ i. sym first_is i ++ sym second_is i)

  parts : (a b c : RunOutcome) → a ≡ in_room 0 out₁ r₁ → b ≡ in_room 0 out₂ r₂ → c ≡ in_room 0 out (behind r₁.written (counting steps work mark r₂))
      → SameParts out₁ out₂ out steps work mark a b c
  unfolding in_room behind counting
  parts a b c ea eb ec =
      let oa : a.output ≡ write_at out₁ 0 r₁.written = ap (λ (o : RunOutcome). o.output) ea in
      let ob : b.output ≡ write_at out₂ 0 r₂.written = ap (λ (o : RunOutcome). o.output) eb in
      let oc : c.output ≡ write_at out 0 (r₁.written ++ r₂.written) = ap (λ (o : RunOutcome). o.output) ec in
      let ab : b.answer ≡ r₂.answer = ap (λ (o : RunOutcome). o.answer) eb in
      let both : write_at out₁ 0 r₁.written ++ write_at out₂ 0 r₂.written ≡ a.output ++ b.output = λ i. sym oa i ++ sym ob i in
      record {
        state = ap (λ (o : RunOutcome). o.state) ec ∙ sym (ap (λ (o : RunOutcome). o.state) eb);
        answer = ap (λ (o : RunOutcome). o.answer) ec ∙ sym (ap (counted_on steps work mark) ab);
        written = r₂.written;
        counted = c₂ ∙ sym (ap (λ (x : RunAnswer). 8 * steps_in x) ab);
        into₂ = ob ∙ second_is;
        into = oc ∙ whole_is ∙ (λ i. sym (oa ∙ first_is) i ++ (r₂.written ++ drop (length (sym (oa ∙ first_is) i) + length r₂.written) out));
        finished = λ steps₂ work₂ mark₂ e.
            let n = full steps₂ work₂ mark₂ (sym ab ∙ e) in
            oc ∙ same_rest (drop_all out (length r₁.written + length r₂.written) (omega arith) ∙ sym (drop_all out₂ (length r₂.written) (omega arith))) ∙ both;
        one_room = λ e.
            oc ∙ same_rest (ap (drop (length r₁.written + length r₂.written)) e
            ∙ ap (λ (n : ℕ). drop (n + length r₂.written) (out₁ ++ out₂)) (sym l₁)
            ∙ drop_past out₁ out₂ (length r₂.written)) ∙ both;
      }

-- A run's walk, the same over a longer list.
longer : (p recs₁ recs₂ st : Bytes) (m : ℕ) → length recs₁ ≡ input_length * m → walk p (recs₁ ++ recs₂) m 0 0 no_step st ≡ walk p recs₁ m 0 0 no_step st
longer p recs₁ recs₂ st m l =
    walk_agree m p (recs₁ ++ recs₂) recs₁ 0 0 no_step st λ k g h.
    let e = input_before recs₁ recs₂ k m l (omega arith) in
    record {
      verdict = λ s. ap (λ (x : Bytes). record_verdict k s x) e;
      step = λ s. ap (λ (x : Bytes). step_of p x s) e;
    }

-- The records of both lists: as many as of each, and the lengths that follow.
record Sizes (recs₁ recs₂ : Bytes) : Type 0 where
  first : length recs₁ ≡ input_length * (length recs₁ / input_length)
  sum : length (recs₁ ++ recs₂) / input_length ≡ length recs₁ / input_length + length recs₂ / input_length
  even : length (recs₁ ++ recs₂) % input_length ≡ 0

sizes : (recs₁ recs₂ : Bytes) → length recs₁ % input_length ≡ 0 → length recs₂ % input_length ≡ 0 → Sizes recs₁ recs₂
sizes recs₁ recs₂ e f = record {
  first = omega arith;
  sum = omega (arith, length-append recs₁ recs₂);
  even = omega (arith, length-append recs₁ recs₂);
}

-- Before its first step the second part has no wrapped one.
first_none : (d mark : ℕ) → mark ≡ first_of d mark no_step
first_none d mark = go (eqb mark no_step) refl
  where
    go : (b : Bool) → eqb mark no_step ≡ b → mark ≡ (if b then no_step else mark)
    go true e = eqb-true mark no_step e
    go false e = refl

-- j)
pub cut : (p st recs₁ recs₂ out₁ out₂ out : Bytes) (steps work mark : ℕ) → Small p → Small st → Small recs₁ → Small recs₂
    → CutAt recs₁ recs₂ out₁ out₂ out (run_call p st recs₁ out₁).answer steps work mark
    → SameParts out₁ out₂ out steps work mark (run_call p st recs₁ out₁) (run_call p (run_call p st recs₁ out₁).state recs₂ out₂)
    (run_call p st (recs₁ ++ recs₂) out)
unfolding in_room
cut p st recs₁ recs₂ out₁ out₂ out steps work mark hp hs h₁ h₂ at =
    let l₁ = was_lent p st recs₁ out₁ steps work mark at.not_refused in
    let acc = l₁.accepts in
    let z = sizes recs₁ recs₂ l₁.even at.whole_records in
    let m : ℕ = length recs₁ / input_length in
    let n : ℕ = length recs₂ / input_length in
    let r₁ : Walk = walk p recs₁ m 0 0 no_step st in
    let r₂ : Walk = walk p recs₂ n 0 0 no_step r₁.state in
    let a_is = run_is p st recs₁ out₁ l₁ in
    let done : r₁.answer ≡ finished_with steps work mark = sym (ap (λ (o : RunOutcome). o.answer) a_is) ∙ at.not_refused in
    let w₁ = whole m p recs₁ 0 0 no_step st steps work mark done in
    let e₁ = walk_ends_well p st recs₁ hp hs h₁ acc l₁.well m in
    let e₂ = walk_ends_well p r₁.state recs₂ hp e₁.bytes h₂ acc e₁.well n in
    let l₂ : Lent p r₁.state recs₂ out₂
    = record { accepts = acc; well = e₁.well; even = at.whole_records; few = omega (arith, at.not_many, z.sum); room = at.room₂ } in
    let l : Lent p st (recs₁ ++ recs₂) out
    = record { accepts = acc; well = l₁.well; even = z.even; few = at.not_many; room = at.room } in
    let same-state : (run_call p st recs₁ out₁).state ≡ r₁.state = ap (λ (o : RunOutcome). o.state) a_is in
    let b_is : run_call p (run_call p st recs₁ out₁).state recs₂ out₂ ≡ in_room 0 out₂ r₂
    = ap (λ (s : Bytes). run_call p s recs₂ out₂) same-state ∙ run_is p r₁.state recs₂ out₂ l₂ in
    let both : Bytes = recs₁ ++ recs₂ in
    let long = longer p recs₁ recs₂ st m z.first in
    let zero₁ : steps ≡ steps + 0 = omega arith in
    let zero₂ : work ≡ work + 0 = omega arith in
    let zero₃ = first_none steps mark in
    let rest : walk p both n steps work mark r₁.state ≡ counting steps work mark r₂
    = (λ i. walk p both n (zero₁ i) (zero₂ i) (zero₃ i) r₁.state)
    ∙ walk_later n p both recs₂ steps work mark (λ k. input_after recs₁ recs₂ k steps (z.first ∙ ap (λ (j : ℕ). input_length * j) (let q : m ≡ steps = omega (arith, w₁.counted) in q)))
    0 0 no_step r₁.state (inl refl) (omega (arith, at.not_many, z.sum, w₁.counted)) in
    let c_is : run_call p st both out ≡ in_room 0 out (behind r₁.written (counting steps work mark r₂))
    = run_is p st both out l
    ∙ ap (in_room 0 out) (ap (λ (k : ℕ). walk p both k 0 0 no_step st) z.sum
    ∙ walk_split m n p both 0 0 no_step st steps work mark (ap (λ (x : Walk). x.answer) long ∙ done)
    ∙ ap (λ (x : Walk). behind x.written (walk p both n steps work mark x.state)) long
    ∙ ap (behind r₁.written) rest) in
    let c₂ : length r₂.written ≡ 8 * steps_in r₂.answer = omega (arith, walk_counted n p recs₂ 0 0 no_step r₁.state e₂.answers) in
    parts out₁ out₂ out steps work mark r₁ r₂
    (omega (arith, l₁.room, w₁.long))
    (omega (arith, w₁.long, w₁.counted))
    c₂
    (omega (arith, short n p recs₂ 0 0 no_step r₁.state, at.room₂))
    (omega (arith, at.room, z.sum, l₁.room, at.room₂))
    (λ steps₂ work₂ mark₂ f. omega (arith, at.room₂, (whole n p recs₂ 0 0 no_step r₁.state steps₂ work₂ mark₂ f).long))
    _ _ _ a_is b_is c_is
