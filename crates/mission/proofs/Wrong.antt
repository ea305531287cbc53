-- Document 01's wrong programs do not keep the demands, nor does one that invents the first wrapped step (document 02, f). A hypothesis asks only
-- what such a program does where it goes through: its refusals may leave all as it was. Shown on rows of the table of readings: A, D and twice a distance.
-- Assumes nothing.
use Rattle.std.specs.Prelude.{Err}
use Rattle.rules.proofs.Same.{same_finished}
use Rattle.rules.specs.Verdicts.{CheckAnswer, accepted_with, finished_with}
use mathlib.Core.Path.{◌≡◌, refl, sym, ap, ◌∙◌}
use mathlib.Core.Bool.{Bool, true, false}
use mathlib.Core.List.{List, [], ◌∷◌}
use Prim.Native.Nat.{ℕ, zero, suc, ◌*◌, ◌≤◌}
use native.Mathlib.Omega.{arith}
use lib.Dec.{ltb}
use lib.ListN.{replicate, length-replicate}
use borrow.Author.Tests.{ltb-true}
use Rattle.rules.specs.Bytes.{Bytes, ◌and◌, byte_at, u16_at, u32_at, u64_at, bytes_of}
use Rattle.rules.specs.Values.{is_plain, value_from, packed, value_bytes, type_in, present_in, word_in, unpacked}
use Rattle.rules.specs.Layout.{state_length}
use Rattle.rules.specs.Format.{weighed, check_of}
use Rattle.rules.specs.Calls.{StartOutcome, RunOutcome, no_step, check_call, start_call, run_call}
use Rattle.rules.specs.Promised.{Runs}
use Rattle.rules.specs.Samples.{joined, quiet, measured, event}
use Rattle.rules.specs.Readings.{Step, Seen, int, counting, selfish, switching, doubling, row_a, row_d, readings, sights, expected}
use Rattle.rules.specs.declared.Value.{Value}
use Rattle.rules.specs.declared.Refusal.TheVariants.{NotReady}
use Rattle.rules.proofs.Static.{and_both}
use Rattle.rules.proofs.Table.{readings_hold}
use Rattle.promises.specs.Small.{Small}
use Rattle.promises.specs.GoesOn.{State, GoesOn}
use Rattle.promises.proofs.SmallLaws.{small_nil, small_cons}
use Rattle.promises.proofs.Promises.{goes_on, answered}
use Rattle.declarative.specs.Exactly.{Accepts}
use Rattle.declarative.proofs.AcceptedExactly.{accepted_exactly}
use Rattle.mission.specs.Keeps.{ChecksSo, KeepsDemands}
use Rattle.mission.specs.Mission.{Accepting}
use Rattle.mission.proofs.Demands.{run_demands}
use Rattle.mission.proofs.Fixes.{fixed_run}

-- A run by the contract of the public call keeps the demands; and one that keeps them is that run.
pub runs_keep : {call : Bytes → Bytes → Bytes → Bytes → RunOutcome} → Runs call → KeepsDemands call
runs_keep c = record {
  meets = λ p st recs out hp hs hr.
      let e = c.as_ruled p st recs out in
      run_demands p st recs out hp hs hr (ap (λ (o : RunOutcome). o.answer) e) (ap (λ (o : RunOutcome). o.state) e) (ap (λ (o : RunOutcome). o.output) e);
}

pub kept_is : {call : Bytes → Bytes → Bytes → Bytes → RunOutcome} → KeepsDemands call → (p st recs out : Bytes) → Small p → Small st → Small recs
    → call p st recs out ≡ run_call p st recs out
kept_is c p st recs out hp hs hr = sym (fixed_run p st recs out _ _ _ (c.meets p st recs out hp hs hr))

-- Lists of bytes, by looking at each.
unfoldable all_small : Bytes → Bool
all_small [] = true
all_small (b ∷ s) = ltb b 256 and all_small s

small_of : (s : Bytes) → all_small s ≡ true → Small s
unfolding all_small
small_of [] e = small_nil
small_of (b ∷ s) e = let a = and_both _ _ e in small_cons b s (ltb-true _ _ a.0) (small_of s a.1)

-- A row of the table, and a step of it.
abbrev seen_at : ℕ → Seen → List Seen → Seen
seen_at k none [] = none
seen_at zero none (s ∷ l) = s
seen_at (suc k) none (s ∷ l) = seen_at k none l

abbrev step_at : ℕ → Step → List Step → Step
step_at k none [] = none
step_at zero none (s ∷ l) = s
step_at (suc k) none (s ∷ l) = step_at k none l

abbrev any_step : Step
any_step = record { answer = finished_with 0 0 no_step; value = int 0 }

abbrev seen_a : List Seen → Seen
seen_a l = seen_at 0 row_a.sight l

abbrev seen_d : List Seen → Seen
seen_d l = seen_at 3 row_a.sight l

abbrev seen_w : List Seen → Seen
seen_w l = seen_at 35 row_a.sight l

-- The start states of these rows, the rooms, and the runs of one record after the other.
abbrev start_a : Bytes
start_a = (start_call (counting 0) (replicate (state_length (counting 0)) 0)).state

abbrev start_d : Bytes
start_d = (start_call switching (replicate (state_length switching) 0)).state

abbrev start_w : Bytes
start_w = (start_call doubling (replicate (state_length doubling) 0)).state

abbrev room : Bytes
room = replicate 8 0

abbrev records_d : Bytes
records_d = joined (event 0 5 ∷ quiet 1 ∷ event 2 6 ∷ quiet 3 ∷ [])

abbrev room_d : Bytes
room_d = replicate 32 0

abbrev first_a : RunOutcome
first_a = run_call (counting 0) start_a (quiet 0) room

abbrev second_a : RunOutcome
second_a = run_call (counting 0) first_a.state (quiet 100) room

abbrev third_a : RunOutcome
third_a = run_call (counting 0) second_a.state (quiet 100) room

abbrev first_d : RunOutcome
first_d = run_call switching start_d (event 0 5) room

abbrev second_d : RunOutcome
second_d = run_call switching first_d.state (quiet 1) room

abbrev first_w : RunOutcome
first_w = run_call doubling start_w (measured 0 5) room

abbrev second_w : RunOutcome
second_w = run_call doubling first_w.state (measured 0 1073741824) room

-- An output room's value at a step.
abbrev shown : ℕ → Bytes → Value
shown k out = unpacked (u64_at out (8 * k))

-- What the table says of them.
a_accepted : check_call (counting 0) ≡ accepted_with 8 1 13 3
a_accepted = ap (λ (l : List Seen). (seen_a l).check) readings_hold

a_first : shown 0 first_a.output ≡ int 0
a_first = ap (λ (l : List Seen). (step_at 0 any_step (seen_a l).steps).value) readings_hold

a_second : shown 0 second_a.output ≡ int 1
a_second = ap (λ (l : List Seen). (step_at 1 any_step (seen_a l).steps).value) readings_hold

a_third : shown 0 third_a.output ≡ int 2
a_third = ap (λ (l : List Seen). (step_at 2 any_step (seen_a l).steps).value) readings_hold

a_made : first_a.answer ≡ finished_with 1 13 no_step
a_made = ap (λ (l : List Seen). (step_at 0 any_step (seen_a l).steps).answer) readings_hold

a_made_2 : second_a.answer ≡ finished_with 1 13 no_step
a_made_2 = ap (λ (l : List Seen). (step_at 1 any_step (seen_a l).steps).answer) readings_hold

d_accepted : check_call switching ≡ accepted_with 6 1 7 3
d_accepted = ap (λ (l : List Seen). (seen_d l).check) readings_hold

d_first : first_d.answer ≡ finished_with 1 6 no_step
d_first = ap (λ (l : List Seen). (step_at 0 any_step (seen_d l).steps).answer) readings_hold

d_second : second_d.answer ≡ finished_with 1 7 no_step
d_second = ap (λ (l : List Seen). (step_at 1 any_step (seen_d l).steps).answer) readings_hold

d_ran : (run_call switching start_d records_d room_d).answer ≡ finished_with 4 26 no_step
d_ran = ap (λ (l : List Seen). (seen_d l).run) readings_hold

d_output : (run_call switching start_d records_d room_d).output ≡ row_d.sight.output
d_output = ap (λ (l : List Seen). (seen_d l).output) readings_hold

w_accepted : check_call doubling ≡ accepted_with 6 0 10 3
w_accepted = ap (λ (l : List Seen). (seen_w l).check) readings_hold

w_first : first_w.answer ≡ finished_with 1 10 no_step
w_first = ap (λ (l : List Seen). (step_at 0 any_step (seen_w l).steps).answer) readings_hold

w_second : second_w.answer ≡ finished_with 1 10 0
w_second = ap (λ (l : List Seen). (step_at 1 any_step (seen_w l).steps).answer) readings_hold

-- They are lists of bytes, and the states are states.
bytes_a : Small (counting 0)
unfolding all_small ◌and◌ bytes_of check_of weighed
bytes_a = small_of (counting 0) refl

bytes_d : Small switching
unfolding all_small ◌and◌ bytes_of check_of weighed
bytes_d = small_of switching refl

bytes_w : Small doubling
unfolding all_small ◌and◌ bytes_of check_of weighed
bytes_w = small_of doubling refl

quiet_0 : Small (quiet 0)
unfolding all_small ◌and◌ bytes_of
quiet_0 = small_of (quiet 0) refl

quiet_1 : Small (quiet 1)
unfolding all_small ◌and◌ bytes_of
quiet_1 = small_of (quiet 1) refl

quiet_100 : Small (quiet 100)
unfolding all_small ◌and◌ bytes_of
quiet_100 = small_of (quiet 100) refl

event_0 : Small (event 0 5)
unfolding all_small ◌and◌ bytes_of
event_0 = small_of (event 0 5) refl

near : Small (measured 0 5)
unfolding all_small ◌and◌ bytes_of
near = small_of (measured 0 5) refl

full_scale : Small (measured 0 1073741824)
unfolding all_small ◌and◌ bytes_of
full_scale = small_of (measured 0 1073741824) refl

records_d_lem : Small records_d
unfolding all_small ◌and◌ bytes_of
records_d_lem = small_of records_d refl

on_a : GoesOn (counting 0)
on_a = goes_on (counting 0) bytes_a (answered (counting 0) 8 1 13 3 a_accepted).accepts

on_d : GoesOn switching
on_d = goes_on switching bytes_d (answered switching 6 1 7 3 d_accepted).accepts

on_w : GoesOn doubling
on_w = goes_on doubling bytes_w (answered doubling 6 0 10 3 w_accepted).accepts

started : (p : Bytes) → GoesOn p → State p (start_call p (replicate (state_length p) 0)).state
started p g = rw (g.starts (replicate (state_length p) 0) (length-replicate (state_length p) 0)) g.started

state_a : State (counting 0) start_a
state_a = started (counting 0) on_a

state_a1 : State (counting 0) first_a.state
state_a1 = on_a.run_leaves start_a (quiet 0) room state_a quiet_0

state_d : State switching start_d
state_d = started switching on_d

state_d1 : State switching first_d.state
state_d1 = on_d.run_leaves start_d (event 0 5) room state_d event_0

state_w : State doubling start_w
state_w = started doubling on_w

state_w1 : State doubling first_w.state
state_w1 = on_w.run_leaves start_w (measured 0 5) room state_w near

-- A check that refuses all, for whatever reasons; and one that accepts all.
accepting : (p : Bytes) (count cells most type : ℕ) → check_call p ≡ accepted_with count cells most type → Accepts p
accepting p count cells most type e = record { count = count; cells = cells; most = most; type = type; answer = e }

pub no_refusing_checks : {call : Bytes → CheckAnswer} → ChecksSo call → ((p : Bytes) → Accepting (call p) → ⊥) → ⊥
no_refusing_checks c wrong =
    wrong (counting 0) ((c.meets (counting 0) bytes_a).exactly.if₀
    ((accepted_exactly (counting 0)).by_sentences.only_if (accepting (counting 0) 8 1 13 3 a_accepted)))

c_refused : check_call selfish ≡ Err (NotReady 4)
c_refused = ap (λ (l : List Seen). (seen_at 2 row_a.sight l).check) readings_hold

bytes_c : Small selfish
unfolding all_small ◌and◌ bytes_of check_of weighed
bytes_c = small_of selfish refl

pub no_accepting_checks : {call : Bytes → CheckAnswer} → ChecksSo call → ((p : Bytes) → Accepting (call p)) → ⊥
no_accepting_checks c wrong =
    let a = (accepted_exactly selfish).by_sentences.if₀ ((c.meets selfish bytes_c).exactly.only_if (wrong selfish)) in
    let e : Err (NotReady 4) ≡ accepted_with a.count a.cells a.most a.type = sym c_refused ∙ a.answer in
    let z : ◌≡◌ {A = ℕ} 0 1 = cc in omega arith

-- A run that keeps the demands, on these rows.
module _ {call : Bytes → Bytes → Bytes → Bytes → RunOutcome} (c : KeepsDemands call) where
  is_a : call (counting 0) start_a (quiet 0) room ≡ first_a
  is_a = kept_is c (counting 0) start_a (quiet 0) room bytes_a state_a.bytes quiet_0

  is_a2 : call (counting 0) first_a.state (quiet 100) room ≡ second_a
  is_a2 = kept_is c (counting 0) first_a.state (quiet 100) room bytes_a state_a1.bytes quiet_100

  is_d1 : call switching start_d (event 0 5) room ≡ first_d
  is_d1 = kept_is c switching start_d (event 0 5) room bytes_d state_d.bytes event_0

  is_d2 : call switching first_d.state (quiet 1) room ≡ second_d
  is_d2 = kept_is c switching first_d.state (quiet 1) room bytes_d state_d1.bytes quiet_1

  is_d : call switching start_d records_d room_d ≡ run_call switching start_d records_d room_d
  is_d = kept_is c switching start_d records_d room_d bytes_d state_d.bytes records_d_lem

  is_w1 : call doubling start_w (measured 0 5) room ≡ first_w
  is_w1 = kept_is c doubling start_w (measured 0 5) room bytes_w state_w.bytes near

  is_w2 : call doubling first_w.state (measured 0 1073741824) room ≡ second_w
  is_w2 = kept_is c doubling first_w.state (measured 0 1073741824) room bytes_w state_w1.bytes full_scale

  -- A run that makes no step, whatever reason it gives: one that refuses all.
  pub no_refusing_runs : ((p st recs out : Bytes) (s w m : ℕ) → 1 ≤ s → (call p st recs out).answer ≡ finished_with s w m → ⊥) → ⊥
  no_refusing_runs wrong =
      wrong (counting 0) start_a (quiet 0) room 1 13 no_step (omega arith) (ap (λ (o : RunOutcome). o.answer) is_a ∙ a_made)

  -- One fixed value, or one that goes by the program alone, wherever a step is made.
  pub no_one_value : (v : Bytes → Value)
      → ((p st rec out : Bytes) (w m : ℕ) → (call p st rec out).answer ≡ finished_with 1 w m → shown 0 (call p st rec out).output ≡ v p) → ⊥
  no_one_value v wrong =
      let first : shown 0 first_a.output ≡ v (counting 0)
      = sym (ap (λ (o : RunOutcome). shown 0 o.output) is_a)
      ∙ wrong (counting 0) start_a (quiet 0) room 13 no_step (ap (λ (o : RunOutcome). o.answer) is_a ∙ a_made) in
      let second : shown 0 second_a.output ≡ v (counting 0)
      = sym (ap (λ (o : RunOutcome). shown 0 o.output) is_a2)
      ∙ wrong (counting 0) first_a.state (quiet 100) room 13 no_step (ap (λ (o : RunOutcome). o.answer) is_a2 ∙ a_made_2) in
      let e : int 0 ≡ int 1 = sym a_first ∙ first ∙ sym second ∙ a_second in
      let z : ◌≡◌ {A = ℕ} 0 1 = cc in omega arith

  -- A step that writes no state, wherever it is made.
  pub no_unwritten_state : ((p st rec out : Bytes) (w m : ℕ) → (call p st rec out).answer ≡ finished_with 1 w m → (call p st rec out).state ≡ st) → ⊥
  no_unwritten_state wrong =
      let same : second_a.state ≡ first_a.state
      = sym (ap (λ (o : RunOutcome). o.state) is_a2)
      ∙ wrong (counting 0) first_a.state (quiet 100) room 13 no_step (ap (λ (o : RunOutcome). o.answer) is_a2 ∙ a_made_2) in
      let e : int 1 ≡ int 2
      = sym a_second ∙ ap (λ (st : Bytes). shown 0 (run_call (counting 0) st (quiet 100) room).output) (sym same) ∙ a_third in
      let z : ◌≡◌ {A = ℕ} 1 2 = cc in omega arith

  -- A run that works its first record and repeats it: where two steps or more are made, the first two values are equal.
  pub no_repeating : ((p st recs out : Bytes) (s w m : ℕ) → 2 ≤ s → (call p st recs out).answer ≡ finished_with s w m
      → shown 0 (call p st recs out).output ≡ shown 1 (call p st recs out).output) → ⊥
  unfolding unpacked value_from is_plain type_in present_in word_in ◌and◌ u64_at u32_at u16_at byte_at bytes_of value_bytes packed
  no_repeating wrong =
      let o : (call switching start_d records_d room_d).output ≡ row_d.sight.output = ap (λ (o : RunOutcome). o.output) is_d ∙ d_output in
      let e : int 0 ≡ int 5
      = sym (ap (shown 0) o)
      ∙ wrong switching start_d records_d room_d 4 26 no_step (omega arith) (ap (λ (o : RunOutcome). o.answer) is_d ∙ d_ran)
      ∙ ap (shown 1) o in
      let z : ◌≡◌ {A = ℕ} 0 5 = cc in omega arith

  -- An invented work figure: one that goes by the program and the number of steps, as the bound does; and any other than the rules' in row A.
  pub no_invented_work : (figure : Bytes → ℕ → ℕ)
      → ((p st recs out : Bytes) (s w m : ℕ) → (call p st recs out).answer ≡ finished_with s w m → w ≡ figure p s) → ⊥
  no_invented_work figure wrong =
      let six : 6 ≡ figure switching 1 = wrong switching start_d (event 0 5) room 1 6 no_step (ap (λ (o : RunOutcome). o.answer) is_d1 ∙ d_first) in
      let seven : 7 ≡ figure switching 1
      = wrong switching first_d.state (quiet 1) room 1 7 no_step (ap (λ (o : RunOutcome). o.answer) is_d2 ∙ d_second) in
      omega arith

  pub no_other_work : (w m : ℕ) → (w ≡ 13 → ⊥) → (call (counting 0) start_a (quiet 0) room).answer ≡ finished_with 1 w m → ⊥
  no_other_work w m other wrong =
      let e : finished_with 1 w m ≡ finished_with 1 13 no_step = sym wrong ∙ ap (λ (o : RunOutcome). o.answer) is_a ∙ a_made in
      other (same_finished e).1

  -- An invented wrapped step: one that goes by the program, the number of steps and the work. So none answers 65535 always, and none the first step always.
  pub no_invented_mark : (figure : Bytes → ℕ → ℕ → ℕ)
      → ((p st recs out : Bytes) (s w m : ℕ) → (call p st recs out).answer ≡ finished_with s w m → m ≡ figure p s w) → ⊥
  no_invented_mark figure wrong =
      let unmarked : no_step ≡ figure doubling 1 10
      = wrong doubling start_w (measured 0 5) room 1 10 no_step (ap (λ (o : RunOutcome). o.answer) is_w1 ∙ w_first) in
      let first : 0 ≡ figure doubling 1 10
      = wrong doubling first_w.state (measured 0 1073741824) room 1 10 0 (ap (λ (o : RunOutcome). o.answer) is_w2 ∙ w_second) in
      omega arith
