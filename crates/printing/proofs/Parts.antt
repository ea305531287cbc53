-- The parts make up what watchrun prints, for every input.
-- Assumes nothing.
use Rattle.std.specs.Prelude.{if◌then◌else◌, Ok, Err}
use Rattle.rules.specs.Verdicts.{CheckAnswer, Verdict}
use mathlib.Core.Path.{◌≡◌, refl, sym, ap, ◌∙◌}
use mathlib.Core.Bool.{Bool, true, false}
use mathlib.Core.List.{[], ◌∷◌, ◌++◌, append-nil}
use Prim.Native.Nat.{ℕ, zero, suc, ◌+◌, ◌-◌, ◌*◌, ◌≤◌, ◌<◌}
use native.Mathlib.Omega.{arith}
use lib.Dec.{leb, ltb}
use lib.ListN.{length, take, drop, drop_of_length-le}
use lib.Seq.{length-take-le, take_all, get_or-take, drop-drop, take-add}
use borrow.Author.Tests.{lt-ltb, le-ltb, le-leb, lt-leb, ltb-true, ltb-false, leb-true, ne_eqb}
use Rattle.rules.specs.Bytes.{Bytes, byte_at, ◌and◌}
use Rattle.rules.specs.Layout.{edition, edition_in, block_at, count_in, input_length, time_in}
use Rattle.rules.specs.Update.{Stepped, Made, NotMade, step_of}
use Rattle.rules.specs.Calls.{check_call, record_verdict}
use Rattle.rules.specs.Reset.{start_state}
use Rattle.rules.specs.declared.Value.{Value}
use Rattle.rules.specs.declared.Tally.{Tally}
use Rattle.rules.specs.declared.Refusal.{Refusal}
use Rattle.rules.specs.declared.Refusal.TheVariants.{StateFault}
use Rattle.rules.proofs.Static.{and_both}
use Rattle.lines.specs.Print.{first_line, step_line, refused_line}
use Rattle.turns.specs.Decided.{blocks_taken, most_records, blocks_left, wanted, is_record}
use Rattle.printing.specs.Printed.{program_of, records_of, last_line, step_lines, lines_of, printed}
use Rattle.printing.specs.Turns.{opening_line, TurnOutcome, step_turn, record_turn, turn_of, turns_from, played_on, program_read, unread, played}

-- one byte tells whether anything is left
one_tells : (rest : Bytes) (steps total : ℕ) → last_line (length (take 1 rest)) steps total ≡ last_line (length rest) steps total
unfolding last_line
one_tells [] steps total = refl
one_tells (x ∷ xs) steps total = rw (ne_eqb (suc (length xs)) 0 (λ e. omega (arith, e)))

-- the turn behind 4,096 records, and the one on less than a record
over_late : (p piece : Bytes) (steps total : ℕ) (st : Bytes) → most_records ≤ steps
    → turn_of p piece steps total st ≡ record { line = last_line (length piece) steps total; more = false; steps = steps; total = total; state = st }
unfolding turn_of is_record ◌and◌
over_late p piece steps total st h = rw (le-ltb steps most_records h)

over_short : (p piece : Bytes) (steps total : ℕ) (st : Bytes) → steps < most_records → length piece < input_length
    → turn_of p piece steps total st ≡ record { line = last_line (length piece) steps total; more = false; steps = steps; total = total; state = st }
unfolding turn_of is_record ◌and◌
over_short p piece steps total st h g = rw (lt-ltb steps most_records h, lt-leb input_length (length piece) g)

whole_turn : (p piece : Bytes) (steps total : ℕ) (st : Bytes) → steps < most_records → input_length ≤ length piece
    → turn_of p piece steps total st ≡ record_turn p piece steps total st
unfolding turn_of is_record ◌and◌
whole_turn p piece steps total st h g = rw (lt-ltb steps most_records h, le-leb input_length (length piece) g)

-- the turns, by the outcome of the first
turns_by : (p : Bytes) (left : ℕ) (rest : Bytes) (steps total : ℕ) (st : Bytes) (o : TurnOutcome) → turn_of p (take (wanted steps) rest) steps total st ≡ o
    → turns_from p (suc left) rest steps total st
    ≡ o.line ++ (if o.more then turns_from p left (drop (wanted steps) rest) o.steps o.total o.state else [])
unfolding turns_from
turns_by p left rest steps total st o e = rw e

wanted_one : (steps : ℕ) → most_records ≤ steps → wanted steps ≡ 1
unfolding wanted
wanted_one steps h = rw (le-ltb steps most_records h)

wanted_record : (steps : ℕ) → steps < most_records → wanted steps ≡ input_length
unfolding wanted
wanted_record steps h = rw (lt-ltb steps most_records h)

-- the lines of a run, by its next record
lines_short : (p : Bytes) (more : ℕ) (recs : Bytes) (steps total : ℕ) (st : Bytes) → length recs < input_length
    → step_lines p (suc more) recs steps total st ≡ last_line (length recs) steps total
unfolding step_lines
lines_short p more recs steps total st h = rw (lt-ltb (length recs) input_length h)

lines_none : (p recs : Bytes) (steps total : ℕ) (st : Bytes) → step_lines p zero recs steps total st ≡ last_line (length recs) steps total
unfolding step_lines
lines_none p recs steps total st = refl

lines_refused : (p : Bytes) (more : ℕ) (recs : Bytes) (steps total : ℕ) (st : Bytes) {r : Refusal} → input_length ≤ length recs
    → record_verdict steps st (take input_length recs) ≡ Err r → step_lines p (suc more) recs steps total st ≡ refused_line r
unfolding step_lines
lines_refused p more recs steps total st h e = rw (le-ltb (length recs) input_length h, e, step_lines)

lines_stuck : (p : Bytes) (more : ℕ) (recs : Bytes) (steps total : ℕ) (st : Bytes) → input_length ≤ length recs
    → record_verdict steps st (take input_length recs) ≡ Ok tt → step_of p (take input_length recs) st ≡ NotMade
    → step_lines p (suc more) recs steps total st ≡ refused_line StateFault
unfolding step_lines
lines_stuck p more recs steps total st h e f = rw (le-ltb (length recs) input_length h, e, step_lines, f)

lines_made : (p : Bytes) (more : ℕ) (recs : Bytes) (steps total : ℕ) (st : Bytes) {v : Value} {st₁ : Bytes} {w : Tally} → input_length ≤ length recs
    → record_verdict steps st (take input_length recs) ≡ Ok tt → step_of p (take input_length recs) st ≡ Made v st₁ w
    → step_lines p (suc more) recs steps total st
    ≡ step_line (time_in (take input_length recs)) v w.work ++ step_lines p more (drop input_length recs) (suc steps) (total + w.work) st₁
unfolding step_lines
lines_made p more recs steps total st h e f = rw (le-ltb (length recs) input_length h, e, step_lines, f)

-- a turn that is the last
turns_over : (p : Bytes) (left : ℕ) (rest : Bytes) (steps total : ℕ) (st line : Bytes)
    → turn_of p (take (wanted steps) rest) steps total st ≡ record { line = line; more = false; steps = steps; total = total; state = st }
    → turns_from p (suc left) rest steps total st ≡ line
turns_over p left rest steps total st line e = turns_by p left rest steps total st _ e ∙ append-nil line

-- a whole record's turn, by its verdict and its step
turn_refused : (p rec : Bytes) (steps total : ℕ) (st : Bytes) {r : Refusal} → record_verdict steps st rec ≡ Err r
    → record_turn p rec steps total st ≡ record { line = refused_line r; more = false; steps = steps; total = total; state = st }
unfolding record_turn step_turn
turn_refused p rec steps total st e = rw e

turn_stuck : (p rec : Bytes) (steps total : ℕ) (st : Bytes) → record_verdict steps st rec ≡ Ok tt → step_of p rec st ≡ NotMade
    → record_turn p rec steps total st ≡ record { line = refused_line StateFault; more = false; steps = steps; total = total; state = st }
unfolding record_turn step_turn
turn_stuck p rec steps total st e f = rw (e, f)

turn_made : (p rec : Bytes) (steps total : ℕ) (st : Bytes) {v : Value} {st₁ : Bytes} {w : Tally} → record_verdict steps st rec ≡ Ok tt
    → step_of p rec st ≡ Made v st₁ w
    → record_turn p rec steps total st
    ≡ record { line = step_line (time_in rec) v w.work; more = true; steps = suc steps; total = total + w.work; state = st₁ }
unfolding record_turn step_turn
turn_made p rec steps total st e f = rw (e, f)

-- the turns from a whole record on, where those after it are known
module _ (p : Bytes) (more : ℕ)
    (known : (rest : Bytes) (steps total : ℕ) (st : Bytes) → steps + more ≡ most_records
    → turns_from p (suc more) rest steps total st ≡ step_lines p more rest steps total st)
    (rest : Bytes) (steps total : ℕ) (st : Bytes) (h : steps + suc more ≡ most_records) where
  early : steps < most_records
  early = omega (arith, h)

  piece : take (wanted steps) rest ≡ take input_length rest
  piece = ap (λ (k : ℕ). take k rest) (wanted_record steps early)

  short : length rest < input_length → turns_from p (suc (suc more)) rest steps total st ≡ step_lines p (suc more) rest steps total st
  short g =
      turns_over p (suc more) rest steps total st _
      (ap (λ (q : Bytes). turn_of p q steps total st) (piece ∙ take_all input_length rest (omega (arith, g))) ∙ over_short p rest steps total st early g)
      ∙ sym (lines_short p more rest steps total st g)

  module _ (g : input_length ≤ length rest) where
    turn_is : turn_of p (take (wanted steps) rest) steps total st ≡ record_turn p (take input_length rest) steps total st
    turn_is =
        ap (λ (q : Bytes). turn_of p q steps total st) piece
        ∙ whole_turn p (take input_length rest) steps total st early (omega (arith, length-take-le input_length rest g))

    stepped : record_verdict steps st (take input_length rest) ≡ Ok tt → (s : Stepped) → step_of p (take input_length rest) st ≡ s
        → turns_from p (suc (suc more)) rest steps total st ≡ step_lines p (suc more) rest steps total st
    stepped e NotMade f =
        turns_over p (suc more) rest steps total st _ (turn_is ∙ turn_stuck p (take input_length rest) steps total st e f)
        ∙ sym (lines_stuck p more rest steps total st g e f)
    stepped e (Made v st₁ w) f =
        let line : Bytes = step_line (time_in (take input_length rest)) v w.work in
        turns_by p (suc more) rest steps total st _ (turn_is ∙ turn_made p (take input_length rest) steps total st e f)
        ∙ ap (λ (k : ℕ). line ++ turns_from p (suc more) (drop k rest) (suc steps) (total + w.work) st₁) (wanted_record steps early)
        ∙ ap (λ (q : Bytes). line ++ q) (known (drop input_length rest) (suc steps) (total + w.work) st₁ (omega (arith, h)))
        ∙ sym (lines_made p more rest steps total st g e f)

    judged : (v : Verdict) → record_verdict steps st (take input_length rest) ≡ v
        → turns_from p (suc (suc more)) rest steps total st ≡ step_lines p (suc more) rest steps total st
    judged (Err r) e =
        turns_over p (suc more) rest steps total st _ (turn_is ∙ turn_refused p (take input_length rest) steps total st e)
        ∙ sym (lines_refused p more rest steps total st g e)
    judged (Ok _) e = stepped e (step_of p (take input_length rest) st) refl

  next : (b : Bool) → ltb (length rest) input_length ≡ b → turns_from p (suc (suc more)) rest steps total st ≡ step_lines p (suc more) rest steps total st
  next true e = short (ltb-true _ _ e)
  next false e = judged (ltb-false _ _ e) (record_verdict steps st (take input_length rest)) refl

-- the turns are the lines of a run
turns : (p : Bytes) (more : ℕ) (rest : Bytes) (steps total : ℕ) (st : Bytes) → steps + more ≡ most_records
    → turns_from p (suc more) rest steps total st ≡ step_lines p more rest steps total st
turns p zero rest steps total st h =
    let late : most_records ≤ steps = omega (arith, h) in
    turns_over p zero rest steps total st _ (over_late p (take (wanted steps) rest) steps total st late)
    ∙ ap (λ (k : ℕ). last_line (length (take k rest)) steps total) (wanted_one steps late)
    ∙ one_tells rest steps total ∙ sym (lines_none p rest steps total st)
turns p (suc more) rest steps total st h =
    next p more (λ rest₁ steps₁ total₁ st₁ h₁. turns p more rest₁ steps₁ total₁ st₁ h₁) rest steps total st h (ltb (length rest) input_length) refl

-- block 0 says the same as the whole input
count_same : (input : Bytes) → count_in (take 512 input) 0 ≡ count_in input 0
unfolding count_in block_at byte_at
count_same input = get_or-take 512 input 2 0 (omega arith)

edition_same : (input : Bytes) → edition (take 512 input) ≡ edition input
unfolding edition edition_in block_at byte_at
edition_same input = get_or-take 512 input 3 0 (omega arith)

blocks_same : (input : Bytes) → blocks_taken (take 512 input) ≡ blocks_taken input
unfolding blocks_taken
blocks_same input =
    let e = edition_same input in
    let n = count_same input in
    λ i. if leb (e i) 1 and (leb 1 (n i) and leb (n i) 24) then n i else 1

blocks_some : (input : Bytes) → 1 ≤ blocks_taken input
unfolding blocks_taken
blocks_some input = go (count_in input 0) (leb (edition input) 1) (leb (edition input) 1 and (leb 1 (count_in input 0) and leb (count_in input 0) 24)) refl
  where
    go : (n : ℕ) (e b : Bool) → (e and (leb 1 n and leb n 24)) ≡ b → 1 ≤ (if b then n else 1)
    go n e true f = leb-true _ _ (and_both _ _ (and_both _ _ f).1).0
    go n e false f = omega arith

left_some : (head : Bytes) (got : ℕ) → 512 ≤ got → blocks_left head got ≡ 512 * (blocks_taken head - 1)
unfolding blocks_left
left_some head got h = rw (le-ltb got 512 h)

-- what was read of the blocks is the program, and what is unread the records
module _ (input : Bytes) where
  left : ℕ
  left = blocks_left (take 512 input) (length (take 512 input))

  read_so : program_read input ≡ take (512 + left) input
  unfolding program_read left
  read_so = sym (take-add 512 (blocks_left (take 512 input) (length (take 512 input))) input)

  unread_so : unread input ≡ drop (512 + left) input
  unfolding unread left
  unread_so = drop-drop (blocks_left (take 512 input) (length (take 512 input))) 512 input

  all_blocks : 512 ≤ length input → 512 + left ≡ 512 * blocks_taken input
  unfolding left
  all_blocks h =
      omega (
        arith,
        left_some (take 512 input) (length (take 512 input)) (omega (arith, length-take-le 512 input h)),
        blocks_same input,
        blocks_some input,
      )

  cuts : (b : Bool) → ltb (length input) 512 ≡ b → (program_read input ≡ program_of input) × (unread input ≡ records_of input)
  unfolding program_of records_of
  cuts true e =
      let h : length input < 512 = ltb-true _ _ e in
      let g : length input ≤ 512 * blocks_taken input = omega (arith, h, blocks_some input) in
      let f : length input ≤ 512 + left = omega (arith, h) in (
        read_so ∙ take_all (512 + left) input f ∙ sym (take_all (512 * blocks_taken input) input g),
        unread_so ∙ drop_of_length-le input f ∙ sym (drop_of_length-le input g),
      )
  cuts false e =
      let a = all_blocks (ltb-false _ _ e) in
      (read_so ∙ ap (λ (k : ℕ). take k input) a, unread_so ∙ ap (λ (k : ℕ). drop k input) a)

-- a program and its records, by what check found
on : (p recs : Bytes) (found : CheckAnswer) → played_on p recs found ≡ lines_of p recs found
unfolding played_on lines_of opening_line
on p recs (Ok found) = ap (λ (q : Bytes). first_line found.nodes found.cells found.bound found.root ++ q) (turns p most_records recs 0 0 (start_state p) refl)
on p recs (Err r) = refl

-- What the parts make, put together as watchrun does, is what watchrun prints: for every input.
pub parts_make_printed : (input : Bytes) → played input ≡ printed input
unfolding played printed
parts_make_printed input =
    let c = cuts input (ltb (length input) 512) refl in
    (λ i. played_on (c.0 i) (c.1 i) (check_call (c.0 i))) ∙ on (program_of input) (records_of input) (check_call (program_of input))
