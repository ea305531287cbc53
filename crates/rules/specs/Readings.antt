-- The readings that the paper gives to hold against, as rows: a program, records, and what the calls answer.
-- Assumes nothing: these are definitions.
use Rattle.std.specs.Prelude.{ℕ, ◌+◌, ◌*◌, List, [], ◌∷◌, ◌++◌, length, replicate, Err}
use Rattle.rules.specs.Verdicts.{CheckAnswer, RunAnswer, accepted_with, finished_with, refused_after}
use Rattle.rules.specs.Bytes.{Bytes, bytes_of, u64_at}
use Rattle.rules.specs.Values.{bool_t, int_t, unpacked, value_bytes}
use Rattle.rules.specs.Layout.{no_next, no_time, checks_of, state_length}
use Rattle.rules.specs.Calls.{no_step, check_call, start_call, run_call}
use Rattle.rules.specs.Samples.{minus, joined, program, program_in, program_two, quiet, measured, event, event_five, two_events, stray, input, ext, delay, let_signal, switch, let_continue, until, branch, case, variable, constant, truth, operation, add, divide, negation, choice, just}
use Rattle.rules.specs.declared.Value.{Value}
use Rattle.rules.specs.declared.Value.TheVariants.{Plain, Absent, Present}
use Rattle.rules.specs.declared.Refusal.{Refusal}
use Rattle.rules.specs.declared.Refusal.TheVariants.{BlockNumber, ScopeFault, TypeFault, NotReady, InputFault}

-- What is seen of a program and records: the answer of check; from the start state, the answer and value of a run of each record by itself; the outcome of the run of all.
pub record Step : Type 0 where
  pub answer : RunAnswer
  pub value : Value

pub record Seen : Type 0 where
  pub check : CheckAnswer
  pub steps : List Step
  pub run : RunAnswer
  pub state : Bytes
  pub output : Bytes

-- A step with its work, in which no number wrapped; and one in which a number wrapped. A refused step's output is as before.
abbrev pub made : Value → ℕ → Step
made v w = record { answer = finished_with 1 w no_step; value = v }

abbrev pub wraps : Value → ℕ → Step
wraps v w = record { answer = finished_with 1 w 0; value = v }

abbrev pub refused : Refusal → Step
refused r = record { answer = refused_after r 0 no_step; value = Absent 0 }

abbrev pub steps_from : Bytes → Bytes → List Bytes → List Step
steps_from p st [] = []
steps_from p st (rec ∷ recs) =
    let o = run_call p st rec (replicate 8 0) in
    record { answer = o.answer; value = unpacked (u64_at o.output 0) } ∷ steps_from p o.state recs

abbrev pub seen : Bytes → List Bytes → Seen
seen p recs =
    let st = (start_call p (replicate (state_length p) 0)).state in
    let o = run_call p st (joined recs) (replicate (8 * length recs) 0) in
    record { check = check_call p; steps = steps_from p st recs; run = o.answer; state = o.state; output = o.output }

-- What it should be: the last state, and an output of 8 bytes for each step made.
abbrev pub output_of : List Step → Bytes
output_of [] = []
output_of (s ∷ ss) = value_bytes s.value ++ output_of ss

abbrev pub expect : CheckAnswer → List Step → RunAnswer → Bytes → Seen
expect c steps r st = record { check = c; steps = steps; run = r; state = st; output = output_of steps }

-- A row: a program, records, and what is to be seen.
pub record Row : Type 0 where
  pub program : Bytes
  pub records : List Bytes
  pub sight : Seen

-- An int, and the type of maybe int.
abbrev pub int : ℕ → Value
int w = Plain int_t w

abbrev pub maybe_int : ℕ
maybe_int = 7

-- A state: its time, the sum of its program's checks and its cells; the cell of a delay or a switch, and of a group in a branch.
abbrev pub state_of : Bytes → ℕ → List Bytes → Bytes
state_of p t cells = bytes_of 4 t ++ bytes_of 4 (checks_of p) ++ joined cells

abbrev pub holding : Value → Bytes
holding v = value_bytes v

abbrev pub in_branch : ℕ → ℕ → Bytes
in_branch branch₀ w = int_t ∷ 1 ∷ bytes_of 2 branch₀ ++ bytes_of 4 w

-- let x = delay v (ext x+1) in ext x. Eight nodes, in this order.
abbrev pub counting : ℕ → Bytes
counting v =
    let used : ℕ = 0 in let one : ℕ = 1 in let sum : ℕ = 2 in let next : ℕ = 3 in let counter : ℕ = 4 in let seen₀ : ℕ = 5 in let shown : ℕ = 6 in let x : ℕ = 7 in
    program (
    variable x
    ∷ constant 1
    ∷ add used one
    ∷ ext sum
    ∷ delay next v
    ∷ variable x
    ∷ ext seen₀
    ∷ let_signal counter shown
    ∷ []
    )

-- A: 0, 1, 2; work 13; state 16 bytes.
abbrev pub row_a : Row
row_a = record {
  program = counting 0;
  records = quiet 0 ∷ quiet 100 ∷ quiet 100 ∷ [];
  sight = expect (accepted_with 8 1 13 int_t) (made (int 0) 13 ∷ made (int 1) 13 ∷ made (int 2) 13 ∷ []) (finished_with 3 39 no_step)
      (state_of (counting 0) 100 (holding (int 3) ∷ []));
}

-- B: A from 2147483647: next -2147483648. (The sum is worked out, and wraps, in the update of the step before.)
abbrev pub row_b : Row
row_b = record {
  program = counting 2147483647;
  records = quiet 0 ∷ quiet 0 ∷ [];
  sight = expect (accepted_with 8 1 13 int_t) (wraps (int 2147483647) 13 ∷ made (int (minus 2147483648)) 13 ∷ []) (finished_with 2 26 0)
      (state_of (counting 2147483647) 0 (holding (int (minus 2147483647)) ∷ []));
}

-- C: let x = ext x in ext x: code 8, at the let. (No state is started and no step made.)
abbrev pub selfish : Bytes
selfish =
    let used : ℕ = 0 in let definition : ℕ = 1 in let seen₀ : ℕ = 2 in let shown : ℕ = 3 in let x : ℕ = 4 in
    program (
    variable x
    ∷ ext used
    ∷ variable x
    ∷ ext seen₀
    ∷ let_signal definition shown
    ∷ []
    )

abbrev pub row_c : Row
row_c = record {
  program = selfish;
  records = [];
  sight = expect (Err (NotReady 4)) [] (refused_after (NotReady 4) 0 no_step) (0 ∷ 0 ∷ 0 ∷ 0 ∷ 0 ∷ 0 ∷ 0 ∷ 0 ∷ []);
}

-- D: switch (ext 0) on x = input 4 in ext x. Events 5, none, 6, none give 0, 5, 5, 6; work 6, 7, 6, 7.
abbrev pub switching : Bytes
switching =
    let nought : ℕ = 0 in let first : ℕ = 1 in let caught : ℕ = 2 in let used : ℕ = 3 in let second : ℕ = 4 in let x : ℕ = 5 in
    program (
    constant 0
    ∷ ext nought
    ∷ input 4
    ∷ variable x
    ∷ ext used
    ∷ switch first caught second
    ∷ []
    )

abbrev pub row_d : Row
row_d = record {
  program = switching;
  records = event 0 5 ∷ quiet 1 ∷ event 2 6 ∷ quiet 3 ∷ [];
  sight = expect (accepted_with 6 1 7 int_t)
      (made (int 0) 6 ∷ made (int 5) 7 ∷ made (int 5) 6 ∷ made (int 6) 7 ∷ []) (finished_with 4 26 no_step)
      (state_of switching 3 (holding (int 6) ∷ []));
}

-- E: a group with up = ext 1 until input 4 => down, down x = ext x until input 4 => up, body ext 0 until input 4 => down. The branch down is
-- node 15 and up is node 16, the first of the list.
abbrev pub down : ℕ
down = 15

abbrev pub up : ℕ
up = 16

abbrev pub swaying : Bytes
swaying =
    let nought : ℕ = 0 in let still : ℕ = 1 in let start : ℕ = 2 in let leave : ℕ = 3 in let body : ℕ = 4 in
    let one : ℕ = 5 in let high : ℕ = 6 in let fall : ℕ = 7 in let fallen : ℕ = 8 in let upBody : ℕ = 9 in
    let x : ℕ = 10 in let low : ℕ = 11 in let rise : ℕ = 12 in let risen : ℕ = 13 in let downBody : ℕ = 14 in
    program (
    constant 0
    ∷ ext nought
    ∷ input 4
    ∷ case start no_next down
    ∷ until still leave
    ∷ constant 1
    ∷ ext one
    ∷ input 4
    ∷ case fall no_next down
    ∷ until high fallen
    ∷ variable down
    ∷ ext x
    ∷ input 4
    ∷ case rise no_next up
    ∷ until low risen
    ∷ branch downBody no_next
    ∷ branch upBody down
    ∷ let_continue body up
    ∷ []
    )

-- Events none, 7, 9, none give 0, 0, 7, 1; work 9, 7, 7, 9. N 18, bound 9. At the end the group is in up, with the argument 9.
abbrev pub row_e : Row
row_e = record {
  program = swaying;
  records = quiet 0 ∷ event 1 7 ∷ event 2 9 ∷ quiet 3 ∷ [];
  sight = expect (accepted_with 18 1 9 int_t)
      (made (int 0) 9 ∷ made (int 0) 7 ∷ made (int 7) 7 ∷ made (int 1) 9 ∷ []) (finished_with 4 32 no_step)
      (state_of swaying 3 (in_branch up 9 ∷ []));
}

-- ext (x by y), of constants.
abbrev pub dividing : ℕ → ℕ → Bytes
dividing x y =
    let dividend : ℕ = 0 in let divisor : ℕ = 1 in let quotient : ℕ = 2 in
    program (
    constant x
    ∷ constant y
    ∷ divide dividend divisor
    ∷ ext quotient
    ∷ []
    )

-- A row of one step, and whether it wrapped.
abbrev pub divides : ℕ → ℕ → Step → Row
divides x y s = record {
  program = dividing x y;
  records = quiet 0 ∷ [];
  sight = expect (accepted_with 4 0 5 maybe_int) (s ∷ []) s.answer (state_of (dividing x y) 0 []);
}

-- F: -7 by 2 is present -4, 7 by -2 is present -4, -7 by -2 is 3. (And the lowest value by -1.) A negative quotient does not count as wrapped, and
-- -2147483648 by -1 does.
abbrev pub row_f : Row
row_f = divides (minus 7) 2 (made (Present maybe_int (minus 4)) 5)

abbrev pub row_fnorth : Row
row_fnorth = divides 7 (minus 2) (made (Present maybe_int (minus 4)) 5)

abbrev pub row_fboth : Row
row_fboth = divides (minus 7) (minus 2) (made (Present maybe_int 3) 5)

abbrev pub row_flowest : Row
row_flowest = divides (minus 2147483648) (minus 1) (wraps (Present maybe_int (minus 2147483648)) 5)

-- G: 5 by 0 is absent.
abbrev pub row_g : Row
row_g = divides 5 0 (made (Absent maybe_int) 5)

-- H: one input node: bound 2, which is 1 times 2. (An empty run answers 0 steps.)
abbrev pub input_only : Bytes
input_only = program (input 0 ∷ [])

abbrev pub row_h : Row
row_h = record {
  program = input_only;
  records = [];
  sight = expect (accepted_with 1 0 2 int_t) [] (finished_with 0 0 no_step) (state_of input_only no_time []);
}

-- I: two cases present at once: the first in the list wins. (port, node 12, takes channel 4's value; starboard, node 9, channel 5's. The
-- list of cases begins with node 5, for port.)
abbrev pub starboard : ℕ
starboard = 9

abbrev pub port : ℕ
port = 12

abbrev pub turning : Bytes
turning =
    let nought : ℕ = 0 in let still : ℕ = 1 in let onFour : ℕ = 2 in let onFive : ℕ = 3 in let lastCase : ℕ = 4 in let firstCase : ℕ = 5 in
    let body : ℕ = 6 in let y : ℕ = 7 in let starboardBody : ℕ = 8 in let x : ℕ = 10 in let portBody : ℕ = 11 in
    program (
    constant 0
    ∷ ext nought
    ∷ input 4
    ∷ input 5
    ∷ case onFive no_next starboard
    ∷ case onFour lastCase port
    ∷ until still firstCase
    ∷ variable starboard
    ∷ ext y
    ∷ branch starboardBody no_next
    ∷ variable port
    ∷ ext x
    ∷ branch portBody starboard
    ∷ let_continue body port
    ∷ []
    )

abbrev pub row_i : Row
row_i = record {
  program = turning;
  records = two_events 0 5 8 ∷ quiet 0 ∷ [];
  sight = expect (accepted_with 14 1 11 int_t) (made (int 0) 7 ∷ made (int 5) 5 ∷ []) (finished_with 2 12 no_step)
      (state_of turning 0 (in_branch port 5 ∷ []));
}

-- Time 2147483647 passes; one more gives 12.
abbrev pub row_time : Row
row_time = record {
  program = input_only;
  records = quiet 2147483647 ∷ quiet 2147483648 ∷ [];
  sight = expect (accepted_with 1 0 2 int_t) (made (int 0) 2 ∷ refused (InputFault 0) ∷ []) (refused_after (InputFault 1) 2 no_step)
      (state_of input_only 2147483647 []);
}

-- What each operation means, its operands told apart. (18, add: A and B. 21, divide: F and G.) ext (x op y), of two constants.
abbrev pub operating : ℕ → ℕ → ℕ → Bytes
operating kind x y =
    let first : ℕ = 0 in let second : ℕ = 1 in let result : ℕ = 2 in
    program (constant x ∷ constant y ∷ operation kind first second ∷ ext result ∷ [])

abbrev pub operates : ℕ → ℕ → ℕ → Step → Row
operates kind x y s = record {
  program = operating kind x y;
  records = quiet 0 ∷ [];
  sight = expect (accepted_with 4 0 5 int_t) (s ∷ []) s.answer (state_of (operating kind x y) 0 []);
}

-- 19: 5 from which 7 is taken is -2. 20: -3 times 5 is -15.
abbrev pub row_subtract : Row
row_subtract = operates 19 5 7 (made (int (minus 2)) 5)

abbrev pub row_multiply : Row
row_multiply = operates 20 (minus 3) 5 (made (int (minus 15)) 5)

-- Numbers that wrap, and their neighbours that do not: 2147483647 + 1, and -1 + -1, whose unsigned sum carries; -2147483648 - 1; 65536 times 32768 is
-- 2147483648, and times -65536 it is -2147483648.
abbrev pub row_sum_wraps : Row
row_sum_wraps = operates 18 2147483647 1 (wraps (int (minus 2147483648)) 5)

abbrev pub row_sum_carries : Row
row_sum_carries = operates 18 (minus 1) (minus 1) (made (int (minus 2)) 5)

abbrev pub row_difference_wraps : Row
row_difference_wraps = operates 19 (minus 2147483648) 1 (wraps (int 2147483647) 5)

abbrev pub row_product_wraps : Row
row_product_wraps = operates 20 65536 32768 (wraps (int (minus 2147483648)) 5)

abbrev pub row_product_lowest : Row
row_product_lowest = operates 20 (minus 65536) 32768 (made (int (minus 2147483648)) 5)

-- An arm that is not taken does not count, and the test does: ext (if x + 1 = 0 then 2147483647 + 1 else 5) of a constant x.
abbrev pub choosing : ℕ → Bytes
choosing x =
    program (
    constant x
    ∷ constant 1
    ∷ add 0 1
    ∷ constant 0
    ∷ operation 23 2 3
    ∷ constant 2147483647
    ∷ constant 1
    ∷ add 5 6
    ∷ constant 5
    ∷ choice 4 7 8
    ∷ ext 9
    ∷ []
    )

abbrev pub chooses : ℕ → Step → Row
chooses x s = record {
  program = choosing x;
  records = quiet 0 ∷ [];
  sight = expect (accepted_with 11 0 11 int_t) (s ∷ []) s.answer (state_of (choosing x) 0 []);
}

abbrev pub row_arm_taken : Row
row_arm_taken = chooses (minus 1) (wraps (int (minus 2147483648)) 11)

abbrev pub row_arm_not_taken : Row
row_arm_not_taken = chooses 0 (made (int 5) 9)

abbrev pub row_test_wraps : Row
row_test_wraps = chooses 2147483647 (wraps (int 5) 9)

-- ext of a sum: 1000 if the operation holds of the first pair of constants, 100 if of the second, 10 if of the third, 1 if of the fourth. A
-- pair's six nodes stand from a number on.
abbrev pub pair : ℕ → ℕ → Bytes → Bytes → ℕ → List Bytes
pair kind at x y worth =
    x ∷ y ∷ operation kind at (at + 1) ∷ constant worth ∷ constant 0 ∷ choice (at + 2) (at + 3) (at + 4) ∷ []

abbrev pub four_pairs : ℕ → Bytes → Bytes → Bytes → Bytes → Bytes → Bytes → Bytes → Bytes → Bytes
four_pairs kind x₁ y₁ x₂ y₂ x₃ y₃ x₄ y₄ =
    program (
    pair kind 0 x₁ y₁ 1000
    ++ pair kind 6 x₂ y₂ 100
    ++ pair kind 12 x₃ y₃ 10
    ++ pair kind 18 x₄ y₄ 1
    ++ (add 5 11 ∷ add 17 23 ∷ add 24 25 ∷ ext 26 ∷ [])
    )

abbrev pub four : ℕ → Bytes → Bytes → Bytes → Bytes → Bytes → Bytes → Bytes → Bytes → ℕ → Row
four kind x₁ y₁ x₂ y₂ x₃ y₃ x₄ y₄ sum = record {
  program = four_pairs kind x₁ y₁ x₂ y₂ x₃ y₃ x₄ y₄;
  records = quiet 0 ∷ [];
  sight = expect (accepted_with 28 0 25 int_t) (made (int sum) 25 ∷ []) (finished_with 1 25 no_step)
      (state_of (four_pairs kind x₁ y₁ x₂ y₂ x₃ y₃ x₄ y₄) 0 []);
}

-- 22: -1 is less than 0; 0 is not less than -1, nor 5 than 5; -2147483648 is less than 2147483647.
abbrev pub row_less : Row
row_less =
    four 22 (constant (minus 1)) (constant 0) (constant 0) (constant (minus 1)) (constant 5) (constant 5)
    (constant (minus 2147483648)) (constant 2147483647) 1001

-- 23: 5 is equal to 5; 5 is not equal to 6, nor 6 to 5; -1 is equal to -1.
abbrev pub row_equal : Row
row_equal =
    four 23 (constant 5) (constant 5) (constant 5) (constant 6) (constant 6) (constant 5) (constant (minus 1)) (constant (minus 1)) 1001

-- 25 and 26: both true, the first, the second, neither.
abbrev pub row_and : Row
row_and = four 25 (truth 1) (truth 1) (truth 1) (truth 0) (truth 0) (truth 1) (truth 0) (truth 0) 1000

abbrev pub row_or : Row
row_or = four 26 (truth 1) (truth 1) (truth 1) (truth 0) (truth 0) (truth 1) (truth 0) (truth 0) 1110

-- 24: ext (if not false then not true else true) is false.
abbrev pub negating : Bytes
negating = program (truth 0 ∷ negation 0 ∷ truth 1 ∷ negation 2 ∷ truth 1 ∷ choice 1 3 4 ∷ ext 5 ∷ [])

abbrev pub row_not : Row
row_not = record {
  program = negating;
  records = quiet 0 ∷ [];
  sight = expect (accepted_with 7 0 7 bool_t) (made (Plain bool_t 0) 7 ∷ []) (finished_with 1 7 no_step) (state_of negating 0 []);
}

-- Two faults of type, node 1 and node 3, each a not of an int: code 7 at the smaller, whichever of the two is met first.
abbrev pub two_faults : ℕ → ℕ → Row
two_faults first second =
    let one : ℕ = 0 in let other : ℕ = 2 in let joint : ℕ = 4 in
    record {
      program = program (constant 1 ∷ negation one ∷ constant 1 ∷ negation other ∷ operation 25 first second ∷ ext joint ∷ []);
      records = [];
      sight = expect (Err (TypeFault 1)) [] (refused_after (TypeFault 1) 0 no_step) (0 ∷ 0 ∷ 0 ∷ 0 ∷ 0 ∷ 0 ∷ 0 ∷ 0 ∷ []);
    }

abbrev pub row_smaller_first : Row
row_smaller_first = two_faults 1 3

abbrev pub row_smaller_last : Row
row_smaller_last = two_faults 3 1

-- A word that is not zero on a channel that is absent, each of 4-7: code 12.
abbrev pub row_absent : Row
row_absent =
    let no₀ : Step = refused (InputFault 0) in
    record {
      program = input_only;
      records =
          stray (1 ∷ 0 ∷ 0 ∷ 0 ∷ []) ∷ stray (0 ∷ 1 ∷ 0 ∷ 0 ∷ []) ∷ stray (0 ∷ 0 ∷ 1 ∷ 0 ∷ []) ∷ stray (0 ∷ 0 ∷ 0 ∷ 1 ∷ []) ∷ [];
      sight = expect (accepted_with 1 0 2 int_t) (no₀ ∷ no₀ ∷ no₀ ∷ no₀ ∷ []) (refused_after (InputFault 0) 0 no_step) (state_of input_only no_time []);
    }

-- J (edition two): the group berth inside the branch final of the group arrival; in berth's branch fast, input 5 goes around, which leaves both
-- groups at once. fast is node 15, berth node 16, final node 17, around node 23 (the first of the list) and arrival node 24.
abbrev pub fast : ℕ
fast = 15

abbrev pub final : ℕ
final = 17

abbrev pub around : ℕ
around = 23

abbrev pub arriving : List Bytes
arriving =
    let nought : ℕ = 0 in let still : ℕ = 1 in let near : ℕ = 2 in let approach : ℕ = 3 in let body : ℕ = 4 in
    let one : ℕ = 5 in let alongside : ℕ = 6 in let ropes : ℕ = 7 in let made₀ : ℕ = 8 in let berthBody : ℕ = 9 in
    let x : ℕ = 10 in let moored : ℕ = 11 in let off : ℕ = 12 in let goAround : ℕ = 13 in let fastBody : ℕ = 14 in
    let berth : ℕ = 16 in
    let y : ℕ = 18 in let waiting : ℕ = 19 in let again : ℕ = 20 in let back : ℕ = 21 in let aroundBody : ℕ = 22 in
    constant 0
    ∷ ext nought
    ∷ input 4
    ∷ case near no_next final
    ∷ until still approach
    ∷ constant 1
    ∷ ext one
    ∷ input 4
    ∷ case ropes no_next fast
    ∷ until alongside made₀
    ∷ variable fast
    ∷ ext x
    ∷ input 5
    ∷ case off no_next around
    ∷ until moored goAround
    ∷ branch fastBody no_next
    ∷ let_continue berthBody fast
    ∷ branch berth no_next
    ∷ variable around
    ∷ ext y
    ∷ input 4
    ∷ case again no_next final
    ∷ until waiting back
    ∷ branch aroundBody final
    ∷ let_continue body around
    ∷ []

-- Events none, 7, 9, 8 on channel 5, 6, none give 0, 0, 1, 9, 8, 1; work 9, 7, 9, 9, 7, 11. The go-around puts berth to start: when final is
-- taken again, berth is in its body. At the end arrival is in final, with the argument 6.
abbrev pub row_j : Row
row_j = record {
  program = program_two arriving;
  records = quiet 0 ∷ event 1 7 ∷ event 2 9 ∷ event_five 3 8 ∷ event 4 6 ∷ quiet 5 ∷ [];
  sight = expect (accepted_with 25 2 11 int_t)
      (made (int 0) 9 ∷ made (int 0) 7 ∷ made (int 1) 9 ∷ made (int 9) 9 ∷ made (int 8) 7 ∷ made (int 1) 11 ∷ []) (finished_with 6 52 no_step)
      (state_of (program_two arriving) 5 (replicate 8 0 ∷ in_branch final 6 ∷ []));
}

-- The same table in edition one: the case is out of scope, since only the first group counts.
abbrev pub row_jone : Row
row_jone = record {
  program = program arriving;
  records = [];
  sight = expect (Err (ScopeFault 13)) [] (refused_after (ScopeFault 13) 0 no_step) (replicate 24 0);
}

-- An edition above 1.
abbrev pub row_jthree : Row
row_jthree = record {
  program = program_in 2 arriving;
  records = [];
  sight = expect (Err (BlockNumber 0)) [] (refused_after (BlockNumber 0) 0 no_step) (replicate 24 0);
}

-- What is evaluated before a jump counts: a group with port x = ext x and the body ext 0 until ext (just (2147483647 + 1)) => port.
abbrev pub leaving : Bytes
leaving =
    let nought : ℕ = 0 in let still : ℕ = 1 in let most : ℕ = 2 in let one : ℕ = 3 in let sum : ℕ = 4 in let held₀ : ℕ = 5 in
    let beyond : ℕ = 6 in let leave : ℕ = 7 in let body : ℕ = 8 in let x : ℕ = 9 in let portBody : ℕ = 10 in let port₀ : ℕ = 11 in
    program (
    constant 0
    ∷ ext nought
    ∷ constant 2147483647
    ∷ constant 1
    ∷ add most one
    ∷ just sum
    ∷ ext held₀
    ∷ case beyond no_next port₀
    ∷ until still leave
    ∷ variable port₀
    ∷ ext x
    ∷ branch portBody no_next
    ∷ let_continue body port₀
    ∷ []
    )

-- Step 0 jumps, and its event wrapped; step 1 shows what was caught, and nothing in it wraps.
abbrev pub row_jump_wraps : Row
row_jump_wraps = record {
  program = leaving;
  records = quiet 0 ∷ quiet 0 ∷ [];
  sight = expect (accepted_with 13 1 13 int_t) (wraps (int 0) 11 ∷ made (int (minus 2147483648)) 5 ∷ []) (finished_with 2 16 0)
      (state_of leaving 0 (in_branch 11 (minus 2147483648) ∷ []));
}

-- let x = input 0 in ext (x + x): twice a distance.
abbrev pub doubling : Bytes
doubling =
    let distance : ℕ = 0 in let once : ℕ = 1 in let again : ℕ = 2 in let sum : ℕ = 3 in let shown : ℕ = 4 in let x : ℕ = 5 in
    program (
    input 0
    ∷ variable x
    ∷ variable x
    ∷ add once again
    ∷ ext sum
    ∷ let_signal distance shown
    ∷ []
    )

-- Steps 1 and 2 wrap, at a sensor's full scale, and the fourth record is refused: the run answers the first of its finished steps that wrapped.
abbrev pub row_first_wrapped : Row
row_first_wrapped = record {
  program = doubling;
  records = measured 0 5 ∷ measured 0 1073741824 ∷ measured 0 1073741824 ∷ quiet 2147483648 ∷ [];
  sight = expect (accepted_with 6 0 10 int_t)
      (made (int 10) 10 ∷ wraps (int (minus 2147483648)) 10 ∷ wraps (int (minus 2147483648)) 10 ∷ refused (InputFault 0) ∷ [])
      (refused_after (InputFault 3) 30 1)
      (state_of doubling 0 []);
}

-- The table: the paper's readings, and rows that tell each operation, the smallest place and the absent words; edition two's; and numbers that wrap.
abbrev pub readings : List Row
readings =
    row_a ∷ row_b ∷ row_c ∷ row_d ∷ row_e ∷ row_f ∷ row_fnorth ∷ row_fboth ∷ row_flowest ∷ row_g ∷ row_h ∷ row_i ∷ row_time
    ∷ row_subtract ∷ row_multiply ∷ row_less ∷ row_equal ∷ row_not ∷ row_and ∷ row_or ∷ row_smaller_first ∷ row_smaller_last ∷ row_absent
    ∷ row_j ∷ row_jone ∷ row_jthree
    ∷ row_sum_wraps ∷ row_sum_carries ∷ row_difference_wraps ∷ row_product_wraps ∷ row_product_lowest
    ∷ row_arm_taken ∷ row_arm_not_taken ∷ row_test_wraps ∷ row_jump_wraps ∷ row_first_wrapped ∷ []

-- Every row is seen as it should be.
abbrev pub sights : List Row → List Seen
sights [] = []
sights (r ∷ rs) = seen r.program r.records ∷ sights rs

abbrev pub expected : List Row → List Seen
expected [] = []
expected (r ∷ rs) = r.sight ∷ expected rs
