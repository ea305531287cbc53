-- Pairings, what the call answers, and which clause a wrong entry breaks, as rows.
-- Assumes nothing: these are definitions.
use Rattle.std.specs.Prelude.{ℕ, List, [], ◌∷◌, Result, Ok, Err, Option, Some, None}
use Rattle.rules.specs.Bytes.{Bytes}
use Rattle.rules.specs.Layout.{no_next}
use Rattle.rules.specs.Samples.{program, program_two, input, ext, let_signal, let_continue, branch, variable, constant, add}
use Rattle.rules.specs.declared.Refusal.TheVariants.{ProgramLength}
use Rattle.dropped.specs.declared.Unpaired.{Unpaired}
use Rattle.dropped.specs.declared.Unpaired.TheVariants.{OldRefused, NewRefused, EditionsDiffer, PairingLength}
use Rattle.dropped.specs.PairedCall.{paired_call}
use Rattle.dropped.specs.Pairing.{old_of, pairing_fault}
use Rattle.dropped.specs.Clauses.{entry_broken}
use Rattle.dropped.specs.Rows.{unused, case_a, chain, five}

-- ext 5 in edition two; the definition of unused alone.
abbrev pub five_two : Bytes
five_two = program_two (constant 5 ∷ ext 0 ∷ [])

abbrev pub definition : Bytes
definition = program (constant 1 ∷ ext 0 ∷ [])

-- let a = input 0 in let b = input 1 in ext b; and, b dropped though it is used, let a = input 0 in ext a.
abbrev pub used : Bytes
used = program (input 0 ∷ input 1 ∷ variable 4 ∷ ext 2 ∷ let_signal 1 3 ∷ let_signal 0 4 ∷ [])

abbrev pub used_dropped : Bytes
used_dropped = program (input 0 ∷ variable 3 ∷ ext 1 ∷ let_signal 0 2 ∷ [])

-- Twin lets: let a = input 0 in let b = input 0 in ext (a + b).
abbrev pub twins : Bytes
twins = program (input 0 ∷ input 0 ∷ variable 7 ∷ variable 6 ∷ add 2 3 ∷ ext 4 ∷ let_signal 1 5 ∷ let_signal 0 6 ∷ [])

-- A group with one branch, and with two.
abbrev pub one_branch : Bytes
one_branch = program (input 0 ∷ input 1 ∷ branch 1 no_next ∷ let_continue 0 2 ∷ [])

abbrev pub two_branches : Bytes
two_branches = program (input 0 ∷ input 1 ∷ branch 1 no_next ∷ input 1 ∷ branch 3 2 ∷ let_continue 0 4 ∷ [])

-- The call: the old program's fault first, then the new one's; 29; 27 (the pairing lacks an entry); two lets dropped, one of them through the
-- other.
abbrev pub called : List (Result (Unit {0}) Unpaired)
called =
    paired_call [] [] []
    ∷ paired_call five [] []
    ∷ paired_call five five_two (0 ∷ [])
    ∷ paired_call chain five (3 ∷ [])
    ∷ paired_call chain five (3 ∷ 4 ∷ [])
    ∷ []

abbrev pub called_so : List (Result (Unit {0}) Unpaired)
called_so = Err (OldRefused ProgramLength) ∷ Err (NewRefused ProgramLength) ∷ Err EditionsDiffer ∷ Err PairingLength ∷ Ok tt ∷ []

-- The first wrong entry: none, where one let is dropped, and none is. Then one that names no old node; another value; a let added; a next where the
-- old branch has none, and none where it has one; a constant of a dropped definition (its parent is wrong); twin lets exchanged with their
-- variables, and without; a used let dropped; the definition in place of the whole.
abbrev pub faults : List (Option ℕ)
faults =
    pairing_fault unused case_a (2 ∷ 3 ∷ 4 ∷ 5 ∷ 6 ∷ 7 ∷ 8 ∷ 9 ∷ [])
    ∷ pairing_fault unused unused (0 ∷ 1 ∷ 2 ∷ 3 ∷ 4 ∷ 5 ∷ 6 ∷ 7 ∷ 8 ∷ 9 ∷ 10 ∷ [])
    ∷ pairing_fault chain five (3 ∷ 7 ∷ [])
    ∷ pairing_fault unused five (0 ∷ 1 ∷ [])
    ∷ pairing_fault five chain (0 ∷ 0 ∷ 1 ∷ 0 ∷ 1 ∷ 1 ∷ 1 ∷ [])
    ∷ pairing_fault one_branch two_branches (0 ∷ 1 ∷ 2 ∷ 1 ∷ 2 ∷ 3 ∷ [])
    ∷ pairing_fault two_branches one_branch (0 ∷ 3 ∷ 4 ∷ 5 ∷ [])
    ∷ pairing_fault unused case_a (2 ∷ 0 ∷ 4 ∷ 5 ∷ 6 ∷ 7 ∷ 8 ∷ 9 ∷ [])
    ∷ pairing_fault twins twins (1 ∷ 0 ∷ 3 ∷ 2 ∷ 4 ∷ 5 ∷ 7 ∷ 6 ∷ [])
    ∷ pairing_fault twins twins (1 ∷ 0 ∷ 2 ∷ 3 ∷ 4 ∷ 5 ∷ 7 ∷ 6 ∷ [])
    ∷ pairing_fault used used_dropped (0 ∷ 2 ∷ 3 ∷ 5 ∷ [])
    ∷ pairing_fault unused definition (0 ∷ 1 ∷ [])
    ∷ []

abbrev pub faults_so : List (Option ℕ)
faults_so = None ∷ None ∷ Some 1 ∷ Some 0 ∷ Some 0 ∷ Some 4 ∷ Some 2 ∷ Some 2 ∷ Some 4 ∷ Some 2 ∷ Some 1 ∷ Some 1 ∷ []

-- The clauses that those ten break.
abbrev pub broken : List ℕ
broken =
    entry_broken chain five (old_of (3 ∷ 7 ∷ [])) 1
    ∷ entry_broken unused five (old_of (0 ∷ 1 ∷ [])) 0
    ∷ entry_broken five chain (old_of (0 ∷ 0 ∷ 1 ∷ 0 ∷ 1 ∷ 1 ∷ 1 ∷ [])) 0
    ∷ entry_broken one_branch two_branches (old_of (0 ∷ 1 ∷ 2 ∷ 1 ∷ 2 ∷ 3 ∷ [])) 4
    ∷ entry_broken two_branches one_branch (old_of (0 ∷ 3 ∷ 4 ∷ 5 ∷ [])) 2
    ∷ entry_broken unused case_a (old_of (2 ∷ 0 ∷ 4 ∷ 5 ∷ 6 ∷ 7 ∷ 8 ∷ 9 ∷ [])) 2
    ∷ entry_broken twins twins (old_of (1 ∷ 0 ∷ 3 ∷ 2 ∷ 4 ∷ 5 ∷ 7 ∷ 6 ∷ [])) 4
    ∷ entry_broken twins twins (old_of (1 ∷ 0 ∷ 2 ∷ 3 ∷ 4 ∷ 5 ∷ 7 ∷ 6 ∷ [])) 2
    ∷ entry_broken used used_dropped (old_of (0 ∷ 2 ∷ 3 ∷ 5 ∷ [])) 1
    ∷ entry_broken unused definition (old_of (0 ∷ 1 ∷ [])) 1
    ∷ []

abbrev pub broken_so : List ℕ
broken_so = 1 ∷ 2 ∷ 2 ∷ 3 ∷ 3 ∷ 5 ∷ 4 ∷ 7 ∷ 7 ∷ 8 ∷ []
