-- The rows of the pairings hold, by computation.
-- Assumes nothing.
use Rattle.std.specs.Prelude.{Result, Ok, Err}
use mathlib.Core.Path.{◌≡◌, refl}
use mathlib.Core.List.{List, [], ◌∷◌}
use Rattle.rules.specs.declared.Refusal.{Refusal}
use Rattle.rules.specs.declared.Refusal.TheVariants.{ProgramLength}
use Rattle.dropped.specs.declared.Unpaired.{Unpaired}
use Rattle.dropped.specs.declared.Unpaired.TheVariants.{OldRefused, NewRefused, EditionsDiffer, PairingLength}
use Rattle.dropped.specs.Rows.{five, chain}
use Rattle.rules.specs.Bytes.{Bytes, ◌and◌, ◌or◌, byte_at, u16_at, u32_at, u64_at, bytes_of, write_at, first_from, first, how_many}
use Rattle.rules.specs.Calls.{◌otherwise◌, refuse_if, refuse_at, program_verdict}
use Rattle.rules.specs.Format.{length_wrong, weighed, check_of, sum_wrong, number_wrong, field_wrong, type_field_wrong, node_wrong, is_zero, may_end, after_end, record_wrong}
use Rattle.rules.specs.Kinds.{row, is_signal, is_expression, is_branch, is_case, is_kind, fields_of}
use Rattle.rules.specs.Layout.{blocks, block_at, number_in, count_in, edition_in, edition, check_in, checks_below, checks_of, records, record_at, kind_at, type_at, a_at, b_at, c_at, word_at, place_or, nodes, has_cell, cells_before, cells, start_header, cell_at, state_length, last_time, sum_in, set_time, cell, set_cell, held, hold, is_clear, clear, branch_in, hold_branch, input_at, time_in, word_on, flag_on, event_on, channel_type, channel_value}
use Rattle.rules.specs.Operations.{truth, is_true, operand_type, result_type, number_of, truth_of, meaning}
use Rattle.rules.specs.Places.{sooner, wrong_if, wrong_unless}
use Rattle.rules.specs.Ready.{needs_e, needs_s, ready_s, ready_fault}
use Rattle.rules.specs.Scope.{mark, is_marked, unmarked, has_branch, is_offered, onward, scope_e, scope_s, scope_fault}
use Rattle.rules.specs.Shape.{is_child, may_be, may_stop, child_wrong, children_wrong, names, names_in, named_below, named, shape_wrong}
use Rattle.rules.specs.Tree.{value_at, expr_as, below, no_expr, expr_f, expr_at, signal_as, branches_as, cases_as, no_signal, signal_f, signal_at, branches_at, cases_at, root}
use Rattle.rules.specs.Typing.{just_type, type_e, type_s, types_e, bodies_have, types_s, type_fault}
use Rattle.rules.specs.Values.{maybe_of, is_plain, is_maybe, is_type, type_of, value_from, value_fits, packed, value_bytes, type_in, present_in, middle_in, word_in, unpacked}
use Rattle.dropped.specs.Pairing.{Pairing, old_of, reaches_f, reaches, field_right, entry_right, entry_wrong, pairing_fault}
use Rattle.dropped.specs.PairedCall.{editions_differ, entries_answer, pairing_answer, new_answer, old_answer, paired_call}
use Rattle.dropped.specs.Clauses.{unless, earlier, next_broken, field_broken, fields_broken, node_broken, entry_broken}
use Rattle.dropped.specs.PairedRows.{five_two, called, called_so, faults, faults_so, broken, broken_so}

-- The verdicts of the programs of the call's rows, each computed once.
verdicts : (program_verdict [] ≡ Err ProgramLength) × (program_verdict five ≡ Ok tt) × (program_verdict five_two ≡ Ok tt) × (program_verdict chain ≡ Ok tt)
unfolding checks_below checks_of cells start_header cell_at state_length last_time sum_in set_time cell set_cell held hold is_clear clear branch_in hold_branch input_at time_in word_on flag_on event_on channel_value u64_at write_at ◌and◌ ◌or◌ byte_at u16_at u32_at bytes_of first_from first how_many ◌otherwise◌ refuse_if refuse_at program_verdict length_wrong weighed check_of sum_wrong number_wrong field_wrong type_field_wrong node_wrong is_zero may_end after_end record_wrong row is_signal is_expression is_branch is_case is_kind fields_of blocks block_at number_in count_in edition_in edition check_in records record_at kind_at type_at a_at b_at c_at word_at place_or nodes has_cell cells_before channel_type truth is_true operand_type result_type number_of truth_of meaning sooner wrong_if wrong_unless needs_e needs_s ready_s ready_fault mark is_marked unmarked has_branch is_offered onward scope_e scope_s scope_fault is_child may_be may_stop child_wrong children_wrong names names_in named_below named shape_wrong value_at expr_as below no_expr expr_f expr_at signal_as branches_as cases_as no_signal signal_f signal_at branches_at cases_at root just_type type_e type_s types_e bodies_have types_s type_fault maybe_of is_plain is_maybe is_type type_of value_from value_fits packed value_bytes type_in present_in middle_in word_in unpacked
verdicts = (refl, refl, refl, refl)

-- What the rows with two accepted programs answer.
answers :
    (pairing_answer five five_two (0 ∷ []) ≡ Err EditionsDiffer)
    × (pairing_answer chain five (3 ∷ []) ≡ Err PairingLength)
    × (pairing_answer chain five (3 ∷ 4 ∷ []) ≡ Ok tt)
unfolding edition_in edition ◌and◌ ◌or◌ byte_at u16_at u32_at bytes_of weighed check_of first_from first row fields_of records blocks block_at record_at kind_at type_at a_at b_at c_at word_at place_or nodes old_of reaches_f reaches field_right entry_right entry_wrong pairing_fault editions_differ entries_answer pairing_answer
answers = (refl, refl, refl)

-- The call, by the verdicts.
module _ (p q : Bytes) (l : Pairing) where
  old_first : {r : Refusal} → program_verdict p ≡ Err r → paired_call p q l ≡ Err (OldRefused r)
  unfolding paired_call old_answer
  old_first e = rw e

  then_new : {r : Refusal} → program_verdict p ≡ Ok tt → program_verdict q ≡ Err r → paired_call p q l ≡ Err (NewRefused r)
  unfolding paired_call old_answer new_answer
  then_new e f = rw (e, f)

  both_fine : {a : Result (Unit {0}) Unpaired} → program_verdict p ≡ Ok tt → program_verdict q ≡ Ok tt → pairing_answer p q l ≡ a → paired_call p q l ≡ a
  unfolding paired_call old_answer new_answer
  both_fine e f h = rw (e, f) h

row_by_row : {a b c d e a' b' c' d' e' : Result (Unit {0}) Unpaired} → a ≡ a' → b ≡ b' → c ≡ c' → d ≡ d' → e ≡ e'
    → (a ∷ b ∷ c ∷ d ∷ e ∷ []) ≡ (a' ∷ b' ∷ c' ∷ d' ∷ e' ∷ [])
row_by_row h i j k l = cc

pub called_so_lem : called ≡ called_so
called_so_lem =
    row_by_row
    (old_first [] [] [] verdicts.0)
    (then_new five [] [] verdicts.1 verdicts.0)
    (both_fine five five_two (0 ∷ []) verdicts.1 verdicts.2 answers.0)
    (both_fine chain five (3 ∷ []) verdicts.3 verdicts.1 answers.1)
    (both_fine chain five (3 ∷ 4 ∷ []) verdicts.3 verdicts.1 answers.2)

pub faults_so_lem : faults ≡ faults_so
unfolding ◌and◌ ◌or◌ byte_at u16_at u32_at bytes_of weighed check_of first_from first row fields_of records blocks block_at record_at kind_at type_at a_at b_at c_at word_at place_or nodes old_of reaches_f reaches field_right entry_right entry_wrong pairing_fault unless earlier next_broken field_broken fields_broken node_broken entry_broken
faults_so_lem = refl

pub broken_so_lem : broken ≡ broken_so
unfolding ◌and◌ ◌or◌ byte_at u16_at u32_at bytes_of weighed check_of first_from first row fields_of records blocks block_at record_at kind_at type_at a_at b_at c_at word_at place_or nodes old_of reaches_f reaches field_right entry_right entry_wrong pairing_fault unless earlier next_broken field_broken fields_broken node_broken entry_broken
broken_so_lem = refl
