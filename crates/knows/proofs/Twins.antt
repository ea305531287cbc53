-- Equal sums aren't told apart, by an example: a state of one table goes on under the other, and under a third it is refused.
-- Assumes nothing.
use Rattle.rules.specs.Verdicts.{finished_with}
use mathlib.Core.Path.{◌≡◌, refl}
use mathlib.Core.List.{[], ◌∷◌}
use lib.ListN.{replicate}
use Rattle.rules.specs.Bound.{bound_e, bound_s, bound_u, bound}
use Rattle.rules.specs.Bytes.{◌and◌, ◌or◌, byte_at, u16_at, u32_at, u64_at, bytes_of, write_at, first_from, first, how_many}
use Rattle.rules.specs.Calls.{◌otherwise◌, refuse_if, refuse_at, program_verdict, check_answer, check_call, start_outcome, start_call, state_verdict, lent_verdict, absent_wrong, input_wrong, time_wrong, record_verdict, no_step, first_wrapped, run_from, run_outcome, run_call}
use Rattle.rules.specs.Evaluate.{unbound, bind, look, plain_word, opened, meant, on_words, operate, operated, not_of, negated, arm_of, chosen, just_of, lifted, take_arm, taken, eval_e, eval_s}
use Rattle.rules.specs.Format.{length_wrong, weighed, check_of, sum_wrong, number_wrong, field_wrong, type_field_wrong, node_wrong, is_zero, may_end, after_end, record_wrong}
use Rattle.rules.specs.Kinds.{row, is_signal, is_expression, is_branch, is_case, is_kind, fields_of}
use Rattle.rules.specs.Layout.{blocks, block_at, number_in, count_in, edition_in, edition, check_in, records, record_at, kind_at, type_at, a_at, b_at, c_at, word_at, place_or, nodes, has_cell, cells_before, cells, start_header, cell_at, state_length, last_time, set_time, cell, set_cell, held, hold, is_clear, clear, branch_in, hold_branch, input_at, time_in, word_on, flag_on, event_on, channel_type, channel_value, checks_below, checks_of, sum_in}
use Rattle.rules.specs.Operations.{truth, is_true, operand_type, result_type, number_of, truth_of, meaning, exact_of, leaves_range}
use Rattle.rules.specs.Places.{sooner, wrong_if, wrong_unless}
use Rattle.rules.specs.Ready.{needs_e, needs_s, ready_s, ready_fault}
use Rattle.rules.specs.Reset.{reset_s, start_state, rests_s}
use Rattle.rules.specs.Scope.{mark, is_marked, unmarked, has_branch, is_offered, onward, scope_e, scope_s, scope_fault}
use Rattle.rules.specs.Shape.{is_child, may_be, may_stop, child_wrong, children_wrong, names, names_in, named_below, named, shape_wrong}
use Rattle.rules.specs.Size.{size_e, size_s}
use Rattle.rules.specs.Tree.{value_at, expr_as, below, no_expr, expr_f, expr_at, signal_as, branches_as, cases_as, no_signal, signal_f, signal_at, branches_at, cases_at, root}
use Rattle.rules.specs.Typing.{just_type, type_e, type_s, types_e, bodies_have, types_s, type_fault}
use Rattle.rules.specs.Update.{laterᵒ, occurs_if, occurs, first_present, on_occurrence, caught, on_event, upd_s, updated, evaluated, step_of}
use Rattle.rules.specs.Values.{maybe_of, is_plain, is_maybe, is_type, type_of, value_from, value_fits, packed, value_bytes, type_in, present_in, middle_in, word_in, unpacked}
use Rattle.rules.specs.WellFormed.{content_fits, well_s, long_as_cells, knows_program, rest_well}
use Rattle.rules.specs.Words.{signed, word_of, outside, sum_of, difference_of, product_of, floor_z, quotient_of, is_less}
use Rattle.rules.specs.Work.{nothing, one_rule, noted, ◌plus◌, give, after, rule, ◌then◌, moved, leave, afterᵘ, ruleᵘ, ◌with◌, ◌thenᵘ◌, stays}
use Rattle.rules.specs.Samples.{quiet}
use Rattle.rules.specs.Readings.{state_of, holding, int}
use Rattle.knows.specs.Restored.{told_apart}
use Rattle.knows.specs.Twins.{by_ones, by_sixty_twos, by_twos}

-- The two sums, and the third's.
pub one_sum : (checks_of by_ones ≡ 7178) × (checks_of by_sixty_twos ≡ 7178) × (checks_of by_twos ≡ 7203)
unfolding checks_of checks_below check_in blocks block_at u32_at u16_at byte_at bytes_of check_of weighed
one_sum = (refl, refl, refl)

-- After one step by ones from 25 the counter holds 26. The table that counts by sixty-twos takes that state for its own and goes on to 88; the one
-- that counts by twos refuses it.
pub twins :
    (run_call by_sixty_twos (state_of by_ones 100 (holding (int 26) ∷ [])) (quiet 200) (replicate 8 0)
    ≡ record { answer = finished_with 1 13 no_step; state = state_of by_sixty_twos 200 (holding (int 88) ∷ []); output = value_bytes (int 26) })
    × (run_call by_twos (state_of by_ones 100 (holding (int 26) ∷ [])) (quiet 200) (replicate 8 0)
    ≡ told_apart (state_of by_ones 100 (holding (int 26) ∷ [])) (replicate 8 0))
unfolding bound_e bound_s bound_u bound ◌and◌ ◌or◌ byte_at u16_at u32_at u64_at bytes_of write_at first_from first how_many ◌otherwise◌ refuse_if refuse_at program_verdict check_answer check_call start_outcome start_call state_verdict lent_verdict absent_wrong input_wrong time_wrong record_verdict first_wrapped run_from run_outcome run_call unbound bind look plain_word opened meant on_words operate operated not_of negated arm_of chosen just_of lifted take_arm taken eval_e eval_s length_wrong weighed check_of sum_wrong number_wrong field_wrong type_field_wrong node_wrong is_zero may_end after_end record_wrong row is_signal is_expression is_branch is_case is_kind fields_of blocks block_at number_in count_in edition_in edition check_in records record_at kind_at type_at a_at b_at c_at word_at place_or nodes has_cell cells_before cells checks_below checks_of sum_in start_header cell_at state_length last_time set_time cell set_cell held hold is_clear clear branch_in hold_branch input_at time_in word_on flag_on event_on channel_type channel_value truth is_true operand_type result_type number_of truth_of meaning exact_of leaves_range sooner wrong_if wrong_unless needs_e needs_s ready_s ready_fault reset_s start_state rests_s mark is_marked unmarked has_branch is_offered onward scope_e scope_s scope_fault is_child may_be may_stop child_wrong children_wrong names names_in named_below named shape_wrong size_e size_s value_at expr_as below no_expr expr_f expr_at signal_as branches_as cases_as no_signal signal_f signal_at branches_at cases_at root just_type type_e type_s types_e bodies_have types_s type_fault laterᵒ occurs_if occurs first_present on_occurrence caught on_event upd_s updated evaluated step_of maybe_of is_plain is_maybe is_type type_of value_from value_fits packed value_bytes type_in present_in middle_in word_in unpacked content_fits well_s long_as_cells knows_program rest_well signed word_of outside sum_of difference_of product_of floor_z quotient_of is_less nothing one_rule noted ◌plus◌ give after rule ◌then◌ moved leave afterᵘ ruleᵘ ◌with◌ ◌thenᵘ◌ stays
twins = (refl, refl)
