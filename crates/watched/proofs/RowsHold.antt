-- Readings of the watched run, by computation.
-- Assumes nothing.
use Rattle.std.specs.Prelude.{Ok, Err}
use Rattle.rules.specs.Verdicts.{refused_after}
use mathlib.Core.Path.{◌≡◌, refl}
use mathlib.Core.List.{List, [], ◌∷◌, ◌++◌}
use Prim.Native.Nat.{ℕ}
use lib.ListN.{replicate}
use Rattle.rules.specs.declared.Value.TheVariants.{Plain}
use Rattle.rules.specs.declared.Refusal.TheVariants.{OutputLength}
use Rattle.watched.specs.declared.ListFault.TheVariants.{ListLength, ListEntry}
use Rattle.rules.specs.Bound.{bound_e, bound_s, bound_u, bound}
use Rattle.rules.specs.Bytes.{◌and◌, ◌or◌, byte_at, u16_at, u32_at, u64_at, bytes_of, write_at, first_from, first, how_many}
use Rattle.rules.specs.Calls.{◌otherwise◌, refuse_if, refuse_at, program_verdict, check_answer, check_call, start_outcome, start_call, state_verdict, lent_verdict, absent_wrong, input_wrong, time_wrong, record_verdict, first_wrapped, run_from, run_outcome, run_call}
use Rattle.rules.specs.Evaluate.{unbound, bind, look, plain_word, opened, meant, on_words, operate, operated, not_of, negated, arm_of, chosen, just_of, lifted, take_arm, taken, eval_e, eval_s}
use Rattle.rules.specs.Format.{length_wrong, weighed, check_of, sum_wrong, number_wrong, field_wrong, type_field_wrong, node_wrong, is_zero, may_end, after_end, record_wrong}
use Rattle.rules.specs.Kinds.{row, is_signal, is_expression, is_branch, is_case, is_kind, fields_of}
use Rattle.rules.specs.Layout.{blocks, block_at, number_in, count_in, edition_in, edition, check_in, checks_below, checks_of, records, record_at, kind_at, type_at, a_at, b_at, c_at, word_at, place_or, nodes, has_cell, cells_before, cells, start_header, cell_at, state_length, last_time, sum_in, set_time, cell, set_cell, held, hold, is_clear, clear, branch_in, hold_branch, input_at, time_in, word_on, flag_on, event_on, channel_type, channel_value}
use Rattle.rules.specs.Operations.{truth, is_true, operand_type, result_type, number_of, truth_of, meaning, exact_of, leaves_range}
use Rattle.rules.specs.Places.{sooner, wrong_if, wrong_unless}
use Rattle.rules.specs.Ready.{needs_e, needs_s, ready_s, ready_fault}
use Rattle.rules.specs.Reset.{reset_s, start_state, rests_s}
use Rattle.rules.specs.Scope.{mark, is_marked, unmarked, has_branch, is_offered, onward, scope_e, scope_s, scope_fault}
use Rattle.rules.specs.Shape.{is_child, may_be, may_stop, child_wrong, children_wrong, names, names_in, named_below, named, shape_wrong}
use Rattle.rules.specs.Size.{size_e, size_s, is_cell, times_s}
use Rattle.rules.specs.Tree.{value_at, expr_as, below, no_expr, expr_f, expr_at, signal_as, branches_as, cases_as, no_signal, signal_f, signal_at, branches_at, cases_at, root}
use Rattle.rules.specs.Typing.{just_type, type_e, type_s, types_e, bodies_have, types_s, type_fault}
use Rattle.rules.specs.Update.{laterᵒ, occurs_if, occurs, first_present, on_occurrence, caught, on_event, upd_s, updated, evaluated, step_of}
use Rattle.rules.specs.Values.{maybe_of, is_plain, is_maybe, is_type, type_of, value_from, value_fits, packed, value_bytes, type_in, present_in, middle_in, word_in, unpacked}
use Rattle.rules.specs.WellFormed.{content_fits, well_s, long_as_cells, knows_program, rest_well, well_formed}
use Rattle.rules.specs.Words.{signed, word_of, outside, sum_of, difference_of, product_of, floor_z, quotient_of, is_less}
use Rattle.rules.specs.Work.{nothing, one_rule, noted, ◌plus◌, give, after, rule, ◌then◌, moved, leave, afterᵘ, ruleᵘ, ◌with◌, ◌thenᵘ◌, stays}
use Rattle.watched.specs.Gave.{given, own, once, gave_s}
use Rattle.watched.specs.Watch.{list_wrong, entry_off, list_fault, shown, shown_from, records_fit, rooms_fit, watch_lent, watch_room, as_run, off_list, watch_listed, watch_accepted, watch_judged, watch_call}
use Rattle.watched.specs.WatchRows.{case_a, case_d, two_quiet, five_then_quiet, back_in_time}

-- Case A: inside the delay nothing is shown, the delay shows its cell, the let its body: the values before the update.
pub a_watched : (watch_call case_a (start_state case_a) two_quiet (3 ∷ 4 ∷ 7 ∷ []) (replicate 16 9) (replicate 48 9)).room ≡ (replicate 8 0 ++ value_bytes (Plain 3 0) ++ value_bytes (Plain 3 0)) ++ (replicate 8 0 ++ value_bytes (Plain 3 1) ++ value_bytes (Plain 3 1))
unfolding bound_e bound_s bound_u bound ◌and◌ ◌or◌ byte_at u16_at u32_at u64_at bytes_of write_at first_from first how_many ◌otherwise◌ refuse_if refuse_at program_verdict check_answer check_call start_outcome start_call state_verdict lent_verdict absent_wrong input_wrong time_wrong record_verdict first_wrapped run_from run_outcome run_call unbound bind look plain_word opened meant on_words operate operated not_of negated arm_of chosen just_of lifted take_arm taken eval_e eval_s length_wrong weighed check_of sum_wrong number_wrong field_wrong type_field_wrong node_wrong is_zero may_end after_end record_wrong row is_signal is_expression is_branch is_case is_kind fields_of blocks block_at number_in count_in edition_in edition check_in checks_below checks_of records record_at kind_at type_at a_at b_at c_at word_at place_or nodes has_cell cells_before cells start_header cell_at state_length last_time sum_in set_time cell set_cell held hold is_clear clear branch_in hold_branch input_at time_in word_on flag_on event_on channel_type channel_value truth is_true operand_type result_type number_of truth_of meaning exact_of leaves_range sooner wrong_if wrong_unless needs_e needs_s ready_s ready_fault reset_s start_state rests_s mark is_marked unmarked has_branch is_offered onward scope_e scope_s scope_fault is_child may_be may_stop child_wrong children_wrong names names_in named_below named shape_wrong size_e size_s is_cell times_s value_at expr_as below no_expr expr_f expr_at signal_as branches_as cases_as no_signal signal_f signal_at branches_at cases_at root just_type type_e type_s types_e bodies_have types_s type_fault laterᵒ occurs_if occurs first_present on_occurrence caught on_event upd_s updated evaluated step_of maybe_of is_plain is_maybe is_type type_of value_from value_fits packed value_bytes type_in present_in middle_in word_in unpacked content_fits well_s long_as_cells knows_program rest_well well_formed signed word_of outside sum_of difference_of product_of floor_z quotient_of is_less nothing one_rule noted ◌plus◌ give after rule ◌then◌ moved leave afterᵘ ruleᵘ ◌with◌ ◌thenᵘ◌ stays given own once gave_s list_wrong entry_off list_fault shown shown_from records_fit rooms_fit watch_lent watch_room as_run off_list watch_listed watch_accepted watch_judged watch_call
a_watched = refl

-- Case D: first shows its value until the switch has switched, second from then on, the event never.
pub d_watched : (watch_call case_d (start_state case_d) five_then_quiet (1 ∷ 2 ∷ 4 ∷ []) (replicate 16 9) (replicate 48 9)).room ≡ (value_bytes (Plain 3 0) ++ replicate 8 0 ++ replicate 8 0) ++ (replicate 8 0 ++ replicate 8 0 ++ value_bytes (Plain 3 5))
unfolding bound_e bound_s bound_u bound ◌and◌ ◌or◌ byte_at u16_at u32_at u64_at bytes_of write_at first_from first how_many ◌otherwise◌ refuse_if refuse_at program_verdict check_answer check_call start_outcome start_call state_verdict lent_verdict absent_wrong input_wrong time_wrong record_verdict first_wrapped run_from run_outcome run_call unbound bind look plain_word opened meant on_words operate operated not_of negated arm_of chosen just_of lifted take_arm taken eval_e eval_s length_wrong weighed check_of sum_wrong number_wrong field_wrong type_field_wrong node_wrong is_zero may_end after_end record_wrong row is_signal is_expression is_branch is_case is_kind fields_of blocks block_at number_in count_in edition_in edition check_in checks_below checks_of records record_at kind_at type_at a_at b_at c_at word_at place_or nodes has_cell cells_before cells start_header cell_at state_length last_time sum_in set_time cell set_cell held hold is_clear clear branch_in hold_branch input_at time_in word_on flag_on event_on channel_type channel_value truth is_true operand_type result_type number_of truth_of meaning exact_of leaves_range sooner wrong_if wrong_unless needs_e needs_s ready_s ready_fault reset_s start_state rests_s mark is_marked unmarked has_branch is_offered onward scope_e scope_s scope_fault is_child may_be may_stop child_wrong children_wrong names names_in named_below named shape_wrong size_e size_s is_cell times_s value_at expr_as below no_expr expr_f expr_at signal_as branches_as cases_as no_signal signal_f signal_at branches_at cases_at root just_type type_e type_s types_e bodies_have types_s type_fault laterᵒ occurs_if occurs first_present on_occurrence caught on_event upd_s updated evaluated step_of maybe_of is_plain is_maybe is_type type_of value_from value_fits packed value_bytes type_in present_in middle_in word_in unpacked content_fits well_s long_as_cells knows_program rest_well well_formed signed word_of outside sum_of difference_of product_of floor_z quotient_of is_less nothing one_rule noted ◌plus◌ give after rule ◌then◌ moved leave afterᵘ ruleᵘ ◌with◌ ◌thenᵘ◌ stays given own once gave_s list_wrong entry_off list_fault shown shown_from records_fit rooms_fit watch_lent watch_room as_run off_list watch_listed watch_accepted watch_judged watch_call
d_watched = refl

-- A refused watched run keeps the entries of its finished steps, and leaves the others.
pub kept_rows : (watch_call case_a (start_state case_a) back_in_time (4 ∷ []) (replicate 16 9) (replicate 16 9)).room ≡ value_bytes (Plain 3 0) ++ replicate 8 9
unfolding bound_e bound_s bound_u bound ◌and◌ ◌or◌ byte_at u16_at u32_at u64_at bytes_of write_at first_from first how_many ◌otherwise◌ refuse_if refuse_at program_verdict check_answer check_call start_outcome start_call state_verdict lent_verdict absent_wrong input_wrong time_wrong record_verdict first_wrapped run_from run_outcome run_call unbound bind look plain_word opened meant on_words operate operated not_of negated arm_of chosen just_of lifted take_arm taken eval_e eval_s length_wrong weighed check_of sum_wrong number_wrong field_wrong type_field_wrong node_wrong is_zero may_end after_end record_wrong row is_signal is_expression is_branch is_case is_kind fields_of blocks block_at number_in count_in edition_in edition check_in checks_below checks_of records record_at kind_at type_at a_at b_at c_at word_at place_or nodes has_cell cells_before cells start_header cell_at state_length last_time sum_in set_time cell set_cell held hold is_clear clear branch_in hold_branch input_at time_in word_on flag_on event_on channel_type channel_value truth is_true operand_type result_type number_of truth_of meaning exact_of leaves_range sooner wrong_if wrong_unless needs_e needs_s ready_s ready_fault reset_s start_state rests_s mark is_marked unmarked has_branch is_offered onward scope_e scope_s scope_fault is_child may_be may_stop child_wrong children_wrong names names_in named_below named shape_wrong size_e size_s is_cell times_s value_at expr_as below no_expr expr_f expr_at signal_as branches_as cases_as no_signal signal_f signal_at branches_at cases_at root just_type type_e type_s types_e bodies_have types_s type_fault laterᵒ occurs_if occurs first_present on_occurrence caught on_event upd_s updated evaluated step_of maybe_of is_plain is_maybe is_type type_of value_from value_fits packed value_bytes type_in present_in middle_in word_in unpacked content_fits well_s long_as_cells knows_program rest_well well_formed signed word_of outside sum_of difference_of product_of floor_z quotient_of is_less nothing one_rule noted ◌plus◌ give after rule ◌then◌ moved leave afterᵘ ruleᵘ ◌with◌ ◌thenᵘ◌ stays given own once gave_s list_wrong entry_off list_fault shown shown_from records_fit rooms_fit watch_lent watch_room as_run off_list watch_listed watch_accepted watch_judged watch_call
kept_rows = refl

-- No entry: 17, before 9.
pub none_listed : (watch_call case_a [] [] [] [] []).answer ≡ Err ListLength
unfolding bound_e bound_s bound_u bound ◌and◌ ◌or◌ byte_at u16_at u32_at u64_at bytes_of write_at first_from first how_many ◌otherwise◌ refuse_if refuse_at program_verdict check_answer check_call start_outcome start_call state_verdict lent_verdict absent_wrong input_wrong time_wrong record_verdict first_wrapped run_from run_outcome run_call unbound bind look plain_word opened meant on_words operate operated not_of negated arm_of chosen just_of lifted take_arm taken eval_e eval_s length_wrong weighed check_of sum_wrong number_wrong field_wrong type_field_wrong node_wrong is_zero may_end after_end record_wrong row is_signal is_expression is_branch is_case is_kind fields_of blocks block_at number_in count_in edition_in edition check_in checks_below checks_of records record_at kind_at type_at a_at b_at c_at word_at place_or nodes has_cell cells_before cells start_header cell_at state_length last_time sum_in set_time cell set_cell held hold is_clear clear branch_in hold_branch input_at time_in word_on flag_on event_on channel_type channel_value truth is_true operand_type result_type number_of truth_of meaning exact_of leaves_range sooner wrong_if wrong_unless needs_e needs_s ready_s ready_fault reset_s start_state rests_s mark is_marked unmarked has_branch is_offered onward scope_e scope_s scope_fault is_child may_be may_stop child_wrong children_wrong names names_in named_below named shape_wrong size_e size_s is_cell times_s value_at expr_as below no_expr expr_f expr_at signal_as branches_as cases_as no_signal signal_f signal_at branches_at cases_at root just_type type_e type_s types_e bodies_have types_s type_fault laterᵒ occurs_if occurs first_present on_occurrence caught on_event upd_s updated evaluated step_of maybe_of is_plain is_maybe is_type type_of value_from value_fits packed value_bytes type_in present_in middle_in word_in unpacked content_fits well_s long_as_cells knows_program rest_well well_formed signed word_of outside sum_of difference_of product_of floor_z quotient_of is_less nothing one_rule noted ◌plus◌ give after rule ◌then◌ moved leave afterᵘ ruleᵘ ◌with◌ ◌thenᵘ◌ stays given own once gave_s list_wrong entry_off list_fault shown shown_from records_fit rooms_fit watch_lent watch_room as_run off_list watch_listed watch_accepted watch_judged watch_call
none_listed = refl

-- The second entry is not above the first: 18 at 1, before 9.
pub not_above : (watch_call case_a [] [] (4 ∷ 3 ∷ []) [] []).answer ≡ Err (ListEntry 1)
unfolding bound_e bound_s bound_u bound ◌and◌ ◌or◌ byte_at u16_at u32_at u64_at bytes_of write_at first_from first how_many ◌otherwise◌ refuse_if refuse_at program_verdict check_answer check_call start_outcome start_call state_verdict lent_verdict absent_wrong input_wrong time_wrong record_verdict first_wrapped run_from run_outcome run_call unbound bind look plain_word opened meant on_words operate operated not_of negated arm_of chosen just_of lifted take_arm taken eval_e eval_s length_wrong weighed check_of sum_wrong number_wrong field_wrong type_field_wrong node_wrong is_zero may_end after_end record_wrong row is_signal is_expression is_branch is_case is_kind fields_of blocks block_at number_in count_in edition_in edition check_in checks_below checks_of records record_at kind_at type_at a_at b_at c_at word_at place_or nodes has_cell cells_before cells start_header cell_at state_length last_time sum_in set_time cell set_cell held hold is_clear clear branch_in hold_branch input_at time_in word_on flag_on event_on channel_type channel_value truth is_true operand_type result_type number_of truth_of meaning exact_of leaves_range sooner wrong_if wrong_unless needs_e needs_s ready_s ready_fault reset_s start_state rests_s mark is_marked unmarked has_branch is_offered onward scope_e scope_s scope_fault is_child may_be may_stop child_wrong children_wrong names names_in named_below named shape_wrong size_e size_s is_cell times_s value_at expr_as below no_expr expr_f expr_at signal_as branches_as cases_as no_signal signal_f signal_at branches_at cases_at root just_type type_e type_s types_e bodies_have types_s type_fault laterᵒ occurs_if occurs first_present on_occurrence caught on_event upd_s updated evaluated step_of maybe_of is_plain is_maybe is_type type_of value_from value_fits packed value_bytes type_in present_in middle_in word_in unpacked content_fits well_s long_as_cells knows_program rest_well well_formed signed word_of outside sum_of difference_of product_of floor_z quotient_of is_less nothing one_rule noted ◌plus◌ give after rule ◌then◌ moved leave afterᵘ ruleᵘ ◌with◌ ◌thenᵘ◌ stays given own once gave_s list_wrong entry_off list_fault shown shown_from records_fit rooms_fit watch_lent watch_room as_run off_list watch_listed watch_accepted watch_judged watch_call
not_above = refl

-- An expression: 18 at 0.
pub no_signal_lem : (watch_call case_a [] [] (0 ∷ []) [] []).answer ≡ Err (ListEntry 0)
unfolding bound_e bound_s bound_u bound ◌and◌ ◌or◌ byte_at u16_at u32_at u64_at bytes_of write_at first_from first how_many ◌otherwise◌ refuse_if refuse_at program_verdict check_answer check_call start_outcome start_call state_verdict lent_verdict absent_wrong input_wrong time_wrong record_verdict first_wrapped run_from run_outcome run_call unbound bind look plain_word opened meant on_words operate operated not_of negated arm_of chosen just_of lifted take_arm taken eval_e eval_s length_wrong weighed check_of sum_wrong number_wrong field_wrong type_field_wrong node_wrong is_zero may_end after_end record_wrong row is_signal is_expression is_branch is_case is_kind fields_of blocks block_at number_in count_in edition_in edition check_in checks_below checks_of records record_at kind_at type_at a_at b_at c_at word_at place_or nodes has_cell cells_before cells start_header cell_at state_length last_time sum_in set_time cell set_cell held hold is_clear clear branch_in hold_branch input_at time_in word_on flag_on event_on channel_type channel_value truth is_true operand_type result_type number_of truth_of meaning exact_of leaves_range sooner wrong_if wrong_unless needs_e needs_s ready_s ready_fault reset_s start_state rests_s mark is_marked unmarked has_branch is_offered onward scope_e scope_s scope_fault is_child may_be may_stop child_wrong children_wrong names names_in named_below named shape_wrong size_e size_s is_cell times_s value_at expr_as below no_expr expr_f expr_at signal_as branches_as cases_as no_signal signal_f signal_at branches_at cases_at root just_type type_e type_s types_e bodies_have types_s type_fault laterᵒ occurs_if occurs first_present on_occurrence caught on_event upd_s updated evaluated step_of maybe_of is_plain is_maybe is_type type_of value_from value_fits packed value_bytes type_in present_in middle_in word_in unpacked content_fits well_s long_as_cells knows_program rest_well well_formed signed word_of outside sum_of difference_of product_of floor_z quotient_of is_less nothing one_rule noted ◌plus◌ give after rule ◌then◌ moved leave afterᵘ ruleᵘ ◌with◌ ◌thenᵘ◌ stays given own once gave_s list_wrong entry_off list_fault shown shown_from records_fit rooms_fit watch_lent watch_room as_run off_list watch_listed watch_accepted watch_judged watch_call
no_signal_lem = refl

-- A second room that is too short: 11.
pub second_room : (watch_call case_a (start_state case_a) two_quiet (3 ∷ 4 ∷ []) (replicate 16 9) (replicate 24 9)).answer ≡ Ok (refused_after OutputLength 0 65535)
unfolding bound_e bound_s bound_u bound ◌and◌ ◌or◌ byte_at u16_at u32_at u64_at bytes_of write_at first_from first how_many ◌otherwise◌ refuse_if refuse_at program_verdict check_answer check_call start_outcome start_call state_verdict lent_verdict absent_wrong input_wrong time_wrong record_verdict first_wrapped run_from run_outcome run_call unbound bind look plain_word opened meant on_words operate operated not_of negated arm_of chosen just_of lifted take_arm taken eval_e eval_s length_wrong weighed check_of sum_wrong number_wrong field_wrong type_field_wrong node_wrong is_zero may_end after_end record_wrong row is_signal is_expression is_branch is_case is_kind fields_of blocks block_at number_in count_in edition_in edition check_in checks_below checks_of records record_at kind_at type_at a_at b_at c_at word_at place_or nodes has_cell cells_before cells start_header cell_at state_length last_time sum_in set_time cell set_cell held hold is_clear clear branch_in hold_branch input_at time_in word_on flag_on event_on channel_type channel_value truth is_true operand_type result_type number_of truth_of meaning exact_of leaves_range sooner wrong_if wrong_unless needs_e needs_s ready_s ready_fault reset_s start_state rests_s mark is_marked unmarked has_branch is_offered onward scope_e scope_s scope_fault is_child may_be may_stop child_wrong children_wrong names names_in named_below named shape_wrong size_e size_s is_cell times_s value_at expr_as below no_expr expr_f expr_at signal_as branches_as cases_as no_signal signal_f signal_at branches_at cases_at root just_type type_e type_s types_e bodies_have types_s type_fault laterᵒ occurs_if occurs first_present on_occurrence caught on_event upd_s updated evaluated step_of maybe_of is_plain is_maybe is_type type_of value_from value_fits packed value_bytes type_in present_in middle_in word_in unpacked content_fits well_s long_as_cells knows_program rest_well well_formed signed word_of outside sum_of difference_of product_of floor_z quotient_of is_less nothing one_rule noted ◌plus◌ give after rule ◌then◌ moved leave afterᵘ ruleᵘ ◌with◌ ◌thenᵘ◌ stays given own once gave_s list_wrong entry_off list_fault shown shown_from records_fit rooms_fit watch_lent watch_room as_run off_list watch_listed watch_accepted watch_judged watch_call
second_room = refl
