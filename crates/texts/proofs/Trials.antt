-- The text form of the readings A, D and E, there and back, and damaged texts, by computation.
-- Assumes nothing.
use mathlib.Core.Path.{◌≡◌, refl}
use Prim.Native.Nat.{ℕ}
use Prim.Native.String.{String}
use mathlib.Core.List.{List, [], ◌∷◌}
use lib.ListN.{replicate, length}
use Rattle.rules.specs.Bytes.{Bytes}
use Rattle.rules.specs.Samples.{program_two}
use Rattle.rules.specs.Readings.{counting, switching, swaying, turning, arriving, selfish}
use Rattle.texts.specs.Spelled.{spelled}
use Rattle.texts.specs.Answers.{read_numbers, printed_numbers}
use Rattle.texts.specs.Calls.{read_call, print_call}
use Rattle.texts.specs.Reader.{node_place}
use Rattle.texts.specs.Numbering.{renumbered}
use Rattle.texts.specs.Printer.{print_text}
use Rattle.rules.specs.Bytes as RBytes
use Rattle.rules.specs.Calls as RCalls
use Rattle.rules.specs.Format as RFormat
use Rattle.rules.specs.Kinds as RKinds
use Rattle.rules.specs.Layout as RLayout
use Rattle.rules.specs.Operations as ROperations
use Rattle.rules.specs.Places as RPlaces
use Rattle.rules.specs.Ready as RReady
use Rattle.rules.specs.Scope as RScope
use Rattle.rules.specs.Shape as RShape
use Rattle.rules.specs.Tree as RTree
use Rattle.rules.specs.Typing as RTyping
use Rattle.rules.specs.Values as RValues
use Rattle.written.specs.Order as WOrder
use Rattle.written.specs.Parts as WParts
use Rattle.written.specs.Table as WTable
use Rattle.written.specs.Written as WWritten
use Rattle.texts.specs.Calls as TCalls
use Rattle.texts.specs.Numbering as TNumbering
use Rattle.texts.specs.Numerals as TNumerals
use Rattle.texts.specs.Printer as TPrinter
use Rattle.texts.specs.Reader as TReader
use Rattle.texts.specs.Resolved as TResolved
use Rattle.texts.specs.Rows as TRows
use Rattle.texts.specs.Spelled as TSpelled
use Rattle.texts.specs.Spelling as TSpelling
use Rattle.texts.specs.Steps as TSteps
use Rattle.texts.specs.Tokens as TTokens

abbrev blank : Bytes
blank = replicate 512 0

abbrev text_a : Bytes
text_a = spelled "edition-one\n(let x7 int\n  (delay 0 (ext (add x7 1)))\n  (ext x7))\n"

abbrev text_d : Bytes
text_d = spelled "edition-one\n(switch x5 int (ext 0)\n  (input 4)\n  (ext x5))\n"

abbrev text_e : Bytes
text_e = spelled "edition-one\n(group\n  (until (ext 0)\n    (case (input 4) k15))\n  (branch k16 x16 int\n    (until (ext 1)\n      (case (input 4) k15)))\n  (branch k15 x15 int\n    (until (ext x15)\n      (case (input 4) k16))))\n"

-- Typed by hand: other white space, a comment, other names, zeros in front.
abbrev typed_e : Bytes
typed_e = spelled "edition-one ; case E\n(group (until (ext 000) (case (input 4) down))\n\t(branch up nothing int (until (ext 1) (case (input 04) down)))\r\n (branch down x int (until (ext x) (case (input 4) up))) ) ; the end"

reads : (read_call text_a blank).room ∷ (read_call text_d blank).room ∷ (read_call text_e blank).room ∷ (read_call typed_e blank).room ∷ [] ≡ counting 0 ∷ switching ∷ swaying ∷ swaying ∷ []
unfolding RBytes.◌and◌ RBytes.◌or◌ RBytes.byte_at RBytes.u16_at RBytes.u32_at RBytes.u64_at RBytes.bytes_of RBytes.write_at RBytes.first_from RBytes.first RBytes.how_many RCalls.◌otherwise◌ RCalls.refuse_if RCalls.refuse_at RCalls.program_verdict RCalls.check_answer RCalls.check_call RCalls.start_outcome RCalls.start_call RCalls.state_verdict RCalls.lent_verdict RCalls.absent_wrong RCalls.input_wrong RCalls.time_wrong RCalls.record_verdict RCalls.run_from RCalls.run_outcome RCalls.run_call RFormat.length_wrong RFormat.weighed RFormat.check_of RFormat.sum_wrong RFormat.number_wrong RFormat.field_wrong RFormat.type_field_wrong RFormat.node_wrong RFormat.is_zero RFormat.may_end RFormat.after_end RFormat.record_wrong RKinds.row RKinds.is_signal RKinds.is_expression RKinds.is_branch RKinds.is_case RKinds.is_kind RKinds.fields_of RLayout.blocks RLayout.block_at RLayout.number_in RLayout.count_in RLayout.edition_in RLayout.edition RLayout.check_in RLayout.checks_below RLayout.checks_of RLayout.records RLayout.record_at RLayout.kind_at RLayout.type_at RLayout.a_at RLayout.b_at RLayout.c_at RLayout.word_at RLayout.place_or RLayout.nodes RLayout.has_cell RLayout.cells_before RLayout.cells RLayout.start_header RLayout.cell_at RLayout.state_length RLayout.last_time RLayout.sum_in RLayout.set_time RLayout.cell RLayout.set_cell RLayout.held RLayout.hold RLayout.is_clear RLayout.clear RLayout.branch_in RLayout.hold_branch RLayout.input_at RLayout.time_in RLayout.word_on RLayout.flag_on RLayout.event_on RLayout.channel_type RLayout.channel_value ROperations.truth ROperations.is_true ROperations.operand_type ROperations.result_type ROperations.number_of ROperations.truth_of ROperations.meaning RPlaces.sooner RPlaces.wrong_if RPlaces.wrong_unless RReady.needs_e RReady.needs_s RReady.ready_s RReady.ready_fault RScope.mark RScope.is_marked RScope.unmarked RScope.has_branch RScope.is_offered RScope.onward RScope.scope_e RScope.scope_s RScope.scope_fault RShape.is_child RShape.may_be RShape.may_stop RShape.child_wrong RShape.children_wrong RShape.names RShape.names_in RShape.named_below RShape.named RShape.shape_wrong RTree.value_at RTree.expr_as RTree.below RTree.no_expr RTree.expr_f RTree.expr_at RTree.signal_as RTree.branches_as RTree.cases_as RTree.no_signal RTree.signal_f RTree.signal_at RTree.branches_at RTree.cases_at RTree.root RTyping.just_type RTyping.type_e RTyping.type_s RTyping.types_e RTyping.bodies_have RTyping.types_s RTyping.type_fault RValues.maybe_of RValues.is_plain RValues.is_maybe RValues.is_type RValues.type_of RValues.value_from RValues.value_fits RValues.packed RValues.value_bytes RValues.type_in RValues.present_in RValues.middle_in RValues.word_in RValues.unpacked WOrder.order_e WOrder.order_s WParts.size_p WParts.last_p WParts.field_k WParts.row_p WParts.rows_p WTable.row_bytes WTable.rows_bytes WTable.block_of WTable.blocks_from WTable.blocks_for WTable.table_of WWritten.present_of WWritten.word_of WWritten.place_in WWritten.part_e WWritten.part_s WWritten.new_number WWritten.written WWritten.placed_e WWritten.placed_s WWritten.renamed TCalls.unread_answer TCalls.read_checked TCalls.read_fitted TCalls.read_outcome TCalls.read_call TCalls.print_fitted TCalls.print_outcome TCalls.print_call TNumbering.renumbered TNumerals.are_digits TNumerals.is_natural TNumerals.minus_sign TNumerals.is_negative TNumerals.magnitude_of TNumerals.is_number TNumerals.read_on TNumerals.size_of TNumerals.in_range TNumerals.word_of TNumerals.digits_f TNumerals.decimal TNumerals.signed_decimal TPrinter.tight TPrinter.spaced TPrinter.lined TPrinter.variable_name TPrinter.branch_name TPrinter.plain_word TPrinter.value_pieces TPrinter.label_pieces TPrinter.type_pieces TPrinter.field_pieces TPrinter.behind_pieces TPrinter.opening TPrinter.form_pieces TPrinter.pieces_as TPrinter.pieces_f TPrinter.pieces TPrinter.laid TPrinter.printed TPrinter.print_text TReader.branch_names TReader.begins TReader.ends TReader.labelled TReader.binding TReader.typed TReader.heading TReader.plainly TReader.field TReader.following TReader.behind TReader.form TReader.constant_row TReader.variable_row TReader.bare TReader.wordly TReader.node_f TReader.title TReader.ended TReader.reading TReader.read_text TReader.places_in TReader.node_place TResolved.number_of TResolved.binder_of TResolved.branch_of TResolved.record_of TResolved.table_from TResolved.blocks_of TRows.at_start TRows.◌onward◌ TSpelled.spelled TSpelled.same TSpelled.is_among TSpelling.edition_word TSpelling.edition_named TSpelling.kind_word TSpelling.kind_named TSpelling.type_word TSpelling.type_named TSpelling.is_kept TSpelling.is_digit TSpelling.is_letter TSpelling.are_name_bytes TSpelling.is_name TSteps.next TSteps.position TSteps.given TSteps.expect TSteps.name TSteps.is_bound TSteps.fresh TSteps.variable TSteps.label TSteps.target TSteps.type TSteps.channel TSteps.plain TSteps.is_plain_value TSteps.plain_value TSteps.maybe_value TSteps.value TTokens.ends_line TTokens.is_white TTokens.is_comment TTokens.is_mark TTokens.is_part TTokens.are_parts TTokens.is_plain_word TTokens.token TTokens.between TTokens.tokens TTokens.from TTokens.part
reads = refl

prints : print_text (counting 0) ∷ print_text switching ∷ print_text swaying ∷ [] ≡ text_a ∷ text_d ∷ text_e ∷ []
unfolding RBytes.◌and◌ RBytes.◌or◌ RBytes.byte_at RBytes.u16_at RBytes.u32_at RBytes.u64_at RBytes.bytes_of RBytes.write_at RBytes.first_from RBytes.first RBytes.how_many RCalls.◌otherwise◌ RCalls.refuse_if RCalls.refuse_at RCalls.program_verdict RCalls.check_answer RCalls.check_call RCalls.start_outcome RCalls.start_call RCalls.state_verdict RCalls.lent_verdict RCalls.absent_wrong RCalls.input_wrong RCalls.time_wrong RCalls.record_verdict RCalls.run_from RCalls.run_outcome RCalls.run_call RFormat.length_wrong RFormat.weighed RFormat.check_of RFormat.sum_wrong RFormat.number_wrong RFormat.field_wrong RFormat.type_field_wrong RFormat.node_wrong RFormat.is_zero RFormat.may_end RFormat.after_end RFormat.record_wrong RKinds.row RKinds.is_signal RKinds.is_expression RKinds.is_branch RKinds.is_case RKinds.is_kind RKinds.fields_of RLayout.blocks RLayout.block_at RLayout.number_in RLayout.count_in RLayout.edition_in RLayout.edition RLayout.check_in RLayout.checks_below RLayout.checks_of RLayout.records RLayout.record_at RLayout.kind_at RLayout.type_at RLayout.a_at RLayout.b_at RLayout.c_at RLayout.word_at RLayout.place_or RLayout.nodes RLayout.has_cell RLayout.cells_before RLayout.cells RLayout.start_header RLayout.cell_at RLayout.state_length RLayout.last_time RLayout.sum_in RLayout.set_time RLayout.cell RLayout.set_cell RLayout.held RLayout.hold RLayout.is_clear RLayout.clear RLayout.branch_in RLayout.hold_branch RLayout.input_at RLayout.time_in RLayout.word_on RLayout.flag_on RLayout.event_on RLayout.channel_type RLayout.channel_value ROperations.truth ROperations.is_true ROperations.operand_type ROperations.result_type ROperations.number_of ROperations.truth_of ROperations.meaning RPlaces.sooner RPlaces.wrong_if RPlaces.wrong_unless RReady.needs_e RReady.needs_s RReady.ready_s RReady.ready_fault RScope.mark RScope.is_marked RScope.unmarked RScope.has_branch RScope.is_offered RScope.onward RScope.scope_e RScope.scope_s RScope.scope_fault RShape.is_child RShape.may_be RShape.may_stop RShape.child_wrong RShape.children_wrong RShape.names RShape.names_in RShape.named_below RShape.named RShape.shape_wrong RTree.value_at RTree.expr_as RTree.below RTree.no_expr RTree.expr_f RTree.expr_at RTree.signal_as RTree.branches_as RTree.cases_as RTree.no_signal RTree.signal_f RTree.signal_at RTree.branches_at RTree.cases_at RTree.root RTyping.just_type RTyping.type_e RTyping.type_s RTyping.types_e RTyping.bodies_have RTyping.types_s RTyping.type_fault RValues.maybe_of RValues.is_plain RValues.is_maybe RValues.is_type RValues.type_of RValues.value_from RValues.value_fits RValues.packed RValues.value_bytes RValues.type_in RValues.present_in RValues.middle_in RValues.word_in RValues.unpacked WOrder.order_e WOrder.order_s WParts.size_p WParts.last_p WParts.field_k WParts.row_p WParts.rows_p WTable.row_bytes WTable.rows_bytes WTable.block_of WTable.blocks_from WTable.blocks_for WTable.table_of WWritten.present_of WWritten.word_of WWritten.place_in WWritten.part_e WWritten.part_s WWritten.new_number WWritten.written WWritten.placed_e WWritten.placed_s WWritten.renamed TCalls.unread_answer TCalls.read_checked TCalls.read_fitted TCalls.read_outcome TCalls.read_call TCalls.print_fitted TCalls.print_outcome TCalls.print_call TNumbering.renumbered TNumerals.are_digits TNumerals.is_natural TNumerals.minus_sign TNumerals.is_negative TNumerals.magnitude_of TNumerals.is_number TNumerals.read_on TNumerals.size_of TNumerals.in_range TNumerals.word_of TNumerals.digits_f TNumerals.decimal TNumerals.signed_decimal TPrinter.tight TPrinter.spaced TPrinter.lined TPrinter.variable_name TPrinter.branch_name TPrinter.plain_word TPrinter.value_pieces TPrinter.label_pieces TPrinter.type_pieces TPrinter.field_pieces TPrinter.behind_pieces TPrinter.opening TPrinter.form_pieces TPrinter.pieces_as TPrinter.pieces_f TPrinter.pieces TPrinter.laid TPrinter.printed TPrinter.print_text TReader.branch_names TReader.begins TReader.ends TReader.labelled TReader.binding TReader.typed TReader.heading TReader.plainly TReader.field TReader.following TReader.behind TReader.form TReader.constant_row TReader.variable_row TReader.bare TReader.wordly TReader.node_f TReader.title TReader.ended TReader.reading TReader.read_text TReader.places_in TReader.node_place TResolved.number_of TResolved.binder_of TResolved.branch_of TResolved.record_of TResolved.table_from TResolved.blocks_of TRows.at_start TRows.◌onward◌ TSpelled.spelled TSpelled.same TSpelled.is_among TSpelling.edition_word TSpelling.edition_named TSpelling.kind_word TSpelling.kind_named TSpelling.type_word TSpelling.type_named TSpelling.is_kept TSpelling.is_digit TSpelling.is_letter TSpelling.are_name_bytes TSpelling.is_name TSteps.next TSteps.position TSteps.given TSteps.expect TSteps.name TSteps.is_bound TSteps.fresh TSteps.variable TSteps.label TSteps.target TSteps.type TSteps.channel TSteps.plain TSteps.is_plain_value TSteps.plain_value TSteps.maybe_value TSteps.value TTokens.ends_line TTokens.is_white TTokens.is_comment TTokens.is_mark TTokens.is_part TTokens.are_parts TTokens.is_plain_word TTokens.token TTokens.between TTokens.tokens TTokens.from TTokens.part
prints = refl

-- Reading I is numbered otherwise (its cases' events stand before both cases): printed, read and printed again.
again : print_text (read_call (print_text turning) blank).room ∷ (read_call (print_text turning) blank).room ∷ [] ≡ print_text turning ∷ renumbered turning ∷ []
unfolding RBytes.◌and◌ RBytes.◌or◌ RBytes.byte_at RBytes.u16_at RBytes.u32_at RBytes.u64_at RBytes.bytes_of RBytes.write_at RBytes.first_from RBytes.first RBytes.how_many RCalls.◌otherwise◌ RCalls.refuse_if RCalls.refuse_at RCalls.program_verdict RCalls.check_answer RCalls.check_call RCalls.start_outcome RCalls.start_call RCalls.state_verdict RCalls.lent_verdict RCalls.absent_wrong RCalls.input_wrong RCalls.time_wrong RCalls.record_verdict RCalls.run_from RCalls.run_outcome RCalls.run_call RFormat.length_wrong RFormat.weighed RFormat.check_of RFormat.sum_wrong RFormat.number_wrong RFormat.field_wrong RFormat.type_field_wrong RFormat.node_wrong RFormat.is_zero RFormat.may_end RFormat.after_end RFormat.record_wrong RKinds.row RKinds.is_signal RKinds.is_expression RKinds.is_branch RKinds.is_case RKinds.is_kind RKinds.fields_of RLayout.blocks RLayout.block_at RLayout.number_in RLayout.count_in RLayout.edition_in RLayout.edition RLayout.check_in RLayout.checks_below RLayout.checks_of RLayout.records RLayout.record_at RLayout.kind_at RLayout.type_at RLayout.a_at RLayout.b_at RLayout.c_at RLayout.word_at RLayout.place_or RLayout.nodes RLayout.has_cell RLayout.cells_before RLayout.cells RLayout.start_header RLayout.cell_at RLayout.state_length RLayout.last_time RLayout.sum_in RLayout.set_time RLayout.cell RLayout.set_cell RLayout.held RLayout.hold RLayout.is_clear RLayout.clear RLayout.branch_in RLayout.hold_branch RLayout.input_at RLayout.time_in RLayout.word_on RLayout.flag_on RLayout.event_on RLayout.channel_type RLayout.channel_value ROperations.truth ROperations.is_true ROperations.operand_type ROperations.result_type ROperations.number_of ROperations.truth_of ROperations.meaning RPlaces.sooner RPlaces.wrong_if RPlaces.wrong_unless RReady.needs_e RReady.needs_s RReady.ready_s RReady.ready_fault RScope.mark RScope.is_marked RScope.unmarked RScope.has_branch RScope.is_offered RScope.onward RScope.scope_e RScope.scope_s RScope.scope_fault RShape.is_child RShape.may_be RShape.may_stop RShape.child_wrong RShape.children_wrong RShape.names RShape.names_in RShape.named_below RShape.named RShape.shape_wrong RTree.value_at RTree.expr_as RTree.below RTree.no_expr RTree.expr_f RTree.expr_at RTree.signal_as RTree.branches_as RTree.cases_as RTree.no_signal RTree.signal_f RTree.signal_at RTree.branches_at RTree.cases_at RTree.root RTyping.just_type RTyping.type_e RTyping.type_s RTyping.types_e RTyping.bodies_have RTyping.types_s RTyping.type_fault RValues.maybe_of RValues.is_plain RValues.is_maybe RValues.is_type RValues.type_of RValues.value_from RValues.value_fits RValues.packed RValues.value_bytes RValues.type_in RValues.present_in RValues.middle_in RValues.word_in RValues.unpacked WOrder.order_e WOrder.order_s WParts.size_p WParts.last_p WParts.field_k WParts.row_p WParts.rows_p WTable.row_bytes WTable.rows_bytes WTable.block_of WTable.blocks_from WTable.blocks_for WTable.table_of WWritten.present_of WWritten.word_of WWritten.place_in WWritten.part_e WWritten.part_s WWritten.new_number WWritten.written WWritten.placed_e WWritten.placed_s WWritten.renamed TCalls.unread_answer TCalls.read_checked TCalls.read_fitted TCalls.read_outcome TCalls.read_call TCalls.print_fitted TCalls.print_outcome TCalls.print_call TNumbering.renumbered TNumerals.are_digits TNumerals.is_natural TNumerals.minus_sign TNumerals.is_negative TNumerals.magnitude_of TNumerals.is_number TNumerals.read_on TNumerals.size_of TNumerals.in_range TNumerals.word_of TNumerals.digits_f TNumerals.decimal TNumerals.signed_decimal TPrinter.tight TPrinter.spaced TPrinter.lined TPrinter.variable_name TPrinter.branch_name TPrinter.plain_word TPrinter.value_pieces TPrinter.label_pieces TPrinter.type_pieces TPrinter.field_pieces TPrinter.behind_pieces TPrinter.opening TPrinter.form_pieces TPrinter.pieces_as TPrinter.pieces_f TPrinter.pieces TPrinter.laid TPrinter.printed TPrinter.print_text TReader.branch_names TReader.begins TReader.ends TReader.labelled TReader.binding TReader.typed TReader.heading TReader.plainly TReader.field TReader.following TReader.behind TReader.form TReader.constant_row TReader.variable_row TReader.bare TReader.wordly TReader.node_f TReader.title TReader.ended TReader.reading TReader.read_text TReader.places_in TReader.node_place TResolved.number_of TResolved.binder_of TResolved.branch_of TResolved.record_of TResolved.table_from TResolved.blocks_of TRows.at_start TRows.◌onward◌ TSpelled.spelled TSpelled.same TSpelled.is_among TSpelling.edition_word TSpelling.edition_named TSpelling.kind_word TSpelling.kind_named TSpelling.type_word TSpelling.type_named TSpelling.is_kept TSpelling.is_digit TSpelling.is_letter TSpelling.are_name_bytes TSpelling.is_name TSteps.next TSteps.position TSteps.given TSteps.expect TSteps.name TSteps.is_bound TSteps.fresh TSteps.variable TSteps.label TSteps.target TSteps.type TSteps.channel TSteps.plain TSteps.is_plain_value TSteps.plain_value TSteps.maybe_value TSteps.value TTokens.ends_line TTokens.is_white TTokens.is_comment TTokens.is_mark TTokens.is_part TTokens.are_parts TTokens.is_plain_word TTokens.token TTokens.between TTokens.tokens TTokens.from TTokens.part
again = refl

-- A jump out of an inner group, in edition two.
two : (read_call (print_text (program_two arriving)) blank).room ∷ [] ≡ renumbered (program_two arriving) ∷ []
unfolding RBytes.◌and◌ RBytes.◌or◌ RBytes.byte_at RBytes.u16_at RBytes.u32_at RBytes.u64_at RBytes.bytes_of RBytes.write_at RBytes.first_from RBytes.first RBytes.how_many RCalls.◌otherwise◌ RCalls.refuse_if RCalls.refuse_at RCalls.program_verdict RCalls.check_answer RCalls.check_call RCalls.start_outcome RCalls.start_call RCalls.state_verdict RCalls.lent_verdict RCalls.absent_wrong RCalls.input_wrong RCalls.time_wrong RCalls.record_verdict RCalls.run_from RCalls.run_outcome RCalls.run_call RFormat.length_wrong RFormat.weighed RFormat.check_of RFormat.sum_wrong RFormat.number_wrong RFormat.field_wrong RFormat.type_field_wrong RFormat.node_wrong RFormat.is_zero RFormat.may_end RFormat.after_end RFormat.record_wrong RKinds.row RKinds.is_signal RKinds.is_expression RKinds.is_branch RKinds.is_case RKinds.is_kind RKinds.fields_of RLayout.blocks RLayout.block_at RLayout.number_in RLayout.count_in RLayout.edition_in RLayout.edition RLayout.check_in RLayout.checks_below RLayout.checks_of RLayout.records RLayout.record_at RLayout.kind_at RLayout.type_at RLayout.a_at RLayout.b_at RLayout.c_at RLayout.word_at RLayout.place_or RLayout.nodes RLayout.has_cell RLayout.cells_before RLayout.cells RLayout.start_header RLayout.cell_at RLayout.state_length RLayout.last_time RLayout.sum_in RLayout.set_time RLayout.cell RLayout.set_cell RLayout.held RLayout.hold RLayout.is_clear RLayout.clear RLayout.branch_in RLayout.hold_branch RLayout.input_at RLayout.time_in RLayout.word_on RLayout.flag_on RLayout.event_on RLayout.channel_type RLayout.channel_value ROperations.truth ROperations.is_true ROperations.operand_type ROperations.result_type ROperations.number_of ROperations.truth_of ROperations.meaning RPlaces.sooner RPlaces.wrong_if RPlaces.wrong_unless RReady.needs_e RReady.needs_s RReady.ready_s RReady.ready_fault RScope.mark RScope.is_marked RScope.unmarked RScope.has_branch RScope.is_offered RScope.onward RScope.scope_e RScope.scope_s RScope.scope_fault RShape.is_child RShape.may_be RShape.may_stop RShape.child_wrong RShape.children_wrong RShape.names RShape.names_in RShape.named_below RShape.named RShape.shape_wrong RTree.value_at RTree.expr_as RTree.below RTree.no_expr RTree.expr_f RTree.expr_at RTree.signal_as RTree.branches_as RTree.cases_as RTree.no_signal RTree.signal_f RTree.signal_at RTree.branches_at RTree.cases_at RTree.root RTyping.just_type RTyping.type_e RTyping.type_s RTyping.types_e RTyping.bodies_have RTyping.types_s RTyping.type_fault RValues.maybe_of RValues.is_plain RValues.is_maybe RValues.is_type RValues.type_of RValues.value_from RValues.value_fits RValues.packed RValues.value_bytes RValues.type_in RValues.present_in RValues.middle_in RValues.word_in RValues.unpacked WOrder.order_e WOrder.order_s WParts.size_p WParts.last_p WParts.field_k WParts.row_p WParts.rows_p WTable.row_bytes WTable.rows_bytes WTable.block_of WTable.blocks_from WTable.blocks_for WTable.table_of WWritten.present_of WWritten.word_of WWritten.place_in WWritten.part_e WWritten.part_s WWritten.new_number WWritten.written WWritten.placed_e WWritten.placed_s WWritten.renamed TCalls.unread_answer TCalls.read_checked TCalls.read_fitted TCalls.read_outcome TCalls.read_call TCalls.print_fitted TCalls.print_outcome TCalls.print_call TNumbering.renumbered TNumerals.are_digits TNumerals.is_natural TNumerals.minus_sign TNumerals.is_negative TNumerals.magnitude_of TNumerals.is_number TNumerals.read_on TNumerals.size_of TNumerals.in_range TNumerals.word_of TNumerals.digits_f TNumerals.decimal TNumerals.signed_decimal TPrinter.tight TPrinter.spaced TPrinter.lined TPrinter.variable_name TPrinter.branch_name TPrinter.plain_word TPrinter.value_pieces TPrinter.label_pieces TPrinter.type_pieces TPrinter.field_pieces TPrinter.behind_pieces TPrinter.opening TPrinter.form_pieces TPrinter.pieces_as TPrinter.pieces_f TPrinter.pieces TPrinter.laid TPrinter.printed TPrinter.print_text TReader.branch_names TReader.begins TReader.ends TReader.labelled TReader.binding TReader.typed TReader.heading TReader.plainly TReader.field TReader.following TReader.behind TReader.form TReader.constant_row TReader.variable_row TReader.bare TReader.wordly TReader.node_f TReader.title TReader.ended TReader.reading TReader.read_text TReader.places_in TReader.node_place TResolved.number_of TResolved.binder_of TResolved.branch_of TResolved.record_of TResolved.table_from TResolved.blocks_of TRows.at_start TRows.◌onward◌ TSpelled.spelled TSpelled.same TSpelled.is_among TSpelling.edition_word TSpelling.edition_named TSpelling.kind_word TSpelling.kind_named TSpelling.type_word TSpelling.type_named TSpelling.is_kept TSpelling.is_digit TSpelling.is_letter TSpelling.are_name_bytes TSpelling.is_name TSteps.next TSteps.position TSteps.given TSteps.expect TSteps.name TSteps.is_bound TSteps.fresh TSteps.variable TSteps.label TSteps.target TSteps.type TSteps.channel TSteps.plain TSteps.is_plain_value TSteps.plain_value TSteps.maybe_value TSteps.value TTokens.ends_line TTokens.is_white TTokens.is_comment TTokens.is_mark TTokens.is_part TTokens.are_parts TTokens.is_plain_word TTokens.token TTokens.between TTokens.tokens TTokens.from TTokens.part
two = refl

-- Where the eight nodes of A begin, in the text: its constant 1 is node 1 and its let node 7.
begins : node_place text_a 0 ∷ node_place text_a 1 ∷ node_place text_a 2 ∷ node_place text_a 4 ∷ node_place text_a 7 ∷ node_place text_a 8 ∷ [] ≡ 45 ∷ 48 ∷ 40 ∷ 26 ∷ 12 ∷ 65 ∷ []
unfolding RBytes.◌and◌ RBytes.◌or◌ RBytes.byte_at RBytes.u16_at RBytes.u32_at RBytes.u64_at RBytes.bytes_of RBytes.write_at RBytes.first_from RBytes.first RBytes.how_many RCalls.◌otherwise◌ RCalls.refuse_if RCalls.refuse_at RCalls.program_verdict RCalls.check_answer RCalls.check_call RCalls.start_outcome RCalls.start_call RCalls.state_verdict RCalls.lent_verdict RCalls.absent_wrong RCalls.input_wrong RCalls.time_wrong RCalls.record_verdict RCalls.run_from RCalls.run_outcome RCalls.run_call RFormat.length_wrong RFormat.weighed RFormat.check_of RFormat.sum_wrong RFormat.number_wrong RFormat.field_wrong RFormat.type_field_wrong RFormat.node_wrong RFormat.is_zero RFormat.may_end RFormat.after_end RFormat.record_wrong RKinds.row RKinds.is_signal RKinds.is_expression RKinds.is_branch RKinds.is_case RKinds.is_kind RKinds.fields_of RLayout.blocks RLayout.block_at RLayout.number_in RLayout.count_in RLayout.edition_in RLayout.edition RLayout.check_in RLayout.checks_below RLayout.checks_of RLayout.records RLayout.record_at RLayout.kind_at RLayout.type_at RLayout.a_at RLayout.b_at RLayout.c_at RLayout.word_at RLayout.place_or RLayout.nodes RLayout.has_cell RLayout.cells_before RLayout.cells RLayout.start_header RLayout.cell_at RLayout.state_length RLayout.last_time RLayout.sum_in RLayout.set_time RLayout.cell RLayout.set_cell RLayout.held RLayout.hold RLayout.is_clear RLayout.clear RLayout.branch_in RLayout.hold_branch RLayout.input_at RLayout.time_in RLayout.word_on RLayout.flag_on RLayout.event_on RLayout.channel_type RLayout.channel_value ROperations.truth ROperations.is_true ROperations.operand_type ROperations.result_type ROperations.number_of ROperations.truth_of ROperations.meaning RPlaces.sooner RPlaces.wrong_if RPlaces.wrong_unless RReady.needs_e RReady.needs_s RReady.ready_s RReady.ready_fault RScope.mark RScope.is_marked RScope.unmarked RScope.has_branch RScope.is_offered RScope.onward RScope.scope_e RScope.scope_s RScope.scope_fault RShape.is_child RShape.may_be RShape.may_stop RShape.child_wrong RShape.children_wrong RShape.names RShape.names_in RShape.named_below RShape.named RShape.shape_wrong RTree.value_at RTree.expr_as RTree.below RTree.no_expr RTree.expr_f RTree.expr_at RTree.signal_as RTree.branches_as RTree.cases_as RTree.no_signal RTree.signal_f RTree.signal_at RTree.branches_at RTree.cases_at RTree.root RTyping.just_type RTyping.type_e RTyping.type_s RTyping.types_e RTyping.bodies_have RTyping.types_s RTyping.type_fault RValues.maybe_of RValues.is_plain RValues.is_maybe RValues.is_type RValues.type_of RValues.value_from RValues.value_fits RValues.packed RValues.value_bytes RValues.type_in RValues.present_in RValues.middle_in RValues.word_in RValues.unpacked WOrder.order_e WOrder.order_s WParts.size_p WParts.last_p WParts.field_k WParts.row_p WParts.rows_p WTable.row_bytes WTable.rows_bytes WTable.block_of WTable.blocks_from WTable.blocks_for WTable.table_of WWritten.present_of WWritten.word_of WWritten.place_in WWritten.part_e WWritten.part_s WWritten.new_number WWritten.written WWritten.placed_e WWritten.placed_s WWritten.renamed TCalls.unread_answer TCalls.read_checked TCalls.read_fitted TCalls.read_outcome TCalls.read_call TCalls.print_fitted TCalls.print_outcome TCalls.print_call TNumbering.renumbered TNumerals.are_digits TNumerals.is_natural TNumerals.minus_sign TNumerals.is_negative TNumerals.magnitude_of TNumerals.is_number TNumerals.read_on TNumerals.size_of TNumerals.in_range TNumerals.word_of TNumerals.digits_f TNumerals.decimal TNumerals.signed_decimal TPrinter.tight TPrinter.spaced TPrinter.lined TPrinter.variable_name TPrinter.branch_name TPrinter.plain_word TPrinter.value_pieces TPrinter.label_pieces TPrinter.type_pieces TPrinter.field_pieces TPrinter.behind_pieces TPrinter.opening TPrinter.form_pieces TPrinter.pieces_as TPrinter.pieces_f TPrinter.pieces TPrinter.laid TPrinter.printed TPrinter.print_text TReader.branch_names TReader.begins TReader.ends TReader.labelled TReader.binding TReader.typed TReader.heading TReader.plainly TReader.field TReader.following TReader.behind TReader.form TReader.constant_row TReader.variable_row TReader.bare TReader.wordly TReader.node_f TReader.title TReader.ended TReader.reading TReader.read_text TReader.places_in TReader.node_place TResolved.number_of TResolved.binder_of TResolved.branch_of TResolved.record_of TResolved.table_from TResolved.blocks_of TRows.at_start TRows.◌onward◌ TSpelled.spelled TSpelled.same TSpelled.is_among TSpelling.edition_word TSpelling.edition_named TSpelling.kind_word TSpelling.kind_named TSpelling.type_word TSpelling.type_named TSpelling.is_kept TSpelling.is_digit TSpelling.is_letter TSpelling.are_name_bytes TSpelling.is_name TSteps.next TSteps.position TSteps.given TSteps.expect TSteps.name TSteps.is_bound TSteps.fresh TSteps.variable TSteps.label TSteps.target TSteps.type TSteps.channel TSteps.plain TSteps.is_plain_value TSteps.plain_value TSteps.maybe_value TSteps.value TTokens.ends_line TTokens.is_white TTokens.is_comment TTokens.is_mark TTokens.is_part TTokens.are_parts TTokens.is_plain_word TTokens.token TTokens.between TTokens.tokens TTokens.from TTokens.part
begins = refl

abbrev answers : List String → List (List ℕ)
answers [] = []
answers (t ∷ ts) = read_numbers (read_call (spelled t) blank).answer ∷ answers ts

damaged :
    answers (
    ""
    ∷ "edition-three (time)"
    ∷ "edition-one"
    ∷ "edition-one (time"
    ∷ "edition-one (time))"
    ∷ "edition-one (time) (time)"
    ∷ "edition-one (tide)"
    ∷ "edition-one (add 1 2)"
    ∷ "edition-one (ext y)"
    ∷ "edition-one (ext 5x)"
    ∷ "edition-one (ext 2147483648)"
    ∷ "edition-one (ext -2147483648)"
    ∷ "edition-one (ext -2147483649)"
    ∷ "edition-one (input 8)"
    ∷ "edition-one (input x)"
    ∷ "edition-one (input -1)"
    ∷ "edition-two (input -0)"
    ∷ "edition-one (let x int (time) (let x int (time) (ext x)))"
    ∷ "edition-one (let time int (time) (ext 1))"
    ∷ "edition-one (let edition-two int (time) (ext 1))"
    ∷ "edition-one (switch x maybe-int (time) (input 4) (ext x))"
    ∷ "edition-one (until (input 9) (case (input 4) nowhere))"
    ∷ "edition-one (until (time) (case (input 4) nowhere) (case (input 9) nowhere))"
    ∷ "edition-one (until (time) (case (input 4) b) (case (input 9) b) (branch b"
    ∷ "edition-one (group (time))"
    ∷ "edition-one (until (time))"
    ∷ "edition-one (ext (some 5))"
    ∷ "edition-one (ext (none maybe-int))"
    ∷ "edition-one (let x int (ext x) (ext x))"
    ∷ "edition-one (let x bool (ext 1) (ext x))"
    ∷ "edition-one (let y int (let x int (time) (ext x)) (ext x))"
    ∷ [])
    ≡ (21 ∷ 0 ∷ 0 ∷ [])
    ∷ (21 ∷ 0 ∷ 0 ∷ [])
    ∷ (21 ∷ 11 ∷ 0 ∷ [])
    ∷ (21 ∷ 17 ∷ 0 ∷ [])
    ∷ (21 ∷ 18 ∷ 0 ∷ [])
    ∷ (21 ∷ 19 ∷ 0 ∷ [])
    ∷ (21 ∷ 13 ∷ 0 ∷ [])
    ∷ (21 ∷ 13 ∷ 0 ∷ [])
    ∷ (22 ∷ 17 ∷ 0 ∷ [])
    ∷ (21 ∷ 17 ∷ 0 ∷ [])
    ∷ (23 ∷ 17 ∷ 0 ∷ [])
    ∷ (0 ∷ 2 ∷ 512 ∷ [])
    ∷ (23 ∷ 17 ∷ 0 ∷ [])
    ∷ (23 ∷ 19 ∷ 0 ∷ [])
    ∷ (21 ∷ 19 ∷ 0 ∷ [])
    ∷ (23 ∷ 19 ∷ 0 ∷ [])
    ∷ (0 ∷ 1 ∷ 512 ∷ [])
    ∷ (22 ∷ 35 ∷ 0 ∷ [])
    ∷ (21 ∷ 17 ∷ 0 ∷ [])
    ∷ (21 ∷ 17 ∷ 0 ∷ [])
    ∷ (21 ∷ 22 ∷ 0 ∷ [])
    ∷ (23 ∷ 26 ∷ 0 ∷ [])
    ∷ (22 ∷ 42 ∷ 0 ∷ [])
    ∷ (23 ∷ 58 ∷ 0 ∷ [])
    ∷ (21 ∷ 25 ∷ 0 ∷ [])
    ∷ (21 ∷ 25 ∷ 0 ∷ [])
    ∷ (0 ∷ 2 ∷ 512 ∷ [])
    ∷ (21 ∷ 23 ∷ 0 ∷ [])
    ∷ (8 ∷ 4 ∷ 0 ∷ [])
    ∷ (7 ∷ 4 ∷ 0 ∷ [])
    ∷ (6 ∷ 4 ∷ 0 ∷ [])
    ∷ []
unfolding RBytes.◌and◌ RBytes.◌or◌ RBytes.byte_at RBytes.u16_at RBytes.u32_at RBytes.u64_at RBytes.bytes_of RBytes.write_at RBytes.first_from RBytes.first RBytes.how_many RCalls.◌otherwise◌ RCalls.refuse_if RCalls.refuse_at RCalls.program_verdict RCalls.check_answer RCalls.check_call RCalls.start_outcome RCalls.start_call RCalls.state_verdict RCalls.lent_verdict RCalls.absent_wrong RCalls.input_wrong RCalls.time_wrong RCalls.record_verdict RCalls.run_from RCalls.run_outcome RCalls.run_call RFormat.length_wrong RFormat.weighed RFormat.check_of RFormat.sum_wrong RFormat.number_wrong RFormat.field_wrong RFormat.type_field_wrong RFormat.node_wrong RFormat.is_zero RFormat.may_end RFormat.after_end RFormat.record_wrong RKinds.row RKinds.is_signal RKinds.is_expression RKinds.is_branch RKinds.is_case RKinds.is_kind RKinds.fields_of RLayout.blocks RLayout.block_at RLayout.number_in RLayout.count_in RLayout.edition_in RLayout.edition RLayout.check_in RLayout.checks_below RLayout.checks_of RLayout.records RLayout.record_at RLayout.kind_at RLayout.type_at RLayout.a_at RLayout.b_at RLayout.c_at RLayout.word_at RLayout.place_or RLayout.nodes RLayout.has_cell RLayout.cells_before RLayout.cells RLayout.start_header RLayout.cell_at RLayout.state_length RLayout.last_time RLayout.sum_in RLayout.set_time RLayout.cell RLayout.set_cell RLayout.held RLayout.hold RLayout.is_clear RLayout.clear RLayout.branch_in RLayout.hold_branch RLayout.input_at RLayout.time_in RLayout.word_on RLayout.flag_on RLayout.event_on RLayout.channel_type RLayout.channel_value ROperations.truth ROperations.is_true ROperations.operand_type ROperations.result_type ROperations.number_of ROperations.truth_of ROperations.meaning RPlaces.sooner RPlaces.wrong_if RPlaces.wrong_unless RReady.needs_e RReady.needs_s RReady.ready_s RReady.ready_fault RScope.mark RScope.is_marked RScope.unmarked RScope.has_branch RScope.is_offered RScope.onward RScope.scope_e RScope.scope_s RScope.scope_fault RShape.is_child RShape.may_be RShape.may_stop RShape.child_wrong RShape.children_wrong RShape.names RShape.names_in RShape.named_below RShape.named RShape.shape_wrong RTree.value_at RTree.expr_as RTree.below RTree.no_expr RTree.expr_f RTree.expr_at RTree.signal_as RTree.branches_as RTree.cases_as RTree.no_signal RTree.signal_f RTree.signal_at RTree.branches_at RTree.cases_at RTree.root RTyping.just_type RTyping.type_e RTyping.type_s RTyping.types_e RTyping.bodies_have RTyping.types_s RTyping.type_fault RValues.maybe_of RValues.is_plain RValues.is_maybe RValues.is_type RValues.type_of RValues.value_from RValues.value_fits RValues.packed RValues.value_bytes RValues.type_in RValues.present_in RValues.middle_in RValues.word_in RValues.unpacked WOrder.order_e WOrder.order_s WParts.size_p WParts.last_p WParts.field_k WParts.row_p WParts.rows_p WTable.row_bytes WTable.rows_bytes WTable.block_of WTable.blocks_from WTable.blocks_for WTable.table_of WWritten.present_of WWritten.word_of WWritten.place_in WWritten.part_e WWritten.part_s WWritten.new_number WWritten.written WWritten.placed_e WWritten.placed_s WWritten.renamed TCalls.unread_answer TCalls.read_checked TCalls.read_fitted TCalls.read_outcome TCalls.read_call TCalls.print_fitted TCalls.print_outcome TCalls.print_call TNumbering.renumbered TNumerals.are_digits TNumerals.is_natural TNumerals.minus_sign TNumerals.is_negative TNumerals.magnitude_of TNumerals.is_number TNumerals.read_on TNumerals.size_of TNumerals.in_range TNumerals.word_of TNumerals.digits_f TNumerals.decimal TNumerals.signed_decimal TPrinter.tight TPrinter.spaced TPrinter.lined TPrinter.variable_name TPrinter.branch_name TPrinter.plain_word TPrinter.value_pieces TPrinter.label_pieces TPrinter.type_pieces TPrinter.field_pieces TPrinter.behind_pieces TPrinter.opening TPrinter.form_pieces TPrinter.pieces_as TPrinter.pieces_f TPrinter.pieces TPrinter.laid TPrinter.printed TPrinter.print_text TReader.branch_names TReader.begins TReader.ends TReader.labelled TReader.binding TReader.typed TReader.heading TReader.plainly TReader.field TReader.following TReader.behind TReader.form TReader.constant_row TReader.variable_row TReader.bare TReader.wordly TReader.node_f TReader.title TReader.ended TReader.reading TReader.read_text TReader.places_in TReader.node_place TResolved.number_of TResolved.binder_of TResolved.branch_of TResolved.record_of TResolved.table_from TResolved.blocks_of TRows.at_start TRows.◌onward◌ TSpelled.spelled TSpelled.same TSpelled.is_among TSpelling.edition_word TSpelling.edition_named TSpelling.kind_word TSpelling.kind_named TSpelling.type_word TSpelling.type_named TSpelling.is_kept TSpelling.is_digit TSpelling.is_letter TSpelling.are_name_bytes TSpelling.is_name TSteps.next TSteps.position TSteps.given TSteps.expect TSteps.name TSteps.is_bound TSteps.fresh TSteps.variable TSteps.label TSteps.target TSteps.type TSteps.channel TSteps.plain TSteps.is_plain_value TSteps.plain_value TSteps.maybe_value TSteps.value TTokens.ends_line TTokens.is_white TTokens.is_comment TTokens.is_mark TTokens.is_part TTokens.are_parts TTokens.is_plain_word TTokens.token TTokens.between TTokens.tokens TTokens.from TTokens.part
damaged = refl

-- 24, exactly if the room is too short; before 01's codes (the second text is not ready).
short : read_numbers (read_call text_a (replicate 511 7)).answer ∷ read_numbers (read_call (spelled "edition-one (let x int (ext x) (ext x))") (replicate 511 7)).answer ∷ printed_numbers (print_call (counting 0) (replicate (length text_a) 7)).answer ∷ printed_numbers (print_call selfish (replicate 3 7)).answer ∷ printed_numbers (print_call switching (replicate 3 7)).answer ∷ []
    ≡ (24 ∷ 0 ∷ 0 ∷ []) ∷ (24 ∷ 0 ∷ 0 ∷ []) ∷ (0 ∷ length text_a ∷ []) ∷ (8 ∷ 4 ∷ 0 ∷ []) ∷ (24 ∷ 0 ∷ 0 ∷ []) ∷ []
unfolding RBytes.◌and◌ RBytes.◌or◌ RBytes.byte_at RBytes.u16_at RBytes.u32_at RBytes.u64_at RBytes.bytes_of RBytes.write_at RBytes.first_from RBytes.first RBytes.how_many RCalls.◌otherwise◌ RCalls.refuse_if RCalls.refuse_at RCalls.program_verdict RCalls.check_answer RCalls.check_call RCalls.start_outcome RCalls.start_call RCalls.state_verdict RCalls.lent_verdict RCalls.absent_wrong RCalls.input_wrong RCalls.time_wrong RCalls.record_verdict RCalls.run_from RCalls.run_outcome RCalls.run_call RFormat.length_wrong RFormat.weighed RFormat.check_of RFormat.sum_wrong RFormat.number_wrong RFormat.field_wrong RFormat.type_field_wrong RFormat.node_wrong RFormat.is_zero RFormat.may_end RFormat.after_end RFormat.record_wrong RKinds.row RKinds.is_signal RKinds.is_expression RKinds.is_branch RKinds.is_case RKinds.is_kind RKinds.fields_of RLayout.blocks RLayout.block_at RLayout.number_in RLayout.count_in RLayout.edition_in RLayout.edition RLayout.check_in RLayout.checks_below RLayout.checks_of RLayout.records RLayout.record_at RLayout.kind_at RLayout.type_at RLayout.a_at RLayout.b_at RLayout.c_at RLayout.word_at RLayout.place_or RLayout.nodes RLayout.has_cell RLayout.cells_before RLayout.cells RLayout.start_header RLayout.cell_at RLayout.state_length RLayout.last_time RLayout.sum_in RLayout.set_time RLayout.cell RLayout.set_cell RLayout.held RLayout.hold RLayout.is_clear RLayout.clear RLayout.branch_in RLayout.hold_branch RLayout.input_at RLayout.time_in RLayout.word_on RLayout.flag_on RLayout.event_on RLayout.channel_type RLayout.channel_value ROperations.truth ROperations.is_true ROperations.operand_type ROperations.result_type ROperations.number_of ROperations.truth_of ROperations.meaning RPlaces.sooner RPlaces.wrong_if RPlaces.wrong_unless RReady.needs_e RReady.needs_s RReady.ready_s RReady.ready_fault RScope.mark RScope.is_marked RScope.unmarked RScope.has_branch RScope.is_offered RScope.onward RScope.scope_e RScope.scope_s RScope.scope_fault RShape.is_child RShape.may_be RShape.may_stop RShape.child_wrong RShape.children_wrong RShape.names RShape.names_in RShape.named_below RShape.named RShape.shape_wrong RTree.value_at RTree.expr_as RTree.below RTree.no_expr RTree.expr_f RTree.expr_at RTree.signal_as RTree.branches_as RTree.cases_as RTree.no_signal RTree.signal_f RTree.signal_at RTree.branches_at RTree.cases_at RTree.root RTyping.just_type RTyping.type_e RTyping.type_s RTyping.types_e RTyping.bodies_have RTyping.types_s RTyping.type_fault RValues.maybe_of RValues.is_plain RValues.is_maybe RValues.is_type RValues.type_of RValues.value_from RValues.value_fits RValues.packed RValues.value_bytes RValues.type_in RValues.present_in RValues.middle_in RValues.word_in RValues.unpacked WOrder.order_e WOrder.order_s WParts.size_p WParts.last_p WParts.field_k WParts.row_p WParts.rows_p WTable.row_bytes WTable.rows_bytes WTable.block_of WTable.blocks_from WTable.blocks_for WTable.table_of WWritten.present_of WWritten.word_of WWritten.place_in WWritten.part_e WWritten.part_s WWritten.new_number WWritten.written WWritten.placed_e WWritten.placed_s WWritten.renamed TCalls.unread_answer TCalls.read_checked TCalls.read_fitted TCalls.read_outcome TCalls.read_call TCalls.print_fitted TCalls.print_outcome TCalls.print_call TNumbering.renumbered TNumerals.are_digits TNumerals.is_natural TNumerals.minus_sign TNumerals.is_negative TNumerals.magnitude_of TNumerals.is_number TNumerals.read_on TNumerals.size_of TNumerals.in_range TNumerals.word_of TNumerals.digits_f TNumerals.decimal TNumerals.signed_decimal TPrinter.tight TPrinter.spaced TPrinter.lined TPrinter.variable_name TPrinter.branch_name TPrinter.plain_word TPrinter.value_pieces TPrinter.label_pieces TPrinter.type_pieces TPrinter.field_pieces TPrinter.behind_pieces TPrinter.opening TPrinter.form_pieces TPrinter.pieces_as TPrinter.pieces_f TPrinter.pieces TPrinter.laid TPrinter.printed TPrinter.print_text TReader.branch_names TReader.begins TReader.ends TReader.labelled TReader.binding TReader.typed TReader.heading TReader.plainly TReader.field TReader.following TReader.behind TReader.form TReader.constant_row TReader.variable_row TReader.bare TReader.wordly TReader.node_f TReader.title TReader.ended TReader.reading TReader.read_text TReader.places_in TReader.node_place TResolved.number_of TResolved.binder_of TResolved.branch_of TResolved.record_of TResolved.table_from TResolved.blocks_of TRows.at_start TRows.◌onward◌ TSpelled.spelled TSpelled.same TSpelled.is_among TSpelling.edition_word TSpelling.edition_named TSpelling.kind_word TSpelling.kind_named TSpelling.type_word TSpelling.type_named TSpelling.is_kept TSpelling.is_digit TSpelling.is_letter TSpelling.are_name_bytes TSpelling.is_name TSteps.next TSteps.position TSteps.given TSteps.expect TSteps.name TSteps.is_bound TSteps.fresh TSteps.variable TSteps.label TSteps.target TSteps.type TSteps.channel TSteps.plain TSteps.is_plain_value TSteps.plain_value TSteps.maybe_value TSteps.value TTokens.ends_line TTokens.is_white TTokens.is_comment TTokens.is_mark TTokens.is_part TTokens.are_parts TTokens.is_plain_word TTokens.token TTokens.between TTokens.tokens TTokens.from TTokens.part
short = refl
