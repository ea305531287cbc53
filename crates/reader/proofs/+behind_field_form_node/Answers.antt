use mathlib.Core.Path.{refl, sym, ap, ◌∙◌}
use lib.ListN.{length}
use native.Mathlib.Omega.{arith}
use borrow.Author.Tests.{ltb-true, not-true, not-false}
use Rattle.reader.proofs.SofarLaws.{note_same}
use Rattle.reader.proofs.GrewLaws.{level_node, level_part, grew_same, grew_on, grew_heading, room_kept, room_row, same_still, tables_one}
use Rattle.reader.proofs.FlowLaws.{held_a, held_b, field_as, behind_as}
use Rattle.reader.proofs.CycleLaws.{heading_stop, heading_on, a_stop, a_on, b_stop, b_on, c_stop, c_on, close_stop, close_on, next_stop, next_on, form_ends}
use Rattle.reader.proofs.NodeLaws.{field_inside, step_held, grew_step, grew_stop, stop_as, next_none, next_ends, next_node, no_level, begun_none, below_kinds}
use Rattle.reader.proofs.BeginLaws.{none_begun, enter_room, form_entered, node_form, node_done, put_room}
use Rattle.reader.proofs.+behind_field_form_node.Goals as goal

pub behind-is_behind-requires : goal.behind-is_behind-requires
behind-is_behind-requires t c = tt

pub behind-returns-then-not-is_behind : goal.behind-returns-then-not-is_behind
behind-returns-then-not-is_behind t c = (next_none _ _ _ _ _ (sym c.is_behind.ensures ∙ not-true _ c.if-not-is_behind.true-raw), grew_same _ _ _ c.requires.ready (same_still _))

pub behind-bounds-rows-2 : goal.behind-bounds-rows-2
behind-bounds-rows-2 t c = ltb-true 2 13118 refl

pub behind-ends_list-requires : goal.behind-ends_list-requires
behind-ends_list-requires t c = tt

pub behind-bounds-rows-3 : goal.behind-bounds-rows-3
behind-bounds-rows-3 t c = ltb-true 3 13118 refl

pub behind-returns-then-ends_list : goal.behind-returns-then-ends_list
behind-returns-then-ends_list t c = (next_ends _ _ _ _ _ c.requires.ready (sym c.is_behind.ensures ∙ not-false _ c.if-not-is_behind.false-raw) (sym c.ends_list.ensures ∙ c.if-ends_list.true), grew_same _ _ _ c.requires.ready (note_same _ 3 65535 (ltb-true 1 3 refl) (ltb-true 3 14 refl)))

pub behind-node-requires : goal.behind-node-requires
behind-node-requires t c = (level_node c.args.level c.decreases, (c.requires.known, c.requires.ready))

pub behind-returns : goal.behind-returns
behind-returns t c = (next_node _ _ _ _ _ c.requires.ready _ _ _ (sym c.is_behind.ensures ∙ not-false _ c.if-not-is_behind.false-raw) (sym c.ends_list.ensures ∙ c.if-ends_list.false) c.node.ensures.0, c.node.ensures.1)

pub field-is_inside-requires : goal.field-is_inside-requires
field-is_inside-requires t c = tt

pub field-node-requires : goal.field-node-requires
field-node-requires t c = (level_node c.args.level c.decreases, (c.requires.known, c.requires.ready))

pub field-returns-then-is_inside : goal.field-returns-then-is_inside
field-returns-then-is_inside t c = (field_inside _ _ _ _ _ _ _ _ _ _ _ (sym c.is_inside.ensures ∙ c.if-is_inside.true) c.node.ensures.0, c.node.ensures.1)

pub field-bounds-rows-12 : goal.field-bounds-rows-12
field-bounds-rows-12 t c = ltb-true 12 13118 refl

pub field-bounds-rows-2 : goal.field-bounds-rows-2
field-bounds-rows-2 t c = ltb-true 2 13118 refl

pub field-simple-s-requires : goal.field-simple-s-requires
field-simple-s-requires t c = record { known = c.requires.known; f_value = sym c.is_inside.ensures ∙ c.if-is_inside.false }

pub field-put_step-requires : goal.field-put_step-requires
field-put_step-requires t c = c.requires.ready.long

pub field-returns : goal.field-returns
field-returns t c = (step_held _ _ _ _ _ _ _ _ _ _ c.requires.ready.long c.simple-s.ensures c.put_step.ensures.0 c.put_step.ensures.1, grew_step _ _ _ _ c.requires.ready c.put_step.ensures.1)

pub form-bounds-rows-6 : goal.form-bounds-rows-6
form-bounds-rows-6 t c = ltb-true 6 13118 refl

pub form-put_heading-requires : goal.form-put_heading-requires
form-put_heading-requires t c = record { rows_len = c.requires.ready.long; k_bound = c.requires.k_bound; tables = tables_one _ _ c.requires.ready c.requires.rows_bound.1 c.requires.rows_bound.2 }

pub form-returns-then-put_heading-eq0 : goal.form-returns-then-put_heading-eq0
form-returns-then-put_heading-eq0 t c = heading_stop _ _ _ _ _ _ _ _ _ _ (grew_heading _ _ _ _ c.requires.ready c.requires.rows_bound.1 c.requires.rows_bound.2 c.put_heading.ensures.1 c.put_heading.ensures.2 c.put_heading.ensures.3 c.put_heading.ensures.4) c.put_heading.ensures.0 c.if-put_heading-eq0.true

pub form-bounds-rows-7 : goal.form-bounds-rows-7
form-bounds-rows-7 t c = ltb-true 7 13118 refl

pub form-bounds-rows-8 : goal.form-bounds-rows-8
form-bounds-rows-8 t c = ltb-true 8 13118 refl

pub form-bounds-rows-9 : goal.form-bounds-rows-9
form-bounds-rows-9 t c = ltb-true 9 13118 refl

pub form-bounds-rows-10 : goal.form-bounds-rows-10
form-bounds-rows-10 t c = ltb-true 10 13118 refl

pub form-bounds-rows-11 : goal.form-bounds-rows-11
form-bounds-rows-11 t c = ltb-true 11 13118 refl

pub form-bounds-rows-12 : goal.form-bounds-rows-12
form-bounds-rows-12 t c = ltb-true 12 13118 refl

pub form-bounds-rows-13 : goal.form-bounds-rows-13
form-bounds-rows-13 t c = ltb-true 13 13118 refl

pub form-field_a-requires : goal.form-field_a-requires
form-field_a-requires t c = c.requires.k_bound

pub form-field-requires : goal.form-field-requires
form-field-requires t c = (level_part c.args.level c.decreases, (c.requires.known, (grew_heading _ _ _ _ c.requires.ready c.requires.rows_bound.1 c.requires.rows_bound.2 c.put_heading.ensures.1 c.put_heading.ensures.2 c.put_heading.ensures.3 c.put_heading.ensures.4).ready))

pub form-returns-then-field-eq0 : goal.form-returns-then-field-eq0
form-returns-then-field-eq0 t c = a_stop _ _ _ _ _ _ _ _ _ (heading_on _ _ _ _ _ _ _ _ _ _ (grew_heading _ _ _ _ c.requires.ready c.requires.rows_bound.1 c.requires.rows_bound.2 c.put_heading.ensures.1 c.put_heading.ensures.2 c.put_heading.ensures.3 c.put_heading.ensures.4) c.put_heading.ensures.0 c.if-put_heading-eq0.false c.requires.rows_bound.0) _ _ c.field.ensures.1 _ (field_as _ _ _ _ _ _ _ _ _ _ _ _ c.field_a.ensures c.field.ensures.0) c.if-field-eq0.true

pub form-bounds-rows-3 : goal.form-bounds-rows-3
form-bounds-rows-3 t c = ltb-true 3 13118 refl

pub form-bounds-rows-12-2 : goal.form-bounds-rows-12-2
form-bounds-rows-12-2 t c = ltb-true 12 13118 refl

pub form-field_b-requires : goal.form-field_b-requires
form-field_b-requires t c = c.requires.k_bound

pub form-field-requires-2 : goal.form-field-requires-2
form-field-requires-2 t c = (level_part c.args.level c.decreases, (c.requires.known, (grew_same _ _ _ c.field.ensures.1.ready (note_same _ 12 _ (ltb-true 1 12 refl) (ltb-true 12 14 refl))).ready))

pub form-returns-then-field-eq0-2 : goal.form-returns-then-field-eq0-2
form-returns-then-field-eq0-2 t c = b_stop _ _ _ _ _ _ _ _ _ _ _ (a_on _ _ _ _ _ _ _ _ _ (heading_on _ _ _ _ _ _ _ _ _ _ (grew_heading _ _ _ _ c.requires.ready c.requires.rows_bound.1 c.requires.rows_bound.2 c.put_heading.ensures.1 c.put_heading.ensures.2 c.put_heading.ensures.3 c.put_heading.ensures.4) c.put_heading.ensures.0 c.if-put_heading-eq0.false c.requires.rows_bound.0) _ _ c.field.ensures.1 _ (field_as _ _ _ _ _ _ _ _ _ _ _ _ c.field_a.ensures c.field.ensures.0) c.if-field-eq0.false) _ _ c.field-2.ensures.1 _ (field_as _ _ _ _ _ _ _ _ _ _ _ _ c.field_b.ensures c.field-2.ensures.0) c.if-field-eq0-2.true

pub form-bounds-rows-3-2 : goal.form-bounds-rows-3-2
form-bounds-rows-3-2 t c = ltb-true 3 13118 refl

pub form-field_c-requires : goal.form-field_c-requires
form-field_c-requires t c = c.requires.k_bound

pub form-field-requires-3 : goal.form-field-requires-3
form-field-requires-3 t c = (level_part c.args.level c.decreases, (c.requires.known, c.field-2.ensures.1.ready))

pub form-returns-then-field-eq0-3 : goal.form-returns-then-field-eq0-3
form-returns-then-field-eq0-3 t c = c_stop _ _ _ _ _ _ _ _ _ _ _ _ (b_on _ _ _ _ _ _ _ _ _ _ _ (a_on _ _ _ _ _ _ _ _ _ (heading_on _ _ _ _ _ _ _ _ _ _ (grew_heading _ _ _ _ c.requires.ready c.requires.rows_bound.1 c.requires.rows_bound.2 c.put_heading.ensures.1 c.put_heading.ensures.2 c.put_heading.ensures.3 c.put_heading.ensures.4) c.put_heading.ensures.0 c.if-put_heading-eq0.false c.requires.rows_bound.0) _ _ c.field.ensures.1 _ (field_as _ _ _ _ _ _ _ _ _ _ _ _ c.field_a.ensures c.field.ensures.0) c.if-field-eq0.false) _ _ c.field-2.ensures.1 _ (field_as _ _ _ _ _ _ _ _ _ _ _ _ c.field_b.ensures c.field-2.ensures.0) c.if-field-eq0-2.false) _ _ c.field-3.ensures.1 _ (field_as _ _ _ _ _ _ _ _ _ _ _ _ c.field_c.ensures c.field-3.ensures.0) c.if-field-eq0-3.true

pub form-bounds-rows-3-3 : goal.form-bounds-rows-3-3
form-bounds-rows-3-3 t c = ltb-true 3 13118 refl

pub form-bounds-rows-2 : goal.form-bounds-rows-2
form-bounds-rows-2 t c = ltb-true 2 13118 refl

pub form-put_close-requires : goal.form-put_close-requires
form-put_close-requires t c = c.field-3.ensures.1.ready.long

pub form-returns-then-put_close-eq0 : goal.form-returns-then-put_close-eq0
form-returns-then-put_close-eq0 t c = close_stop _ _ _ _ _ _ _ _ _ _ _ _ _ (c_on _ _ _ _ _ _ _ _ _ _ _ _ (b_on _ _ _ _ _ _ _ _ _ _ _ (a_on _ _ _ _ _ _ _ _ _ (heading_on _ _ _ _ _ _ _ _ _ _ (grew_heading _ _ _ _ c.requires.ready c.requires.rows_bound.1 c.requires.rows_bound.2 c.put_heading.ensures.1 c.put_heading.ensures.2 c.put_heading.ensures.3 c.put_heading.ensures.4) c.put_heading.ensures.0 c.if-put_heading-eq0.false c.requires.rows_bound.0) _ _ c.field.ensures.1 _ (field_as _ _ _ _ _ _ _ _ _ _ _ _ c.field_a.ensures c.field.ensures.0) c.if-field-eq0.false) _ _ c.field-2.ensures.1 _ (field_as _ _ _ _ _ _ _ _ _ _ _ _ c.field_b.ensures c.field-2.ensures.0) c.if-field-eq0-2.false) _ _ c.field-3.ensures.1 _ (field_as _ _ _ _ _ _ _ _ _ _ _ _ c.field_c.ensures c.field-3.ensures.0) c.if-field-eq0-3.false) _ c.put_close.ensures.1 _ c.put_close.ensures.0 c.if-put_close-eq0.true

pub form-bounds-rows-3-4 : goal.form-bounds-rows-3-4
form-bounds-rows-3-4 t c = ltb-true 3 13118 refl

pub form-field_b-requires-2 : goal.form-field_b-requires-2
form-field_b-requires-2 t c = c.requires.k_bound

pub form-behind-requires : goal.form-behind-requires
form-behind-requires t c = (level_part c.args.level c.decreases, (c.requires.known, (grew_same _ _ _ (grew_same _ _ _ c.field-3.ensures.1.ready c.put_close.ensures.1).ready (note_same _ 3 _ (ltb-true 1 3 refl) (ltb-true 3 14 refl))).ready))

pub form-returns-then-behind-eq0 : goal.form-returns-then-behind-eq0
form-returns-then-behind-eq0 t c = next_stop _ _ _ _ _ _ _ _ _ _ _ _ _ (close_on _ _ _ _ _ _ _ _ _ _ _ _ _ (c_on _ _ _ _ _ _ _ _ _ _ _ _ (b_on _ _ _ _ _ _ _ _ _ _ _ (a_on _ _ _ _ _ _ _ _ _ (heading_on _ _ _ _ _ _ _ _ _ _ (grew_heading _ _ _ _ c.requires.ready c.requires.rows_bound.1 c.requires.rows_bound.2 c.put_heading.ensures.1 c.put_heading.ensures.2 c.put_heading.ensures.3 c.put_heading.ensures.4) c.put_heading.ensures.0 c.if-put_heading-eq0.false c.requires.rows_bound.0) _ _ c.field.ensures.1 _ (field_as _ _ _ _ _ _ _ _ _ _ _ _ c.field_a.ensures c.field.ensures.0) c.if-field-eq0.false) _ _ c.field-2.ensures.1 _ (field_as _ _ _ _ _ _ _ _ _ _ _ _ c.field_b.ensures c.field-2.ensures.0) c.if-field-eq0-2.false) _ _ c.field-3.ensures.1 _ (field_as _ _ _ _ _ _ _ _ _ _ _ _ c.field_c.ensures c.field-3.ensures.0) c.if-field-eq0-3.false) _ c.put_close.ensures.1 _ c.put_close.ensures.0 c.if-put_close-eq0.false) _ (held_b _ _ _ _) _ _ c.behind.ensures.1 _ (behind_as _ _ _ _ _ _ _ c.field_b-2.ensures c.behind.ensures.0) c.if-behind-eq0.true

pub form-bounds-rows-3-5 : goal.form-bounds-rows-3-5
form-bounds-rows-3-5 t c = ltb-true 3 13118 refl

pub form-put_names-requires : goal.form-put_names-requires
form-put_names-requires t c = room_row _ _ c.behind.ensures.1.ready (room_kept _ _ _ _ c.requires.rows_bound.0 (grew_on _ _ _ _ _ _ (grew_on _ _ _ _ _ _ (grew_on _ _ _ _ _ _ (grew_on _ _ _ _ _ _ (grew_on _ _ _ _ _ _ (grew_heading _ _ _ _ c.requires.ready c.requires.rows_bound.1 c.requires.rows_bound.2 c.put_heading.ensures.1 c.put_heading.ensures.2 c.put_heading.ensures.3 c.put_heading.ensures.4) c.field.ensures.1) (grew_on _ _ _ _ _ _ (grew_same _ _ _ c.field.ensures.1.ready (note_same _ 12 _ (ltb-true 1 12 refl) (ltb-true 12 14 refl))) c.field-2.ensures.1)) c.field-3.ensures.1) (grew_same _ _ _ c.field-3.ensures.1.ready c.put_close.ensures.1)) (grew_on _ _ _ _ _ _ (grew_same _ _ _ (grew_same _ _ _ c.field-3.ensures.1.ready c.put_close.ensures.1).ready (note_same _ 3 _ (ltb-true 1 3 refl) (ltb-true 3 14 refl))) c.behind.ensures.1)))

pub form-put_rest-requires : goal.form-put_rest-requires
form-put_rest-requires t c = put_room _ _ _ _ _ _ c.put_names.ensures (room_row _ _ c.behind.ensures.1.ready (room_kept _ _ _ _ c.requires.rows_bound.0 (grew_on _ _ _ _ _ _ (grew_on _ _ _ _ _ _ (grew_on _ _ _ _ _ _ (grew_on _ _ _ _ _ _ (grew_on _ _ _ _ _ _ (grew_heading _ _ _ _ c.requires.ready c.requires.rows_bound.1 c.requires.rows_bound.2 c.put_heading.ensures.1 c.put_heading.ensures.2 c.put_heading.ensures.3 c.put_heading.ensures.4) c.field.ensures.1) (grew_on _ _ _ _ _ _ (grew_same _ _ _ c.field.ensures.1.ready (note_same _ 12 _ (ltb-true 1 12 refl) (ltb-true 12 14 refl))) c.field-2.ensures.1)) c.field-3.ensures.1) (grew_same _ _ _ c.field-3.ensures.1.ready c.put_close.ensures.1)) (grew_on _ _ _ _ _ _ (grew_same _ _ _ (grew_same _ _ _ c.field-3.ensures.1.ready c.put_close.ensures.1).ready (note_same _ 3 _ (ltb-true 1 3 refl) (ltb-true 3 14 refl))) c.behind.ensures.1))))

pub form-returns : goal.form-returns
form-returns t c = form_ends _ _ _ _ _ _ _ _ _ _ _ _ _ _ _ (next_on _ _ _ _ _ _ _ _ _ _ _ _ _ (close_on _ _ _ _ _ _ _ _ _ _ _ _ _ (c_on _ _ _ _ _ _ _ _ _ _ _ _ (b_on _ _ _ _ _ _ _ _ _ _ _ (a_on _ _ _ _ _ _ _ _ _ (heading_on _ _ _ _ _ _ _ _ _ _ (grew_heading _ _ _ _ c.requires.ready c.requires.rows_bound.1 c.requires.rows_bound.2 c.put_heading.ensures.1 c.put_heading.ensures.2 c.put_heading.ensures.3 c.put_heading.ensures.4) c.put_heading.ensures.0 c.if-put_heading-eq0.false c.requires.rows_bound.0) _ _ c.field.ensures.1 _ (field_as _ _ _ _ _ _ _ _ _ _ _ _ c.field_a.ensures c.field.ensures.0) c.if-field-eq0.false) _ _ c.field-2.ensures.1 _ (field_as _ _ _ _ _ _ _ _ _ _ _ _ c.field_b.ensures c.field-2.ensures.0) c.if-field-eq0-2.false) _ _ c.field-3.ensures.1 _ (field_as _ _ _ _ _ _ _ _ _ _ _ _ c.field_c.ensures c.field-3.ensures.0) c.if-field-eq0-3.false) _ c.put_close.ensures.1 _ c.put_close.ensures.0 c.if-put_close-eq0.false) _ (held_b _ _ _ _) _ _ c.behind.ensures.1 _ (behind_as _ _ _ _ _ _ _ c.field_b-2.ensures c.behind.ensures.0) c.if-behind-eq0.false) (held_a _ _ _ _) refl c.requires.k_bound (c.put_heading.ensures.5 (omega (arith, c.if-put_heading-eq0.false))).0 (c.put_heading.ensures.5 (omega (arith, c.if-put_heading-eq0.false))).1 _ _ _ c.put_rest.ensures.0 c.put_names.ensures c.put_rest.ensures.1

pub node-bounds-rows-2 : goal.node-bounds-rows-2
node-bounds-rows-2 t c = ltb-true 2 13118 refl

pub node-position-p-requires : goal.node-position-p-requires
node-position-p-requires t c = tt

pub node-put_stop-requires : goal.node-put_stop-requires
node-put_stop-requires t c = c.requires.ready.long

pub node-returns-then-level-eq0 : goal.node-returns-then-level-eq0
node-returns-then-level-eq0 t c = (stop_as _ _ _ _ _ _ _ c.put_stop.ensures.0 c.put_stop.ensures.1 (no_level _ _ _ _ _ _ _ c.requires.ready.long c.if-level-eq0.true c.position-p.ensures), grew_stop _ _ _ _ c.requires.ready c.put_stop.ensures.1)

pub node-begin-requires : goal.node-begin-requires
node-begin-requires t c = c.requires.ready.long

pub node-bounds-rows-2-then-not-begin : goal.node-bounds-rows-2-then-not-begin
node-bounds-rows-2-then-not-begin t c = ltb-true 2 13118 refl

pub node-position-p-requires-then-not-begin : goal.node-position-p-requires-then-not-begin
node-position-p-requires-then-not-begin t c = tt

pub node-put_stop-requires-then-not-begin : goal.node-put_stop-requires-then-not-begin
node-put_stop-requires-then-not-begin t c = ap length (begun_none _ _ (sym c.begin.ensures.0 ∙ not-true _ c.if-not-begin.true-raw) c.begin.ensures.1) ∙ c.requires.ready.long

pub node-returns-then-not-begin : goal.node-returns-then-not-begin
node-returns-then-not-begin t c = none_begun _ _ _ _ _ _ _ _ _ _ c.requires.ready c.if-level-eq0.false (sym c.begin.ensures.0 ∙ not-true _ c.if-not-begin.true-raw) c.begin.ensures.1 c.position-p-then-not-begin.ensures c.put_stop-then-not-begin.ensures.0 c.put_stop-then-not-begin.ensures.1

pub node-enter-requires : goal.node-enter-requires
node-enter-requires t c = record { rows_len = (enter_room _ _ _ c.requires.ready (ltb-true _ _ (sym c.begin.ensures.0 ∙ not-false _ c.if-not-begin.false-raw)) c.begin.ensures.1).0; names_bound = (enter_room _ _ _ c.requires.ready (ltb-true _ _ (sym c.begin.ensures.0 ∙ not-false _ c.if-not-begin.false-raw)) c.begin.ensures.1).1 }

pub node-enum_known-k : goal.node-enum_known-k
node-enum_known-k t c = c.in-Form.in-Form-own.keys1

pub node-overflow_sub-level : goal.node-overflow_sub-level
node-overflow_sub-level t c = omega (arith, c.if-level-eq0.false)

pub node-form-requires : goal.node-form-requires
node-form-requires t c = (omega (arith, c.decreases, c.if-level-eq0.false), (c.requires.known, form_entered _ _ _ _ c.requires.ready (ltb-true _ _ (sym c.begin.ensures.0 ∙ not-false _ c.if-not-begin.false-raw)) c.begin.ensures.1 c.enter.ensures.1 _ (below_kinds _ _ _ _ c.in-Form.is c.enter.ensures.2)))

pub node-enum_known-b : goal.node-enum_known-b
node-enum_known-b t c = c.in-Done.in-Done-own.keys2

pub node-returns-in-Form : goal.node-returns-in-Form
node-returns-in-Form t c = node_form _ _ _ _ _ _ _ _ _ c.requires.ready (ltb-true _ _ (sym c.begin.ensures.0 ∙ not-false _ c.if-not-begin.false-raw)) c.if-level-eq0.false c.begin.ensures.1 c.enter.ensures.0 c.enter.ensures.1 _ c.in-Form.is (below_kinds _ _ _ _ c.in-Form.is c.enter.ensures.2).1 _ _ _ c.form.ensures

pub node-returns-in-Done : goal.node-returns-in-Done
node-returns-in-Done t c = node_done _ _ _ _ _ _ _ _ _ c.requires.ready (ltb-true _ _ (sym c.begin.ensures.0 ∙ not-false _ c.if-not-begin.false-raw)) c.if-level-eq0.false c.begin.ensures.1 c.enter.ensures.0 c.enter.ensures.1 _ c.in-Done.is
