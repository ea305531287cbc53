-- The rows hold, by computation.
-- Assumes nothing.
use mathlib.Core.Path.{◌≡◌, refl}
use Rattle.rules.specs.Bytes.{◌and◌, ◌or◌, byte_at, u16_at, u32_at, u64_at, bytes_of, write_at, first_from, first, how_many}
use Rattle.rules.specs.Format.{weighed, check_of}
use Rattle.rules.specs.Values.{maybe_of, is_plain, is_maybe, is_type, type_of, value_from, value_fits, packed, value_bytes, type_in, present_in, middle_in, word_in, unpacked}
use Rattle.rules.specs.Layout.{blocks, block_at, records, record_at, kind_at, type_at, a_at, b_at, c_at, word_at, place_or, nodes, has_cell, cells_before, check_in, checks_below, checks_of, cells, cell_at, state_length, last_time, set_time, cell, set_cell, hold, is_clear, clear}
use Rattle.rules.specs.Tree.{value_at, expr_as, below, no_expr, expr_f, expr_at, signal_as, branches_as, cases_as, no_signal, signal_f, signal_at, branches_at, cases_at, root}
use Rattle.rules.specs.Reset.{reset_s}
use Rattle.rules.specs.WellFormed.{content_fits}
use Rattle.mends.specs.Mend.{names_branch, mend_s, time_fits, mend_time, mended}
use Rattle.mends.specs.Changes.{changed_from, changed_time, changed_below, changes}
use Rattle.mends.specs.Rows.{rows, brought}

pub rows_hold : brought rows ≡ rows
unfolding ◌and◌ ◌or◌ byte_at u16_at u32_at u64_at bytes_of write_at first_from first how_many weighed check_of maybe_of is_plain is_maybe is_type type_of value_from value_fits packed value_bytes type_in present_in middle_in word_in unpacked blocks block_at records record_at kind_at type_at a_at b_at c_at word_at place_or nodes has_cell cells_before check_in checks_below checks_of cells cell_at state_length last_time set_time cell set_cell hold is_clear clear value_at expr_as below no_expr expr_f expr_at signal_as branches_as cases_as no_signal signal_f signal_at branches_at cases_at root reset_s content_fits names_branch mend_s time_fits mend_time mended changed_from changed_time changed_below changes
rows_hold = refl
