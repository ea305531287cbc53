-- Small examples of requests b and m hold, by computation.
-- Assumes nothing.
use mathlib.Core.Path.{◌≡◌, refl}
use mathlib.Core.List.{List, [], ◌∷◌}
use Prim.Native.Nat.{ℕ}
use Rattle.rules.specs.Bytes.{Bytes, ◌and◌, ◌or◌, byte_at, u16_at, u32_at, u64_at, bytes_of, first_from, first, how_many}
use Rattle.rules.specs.Format.{weighed, check_of}
use Rattle.rules.specs.Kinds.{row, fields_of}
use Rattle.rules.specs.Layout.{blocks, block_at, records, record_at, kind_at, type_at, a_at, b_at, c_at, word_at, place_or, nodes, has_cell, cells_before, edition_in, edition}
use Rattle.rules.specs.Samples.{program, ext, let_signal, constant, variable}
use Rattle.rules.specs.Tree.{value_at, expr_as, below, no_expr, expr_f, expr_at, signal_as, branches_as, cases_as, no_signal, signal_f, signal_at, branches_at, cases_at, root}
use Rattle.rules.specs.Values.{maybe_of, is_plain, type_of, value_from}
use Rattle.dropped.specs.Uses.{uses_e, uses_s}
use Rattle.dropped.specs.Tidy.{let_over, tidy_s}
use Rattle.dropped.specs.Rows.{unused, case_a, chain, five, itself, regrouped, regrouped_tidy}
use Rattle.written.specs.Parts.{size_p, last_p, field_k, row_p, rows_p}
use Rattle.written.specs.Table.{row_bytes, rows_bytes, block_of, blocks_from, blocks_for, table_of}
use Rattle.written.specs.Order.{order_e, order_s}
use Rattle.written.specs.Written.{present_of, word_of, place_in, part_e, part_s, new_number, written}
use Rattle.rewritten.specs.Rewritten.{renumbered, tidied, numbering, tidying}

-- let x = ext 1 in ext x, the definition after the body; and children first in field order.
abbrev swapped : Bytes
swapped = program (variable 4 ∷ ext 0 ∷ constant 1 ∷ ext 2 ∷ let_signal 3 1 ∷ [])

abbrev ordered : Bytes
ordered = program (constant 1 ∷ ext 0 ∷ variable 4 ∷ ext 2 ∷ let_signal 1 3 ∷ [])

pub swapped_renumbered : renumbered swapped ≡ ordered
unfolding ◌and◌ ◌or◌ byte_at u16_at u32_at u64_at bytes_of first_from first how_many weighed check_of row fields_of blocks block_at records record_at kind_at type_at a_at b_at c_at word_at place_or nodes has_cell cells_before value_at expr_as below no_expr expr_f expr_at signal_as branches_as cases_as no_signal signal_f signal_at branches_at cases_at root maybe_of is_plain type_of value_from uses_e uses_s let_over tidy_s size_p last_p field_k row_p rows_p row_bytes rows_bytes block_of blocks_from blocks_for table_of order_e order_s present_of word_of place_in part_e part_s new_number written edition_in edition renumbered tidied numbering tidying
swapped_renumbered = refl

pub swapped_numbering : numbering swapped ≡ 2 ∷ 3 ∷ 0 ∷ 1 ∷ 4 ∷ []
unfolding ◌and◌ ◌or◌ byte_at u16_at u32_at u64_at bytes_of first_from first how_many weighed check_of row fields_of blocks block_at records record_at kind_at type_at a_at b_at c_at word_at place_or nodes has_cell cells_before value_at expr_as below no_expr expr_f expr_at signal_as branches_as cases_as no_signal signal_f signal_at branches_at cases_at root maybe_of is_plain type_of value_from uses_e uses_s let_over tidy_s size_p last_p field_k row_p rows_p row_bytes rows_bytes block_of blocks_from blocks_for table_of order_e order_s present_of word_of place_in part_e part_s new_number written edition_in edition renumbered tidied numbering tidying
swapped_numbering = refl

pub case_a_stays : renumbered case_a ≡ case_a
unfolding ◌and◌ ◌or◌ byte_at u16_at u32_at u64_at bytes_of first_from first how_many weighed check_of row fields_of blocks block_at records record_at kind_at type_at a_at b_at c_at word_at place_or nodes has_cell cells_before value_at expr_as below no_expr expr_f expr_at signal_as branches_as cases_as no_signal signal_f signal_at branches_at cases_at root maybe_of is_plain type_of value_from uses_e uses_s let_over tidy_s size_p last_p field_k row_p rows_p row_bytes rows_bytes block_of blocks_from blocks_for table_of order_e order_s present_of word_of place_in part_e part_s new_number written edition_in edition renumbered tidied numbering tidying
case_a_stays = refl

pub unused_tidied : tidied unused ≡ case_a
unfolding ◌and◌ ◌or◌ byte_at u16_at u32_at u64_at bytes_of first_from first how_many weighed check_of row fields_of blocks block_at records record_at kind_at type_at a_at b_at c_at word_at place_or nodes has_cell cells_before value_at expr_as below no_expr expr_f expr_at signal_as branches_as cases_as no_signal signal_f signal_at branches_at cases_at root maybe_of is_plain type_of value_from uses_e uses_s let_over tidy_s size_p last_p field_k row_p rows_p row_bytes rows_bytes block_of blocks_from blocks_for table_of order_e order_s present_of word_of place_in part_e part_s new_number written edition_in edition renumbered tidied numbering tidying
unused_tidied = refl

pub unused_tidying : tidying unused ≡ 2 ∷ 3 ∷ 4 ∷ 5 ∷ 6 ∷ 7 ∷ 8 ∷ 9 ∷ []
unfolding ◌and◌ ◌or◌ byte_at u16_at u32_at u64_at bytes_of first_from first how_many weighed check_of row fields_of blocks block_at records record_at kind_at type_at a_at b_at c_at word_at place_or nodes has_cell cells_before value_at expr_as below no_expr expr_f expr_at signal_as branches_as cases_as no_signal signal_f signal_at branches_at cases_at root maybe_of is_plain type_of value_from uses_e uses_s let_over tidy_s size_p last_p field_k row_p rows_p row_bytes rows_bytes block_of blocks_from blocks_for table_of order_e order_s present_of word_of place_in part_e part_s new_number written edition_in edition renumbered tidied numbering tidying
unused_tidying = refl

pub chain_tidied : tidied chain ≡ five
unfolding ◌and◌ ◌or◌ byte_at u16_at u32_at u64_at bytes_of first_from first how_many weighed check_of row fields_of blocks block_at records record_at kind_at type_at a_at b_at c_at word_at place_or nodes has_cell cells_before value_at expr_as below no_expr expr_f expr_at signal_as branches_as cases_as no_signal signal_f signal_at branches_at cases_at root maybe_of is_plain type_of value_from uses_e uses_s let_over tidy_s size_p last_p field_k row_p rows_p row_bytes rows_bytes block_of blocks_from blocks_for table_of order_e order_s present_of word_of place_in part_e part_s new_number written edition_in edition renumbered tidied numbering tidying
chain_tidied = refl

pub itself_tidied : tidied itself ≡ five
unfolding ◌and◌ ◌or◌ byte_at u16_at u32_at u64_at bytes_of first_from first how_many weighed check_of row fields_of blocks block_at records record_at kind_at type_at a_at b_at c_at word_at place_or nodes has_cell cells_before value_at expr_as below no_expr expr_f expr_at signal_as branches_as cases_as no_signal signal_f signal_at branches_at cases_at root maybe_of is_plain type_of value_from uses_e uses_s let_over tidy_s size_p last_p field_k row_p rows_p row_bytes rows_bytes block_of blocks_from blocks_for table_of order_e order_s present_of word_of place_in part_e part_s new_number written edition_in edition renumbered tidied numbering tidying
itself_tidied = refl

pub regrouped_tidied : tidied regrouped ≡ regrouped_tidy
unfolding ◌and◌ ◌or◌ byte_at u16_at u32_at u64_at bytes_of first_from first how_many weighed check_of row fields_of blocks block_at records record_at kind_at type_at a_at b_at c_at word_at place_or nodes has_cell cells_before value_at expr_as below no_expr expr_f expr_at signal_as branches_as cases_as no_signal signal_f signal_at branches_at cases_at root maybe_of is_plain type_of value_from uses_e uses_s let_over tidy_s size_p last_p field_k row_p rows_p row_bytes rows_bytes block_of blocks_from blocks_for table_of order_e order_s present_of word_of place_in part_e part_s new_number written edition_in edition renumbered tidied numbering tidying
regrouped_tidied = refl

pub tidied_stays : tidied case_a ≡ case_a
unfolding ◌and◌ ◌or◌ byte_at u16_at u32_at u64_at bytes_of first_from first how_many weighed check_of row fields_of blocks block_at records record_at kind_at type_at a_at b_at c_at word_at place_or nodes has_cell cells_before value_at expr_as below no_expr expr_f expr_at signal_as branches_as cases_as no_signal signal_f signal_at branches_at cases_at root maybe_of is_plain type_of value_from uses_e uses_s let_over tidy_s size_p last_p field_k row_p rows_p row_bytes rows_bytes block_of blocks_from blocks_for table_of order_e order_s present_of word_of place_in part_e part_s new_number written edition_in edition renumbered tidied numbering tidying
tidied_stays = refl
