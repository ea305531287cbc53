-- The rows hold, by computation.
-- Assumes nothing.
use mathlib.Core.Path.{◌≡◌, refl}
use Rattle.rules.specs.Bytes.{◌and◌, ◌or◌, byte_at, u16_at, bytes_of}
use Rattle.rules.specs.Format.{weighed, check_of}
use Rattle.rules.specs.Layout.{block_at, record_at, kind_at, a_at, b_at, c_at}
use Rattle.rules.specs.Kinds.{row, fields_of}
use Rattle.rules.specs.Shape.{is_child}
use Rattle.rules.specs.Tree.{below}
use Rattle.chains.specs.Chain.{field_at, enters, is_use, ◌or_else◌, under, via, chain_as, chain_f, chain, chain_of}
use Rattle.chains.specs.Rows.{chains, expected}

pub rows_hold : chains ≡ expected
unfolding ◌and◌ ◌or◌ byte_at u16_at bytes_of weighed check_of block_at record_at kind_at a_at b_at c_at row fields_of is_child below field_at enters is_use ◌or_else◌ under via chain_as chain_f chain chain_of
rows_hold = refl
