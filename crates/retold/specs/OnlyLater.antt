-- "Text that is no program gets a position; the rest goes to the check": what a text that is read gives passes codes 1-5, so that of document 01's
-- codes only 6, 7 and 8 can follow.
-- Assumes nothing: these are definitions.
use Rattle.std.specs.Prelude.{ℕ, ◌≤◌, ◌≡◌, length, Err, None}
use Rattle.rules.specs.Bytes.{Bytes, first}
use Rattle.rules.specs.Layout.{nodes}
use Rattle.rules.specs.Shape.{shape_wrong}
use Rattle.rules.specs.Answers.{code_of}
use Rattle.rules.specs.Accepted.{Formed}
use Rattle.rules.specs.declared.Refusal.{Refusal}
use Rattle.texts.specs.Rows.{Sofar}
use Rattle.texts.specs.Resolved.{blocks_of}
use Rattle.texts.specs.Calls.{read_call}
use Rattle.texts.specs.declared.NoTable.{NoTable}

-- Blocks, sums, records and shape are right, and there is a node for each row.
pub record WellMade (text : Bytes) (e : ℕ) (so : Sofar) : Type 0 where
  pub formed : Formed (blocks_of e so.rows)
  pub shaped : first (shape_wrong (blocks_of e so.rows)) (nodes (blocks_of e so.rows)) ≡ None
  pub count : nodes (blocks_of e so.rows) ≡ length so.rows
  pub long : length (blocks_of e so.rows) ≤ 12288

abbrev pub OnlyLater : Bytes → Bytes → Type 0
OnlyLater text room = (r : Refusal) → (read_call text room).answer ≡ Err (NoTable.Refused r) → (6 ≤ code_of r) × (code_of r ≤ 8)
