-- A tree written reads back: format and shape are right, and its tree is that tree with its numbers by place.
-- Assumes nothing.
use Rattle.std.specs.Prelude.{None}
use mathlib.Core.Path.{◌≡◌, refl, sym, ap, ◌∙◌}
use mathlib.Core.Bool.{Bool, true, false}
use Prim.Native.Nat.{ℕ, zero, suc, ◌+◌, ◌-◌, ◌<◌, ◌≤◌}
use native.Mathlib.Omega.{arith}
use Rattle.rules.specs.Bytes.{Bytes, first}
use Rattle.rules.specs.Layout.{nodes, type_at, edition}
use Rattle.rules.specs.Shape.{shape_wrong}
use Rattle.rules.specs.Accepted.{Formed}
use Rattle.rules.specs.Size.{size_s}
use Rattle.rules.specs.Tree.{Signal, signal_at, root}
use Rattle.written.specs.Parts.{size_p, last_p}
use Rattle.written.specs.Table.{table_of}
use Rattle.written.specs.Written.{part_s, new_number, written, placed_s, renamed}
use Rattle.written.specs.Right.{RightS, KnowsS, HoldsP}
use Rattle.written.proofs.Rows.{last_size}
use Rattle.written.proofs.Tabled.{table_held, nodes_is, edition_is, table_formed, table_shaped}
use Rattle.written.proofs.Parted.{part_s_right, part_s_size}
use Rattle.written.proofs.Decoded.{signal_read}

module _ (e₀ : ℕ) (s : Signal) (right : RightS s (new_number s)) (few : size_s s ≤ 1008) where
  -- The table holds the tree's records.
  pub written_held : HoldsP (part_s s (new_number s)) (written e₀ s) 0
  unfolding written
  written_held = table_held e₀ (part_s s (new_number s)) (part_s_right s (new_number s) right).right (omega (arith, part_s_size s (new_number s)))

  -- N is the size of the tree.
  pub written_nodes : nodes (written e₀ s) ≡ size_s s
  unfolding written
  written_nodes =
      nodes_is e₀ (part_s s (new_number s)) (part_s_right s (new_number s) right).right (omega (arith, part_s_size s (new_number s)))
      ∙ part_s_size s (new_number s)

  -- Its edition is the one asked for.
  pub written_edition : edition (written e₀ s) ≡ e₀
  unfolding written
  written_edition = edition_is e₀ (part_s s (new_number s)) (part_s_right s (new_number s) right).right (omega (arith, part_s_size s (new_number s)))

  -- Codes 1-4 do not occur, in either edition.
  pub written_formed : e₀ ≤ 1 → Formed (written e₀ s)
  unfolding written
  written_formed e =
      table_formed e₀ (part_s s (new_number s)) (part_s_right s (new_number s) right).right (omega (arith, part_s_size s (new_number s))) e

  -- Code 5 does not occur.
  pub written_shaped : first (shape_wrong (written e₀ s)) (nodes (written e₀ s)) ≡ None
  unfolding written
  written_shaped =
      table_shaped e₀ (part_s s (new_number s)) (part_s_right s (new_number s) right).right (omega (arith, part_s_size s (new_number s)))
      (part_s_right s (new_number s) right).sorted

  -- The tree of the table.
  pub written_root : KnowsS s (λ b. type_at (written e₀ s) (new_number s b)) → root (written e₀ s) ≡ renamed e₀ s
  unfolding root renamed
  written_root k =
      let z : nodes (written e₀ s) - 1 ≡ last_p 0 (part_s s (new_number s))
      = omega (arith, written_nodes, part_s_size s (new_number s), last_size 0 (part_s s (new_number s))) in
      ap (signal_at (written e₀ s)) z
      ∙ signal_read (written e₀ s) (new_number s) s 0 written_held right k (omega (arith, part_s_size s (new_number s)))
