-- A sound tree written reads back; and the tree of an accepted program is sound.
-- Assumes nothing.
use Rattle.std.specs.Prelude.{None}
use mathlib.Core.Path.{◌≡◌, refl, sym, ap, ◌∙◌}
use mathlib.Core.List.{[]}
use Prim.Native.Nat.{ℕ, zero, suc, ◌+◌, ◌-◌, ◌<◌, ◌≤◌}
use native.Mathlib.Omega.{arith}
use lib.ListN.{length}
use Rattle.rules.specs.Bytes.{Bytes, first}
use Rattle.rules.specs.Layout.{nodes, type_at, edition, most_nodes}
use Rattle.rules.specs.Shape.{shape_wrong}
use Rattle.rules.specs.Scope.{scope_s, scope_fault, unmarked}
use Rattle.rules.specs.Size.{size_s}
use Rattle.rules.specs.Accepted.{Formed, Accepted}
use Rattle.rules.specs.Tree.{Signal, signal_at, root}
use Rattle.rules.proofs.Rooted.{some_node, root_of}
use Rattle.rules.proofs.Once.{tree_small}
use Rattle.written.specs.Order.{order_s, In}
use Rattle.written.specs.Written.{new_number, part_s, written, renamed}
use Rattle.written.specs.Right.{RightS, KnowsS, TypesS, EachS, Sound}
use Rattle.written.proofs.ListLaws.{Small}
use Rattle.written.proofs.Places.{entry, Along, Placed, in_placed, place_most, order_s_length}
use Rattle.written.proofs.Typed.{Typed, typed_s, each_knows, each_map}
use Rattle.written.proofs.FromTable.{signal_right}
use Rattle.written.proofs.Scoped.{named_inside}
use Rattle.written.proofs.Read.{written_held, written_nodes, written_edition, written_formed, written_shaped, written_root}

module _ (τ : ℕ → ℕ) (s : Signal) (sound : Sound τ s) where
  -- New numbers fit.
  number_fits : (b : ℕ) → new_number s b < 65536
  unfolding new_number
  number_fits b = omega (arith, place_most (order_s s) b, order_s_length s, sound.few)

  pub sound_right : RightS s (new_number s)
  sound_right = sound.right (new_number s) number_fits

  -- A new number is a place of the tree, and the old number stands there.
  pub new_number_lem : (b : ℕ) → In b (order_s s) → (new_number s b < size_s s) × (entry (order_s s) (new_number s b) ≡ b)
  unfolding new_number
  new_number_lem b i =
      let p = in_placed (order_s s) b i in
      (omega (arith, p.inside, order_s_length s), p.found)

  module _ (e₀ : ℕ) where
    -- Codes 1-5 do not occur, and N is the size of the tree.
    pub sound_nodes : nodes (written e₀ s) ≡ size_s s
    sound_nodes = written_nodes e₀ s sound_right sound.few

    pub sound_edition : edition (written e₀ s) ≡ e₀
    sound_edition = written_edition e₀ s sound_right sound.few

    pub sound_formed : e₀ ≤ 1 → Formed (written e₀ s)
    sound_formed = written_formed e₀ s sound_right sound.few

    pub sound_shaped : first (shape_wrong (written e₀ s)) (nodes (written e₀ s)) ≡ None
    sound_shaped = written_shaped e₀ s sound_right sound.few

    -- The type byte of a new number is that of the old one.
    type_there : (b : ℕ) → In b (order_s s) → type_at (written e₀ s) (new_number s b) ≡ τ b
    unfolding Typed Along
    type_there b i =
        let p = new_number_lem b i in
        let h = typed_s (written e₀ s) (new_number s) τ s 0 (written_held e₀ s sound_right sound.few) sound.types (new_number s b) (omega (arith, p.0, order_s_length s)) in
        ap (type_at (written e₀ s)) (let z : new_number s b ≡ 0 + new_number s b = omega arith in z) ∙ h ∙ ap τ p.1

    pub sound_knows : KnowsS s (λ b. type_at (written e₀ s) (new_number s b))
    sound_knows =
        each_knows τ (λ b. type_at (written e₀ s) (new_number s b)) s
        (each_map (λ b. In b (order_s s)) (λ b. type_at (written e₀ s) (new_number s b) ≡ τ b) type_there s sound.named) sound.knows

    -- The tree of the table.
    pub sound_root : root (written e₀ s) ≡ renamed e₀ s
    sound_root = written_root e₀ s sound_right sound.few sound_knows

-- The tree of an accepted program is sound.
pub accepted_sound : (p : Bytes) → Accepted p → Small p → Sound (type_at p) (root p)
unfolding root scope_fault
accepted_sound p a small = record {
  few = tree_small p a.formed.length_right a.shape_right (some_node p a.formed);
  right = λ φ h. (signal_right p a.formed small φ h (nodes p - 1) (root_of p a)).0;
  types = (signal_right p a.formed small (λ b. 0) (λ b. omega arith) (nodes p - 1) (root_of p a)).1;
  knows = (signal_right p a.formed small (λ b. 0) (λ b. omega arith) (nodes p - 1) (root_of p a)).2;
  named = named_inside (edition p) (root p) a.scope_right;
}
