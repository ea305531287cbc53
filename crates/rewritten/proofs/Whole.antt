-- A sound tree that is in scope, typed and ready, written: accepted, and paired with the tree by the order in which it was written.
-- Assumes nothing.
use Rattle.std.specs.Prelude.{None}
use mathlib.Core.Path.{◌≡◌, refl, sym, ap, ◌∙◌, subst}
use mathlib.Core.List.{[]}
use Prim.Native.Nat.{ℕ, zero, suc, ◌+◌, ◌-◌, ◌<◌, ◌≤◌}
use native.Mathlib.Omega.{arith}
use lib.ListN.{length, length-replicate}
use Rattle.rules.specs.Bytes.{Bytes}
use Rattle.rules.specs.Layout.{nodes, type_at, cells_before, most_nodes}
use Rattle.rules.specs.Scope.{scope_s, scope_fault, unmarked, is_offered}
use Rattle.rules.specs.Typing.{types_s, type_fault}
use Rattle.rules.specs.Ready.{ready_s, ready_fault}
use Rattle.rules.specs.Size.{size_s}
use Rattle.rules.specs.Accepted.{Formed, Accepted}
use Rattle.rules.specs.Tree.{Signal, root}
use Rattle.dropped.specs.Less.{LessS}
use Rattle.dropped.specs.Apart.{WithinS, UnusedS}
use Rattle.dropped.specs.Rule.{NamedS}
use Rattle.dropped.proofs.RuleLess.{named_less}
use Rattle.dropped.proofs.StillTyped.{types_still, ready_still}
use Rattle.dropped.proofs.StillScoped.{scope_still}
use Rattle.dropped.proofs.StillAccepted.{named_unused}
use Rattle.written.specs.Order.{order_s, In}
use Rattle.written.specs.Written.{new_number, written, renamed}
use Rattle.written.specs.Right.{EachS, Sound}
use Rattle.written.proofs.Places.{entry, Along, order_s_length}
use Rattle.written.proofs.Typed.{each_map}
use Rattle.written.proofs.Counted.{sum_s, sum_l, is, order_sum, entry_once}
use Rattle.written.proofs.Scoped.{none_marked}
use Rattle.written.proofs.Sounded.{new_number_lem, sound_nodes, sound_edition, sound_formed, sound_shaped, sound_root}
use Rattle.rewritten.proofs.Named.{named, within}

module _ (τ : ℕ → ℕ) (s : Signal) (sound : Sound τ s) where
  -- For each new node, its old one.
  abbrev π : ℕ → ℕ
  π = entry (order_s s)

  -- The new tree is the old one but for its numbers; by any pairing that has the old numbers at their places.
  pub written_paired : (e₀ : ℕ) (ρ : ℕ → ℕ) → ((i : ℕ) → i < size_s s → π i ≡ ρ i) → NamedS ρ s (root (written e₀ s))
  unfolding renamed Along
  written_paired e₀ ρ f =
      subst (NamedS ρ s) (sym (sound_root τ s sound e₀))
      (named ρ (new_number s) (cells_before (written e₀ s)) s 0
      (λ i h. f i (omega (arith, order_s_length s)) ∙ ap ρ (let z : i ≡ 0 + i = omega arith in z))
      (each_map (λ b. In b (order_s s)) (λ b. b ≡ ρ (new_number s b))
      (λ b i. let n = new_number_lem τ s sound b i in sym n.1 ∙ f (new_number s b) n.0) s sound.named))

  pub written_named : (e₀ : ℕ) → NamedS π s (root (written e₀ s))
  written_named e₀ = written_paired e₀ π (λ i h. refl)

  pub written_less : (e₀ : ℕ) → LessS π s (root (written e₀ s))
  written_less e₀ = named_less (written_named e₀)

  -- All new numbers are below N.
  pub written_within : (e₀ : ℕ) → WithinS (size_s s) (root (written e₀ s))
  unfolding renamed
  written_within e₀ =
      subst (WithinS (size_s s)) (sym (sound_root τ s sound e₀))
      (within (new_number s) (cells_before (written e₀ s)) (size_s s) s 0 (omega arith)
      (each_map (λ b. In b (order_s s)) (λ b. new_number s b < size_s s) (λ b i. (new_number_lem τ s sound b i).0) s sound.named))

  module _ (once : (x : ℕ) → sum_s s (is x) ≤ 1) where
    -- No two new nodes are paired with one.
    pub written_injective : (i j : ℕ) → i < size_s s → j < size_s s → π i ≡ π j → i ≡ j
    written_injective i j h g e =
        entry_once (order_s s) (λ x. omega (arith, once x, order_sum (is x) s)) i j (omega (arith, order_s_length s)) (omega (arith, order_s_length s)) e

    -- Accepted, in either edition.
    pub written_accepted : (e₀ : ℕ) → e₀ ≤ 1 → scope_s e₀ (unmarked most_nodes) [] s ≡ None → types_s s ≡ None → ready_s s ≡ None
        → Accepted (written e₀ s)
    unfolding scope_fault type_fault ready_fault unmarked is_offered
    written_accepted e₀ l sc ty re = record {
      formed = sound_formed τ s sound e₀ l;
      shape_right = sound_shaped τ s sound e₀;
      scope_right =
          ap (λ (e : ℕ). scope_s e (unmarked most_nodes) [] (root (written e₀ s))) (sound_edition τ s sound e₀)
          ∙ scope_still e₀ (size_s s) written_injective (named_less (written_named e₀)) (named_unused (written_named e₀)) (written_within e₀) (unmarked most_nodes) (unmarked most_nodes)
          (let e = length-replicate {A = ℕ} most_nodes 0 in omega (arith, sound.few)) [] [] (λ y l u i. absurd (none_marked most_nodes (π y) i)) (λ k l i. i) sc;
      types_right = types_still (written_less e₀) ty;
      ready_right = ready_still (written_less e₀) re;
    }
