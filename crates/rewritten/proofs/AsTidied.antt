-- Request m: an accepted program tidied is accepted, is what the rule leaves, answers alike, has no more nodes and no larger bound; and its own
-- pairing has no wrong entry (request n).
-- Assumes nothing.
use Rattle.std.specs.Prelude.{None}
use mathlib.Core.Path.{◌≡◌, refl, sym, ap, ◌∙◌}
use mathlib.Core.List.{List, [], ◌∷◌}
use Prim.Native.Nat.{ℕ, zero, suc, ◌<◌, ◌≤◌}
use native.Mathlib.Omega.{arith}
use lib.ListN.{length, get_or}
use Rattle.rules.specs.Bytes.{Bytes}
use Rattle.rules.specs.Layout.{nodes, type_at, edition, most_nodes, no_next}
use Rattle.rules.specs.Scope.{scope_fault, unmarked, is_offered}
use Rattle.rules.specs.Size.{size_s}
use Rattle.rules.specs.Bound.{bound}
use Rattle.rules.specs.Accepted.{Accepted}
use Rattle.rules.specs.Tree.{root}
use Rattle.rules.proofs.Static.{not_both}
use Rattle.promises.specs.Small.{Small}
use Rattle.dropped.specs.Less.{LessS}
use Rattle.dropped.specs.Rule.{NamedS, Rule, none}
use Rattle.dropped.specs.Tidy.{tidy_s}
use Rattle.dropped.specs.Pairing.{old_of, pairing_fault}
use Rattle.dropped.specs.Answers.{AnswersAlike}
use Rattle.dropped.proofs.OnePass.{tidy_drops, drops_smaller}
use Rattle.dropped.proofs.RuleLess.{rule_less}
use Rattle.dropped.proofs.StillAccepted.{rule_accepted}
use Rattle.dropped.proofs.NoLarger.{no_larger}
use Rattle.dropped.proofs.SameRuns.{answers_alike}
use Rattle.dropped.proofs.Exactly.{paired_exactly}
use Rattle.written.specs.Order.{order_s, In}
use Rattle.written.specs.Right.{Sound}
use Rattle.written.proofs.Places.{entry, order_s_length}
use Rattle.written.proofs.Counted.{sum_s, is, root_once}
use Rattle.written.proofs.Scoped.{none_marked}
use Rattle.written.proofs.Sounded.{accepted_sound, sound_nodes, sound_edition, sound_formed, sound_shaped}
use Rattle.written.proofs.Bytewise.{written_small}
use Rattle.rewritten.specs.Rewritten.{renumbered, tidied, numbering, tidying}
use Rattle.rewritten.proofs.Whole.{written_paired, written_within, written_injective}
use Rattle.rewritten.proofs.StillSound.{tidy_got, tidy_sum, tidy_each}
use Rattle.rewritten.proofs.Renumbered.{known, renumbered_accepted}

-- Inside the list the two ways to look up an entry agree.
old_entry : (xs : List ℕ) (i : ℕ) → i < length xs → entry xs i ≡ old_of xs i
unfolding entry old_of
old_entry [] i h = absurd (omega arith)
old_entry (x ∷ xs) zero h = refl
old_entry (x ∷ xs) (suc i) h = old_entry xs i (omega arith)

module _ (p : Bytes) (small : Small p) (a : Accepted p) where
  pub tidied_sound : Sound (type_at p) (tidy_s (root p))
  unfolding scope_fault is_offered
  tidied_sound =
      let s = accepted_sound p a small.small in
      record {
        few = omega (arith, drops_smaller (tidy_drops (root p)), s.few);
        right = λ φ h. (tidy_got φ (type_at p) (root p) (s.right φ h, s.types, s.knows)).0;
        types = (tidy_got (λ b. 0) (type_at p) (root p) (s.right (λ b. 0) (λ b. omega arith), s.types, s.knows)).1;
        knows = (tidy_got (λ b. 0) (type_at p) (root p) (s.right (λ b. 0) (λ b. omega arith), s.types, s.knows)).2;
        named =
            tidy_each (λ b. In b (order_s (tidy_s (root p)))) (root p) (edition p) (unmarked most_nodes) [] a.scope_right (λ x e. absurd (not_both e))
            (λ x i. i) (λ x u i. absurd (none_marked most_nodes x i));
      }

  pub once : (x : ℕ) → sum_s (tidy_s (root p)) (is x) ≤ 1
  once x = omega (arith, tidy_sum (is x) (root p), root_once p a x)

  -- The new tree is the tidied one but for its numbers; so the rule holds, by the pairing in which it was written.
  pub tidied_named : NamedS (old_of (tidying p)) (tidy_s (root p)) (root (tidied p))
  unfolding tidied tidying
  tidied_named =
      written_paired (type_at p) (tidy_s (root p)) tidied_sound (edition p) (old_of (order_s (tidy_s (root p))))
      (λ i h. old_entry (order_s (tidy_s (root p))) i (omega (arith, order_s_length (tidy_s (root p)))))

  pub tidied_rule : Rule p (tidied p) (old_of (tidying p))
  tidied_rule = record { between = tidy_s (root p); drops = tidy_drops (root p); named = tidied_named }

  rule_entry : Rule p (tidied p) (entry (tidying p))
  unfolding tidied tidying
  rule_entry = record {
    between = tidy_s (root p);
    drops = tidy_drops (root p);
    named = written_paired (type_at p) (tidy_s (root p)) tidied_sound (edition p) (entry (order_s (tidy_s (root p)))) (λ i h. refl);
  }

  pub tidied_edition : edition (tidied p) ≡ edition p
  unfolding tidied
  tidied_edition = sound_edition (type_at p) (tidy_s (root p)) tidied_sound (edition p)

  pub tidied_accepted : Accepted (tidied p)
  unfolding tidied tidying
  tidied_accepted =
      rule_accepted p (tidied p) (entry (tidying p)) tidied_edition a
      (sound_formed (type_at p) (tidy_s (root p)) tidied_sound (edition p) (known p a))
      (sound_shaped (type_at p) (tidy_s (root p)) tidied_sound (edition p))
      (size_s (tidy_s (root p))) tidied_sound.few
      (written_within (type_at p) (tidy_s (root p)) tidied_sound (edition p))
      (written_injective (type_at p) (tidy_s (root p)) tidied_sound once)
      rule_entry

  pub tidied_less : LessS (old_of (tidying p)) (root p) (root (tidied p))
  tidied_less = rule_less p (tidied p) (old_of (tidying p)) tidied_rule

  pub tidied_no_larger : (nodes (tidied p) ≤ nodes p) × (bound (tidied p) ≤ bound p)
  tidied_no_larger = no_larger p (tidied p) a tidied_accepted tidied_less

  pub tidied_small : Small (tidied p)
  unfolding tidied
  tidied_small = record { small = written_small (type_at p) (tidy_s (root p)) tidied_sound (edition p) (omega (arith, known p a)) }

  pub tidied_alike : AnswersAlike p (tidied p)
  tidied_alike = answers_alike p (tidied p) small tidied_small a tidied_accepted tidied_less

  -- Its own pairing has one entry for each new node, and none is wrong.
  pub tidied_entries : length (tidying p) ≡ nodes (tidied p)
  unfolding tidied tidying
  tidied_entries = order_s_length (tidy_s (root p)) ∙ sym (sound_nodes (type_at p) (tidy_s (root p)) tidied_sound (edition p))

  pub tidied_paired : pairing_fault p (tidied p) (tidying p) ≡ None
  tidied_paired = (paired_exactly p (tidied p) (tidying p) a tidied_accepted).if₀ tidied_rule

  -- The same for a renumbered program: nothing is dropped.
  pub renumbered_rule : Rule p (renumbered p) (old_of (numbering p))
  unfolding renumbered numbering
  renumbered_rule = record {
    between = root p;
    drops = none;
    named =
        written_paired (type_at p) (root p) (accepted_sound p a small.small) (edition p) (old_of (order_s (root p)))
        (λ i h. old_entry (order_s (root p)) i (omega (arith, order_s_length (root p))));
  }

  pub renumbered_paired : pairing_fault p (renumbered p) (numbering p) ≡ None
  renumbered_paired = (paired_exactly p (renumbered p) (numbering p) a (renumbered_accepted p small a)).if₀ renumbered_rule
