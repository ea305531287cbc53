-- Request b: an accepted program renumbered is accepted, is the same tree but for its numbers, and answers alike.
-- Assumes nothing.
use mathlib.Core.Path.{◌≡◌, refl, sym, ap, ◌∙◌}
use Prim.Native.Nat.{ℕ, ◌<◌, ◌≤◌}
use native.Mathlib.Omega.{arith}
use Rattle.rules.specs.Bytes.{Bytes}
use Rattle.rules.specs.Layout.{blocks, nodes, type_at, edition}
use Rattle.rules.specs.Scope.{scope_fault}
use Rattle.rules.specs.Typing.{type_fault}
use Rattle.rules.specs.Ready.{ready_fault}
use Rattle.rules.specs.Size.{size_s}
use Rattle.rules.specs.Accepted.{Accepted}
use Rattle.rules.specs.Tree.{root}
use Rattle.promises.specs.Small.{Small}
use Rattle.declarative.proofs.EachRecord.{each_format}
use Rattle.dropped.specs.Less.{LessS}
use Rattle.dropped.specs.Rule.{NamedS}
use Rattle.dropped.specs.Answers.{AnswersAlike}
use Rattle.dropped.proofs.SameRuns.{answers_alike}
use Rattle.written.specs.Order.{order_s}
use Rattle.written.specs.Written.{written, renamed}
use Rattle.written.proofs.Places.{entry}
use Rattle.written.proofs.Counted.{root_once}
use Rattle.written.proofs.Sounded.{accepted_sound, sound_nodes, sound_edition, sound_root}
use Rattle.written.proofs.Bytewise.{written_small}
use Rattle.written.proofs.Again.{written_again}
use Rattle.rewritten.specs.Rewritten.{renumbered, numbering}
use Rattle.rewritten.proofs.Whole.{written_named, written_less, written_accepted}

-- The edition of an accepted program is 0 or 1.
pub known : (p : Bytes) → Accepted p → edition p ≤ 1
unfolding edition blocks
known p a =
    let f = each_format p a.formed in
    (f.each_number 0 (omega (arith, f.whole.least, f.whole.long))).known_edition

module _ (p : Bytes) (small : Small p) (a : Accepted p) where
  pub renumbered_accepted : Accepted (renumbered p)
  unfolding renumbered scope_fault type_fault ready_fault
  renumbered_accepted =
      written_accepted (type_at p) (root p) (accepted_sound p a small.small) (root_once p a) (edition p) (known p a) a.scope_right a.types_right a.ready_right

  -- Its tree: nodes, binders and targets by place, cells as the table counts them.
  pub renumbered_tree : root (renumbered p) ≡ renamed (edition p) (root p)
  unfolding renumbered
  renumbered_tree = sound_root (type_at p) (root p) (accepted_sound p a small.small) (edition p)

  pub renumbered_named : NamedS (entry (numbering p)) (root p) (root (renumbered p))
  unfolding renumbered numbering
  renumbered_named = written_named (type_at p) (root p) (accepted_sound p a small.small) (edition p)

  pub renumbered_less : LessS (entry (numbering p)) (root p) (root (renumbered p))
  unfolding renumbered numbering
  renumbered_less = written_less (type_at p) (root p) (accepted_sound p a small.small) (edition p)

  pub renumbered_small : Small (renumbered p)
  unfolding renumbered
  renumbered_small = record { small = written_small (type_at p) (root p) (accepted_sound p a small.small) (edition p) (omega (arith, known p a)) }

  pub renumbered_alike : AnswersAlike p (renumbered p)
  renumbered_alike = answers_alike p (renumbered p) small renumbered_small a renumbered_accepted renumbered_less

  -- Renumbered twice is renumbered once, byte for byte.
  pub renumbered_edition : edition (renumbered p) ≡ edition p
  unfolding renumbered
  renumbered_edition = sound_edition (type_at p) (root p) (accepted_sound p a small.small) (edition p)

  pub renumbered_again : renumbered (renumbered p) ≡ renumbered p
  unfolding renumbered
  renumbered_again =
      ap (λ (e : ℕ). written e (root (written (edition p) (root p)))) renumbered_edition
      ∙ written_again (type_at p) (root p) (accepted_sound p a small.small) (edition p)
