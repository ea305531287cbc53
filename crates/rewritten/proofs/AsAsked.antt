-- A tidied program is what request m asks for.
-- Assumes nothing.
use mathlib.Core.Path.{◌≡◌, refl, sym, ap, ◌∙◌, subst}
use Prim.Native.Nat.{ℕ}
use Rattle.rules.specs.Bytes.{Bytes}
use Rattle.rules.specs.Accepted.{Accepted}
use Rattle.rules.specs.Tree.{Signal, root}
use Rattle.promises.specs.Small.{Small}
use Rattle.dropped.specs.Rule.{NamedS, Tidy}
use Rattle.dropped.specs.Pairing.{old_of}
use Rattle.dropped.specs.Tidy.{tidy_s}
use Rattle.dropped.proofs.OnePass.{one_pass, tidy_left}
use Rattle.rewritten.specs.Rewritten.{tidied, tidying}
use Rattle.rewritten.specs.Tidies.{Tidies}
use Rattle.rewritten.proofs.AsTidied.{tidied_named, tidied_edition, tidied_accepted, tidied_alike, tidied_no_larger, tidied_entries, tidied_paired}
use Rattle.rewritten.proofs.TidyAgain.{tidied_tree}

pub as_asked : (p : Bytes) → Small p → Accepted p → Tidies p (tidied p) (tidying p)
as_asked p small a = record {
  any_order = λ s d t. subst (λ (r : Signal). NamedS (old_of (tidying p)) r (root (tidied p))) (sym (one_pass d t)) (tidied_named p small a);
  none_left = subst Tidy (tidied_tree p small a) (tidy_left (root (tidied p)));
  accepted = tidied_accepted p small a;
  one_edition = tidied_edition p small a;
  alike = tidied_alike p small a;
  no_larger = tidied_no_larger p small a;
  entries = tidied_entries p small a;
  paired = tidied_paired p small a;
}
