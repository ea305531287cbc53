-- m)'s own work, paired as it renumbered, is accepted by n)'s call: for every accepted program, in its own edition.
-- Assumes nothing.
use Rattle.std.specs.Prelude.{Ok}
use mathlib.Core.Path.{◌≡◌, sym}
use Rattle.rules.specs.Bytes.{Bytes}
use Rattle.rules.specs.Accepted.{Accepted}
use Rattle.promises.specs.Small.{Small}
use Rattle.dropped.specs.PairedCall.{paired_call}
use Rattle.dropped.proofs.OneAnswer.{good_accepted}
use Rattle.rewritten.specs.Rewritten.{tidied, tidying}
use Rattle.rewritten.proofs.AsTidied.{tidied_rule, tidied_edition, tidied_accepted, tidied_entries}

pub own_work_accepted : (p : Bytes) → Small p → Accepted p → paired_call p (tidied p) (tidying p) ≡ Ok tt
own_work_accepted p small a = good_accepted p (tidied p) (tidying p) (record {
  fit = record {
    old_accepted = a;
    new_accepted = tidied_accepted p small a;
    one_edition = sym (tidied_edition p small a);
    long = tidied_entries p small a;
  };
  rule = tidied_rule p small a;
})
