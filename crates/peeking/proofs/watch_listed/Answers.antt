use Rattle.std.proofs.lemmas.Result.{err_from_is_err_and}
use mathlib.Core.Path.{refl, sym, ◌∙◌}
use native.Mathlib.Omega.{arith}
use lib.ListN.{length-replicate}
use Rattle.rules.specs.Evaluate.{unbound}
use Rattle.rules.specs.Bytes.{byte_at}
use Rattle.rules.proofs.Rooted.{root_of}
use Rattle.peeking.proofs.CallLaws.{lent_fine, room_lent, listed_run}
use Rattle.watch.proofs.Calling.{checks_fit, run_lent}
use Rattle.starting.proofs.StartLaws.{counted, all_cells}
use Rattle.peeking.proofs.watch_listed.Goals as goal

pub index_cells-held-requires : goal.index_cells-held-requires
index_cells-held-requires c = let k = counted _ _ c.requires.0 c.requires.1 in (k.shaped, k.listed, c.requires.1, rw (length-replicate) (omega (arith, k.most)))

pub lent_verdict-requires : goal.lent_verdict-requires
unfolding byte_at
lent_verdict-requires c = let pre = c.requires in
    let indexed = c.index_cells-held.ensures in (
      root_of _ pre.0,
      indexed.0,
      pre.1,
      indexed.1 ∙ all_cells _ _ pre.1,
      checks_fit _ (record { small = λ i. omega (arith, c.type_inv.p i) }) pre.0,
      pre.2,
    )

pub watch_records-requires : goal.watch_records-requires
unfolding unbound
watch_records-requires c = let f = lent_fine _ _ _ _ _ _ (sym c.lent_verdict.ensures ∙ c.in_ok-lent_verdict.was) in
    (record { accepted = c.requires.0; indexed = c.index_cells-held.ensures.0; counted = c.requires.1; well = f.well; blank = refl }, f.most, f.output, c.requires.2, f.second)

pub returns-in_err-lent_verdict : goal.returns-in_err-lent_verdict
returns-in_err-lent_verdict c =
    let p = err_from_is_err_and c.from_residual.result c.from_residual.ensures.1 in
    let e = sym c.lent_verdict.ensures ∙ c.in_err-lent_verdict.was in
    rw (p.1, p.2) (run_lent _ _ _ _ _ e, room_lent _ _ _ _ _ _ e)

pub returns : goal.returns
returns c = listed_run _ _ _ _ _ _ _ (sym c.lent_verdict.ensures ∙ c.in_ok-lent_verdict.was) c.watch_records.ensures.0 c.watch_records.ensures.1
