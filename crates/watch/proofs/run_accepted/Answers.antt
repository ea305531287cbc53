use Rattle.std.proofs.lemmas.Result.{err_from_is_err_and}
use Rattle.starting.proofs.StartLaws.{counted, all_cells}
use Rattle.watch.proofs.Calling.{checks_fit, lent_fine, fits_most, run_lent, run_went}
use Rattle.noted.proofs.FillLaws.{noted_fresh}
use Rattle.rules.proofs.Rooted.{root_of}
use Rattle.rules.specs.Bytes.{byte_at}
use Rattle.rules.specs.Evaluate.{unbound}
use Rattle.watch.specs.Lent.{lent_rest}
use lib.ListN.{length-replicate}
use native.Mathlib.Omega.{arith}
use mathlib.Core.Path.{refl, sym, ap, ◌∙◌}
use Rattle.watch.proofs.run_accepted.Goals as goal

pub index_cells-held-requires : goal.index_cells-held-requires
index_cells-held-requires c = let k = counted _ _ c.requires.0 c.requires.1 in (k.shaped, k.listed, c.requires.1, rw (length-replicate) (omega (arith, k.most)))

pub lent_verdict-requires : goal.lent_verdict-requires
unfolding byte_at
lent_verdict-requires c = let indexed = c.index_cells-held.ensures in
    let pre = c.requires in (
      root_of _ pre.0,
      indexed.0,
      pre.1,
      indexed.1 ∙ all_cells _ _ pre.1,
      checks_fit _ (record { small = λ i. omega (arith, c.type_inv.p i) }) pre.0,
    )

pub run_records-requires : goal.run_records-requires
unfolding unbound
run_records-requires c = let f = lent_fine _ _ _ _ _ (sym c.lent_verdict.ensures ∙ c.in_ok-lent_verdict.was) in (record { accepted = c.requires.0; indexed = c.index_cells-held.ensures.0; counted = c.requires.1; well = f.well; blank = refl }, fits_most _ (sym c.run_fits-fit.ensures ∙ f.fitting), f.room, noted_fresh _)

pub returns-in_err-lent_verdict : goal.returns-in_err-lent_verdict
returns-in_err-lent_verdict c =
    let p = err_from_is_err_and c.from_residual.result c.from_residual.ensures.1 in
    rw (p.1, p.2)
    (run_lent _ _ _ _ _ (ap (lent_rest _ _ _ _) (sym c.run_fits-fit.ensures) ∙ sym c.lent_verdict.ensures ∙ c.in_err-lent_verdict.was))

pub returns : goal.returns
returns c = run_went _ _ _ _ _ (ap (lent_rest _ _ _ _) (sym c.run_fits-fit.ensures) ∙ sym c.lent_verdict.ensures ∙ c.in_ok-lent_verdict.was) c.run_records.ensures.0
