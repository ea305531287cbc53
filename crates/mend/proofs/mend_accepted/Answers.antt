use Rattle.std.proofs.lemmas.Result.{err_from_is_err_and}
use Rattle.starting.proofs.StartLaws.{counted, all_cells}
use Rattle.mend.proofs.CallLaws.{checks_fit, leaves_state}
use Rattle.mends.proofs.CallLaws.{known_long, state_known}
use Rattle.rules.proofs.Rooted.{root_of, shaped_of}
use Rattle.rules.specs.Bytes.{byte_at}
use lib.ListN.{length-replicate}
use native.Mathlib.Omega.{arith}
use mathlib.Core.Path.{sym, ◌∙◌}
use Rattle.mend.proofs.mend_accepted.Goals as goal

pub index_cells-held-requires : goal.index_cells-held-requires
index_cells-held-requires c = let k = counted _ _ c.requires.0 c.requires.1 in (k.shaped, k.listed, c.requires.1, rw (length-replicate) (omega (arith, k.most)))

pub known_verdict-requires : goal.known_verdict-requires
unfolding byte_at
known_verdict-requires c = (
  shaped_of _ c.requires.0,
  c.index_cells-held.ensures.1 ∙ all_cells _ _ c.requires.1,
  checks_fit _ (record { small = λ i. omega (arith, c.type_inv.p i) }) c.requires.0,
)

pub mend_known-requires : goal.mend_known-requires
mend_known-requires c = (
  root_of _ c.requires.0,
  c.index_cells-held.ensures.0,
  c.requires.1,
  c.index_cells-held.ensures.1 ∙ all_cells _ _ c.requires.1,
  known_long _ _ (sym c.known_verdict.ensures ∙ c.in_ok-known_verdict.was),
)

pub returns-in_err-known_verdict : goal.returns-in_err-known_verdict
returns-in_err-known_verdict c =
    let p = err_from_is_err_and c.from_residual.result c.from_residual.ensures.1 in
    rw (p.1, p.2) (leaves_state _ _ _ _ (sym c.known_verdict.ensures ∙ c.in_err-known_verdict.was))

pub returns : goal.returns
returns c = rw (state_known _ _ _ (sym c.known_verdict.ensures ∙ c.in_ok-known_verdict.was)) c.mend_known.ensures
