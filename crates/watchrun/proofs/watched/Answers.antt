use mathlib.Core.Path.{sym, ◌∙◌}
use Rattle.promises.proofs.Promises.{answered}
use Rattle.watchrun.proofs.watched.Goals as goal

pub accepted-requires : goal.accepted-requires
accepted-requires g c = let a = answered _ _ _ _ _ (sym c.check-found.ensures ∙ c.in-Ok.is) in
    (a.accepts, a.count_is, a.cells_is, c.requires)
